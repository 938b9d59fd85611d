-- No two modules write the same words, places aside.
use Rattle.std.proofs.Common.{◌≡◌, ◌∙◌, ap, sym}
use Rattle.mdl_syntax.specs.Modules.{ModuleTree}
use Rattle.mdl_syntax.specs.WrittenModules.{write_module}
use Rattle.mdl_syntax.specs.PlacedModules.{placed_module, IsSameModule}
use Rattle.mdl_syntax.specs.LevelledModules.{IsModule}
use Rattle.mdl_syntax.proofs.PlacedModuleTwice.{placed_module_twice}
use Rattle.expression_grammar.proofs.PlaceLaws.{some_tokens, kinds_some}
use Rattle.module_grammar.proofs.ModuleOpeningLaws.{one_module}

pub same_module : (one other : ModuleTree) → IsModule one → IsModule other →
    write_module one ≡ write_module other → IsSameModule one other
same_module one other is also same tokens =
    let words = some_tokens (write_module one) in
    let written = sym (kinds_some (write_module one)) in
    sym (placed_module_twice one words tokens)
    ∙ (ap (λ tree. placed_module tree tokens)
    (one_module one other words is also written (sym same ∙ written))
    ∙ placed_module_twice other words tokens)
