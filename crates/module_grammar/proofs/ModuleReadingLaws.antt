-- The machine reads what a levelled module writes.
use Rattle.std.proofs.Common.{◌≡◌, sym, subst, ℕ, ◌≤◌, Bool, true, List}
use Rattle.mdl_lexer.specs.declared.token.Token.{Token}
use Rattle.mdl_syntax.specs.Modules.{ModuleTree}
use Rattle.mdl_syntax.specs.WrittenModules.{write_module}
use Rattle.mdl_syntax.specs.PlacedModules.{placed_module}
use Rattle.mdl_syntax.specs.LevelledModules.{IsModule}
use Rattle.mdl_syntax.specs.AcceptedModules.{module_height, is_version, IsPlain}
use Rattle.expression_grammar.specs.Readings.{kinds}
use Rattle.module_grammar.specs.inside.ModuleStates.{mdl_wanted}
use Rattle.module_grammar.specs.inside.ModuleLeads.{ModuleEnds}
use Rattle.module_grammar.proofs.ModuleWroteLaws.{wrote_module}
use Rattle.module_grammar.proofs.ModuleHeightLaws.{placed_module_height}
use Rattle.module_grammar.proofs.ModuleReadsCalls.{annotation_law, base_law}
use Rattle.module_grammar.proofs.ModuleReadsValues.{field_value_law, default_law, body_law}
use Rattle.module_grammar.proofs.ModuleReadsLaws.{module_reads}

pub module_written_reads : (strict : Bool) (limit : ℕ) (tree : ModuleTree) (tokens : List Token) →
    IsModule tree → (strict ≡ true → IsPlain tree) →
    (strict ≡ true → is_version tree.version.text tree.version.double ≡ true) →
    module_height tree ≤ limit → write_module tree ≡ kinds tokens →
    ModuleEnds strict limit 0 mdl_wanted tokens (placed_module tree tokens)
module_written_reads strict limit tree tokens is plain version low writes =
    module_reads strict limit (annotation_law strict limit) (field_value_law strict limit)
    (default_law strict limit) (body_law strict limit) (base_law strict limit)
    (placed_module tree tokens) tokens (wrote_module strict tree tokens is plain writes) version
    (subst (λ n. n ≤ limit) (sym (placed_module_height tree tokens)) low)
