use Rattle.std.proofs.Common.{◌≡◌, ◌++◌, take}
use Rattle.std.specs.List.{flat_map}
use Rattle.mdl_syntax.proofs.ModulePieces.{one_declaration}
use Rattle.mdl_syntax.proofs.write_module.push_declarations.Given as goal

abbrev pub invariant-loop-decl : goal.invariant-loop-decl
invariant-loop-decl l =
    l.kinds.items ≡ l.initial.kinds.items ++ flat_map one_declaration (take l.decl-index l.decls)
