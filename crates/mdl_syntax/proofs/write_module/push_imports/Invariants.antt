use Rattle.std.proofs.Common.{◌≡◌, ◌++◌, take}
use Rattle.std.specs.List.{flat_map}
use Rattle.mdl_syntax.specs.WrittenModules.{write_import}
use Rattle.mdl_syntax.proofs.write_module.push_imports.Given as goal

abbrev pub invariant-loop-import : goal.invariant-loop-import
invariant-loop-import l =
    l.kinds.items ≡ l.initial.kinds.items ++ flat_map write_import (take l.import-index l.imports)
