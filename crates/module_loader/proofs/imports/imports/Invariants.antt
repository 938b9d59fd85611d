use Rattle.std.proofs.Common.{map, take, string_bytes}
use Rattle.mdl_syntax.specs.Modules.{module_of}
use Rattle.module_set.specs.Imports.{references}
use Rattle.module_loader.specs.inside.Contents.{Reading}
use Rattle.module_loader.specs.inside.Loading.{Surely}
use Rattle.module_loader.specs.inside.Importing.{Imported}
use Rattle.module_loader.proofs.imports.imports.Given as goal

-- what the names before mean is imported
abbrev pub invariant-loop-reference : goal.invariant-loop-reference
invariant-loop-reference g l =
    Reading (g.S.Source.state l.initial.source) (g.S.Source.state l.source) l.initial.contents l.contents
    × Surely (map string_bytes l.roots) l.contents (λ packages.
    Imported packages l.name (take l.reference-index (references (module_of l.loaded.module))) l.initial.names.keys
    l.names.keys l.indices.items)
