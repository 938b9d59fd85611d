use Rattle.std.proofs.Common.{◌≡◌, List, map, drop, string_bytes}
use Rattle.io_edge.specs.Source.{File}
use Rattle.module_loader.specs.Files.{file_under}
use Rattle.module_loader.specs.inside.Contents.{Reading, Agree}
use Rattle.module_loader.proofs.files.locate.Given as goal

-- the roots before have no such file
abbrev pub invariant-loop-root : goal.invariant-loop-root
invariant-loop-root g l =
    Reading (g.S.Source.state l.initial.source) (g.S.Source.state l.source) l.initial.contents l.contents
    × ((files : List File) → Agree l.contents files → file_under files (map string_bytes l.roots) l.name
    ≡ file_under files (drop l.root-index (map string_bytes l.roots)) l.name)
