use Rattle.std.proofs.Common.{◌≡◌, map, drop, string_bytes}
use Rattle.io_edge.specs.Source.{file_at}
use Rattle.io_edge.proofs.memory_source.find.Given as goal

abbrev pub invariant-loop-name : goal.invariant-loop-name
invariant-loop-name l =
    file_at (map (λ f. (string_bytes f.0, f.1.items)) l.files) l.path
    ≡ file_at (map (λ f. (string_bytes f.0, f.1.items)) (drop l.name-index l.files)) l.path
