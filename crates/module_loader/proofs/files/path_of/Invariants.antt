use Rattle.std.proofs.Common.{◌≡◌, ◌++◌, codes, take, flat_map, string_bytes}
use Rattle.module_loader.proofs.files.path_of.Given as goal

abbrev pub invariant-loop-part : goal.invariant-loop-part
invariant-loop-part l = string_bytes l.path
    ≡ l.root ++ flat_map (λ part. codes "/" ++ part) (take l.part-index l.name.parts)
