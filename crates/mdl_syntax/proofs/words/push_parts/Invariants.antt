use Rattle.std.proofs.Common.{◌≡◌, ◌++◌, take}
use Rattle.std.specs.List.{flat_map}
use Rattle.mdl_syntax.proofs.PieceLaws.{next_part}
use Rattle.mdl_syntax.proofs.words.push_parts.Given as goal

abbrev pub invariant-loop-part : goal.invariant-loop-part
invariant-loop-part l =
    l.kinds.items ≡ l.initial.kinds.items ++ flat_map next_part (take l.part-index l.others)
