use Rattle.std.proofs.Common.{◌≡◌, ◌++◌, codes, take, flat_map}
use Rattle.mdl_cli.proofs.lines.push_name.Given as goal

-- the text so far
abbrev pub invariant-loop-part : goal.invariant-loop-part
invariant-loop-part l =
    l.text.items ≡ l.fn.text.items ++ flat_map (λ part. codes "::" ++ part) (take l.part-index l.name.parts)
