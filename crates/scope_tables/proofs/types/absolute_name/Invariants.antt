use Rattle.std.proofs.Common.{◌≡◌, ◌++◌, codes, take, flat_map, string_bytes}
use Rattle.scope_tables.proofs.types.absolute_name.Given as goal

-- the text so far
abbrev pub invariant-loop-part : goal.invariant-loop-part
invariant-loop-part l = string_bytes l.text ≡ flat_map (λ part. codes "::" ++ part) (take l.part-index l.parts)
