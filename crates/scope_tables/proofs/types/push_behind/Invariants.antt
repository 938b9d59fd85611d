use Rattle.std.proofs.Common.{◌≡◌, ◌++◌, codes, take, flat_map, string_bytes}
use Rattle.scope_tables.specs.Visible.{texts}
use Rattle.scope_tables.proofs.types.push_behind.Given as goal

-- the text so far
abbrev pub invariant-loop-part : goal.invariant-loop-part
invariant-loop-part l = string_bytes l.text
    ≡ string_bytes l.fn.text ++ flat_map (λ part. codes "::" ++ part) (texts (take l.part-index l.parts))
