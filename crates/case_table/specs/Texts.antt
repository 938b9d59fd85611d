-- What contracts see of a text.
use Rattle.std.specs.Prelude.{ℕ, List, string_bytes}
use Rattle.case_table.specs.declared.text.Held.{Held}
use Rattle.case_table.specs.declared.text.Held.TheVariants as held

-- its bytes, wherever they lie
abbrev pub held_bytes : Held → List ℕ
held_bytes (held.Inline text) = text.bytes
held_bytes (held.Heap text) = string_bytes text
