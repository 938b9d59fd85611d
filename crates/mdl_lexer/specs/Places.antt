-- Places of words and of faults.
use Rattle.std.specs.Prelude.{ℕ, ◌≤◌, List, length, take, IsUtf8}
use Rattle.mdl_lexer.specs.declared.token.LexFault.{LexFault}
use Rattle.mdl_lexer.specs.declared.token.LexFault.TheVariants as fault

-- what stands before a byte is text
pub record IsPlace (bytes : List ℕ) (at : ℕ) : Type 0 where
  pub within : at ≤ length bytes
  pub front : IsUtf8 (take at bytes)

-- the same of a fault's place
abbrev pub HasPlace : List ℕ → LexFault → Type 0
HasPlace bytes (fault.NotUtf8 at) = IsPlace bytes at
HasPlace bytes (fault.BadToken at) = IsPlace bytes at
HasPlace bytes (fault.IntRange at) = IsPlace bytes at
HasPlace bytes fault.OutOfMemory = Unit {0}
