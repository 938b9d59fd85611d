-- What a sink tells, and what a write to it does.
use Rattle.std.specs.Prelude.{◌≡◌, ◌≢◌, ℕ, ◌+◌, ◌≤◌, ◌<◌, List}
use Rattle.std.specs.Prelude.{[], ◌++◌, Option, length, take}
use Rattle.std.specs.Option.{option_map}
use Rattle.case_table.specs.Counts.{Rose}
use Rattle.io_edge.specs.declared.sink.Wrote.{Wrote}
use Rattle.io_edge.specs.declared.sink.Wrote.TheVariants.{Took, Failed}

-- what a sink tells: the bytes that it took, if it tells them, how often it failed, and how many
-- more bytes it surely takes
pub record SinkState : Type 0 where
  pub taken : Option (List ℕ)
  pub faults : ℕ
  pub room : ℕ

-- what was taken, and these bytes after it
abbrev pub followed_by : Option (List ℕ) → List ℕ → Option (List ℕ)
followed_by taken bytes = option_map (λ (before : List ℕ). before ++ bytes) taken

-- the write took some bytes of the piece, or failed and took none
abbrev pub Takes : List ℕ → Wrote → SinkState → SinkState → Type 0
Takes piece (Took n) before after =
    (n ≤ length piece) × (piece ≢ [] → 1 ≤ n)
    × (after.taken ≡ followed_by before.taken (take n piece)) × (before.room ≤ after.room + n)
Takes piece Failed before after =
    (after.taken ≡ before.taken) × Rose before.faults after.faults × (piece ≢ [] → before.room ≡ 0)

-- what one write does, over every sink
pub record Writes (piece : List ℕ) (answer : Wrote) (before after : SinkState) : Type 0 where
  pub takes : Takes piece answer before after
  pub counted : before.faults ≤ after.faults

-- the whole text went out
pub record WroteAll (text : List ℕ) (before after : SinkState) : Type 0 where
  pub taken : after.taken ≡ followed_by before.taken text
  pub counted : before.faults ≤ after.faults
  pub room : before.room ≤ after.room + length text

-- only so many bytes of the text went out, fewer than all, since the sink failed
pub record WrotePart (text : List ℕ) (gone : ℕ) (before after : SinkState) : Type 0 where
  pub part : gone < length text
  pub taken : after.taken ≡ followed_by before.taken (take gone text)
  pub counted : before.faults ≤ after.faults
  pub rose : Rose before.faults after.faults
  pub no_room : before.room < length text
