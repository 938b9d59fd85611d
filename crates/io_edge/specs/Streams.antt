-- What the sources and sinks over the system tell.
use Rattle.std.specs.Prelude.{ℕ, false, List, Option, None, take}
use Rattle.std.specs.Io.KnownBytes.{Keeps, Appends}
use Rattle.io_edge.specs.Source.{SourceState}
use Rattle.io_edge.specs.Sink.{SinkState}
use Rattle.io_edge.specs.Memory.{counted}
use Rattle.io_edge.specs.declared.source.Read.{Read}
use Rattle.io_edge.specs.declared.source.Read.TheVariants as read
use Rattle.io_edge.specs.declared.sink.Wrote.{Wrote}
use Rattle.io_edge.specs.declared.sink.Wrote.TheVariants as wrote

-- a source that tells only how often it failed
abbrev pub untold_files : ℕ → SourceState
untold_files faults = record { files = None; faults = faults; steady = false }

-- a sink that tells only how often it failed
abbrev pub untold_bytes : ℕ → SinkState
untold_bytes faults = record { taken = None; faults = faults; room = 0 }

-- the count of faults after a read with this answer
abbrev pub after_answer : Read → ℕ → ℕ
after_answer read.Failed faults = counted faults
after_answer _ faults = faults

-- the count of faults after a write with this answer
abbrev pub after_wrote : Wrote → ℕ → ℕ
after_wrote wrote.Failed faults = counted faults
after_wrote _ faults = faults

-- what the writer under a sink holds, where it tells it, grew by what the sink took
abbrev pub PassedOn : List ℕ → Wrote → Option (List ℕ) → Option (List ℕ) → Type 0
PassedOn piece (wrote.Took n) before after = Appends before after (take n piece)
PassedOn piece wrote.Failed before after = Keeps before after
