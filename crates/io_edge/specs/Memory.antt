-- What the sources and sinks over memory do, exactly.
use Rattle.std.specs.Prelude.{ℕ, ◌+◌, ◌-◌, ◌^◌, ◌==◌, ◌||◌, ◌&&◌, not, Bool, true, false, min}
use Rattle.std.specs.Prelude.{List, [], ◌∷◌, ◌++◌, length, take, Some, if◌then◌else◌}
use Rattle.std.specs.List.{list_any}
use Rattle.io_edge.specs.Source.{File, SourceState}
use Rattle.io_edge.specs.Sink.{SinkState}

-- one more, up to the end of the type
abbrev pub counted : ℕ → ℕ
counted n = min (n + 1) (2 ^ 64 - 1)

abbrev pub is_empty : List ℕ → Bool
is_empty [] = true
is_empty (b ∷ bs) = false

-- a source over memory: its files, the numbers of the calls that fail, and how many calls and
-- faults there were
pub record MemoryFiles : Type 0 where
  pub files : List File
  pub failing : List ℕ
  pub calls : ℕ
  pub faults : ℕ

-- the next call is listed to fail
abbrev pub read_fails : MemoryFiles → Bool
read_fails s = list_any (λ k. k == s.calls) s.failing

-- after a call
abbrev pub after_read : MemoryFiles → MemoryFiles
after_read s =
    record s {
      calls = counted s.calls;
      faults = if read_fails s then counted s.faults else s.faults;
    }

abbrev pub files_state : MemoryFiles → SourceState
files_state s = record { files = Some s.files; faults = s.faults; steady = false }

-- a sink over memory: what it took, how many bytes it has room for and takes at most in one call,
-- the numbers of the calls that fail, and how many calls and faults there were
pub record MemoryBytes : Type 0 where
  pub taken : List ℕ
  pub capacity : ℕ
  pub most : ℕ
  pub failing : List ℕ
  pub calls : ℕ
  pub faults : ℕ

abbrev pub room_left : MemoryBytes → ℕ
room_left s = s.capacity - length s.taken

-- the next write of this piece fails: it is listed, or there is no room for any of the piece
abbrev pub write_fails : MemoryBytes → List ℕ → Bool
write_fails s piece =
    list_any (λ k. k == s.calls) s.failing || (not (is_empty piece) && (room_left s == 0))

-- how many bytes of a piece the next write takes
abbrev pub write_count : MemoryBytes → List ℕ → ℕ
write_count s piece = min (length piece) (min s.most (room_left s))

-- after a write of the piece
abbrev pub after_write : MemoryBytes → List ℕ → MemoryBytes
after_write s piece =
    if write_fails s piece then record s { calls = counted s.calls; faults = counted s.faults }
    else record s { calls = counted s.calls; taken = s.taken ++ take (write_count s piece) piece }

abbrev pub bytes_state : MemoryBytes → SinkState
bytes_state s = record { taken = Some s.taken; faults = s.faults; room = 0 }

-- a source over memory that never fails: its files
abbrev pub steady_files : List File → SourceState
steady_files files = record { files = Some files; faults = 0; steady = true }

-- a sink over memory that fails only where there is no room: what it took, how many bytes it has
-- room for, and how many faults there were
pub record SteadyBytes : Type 0 where
  pub taken : List ℕ
  pub capacity : ℕ
  pub faults : ℕ

abbrev pub steady_room : SteadyBytes → ℕ
steady_room s = s.capacity - length s.taken

-- the next write of this piece fails: there is no room for any of it
abbrev pub steady_fails : SteadyBytes → List ℕ → Bool
steady_fails s piece = not (is_empty piece) && (steady_room s == 0)

-- how many bytes of a piece the next write takes
abbrev pub steady_count : SteadyBytes → List ℕ → ℕ
steady_count s piece = min (length piece) (steady_room s)

-- after a write of the piece
abbrev pub after_steady : SteadyBytes → List ℕ → SteadyBytes
after_steady s piece =
    if steady_fails s piece then record s { faults = counted s.faults }
    else record s { taken = s.taken ++ take (steady_count s piece) piece }

abbrev pub steady_bytes : SteadyBytes → SinkState
steady_bytes s = record { taken = Some s.taken; faults = s.faults; room = steady_room s }
