-- What `run` promises of every command line, source and pair of sinks.
use Rattle.std.specs.Prelude.{◌≡◌, ◌≢◌, ◌⊎◌, ℕ, ◌≤◌, ◌<◌, Bool, true, false}
use Rattle.std.specs.Prelude.{List, Some, length, take}
use Rattle.case_table.specs.Counts.{Rose}
use Rattle.io_edge.specs.Source.{File, SourceState}
use Rattle.io_edge.specs.Sink.{SinkState, followed_by}
use Rattle.module_loader.specs.Loads.{MayHold}
use Rattle.mdl_cli.specs.declared.status.Status.{Status}
use Rattle.mdl_cli.specs.declared.status.Status.TheVariants as status
use Rattle.command_words.specs.Requests.{names_command}
use Rattle.mdl_cli.specs.Outcome.{Answer, Refusal}
use Rattle.mdl_cli.specs.Lines.{read_fault_line, write_fault_line, out_of_memory_line}

-- one call of `run`: its words and status,
-- and the source and the sinks of answers and of diagnostics before and after
pub record Call : Type 0 where
  pub words : List (List ℕ)
  pub status : Status
  pub source : SourceState
  pub source_after : SourceState
  pub out : SinkState
  pub out_after : SinkState
  pub diag : SinkState
  pub diag_after : SinkState

-- a sink took a text after what it had, or nothing, or the text's front and not all of it
abbrev pub Took : List ℕ → SinkState → SinkState → Type 0
Took text before after = after.taken ≡ followed_by before.taken text

abbrev pub TookNothing : SinkState → SinkState → Type 0
TookNothing before after = after.taken ≡ before.taken

pub record TookPart (text : List ℕ) (before after : SinkState) : Type 0 where
  pub gone : ℕ
  pub part : gone < length text
  pub took : Took (take gone text) before after

-- the line of a refusal that stands in the words and in files that the source may hold
pub record RefusalLine
    (words : List (List ℕ)) (source : SourceState) (refused_as : Status) (line : List ℕ) : Type 0 where
  pub files : List File
  pub held : MayHold source files
  pub refusal : Refusal words files refused_as line

-- the text of the answer to the words over files that the source may hold
pub record AnswerText (words : List (List ℕ)) (source : SourceState) (text : List ℕ) : Type 0 where
  pub files : List File
  pub held : MayHold source files
  pub answer : Answer words files text

-- `out` took the answer, and `diag` nothing
pub record Answered (call : Call) : Type 0 where
  pub text : List ℕ
  pub answer : AnswerText call.words call.source text
  pub out : Took text call.out call.out_after
  pub diag : TookNothing call.diag call.diag_after

-- `diag` took one line, and `out` nothing
pub record Told (call : Call) (line : List ℕ) : Type 0 where
  pub out : TookNothing call.out call.out_after
  pub diag : Took line call.diag call.diag_after

-- `diag` took the line of the refusal that has the call's status
pub record Refused (call : Call) : Type 0 where
  pub line : List ℕ
  pub refusal : RefusalLine call.words call.source call.status line
  pub told : Told call line

-- `diag` took the line of a write fault, or, where it failed too, some of it
abbrev pub ToldWriteFault : Call → Type 0
ToldWriteFault call =
    Took write_fault_line call.diag call.diag_after
    ⊎ (Rose call.diag.faults call.diag_after.faults × TookPart write_fault_line call.diag call.diag_after)

-- `out` failed, and took some of the answer and not all
pub record OutFailed (call : Call) : Type 0 where
  pub rose : Rose call.out.faults call.out_after.faults
  pub text : List ℕ
  pub answer : AnswerText call.words call.source text
  pub out : TookPart text call.out call.out_after
  pub diag : ToldWriteFault call

-- the call had this line to tell: that of a refusal, of a read fault, or of want of memory
abbrev pub HadToTell : Call → List ℕ → Type 0
HadToTell call line =
    ((refused_as : Status) × RefusalLine call.words call.source refused_as line)
    ⊎ ((Rose call.source.faults call.source_after.faults × (line ≡ read_fault_line))
    ⊎ ((names_command call.words ≡ true) × (line ≡ out_of_memory_line)))

-- `diag` failed at the only line, and `out` took nothing
pub record DiagFailed (call : Call) : Type 0 where
  pub rose : Rose call.diag.faults call.diag_after.faults
  pub out : call.out_after ≡ call.out
  pub line : List ℕ
  pub had : HadToTell call line
  pub diag : TookPart line call.diag call.diag_after

-- the statuses of refusals
abbrev pub is_refusal : Status → Bool
is_refusal status.Done = false
is_refusal status.ReadFault = false
is_refusal status.WriteFault = false
is_refusal status.OutOfMemory = false
is_refusal _ = true

-- **The headline**: each status has its cause, and the sinks took exactly what goes with it.
pub record Headline (call : Call) : Type 0 where
  pub done : call.status ≡ status.Done → Answered call
  pub refused : is_refusal call.status ≡ true → Refused call
  pub read_fault : call.status ≡ status.ReadFault →
      Rose call.source.faults call.source_after.faults × Told call read_fault_line
  pub write_fault : call.status ≡ status.WriteFault → OutFailed call ⊎ DiagFailed call
  pub out_of_memory : call.status ≡ status.OutOfMemory →
      (names_command call.words ≡ true) × Told call out_of_memory_line

-- no count of faults rose in the call
pub record NoFault (call : Call) : Type 0 where
  pub source : Rose call.source.faults call.source_after.faults → ⊥
  pub out : Rose call.out.faults call.out_after.faults → ⊥
  pub diag : Rose call.diag.faults call.diag_after.faults → ⊥

-- the sinks surely take whatever the call has to write over files that the source may hold
pub record HasRoom (call : Call) : Type 0 where
  pub answers : (text : List ℕ) →
      AnswerText call.words call.source text → length text ≤ call.out.room
  pub refusals : (refused_as : Status) (line : List ℕ) →
      RefusalLine call.words call.source refused_as line → length line ≤ call.diag.room
  pub others : length out_of_memory_line ≤ call.diag.room

-- **Completeness**: where an answer or a refusal stands and nothing failed, it is given, unless memory
-- runs out; words that name no command never take memory; and over a source that never fails and sinks
-- with room no fault is answered.
pub record Complete (call : Call) : Type 0 where
  pub answered : (files : List File) (text : List ℕ) →
      call.source.files ≡ Some files → Answer call.words files text → NoFault call →
      (call.status ≡ status.Done) ⊎ (call.status ≡ status.OutOfMemory)
  pub refused : (files : List File) (as_status : Status) (line : List ℕ) →
      call.source.files ≡ Some files → Refusal call.words files as_status line → NoFault call →
      (call.status ≡ as_status) ⊎ (call.status ≡ status.OutOfMemory)
  pub no_command : names_command call.words ≡ false →
      (call.status ≡ status.Usage)
      ⊎ ((call.status ≡ status.WriteFault) × Rose call.diag.faults call.diag_after.faults)
  pub steady : call.source.steady ≡ true → HasRoom call →
      (call.status ≢ status.ReadFault) × (call.status ≢ status.WriteFault)
