-- What the code finds before it writes, and what it does with it.
use Rattle.std.specs.Prelude.{◌≡◌, ◌≢◌, ◌⊎◌, ◌≤◌, ℕ, true, false, List, [], ◌∷◌}
use Rattle.std.specs.Prelude.{length, Result, Ok, Err}
use Rattle.std.specs.declared.vec.Vec.{Vec}
use Rattle.std.specs.declared.alloc.Global.{Global}
use Rattle.std.specs.declared.alloc.AllocError.{AllocError}
use Rattle.std.specs.List.{AllByRecursion}
use Rattle.case_table.specs.Counts.{Rose}
use Rattle.io_edge.specs.Source.{SourceState, File}
use Rattle.io_edge.specs.Sink.{SinkState, WroteAll, WrotePart}
use Rattle.type_rules.specs.Terms.{Term}
use Rattle.mdl_lexer.specs.declared.token.Kind.{Kind}
use Rattle.mdl_lexer.specs.declared.token.LexFault.{LexFault}
use Rattle.mdl_lexer.specs.declared.token.LexFault.TheVariants as lexical
use Rattle.module_set.specs.declared.set.ModuleSet.{ModuleSet}
use Rattle.module_set.specs.Members.{Member, members_of}
use Rattle.scope_core.specs.declared.fault.ScopeFault.{ScopeFault}
use Rattle.scope_core.specs.declared.fault.ScopeFault.TheVariants as scoping
use Rattle.scope_core.specs.ScopeFaults.{scope_faults, fault_key}
use Rattle.module_loader.specs.declared.fault.LoadFault.{LoadFault}
use Rattle.module_loader.specs.declared.fault.LoadFault.TheVariants as fault
use Rattle.module_loader.specs.Files.{most_module}
use Rattle.module_loader.specs.Loads.{MayHold}
use Rattle.command_words.specs.declared.request.Request.{Request}
use Rattle.command_words.specs.declared.request.Task.{Task}
use Rattle.command_words.specs.declared.request.Task.TheVariants as task
use Rattle.command_words.specs.Requests.{names_command}
use Rattle.mdl_cli.specs.declared.status.Status.{Status}
use Rattle.mdl_cli.specs.declared.status.Status.TheVariants as status
use Rattle.mdl_cli.specs.declared.answer.Answer.{Answer}
use Rattle.mdl_cli.specs.declared.answer.Answer.TheVariants as answer
use Rattle.mdl_cli.specs.FirstText.{AreFirstWords, IsFirstText}
use Rattle.mdl_cli.specs.GraphText.{instance_text}
use Rattle.mdl_cli.specs.Outcome.{AnswersRequest, RefusesRequest, RefusesScopes, HasLineAt, names_in}
use Rattle.mdl_cli.specs.Outcome.{material_name, ok_text}
use Rattle.mdl_cli.specs.Lines.{usage_line, read_fault_line, write_fault_line, out_of_memory_line}
use Rattle.mdl_cli.specs.Lines.{not_built_line, material_unknown_line, load_line}
use Rattle.mdl_cli.specs.Headline.{AnswerText, RefusalLine}

-- the cause of what was found
abbrev pub HasCause : List (List ℕ) → SourceState → SourceState → Answer → Type 0
HasCause words source after (answer.Text text) = AnswerText words source text.items
HasCause words source after (answer.Refused line) = RefusalLine words source status.Refused line.items
HasCause words source after answer.NotBuilt = RefusalLine words source status.Refused not_built_line
HasCause words source after answer.Usage = RefusalLine words source status.Usage usage_line
HasCause words source after answer.ReadFault = Rose source.faults after.faults
HasCause words source after answer.OutOfMemory = names_command words ≡ true

-- what is found for the words over a source
pub record Finds (words : List (List ℕ)) (source after : SourceState) (found : Answer) : Type 0 where
  pub cause : HasCause words source after found
  pub steady : source.steady ≡ true → found ≢ answer.ReadFault
  pub no_command : names_command words ≡ false → found ≡ answer.Usage

-- the line went out whole and the status is its own, or it didn't and the status is that of a write fault
abbrev pub Tells : Status → List ℕ → Status → SinkState → SinkState → Type 0
Tells own line told before after =
    ((told ≡ own) × WroteAll line before after)
    ⊎ ((told ≡ status.WriteFault) × ((gone : ℕ) × WrotePart line gone before after))

-- the text went out whole, or it didn't and the line of a write fault was tried
abbrev pub Answers : List ℕ → Status → SinkState → SinkState → SinkState → SinkState → Type 0
Answers text told out out_after diag diag_after =
    ((told ≡ status.Done) × (WroteAll text out out_after × (diag_after ≡ diag)))
    ⊎ (((gone : ℕ) × WrotePart text gone out out_after)
    × Tells status.WriteFault write_fault_line told diag diag_after)

-- what was found is delivered
abbrev pub Delivers : Answer → Status → SinkState → SinkState → SinkState → SinkState → Type 0
Delivers (answer.Text text) told out out_after diag diag_after =
    Answers text.items told out out_after diag diag_after
Delivers (answer.Refused line) told out out_after diag diag_after =
    (out_after ≡ out) × Tells status.Refused line.items told diag diag_after
Delivers answer.NotBuilt told out out_after diag diag_after =
    (out_after ≡ out) × Tells status.Refused not_built_line told diag diag_after
Delivers answer.Usage told out out_after diag diag_after =
    (out_after ≡ out) × Tells status.Usage usage_line told diag diag_after
Delivers answer.ReadFault told out out_after diag diag_after =
    (out_after ≡ out) × Tells status.ReadFault read_fault_line told diag diag_after
Delivers answer.OutOfMemory told out out_after diag diag_after =
    (out_after ≡ out) × Tells status.OutOfMemory out_of_memory_line told diag diag_after

-- a line, if there was memory for it
abbrev pub IsLine : List ℕ → Answer → Type 0
IsLine line (answer.Refused own) = own.items ≡ line
IsLine line answer.OutOfMemory = Unit {0}
IsLine line _ = ⊥

-- a text, if there was memory for it
abbrev pub IsText : List ℕ → Answer → Type 0
IsText text (answer.Text own) = own.items ≡ text
IsText text answer.OutOfMemory = Unit {0}
IsText text _ = ⊥

-- the same for a line and a text that may have failed
abbrev pub Told : Result (Vec ℕ Global) AllocError → Answer → Type 0
Told (Ok line) found = found ≡ answer.Refused line
Told (Err error) found = found ≡ answer.OutOfMemory

abbrev pub Given : Result (Vec ℕ Global) AllocError → Answer → Type 0
Given (Ok text) found = found ≡ answer.Text text
Given (Err error) found = found ≡ answer.OutOfMemory

-- the refusal of modules that can't be loaded
abbrev pub Refuses : LoadFault → Answer → Type 0
Refuses fault.ReadFault found = found ≡ answer.ReadFault
Refuses fault.OutOfMemory found = found ≡ answer.OutOfMemory
Refuses fault found = IsLine (load_line fault) found

-- what is found for a material of this absolute and this own name in a text
abbrev pub FindsInText : List ℕ → List ℕ → List ℕ → Answer → Type 0
FindsInText whole material bytes (answer.Text text) =
    (term : Term) × IsFirstText bytes material term × (text.items ≡ instance_text whole term)
FindsInText whole material bytes (answer.Refused line) =
    (name : List ℕ) × ((term : Term) × IsFirstText bytes name term × (name ≢ material)
    × (line.items ≡ material_unknown_line))
FindsInText whole material bytes answer.NotBuilt =
    (name : List ℕ) (term : Term) → IsFirstText bytes name term → ⊥
FindsInText whole material bytes answer.OutOfMemory = Unit {0}
FindsInText whole material bytes _ = ⊥

-- what is found for it in texts
abbrev pub FindsInTexts : List ℕ → List ℕ → List (List ℕ) → Answer → Type 0
FindsInTexts whole material (bytes ∷ []) found = FindsInText whole material bytes found
FindsInTexts whole material texts found = found ≡ answer.NotBuilt

-- what is found in the words of a text
abbrev pub FindsInWords : List ℕ → List ℕ → List Kind → Answer → Type 0
FindsInWords whole material words (answer.Text text) =
    (term : Term) × AreFirstWords words material term × (text.items ≡ instance_text whole term)
FindsInWords whole material words (answer.Refused line) =
    (name : List ℕ) × ((term : Term) × AreFirstWords words name term × (name ≢ material)
    × (line.items ≡ material_unknown_line))
FindsInWords whole material words answer.NotBuilt =
    (name : List ℕ) (term : Term) → AreFirstWords words name term → ⊥
FindsInWords whole material words answer.OutOfMemory = Unit {0}
FindsInWords whole material words _ = ⊥

-- what is found for a task in a set with whose names nothing is wrong
abbrev pub FindsTask : Task → ModuleSet → Answer → Type 0
FindsTask (task.Instance own material) set found =
    FindsInTexts (material_name own material) material set.texts found
FindsTask (task.Check modules) set found = IsText (ok_text (length set.names)) found

-- the refusal for a fault at a byte of a module
abbrev pub TellsAt : List Member → ScopeFault → ℕ → ℕ → Answer → Type 0
TellsAt members fault m at (answer.Refused line) = HasLineAt members fault m at line.items
TellsAt members fault m at answer.OutOfMemory = Unit {0}
TellsAt members fault m at _ = ⊥

-- the refusal for a fault of names
abbrev pub TellsScope : List Member → ScopeFault → Answer → Type 0
TellsScope members scoping.OutOfMemory found = found ≡ answer.OutOfMemory
TellsScope members fault found = TellsAt members fault (fault_key fault).0 (fault_key fault).1 found

-- the refusal for the first of them
abbrev pub TellsScopes : List Member → Answer → Type 0
TellsScopes members (answer.Refused line) = RefusesScopes members line.items
TellsScopes members answer.OutOfMemory = Unit {0}
TellsScopes members _ = ⊥

-- what is found for a task in a set that is loaded
abbrev pub FindsIn : Task → ModuleSet → Answer → Type 0
FindsIn own set found =
    ((scope_faults (names_in (members_of set)) (members_of set) ≡ []) × FindsTask own set found)
    ⊎ TellsScopes (members_of set) found

-- what is found in a text without words
abbrev pub WithoutWords : LexFault → Answer → Type 0
WithoutWords lexical.OutOfMemory found = found ≡ answer.OutOfMemory
WithoutWords _ found = found ≡ answer.NotBuilt

-- the texts are short enough to be read
abbrev pub AreShort : ModuleSet → Type 0
AreShort set = AllByRecursion (λ text. length text ≤ most_module) set.texts

-- what is found for a request over a source
pub record FindsText (request : Request) (source : SourceState) (text : List ℕ) : Type 0 where
  pub files : List File
  pub held : MayHold source files
  pub answers : AnswersRequest request files text

pub record FindsLine (request : Request) (source : SourceState) (line : List ℕ) : Type 0 where
  pub files : List File
  pub held : MayHold source files
  pub refuses : RefusesRequest request files line

abbrev pub FindsAt : Request → SourceState → SourceState → Answer → Type 0
FindsAt request source after (answer.Text text) = FindsText request source text.items
FindsAt request source after (answer.Refused line) = FindsLine request source line.items
FindsAt request source after answer.NotBuilt = FindsLine request source not_built_line
FindsAt request source after answer.Usage = ⊥
FindsAt request source after answer.ReadFault = Rose source.faults after.faults × (source.steady ≡ true → ⊥)
FindsAt request source after answer.OutOfMemory = Unit {0}
