-- From what was found and how it was delivered to completeness.
use Rattle.std.proofs.Common.{◌≡◌, ◌≢◌, ◌⊎◌, ℕ, ◌≤◌, List, Option, Some, length, refl, sym, ◌∙◌, subst}
use Rattle.std.proofs.Common.{inl, inr, arith}
use Rattle.std.specs.Prelude.{IfSome}
use Rattle.case_table.specs.Counts.{Rose}
use Rattle.io_edge.specs.Source.{File, SourceState}
use Rattle.io_edge.specs.Sink.{SinkState}
use Rattle.mdl_cli.specs.declared.status.Status.{Status}
use Rattle.mdl_cli.specs.declared.status.Status.TheVariants as status
use Rattle.mdl_cli.specs.declared.answer.Answer.{Answer}
use Rattle.mdl_cli.specs.declared.answer.Answer.TheVariants as answer
use Rattle.mdl_cli.specs.Lines.{usage_line, out_of_memory_line, not_built_line}
use Rattle.mdl_cli.specs.Outcome as outcome
use Rattle.mdl_cli.specs.Headline.{Call, AnswerText, RefusalLine, NoFault, HasRoom, Complete}
use Rattle.mdl_cli.specs.inside.Delivery.{HasCause, Finds, Tells, Answers, Delivers}
use Rattle.mdl_cli.specs.OneOutcome.{OneOutcome}

-- a source that tells its files holds no others
held_is : (told : Option (List File)) (files held : List File) → told ≡ Some files →
    IfSome told (λ own. own ≡ held) → files ≡ held
held_is told files held is may = subst (λ (told : Option (List File)). IfSome told (λ own. own ≡ held)) is may

refusal_at : (words : List (List ℕ)) (source : SourceState) (files : List File) (s : Status)
    (line : List ℕ) → source.files ≡ Some files → RefusalLine words source s line →
    outcome.Refusal words files s line
refusal_at words source files s line told stands =
    subst (λ (held : List File). outcome.Refusal words held s line)
    (sym (held_is source.files files stands.files told stands.held)) stands.refusal

answer_at : (words : List (List ℕ)) (source : SourceState) (files : List File) (text : List ℕ) →
    source.files ≡ Some files → AnswerText words source text → outcome.Answer words files text
answer_at words source files text told stands =
    subst (λ (held : List File). outcome.Answer words held text)
    (sym (held_is source.files files stands.files told stands.held)) stands.answer

-- without a fault a line goes out whole
own_status : (own told : Status) (line : List ℕ) (before after : SinkState) →
    (Rose before.faults after.faults → ⊥) → Tells own line told before after → told ≡ own
own_status own told line before after none (inl (is, all)) = is
own_status own told line before after none (inr (is, (gone, w))) = absurd (none w.rose)

-- without a fault an answer goes out whole
answer_done : (text : List ℕ) (told : Status) (out out_after diag diag_after : SinkState) →
    (Rose out.faults out_after.faults → ⊥) → Answers text told out out_after diag diag_after →
    told ≡ status.Done
answer_done text told out out_after diag diag_after none (inl (is, all)) = is
answer_done text told out out_after diag diag_after none (inr ((gone, w), told_line)) = absurd (none w.rose)

-- a sink with room for a line takes it whole
roomy_status : (own told : Status) (line : List ℕ) (before after : SinkState) →
    length line ≤ before.room → Tells own line told before after → told ≡ own
roomy_status own told line before after room (inl (is, all)) = is
roomy_status own told line before after room (inr (is, (gone, w))) = absurd (omega (arith, w.no_room))

roomy_answer : (text : List ℕ) (told : Status) (out out_after diag diag_after : SinkState) →
    length text ≤ out.room → Answers text told out out_after diag diag_after → told ≡ status.Done
roomy_answer text told out out_after diag diag_after room (inl (is, all)) = is
roomy_answer text told out out_after diag diag_after room (inr ((gone, w), told_line)) =
    absurd (omega (arith, w.no_room))

answered_by : (call : Call) (found : Answer) (files : List File) (text : List ℕ) →
    OneOutcome call.words files → call.source.files ≡ Some files → outcome.Answer call.words files text → NoFault call →
    HasCause call.words call.source call.source_after found →
    Delivers found call.status call.out call.out_after call.diag call.diag_after →
    (call.status ≡ status.Done) ⊎ (call.status ≡ status.OutOfMemory)
answered_by call (answer.Text own) files text one told stands none cause d =
    inl (answer_done own.items call.status call.out call.out_after call.diag call.diag_after none.out d)
answered_by call (answer.Refused line) files text one told stands none cause d =
    absurd (one.not_both text status.Refused line.items stands
    (refusal_at call.words call.source files status.Refused line.items told cause))
answered_by call answer.NotBuilt files text one told stands none cause d =
    absurd (one.not_both text status.Refused not_built_line stands
    (refusal_at call.words call.source files status.Refused not_built_line told cause))
answered_by call answer.Usage files text one told stands none cause d =
    absurd (one.not_both text status.Usage usage_line stands
    (refusal_at call.words call.source files status.Usage usage_line told cause))
answered_by call answer.ReadFault files text one told stands none cause d = absurd (none.source cause)
answered_by call answer.OutOfMemory files text one told stands none cause d =
    inr (own_status status.OutOfMemory call.status out_of_memory_line call.diag call.diag_after none.diag d.1)

-- a line that stands is the line that is told
refused_line_by : (call : Call) (files : List File) (own s : Status) (line stands : List ℕ) →
    OneOutcome call.words files → call.source.files ≡ Some files → RefusalLine call.words call.source own line →
    outcome.Refusal call.words files s stands → NoFault call →
    Tells own line call.status call.diag call.diag_after → call.status ≡ s
refused_line_by call files own s line stands one told cause refusal none d =
    own_status own call.status line call.diag call.diag_after none.diag d
    ∙ (one.one_refusal own s line stands
    (refusal_at call.words call.source files own line told cause) refusal).0

refused_by : (call : Call) (found : Answer) (files : List File) (s : Status) (line : List ℕ) →
    OneOutcome call.words files → call.source.files ≡ Some files → outcome.Refusal call.words files s line →
    NoFault call →
    HasCause call.words call.source call.source_after found →
    Delivers found call.status call.out call.out_after call.diag call.diag_after →
    (call.status ≡ s) ⊎ (call.status ≡ status.OutOfMemory)
refused_by call (answer.Text text) files s line one told stands none cause d =
    absurd (one.not_both text.items s line
    (answer_at call.words call.source files text.items told cause) stands)
refused_by call (answer.Refused own) files s line one told stands none cause d =
    inl (refused_line_by call files status.Refused s own.items line one told cause stands none d.1)
refused_by call answer.NotBuilt files s line one told stands none cause d =
    inl (refused_line_by call files status.Refused s not_built_line line one told cause stands none d.1)
refused_by call answer.Usage files s line one told stands none cause d =
    inl (refused_line_by call files status.Usage s usage_line line one told cause stands none d.1)
refused_by call answer.ReadFault files s line one told stands none cause d = absurd (none.source cause)
refused_by call answer.OutOfMemory files s line one told stands none cause d =
    inr (own_status status.OutOfMemory call.status out_of_memory_line call.diag call.diag_after none.diag d.1)

usage_or_fault : (told : Status) (before after : SinkState) →
    Tells status.Usage usage_line told before after →
    (told ≡ status.Usage) ⊎ ((told ≡ status.WriteFault) × Rose before.faults after.faults)
usage_or_fault told before after (inl (is, all)) = inl is
usage_or_fault told before after (inr (is, (gone, w))) = inr (is, w.rose)

no_command_by : (call : Call) (found : Answer) → found ≡ answer.Usage →
    Delivers found call.status call.out call.out_after call.diag call.diag_after →
    (call.status ≡ status.Usage) ⊎ ((call.status ≡ status.WriteFault)
    × Rose call.diag.faults call.diag_after.faults)
no_command_by call found is d =
    usage_or_fault call.status call.diag call.diag_after
    (subst (λ (found : Answer). Delivers found call.status call.out call.out_after call.diag
    call.diag_after) is d).1

no_fault_status : (own told : Status) → told ≡ own → own ≢ status.ReadFault → own ≢ status.WriteFault →
    (told ≢ status.ReadFault) × (told ≢ status.WriteFault)
no_fault_status own told is read write = (λ e. read (sym is ∙ e), λ e. write (sym is ∙ e))

steady_by : (call : Call) (found : Answer) → (found ≢ answer.ReadFault) → HasRoom call →
    HasCause call.words call.source call.source_after found →
    Delivers found call.status call.out call.out_after call.diag call.diag_after →
    (call.status ≢ status.ReadFault) × (call.status ≢ status.WriteFault)
steady_by call (answer.Text text) steady room cause d =
    no_fault_status status.Done call.status
    (roomy_answer text.items call.status call.out call.out_after call.diag call.diag_after
    (room.answers text.items cause) d) (λ e. absurd cc) (λ e. absurd cc)
steady_by call (answer.Refused line) steady room cause d =
    no_fault_status status.Refused call.status
    (roomy_status status.Refused call.status line.items call.diag call.diag_after
    (room.refusals status.Refused line.items cause) d.1) (λ e. absurd cc) (λ e. absurd cc)
steady_by call answer.NotBuilt steady room cause d =
    no_fault_status status.Refused call.status
    (roomy_status status.Refused call.status not_built_line call.diag call.diag_after
    (room.refusals status.Refused not_built_line cause) d.1) (λ e. absurd cc) (λ e. absurd cc)
steady_by call answer.Usage steady room cause d =
    no_fault_status status.Usage call.status
    (roomy_status status.Usage call.status usage_line call.diag call.diag_after
    (room.refusals status.Usage usage_line cause) d.1) (λ e. absurd cc) (λ e. absurd cc)
steady_by call answer.ReadFault steady room cause d = absurd (steady refl)
steady_by call answer.OutOfMemory steady room cause d =
    no_fault_status status.OutOfMemory call.status
    (roomy_status status.OutOfMemory call.status out_of_memory_line call.diag call.diag_after
    room.others d.1) (λ e. absurd cc) (λ e. absurd cc)

-- what was found and delivered is complete
pub complete : (call : Call) (found : Answer) →
    ((words : List (List ℕ)) (files : List File) → OneOutcome words files) →
    Finds call.words call.source call.source_after found →
    Delivers found call.status call.out call.out_after call.diag call.diag_after → Complete call
complete call found outcomes finds d = record {
  answered = λ files text told stands none.
      answered_by call found files text (outcomes call.words files) told stands none finds.cause d;
  refused = λ files s line told stands none.
      refused_by call found files s line (outcomes call.words files) told stands none finds.cause d;
  no_command = λ unnamed. no_command_by call found (finds.no_command unnamed) d;
  steady = λ steady room. steady_by call found (finds.steady steady) room finds.cause d;
}
