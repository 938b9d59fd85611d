-- From what was found and how it was delivered to the headline.
use Rattle.std.proofs.Common.{◌≡◌, ◌≢◌, ℕ, true, List, refl, sym, ap, ◌∙◌, subst, inl, inr}
use Rattle.std.proofs.lemmas.Bool.{false≢true}
use Rattle.case_table.specs.Counts.{Rose}
use Rattle.io_edge.specs.Sink.{SinkState, WroteAll, WrotePart}
use Rattle.mdl_cli.specs.declared.status.Status.{Status}
use Rattle.mdl_cli.specs.declared.status.Status.TheVariants as status
use Rattle.mdl_cli.specs.declared.answer.Answer.{Answer}
use Rattle.mdl_cli.specs.declared.answer.Answer.TheVariants as answer
use Rattle.command_words.specs.Requests.{names_command}
use Rattle.mdl_cli.specs.Lines.{usage_line, read_fault_line, write_fault_line, out_of_memory_line}
use Rattle.mdl_cli.specs.Lines.{not_built_line}
use Rattle.mdl_cli.specs.Headline.{Call, TookPart, AnswerText, RefusalLine, Told, ToldWriteFault}
use Rattle.mdl_cli.specs.Headline.{HadToTell, is_refusal, Headline}
use Rattle.mdl_cli.specs.inside.Delivery.{HasCause, Finds, Tells, Answers, Delivers}

part : (text : List ℕ) (gone : ℕ) (before after : SinkState) → WrotePart text gone before after →
    TookPart text before after
part text gone before after w = record { gone = gone; part = w.part; took = w.taken }

told_fault : (call : Call) →
    Tells status.WriteFault write_fault_line call.status call.diag call.diag_after → ToldWriteFault call
told_fault call (inl (own, all)) = inl all.taken
told_fault call (inr (own, (gone, w))) = inr (w.rose, part write_fault_line gone call.diag call.diag_after w)

fault_status : (told : Status) (before after : SinkState) →
    Tells status.WriteFault write_fault_line told before after → told ≡ status.WriteFault
fault_status told before after (inl (own, all)) = own
fault_status told before after (inr (own, w)) = own

-- an answer that went out whole
answered_headline : (call : Call) (text : List ℕ) → AnswerText call.words call.source text →
    call.status ≡ status.Done → WroteAll text call.out call.out_after → call.diag_after ≡ call.diag →
    Headline call
answered_headline call text stands own all same = record {
  done = λ _. record
      { text = text; answer = stands; out = all.taken; diag = ap (λ (s : SinkState). s.taken) same };
  refused = λ e. absurd (false≢true (sym (ap is_refusal own) ∙ e));
  read_fault = λ e. absurd cc;
  write_fault = λ e. absurd cc;
  out_of_memory = λ e. absurd cc;
}

-- an answer at which `out` failed
out_failed_headline : (call : Call) (text : List ℕ) (gone : ℕ) →
    AnswerText call.words call.source text → WrotePart text gone call.out call.out_after →
    Tells status.WriteFault write_fault_line call.status call.diag call.diag_after → Headline call
out_failed_headline call text gone stands w told =
    let own = fault_status call.status call.diag call.diag_after told in
    record {
      done = λ e. absurd cc;
      refused = λ e. absurd (false≢true (sym (ap is_refusal own) ∙ e));
      read_fault = λ e. absurd cc;
      write_fault = λ _. inl (record {
        rose = w.rose;
        text = text;
        answer = stands;
        out = part text gone call.out call.out_after w;
        diag = told_fault call told;
      });
      out_of_memory = λ e. absurd cc;
    }

-- the causes of a line and of the status that goes with it
record Line (call : Call) (own : Status) (line : List ℕ) : Type 0 where
  no_answer : own ≢ status.Done
  no_fault : own ≢ status.WriteFault
  refusal : is_refusal own ≡ true → RefusalLine call.words call.source own line
  read : own ≡ status.ReadFault → Rose call.source.faults call.source_after.faults × (line ≡ read_fault_line)
  memory : own ≡ status.OutOfMemory → (names_command call.words ≡ true) × (line ≡ out_of_memory_line)
  had : HadToTell call line

told_line : (call : Call) (line : List ℕ) → call.out_after ≡ call.out →
    WroteAll line call.diag call.diag_after → Told call line
told_line call line same all = record { out = ap (λ (s : SinkState). s.taken) same; diag = all.taken }

-- a line that went out whole
told_headline : (call : Call) (own : Status) (line : List ℕ) → Line call own line →
    call.out_after ≡ call.out → call.status ≡ own → WroteAll line call.diag call.diag_after →
    Headline call
told_headline call own line l same is all = record {
  done = λ e. absurd (l.no_answer (sym is ∙ e));
  refused = λ e. record {
    line = line;
    refusal = subst (λ (s : Status). RefusalLine call.words call.source s line) (sym is)
        (l.refusal (sym (ap is_refusal is) ∙ e));
    told = told_line call line same all;
  };
  read_fault = λ e.
      let cause = l.read (sym is ∙ e) in
      (cause.0, subst (λ (text : List ℕ). Told call text) cause.1 (told_line call line same all));
  write_fault = λ e. absurd (l.no_fault (sym is ∙ e));
  out_of_memory = λ e.
      let cause = l.memory (sym is ∙ e) in
      (cause.0, subst (λ (text : List ℕ). Told call text) cause.1 (told_line call line same all));
}

-- a line at which `diag` failed
diag_failed_headline : (call : Call) (line : List ℕ) (gone : ℕ) → HadToTell call line →
    call.out_after ≡ call.out → call.status ≡ status.WriteFault →
    WrotePart line gone call.diag call.diag_after → Headline call
diag_failed_headline call line gone had same is w = record {
  done = λ e. absurd cc;
  refused = λ e. absurd (false≢true (sym (ap is_refusal is) ∙ e));
  read_fault = λ e. absurd cc;
  write_fault = λ _. inr (record {
    rose = w.rose;
    out = same;
    line = line;
    had = had;
    diag = part line gone call.diag call.diag_after w;
  });
  out_of_memory = λ e. absurd cc;
}

line_headline : (call : Call) (own : Status) (line : List ℕ) → Line call own line →
    call.out_after ≡ call.out → Tells own line call.status call.diag call.diag_after → Headline call
line_headline call own line l same (inl (is, all)) = told_headline call own line l same is all
line_headline call own line l same (inr (is, (gone, w))) = diag_failed_headline call line gone l.had same is w

text_headline : (call : Call) (text : List ℕ) → AnswerText call.words call.source text →
    Answers text call.status call.out call.out_after call.diag call.diag_after → Headline call
text_headline call text stands (inl (own, (all, same))) = answered_headline call text stands own all same
text_headline call text stands (inr ((gone, w), told)) = out_failed_headline call text gone stands w told

refused_line : (call : Call) (line : List ℕ) → RefusalLine call.words call.source status.Refused line →
    Line call status.Refused line
refused_line call line stands = record {
  no_answer = λ e. absurd cc;
  no_fault = λ e. absurd cc;
  refusal = λ _. stands;
  read = λ e. absurd cc;
  memory = λ e. absurd cc;
  had = inl (status.Refused, stands);
}

usage_line_stands : (call : Call) → RefusalLine call.words call.source status.Usage usage_line →
    Line call status.Usage usage_line
usage_line_stands call stands = record {
  no_answer = λ e. absurd cc;
  no_fault = λ e. absurd cc;
  refusal = λ _. stands;
  read = λ e. absurd cc;
  memory = λ e. absurd cc;
  had = inl (status.Usage, stands);
}

read_line : (call : Call) → Rose call.source.faults call.source_after.faults →
    Line call status.ReadFault read_fault_line
read_line call rose = record {
  no_answer = λ e. absurd cc;
  no_fault = λ e. absurd cc;
  refusal = λ e. absurd (false≢true e);
  read = λ _. (rose, refl);
  memory = λ e. absurd cc;
  had = inr (inl (rose, refl));
}

memory_line : (call : Call) → names_command call.words ≡ true →
    Line call status.OutOfMemory out_of_memory_line
memory_line call named = record {
  no_answer = λ e. absurd cc;
  no_fault = λ e. absurd cc;
  refusal = λ e. absurd (false≢true e);
  read = λ e. absurd cc;
  memory = λ _. (named, refl);
  had = inr (inr (named, refl));
}

headline_by : (call : Call) (found : Answer) → HasCause call.words call.source call.source_after found →
    Delivers found call.status call.out call.out_after call.diag call.diag_after → Headline call
headline_by call (answer.Text text) cause d = text_headline call text.items cause d
headline_by call (answer.Refused line) cause d =
    line_headline call status.Refused line.items (refused_line call line.items cause) d.0 d.1
headline_by call answer.NotBuilt cause d =
    line_headline call status.Refused not_built_line (refused_line call not_built_line cause) d.0 d.1
headline_by call answer.Usage cause d =
    line_headline call status.Usage usage_line (usage_line_stands call cause) d.0 d.1
headline_by call answer.ReadFault cause d =
    line_headline call status.ReadFault read_fault_line (read_line call cause) d.0 d.1
headline_by call answer.OutOfMemory cause d =
    line_headline call status.OutOfMemory out_of_memory_line (memory_line call cause) d.0 d.1

-- what was found and delivered keeps the headline
pub headline : (call : Call) (found : Answer) → Finds call.words call.source call.source_after found →
    Delivers found call.status call.out call.out_after call.diag call.diag_after → Headline call
headline call found finds d = headline_by call found finds.cause d
