-- The machine reads lets.
use Rattle.std.proofs.Common.{◌≡◌, ◌∙◌, sym, ap, subst, refl, arith, ℕ, suc, ◌+◌, ◌≤◌, max, Bool}
use Rattle.std.proofs.Common.{true, false, List, [], ◌∷◌, ◌++◌, Some, None, codes, length}
use Rattle.std.proofs.Common.{if◌then◌else◌}
use Rattle.std.specs.Prelude.{◌==◌}
use Rattle.std.proofs.lemmas.Bool.{le-leb, cond-true}
use Rattle.std.proofs.lemmas.List.{append_assoc, append-nil}
use Rattle.mdl_lexer.specs.declared.token.Token.{Token}
use Rattle.mdl_lexer.specs.declared.token.Kind.TheVariants as kind
use Rattle.mdl_syntax.specs.declared.names.Span.{Span}
use Rattle.mdl_syntax.specs.declared.types.TypeTree.{TypeTree}
use Rattle.mdl_syntax.specs.declared.types.Freq.{Freq}
use Rattle.mdl_syntax.specs.Words.{frequency_words}
use Rattle.mdl_syntax.specs.Heights.{height, initializers_height}
use Rattle.mdl_syntax.specs.Trees.{Tree, Initializer, binding, initializers_of}
use Rattle.expression_grammar.specs.inside.Machine.{Sort, Mode, Frame, Head, Let, goes, bad, sort_of}
use Rattle.expression_grammar.specs.inside.Machine.{mode_step, identifier, type_word, double_colon}
use Rattle.expression_grammar.specs.inside.Machine.{frequency_word, let_word, in_word, equals, semicolon}
use Rattle.expression_grammar.specs.inside.Machine.{opening_brace, closing_brace, taken, asked, wanted}
use Rattle.expression_grammar.specs.inside.Machine.{is_deferred, in_type, part_wanted, part_read}
use Rattle.expression_grammar.specs.inside.Machine.{word_read, let_begun, head_wanted, type_wanted}
use Rattle.expression_grammar.specs.inside.Machine.{equals_wanted, next_wanted, in_wanted, in_let}
use Rattle.expression_grammar.specs.inside.Machine.{in_initializer, in_body, within, head_step, longer_let}
use Rattle.expression_grammar.specs.inside.Machine.{first_part, absolute_path, word_name, ident_at}
use Rattle.expression_grammar.specs.inside.Machine.{from_to, span_of}
use Rattle.expression_grammar.specs.inside.Leads.{Leads, here}
use Rattle.expression_grammar.specs.inside.Sound.{IsMark, IsReserved, place}
use Rattle.expression_grammar.specs.inside.Wrote.{TypeWrote}
use Rattle.expression_grammar.proofs.ReadsSorts.{by_sort, type_sort, frequency_sort}
use Rattle.expression_grammar.proofs.ReadsEdges.{path_read, within_room, Entry, from_wanted, entry_acts}
use Rattle.expression_grammar.proofs.ReadsEdges.{deeper}
use Rattle.expression_grammar.proofs.ReadsNames.{NameStart, PathStep, Reads, Law}
use Rattle.expression_grammar.proofs.ReadsTypes.{type_reads}
use Rattle.expression_grammar.proofs.HeightLaws.{some_height}
use Rattle.expression_grammar.proofs.LeadsLaws.{leads_on, leads_past, one_step, step_on}

-- where an initializer begins: the state acts as one where its head is wanted
pub data HeadEntry : Mode → List Frame → List Frame → Type 0 where
  from_let : (at : ℕ) (frames : List Frame) →
      HeadEntry (let_begun at) frames
      (in_let (record { at = at; braces = false; initializers = [] }) ∷ frames)
  from_head : (frames : List Frame) → HeadEntry head_wanted frames frames
  from_next : (frames : List Frame) → HeadEntry next_wanted frames frames

abbrev BeginsHead : Sort → Type 0
BeginsHead (identifier text) = Unit {0}
BeginsHead double_colon = Unit {0}
BeginsHead (type_word number) = Unit {0}
BeginsHead (frequency_word frequency) = Unit {0}
BeginsHead sort = ⊥

head_acts : (limit : ℕ) (mode : Mode) (frames0 frames : List Frame) (sort : Sort) (at : Span) →
    HeadEntry mode frames0 frames → BeginsHead sort → mode_step limit mode frames0 sort at
    ≡ head_step frames sort at
head_acts limit mode frames0 frames opening_brace at entry begins = absurd begins
head_acts limit mode frames0 frames closing_brace at entry begins = absurd begins
head_acts limit mode frames0 frames sort at (from_let _ _) begins = refl
head_acts limit mode frames0 frames sort at (from_head _) begins = refl
head_acts limit mode frames0 frames sort at (from_next _) begins = refl

abbrev plain_head : ℕ → Head
plain_head at = record { at = at; frequency = None }

-- a type may begin behind a frequency
behind_frequency : (strict : Bool) (limit : ℕ) (head : Head) (frames : List Frame) (begin : ℕ) →
    NameStart strict limit (in_type head) (type_wanted head) frames frames begin
behind_frequency strict limit head frames begin = record {
  at_identifier = λ word text same is. record {
    after = part_read (in_type head) (first_part text (place word));
    is = by_sort strict limit (type_wanted head) frames word (identifier text)
        (part_read (in_type head) (first_part text (place word))) frames (ap sort_of is)
        tt refl refl;
    edge = path_read (in_type head) (first_part text (place word)) frames;
  };
  at_colons = λ mark same is. by_sort strict limit (type_wanted head) frames mark double_colon
      (part_wanted (in_type head) (absolute_path (place mark))) frames (ap sort_of is.is)
      tt refl refl;
  at_word = λ word number same is is_type.
      by_sort strict limit (type_wanted head) frames word (type_word number)
      (word_read (in_type head) (word_name number (place word))) frames
      (ap sort_of is ∙ type_sort number is_type) tt refl refl;
}

-- and where an initializer begins
in_front : (strict : Bool) (limit : ℕ) (mode : Mode) (frames0 frames : List Frame) (begin : ℕ) →
    HeadEntry mode frames0 frames → NameStart strict limit (in_type (plain_head begin)) mode frames0
    frames begin
in_front strict limit mode frames0 frames begin entry = record {
  at_identifier = λ word text same is.
      subst (λ n. PathStep strict limit (in_type (plain_head n)) mode frames0 frames word
      (first_part text (place word))) same (record {
        after = part_read (in_type (plain_head word.at)) (first_part text (place word));
        is = by_sort strict limit mode frames0 word (identifier text)
            (part_read (in_type (plain_head word.at)) (first_part text (place word))) frames
            (ap sort_of is) tt refl (head_acts limit mode frames0 frames (identifier text)
            (place word) entry tt);
        edge = path_read (in_type (plain_head word.at)) (first_part text (place word)) frames;
      });
  at_colons = λ mark same is. subst (λ n. taken strict limit mode frames0 mark
      ≡ goes (part_wanted (in_type (plain_head n)) (absolute_path (place mark))) frames) same
      (by_sort strict limit mode frames0 mark double_colon
      (part_wanted (in_type (plain_head mark.at)) (absolute_path (place mark))) frames
      (ap sort_of is.is) tt refl (head_acts limit mode frames0 frames double_colon (place mark)
      entry tt));
  at_word = λ word number same is is_type.
      subst (λ n. taken strict limit mode frames0 word ≡ goes (word_read (in_type (plain_head n))
      (word_name number (place word))) frames) same (by_sort strict limit mode frames0 word
      (type_word number) (word_read (in_type (plain_head word.at)) (word_name number (place word)))
      frames (ap sort_of is ∙ type_sort number is_type) tt refl
      (head_acts limit mode frames0 frames (type_word number) (place word) entry tt));
}

-- Initializers.

abbrev behind_initializer : Bool → Mode
behind_initializer braces = if braces then next_wanted else in_wanted

abbrev let_with : ℕ → Bool → List Initializer → Let
let_with at braces initializers = record { at = at; braces = braces; initializers = initializers }

not_deferred : (braces : Bool) → is_deferred (behind_initializer braces) ≡ false
not_deferred true = refl
not_deferred false = refl

abbrev pub InitializerLaw : Bool → ℕ → Initializer → List Token → Type 0
InitializerLaw strict limit first tokens =
    (mode : Mode) (frames0 frames : List Frame) (at : ℕ) (braces : Bool) (done : List Initializer) →
    HeadEntry mode frames0 (in_let (let_with at braces done) ∷ frames) →
    suc (length frames) + height first.3 ≤ limit →
    Leads strict limit mode frames0 tokens (behind_initializer braces)
    (in_let (let_with at braces (done ++ first ∷ [])) ∷ frames)

-- behind the type come the name, `=`, the value and `;`
value_leads : (strict : Bool) (limit : ℕ) (head : Head) (ty : TypeTree) (text : List ℕ)
    (value : Tree) (mode : Mode) (word mark end : Token) (tokens : List Token) (frames : List Frame)
    (at : ℕ) (braces : Bool) (done : List Initializer) → word.kind ≡ kind.Word text →
    IsMark mark (codes "=") → IsMark end (codes ";") → Law strict limit value tokens →
    ((name : List ℕ) (span : Span) → mode_step limit mode (in_let (let_with at braces done)
    ∷ frames) (identifier name) span ≡ goes (equals_wanted head ty (ident_at name span))
    (in_let (let_with at braces done) ∷ frames)) → suc (length frames) + height value ≤ limit →
    Leads strict limit mode (in_let (let_with at braces done) ∷ frames)
    (word ∷ mark ∷ (tokens ++ end ∷ [])) (behind_initializer braces)
    (in_let (let_with at braces (done ++ (
      head.frequency,
      ty,
      ident_at text (place word),
      value,
      from_to head.at end.end,
    ) ∷ [])) ∷ frames)
value_leads strict limit head ty text value mode word mark end tokens frames at braces done is
    is_mark is_end law at_word room =
    let held = let_with at braces done in
    let name = ident_at text (place word) in
    let outer = in_let held ∷ frames in
    let inner = in_initializer held head ty name ∷ frames in
    let read = law wanted inner inner (from_wanted inner) (omega arith) room in
    let last = in_let (longer_let held head ty name value end.end) ∷ frames in
    step_on (by_sort strict limit mode outer word (identifier text) (equals_wanted head ty name)
    outer (ap sort_of is) tt refl (at_word text (place word)))
    (step_on (by_sort strict limit (equals_wanted head ty name) outer mark equals wanted inner
    (ap sort_of is_mark.is) tt refl refl)
    (leads_on read.leads (one_step (by_sort strict limit read.last read.last_frames end semicolon
    (behind_initializer braces) last (ap sort_of is_end.is) tt (not_deferred braces)
    (read.edge.acts semicolon (place end) tt)))))

pub with_frequency_law : (strict : Bool) (limit : ℕ) (front word mark end : Token)
    (frequency : Freq) (ty : TypeTree) (text : List ℕ) (value : Tree) (types tokens : List Token) →
    frequency_words (Some frequency) ≡ front.kind ∷ [] → TypeWrote strict ty types →
    word.kind ≡ kind.Word text → IsMark mark (codes "=") → Law strict limit value tokens →
    IsMark end (codes ";") → InitializerLaw strict limit (
      Some frequency,
      ty,
      ident_at text
          (place word),
      value,
      from_to front.at end.end,
    ) (front ∷ (types ++ word ∷ mark ∷ (tokens
    ++ end ∷ [])))
with_frequency_law strict limit front word mark end frequency ty text value types tokens is_front
    wrote is is_mark law is_end mode frames0 frames at braces done entry room =
    let head : Head = record { at = front.at; frequency = Some frequency } in
    let outer = in_let (let_with at braces done) ∷ frames in
    let last = in_let (let_with at braces (done ++ (
      Some frequency,
      ty,
      ident_at text (place word),
      value,
      from_to front.at end.end,
    ) ∷ [])) ∷ frames in
    let read = type_reads strict limit head (type_wanted head) outer outer ty types
    (behind_frequency strict limit head outer ty.span.at) wrote in
    step_on (by_sort strict limit mode frames0 front (frequency_word frequency) (type_wanted head)
    outer (frequency_sort frequency front.kind is_front) tt refl (head_acts limit mode frames0 outer
    (frequency_word frequency) (place front) entry tt))
    (leads_on read.leads (value_leads strict limit head ty text value read.last word mark end tokens
    frames at braces done is is_mark is_end law read.at_word room))

pub without_frequency_law : (strict : Bool) (limit : ℕ) (word mark end : Token) (ty : TypeTree)
    (text : List ℕ) (value : Tree) (types tokens : List Token) → TypeWrote strict ty types →
    word.kind ≡ kind.Word text → IsMark mark (codes "=") → Law strict limit value tokens →
    IsMark end (codes ";") → InitializerLaw strict limit (
      None,
      ty,
      ident_at text (place word),
      value,
      from_to ty.span.at end.end,
    ) (types ++ word ∷ mark ∷ (tokens ++ end ∷ []))
without_frequency_law strict limit word mark end ty text value types tokens wrote is is_mark law
    is_end mode frames0 frames at braces done entry room =
    let head = plain_head ty.span.at in
    let outer = in_let (let_with at braces done) ∷ frames in
    let last = in_let (let_with at braces (done ++ (
      None,
      ty,
      ident_at text (place word),
      value,
      from_to ty.span.at end.end,
    ) ∷ [])) ∷ frames in
    let read = type_reads strict limit head mode frames0 outer ty types
    (in_front strict limit mode frames0 outer ty.span.at entry) wrote in
    leads_on read.leads (value_leads strict limit head ty text value read.last word mark end tokens
    frames at braces done is is_mark is_end law read.at_word room)

abbrev pub InitializersLaw : Bool → ℕ → List Initializer → List Token → Type 0
InitializersLaw strict limit more tokens =
    (frames : List Frame) (at : ℕ) (done : List Initializer) →
    suc (length frames) + initializers_height (initializers_of more) ≤ limit →
    Leads strict limit next_wanted (in_let (let_with at true done) ∷ frames) tokens next_wanted
    (in_let (let_with at true (done ++ more)) ∷ frames)

pub no_initializers_law : (strict : Bool) (limit : ℕ) → InitializersLaw strict limit [] []
no_initializers_law strict limit frames at done room =
    let outer = in_let (let_with at true done) ∷ frames in
    subst (λ all. Leads strict limit next_wanted outer [] next_wanted
    (in_let (let_with at true all) ∷ frames)) (sym (append-nil done)) (here next_wanted outer)

height_with : (first : Initializer) (more : List Initializer) →
    initializers_height (initializers_of (first ∷ more)) ≡ max (height first.3)
    (initializers_height (initializers_of more))
height_with (frequency, ty, name, value, span) more = refl

pub one_more_initializer_law : (strict : Bool) (limit : ℕ) (first : Initializer)
    (more : List Initializer) (tokens others : List Token) →
    InitializerLaw strict limit first tokens → InitializersLaw strict limit more others →
    InitializersLaw strict limit (first ∷ more) (tokens ++ others)
one_more_initializer_law strict limit first more tokens others first_law more_law frames at done
    room =
    let outer = in_let (let_with at true done) ∷ frames in
    let inner = in_let (let_with at true (done ++ first ∷ [])) ∷ frames in
    let last = in_let (let_with at true ((done ++ first ∷ []) ++ more)) ∷ frames in
    subst (λ all. Leads strict limit next_wanted outer (tokens ++ others) next_wanted
    (in_let (let_with at true all) ∷ frames)) (append_assoc done (first ∷ []) more)
    (leads_on (first_law next_wanted outer frames at true done (from_next outer)
    (omega (arith, room, height_with first more))) (more_law frames at (done ++ first ∷ [])
    (omega (arith, room, height_with first more))))

-- The lets themselves.

let_takes : (strict : Bool) (limit : ℕ) (mode : Mode) (frames0 frames : List Frame) (word : Token) →
    IsReserved word (codes "let") → Entry mode frames0 frames → asked frames ≤ 0 →
    length frames + 2 ≤ limit → taken strict limit mode frames0 word ≡ goes (let_begun word.at)
    frames
let_takes strict limit mode frames0 frames word is entry low room =
    let none : asked frames ≡ 0 = omega (arith, low) in
    by_sort strict limit mode frames0 word let_word (let_begun word.at) frames (ap sort_of is.is) tt
    refl (entry_acts limit mode frames0 frames let_word (place word) entry tt ∙ cond-true
    (asked frames == 0) (within limit frames 2 (goes (let_begun word.at) frames)) bad
    (ap (λ n. n == 0) none) ∙ within_room limit frames 2 (goes (let_begun word.at) frames) room)

-- `in` and the body
body_reads : (strict : Bool) (limit : ℕ) (held : Let) (in_token : Token) (body : Tree)
    (bodies : List Token) (frames : List Frame) → IsReserved in_token (codes "in") →
    Law strict limit body bodies → suc (length frames) + height body ≤ limit →
    Reads strict limit in_wanted (in_let held ∷ frames) frames
    (binding held.braces (initializers_of held.initializers) body
    (from_to held.at (span_of body).end)) (in_token ∷ bodies)
body_reads strict limit held in_token body bodies frames is law room =
    let inner = in_body held ∷ frames in
    let read = law wanted inner inner (from_wanted inner) (omega arith) room in record {
      last = read.last;
      last_frames = read.last_frames;
      leads = step_on {last = read.last} {last_frames = read.last_frames}
          (by_sort strict limit in_wanted (in_let held ∷ frames) in_token in_word
          wanted inner (ap sort_of is.is) tt refl refl) read.leads;
      edge = deeper limit (in_body held) frames body read.last read.last_frames read.edge (record {
        low = omega arith;
        under = omega arith;
        tight = λ grip fits. le-leb grip 0 fits;
        plain = tt;
      });
    }

pub plain_let_law : (strict : Bool) (limit : ℕ) (word in_token : Token) (initializer : Initializer)
    (body : Tree) (tokens bodies : List Token) → IsReserved word (codes "let") →
    InitializerLaw strict limit initializer tokens → IsReserved in_token (codes "in") →
    Law strict limit body bodies →
    Law strict limit (binding false (initializers_of (initializer ∷ [])) body
    (from_to word.at (span_of body).end)) (word ∷ (tokens ++ in_token ∷ bodies))
plain_let_law strict limit word in_token initializer body tokens bodies is first_law is_in law mode
    frames0 frames entry low room =
    let held = let_with word.at false (initializer ∷ []) in
    let read = body_reads strict limit held in_token body bodies frames is_in law
    (omega (arith, room)) in record {
      last = read.last;
      last_frames = read.last_frames;
      leads = step_on {last = read.last} {last_frames = read.last_frames}
          (let_takes strict limit mode frames0 frames word is entry low
          (omega (arith, room, some_height body)))
          (leads_on {last = read.last} {last_frames = read.last_frames}
          (first_law (let_begun word.at) frames frames word.at false []
          (from_let word.at frames) (omega (arith, room, height_with initializer []))) read.leads);
      edge = read.edge;
    }

pub braced_let_law : (strict : Bool) (limit : ℕ) (word brace close in_token : Token)
    (first : Initializer) (more : List Initializer) (body : Tree)
    (firsts others bodies : List Token) → IsReserved word (codes "let") → IsMark brace (codes "{") →
    InitializerLaw strict limit first firsts → InitializersLaw strict limit more others →
    IsMark close (codes "}") → IsReserved in_token (codes "in") → Law strict limit body bodies →
    Law strict limit (binding true (initializers_of (first ∷ more)) body
    (from_to word.at (span_of body).end))
    (word ∷ brace ∷ (firsts ++ (others ++ close ∷ in_token ∷ bodies)))
braced_let_law strict limit word brace close in_token first more body firsts others bodies is
    is_brace first_law more_law is_close is_in law mode frames0 frames entry low room =
    let none = in_let (let_with word.at true []) ∷ frames in
    let one = in_let (let_with word.at true (first ∷ [])) ∷ frames in
    let held = let_with word.at true (first ∷ more) in
    let all = in_let held ∷ frames in
    let read = body_reads strict limit held in_token body bodies frames is_in law
    (omega (arith, room)) in record {
      last = read.last;
      last_frames = read.last_frames;
      leads = step_on {last = read.last} {last_frames = read.last_frames}
          (let_takes strict limit mode frames0 frames word is entry low
          (omega (arith, room, some_height body)))
          (step_on {last = read.last} {last_frames = read.last_frames}
          (by_sort strict limit (let_begun word.at) frames brace opening_brace head_wanted none
          (ap sort_of is_brace.is) tt refl refl)
          (leads_on {last = read.last} {last_frames = read.last_frames} (first_law head_wanted none
          frames word.at true [] (from_head none) (omega (arith, room, height_with first more)))
          (leads_past {last = read.last} {last_frames = read.last_frames} close
          (more_law frames word.at (first ∷ []) (omega (arith, room, height_with first more)))
          (by_sort strict limit next_wanted all close
          closing_brace in_wanted all (ap sort_of is_close.is) tt refl refl) read.leads)));
      edge = read.edge;
    }
