-- The machine of modules reads the fronts of parameters, whose sizes may be deferred.
use Rattle.std.proofs.Common.{◌≡◌, ◌∙◌, sym, ap, subst, refl, ℕ, suc, Bool, false, List, []}
use Rattle.std.proofs.Common.{◌∷◌, ◌++◌, codes, Option, Some, None}
use Rattle.std.proofs.lemmas.List.{append_assoc}
use Rattle.std.proofs.lemmas.Bool.{false≢true}
use Rattle.mdl_lexer.specs.declared.token.Token.{Token}
use Rattle.mdl_lexer.specs.declared.token.Kind.TheVariants as kind
use Rattle.mdl_syntax.specs.declared.names.Span.{Span}
use Rattle.mdl_syntax.specs.declared.names.Ident.{Ident}
use Rattle.mdl_syntax.specs.declared.names.Name.{Name}
use Rattle.mdl_syntax.specs.declared.types.Freq.{Freq}
use Rattle.mdl_syntax.specs.declared.types.Size.TheVariants as size
use Rattle.mdl_syntax.specs.declared.types.TypeTree.{TypeTree}
use Rattle.mdl_syntax.specs.Levels.{mark_number}
use Rattle.mdl_syntax.specs.Modules.{Parameter}
use Rattle.expression_grammar.specs.inside.Machine.{sort_of, Head, identifier, opening_bracket}
use Rattle.expression_grammar.specs.inside.Machine.{closing_bracket, binary_operator, frequency_word}
use Rattle.expression_grammar.specs.inside.Machine.{part_wanted, part_read, word_read, in_type, first_part}
use Rattle.expression_grammar.specs.inside.Machine.{absolute_path, word_name, type_wanted, type_bracketed}
use Rattle.expression_grammar.specs.inside.Machine.{deferred_wanted, deferred_read, deferred_closed}
use Rattle.expression_grammar.specs.inside.Machine.{name_wanted, type_of, ident_at}
use Rattle.module_grammar.specs.inside.ModuleMachine.{state_step}
use Rattle.module_grammar.specs.inside.ModuleStates.{State, on, within, Begun, Owner}
use Rattle.module_grammar.specs.inside.ModuleStates.{of_function, of_annotation, of_parameter}
use Rattle.module_grammar.specs.inside.ModuleMachine.{front_from}
use Rattle.module_grammar.specs.inside.ModuleStates.{fronting, parameter_read}
use Rattle.module_grammar.specs.inside.ModuleStates.{parameters_begun, parameter_next}
use Rattle.module_grammar.specs.inside.ModuleLeads.{next}
use Rattle.expression_grammar.specs.inside.Sound.{IsMark, place}
use Rattle.expression_grammar.specs.inside.Wrote.{TypeWrote, of_one, of_size, of_deferred}
use Rattle.module_grammar.specs.inside.WroteModules.{FrequencyWrote, no_front, a_front}
use Rattle.expression_grammar.proofs.ReadsSorts.{frequency_sort}
use Rattle.module_grammar.proofs.ModuleReadsParts.{Way, stay, by_sort, sort_taken}
use Rattle.module_grammar.proofs.ModuleReadsTypes.{FrontStart, front_reads, name_way, bracket_behind}
use Rattle.module_grammar.proofs.ModuleReadsFronts.{head_of, typed_start}
use Rattle.module_grammar.proofs.ModuleReadsDeferred.{Reads, At, reached, with_deferred, reads_behind}
use Rattle.module_grammar.proofs.ModuleReadsDeferred.{reads_plain}

-- the place of the first size that is deferred, where one is at this token
abbrev pub first_of : Option ℕ → ℕ → Option ℕ
first_of None at = Some at
first_of (Some earlier) at = Some earlier

defers : (limit number : ℕ) (begun : Begun) (owner : Owner) (d : Option ℕ)
    (done : List Parameter) (head : Head) (name : Name) (own : Span) →
    state_step limit number
    (within begun (fronting (of_parameter (with_deferred owner d) done) (type_bracketed head name)))
    (binary_operator (mark_number (codes "<")) 8) own
    ≡ on (within begun (fronting (of_parameter (with_deferred owner (first_of d number)) done)
    (deferred_wanted head name)))
defers limit number begun (of_function fronted) None done head name own = refl
defers limit number begun (of_function fronted) (Some earlier) done head name own = refl
defers limit number begun (of_annotation named) d done head name own = refl

-- behind the name of the parameter's own
abbrev pub named_parameter : Begun → Owner → List Parameter → Head → TypeTree → Ident → Option ℕ →
    State
named_parameter begun owner done head ty name d =
    within begun (parameter_read (with_deferred owner d) done (front_from head ty name))

abbrev pub FrontReads : Bool → Bool → ℕ → ℕ → Begun → Owner → Option ℕ → List Parameter → Head →
    TypeTree → Ident → State → List Token → Type 0
FrontReads sized strict limit number begun owner d done head ty name state tokens =
    Reads sized strict limit number state d tokens
    (At (named_parameter begun owner done head ty name))

-- a size that is deferred, from `<` on
deferral_reads : (sized strict : Bool) (limit number : ℕ) (begun : Begun) (owner : Owner)
    (d : Option ℕ) (done : List Parameter) (head : Head) (name : Name)
    (less own greater close word : Token) (other text : List ℕ) → sized ≡ false →
    IsMark less (codes "<") → own.kind ≡ kind.Word other → IsMark greater (codes ">") →
    IsMark close (codes "]") → word.kind ≡ kind.Word text →
    FrontReads sized strict limit number begun owner d done head
    (type_of name (size.Deferred (ident_at other (place own))) close.end)
    (ident_at text (place word))
    (within begun (fronting (of_parameter (with_deferred owner d) done) (type_bracketed head name)))
    (less ∷ own ∷ greater ∷ close ∷ word ∷ [])
deferral_reads sized strict limit number begun owner d done head name less own greater close word
    other text loose l o g c w =
    let found = first_of d number in
    let of = of_parameter (with_deferred owner found) done in
    let ident = ident_at other (place own) in
    let whole = type_of name (size.Deferred ident) close.end in
    let last = named_parameter begun owner done head whole (ident_at text (place word)) found in
    let rest : Way strict limit (within begun (fronting of (deferred_wanted head name)))
    (own ∷ greater ∷ close ∷ word ∷ []) last =
    by_sort (within begun (fronting of (deferred_read head name ident))) (identifier other)
    (ap sort_of o) tt (λ n. refl) refl
    (by_sort (within begun (fronting of (deferred_closed head name ident)))
    (binary_operator (mark_number (codes ">")) 8) (ap sort_of g.is) tt (λ n. refl) refl
    (by_sort (within begun (fronting of (name_wanted head whole))) closing_bracket
    (ap sort_of c.is) tt (λ n. refl) refl
    (by_sort last (identifier text) (ap sort_of w) tt (λ n. refl) refl stay))) in record {
      deferred = found;
      last = last;
      leads = next number (within begun (fronting (of_parameter (with_deferred owner d) done)
          (type_bracketed head name))) (within begun (fronting of (deferred_wanted head name))) last
          less (own ∷ greater ∷ close ∷ word ∷ [])
          (sort_taken strict limit number (within begun (fronting
          (of_parameter (with_deferred owner d) done) (type_bracketed head name)))
          (within begun (fronting of (deferred_wanted head name))) less
          (binary_operator (mark_number (codes "<")) 8) (ap sort_of l.is) tt
          (defers limit number begun owner d done head name (place less)) refl)
          (rest (suc number));
      edge = reached found;
      kept = λ is. absurd (false≢true (sym loose ∙ is));
    }

-- a parameter's type and its name
type_reads : (sized strict : Bool) (limit : ℕ) (begun : Begun) (owner : Owner) (d : Option ℕ)
    (done : List Parameter) (head : Head) (state : State) (ty : TypeTree) (types : List Token)
    (word : Token) (text : List ℕ) →
    FrontStart limit begun (of_parameter (with_deferred owner d) done) head state ty.span.at →
    TypeWrote sized ty types → word.kind ≡ kind.Word text → (number : ℕ) →
    FrontReads sized strict limit number begun owner d done head ty (ident_at text (place word))
    state (types ++ word ∷ [])
type_reads sized strict limit begun owner d done head state ty types word text start
    (of_one name names wrote) is number =
    reads_plain sized strict limit number state
    (named_parameter begun owner done head ty (ident_at text (place word)) d) d (types ++ word ∷ [])
    (At (named_parameter begun owner done head ty (ident_at text (place word))))
    (front_reads strict limit begun (of_parameter (with_deferred owner d) done) head state ty types
    word text start (of_one name names wrote) is)
    (reached d)
type_reads sized strict limit begun owner d done head state ty types word text start
    (of_size name names bracket digits close value wrote b n c) is number =
    reads_plain sized strict limit number state
    (named_parameter begun owner done head ty (ident_at text (place word)) d) d (types ++ word ∷ [])
    (At (named_parameter begun owner done head ty (ident_at text (place word))))
    (front_reads strict limit begun (of_parameter (with_deferred owner d) done) head state ty types
    word text start (of_size name names bracket digits close value wrote b n c) is)
    (reached d)
type_reads sized strict limit begun owner d done head state ty types word text start
    (of_deferred name names bracket less own greater close other loose wrote b l o g c) is number =
    let of = of_parameter (with_deferred owner d) done in
    let edge = At (named_parameter begun owner done head ty (ident_at text (place word))) in
    let behind = less ∷ own ∷ greater ∷ close ∷ word ∷ [] in
    let read = name_way strict limit begun of head state name names start wrote in
    let way : Way strict limit (within begun (fronting of read.mode)) (bracket ∷ [])
    (within begun (fronting of (type_bracketed head name))) =
    by_sort (within begun (fronting of (type_bracketed head name))) opening_bracket
    (ap sort_of b.is) tt
    (λ n. bracket_behind limit n begun of head name read.mode (place bracket) read.edge)
    refl stay in
    subst (λ list. Reads sized strict limit number state d list edge)
    (sym (append_assoc names (bracket ∷ less ∷ own ∷ greater ∷ close ∷ []) (word ∷ [])))
    (reads_behind sized strict limit number state (within begun (fronting of read.mode)) d names
    (bracket ∷ behind) edge (read.leads number)
    (λ m. reads_behind sized strict limit m (within begun (fronting of read.mode))
    (within begun (fronting of (type_bracketed head name))) d (bracket ∷ []) behind edge (way m)
    (λ n. deferral_reads sized strict limit n begun owner d done head name less own greater close
    word other text loose l o g c is)))

-- a parameter may begin in the state
pub record ParameterStart (limit : ℕ) (begun : Begun) (owner : Owner) (done : List Parameter)
    (state : State) : Type 0 where
  pub at_type : (begin : ℕ) →
      FrontStart limit begun (of_parameter owner done) (head_of begin None) state begin
  pub at_frequency : (number : ℕ) (frequency : Freq) (own : Span) →
      state_step limit number state (frequency_word frequency) own
      ≡ on (within begun (fronting (of_parameter owner done)
      (type_wanted (head_of own.at (Some frequency)))))

pub first_start : (limit : ℕ) (begun : Begun) (owner : Owner) →
    ParameterStart limit begun owner [] (within begun (parameters_begun owner))
first_start limit begun owner = record {
  at_type = λ begin. record {
    at_word = λ number text own same.
        ap (λ n. on (within begun (fronting (of_parameter owner [])
        (part_read (in_type (head_of n None)) (first_part text own))))) same;
    at_colons = λ number own same.
        ap (λ n. on (within begun (fronting (of_parameter owner [])
        (part_wanted (in_type (head_of n None)) (absolute_path own))))) same;
    at_type = λ number word own same.
        ap (λ n. on (within begun (fronting (of_parameter owner [])
        (word_read (in_type (head_of n None)) (word_name word own))))) same;
  };
  at_frequency = λ number frequency own. refl;
}

pub next_start : (limit : ℕ) (begun : Begun) (owner : Owner) (done : List Parameter) →
    ParameterStart limit begun owner done (within begun (parameter_next owner done))
next_start limit begun owner done = record {
  at_type = λ begin. record {
    at_word = λ number text own same.
        ap (λ n. on (within begun (fronting (of_parameter owner done)
        (part_read (in_type (head_of n None)) (first_part text own))))) same;
    at_colons = λ number own same.
        ap (λ n. on (within begun (fronting (of_parameter owner done)
        (part_wanted (in_type (head_of n None)) (absolute_path own))))) same;
    at_type = λ number word own same.
        ap (λ n. on (within begun (fronting (of_parameter owner done)
        (word_read (in_type (head_of n None)) (word_name word own))))) same;
  };
  at_frequency = λ number frequency own. refl;
}

-- a parameter up to its name
pub parameter_front_reads : (sized strict : Bool) (limit : ℕ) (begun : Begun) (owner : Owner)
    (d : Option ℕ) (done : List Parameter) (state : State) (frequency : Option Freq) (at : ℕ)
    (ty : TypeTree) (fronts types : List Token) (word : Token) (text : List ℕ) →
    ParameterStart limit begun (with_deferred owner d) done state →
    FrequencyWrote ty.span.at frequency at fronts → TypeWrote sized ty types →
    word.kind ≡ kind.Word text → (number : ℕ) →
    FrontReads sized strict limit number begun owner d done (head_of at frequency) ty
    (ident_at text (place word)) state (fronts ++ (types ++ word ∷ []))
parameter_front_reads sized strict limit begun owner d done state frequency at ty fronts types word
    text start no_front wrote is number =
    type_reads sized strict limit begun owner d done (head_of at None) state ty types word text
    (start.at_type ty.span.at) wrote is number
parameter_front_reads sized strict limit begun owner d done state frequency at ty fronts types word
    text start (a_front front own is_front) wrote is number =
    let of = of_parameter (with_deferred owner d) done in
    let head = head_of front.at (Some own) in
    let way : Way strict limit state (front ∷ []) (within begun (fronting of (type_wanted head))) =
    by_sort (within begun (fronting of (type_wanted head))) (frequency_word own)
    (frequency_sort own front.kind is_front) tt
    (λ n. start.at_frequency n own (place front)) refl stay in
    reads_behind sized strict limit number state (within begun (fronting of (type_wanted head))) d
    (front ∷ []) (types ++ word ∷ [])
    (At (named_parameter begun owner done head ty (ident_at text (place word)))) (way number)
    (λ n. type_reads sized strict limit begun owner d done head
    (within begun (fronting of (type_wanted head))) ty types word text
    (typed_start limit begun of head ty.span.at) wrote is n)
