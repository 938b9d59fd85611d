-- The machine of modules reads parameters, once annotations and defaults are read.
use Rattle.std.proofs.Common.{◌≡◌, ◌∙◌, sym, ap, subst, refl, arith, ℕ, ◌≤◌, Bool, List, []}
use Rattle.std.proofs.Common.{◌∷◌, ◌++◌, codes, Option, Some, None}
use Rattle.std.proofs.lemmas.List.{append_assoc, append-nil}
use Rattle.mdl_lexer.specs.declared.token.Token.{Token}
use Rattle.mdl_syntax.specs.declared.names.Span.{Span}
use Rattle.mdl_syntax.specs.Trees.{Tree}
use Rattle.mdl_syntax.specs.Modules.{Annotation, Parameter}
use Rattle.mdl_syntax.specs.AcceptedModules.{highest, parameter_height, value_height}
use Rattle.mdl_syntax.specs.AcceptedModules.{annotations_height}
use Rattle.expression_grammar.specs.inside.Machine.{sort_of, comma, opening, closing, equals, wanted}
use Rattle.expression_grammar.specs.inside.Machine.{ident_at}
use Rattle.module_grammar.specs.inside.ModuleMachine.{state_step}
use Rattle.module_grammar.specs.inside.ModuleStates.{State, on, within, Begun, Owner}
use Rattle.module_grammar.specs.inside.ModuleStates.{Front, of_function, of_annotation, a_parameter}
use Rattle.module_grammar.specs.inside.ModuleStates.{declared, annotation_named, parameters_begun}
use Rattle.module_grammar.specs.inside.ModuleMachine.{parameters_state}
use Rattle.module_grammar.specs.inside.ModuleStates.{parameter_read, parameter_next}
use Rattle.module_grammar.specs.inside.ModuleStates.{parameter_from, expression, in_default}
use Rattle.module_grammar.specs.inside.ModuleMachine.{front_from}
use Rattle.module_grammar.specs.inside.ModuleStates.{first_annotation, annotated}
use Rattle.module_grammar.specs.inside.ModuleMachine.{permitted_state}
use Rattle.expression_grammar.specs.inside.Sound.{IsMark, place}
use Rattle.module_grammar.specs.inside.WroteModules.{ValueWrote, no_value, a_value, AnnotationsWrote}
use Rattle.module_grammar.specs.inside.WroteModules.{not_annotated, annotations_tokens, ParameterWrote}
use Rattle.module_grammar.specs.inside.WroteModules.{parameter_tokens, ParametersWrote, parameters_in}
use Rattle.module_grammar.specs.inside.WroteModules.{MoreWrote, no_more, one_more, SeveralWrote}
use Rattle.module_grammar.specs.inside.WroteModules.{not_any, several}
use Rattle.module_grammar.proofs.ModuleReadsParts.{Way, way_on, stay, by_sort}
use Rattle.module_grammar.proofs.ModuleReadsNotes.{InnerLaw, NotesEdge, unnoted, noted, notes_read}
use Rattle.module_grammar.proofs.ModuleReadsFronts.{head_of}
use Rattle.module_grammar.proofs.ModuleReadsSites.{DefaultLaw}
use Rattle.module_grammar.proofs.ModuleReadsDeferred.{Reads, At, reached, with_deferred, reads_behind}
use Rattle.module_grammar.proofs.ModuleReadsDeferred.{reads_on, reads_plain}
use Rattle.module_grammar.proofs.ModuleReadsParameterFronts.{ParameterStart, first_start, next_start}
use Rattle.module_grammar.proofs.ModuleReadsParameterFronts.{parameter_front_reads, named_parameter}

-- the state acts as if these parameters had been read
pub record ParameterEdge (limit : ℕ) (begun : Begun) (owner : Owner) (parameters : List Parameter)
    (state : State) : Type 0 where
  pub at_comma : (number : ℕ) (own : Span) → state_step limit number state comma own
      ≡ on (within begun (parameter_next owner parameters))
  pub at_closing : (number : ℕ) (own : Span) → state_step limit number state closing own
      ≡ on (within begun (parameters_state owner parameters))

record ParameterRest (strict : Bool) (limit : ℕ) (begun : Begun) (owner : Owner)
    (parameters : List Parameter) (state : State) (tokens : List Token) : Type 0 where
  last : State
  leads : Way strict limit state tokens last
  edge : ParameterEdge limit begun owner parameters last

plain_edge : (limit : ℕ) (begun : Begun) (owner : Owner) (done : List Parameter) (front : Front)
    (annotations : Option (List Annotation)) (end : ℕ) (state : State) →
    NotesEdge begun (a_parameter owner done front None)
    (within begun (parameter_read owner done front)) front.name.span.end annotations end state →
    ParameterEdge limit begun owner (done ++ parameter_from front None annotations end ∷ []) state
plain_edge limit begun owner done front annotations end state unnoted =
    record { at_comma = λ number own. refl; at_closing = λ number own. refl }
plain_edge limit begun owner done front annotations end state (noted _ _) =
    record { at_comma = λ number own. refl; at_closing = λ number own. refl }

-- behind the name of a parameter
parameter_rest : (strict : Bool) (limit : ℕ) → InnerLaw strict limit → DefaultLaw strict limit →
    (begun : Begun) (owner : Owner) (done : List Parameter) (front : Front) (default : Option Tree)
    (behind : ℕ) (annotations : Option (List Annotation)) (end : ℕ) (values notes : List Token) →
    ValueWrote strict front.name.span.end default behind values →
    AnnotationsWrote strict behind annotations end notes → value_height default ≤ limit →
    annotations_height annotations ≤ limit →
    ParameterRest strict limit begun owner
    (done ++ parameter_from front default annotations end ∷ [])
    (within begun (parameter_read owner done front)) (values ++ notes)
parameter_rest strict limit inner law begun owner done front default behind annotations end values
    notes no_value notes_wrote low notes_low =
    let read = notes_read strict limit inner begun (a_parameter owner done front None)
    (within begun (parameter_read owner done front)) front.name.span.end annotations end notes
    (λ n at. refl) notes_wrote notes_low in record {
      last = read.last;
      leads = read.leads;
      edge = plain_edge limit begun owner done front annotations end read.last read.edge;
    }
parameter_rest strict limit inner law begun owner done front default behind annotations end values
    notes (a_value mark tree tokens m wrote) not_annotated low notes_low =
    let read = law begun owner done front tree tokens wrote low in record {
      last = read.last;
      leads = by_sort (within begun (expression (in_default owner done front) wanted [])) equals
          (ap sort_of m.is) tt (λ number. refl) refl (way_on read.last read.leads stay);
      edge = record { at_comma = read.at_comma; at_closing = read.at_closing };
    }
parameter_rest strict limit inner law begun owner done front default behind annotations end values
    notes (a_value mark tree tokens m wrote)
    (annotations_tokens one two list own three four o w several_wrote t f) low notes_low =
    let read = law begun owner done front tree tokens wrote low in record {
      last = within begun (annotated (a_parameter owner done front (Some tree)) list four.end);
      leads = by_sort (within begun (expression (in_default owner done front) wanted [])) equals
          (ap sort_of m.is) tt (λ number. refl) refl
          (way_on read.last read.leads
          (way_on (within begun (first_annotation (a_parameter owner done front (Some tree))))
          (read.at_brackets one two o w)
          (inner begun (a_parameter owner done front (Some tree)) list own three four several_wrote
          t f notes_low)));
      edge = record { at_comma = λ number own. refl; at_closing = λ number own. refl };
    }

-- the edge with the place of the first size that is deferred
abbrev EdgeOf : ℕ → Begun → Owner → List Parameter → Option ℕ → State → Type 0
EdgeOf limit begun owner parameters d state =
    ParameterEdge limit begun (with_deferred owner d) parameters state

rest_reads : (sized strict : Bool) (limit : ℕ) → InnerLaw strict limit → DefaultLaw strict limit →
    (begun : Begun) (owner : Owner) (done : List Parameter) (front : Front) (default : Option Tree)
    (behind : ℕ) (annotations : Option (List Annotation)) (end : ℕ) (values notes : List Token) →
    ValueWrote strict front.name.span.end default behind values →
    AnnotationsWrote strict behind annotations end notes → value_height default ≤ limit →
    annotations_height annotations ≤ limit → (d : Option ℕ) (mid : State) →
    At (λ e. within begun (parameter_read (with_deferred owner e) done front)) d mid → (n : ℕ) →
    Reads sized strict limit n mid d (values ++ notes)
    (EdgeOf limit begun owner (done ++ parameter_from front default annotations end ∷ []))
rest_reads sized strict limit inner law begun owner done front default behind annotations end values
    notes v a low notes_low d mid (reached _) n =
    let rest = parameter_rest strict limit inner law begun (with_deferred owner d) done front
    default behind annotations end values notes v a low notes_low in
    reads_plain sized strict limit n (within begun (parameter_read (with_deferred owner d) done
    front)) rest.last d (values ++ notes)
    (EdgeOf limit begun owner (done ++ parameter_from front default annotations end ∷ []))
    rest.leads rest.edge

parameter_reads : (sized strict : Bool) (limit : ℕ) → InnerLaw strict limit →
    DefaultLaw strict limit → (begun : Begun) (owner : Owner) (d : Option ℕ)
    (done : List Parameter) (state : State) (one : Parameter) (tokens : List Token) →
    ParameterStart limit begun (with_deferred owner d) done state →
    ParameterWrote sized strict one tokens → parameter_height one ≤ limit → (number : ℕ) →
    Reads sized strict limit number state d tokens
    (EdgeOf limit begun owner (done ++ one ∷ []))
parameter_reads sized strict limit inner law begun owner d done state one tokens start
    (parameter_tokens frequency at ty word text default behind annotations end fronts types values
    notes f t n v a) low number =
    let head = head_of at frequency in
    let name = ident_at text (place word) in
    let edge = EdgeOf limit begun owner (done ++ one ∷ []) in
    subst (λ list. Reads sized strict limit number state d list edge)
    (append_assoc fronts (types ++ word ∷ []) (values ++ notes)
    ∙ ap (λ list. fronts ++ list) (append_assoc types (word ∷ []) (values ++ notes)))
    (reads_on sized strict limit number state d (fronts ++ (types ++ word ∷ [])) (values ++ notes)
    (At (named_parameter begun owner done head ty name)) edge
    (parameter_front_reads sized strict limit begun owner d done state frequency at ty fronts types
    word text start f t n number)
    (rest_reads sized strict limit inner law begun owner done (front_from head ty name) default
    behind annotations end values notes v a (omega (arith, low)) (omega (arith, low))))

more_parameters : (sized strict : Bool) (limit : ℕ) → InnerLaw strict limit →
    DefaultLaw strict limit → (begun : Begun) (owner : Owner) (done more : List Parameter)
    (tokens : List Token) → MoreWrote (ParameterWrote sized strict) more tokens →
    highest parameter_height more ≤ limit → (d : Option ℕ) (state : State) →
    EdgeOf limit begun owner done d state → (number : ℕ) →
    Reads sized strict limit number state d tokens (EdgeOf limit begun owner (done ++ more))
more_parameters sized strict limit inner law begun owner done more tokens no_more low d state edge
    number =
    subst (λ list. Reads sized strict limit number state d [] (EdgeOf limit begun owner list))
    (sym (append-nil done))
    (reads_plain sized strict limit number state state d [] (EdgeOf limit begun owner done) stay
    edge)
more_parameters sized strict limit inner law begun owner done more tokens
    (one_more mark first others own behind m one_wrote more_wrote) low d state edge number =
    let then = within begun (parameter_next (with_deferred owner d) done) in
    let way : Way strict limit state (mark ∷ []) then =
    by_sort then comma (ap sort_of m.is) tt (λ n. edge.at_comma n (place mark)) refl stay in
    let last = EdgeOf limit begun owner ((done ++ first ∷ []) ++ others) in
    subst (λ list. Reads sized strict limit number state d (mark ∷ (own ++ behind))
    (EdgeOf limit begun owner list)) (append_assoc done (first ∷ []) others)
    (reads_behind sized strict limit number state then d (mark ∷ []) (own ++ behind) last
    (way number)
    (λ n. reads_on sized strict limit n then d own behind
    (EdgeOf limit begun owner (done ++ first ∷ [])) last
    (parameter_reads sized strict limit inner law begun owner d done then first own
    (next_start limit begun (with_deferred owner d) done) one_wrote (omega (arith, low)) n)
    (more_parameters sized strict limit inner law begun owner (done ++ first ∷ []) others behind
    more_wrote (omega (arith, low)))))

-- `)` behind all parameters
abbrev pub ParametersAt : Begun → Owner → List Parameter → Option ℕ → State → Type 0
ParametersAt begun owner parameters =
    At (λ d. within begun (parameters_state (with_deferred owner d) parameters))

state_permitted : (begun : Begun) (owner : Owner) (parameters : List Parameter) →
    permitted_state (within begun (parameters_state owner parameters))
    ≡ on (within begun (parameters_state owner parameters))
state_permitted begun (of_function fronted) parameters = refl
state_permitted begun (of_annotation named) parameters = refl

close_reads : (sized strict : Bool) (limit : ℕ) (begun : Begun) (owner : Owner)
    (parameters : List Parameter) (close : Token) → IsMark close (codes ")") → (d : Option ℕ)
    (state : State) → EdgeOf limit begun owner parameters d state → (number : ℕ) →
    Reads sized strict limit number state d (close ∷ []) (ParametersAt begun owner parameters)
close_reads sized strict limit begun owner parameters close c d state edge number =
    let then = within begun (parameters_state (with_deferred owner d) parameters) in
    reads_plain sized strict limit number state then d (close ∷ [])
    (ParametersAt begun owner parameters)
    (by_sort then closing (ap sort_of c.is) tt (λ n. edge.at_closing n (place close))
    (state_permitted begun (with_deferred owner d) parameters) stay)
    (reached d)

-- behind `(`
inside_reads : (sized strict : Bool) (limit : ℕ) → InnerLaw strict limit →
    DefaultLaw strict limit → (begun : Begun) (owner : Owner) (d : Option ℕ)
    (parameters : List Parameter) (tokens : List Token) (close : Token) →
    SeveralWrote (ParameterWrote sized strict) parameters tokens → IsMark close (codes ")") →
    highest parameter_height parameters ≤ limit → (number : ℕ) →
    Reads sized strict limit number (within begun (parameters_begun (with_deferred owner d))) d
    (tokens ++ close ∷ []) (ParametersAt begun owner parameters)
inside_reads sized strict limit inner law begun owner d parameters tokens close not_any c low
    number =
    let then = within begun (parameters_state (with_deferred owner d) []) in
    reads_plain sized strict limit number
    (within begun (parameters_begun (with_deferred owner d))) then d (close ∷ [])
    (ParametersAt begun owner [])
    (by_sort then closing (ap sort_of c.is) tt (λ n. refl)
    (state_permitted begun (with_deferred owner d) []) stay)
    (reached d)
inside_reads sized strict limit inner law begun owner d parameters tokens close
    (several first more own others one_wrote more_wrote) c low number =
    let state = within begun (parameters_begun (with_deferred owner d)) in
    let whole = EdgeOf limit begun owner (first ∷ more) in
    reads_on sized strict limit number state d (own ++ others) (close ∷ []) whole
    (ParametersAt begun owner (first ∷ more))
    (reads_on sized strict limit number state d own others (EdgeOf limit begun owner (first ∷ []))
    whole
    (parameter_reads sized strict limit inner law begun owner d [] state first own
    (first_start limit begun (with_deferred owner d)) one_wrote (omega (arith, low)) number)
    (more_parameters sized strict limit inner law begun owner (first ∷ []) more others more_wrote
    (omega (arith, low))))
    (close_reads sized strict limit begun owner (first ∷ more) close c)

-- before `(`
abbrev pub owner_state : Begun → Owner → State
owner_state begun (of_function fronted) = within begun (declared fronted)
owner_state begun (of_annotation named) = within begun (annotation_named named)

opens : (limit number : ℕ) (begun : Begun) (owner : Owner) (own : Span) →
    state_step limit number (owner_state begun owner) opening own
    ≡ on (within begun (parameters_begun owner))
opens limit number begun (of_function fronted) own = refl
opens limit number begun (of_annotation named) own = refl

-- parameters in their parentheses. From each number of a token there is a place of the first size
-- that is deferred, the one before where no size of theirs is
pub parameters_read : (sized strict : Bool) (limit : ℕ) → InnerLaw strict limit →
    DefaultLaw strict limit → (begun : Begun) (owner : Owner) (d : Option ℕ)
    (parameters : List Parameter) (tokens : List Token) →
    ParametersWrote sized strict parameters tokens →
    highest parameter_height parameters ≤ limit → (number : ℕ) →
    Reads sized strict limit number (owner_state begun (with_deferred owner d)) d tokens
    (ParametersAt begun owner parameters)
parameters_read sized strict limit inner law begun owner d parameters tokens
    (parameters_in start close _ inside s wrote c) low number =
    let state = owner_state begun (with_deferred owner d) in
    let then = within begun (parameters_begun (with_deferred owner d)) in
    let way : Way strict limit state (start ∷ []) then =
    by_sort then opening (ap sort_of s.is) tt
    (λ n. opens limit n begun (with_deferred owner d) (place start)) refl stay in
    reads_behind sized strict limit number state then d (start ∷ []) (inside ++ close ∷ [])
    (ParametersAt begun owner parameters) (way number)
    (inside_reads sized strict limit inner law begun owner d parameters inside close wrote c low)
