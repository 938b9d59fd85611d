-- The machine of modules reads functions and materials, once values and annotations are read.
use Rattle.std.proofs.Common.{◌≡◌, ◌∙◌, ap, subst, refl, ℕ, ◌≤◌, Bool, true, false, List, [], ◌∷◌}
use Rattle.std.proofs.Common.{◌++◌, codes, Option, Some, None}
use Rattle.std.proofs.lemmas.Bool.{cond-false}
use Rattle.std.proofs.lemmas.List.{append_assoc}
use Rattle.mdl_lexer.specs.declared.token.Token.{Token}
use Rattle.mdl_lexer.specs.declared.token.Kind.TheVariants as kind
use Rattle.mdl_syntax.specs.declared.names.Span.{Span}
use Rattle.mdl_syntax.specs.declared.types.Freq.{Freq}
use Rattle.mdl_syntax.specs.declared.types.TypeTree.{TypeTree}
use Rattle.mdl_syntax.specs.Trees.{Tree}
use Rattle.mdl_syntax.specs.Heights.{height}
use Rattle.mdl_syntax.specs.Modules.{Annotation, Parameter, function, material}
use Rattle.mdl_syntax.specs.AcceptedModules.{highest, parameter_height, annotations_height}
use Rattle.expression_grammar.specs.inside.Machine.{sort_of, equals, semicolon, wanted, frequency_word}
use Rattle.expression_grammar.specs.inside.Machine.{ident_at, from_to}
use Rattle.module_grammar.specs.inside.ModuleMachine.{state_step}
use Rattle.module_grammar.specs.inside.ModuleStates.{State, on, within, Begun, Named}
use Rattle.module_grammar.specs.inside.ModuleStates.{Fronted, of_function, a_function, item_wanted}
use Rattle.module_grammar.specs.inside.ModuleStates.{declared, function_read, expression}
use Rattle.module_grammar.specs.inside.ModuleStates.{in_function_body, with_declaration}
use Rattle.module_grammar.specs.inside.ModuleMachine.{judged}
use Rattle.module_grammar.specs.inside.ModuleStates.{function_from, prototype_from}
use Rattle.module_grammar.specs.inside.ModuleMachine.{before_body}
use Rattle.module_grammar.specs.inside.ModuleStates.{place_of_declaration, is_material}
use Rattle.expression_grammar.specs.inside.Sound.{IsMark, place}
use Rattle.expression_grammar.specs.inside.Wrote.{Wrote, TypeWrote}
use Rattle.module_grammar.specs.inside.WroteModules.{ExportWrote, FrequencyWrote, no_front, a_front}
use Rattle.module_grammar.specs.inside.WroteModules.{AnnotationsWrote, ParametersWrote, makes_material}
use Rattle.expression_grammar.proofs.ReadsSorts.{frequency_sort}
use Rattle.module_grammar.proofs.ModuleReadsParts.{Way, way_on, stay, by_sort, by_loose}
use Rattle.module_grammar.proofs.ModuleReadsNotes.{InnerLaw, NotesEdge, unnoted, noted, notes_read}
use Rattle.module_grammar.proofs.ModuleReadsNotes.{TakesNotes}
use Rattle.module_grammar.proofs.ModuleReadsKinds.{named_of}
use Rattle.module_grammar.proofs.ModuleReadsOpenings.{declared_front_reads}
use Rattle.module_grammar.proofs.ModuleReadsSites.{DefaultLaw, BodyLaw}
use Rattle.module_grammar.proofs.ModuleReadsDeferred.{reached, fronted_of, reads_to}
use Rattle.module_grammar.proofs.ModuleReadsParameters.{parameters_read, ParametersAt}

-- a declaration up to its name, and what is behind it
pub front_on : {strict : Bool} {limit : ℕ} {last : State} {tokens : List Token} (begun : Begun)
    (early exported : Bool) (at : ℕ) (ty : TypeTree) (exports types : List Token) (named : Token)
    (text : List ℕ) → ExportWrote ty.span.at exported at exports → TypeWrote strict ty types →
    named.kind ≡ kind.Word text →
    Way strict limit (within begun (declared
    (fronted_of (named_of at exported (ident_at text (place named))) ty None))) tokens last →
    Way strict limit (within begun (item_wanted early)) (exports ++ (types ++ named ∷ tokens)) last
front_on {strict} {limit} {last} {tokens} begun early exported at ty exports types named text e t n
    rest =
    subst (λ list. Way strict limit (within begun (item_wanted early)) list last)
    (append_assoc exports (types ++ named ∷ []) tokens
    ∙ ap (λ list. exports ++ list) (append_assoc types (named ∷ []) tokens))
    (way_on (within begun (declared
    (fronted_of (named_of at exported (ident_at text (place named))) ty None)))
    (declared_front_reads strict limit begun early exported at ty exports types named text e t n)
    rest)

frequency_reads : (strict : Bool) (limit : ℕ) (begun : Begun) (fronted : Fronted)
    (parameters : List Parameter) (behind : ℕ) (frequency : Option Freq) (from : ℕ)
    (fronts : List Token) → FrequencyWrote behind frequency from fronts →
    Way strict limit (within begun (function_read fronted parameters None)) fronts
    (within begun (function_read fronted parameters frequency))
frequency_reads strict limit begun fronted parameters behind frequency from fronts no_front = stay
frequency_reads strict limit begun fronted parameters behind frequency from fronts
    (a_front word own is) =
    by_sort (within begun (function_read fronted parameters (Some own))) (frequency_word own)
    (frequency_sort own word.kind is) tt (λ number. refl) refl stay

takes_notes : (limit : ℕ) (begun : Begun) (fronted : Fronted) (parameters : List Parameter)
    (frequency : Option Freq) →
    TakesNotes limit begun (a_function fronted parameters frequency)
    (within begun (function_read fronted parameters frequency))
takes_notes limit begun fronted parameters None number at = refl
takes_notes limit begun fronted parameters (Some frequency) number at = refl

-- the state acts as if the head of a function had been read
record HeadEdge (limit : ℕ) (begun : Begun) (fronted : Fronted) (parameters : List Parameter)
    (frequency : Option Freq) (annotations : Option (List Annotation)) (state : State) : Type 0
  where
    at_equals : (number : ℕ) (own : Span) → state_step limit number state equals own
        ≡ on (within begun (expression (in_function_body fronted parameters frequency annotations)
        wanted []))
    at_semicolon : (number : ℕ) (own : Span) → state_step limit number state semicolon own
        ≡ on (with_declaration begun
        (prototype_from fronted parameters frequency annotations own.end) own.end)

head_edge : (limit : ℕ) (begun : Begun) (fronted : Fronted) (parameters : List Parameter)
    (frequency : Option Freq) (annotations : Option (List Annotation)) (end : ℕ) (state : State) →
    NotesEdge begun (a_function fronted parameters frequency)
    (within begun (function_read fronted parameters frequency)) 0 annotations end state →
    HeadEdge limit begun fronted parameters frequency annotations state
head_edge limit begun fronted parameters None annotations end state unnoted =
    record { at_equals = λ number own. refl; at_semicolon = λ number own. refl }
head_edge limit begun fronted parameters (Some frequency) annotations end state unnoted =
    record { at_equals = λ number own. refl; at_semicolon = λ number own. refl }
head_edge limit begun fronted parameters frequency annotations end state (noted _ _) =
    record { at_equals = λ number own. refl; at_semicolon = λ number own. refl }

record HeadReads (strict : Bool) (limit : ℕ) (begun : Begun) (fronted : Fronted)
    (parameters : List Parameter) (frequency : Option Freq) (annotations : Option (List Annotation))
    (tokens : List Token) : Type 0 where
  last : State
  leads : Way strict limit (within begun (function_read fronted parameters None)) tokens last
  edge : HeadEdge limit begun fronted parameters frequency annotations last

-- behind the parameters: a frequency and annotations
head_reads : (strict : Bool) (limit : ℕ) → InnerLaw strict limit → (begun : Begun)
    (fronted : Fronted) (parameters : List Parameter) (frequency : Option Freq) (from : ℕ)
    (annotations : Option (List Annotation)) (end : ℕ) (fronts notes : List Token) →
    FrequencyWrote 0 frequency from fronts → AnnotationsWrote strict 0 annotations end notes →
    annotations_height annotations ≤ limit →
    HeadReads strict limit begun fronted parameters frequency annotations (fronts ++ notes)
head_reads strict limit inner begun fronted parameters frequency from annotations end fronts notes f
    a low =
    let state = within begun (function_read fronted parameters frequency) in
    let read = notes_read strict limit inner begun (a_function fronted parameters frequency) state 0
    annotations end notes (takes_notes limit begun fronted parameters frequency) a low in record {
      last = read.last;
      leads = way_on state
          (frequency_reads strict limit begun fronted parameters 0 frequency from fronts f)
          read.leads;
      edge = head_edge limit begun fronted parameters frequency annotations end read.last read.edge;
    }

-- a body may begin where no size of a parameter is deferred, or the machine isn't strict
by_equals : (strict : Bool) (limit : ℕ) {state last : State} {token : Token} {tokens : List Token}
    (begun : Begun) (fronted : Fronted) (parameters : List Parameter) (frequency : Option Freq)
    (annotations : Option (List Annotation)) → IsMark token (codes "=") →
    HeadEdge limit begun fronted parameters frequency annotations state →
    (strict ≡ true → fronted.deferred ≡ None) →
    Way strict limit (within begun (expression
    (in_function_body fronted parameters frequency annotations) wanted [])) tokens last →
    Way strict limit state (token ∷ tokens) last
by_equals true limit {state} {last} {token} {tokens} begun fronted parameters frequency annotations
    m edge plain way =
    let then = within begun (expression (in_function_body fronted parameters frequency annotations)
    wanted []) in
    by_sort then equals (ap sort_of m.is) tt (λ n. edge.at_equals n (place token))
    (ap (λ d. judged then (before_body d)) (plain refl)) way
by_equals false limit {state} {last} {token} {tokens} begun fronted parameters frequency annotations
    m edge plain way =
    by_loose (within begun (expression (in_function_body fronted parameters frequency annotations)
    wanted [])) equals (ap sort_of m.is) tt (λ n. edge.at_equals n (place token)) refl way

-- what is made of a function doesn't ask for deferred sizes
same_function : (named : Named) (ty : TypeTree) (one other : Option ℕ) (parameters : List Parameter)
    (frequency : Option Freq) (annotations : Option (List Annotation)) (body : Tree) (end : ℕ) →
    function_from (fronted_of named ty one) parameters frequency annotations body end
    ≡ function_from (fronted_of named ty other) parameters frequency annotations body end
same_function named ty one other parameters None annotations body end = refl
same_function named ty one other parameters (Some frequency) annotations body end = refl

body_reads : (strict : Bool) (limit : ℕ) → InnerLaw strict limit → BodyLaw strict limit →
    (begun : Begun) (named : Named) (ty : TypeTree) (parameters : List Parameter)
    (frequency : Option Freq) (from : ℕ) (annotations : Option (List Annotation)) (end : ℕ)
    (body : Tree) (equals_mark mark : Token) (fronts notes bodies : List Token) →
    FrequencyWrote 0 frequency from fronts → AnnotationsWrote strict 0 annotations end notes →
    IsMark equals_mark (codes "=") → Wrote strict body bodies → IsMark mark (codes ";") →
    annotations_height annotations ≤ limit → height body ≤ limit →
    (d : Option ℕ) (mid : State) →
    ParametersAt begun (of_function (fronted_of named ty None)) parameters d mid →
    (strict ≡ true → d ≡ None) →
    Way strict limit mid (fronts ++ (notes ++ equals_mark ∷ (bodies ++ mark ∷ [])))
    (with_declaration begun (function_from (fronted_of named ty None) parameters frequency
    annotations body mark.end) mark.end)
body_reads strict limit inner law begun named ty parameters frequency from annotations end body
    equals_mark mark fronts notes bodies f a q b m low body_low d mid (reached _) kept =
    let fronted = fronted_of named ty d in
    let head = head_reads strict limit inner begun fronted parameters frequency from annotations end
    fronts notes f a low in
    let state = within begun (function_read fronted parameters None) in
    let rest = equals_mark ∷ (bodies ++ mark ∷ []) in
    subst (λ one. Way strict limit state (fronts ++ (notes ++ rest))
    (with_declaration begun one mark.end))
    (same_function named ty d None parameters frequency annotations body mark.end)
    (subst (λ list. Way strict limit state list (with_declaration begun
    (function_from fronted parameters frequency annotations body mark.end) mark.end))
    (append_assoc fronts notes rest)
    (way_on head.last head.leads
    (by_equals strict limit begun fronted parameters frequency annotations q head.edge kept
    (law begun fronted parameters frequency annotations body bodies mark kept b body_low m))))

-- functions by their bodies, materials among them
pub bodied_reads : (strict : Bool) (limit : ℕ) → InnerLaw strict limit → DefaultLaw strict limit →
    BodyLaw strict limit → (begun : Begun) (early exported : Bool) (at : ℕ) (ty : TypeTree)
    (named equals_mark mark : Token) (text : List ℕ) (parameters : List Parameter)
    (frequency : Option Freq) (from : ℕ) (annotations : Option (List Annotation)) (end : ℕ)
    (body : Tree) (exports types owns fronts notes bodies : List Token) →
    ExportWrote ty.span.at exported at exports → TypeWrote strict ty types →
    named.kind ≡ kind.Word text → ParametersWrote strict strict parameters owns →
    FrequencyWrote 0 frequency from fronts → AnnotationsWrote strict 0 annotations end notes →
    IsMark equals_mark (codes "=") → Wrote strict body bodies → IsMark mark (codes ";") →
    highest parameter_height parameters ≤ limit → annotations_height annotations ≤ limit →
    height body ≤ limit →
    Way strict limit (within begun (item_wanted early))
    (exports ++ (types ++ named ∷ (owns ++ (fronts ++ (notes ++ equals_mark ∷ (bodies ++ mark ∷
    []))))))
    (with_declaration begun (function_from
    (fronted_of (named_of at exported (ident_at text (place named))) ty None) parameters frequency
    annotations body mark.end) mark.end)
bodied_reads strict limit inner default law begun early exported at ty named equals_mark mark text
    parameters frequency from annotations end body exports types owns fronts notes bodies e t n o f
    a q b m parameters_low low body_low =
    let own = named_of at exported (ident_at text (place named)) in
    let fronted = fronted_of own ty None in
    front_on begun early exported at ty exports types named text e t n
    (reads_to strict strict limit (within begun (declared fronted))
    (with_declaration begun (function_from fronted parameters frequency annotations body mark.end)
    mark.end) None owns (fronts ++ (notes ++ equals_mark ∷ (bodies ++ mark ∷ [])))
    (ParametersAt begun (of_function fronted) parameters)
    (parameters_read strict strict limit inner default begun (of_function fronted) None parameters
    owns o parameters_low)
    (body_reads strict limit inner law begun own ty parameters frequency from annotations end body
    equals_mark mark fronts notes bodies f a q b m low body_low))

-- those that are no materials
pub as_function : (named : Named) (ty : TypeTree) (parameters : List Parameter)
    (frequency : Option Freq) (annotations : Option (List Annotation)) (body : Tree) (end : ℕ) →
    makes_material frequency ty ≡ false →
    function_from (fronted_of named ty None) parameters frequency annotations body end
    ≡ function named.exported ty named.name parameters frequency annotations (Some body)
    (place_of_declaration named end)
as_function named ty parameters None annotations body end other =
    cond-false (is_material ty)
    (material named.exported named.name parameters annotations body
    (place_of_declaration named end)) (function named.exported ty named.name parameters None
    annotations (Some body) (place_of_declaration named end)) other
as_function named ty parameters (Some frequency) annotations body end other = refl

prototype_ends : (strict : Bool) (limit : ℕ) → InnerLaw strict limit → (begun : Begun)
    (named : Named) (ty : TypeTree) (parameters : List Parameter) (frequency : Option Freq)
    (from : ℕ) (annotations : Option (List Annotation)) (end : ℕ) (mark : Token)
    (fronts notes : List Token) → FrequencyWrote 0 frequency from fronts →
    AnnotationsWrote strict 0 annotations end notes → IsMark mark (codes ";") →
    annotations_height annotations ≤ limit → (d : Option ℕ) (mid : State) →
    ParametersAt begun (of_function (fronted_of named ty None)) parameters d mid →
    (false ≡ true → d ≡ None) →
    Way strict limit mid (fronts ++ (notes ++ mark ∷ []))
    (with_declaration begun (function named.exported ty named.name parameters frequency annotations
    None (place_of_declaration named mark.end)) mark.end)
prototype_ends strict limit inner begun named ty parameters frequency from annotations end mark
    fronts notes f a m low d mid (reached _) kept =
    let fronted = fronted_of named ty d in
    let head = head_reads strict limit inner begun fronted parameters frequency from annotations end
    fronts notes f a low in
    let last = with_declaration begun (function named.exported ty named.name parameters frequency
    annotations None (place_of_declaration named mark.end)) mark.end in
    subst (λ list. Way strict limit (within begun (function_read fronted parameters None)) list
    last) (append_assoc fronts notes (mark ∷ []))
    (way_on head.last head.leads
    (by_sort last semicolon (ap sort_of m.is) tt (λ n. head.edge.at_semicolon n (place mark)) refl
    stay))

pub prototype_reads : (strict : Bool) (limit : ℕ) → InnerLaw strict limit →
    DefaultLaw strict limit → (begun : Begun) (early exported : Bool) (at : ℕ) (ty : TypeTree)
    (named mark : Token) (text : List ℕ) (parameters : List Parameter) (frequency : Option Freq)
    (from : ℕ) (annotations : Option (List Annotation)) (end : ℕ)
    (exports types owns fronts notes : List Token) →
    ExportWrote ty.span.at exported at exports → TypeWrote strict ty types →
    named.kind ≡ kind.Word text → ParametersWrote false strict parameters owns →
    FrequencyWrote 0 frequency from fronts → AnnotationsWrote strict 0 annotations end notes →
    IsMark mark (codes ";") → highest parameter_height parameters ≤ limit →
    annotations_height annotations ≤ limit →
    Way strict limit (within begun (item_wanted early))
    (exports ++ (types ++ named ∷ (owns ++ (fronts ++ (notes ++ mark ∷ [])))))
    (with_declaration begun (function exported ty (ident_at text (place named)) parameters frequency
    annotations None (from_to at mark.end)) mark.end)
prototype_reads strict limit inner default begun early exported at ty named mark text parameters
    frequency from annotations end exports types owns fronts notes e t n o f a m parameters_low
    low =
    let own = named_of at exported (ident_at text (place named)) in
    let fronted = fronted_of own ty None in
    front_on begun early exported at ty exports types named text e t n
    (reads_to false strict limit (within begun (declared fronted))
    (with_declaration begun (function exported ty (ident_at text (place named)) parameters frequency
    annotations None (from_to at mark.end)) mark.end) None owns (fronts ++ (notes ++ mark ∷ []))
    (ParametersAt begun (of_function fronted) parameters)
    (parameters_read false strict limit inner default begun (of_function fronted) None parameters
    owns o parameters_low)
    (prototype_ends strict limit inner begun own ty parameters frequency from annotations end mark
    fronts notes f a m low))
