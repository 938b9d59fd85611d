-- The machine of modules reads variants and declared annotations, once what they hold is read.
use Rattle.std.proofs.Common.{◌≡◌, ap, refl, ℕ, ◌≤◌, Bool, true, false, List, [], ◌∷◌, ◌++◌, codes}
use Rattle.std.proofs.Common.{Option, Some, None}
use Rattle.mdl_lexer.specs.declared.token.Token.{Token}
use Rattle.mdl_lexer.specs.declared.token.Kind.TheVariants as kind
use Rattle.mdl_syntax.specs.declared.names.Span.{Span}
use Rattle.mdl_syntax.specs.declared.names.Name.{Name}
use Rattle.mdl_syntax.specs.declared.types.TypeTree.{TypeTree}
use Rattle.mdl_syntax.specs.Levels.{mark_number}
use Rattle.mdl_syntax.specs.Trees.{Arguments, call}
use Rattle.mdl_syntax.specs.Heights.{arguments_height}
use Rattle.mdl_syntax.specs.Modules.{Annotation, Parameter, variant, annotation}
use Rattle.mdl_syntax.specs.AcceptedModules.{highest, parameter_height, annotations_height}
use Rattle.expression_grammar.specs.inside.Machine.{sort_of, opening, closing, binary_operator, equals}
use Rattle.expression_grammar.specs.inside.Machine.{semicolon, wanted, ident_at, from_to}
use Rattle.module_grammar.specs.inside.ModuleStates.{State, within, Begun, Named, Fronted}
use Rattle.module_grammar.specs.inside.ModuleStates.{of_function, of_annotation, a_variant}
use Rattle.module_grammar.specs.inside.ModuleStates.{an_annotation, annotation_kin, item_wanted}
use Rattle.module_grammar.specs.inside.ModuleStates.{parameters_begun, star_read, variant_read}
use Rattle.module_grammar.specs.inside.ModuleStates.{annotation_named, annotation_declared}
use Rattle.module_grammar.specs.inside.ModuleStates.{expression, in_base, base_read, with_declaration}
use Rattle.module_grammar.specs.inside.ModuleStates.{place_of_declaration}
use Rattle.expression_grammar.specs.inside.Sound.{IsMark, IsReserved, place}
use Rattle.expression_grammar.specs.inside.Wrote.{Wrote, TypeWrote}
use Rattle.module_grammar.specs.inside.WroteModules.{ExportWrote, AnnotationsWrote, ParametersWrote}
use Rattle.module_grammar.proofs.ModuleReadsParts.{Way, way_on, stay, by_sort}
use Rattle.module_grammar.proofs.ModuleReadsNotes.{InnerLaw, NotesEdge, unnoted, noted, notes_read}
use Rattle.module_grammar.proofs.ModuleReadsKinds.{named_of, kin_reads}
use Rattle.module_grammar.proofs.ModuleReadsSites.{DefaultLaw, BaseLaw}
use Rattle.module_grammar.proofs.ModuleReadsDeferred.{reached, fronted_of, reads_to}
use Rattle.module_grammar.proofs.ModuleReadsParameters.{parameters_read, ParametersAt}
use Rattle.module_grammar.proofs.ModuleReadsFunctions.{front_on}

-- Variants.

by_base : {strict : Bool} {limit : ℕ} {last : State} {tokens : List Token} (begun : Begun)
    (fronted : Fronted) (annotations : Option (List Annotation)) (end : ℕ) (state : State)
    (mark : Token) → IsMark mark (codes "=") →
    NotesEdge begun (a_variant fronted) (within begun (variant_read fronted)) 0 annotations end
    state →
    Way strict limit (within begun (expression (in_base fronted annotations) wanted [])) tokens
    last → Way strict limit state (mark ∷ tokens) last
by_base begun fronted annotations end state mark m unnoted rest =
    by_sort (within begun (expression (in_base fronted None) wanted [])) equals (ap sort_of m.is) tt
    (λ number. refl) refl rest
by_base begun fronted annotations end state mark m (noted held _) rest =
    by_sort (within begun (expression (in_base fronted (Some held)) wanted [])) equals
    (ap sort_of m.is) tt (λ number. refl) refl rest

pub variant_reads : (strict : Bool) (limit : ℕ) → InnerLaw strict limit → BaseLaw strict limit →
    (begun : Begun) (early exported : Bool) (at : ℕ) (ty : TypeTree)
    (named start star close equals_mark mark : Token) (text : List ℕ)
    (annotations : Option (List Annotation)) (end : ℕ) (base : Name) (arguments : Arguments)
    (own : Span) (exports types notes bases : List Token) →
    ExportWrote ty.span.at exported at exports → TypeWrote strict ty types →
    named.kind ≡ kind.Word text → IsMark start (codes "(") → IsMark star (codes "*") →
    IsMark close (codes ")") → AnnotationsWrote strict 0 annotations end notes →
    IsMark equals_mark (codes "=") → Wrote strict (call base arguments own) bases →
    IsMark mark (codes ";") → annotations_height annotations ≤ limit →
    arguments_height arguments ≤ limit →
    Way strict limit (within begun (item_wanted early))
    (exports ++ (types ++ named ∷ start ∷ star ∷ close ∷ (notes ++ equals_mark ∷ (bases ++ mark ∷
    []))))
    (with_declaration begun (variant exported ty (ident_at text (place named)) annotations base
    arguments (from_to at mark.end)) mark.end)
variant_reads strict limit inner law begun early exported at ty named start star close equals_mark
    mark text annotations end base arguments own exports types notes bases e t n s r c a q b m low
    base_low =
    let fronted = fronted_of (named_of at exported (ident_at text (place named))) ty None in
    let called : Annotation = record { name = base; arguments = arguments; span = own } in
    let read = notes_read strict limit inner begun (a_variant fronted)
    (within begun (variant_read fronted)) 0 annotations end notes (λ k here. refl) a low in
    front_on begun early exported at ty exports types named text e t n
    (by_sort (within begun (parameters_begun (of_function fronted))) opening (ap sort_of s.is) tt
    (λ k. refl) refl
    (by_sort (within begun (star_read fronted)) (binary_operator (mark_number (codes "*")) 11)
    (ap sort_of r.is) tt (λ k. refl) refl
    (by_sort (within begun (variant_read fronted)) closing (ap sort_of c.is) tt (λ k. refl) refl
    (way_on read.last read.leads
    (by_base begun fronted annotations end read.last equals_mark q read.edge
    (way_on (within begun (base_read fronted annotations called))
    (law begun fronted annotations base arguments own bases b base_low)
    (by_sort (with_declaration begun (variant exported ty (ident_at text (place named)) annotations
    base arguments (from_to at mark.end)) mark.end) semicolon (ap sort_of m.is) tt (λ k. refl) refl
    stay)))))))

-- Declared annotations.

annotation_on : (strict : Bool) (limit : ℕ) (begun : Begun) (named : Named)
    (parameters : List Parameter) (annotations : Option (List Annotation)) (end : ℕ)
    (state : State) (mark : Token) → IsMark mark (codes ";") →
    NotesEdge begun (an_annotation named parameters)
    (within begun (annotation_declared named parameters)) 0 annotations end state →
    Way strict limit state (mark ∷ [])
    (with_declaration begun (annotation named.exported named.name parameters annotations
    (place_of_declaration named mark.end)) mark.end)
annotation_on strict limit begun named parameters annotations end state mark m unnoted =
    by_sort (with_declaration begun (annotation named.exported named.name parameters None
    (place_of_declaration named mark.end)) mark.end) semicolon (ap sort_of m.is) tt (λ number. refl)
    refl stay
annotation_on strict limit begun named parameters annotations end state mark m (noted held _) =
    by_sort (with_declaration begun (annotation named.exported named.name parameters (Some held)
    (place_of_declaration named mark.end)) mark.end) semicolon (ap sort_of m.is) tt (λ number. refl)
    refl stay

annotation_rest : (strict : Bool) (limit : ℕ) → InnerLaw strict limit → (begun : Begun)
    (named : Named) (parameters : List Parameter) (annotations : Option (List Annotation))
    (end : ℕ) (mark : Token) (notes : List Token) →
    AnnotationsWrote strict 0 annotations end notes → IsMark mark (codes ";") →
    annotations_height annotations ≤ limit → (d : Option ℕ) (mid : State) →
    ParametersAt begun (of_annotation named) parameters d mid → (false ≡ true → d ≡ None) →
    Way strict limit mid (notes ++ mark ∷ [])
    (with_declaration begun (annotation named.exported named.name parameters annotations
    (place_of_declaration named mark.end)) mark.end)
annotation_rest strict limit inner begun named parameters annotations end mark notes a m low d mid
    (reached _) kept =
    let read = notes_read strict limit inner begun (an_annotation named parameters)
    (within begun (annotation_declared named parameters)) 0 annotations end notes (λ k here. refl) a
    low in
    way_on read.last read.leads
    (annotation_on strict limit begun named parameters annotations end read.last mark m read.edge)

pub annotation_reads : (strict : Bool) (limit : ℕ) → InnerLaw strict limit →
    DefaultLaw strict limit → (begun : Begun) (early exported : Bool) (at : ℕ)
    (word named mark : Token) (text : List ℕ) (parameters : List Parameter)
    (annotations : Option (List Annotation)) (end : ℕ) (exports owns notes : List Token) →
    ExportWrote word.at exported at exports → IsReserved word (codes "annotation") →
    named.kind ≡ kind.Word text → ParametersWrote false strict parameters owns →
    AnnotationsWrote strict 0 annotations end notes → IsMark mark (codes ";") →
    highest parameter_height parameters ≤ limit → annotations_height annotations ≤ limit →
    Way strict limit (within begun (item_wanted early))
    (exports ++ word ∷ named ∷ (owns ++ (notes ++ mark ∷ [])))
    (with_declaration begun (annotation exported (ident_at text (place named)) parameters
    annotations (from_to at mark.end)) mark.end)
annotation_reads strict limit inner default begun early exported at word named mark text parameters
    annotations end exports owns notes e w n o a m parameters_low low =
    let own = named_of at exported (ident_at text (place named)) in
    kin_reads begun early exported at annotation_kin word named text exports e (ap sort_of w.is) n
    (reads_to false strict limit (within begun (annotation_named own))
    (with_declaration begun (annotation exported (ident_at text (place named)) parameters
    annotations (from_to at mark.end)) mark.end) None owns (notes ++ mark ∷ [])
    (ParametersAt begun (of_annotation own) parameters)
    (parameters_read false strict limit inner default begun (of_annotation own) None parameters owns
    o parameters_low)
    (annotation_rest strict limit inner begun own parameters annotations end mark notes a m low))
