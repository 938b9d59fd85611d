-- The machine of modules reads annotations, once each call is read.
use Rattle.std.proofs.Common.{◌≡◌, sym, ap, subst, refl, arith, ℕ, ◌≤◌, Bool, true, false, List}
use Rattle.std.proofs.Common.{[], ◌∷◌, ◌++◌}
use Rattle.std.proofs.lemmas.List.{append_assoc, append-nil}
use Rattle.mdl_lexer.specs.declared.token.Token.{Token}
use Rattle.mdl_syntax.specs.declared.names.Span.{Span}
use Rattle.mdl_syntax.specs.Modules.{Annotation}
use Rattle.mdl_syntax.specs.AcceptedModules.{highest, annotation_height}
use Rattle.expression_grammar.specs.inside.Machine.{Sort, sort_of, comma, closing_bracket, wanted}
use Rattle.module_grammar.specs.inside.ModuleStates.{State, Outcome, on, within, Begun, Holder}
use Rattle.module_grammar.specs.inside.ModuleStates.{first_annotation, annotated, annotation_read}
use Rattle.module_grammar.specs.inside.ModuleStates.{annotations_closing, expression, in_annotation}
use Rattle.module_grammar.specs.inside.ModuleMachine.{permitted, module_sort_step}
use Rattle.module_grammar.specs.inside.ModuleLeads.{ModuleLeads, here, next}
use Rattle.expression_grammar.specs.inside.Sound.{place}
use Rattle.module_grammar.specs.inside.WroteModules.{AnnotationWrote, MoreWrote, no_more, one_more}
use Rattle.module_grammar.specs.inside.WroteModules.{not_any, several}
use Rattle.module_grammar.proofs.ModuleReadsParts.{Way, way_on, stay, by_sort}
use Rattle.module_grammar.proofs.ModuleReadsNotes.{InnerLaw}

-- an annotation that is low enough is read behind those that were
abbrev pub AnnotationLaw : Bool → ℕ → Type 0
AnnotationLaw strict limit =
    (begun : Begun) (holder : Holder) (done : List Annotation) (one : Annotation)
    (tokens : List Token) → AnnotationWrote strict one tokens → annotation_height one ≤ limit →
    Way strict limit (within begun (expression (in_annotation holder done) wanted [])) tokens
    (within begun (annotation_read holder (done ++ one ∷ [])))

abbrev IsOn : Outcome → Type 0
IsOn (on state) = Unit {0}
IsOn _ = ⊥

-- behind `[[`, the first token of an annotation is taken as one behind `,`
same_taken : (strict : Bool) (limit number : ℕ) (begun : Begun) (holder : Holder) (after : State)
    (sort : Sort) (own : Span) →
    permitted strict (module_sort_step limit number
    (within begun (expression (in_annotation holder []) wanted [])) sort own) ≡ on after →
    permitted strict (module_sort_step limit number (within begun (first_annotation holder)) sort
    own) ≡ on after
same_taken true limit number begun holder after closing_bracket own is =
    absurd (subst IsOn (sym is) tt)
same_taken false limit number begun holder after closing_bracket own is =
    absurd (subst IsOn (sym is) tt)
same_taken strict limit number begun holder after _ own is = is

abbrev IsRead : State → Type 0
IsRead (within begun (annotation_read holder list)) = Unit {0}
IsRead _ = ⊥

first_leads : (strict : Bool) (limit number : ℕ) (begun : Begun) (holder : Holder)
    (from last : State) (tokens : List Token) →
    from ≡ within begun (expression (in_annotation holder []) wanted []) → (last ≡ from → ⊥) →
    ModuleLeads strict limit number from tokens last →
    ModuleLeads strict limit number (within begun (first_annotation holder)) tokens last
first_leads strict limit number begun holder from last tokens same other (here _ _) =
    absurd (other refl)
first_leads strict limit number begun holder from last tokens same other
    (next _ _ after _ token rest is leads) =
    next number (within begun (first_annotation holder)) after last token rest
    (same_taken strict limit number begun holder after (sort_of token.kind) (place token)
    (subst (λ state. permitted strict (module_sort_step limit number state (sort_of token.kind)
    (place token)) ≡ on after) same is)) leads

more_annotations : (strict : Bool) (limit : ℕ) → AnnotationLaw strict limit → (begun : Begun)
    (holder : Holder) (done more : List Annotation) (tokens : List Token) →
    MoreWrote (AnnotationWrote strict) more tokens → highest annotation_height more ≤ limit →
    Way strict limit (within begun (annotation_read holder done)) tokens
    (within begun (annotation_read holder (done ++ more)))
more_annotations strict limit law begun holder done more tokens no_more low =
    subst (λ list. Way strict limit (within begun (annotation_read holder done)) []
    (within begun (annotation_read holder list))) (sym (append-nil done)) stay
more_annotations strict limit law begun holder done more tokens
    (one_more mark first others own behind m one_wrote more_wrote) low =
    subst (λ list. Way strict limit (within begun (annotation_read holder done))
    (mark ∷ (own ++ behind)) (within begun (annotation_read holder list)))
    (append_assoc done (first ∷ []) others)
    (by_sort (within begun (expression (in_annotation holder done) wanted [])) comma
    (ap sort_of m.is) tt (λ number. refl) refl
    (way_on (within begun (annotation_read holder (done ++ first ∷ [])))
    (law begun holder done first own one_wrote (omega (arith, low)))
    (more_annotations strict limit law begun holder (done ++ first ∷ []) others behind more_wrote
    (omega (arith, low)))))

pub inner_law : (strict : Bool) (limit : ℕ) → AnnotationLaw strict limit → InnerLaw strict limit
inner_law strict limit law begun holder annotations tokens three four not_any t f low =
    by_sort (within begun (annotations_closing holder [])) closing_bracket (ap sort_of t.is) tt
    (λ number. refl) refl
    (by_sort (within begun (annotated holder [] four.end)) closing_bracket (ap sort_of f.is) tt
    (λ number. refl) refl stay)
inner_law strict limit law begun holder annotations tokens three four
    (several first more own others one_wrote more_wrote) t f low =
    way_on (within begun (annotation_read holder annotations))
    (way_on (within begun (annotation_read holder (first ∷ [])))
    (λ number. first_leads strict limit number begun holder
    (within begun (expression (in_annotation holder []) wanted []))
    (within begun (annotation_read holder (first ∷ []))) own refl (λ is. subst IsRead is tt)
    (law begun holder [] first own one_wrote (omega (arith, low)) number))
    (more_annotations strict limit law begun holder (first ∷ []) more others more_wrote
    (omega (arith, low))))
    (by_sort (within begun (annotations_closing holder annotations)) closing_bracket
    (ap sort_of t.is) tt (λ number. refl) refl
    (by_sort (within begun (annotated holder annotations four.end)) closing_bracket (ap sort_of f.is)
    tt (λ number. refl) refl stay))
