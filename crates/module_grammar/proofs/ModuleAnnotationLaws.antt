-- What the reader of modules holds through annotations.
use Rattle.std.proofs.Common.{◌≡◌, ◌∙◌, sym, ap, subst, ℕ, false, List, [], ◌∷◌, ◌++◌, codes}
use Rattle.std.proofs.Common.{Some}
use Rattle.std.proofs.lemmas.List.{append_assoc, append-nil}
use Rattle.mdl_lexer.specs.Kinds.{mark_word, name_word}
use Rattle.mdl_lexer.specs.declared.token.Token.{Token}
use Rattle.mdl_syntax.specs.Modules.{Annotation}
use Rattle.mdl_syntax.specs.WrittenModules.{write_own}
use Rattle.mdl_syntax.specs.PlacedModules.{placed_own}
use Rattle.expression_grammar.specs.inside.Machine.{Sort, comma, semicolon, opening_bracket}
use Rattle.expression_grammar.specs.inside.Machine.{closing_bracket}
use Rattle.expression_grammar.specs.inside.Machine.{wanted}
use Rattle.expression_grammar.specs.inside.Sorts.{IsOf}
use Rattle.expression_grammar.specs.inside.Sound.{place, nothing, is_wanted}
use Rattle.module_grammar.specs.inside.ModuleParts.{Part}
use Rattle.module_grammar.specs.inside.ModuleStates.{Begun, Holder, the_module, a_parameter}
use Rattle.module_grammar.specs.inside.ModuleStates.{a_function}
use Rattle.module_grammar.specs.inside.ModuleStates.{an_annotation, a_variant, a_struct, a_field}
use Rattle.module_grammar.specs.inside.ModuleStates.{an_enum}
use Rattle.module_grammar.specs.inside.ModuleStates.{an_enum_value, within, item_wanted, own_wanted}
use Rattle.module_grammar.specs.inside.ModuleStates.{annotations_begun, first_annotation}
use Rattle.module_grammar.specs.inside.ModuleStates.{annotation_read}
use Rattle.module_grammar.specs.inside.ModuleStates.{annotations_closing, annotated, expression}
use Rattle.module_grammar.specs.inside.ModuleMachine.{own_step, second_bracket}
use Rattle.module_grammar.specs.inside.ModuleStates.{in_annotation}
use Rattle.module_grammar.specs.inside.ModuleMachine.{annotation_read_step, closing_annotations}
use Rattle.module_grammar.specs.inside.ModuleMachine.{own_ends}
use Rattle.module_grammar.specs.inside.ModuleMachine.{annotated_step}
use Rattle.module_grammar.specs.inside.ModuleStates.{parameter_from, enum_value_from}
use Rattle.module_grammar.specs.inside.ModuleHolds.{ModuleHolds, PositionHolds, BegunStands}
use Rattle.module_grammar.specs.inside.ModuleHolds.{EarlyHolder}
use Rattle.module_grammar.specs.inside.ModuleHolds.{Early, Annotated}
use Rattle.module_grammar.specs.inside.ModuleHolds.{AnnotationsStand}
use Rattle.expression_grammar.proofs.KindLaws.{kinds_append, last_end_append}
use Rattle.module_grammar.proofs.ModuleListLaws.{are_on}
use Rattle.module_grammar.proofs.ModuleJoinLaws.{OutcomeHolds, stays, then_more, behind_with, regroup}
use Rattle.module_grammar.proofs.ModuleJoinLaws.{then_map, open_more, with_own_holds, ends_with}
use Rattle.module_grammar.proofs.ModulePartLaws.{annotated_part, annotated_kept}
use Rattle.module_grammar.proofs.ModuleDeclareLaws.{begin_annotations, annotated_parameter}
use Rattle.module_grammar.proofs.ModuleDeclareLaws.{struct_annotated_keeps, field_ends_keeps}
use Rattle.module_grammar.proofs.ModuleParameterLaws.{parameter_ends_keeps, annotation_annotated_keeps}
use Rattle.module_grammar.proofs.ModuleParameterLaws.{function_annotated_keeps}
use Rattle.module_grammar.proofs.ModuleParameterLaws.{variant_annotated_keeps}
use Rattle.module_grammar.proofs.ModuleEnumLaws.{enum_annotated_keeps, value_ends_keeps}
use Rattle.module_grammar.proofs.ModuleEnumLaws.{annotated_value}

pub own_keeps : (begun : Begun) (sort : Sort) (token : Token) (before own : List Token) →
    IsOf sort token.kind → BegunStands begun before → Early begun →
    PositionHolds own_wanted own → OutcomeHolds (own_step begun sort) ((before ++ own) ++ token ∷ [])
own_keeps begun opening_bracket token before own is stands early held =
    begin_annotations begun the_module before own token stands early held is
own_keeps begun _ token before own is stands early held = tt

pub second_keeps : (begun : Begun) (holder : Holder) (sort : Sort) (token : Token)
    (before own : List Token) → IsOf sort token.kind → BegunStands begun before →
    EarlyHolder holder begun → PositionHolds (annotations_begun holder) own →
    OutcomeHolds (second_bracket begun holder sort) ((before ++ own) ++ token ∷ [])
second_keeps begun holder opening_bracket token before own is stands early held =
    stays begun (first_annotation holder) before own token stands early
    (then_more own (token ∷ []) held
    (λ back one. behind_with (mark_word (codes "[")) back token one is))
second_keeps begun holder _ token before own is stands early held = tt

pub annotation_read_keeps : (begun : Begun) (holder : Holder) (annotations : List Annotation)
    (sort : Sort) (token : Token) (before own : List Token) → IsOf sort token.kind →
    BegunStands begun before → EarlyHolder holder begun →
    PositionHolds (annotation_read holder annotations) own →
    OutcomeHolds (annotation_read_step begun holder annotations sort) ((before ++ own) ++ token ∷ [])
annotation_read_keeps begun holder annotations comma token before own is stands early held =
    stays begun (expression (in_annotation holder annotations) wanted []) before own token stands
    early (record {
      front = own ++ token ∷ [];
      back = [];
      one = then_more own (token ∷ []) held
          (λ back some. open_more AnnotationsStand annotations back token some is);
      other = record { holds = is_wanted [] [] nothing; form = tt };
      are = append-nil (own ++ token ∷ []);
    })
annotation_read_keeps begun holder annotations closing_bracket token before own is stands early
    held =
    stays begun (annotations_closing holder annotations) before own token stands early
    (behind_with (mark_word (codes "]")) own token (then_map own held (λ back some. some.stand)) is)
annotation_read_keeps begun holder annotations _ token before own is stands early held = tt

closing_lists : (h : List Token) (one two : Token) (list : List Token) (three four : Token) →
    h ++ one ∷ two ∷ (list ++ three ∷ four ∷ [])
    ≡ (((h ++ ((one ∷ []) ++ two ∷ [])) ++ list) ++ three ∷ []) ++ four ∷ []
closing_lists h one two list three four = simp (append_assoc)

pub closing_keeps : (begun : Begun) (holder : Holder) (annotations : List Annotation)
    (sort : Sort) (token : Token) (before own : List Token) → IsOf sort token.kind →
    BegunStands begun before → EarlyHolder holder begun →
    PositionHolds (annotations_closing holder annotations) own →
    OutcomeHolds (closing_annotations begun holder annotations sort (place token))
    ((before ++ own) ++ token ∷ [])
closing_keeps begun holder annotations closing_bracket token before own is stands early held =
    let b = held.one in
    let h = b.one in
    let o = h.other in
    let t = o.one in
    stays begun (annotated holder annotations token.end) before own token stands early (record {
      front = h.front;
      back = t.token ∷ o.last ∷ (b.back ++ held.last ∷ token ∷ []);
      one = h.one;
      other = record {
        stand = annotated_part annotations t.token o.last b.back held.last token t.is o.is b.other
            held.is is;
        ends = λ at. last_end_append o.last.end b.back (held.last ∷ token ∷ []);
      };
      are = closing_lists h.front t.token o.last b.back held.last token
          ∙ (ap (λ l. (((h.front ++ (l ++ o.last ∷ [])) ++ b.back) ++ held.last ∷ []) ++ token ∷ [])
          t.are
          ∙ (ap (λ l. (((h.front ++ l) ++ b.back) ++ held.last ∷ []) ++ token ∷ []) o.are
          ∙ (ap (λ l. ((l ++ b.back) ++ held.last ∷ []) ++ token ∷ []) h.are
          ∙ (ap (λ l. (l ++ held.last ∷ []) ++ token ∷ []) b.are
          ∙ ap (λ l. l ++ token ∷ []) held.are))));
    })
closing_keeps begun holder annotations _ token before own is stands early held = tt

own_part : (annotations : List Annotation) (word : Token) (own : List Token) (last : Token) →
    word.kind ≡ name_word (codes "module") → Annotated (Some annotations) own →
    last.kind ≡ mark_word (codes ";") →
    Part write_own placed_own (Some annotations) (word ∷ (own ++ last ∷ []))
own_part annotations word own last is held ends = record {
  writes = (λ i. sym is i ∷ (held.writes i ++ sym ends i ∷ []))
      ∙ ap (λ k. word.kind ∷ k) (sym (kinds_append own (last ∷ [])));
  places = annotated_kept (Some annotations) own (last ∷ []) held;
}

own_ends_keeps : (begun : Begun) (annotations : List Annotation) (end : ℕ) (sort : Sort)
    (token : Token) (before own : List Token) → IsOf sort token.kind → BegunStands begun before →
    Early begun → PositionHolds (annotated the_module annotations end) own →
    OutcomeHolds (own_ends begun annotations sort (place token)) ((before ++ own) ++ token ∷ [])
own_ends_keeps begun annotations end semicolon token before own is stands early held =
    let word = held.one in
    subst (λ t. ModuleHolds (within (record begun {
      annotations = Some annotations;
      end = token.end;
    }) (item_wanted false)) t) (sym (append_assoc before own (token ∷ [])))
    (with_own_holds begun annotations token.end before (own ++ token ∷ []) stands early
    (subst (Part write_own placed_own (Some annotations))
    (ap (λ f. f ++ (held.back ++ token ∷ [])) word.are
    ∙ are_on held.front held.back own (token ∷ []) held.are)
    (own_part annotations word.token held.back token word.is held.other.stand is))
    (ends_with own token))
own_ends_keeps begun annotations end _ token before own is stands early held = tt

-- behind `]]`
pub annotated_keeps : (begun : Begun) (holder : Holder) (annotations : List Annotation) (end : ℕ)
    (sort : Sort) (token : Token) (before own : List Token) → IsOf sort token.kind →
    BegunStands begun before → EarlyHolder holder begun →
    PositionHolds (annotated holder annotations end) own →
    OutcomeHolds (annotated_step begun holder annotations end sort (place token))
    ((before ++ own) ++ token ∷ [])
annotated_keeps begun the_module annotations end sort token before own is stands early held =
    own_ends_keeps begun annotations end sort token before own is stands early held
annotated_keeps begun (a_parameter owner parameters front default) annotations end sort token before
    own is stands early held =
    parameter_ends_keeps begun owner parameters (parameter_from front default (Some annotations) end)
    sort token before own is stands (then_map own (regroup own held)
    (λ back one. annotated_parameter front default annotations end back one))
annotated_keeps begun (a_function fronted parameters frequency) annotations end sort token before own
    is stands early held =
    function_annotated_keeps begun fronted parameters frequency (Some annotations) sort token before
    own is stands (then_map own held (λ back one. one.stand))
annotated_keeps begun (an_annotation named parameters) annotations end sort token before own is
    stands early held =
    annotation_annotated_keeps begun named parameters (Some annotations) sort token before own is
    stands (then_map own held (λ back one. one.stand))
annotated_keeps begun (a_variant fronted) annotations end sort token before own is stands early
    held =
    variant_annotated_keeps begun fronted (Some annotations) sort token before own is stands
    (then_map own held (λ back one. one.stand))
annotated_keeps begun (a_struct named) annotations end sort token before own is stands early held =
    struct_annotated_keeps begun named (Some annotations) sort token before own is stands
    (then_map own held (λ back one. one.stand))
annotated_keeps begun (a_field struct front default) annotations end sort token before own is stands
    early held =
    field_ends_keeps begun struct (parameter_from front default (Some annotations) end) sort token
    before own is stands (then_map own (regroup own held)
    (λ back one. annotated_parameter front default annotations end back one))
annotated_keeps begun (an_enum named) annotations end sort token before own is stands early held =
    enum_annotated_keeps begun named (Some annotations) sort token before own is stands
    (then_map own held (λ back one. one.stand))
annotated_keeps begun (an_enum_value enum name number) annotations end sort token before own is
    stands early held =
    value_ends_keeps begun enum (enum_value_from name number (Some annotations) end) sort token
    before own is stands (then_map own (regroup own held)
    (λ back one. annotated_value name number annotations end back one))
