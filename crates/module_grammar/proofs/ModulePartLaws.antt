-- Parts of declarations stand for their tokens: values, annotations, parameters, fields, values of enums.
use Rattle.std.proofs.Common.{◌≡◌, ◌∙◌, ◌+◌, sym, ap, subst, refl, arith, ℕ, suc, List, [], ◌∷◌}
use Rattle.std.proofs.Common.{◌++◌, length, drop, codes, Option, Some, None}
use Rattle.std.proofs.lemmas.List.{append-nil, append_assoc, length-append}
use Rattle.mdl_lexer.specs.Kinds.{mark_word}
use Rattle.mdl_lexer.specs.declared.token.Kind.{Kind}
use Rattle.mdl_lexer.specs.declared.token.Token.{Token}
use Rattle.mdl_syntax.specs.declared.names.Ident.{Ident}
use Rattle.mdl_syntax.specs.declared.types.TypeTree.{TypeTree}
use Rattle.mdl_syntax.specs.Trees.{Tree}
use Rattle.mdl_syntax.specs.Words.{ident_word, type_words, frequency_words}
use Rattle.mdl_syntax.specs.Written.{write}
use Rattle.mdl_syntax.specs.Placed.{last_end, place_of, behind, placed_ident, placed_type}
use Rattle.mdl_syntax.specs.Placed.{placed}
use Rattle.mdl_syntax.specs.Modules.{Annotation, Parameter}
use Rattle.mdl_syntax.specs.WrittenModules.{write_several, write_annotation, write_annotations}
use Rattle.mdl_syntax.specs.WrittenModules.{write_value, write_parameter, write_parameters}
use Rattle.mdl_syntax.specs.WrittenModules.{write_field, write_number, write_enum_value}
use Rattle.mdl_syntax.specs.PlacedModules.{placed_annotation, placed_annotations}
use Rattle.mdl_syntax.specs.PlacedModules.{placed_value, placed_parameter, placed_parameters}
use Rattle.mdl_syntax.specs.PlacedModules.{placed_enum_value}
use Rattle.expression_grammar.specs.Readings.{kinds}
use Rattle.expression_grammar.specs.inside.Machine.{ident_at, from_to}
use Rattle.expression_grammar.specs.inside.Stands.{TypeStands}
use Rattle.expression_grammar.specs.inside.Sound.{place}
use Rattle.module_grammar.specs.inside.ModuleParts.{Part, First}
use Rattle.module_grammar.specs.inside.ModuleStates.{Front, parameter_from, plain_parameter}
use Rattle.module_grammar.specs.inside.ModuleStates.{default_end, enum_value_from}
use Rattle.module_grammar.specs.inside.ModuleHolds.{Word, Annotated, AnnotationsStand, ValueStands}
use Rattle.module_grammar.specs.inside.ModuleHolds.{NumberStands, FrontStands, ParameterStands}
use Rattle.module_grammar.specs.inside.ModuleHolds.{ParametersStand}
use Rattle.expression_grammar.proofs.KindLaws.{kinds_append, length_kinds, front_of, behind_front}
use Rattle.expression_grammar.proofs.KindLaws.{last_end_append, end_stands}
use Rattle.expression_grammar.proofs.TypeFrontLaws.{type_front}
use Rattle.module_grammar.proofs.ModuleListLaws.{several_front, several_kept, first_append, long_place}
use Rattle.module_grammar.proofs.ModuleListLaws.{first_place}

-- What follows doesn't matter.

pub type_kept : (ty : TypeTree) (tokens rest : List Token) → TypeStands ty tokens →
    placed_type ty (tokens ++ rest) ≡ ty
type_kept ty tokens rest stands =
    type_front ty tokens rest (omega (arith, length_kinds (type_words ty) tokens stands.writes))
    ∙ stands.places

pub annotated_kept : (annotations : Option (List Annotation)) (tokens rest : List Token) →
    Annotated annotations tokens → placed_annotations annotations (tokens ++ rest) ≡ annotations
annotated_kept None tokens rest held = refl
annotated_kept (Some annotations) tokens rest held =
    by tokens (length_kinds (write_annotations (Some annotations)) tokens held.writes) held.places
  where
    words : List Kind
    words = write_several write_annotation annotations

    by : (tokens : List Token) → length (write_annotations (Some annotations)) ≡ length tokens →
        placed_annotations (Some annotations) tokens ≡ Some annotations →
        placed_annotations (Some annotations) (tokens ++ rest) ≡ Some annotations
    by [] long places = absurd (omega (arith, long))
    by (one ∷ []) long places = absurd (omega (arith, long))
    by (one ∷ two ∷ tokens) long places =
        ap Some (several_front write_annotation placed_annotation annotations tokens rest
        (omega (
          arith,
          long,
          length-append words (mark_word (codes "]") ∷ mark_word (codes "]")
              ∷ []),
        ))) ∙ places

pub parameters_kept : (parameters : List Parameter) (tokens rest : List Token) →
    ParametersStand parameters tokens → placed_parameters parameters (tokens ++ rest) ≡ parameters
parameters_kept parameters tokens rest held =
    by tokens (length_kinds (write_parameters parameters) tokens held.writes) held.places
  where
    words : List Kind
    words = write_several write_parameter parameters

    by : (tokens : List Token) → length (write_parameters parameters) ≡ length tokens →
        placed_parameters parameters tokens ≡ parameters →
        placed_parameters parameters (tokens ++ rest) ≡ parameters
    by [] long places = absurd (omega (arith, long))
    by (one ∷ tokens) long places =
        several_front write_parameter placed_parameter parameters tokens rest
        (omega (arith, long, length-append words (mark_word (codes ")") ∷ []))) ∙ places

-- Identifiers and values.

pub word_writes : (name : Ident) (tokens : List Token) → Word name tokens →
    ident_word name ∷ [] ≡ kinds tokens
word_writes name tokens held =
    ap (λ n. ident_word n ∷ []) held.names ∙ ((λ i. sym held.is i ∷ []) ∙ ap kinds held.are)

pub word_places : (name : Ident) (tokens rest : List Token) → Word name tokens →
    placed_ident name (tokens ++ rest) ≡ name
word_places name tokens rest held =
    ap (λ n. placed_ident n (tokens ++ rest)) held.names
    ∙ (ap (λ t. placed_ident (ident_at held.text (place held.token)) (t ++ rest)) (sym held.are)
    ∙ sym held.names)

-- behind one identifier
pub word_drop : (name : Ident) (tokens rest : List Token) → Word name tokens →
    drop 1 (tokens ++ rest) ≡ rest
word_drop name tokens rest held = ap (λ t. drop 1 (t ++ rest)) (sym held.are)

pub word_end : (name : Ident) (tokens : List Token) (end : ℕ) → Word name tokens →
    last_end end tokens ≡ name.span.end
word_end name tokens end held =
    ap (last_end end) (sym held.are) ∙ ap (λ (n : Ident). n.span.end) (sym held.names)

pub value_writes : (value : Option Tree) (tokens : List Token) → ValueStands value tokens →
    write_value value ≡ kinds tokens
value_writes None tokens none = ap kinds (sym none)
value_writes (Some tree) tokens held =
    (λ i. sym held.is i ∷ held.stands.writes i) ∙ ap kinds held.are

pub value_kept : (value : Option Tree) (tokens rest : List Token) → ValueStands value tokens →
    placed_value value (tokens ++ rest) ≡ value
value_kept None tokens rest none = refl
value_kept (Some tree) tokens rest held =
    ap (λ t. placed_value (Some tree) (t ++ rest)) (sym held.are)
    ∙ ap Some (ap (placed tree) (front_of (write tree) held.own rest held.stands.writes)
    ∙ held.stands.places)

pub value_end : (value : Option Tree) (tokens : List Token) (end : ℕ) (front : Front) →
    ValueStands value tokens → end ≡ front.name.span.end →
    last_end end tokens ≡ default_end front value
value_end None tokens end front none is = ap (last_end end) none ∙ is
value_end (Some tree) tokens end front held is =
    ap (last_end end) (sym held.are) ∙ end_stands held.equals.end tree held.own held.stands

pub number_writes : (number : Option ℕ) (tokens : List Token) → NumberStands number tokens →
    write_number number ≡ kinds tokens
number_writes None tokens none = ap kinds (sym none)
number_writes (Some value) tokens held =
    (λ i. sym held.is i ∷ sym held.number_is i ∷ []) ∙ ap kinds held.are

pub none_annotated : Annotated None []
none_annotated = record { writes = refl; places = refl }

-- Parameters and fields.

parameter_lists : (a b c d e f : List Token) →
    (a ++ (b ++ (c ++ (d ++ e)))) ++ f ≡ a ++ (b ++ (c ++ (d ++ (e ++ f))))
parameter_lists a b c d e f = simp (append_assoc)

front_lists : (a b c d e : List Token) → (a ++ (b ++ c)) ++ (d ++ e) ≡ a ++ (b ++ (c ++ (d ++ e)))
front_lists a b c d e = simp (append_assoc)

pub record ParameterHolds (one : Parameter) (tokens : List Token) : Type 0 where
  pub writes : write_parameter one ≡ kinds tokens
  pub kept : (rest : List Token) → placed_parameter one (tokens ++ rest) ≡ one

parameter_core : (front : Front) (default : Option Tree) (annotations : Option (List Annotation))
    (end : ℕ) (fs ts ns v a : List Token) → frequency_words front.frequency ≡ kinds fs →
    TypeStands front.ty ts → Word front.name ns → First front.at (fs ++ ts) →
    ValueStands default v → Annotated annotations a → last_end 0 (ns ++ (v ++ a)) ≡ end →
    ParameterHolds (parameter_from front default annotations end) (fs ++ (ts ++ (ns ++ (v ++ a))))
parameter_core front default annotations end fs ts ns v a often typed name first value annotated
    ends = record {
      writes = writes;
      kept = kept;
    }
  where
    one : Parameter
    one = parameter_from front default annotations end

    whole : List Token
    whole = fs ++ (ts ++ (ns ++ (v ++ a)))

    f : List Kind
    f = frequency_words front.frequency

    t : List Kind
    t = type_words front.ty

    writes : write_parameter one ≡ kinds whole
    writes =
        (λ i. often i ++ (typed.writes i ++ (word_writes front.name ns name i
        ++ (value_writes default v value i ++ annotated.writes i))))
        ∙ (ap (λ k. kinds fs ++ (kinds ts ++ (kinds ns ++ k))) (sym (kinds_append v a))
        ∙ (ap (λ k. kinds fs ++ (kinds ts ++ k)) (sym (kinds_append ns (v ++ a)))
        ∙ (ap (λ k. kinds fs ++ k) (sym (kinds_append ts (ns ++ (v ++ a))))
        ∙ sym (kinds_append fs (ts ++ (ns ++ (v ++ a)))))))

    some_name : ns ++ (v ++ a) ≡ [] → ⊥
    some_name is = omega (arith, ap length (sym name.are), length-append ns (v ++ a), ap length is)

    placed_whole : place_of whole ≡ from_to front.at end
    placed_whole =
        ap place_of (sym (append_assoc fs ts (ns ++ (v ++ a))))
        ∙ (long_place front.at (fs ++ ts) (ns ++ (v ++ a)) (first_append front.at (fs ++ ts)
        (ns ++ (v ++ a)) first) some_name ∙ ap (from_to front.at) ends)

    kept : (rest : List Token) → placed_parameter one (whole ++ rest) ≡ one
    kept rest =
        let split = parameter_lists fs ts ns v a rest in
        let at_type : behind f 0 (whole ++ rest) ≡ ts ++ (ns ++ (v ++ (a ++ rest))) =
        ap (behind f 0) split ∙ behind_front f 0 fs (ts ++ (ns ++ (v ++ (a ++ rest)))) often in
        let at_name : behind t 0 (behind f 0 (whole ++ rest)) ≡ ns ++ (v ++ (a ++ rest)) =
        ap (behind t 0) at_type ∙ behind_front t 0 ts (ns ++ (v ++ (a ++ rest))) typed.writes in
        let at_default : drop 1 (behind t 0 (behind f 0 (whole ++ rest))) ≡ v ++ (a ++ rest) =
        ap (drop 1) at_name ∙ word_drop front.name ns (v ++ (a ++ rest)) name in
        λ i. record {
          frequency = front.frequency;
          ty = (ap (placed_type front.ty) at_type
              ∙ type_kept front.ty ts (ns ++ (v ++ (a ++ rest))) typed) i;
          name = (ap (placed_ident front.name) at_name
              ∙ word_places front.name ns (v ++ (a ++ rest)) name) i;
          default = (ap (placed_value default) at_default ∙ value_kept default v (a ++ rest) value)
              i;
          annotations = (ap (λ l. placed_annotations annotations (behind (write_value default) 0 l))
              at_default ∙ (ap (placed_annotations annotations) (behind_front (write_value default)
              0 v (a ++ rest) (value_writes default v value))
              ∙ annotated_kept annotations a rest annotated)) i;
          span = (ap place_of (front_of (write_parameter one) whole rest writes) ∙ placed_whole) i;
        }

pub parameter_holds : (front : Front) (default : Option Tree)
    (annotations : Option (List Annotation)) (end : ℕ) (fronts v a : List Token) →
    FrontStands front fronts → ValueStands default v → Annotated annotations a →
    ((at : ℕ) → at ≡ front.name.span.end → last_end at (v ++ a) ≡ end) →
    ParameterHolds (parameter_from front default annotations end) (fronts ++ (v ++ a))
parameter_holds front default annotations end fronts v a held value annotated ends =
    subst (ParameterHolds (parameter_from front default annotations end))
    (sym (front_lists held.frequencies held.types held.names v a) ∙ ap (λ f. f ++ (v ++ a)) held.are)
    (parameter_core front default annotations end held.frequencies held.types held.names v a
    held.often held.typed held.name held.first value annotated
    (last_end_append 0 held.names (v ++ a)
    ∙ ends (last_end 0 held.names) (word_end front.name held.names 0 held.name)))

-- without annotations
pub plain_holds : (front : Front) (default : Option Tree) (fronts v : List Token) →
    FrontStands front fronts → ValueStands default v →
    ParameterHolds (plain_parameter front default) (fronts ++ v)
plain_holds front default fronts v held value =
    subst (λ l. ParameterHolds (plain_parameter front default) (fronts ++ l)) (append-nil v)
    (parameter_holds front default None (default_end front default) fronts v [] held value
    none_annotated
    (λ at is. ap (last_end at) (append-nil v) ∙ value_end default v at front value is))

pub parameter_part : (one : Parameter) (tokens : List Token) → ParameterHolds one tokens →
    Part write_parameter placed_parameter one tokens
parameter_part one tokens held = record {
  writes = held.writes;
  places = ap (placed_parameter one) (sym (append-nil tokens)) ∙ held.kept [];
}

pub field_part : (one : Parameter) (tokens : List Token) (last : Token) →
    ParameterHolds one tokens → last.kind ≡ mark_word (codes ";") →
    Part write_field placed_parameter one (tokens ++ last ∷ [])
field_part one tokens last held is = record {
  writes = (λ i. held.writes i ++ sym is i ∷ []) ∙ sym (kinds_append tokens (last ∷ []));
  places = held.kept (last ∷ []);
}

-- `(`, parameters and `)`
pub parameters_part : (parameters : List Parameter) (opener : Token) (own : List Token)
    (close : Token) → opener.kind ≡ mark_word (codes "(") → ParameterStands parameters own →
    close.kind ≡ mark_word (codes ")") →
    ParametersStand parameters (opener ∷ (own ++ close ∷ []))
parameters_part parameters opener own close opens stand closes = record {
  writes = (λ i. sym opens i ∷ (stand.writes i ++ sym closes i ∷ []))
      ∙ ap (λ k. opener.kind ∷ k) (sym (kinds_append own (close ∷ [])));
  places = several_kept write_parameter placed_parameter parameters own (close ∷ []) stand;
}

-- `[[`, annotations and `]]`
pub annotated_part : (annotations : List Annotation) (one two : Token) (own : List Token)
    (three four : Token) → one.kind ≡ mark_word (codes "[") → two.kind ≡ mark_word (codes "[") →
    AnnotationsStand annotations own → three.kind ≡ mark_word (codes "]") →
    four.kind ≡ mark_word (codes "]") →
    Annotated (Some annotations) (one ∷ two ∷ (own ++ three ∷ four ∷ []))
annotated_part annotations one two own three four o t stand h f = record {
  writes = (λ i. sym o i ∷ sym t i ∷ (stand.writes i ++ sym h i ∷ sym f i ∷ []))
      ∙ ap (λ k. one.kind ∷ two.kind ∷ k) (sym (kinds_append own (three ∷ four ∷ [])));
  places = ap Some (several_kept write_annotation placed_annotation annotations own
      (three ∷ four ∷ []) stand);
}

-- Values of enums.

pub enum_value_part : (name : Ident) (number : Option ℕ) (annotations : Option (List Annotation))
    (end : ℕ) (ns v a : List Token) → Word name ns → NumberStands number v →
    Annotated annotations a → last_end 0 (ns ++ (v ++ a)) ≡ end →
    Part write_enum_value placed_enum_value (enum_value_from name number annotations end)
    (ns ++ (v ++ a))
enum_value_part name number annotations end ns v a word value annotated ends =
    let more = behind_front (ident_word name ∷ write_number number) 0 (ns ++ v) a
    ((λ i. word_writes name ns word i ++ number_writes number v value i)
    ∙ sym (kinds_append ns v)) in
    record {
      writes = (λ i. word_writes name ns word i ++ (number_writes number v value i
          ++ annotated.writes i))
          ∙ (ap (λ k. kinds ns ++ k) (sym (kinds_append v a)) ∙ sym (kinds_append ns (v ++ a)));
      places = λ i. record {
        name = word_places name ns (v ++ a) word i;
        number = number;
        annotations = (ap (placed_annotations annotations) (shifted (length (write_number number)))
            ∙ (ap (placed_annotations annotations) more ∙ annotated.places)) i;
        span = (first_place name.span.at (ns ++ (v ++ a)) begins ∙ ap (from_to name.span.at) ends)
            i;
      };
    }
  where
    begins : First name.span.at (ns ++ (v ++ a))
    begins = subst (λ t. First name.span.at (t ++ (v ++ a))) word.are
        (ap (λ (n : Ident). n.span.at) word.names)

    shifted : (n : ℕ) → drop (n + 1) (ns ++ (v ++ a)) ≡ drop (suc n + 0) ((ns ++ v) ++ a)
    shifted n = ap (λ m. drop m (ns ++ (v ++ a))) (same n)
        ∙ ap (drop (suc n + 0)) (sym (append_assoc ns v a))
      where
        same : (n : ℕ) → n + 1 ≡ suc n + 0
        same n = omega arith
