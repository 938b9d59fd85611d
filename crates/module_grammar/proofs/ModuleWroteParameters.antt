-- Parameters, fields and values of enums are written part by part.
use Rattle.std.proofs.Common.{◌≡◌, ◌∙◌, sym, ap, subst, refl, arith, ℕ, Bool, true, false, List, []}
use Rattle.std.proofs.Common.{◌∷◌, ◌++◌, drop, codes, length, suc, ◌+◌}
use Rattle.std.proofs.lemmas.List.{append_assoc, append-nil}
use Rattle.std.specs.List.{AllByRecursion}
use Rattle.mdl_lexer.specs.Kinds.{mark_word}
use Rattle.mdl_lexer.specs.declared.token.Token.{Token}
use Rattle.mdl_syntax.specs.declared.names.Span.{Span}
use Rattle.mdl_syntax.specs.declared.types.TypeTree.{TypeTree}
use Rattle.mdl_syntax.specs.Words.{ident_word, type_words, frequency_words}
use Rattle.mdl_syntax.specs.Placed.{last_end, place_of, tokens_of, behind, placed_ident}
use Rattle.mdl_syntax.specs.Placed.{placed_type}
use Rattle.mdl_syntax.specs.Levelled.{is_deferred}
use Rattle.mdl_syntax.specs.Modules.{Parameter, EnumValue}
use Rattle.mdl_syntax.specs.WrittenModules.{write_several, write_annotations, write_value}
use Rattle.mdl_syntax.specs.WrittenModules.{write_parameter, write_parameters, write_field}
use Rattle.mdl_syntax.specs.WrittenModules.{write_number, write_enum_value}
use Rattle.mdl_syntax.specs.PlacedModules.{placed_each, placed_annotations, placed_value}
use Rattle.mdl_syntax.specs.PlacedModules.{placed_parameter, placed_parameters, placed_enum_value}
use Rattle.mdl_syntax.specs.LevelledModules.{IsParameter, AreAnnotations}
use Rattle.mdl_syntax.specs.AcceptedModules.{PlainAnnotations, LooseParameter}
use Rattle.expression_grammar.specs.inside.Machine.{from_to}
use Rattle.expression_grammar.specs.Readings.{kinds}
use Rattle.expression_grammar.specs.inside.Wrote.{TypeWrote}
use Rattle.module_grammar.specs.inside.WroteModules.{ParameterWrote, parameter_tokens, ParametersWrote}
use Rattle.module_grammar.specs.inside.WroteModules.{parameters_in, FieldWrote, field_tokens}
use Rattle.module_grammar.specs.inside.WroteModules.{EnumValueWrote, enum_value_tokens}
use Rattle.expression_grammar.proofs.CutLaws.{First, first, cut_first, Around, around, cut_at, Halves}
use Rattle.expression_grammar.proofs.CutLaws.{halves, cut, Last, last, cut_last}
use Rattle.expression_grammar.proofs.TypeWroteLaws.{type_wrote, type_some}
use Rattle.expression_grammar.proofs.TypeFrontLaws.{type_front}
use Rattle.expression_grammar.proofs.KindLaws.{front_of, all_of, behind_front, length_kinds}
use Rattle.expression_grammar.proofs.KindLaws.{last_end_append, place_append, not_empty_append}
use Rattle.expression_grammar.proofs.KindLaws.{append_some}
use Rattle.module_grammar.proofs.ModuleWroteLists.{several_wrote}
use Rattle.module_grammar.proofs.ModuleWroteParts.{first_at, ends_behind, begins, place_ends}
use Rattle.module_grammar.proofs.ModuleWroteParts.{frequency_wrote, value_wrote, number_wrote}
use Rattle.module_grammar.proofs.ModuleWroteParts.{annotations_wrote}

-- a type among the first tokens
pub type_before : (ty : TypeTree) (types rest : List Token) → type_words ty ≡ kinds types →
    placed_type ty (types ++ rest) ≡ placed_type ty types
type_before ty types rest is = type_front ty types rest (omega (
  arith,
  length_kinds (type_words ty)
      types is,
))

-- tokens that begin with a type's begin where it does
pub begins_type : (ty : TypeTree) (types : List Token) (word : Token) (rest : List Token) →
    type_words ty ≡ kinds types → (types ≡ [] → ⊥) →
    (place_of (types ++ word ∷ rest)).at ≡ (placed_type ty types).span.at
begins_type ty types word rest is some =
    ap (λ (span : Span). span.at) (place_append types word rest some ∙ refl)
    ∙ ap (λ tokens. (place_of tokens).at) (sym (all_of (type_words ty) types is))

-- and those with words before it begin at the words
pub begins_front : (ty : TypeTree) (fronts types : List Token) (word : Token) (rest : List Token) →
    type_words ty ≡ kinds types → (types ≡ [] → ⊥) → (place_of (fronts ++ (types ++ word ∷
    rest))).at ≡ first_at (placed_type ty types).span.at fronts
begins_front ty fronts types word rest is some =
    begins fronts (types ++ word ∷ rest) ∙ ap (λ at. first_at at fronts) (begins_type ty types word
    rest is some)

pub parameter_wrote : (sized strict : Bool) (one : Parameter) (tokens rest : List Token) →
    IsParameter one → (sized ≡ true → is_deferred one.ty.size ≡ false) → (strict ≡ true →
    LooseParameter one) → write_parameter one ≡ kinds tokens → ParameterWrote sized strict
    (placed_parameter one (tokens ++ rest)) tokens
parameter_wrote sized strict one tokens rest fits plain loose is = by tokens is (cut is)
  where
    inner : (fronts types : List Token) (word : Token) (values notes : List Token) →
        write_parameter one ≡ kinds (fronts ++ (types ++ word ∷ (values ++ notes))) →
        frequency_words one.frequency ≡ kinds fronts → type_words one.ty ≡ kinds types →
        word.kind ≡ ident_word one.name → write_value one.default ≡ kinds values →
        write_annotations one.annotations ≡ kinds notes →
        ParameterWrote sized strict
        (placed_parameter one ((fronts ++ (types ++ word ∷ (values ++ notes))) ++ rest))
        (fronts ++ (types ++ word ∷ (values ++ notes)))
    inner fronts types word values notes all f t w v n =
        subst (λ (made : Parameter). ParameterWrote sized strict made own) (sym (λ i. record {
          frequency = one.frequency;
          ty = ty_is i;
          name = placed_ident one.name (at_name i);
          default = placed_value one.default (at_default i);
          annotations = placed_annotations one.annotations (at_annotations i);
          span = span_is i;
        })) (parameter_tokens one.frequency at ty word one.name.text (placed_value one.default
        (values ++
        (notes ++ rest)))
        (last_end word.end values) (placed_annotations one.annotations (notes ++ rest)) end fronts
        types values notes (frequency_wrote ty.span.at one.frequency fronts f) ty_wrote w
        (value_wrote strict word.end one.default values (notes ++ rest) fits.1 (λ is. (loose is).0)
        v) (annotations_wrote strict (last_end word.end values) one.annotations notes rest fits.2 (λ
        is. (loose is).1) n))
      where
        own : List Token
        own = fronts ++ (types ++ word ∷ (values ++ notes))

        named : List Token
        named = word ∷ (values ++ (notes ++ rest))

        ty : TypeTree
        ty = placed_type one.ty types

        at : ℕ
        at = first_at ty.span.at fronts

        end : ℕ
        end = last_end (last_end word.end values) notes

        ty_wrote : TypeWrote sized ty types
        ty_wrote = type_wrote sized one.ty types fits.0 plain t

        joined : own ++ rest ≡ fronts ++ (types ++ named)
        joined =
            append_assoc fronts (types ++ word ∷ (values ++ notes)) rest ∙ ap (λ more. fronts ++
            more) (append_assoc types (word ∷ (values ++ notes)) rest ∙ ap (λ more. types ++ word ∷
            more) (append_assoc values notes rest))

        at_type : behind (frequency_words one.frequency) 0 (own ++ rest) ≡ types ++ named
        at_type =
            ap (behind (frequency_words one.frequency) 0) joined
            ∙ behind_front (frequency_words one.frequency) 0 fronts (types ++ named) f

        at_name : behind (type_words one.ty) 0 (behind (frequency_words one.frequency) 0 (own ++
            rest)) ≡ named
        at_name =
            ap (behind (type_words one.ty) 0) at_type ∙ behind_front (type_words one.ty) 0 types
            named t

        at_default : drop 1 (behind (type_words one.ty) 0 (behind (frequency_words one.frequency) 0
            (own ++ rest))) ≡ values ++ (notes ++ rest)
        at_default = ap (drop 1) at_name

        at_annotations : behind (write_value one.default) 0
            (drop 1 (behind (type_words one.ty) 0 (behind (frequency_words one.frequency) 0 (own ++
            rest)))) ≡ notes ++ rest
        at_annotations =
            ap (behind (write_value one.default) 0) at_default
            ∙ behind_front (write_value one.default) 0 values (notes ++ rest) v

        ty_is : placed_type one.ty (behind (frequency_words one.frequency) 0 (own ++ rest)) ≡ ty
        ty_is = ap (placed_type one.ty) at_type ∙ type_before one.ty types named t

        types_some : types ≡ [] → ⊥
        types_some = type_some sized ty types ty_wrote

        span_is : place_of (tokens_of (write_parameter one) (own ++ rest)) ≡ from_to at end
        span_is =
            ap place_of (front_of (write_parameter one) own rest all) ∙ place_ends own at end
            (append_some fronts (types ++ word ∷ (values ++ notes)) (not_empty_append types word
            (values ++ notes))) (begins_front one.ty fronts types word (values ++ notes) t
            types_some) (ends_behind fronts (types ++ word ∷ (values ++ notes)) end (ends_behind
            types (word ∷ (values ++ notes)) end (λ before. last_end_append word.end values notes)))

    third : (fronts types : List Token) (word : Token) (more : List Token) →
        write_parameter one ≡ kinds (fronts ++ (types ++ word ∷ more)) → frequency_words
        one.frequency ≡ kinds fronts → type_words one.ty ≡ kinds types → word.kind ≡ ident_word
        one.name → Halves (write_value one.default) (write_annotations one.annotations) more →
        ParameterWrote sized strict (placed_parameter one ((fronts ++ (types ++ word ∷ more)) ++
        rest)) (fronts ++ (types ++ word ∷ more))
    third fronts types word more all f t w (halves values notes v n) =
        inner fronts types word values notes all f t w v n

    second : (fronts more : List Token) → write_parameter one ≡ kinds (fronts ++ more) →
        frequency_words one.frequency ≡ kinds fronts → Around (type_words one.ty) (ident_word
        one.name) (write_value one.default ++ write_annotations one.annotations) more →
        ParameterWrote sized strict (placed_parameter one ((fronts ++ more) ++ rest)) (fronts ++
        more)
    second fronts more all f (around types word others t w is) = third fronts types word others all
        f t w (cut is)

    by : (tokens : List Token) → write_parameter one ≡ kinds tokens →
        Halves (frequency_words one.frequency) (type_words one.ty ++ (ident_word one.name
        ∷ (write_value one.default ++ write_annotations one.annotations))) tokens →
        ParameterWrote sized strict (placed_parameter one (tokens ++ rest)) tokens
    by tokens all (halves fronts more f is) = second fronts more all f (cut_at is)

-- what is known of a parameter
abbrev pub GoodParameter : Bool → Bool → Parameter → Type 0
GoodParameter sized strict one =
    IsParameter one × (sized ≡ true → is_deferred one.ty.size ≡ false) × (strict ≡ true →
    LooseParameter one)

alone : (sized strict : Bool) (one : Parameter) (tokens : List Token) → GoodParameter sized strict
    one → write_parameter one ≡ kinds tokens → ParameterWrote sized strict (placed_parameter one
    tokens) tokens
alone sized strict one tokens good is =
    subst (λ list. ParameterWrote sized strict (placed_parameter one list) tokens) (append-nil
    tokens) (parameter_wrote sized strict one tokens [] good.0 good.1 good.2 is)

pub parameters_wrote : (sized strict : Bool) (parameters : List Parameter) (tokens rest : List
    Token) → AllByRecursion (GoodParameter sized strict) parameters → write_parameters parameters ≡
    kinds tokens → ParametersWrote sized strict (placed_parameters parameters (tokens ++ rest))
    tokens
parameters_wrote sized strict parameters tokens rest good is = by tokens (cut_first is)
  where
    inner : (start : Token) (tokens : List Token) → start.kind ≡ mark_word (codes "(") →
        Last (write_several write_parameter parameters) (mark_word (codes ")")) tokens →
        ParametersWrote sized strict (placed_each write_parameter placed_parameter 1 parameters
        (tokens ++ rest)) (start ∷ tokens)
    inner start tokens s (last own close o c) =
        subst (λ list. ParametersWrote sized strict (placed_each write_parameter placed_parameter 1
        parameters list) (start ∷ (own ++ close ∷ []))) (sym (append_assoc own (close ∷ []) rest))
        (parameters_in start close (placed_each write_parameter placed_parameter 1 parameters (own
        ++ close ∷ rest)) own (record { is = s }) (several_wrote (ParameterWrote sized strict)
        write_parameter placed_parameter (GoodParameter sized strict) (alone sized strict)
        parameters own (close ∷ rest) good o) (record { is = c }))

    by : (tokens : List Token) → First (mark_word (codes "("))
        (write_several write_parameter parameters ++ mark_word (codes ")") ∷ []) tokens →
        ParametersWrote sized strict (placed_parameters parameters (tokens ++ rest)) tokens
    by tokens (first start others s is) = inner start others s (cut_last is)

pub field_wrote : (strict : Bool) (one : Parameter) (tokens : List Token) → GoodParameter strict
    strict one → write_field one ≡ kinds tokens → FieldWrote strict (placed_parameter one tokens)
    tokens
field_wrote strict one tokens good is = by tokens (cut_last is)
  where
    by : (tokens : List Token) → Last (write_parameter one) (mark_word (codes ";")) tokens →
        FieldWrote strict (placed_parameter one tokens) tokens
    by tokens (last own semicolon o s) =
        field_tokens (placed_parameter one (own ++ semicolon ∷ [])) own semicolon (parameter_wrote
        strict strict one own (semicolon ∷ []) good.0 good.1 good.2 o) (record { is = s })

abbrev pub GoodValue : Bool → EnumValue → Type 0
GoodValue strict one = AreAnnotations one.annotations × (strict ≡ true → PlainAnnotations
    one.annotations)

pub enum_value_wrote : (strict : Bool) (one : EnumValue) (tokens : List Token) → GoodValue strict
    one → write_enum_value one ≡ kinds tokens → EnumValueWrote strict (placed_enum_value one tokens)
    tokens
enum_value_wrote strict one tokens good is = by tokens (cut_first is)
  where
    inner : (word : Token) (more : List Token) → word.kind ≡ ident_word one.name →
        Halves (write_number one.number) (write_annotations one.annotations) more →
        EnumValueWrote strict (placed_enum_value one (word ∷ more)) (word ∷ more)
    inner word more w (halves numbers notes m n) =
        subst (λ (made : EnumValue). EnumValueWrote strict made (word ∷ (numbers ++ notes))) (sym (λ
        i. record {
          name = placed_ident one.name (word ∷ []);
          number = one.number;
          annotations = placed_annotations one.annotations (at_annotations i);
          span = from_to word.at (last_end_append word.end numbers notes i);
        })) (enum_value_tokens word one.name.text one.number (last_end word.end numbers)
        (placed_annotations one.annotations (notes ++ [])) (last_end (last_end word.end numbers)
        notes) numbers notes w (number_wrote word.end one.number numbers m) (annotations_wrote
        strict (last_end word.end numbers) one.annotations notes [] good.0 good.1 n))
      where
        one_more : length (write_number one.number) + 1 ≡ suc (length (write_number one.number) + 0)
        one_more = omega (arith)

        at_annotations : behind (write_number one.number) 1 (word ∷ (numbers ++ notes)) ≡ notes ++
            []
        at_annotations =
            ap (λ n. drop n (word ∷ (numbers ++ notes))) one_more
            ∙ (behind_front (write_number one.number) 0 numbers notes m ∙ sym (append-nil notes))

    by : (tokens : List Token) → First (ident_word one.name) (write_number one.number
        ++ write_annotations one.annotations) tokens →
        EnumValueWrote strict (placed_enum_value one tokens) tokens
    by tokens (first word others w is) = inner word others w (cut is)
