-- Values, annotations, and what is before and behind a type and a name, are written part by part.
use Rattle.std.proofs.Common.{◌≡◌, ◌∙◌, sym, ap, subst, refl, ℕ, Bool, true, false, List, [], ◌∷◌}
use Rattle.std.proofs.Common.{◌++◌, codes, Option, Some, None}
use Rattle.std.proofs.lemmas.List.{append_assoc}
use Rattle.std.specs.List.{AllByRecursion}
use Rattle.mdl_lexer.specs.Kinds.{mark_word, name_word}
use Rattle.mdl_lexer.specs.declared.token.Kind.{Kind}
use Rattle.mdl_lexer.specs.declared.token.Kind.TheVariants as kind
use Rattle.mdl_lexer.specs.declared.token.Token.{Token}
use Rattle.mdl_syntax.specs.declared.types.Freq.{Freq}
use Rattle.mdl_syntax.specs.declared.types.Freq.TheVariants as freq
use Rattle.mdl_syntax.specs.Trees.{Tree, call}
use Rattle.mdl_syntax.specs.Words.{name_words, frequency_words}
use Rattle.mdl_syntax.specs.Written.{write}
use Rattle.mdl_syntax.specs.Placed.{last_end, place_of, behind, placed, placed_name}
use Rattle.mdl_syntax.specs.Placed.{placed_arguments}
use Rattle.mdl_syntax.specs.Levelled.{NoArgumentDeferred}
use Rattle.mdl_syntax.specs.Modules.{Annotation}
use Rattle.mdl_syntax.specs.WrittenModules.{write_several, write_annotation, write_annotations}
use Rattle.mdl_syntax.specs.WrittenModules.{write_value, write_number, export_words}
use Rattle.mdl_syntax.specs.PlacedModules.{placed_each, placed_annotation, placed_annotations}
use Rattle.mdl_syntax.specs.PlacedModules.{placed_value}
use Rattle.mdl_syntax.specs.LevelledModules.{IsAnnotation, AreAnnotations, IsValue}
use Rattle.mdl_syntax.specs.AcceptedModules.{PlainAnnotations, PlainValue}
use Rattle.expression_grammar.specs.inside.Machine.{from_to}
use Rattle.expression_grammar.specs.Readings.{kinds}
use Rattle.module_grammar.specs.inside.WroteModules.{AnnotationWrote, annotation_tokens}
use Rattle.module_grammar.specs.inside.WroteModules.{AnnotationsWrote, not_annotated}
use Rattle.module_grammar.specs.inside.WroteModules.{annotations_tokens, ValueWrote, no_value, a_value}
use Rattle.module_grammar.specs.inside.WroteModules.{NumberWrote, no_number, a_number, FrequencyWrote}
use Rattle.module_grammar.specs.inside.WroteModules.{no_front, a_front, ExportWrote, not_exported}
use Rattle.module_grammar.specs.inside.WroteModules.{export_tokens}
use Rattle.expression_grammar.proofs.CutLaws.{NoTokens, no_tokens, none, First, first, cut_first, Around}
use Rattle.expression_grammar.proofs.CutLaws.{around, cut_at}
use Rattle.expression_grammar.proofs.FormWroteLaws.{all_some}
use Rattle.expression_grammar.proofs.WroteLaws.{wrote}
use Rattle.expression_grammar.proofs.KindLaws.{front_of, last_end_append, end_placed}
use Rattle.module_grammar.proofs.ModuleWroteLists.{both, several_wrote}

-- Places.

-- where tokens begin, or what is behind them
abbrev pub first_at : ℕ → List Token → ℕ
first_at at [] = at
first_at at (token ∷ tokens) = token.at

-- tokens end here, whatever is before them
abbrev pub EndsAt : List Token → ℕ → Type 0
EndsAt tokens close = (end : ℕ) → last_end end tokens ≡ close

pub ends_behind : (front rest : List Token) (close : ℕ) → EndsAt rest close → EndsAt (front ++ rest)
    close
ends_behind front rest close is end = last_end_append end front rest ∙ is (last_end end front)

pub begins : (front rest : List Token) → (place_of (front ++ rest)).at ≡ first_at (place_of rest).at
    front
begins [] rest = refl
begins (token ∷ front) rest = refl

pub place_ends : (tokens : List Token) (at close : ℕ) → (tokens ≡ [] → ⊥) → (place_of tokens).at ≡
    at → EndsAt tokens close → place_of tokens ≡ from_to at close
place_ends [] at close some at_is ends = absurd (some refl)
place_ends (token ∷ tokens) at close some at_is ends = λ i. from_to (at_is i) (ends 0 i)

-- What is before.

frequency_by : (behind : ℕ) (frequency : Freq) (word : Kind) (tokens : List Token) →
    frequency_words (Some frequency) ≡ word ∷ [] → First word [] tokens →
    FrequencyWrote behind (Some frequency) (first_at behind tokens) tokens
frequency_by behind frequency word tokens words (first token rest is rest_is) = by rest (none
    rest_is)
  where
    by : (rest : List Token) → NoTokens rest → FrequencyWrote behind (Some frequency) token.at
        (token ∷ rest)
    by rest no_tokens = a_front token frequency (words ∙ (λ i. sym is i ∷ []))

pub frequency_wrote : (behind : ℕ) (frequency : Option Freq) (tokens : List Token) →
    frequency_words frequency ≡ kinds tokens → FrequencyWrote behind frequency (first_at behind
    tokens) tokens
frequency_wrote behind None tokens is = by tokens (none is)
  where
    by : (tokens : List Token) → NoTokens tokens → FrequencyWrote behind None (first_at behind
        tokens) tokens
    by tokens no_tokens = no_front
frequency_wrote behind (Some freq.Uniform) tokens is =
    frequency_by behind freq.Uniform (name_word (codes "uniform")) tokens refl (cut_first is)
frequency_wrote behind (Some freq.Varying) tokens is =
    frequency_by behind freq.Varying (name_word (codes "varying")) tokens refl (cut_first is)

pub export_wrote : (behind : ℕ) (exported : Bool) (tokens : List Token) → export_words exported ≡
    kinds tokens → ExportWrote behind exported (first_at behind tokens) tokens
export_wrote behind false tokens is = by tokens (none is)
  where
    by : (tokens : List Token) → NoTokens tokens → ExportWrote behind false (first_at behind tokens)
        tokens
    by tokens no_tokens = not_exported
export_wrote behind true tokens is = by tokens (cut_first is)
  where
    inner : (word : Token) (rest : List Token) → word.kind ≡ name_word (codes "export") → NoTokens
        rest → ExportWrote behind true word.at (word ∷ rest)
    inner word rest is no_tokens = export_tokens word (record { is = is })

    by : (tokens : List Token) → First (name_word (codes "export")) [] tokens →
        ExportWrote behind true (first_at behind tokens) tokens
    by tokens (first word rest is rest_is) = inner word rest is (none rest_is)

-- What is behind.

pub value_wrote : (strict : Bool) (before : ℕ) (default : Option Tree) (tokens rest : List Token) →
    IsValue default → (strict ≡ true → PlainValue default) → write_value default ≡ kinds tokens →
    ValueWrote strict before (placed_value default (tokens ++ rest)) (last_end before tokens) tokens
value_wrote strict before None tokens rest fits plain is = by tokens (none is)
  where
    by : (tokens : List Token) → NoTokens tokens → ValueWrote strict before None (last_end before
        tokens) tokens
    by tokens no_tokens = no_value
value_wrote strict before (Some tree) tokens rest fits plain is = by tokens (cut_first is)
  where
    by : (tokens : List Token) → First (mark_word (codes "=")) (write tree) tokens →
        ValueWrote strict before (placed_value (Some tree) (tokens ++ rest)) (last_end before
        tokens) tokens
    by tokens (first equals own is own_is) =
        subst (λ (own_tree : Tree). ValueWrote strict before (Some own_tree) (last_end equals.end
        own) (equals ∷ own)) (ap (placed tree) (sym (front_of (write tree) own rest own_is))) (subst
        (λ end. ValueWrote strict before (Some (placed tree own)) end (equals ∷ own)) (sym
        (end_placed equals.end tree own (all_some strict tree (λ tokens is. wrote strict tree tokens
        fits plain is) own own_is))) (a_value equals (placed tree own) own (record { is = is })
        (wrote strict tree own fits plain own_is)))

pub number_wrote : (before : ℕ) (number : Option ℕ) (tokens : List Token) → write_number number ≡
    kinds tokens → NumberWrote before number (last_end before tokens) tokens
number_wrote before None tokens is = by tokens (none is)
  where
    by : (tokens : List Token) → NoTokens tokens → NumberWrote before None (last_end before tokens)
        tokens
    by tokens no_tokens = no_number
number_wrote before (Some value) tokens is = by tokens (cut_first is)
  where
    third : (equals number : Token) (rest : List Token) → equals.kind ≡ mark_word (codes "=") →
        number.kind ≡ kind.Int value → NoTokens rest →
        NumberWrote before (Some value) (last_end number.end rest) (equals ∷ number ∷ rest)
    third equals number rest e n no_tokens = a_number equals number value (record { is = e }) n

    inner : (equals : Token) (tokens : List Token) → equals.kind ≡ mark_word (codes "=") →
        First (kind.Int value) [] tokens →
        NumberWrote before (Some value) (last_end equals.end tokens) (equals ∷ tokens)
    inner equals tokens e (first number rest n rest_is) = third equals number rest e n (none
        rest_is)

    by : (tokens : List Token) → First (mark_word (codes "=")) (kind.Int value ∷ []) tokens →
        NumberWrote before (Some value) (last_end before tokens) tokens
    by tokens (first equals rest is rest_is) = inner equals rest is (cut_first rest_is)

-- Annotations.

abbrev pub GoodAnnotation : Bool → Annotation → Type 0
GoodAnnotation strict one = IsAnnotation one × (strict ≡ true → NoArgumentDeferred one.arguments)

pub annotation_wrote : (strict : Bool) (one : Annotation) (tokens : List Token) → GoodAnnotation
    strict one → write_annotation one ≡ kinds tokens → AnnotationWrote strict (placed_annotation one
    tokens) tokens
annotation_wrote strict one tokens good is =
    annotation_tokens (placed_name one.name tokens) (placed_arguments one.arguments (behind
    (name_words one.name) 1 tokens)) (place_of tokens) tokens (wrote strict (call one.name
    one.arguments one.span) tokens good.0 good.1 is)

some_annotations : (strict : Bool) (before : ℕ) (annotations : List Annotation) (tokens rest : List
    Token) → AllByRecursion (GoodAnnotation strict) annotations → write_annotations (Some
    annotations) ≡ kinds tokens → AnnotationsWrote strict before (placed_annotations (Some
    annotations) (tokens ++ rest)) (last_end before tokens) tokens
some_annotations strict before annotations tokens rest good is = by tokens (cut_first is)
  where
    words : List Kind
    words = write_several write_annotation annotations

    fifth : (one two : Token) (own : List Token) (three four : Token) (more : List Token) →
        one.kind ≡ mark_word (codes "[") → two.kind ≡ mark_word (codes "[") → words ≡ kinds own →
        three.kind ≡ mark_word (codes "]") → four.kind ≡ mark_word (codes "]") → NoTokens more →
        AnnotationsWrote strict before (placed_annotations (Some annotations) ((one ∷ two ∷ (own ++
        three ∷ four ∷ more)) ++ rest)) (last_end two.end (own ++ three ∷ four ∷ more)) (one ∷ two ∷
        (own ++ three ∷ four ∷ more))
    fifth one two own three four more a b o c d no_tokens =
        subst (λ list. AnnotationsWrote strict before (Some (placed_each write_annotation
        placed_annotation 1 annotations list)) (last_end two.end (own ++ three ∷ four ∷ [])) (one ∷
        two ∷ (own ++ three ∷ four ∷ []))) (sym (append_assoc own (three ∷ four ∷ []) rest)) (subst
        (λ end. AnnotationsWrote strict before (Some (placed_each write_annotation placed_annotation
        1 annotations (own ++ three ∷ four ∷ rest))) end (one ∷ two ∷ (own ++ three ∷ four ∷ [])))
        (sym (last_end_append two.end own (three ∷ four ∷ []))) (annotations_tokens one two
        (placed_each write_annotation placed_annotation 1 annotations (own ++ three ∷ four ∷ rest))
        own three four (record { is = a }) (record { is = b }) (several_wrote (AnnotationWrote
        strict) write_annotation placed_annotation (GoodAnnotation strict) (annotation_wrote strict)
        annotations own (three ∷ four ∷ rest) good o) (record { is = c }) (record { is = d })))

    fourth : (one two : Token) (own : List Token) (three : Token) (more : List Token) →
        one.kind ≡ mark_word (codes "[") → two.kind ≡ mark_word (codes "[") → words ≡ kinds own →
        three.kind ≡ mark_word (codes "]") → First (mark_word (codes "]")) [] more →
        AnnotationsWrote strict before (placed_annotations (Some annotations)
        ((one ∷ two ∷ (own ++ three ∷ more)) ++ rest)) (last_end two.end (own ++ three ∷ more))
        (one ∷ two ∷ (own ++ three ∷ more))
    fourth one two own three more a b o c (first four others d is) =
        fifth one two own three four others a b o c d (none is)

    third : (one two : Token) (more : List Token) → one.kind ≡ mark_word (codes "[") →
        two.kind ≡ mark_word (codes "[") → Around words (mark_word (codes "]")) (mark_word (codes
        "]") ∷ []) more → AnnotationsWrote strict before (placed_annotations (Some annotations)
        ((one ∷ two ∷ more) ++ rest)) (last_end two.end more) (one ∷ two ∷ more)
    third one two more a b (around own three others o c is) = fourth one two own three others a b o
        c (cut_first is)

    second : (one : Token) (more : List Token) → one.kind ≡ mark_word (codes "[") →
        First (mark_word (codes "[")) (words ++ mark_word (codes "]") ∷ mark_word (codes "]") ∷ [])
        more → AnnotationsWrote strict before (placed_annotations (Some annotations) ((one ∷ more)
        ++ rest)) (last_end one.end more) (one ∷ more)
    second one more a (first two others b is) = third one two others a b (cut_at is)

    by : (tokens : List Token) → First (mark_word (codes "["))
        (mark_word (codes "[") ∷ (words ++ mark_word (codes "]") ∷ mark_word (codes "]") ∷ []))
        tokens → AnnotationsWrote strict before (placed_annotations (Some annotations) (tokens ++
        rest)) (last_end before tokens) tokens
    by tokens (first one others a is) = second one others a (cut_first is)

pub annotations_wrote : (strict : Bool) (before : ℕ) (annotations : Option (List Annotation))
    (tokens rest : List Token) → AreAnnotations annotations → (strict ≡ true → PlainAnnotations
    annotations) → write_annotations annotations ≡ kinds tokens → AnnotationsWrote strict before
    (placed_annotations annotations (tokens ++ rest)) (last_end before tokens) tokens
annotations_wrote strict before None tokens rest fits plain is = by tokens (none is)
  where
    by : (tokens : List Token) → NoTokens tokens → AnnotationsWrote strict before None (last_end
        before tokens) tokens
    by tokens no_tokens = not_annotated
annotations_wrote strict before (Some annotations) tokens rest fits plain is =
    some_annotations strict before annotations tokens rest (both IsAnnotation (λ (one : Annotation).
    NoArgumentDeferred one.arguments) strict annotations fits plain) is
