-- Initializers are written one by one.
use Rattle.std.proofs.Common.{◌≡◌, ◌∙◌, sym, ap, subst, refl, arith, ℕ, suc, ◌+◌, Bool, true, List}
use Rattle.std.proofs.Common.{[], ◌∷◌}
use Rattle.std.proofs.Common.{◌++◌, length, take, drop, codes, Option, Some, None, false}
use Rattle.std.proofs.lemmas.List.{append_assoc, length-append}
use Rattle.std.proofs.Math.Seq.{take-append_seam, drop-append-add}
use Rattle.mdl_lexer.specs.Kinds.{mark_word, name_word}
use Rattle.mdl_lexer.specs.declared.token.Kind.{Kind}
use Rattle.mdl_lexer.specs.declared.token.Token.{Token}
use Rattle.mdl_syntax.specs.declared.names.Span.{Span}
use Rattle.mdl_syntax.specs.declared.names.Ident.{Ident}
use Rattle.mdl_syntax.specs.declared.types.TypeTree.{TypeTree}
use Rattle.mdl_syntax.specs.declared.types.Freq.{Freq}
use Rattle.mdl_syntax.specs.declared.types.Freq.TheVariants as freq
use Rattle.mdl_syntax.specs.Words.{ident_word, type_words, frequency_words}
use Rattle.mdl_syntax.specs.Written.{write, write_initializers}
use Rattle.mdl_syntax.specs.Placed.{last_end, place_of, tokens_of, behind, placed, placed_ident}
use Rattle.mdl_syntax.specs.Placed.{placed_type}
use Rattle.mdl_syntax.specs.Placed.{placed_initializers}
use Rattle.mdl_syntax.specs.Levelled.{IsName, is_deferred}
use Rattle.mdl_syntax.specs.Trees.{Tree, Initializers, no_initializers, initializer_and}
use Rattle.mdl_syntax.specs.Trees.{Initializer}
use Rattle.mdl_syntax.specs.Trees.{initializers_of}
use Rattle.expression_grammar.specs.inside.Machine.{from_to, ident_at}
use Rattle.expression_grammar.specs.Readings.{kinds}
use Rattle.expression_grammar.specs.inside.Sound.{place}
use Rattle.expression_grammar.specs.inside.Wrote.{TypeWrote, InitializerWrote, with_frequency}
use Rattle.expression_grammar.specs.inside.Wrote.{without_frequency}
use Rattle.expression_grammar.specs.inside.Wrote.{InitializersWrote, one_more_initializer}
use Rattle.expression_grammar.specs.inside.Wrote.{no_initializers as wrote_none}
use Rattle.expression_grammar.proofs.CutLaws.{NoTokens, no_tokens, none, First, first, cut_first, Around}
use Rattle.expression_grammar.proofs.CutLaws.{around, cut_at}
use Rattle.expression_grammar.proofs.TypeWroteLaws.{type_wrote, type_some}
use Rattle.expression_grammar.proofs.TypeFrontLaws.{type_front}
use Rattle.expression_grammar.proofs.FormWroteLaws.{WroteAll}
use Rattle.expression_grammar.proofs.KindLaws.{front_of, all_of, behind_front, length_kinds}
use Rattle.expression_grammar.proofs.KindLaws.{last_end_append, place_append}

abbrev pub initializer_list : Initializers → List Initializer
initializer_list no_initializers = []
initializer_list (initializer_and frequency ty name value span others) =
    (frequency, ty, name, value, span) ∷ initializer_list others

pub initializers_same : (own : Initializers) → initializers_of (initializer_list own) ≡ own
initializers_same no_initializers = refl
initializers_same (initializer_and frequency ty name value span others) =
    ap (initializer_and frequency ty name value span) (initializers_same others)

-- the tokens of an initializer from its type on
abbrev own_tokens : List Token → Token → Token → List Token → Token → List Token
own_tokens types word equals values semicolon = types ++ word ∷ equals ∷ (values ++ semicolon ∷ [])

-- the words from the type on
abbrev words_of : TypeTree → Ident → Tree → Initializers → List Kind
words_of ty name value others =
    type_words ty ++ (ident_word name ∷ mark_word (codes "=")
    ∷ (write value ++ (mark_word (codes ";") ∷ write_initializers others)))

data Parts (ty : TypeTree) (name : Ident) (value : Tree) (others : Initializers) : List Token →
    Type 0 where
  parts : (types : List Token) (word equals : Token) (values : List Token) (semicolon : Token)
      (rest : List Token) → type_words ty ≡ kinds types → word.kind ≡ ident_word name →
      equals.kind ≡ mark_word (codes "=") → write value ≡ kinds values →
      semicolon.kind ≡ mark_word (codes ";") → write_initializers others ≡ kinds rest →
      Parts ty name value others (own_tokens types word equals values semicolon ++ rest)

joined : (types : List Token) (word equals : Token) (values : List Token) (semicolon : Token)
    (rest : List Token) → own_tokens types word equals values semicolon ++ rest ≡ types ++ word
    ∷ equals ∷ (values ++ semicolon ∷ rest)
joined types word equals values semicolon rest =
    append_assoc types (word ∷ equals ∷ (values ++ semicolon ∷ [])) rest ∙ ap
    (λ more. types ++ word ∷ equals ∷ more) (append_assoc values (semicolon ∷ []) rest)

cut_parts : (ty : TypeTree) (name : Ident) (value : Tree) (others : Initializers)
    (tokens : List Token) → words_of ty name value others ≡ kinds tokens →
    Parts ty name value others tokens
cut_parts ty name value others tokens is =
    by tokens (cut_at is)
  where
    value_words : List Kind
    value_words = write value ++ (mark_word (codes ";") ∷ write_initializers others)

    third : (types : List Token) (word equals : Token) (more : List Token) →
        type_words ty ≡ kinds types → word.kind ≡ ident_word name →
        equals.kind ≡ mark_word (codes "=") → Around (write value) (mark_word (codes ";"))
        (write_initializers others) more →
        Parts ty name value others (types ++ word ∷ equals ∷ more)
    third types word equals more t w e (around values semicolon rest v s r) =
        subst (Parts ty name value others) (joined types word equals values semicolon rest)
        (parts types word equals values semicolon rest t w e v s r)

    second : (types : List Token) (word : Token) (more : List Token) → type_words ty ≡ kinds types →
        word.kind ≡ ident_word name → First (mark_word (codes "=")) value_words more →
        Parts ty name value others (types ++ word ∷ more)
    second types word more t w (first equals rest e r) =
        third types word equals rest t w e (cut_at r)

    by : (tokens : List Token) →
        Around (type_words ty) (ident_word name) (mark_word (codes "=") ∷ value_words) tokens →
        Parts ty name value others tokens
    by tokens (around types word more t w m) =
        second types word more t w (cut_first m)

-- the placed initializer and those behind it, where its frequency has these words
abbrev first_at : Option Freq → List Kind → TypeTree → Ident → Tree → Initializers → List Token →
    List Initializer
first_at own words ty name value others tokens = (
  own,
  placed_type ty (behind words 0 tokens),
  placed_ident name (behind (type_words ty) 0 (behind words 0 tokens)),
  placed value (tokens_of (write value)
      (drop 2 (behind (type_words ty) 0 (behind words 0 tokens)))),
  place_of (take (length (words ++ (type_words ty ++ write value)) + 3) tokens),
)
    ∷ initializer_list (placed_initializers others (behind (words ++ (type_words ty ++ write value))
    3 tokens))

-- an initializer, and the words of others behind it
pub data InitializerBehind (strict : Bool) (others : Initializers) (rest : List Token)
    (list : List Initializer) : List Token → Type 0 where
  behind_one : (own : Initializer) (one other : List Token) →
      list ≡ own ∷ initializer_list (placed_initializers others (other ++ rest)) →
      InitializerWrote strict own one → write_initializers others ≡ kinds other →
      InitializerBehind strict others rest list (one ++ other)

-- where the parts are, among the tokens
type_is : (ty : TypeTree) (types : List Token) (word equals : Token) (values : List Token)
    (semicolon : Token) (more : List Token) → type_words ty ≡ kinds types →
    placed_type ty (own_tokens types word equals values semicolon ++ more) ≡ placed_type ty types
type_is ty types word equals values semicolon more t =
    ap (placed_type ty) (joined types word equals values semicolon more) ∙ type_front ty types
    (word ∷ equals ∷ (values ++ semicolon ∷ more))
    (omega (arith, length_kinds (type_words ty) types t))

name_is : (ty : TypeTree) (types : List Token) (word equals : Token) (values : List Token)
    (semicolon : Token) (more : List Token) → type_words ty ≡ kinds types →
    behind (type_words ty) 0 (own_tokens types word equals values semicolon ++ more) ≡ word ∷ equals
    ∷ (values ++ semicolon ∷ more)
name_is ty types word equals values semicolon more t =
    ap (behind (type_words ty) 0) (joined types word equals values semicolon more) ∙ behind_front
    (type_words ty) 0 types (word ∷ equals ∷ (values ++ semicolon ∷ more)) t

value_is : (ty : TypeTree) (value : Tree) (types : List Token) (word equals : Token)
    (values : List Token) (semicolon : Token) (more : List Token) → type_words ty ≡ kinds types →
    write value ≡ kinds values →
    tokens_of (write value)
    (drop 2 (behind (type_words ty) 0 (own_tokens types word equals values semicolon ++ more)))
    ≡ values
value_is ty value types word equals values semicolon more t v =
    ap (λ own. tokens_of (write value) (drop 2 own)) (name_is ty types word equals values semicolon
    more t) ∙ front_of (write value) values (semicolon ∷ more) v

own_length : (ty : TypeTree) (value : Tree) (types : List Token) (word equals : Token)
    (values : List Token) (semicolon : Token) → type_words ty ≡ kinds types →
    write value ≡ kinds values → length (type_words ty ++ write value) + 3 ≡ length
    (own_tokens types word equals values semicolon)
own_length ty value types word equals values semicolon t v =
    omega (
      arith,
      length-append (type_words ty) (write value),
      length_kinds (type_words ty) types t,
      length_kinds (write value) values v,
      length-append types (word ∷ equals ∷ (values ++ semicolon ∷ [])),
      length-append values (semicolon ∷ []),
    )

taken_is : (ty : TypeTree) (value : Tree) (types : List Token) (word equals : Token)
    (values : List Token) (semicolon : Token) (more : List Token) → type_words ty ≡ kinds types →
    write value ≡ kinds values → take (length (type_words ty ++ write value) + 3)
    (own_tokens types word equals values semicolon ++ more) ≡ own_tokens types word equals values
    semicolon
taken_is ty value types word equals values semicolon more t v =
    ap (λ n. take n (own_tokens types word equals values semicolon ++ more))
    (own_length ty value types word equals values semicolon t v) ∙ take-append_seam
    (own_tokens types word equals values semicolon) more

left_is : (ty : TypeTree) (value : Tree) (types : List Token) (word equals : Token)
    (values : List Token) (semicolon : Token) (more : List Token) → type_words ty ≡ kinds types →
    write value ≡ kinds values → drop (length (type_words ty ++ write value) + 3)
    (own_tokens types word equals values semicolon ++ more) ≡ more
left_is ty value types word equals values semicolon more t v =
    let own = own_tokens types word equals values semicolon in
    let n = length (type_words ty ++ write value) in
    let same : n + 3 ≡ length own + 0 =
    omega (arith, own_length ty value types word equals values semicolon t v) in
    ap (λ n. drop n (own ++ more)) same ∙ drop-append-add own more 0

ends_at : (end : ℕ) (types : List Token) (word equals : Token) (values : List Token)
    (semicolon : Token) → last_end end (own_tokens types word equals values semicolon)
    ≡ semicolon.end
ends_at end types word equals values semicolon =
    last_end_append end types (word ∷ equals ∷ (values ++ semicolon ∷ [])) ∙ last_end_append
    equals.end values (semicolon ∷ [])

begins_at : (ty : TypeTree) (types : List Token) (word equals : Token) (values : List Token)
    (semicolon : Token) → type_words ty ≡ kinds types → (types ≡ [] → ⊥) →
    place_of (own_tokens types word equals values semicolon) ≡ from_to
    (placed_type ty types).span.at semicolon.end
begins_at ty types word equals values semicolon t some =
    place_append types word (equals ∷ (values ++ semicolon ∷ [])) some
    ∙ (λ i. from_to (place_of (sym (all_of (type_words ty) types t) i)).at
    (last_end_append equals.end values (semicolon ∷ []) i))

plain_first : (strict : Bool) (ty : TypeTree) (name : Ident) (value : Tree) (others : Initializers)
    (tokens rest : List Token) → IsName ty.name → (strict ≡ true → is_deferred ty.size ≡ false) →
    WroteAll strict value → Parts ty name value others tokens →
    InitializerBehind strict others rest (first_at None [] ty name value others (tokens ++ rest))
    tokens
plain_first strict ty name value others tokens rest is_name deferred all
    (parts types word equals values semicolon behind_it t w e v s r) =
    behind_one (
      None,
      placed_type ty types,
      ident_at name.text (place word),
      placed value values,
      from_to (placed_type ty types).span.at semicolon.end,
    ) own behind_it
    (ap (first_at None [] ty name value others) (append_assoc own behind_it rest)
    ∙ (λ i. (
      None,
      type_is ty types word equals values semicolon more t i,
      placed_ident name (name_is ty types word equals values semicolon more t i),
      placed value (value_is ty value types word equals values semicolon more t v i),
      (ap place_of (taken_is ty value types word equals values semicolon more t v)
          ∙ begins_at ty types word equals values semicolon t some) i,
    )
    ∷ initializer_list (placed_initializers others (left_is ty value types word equals values
    semicolon more t v i)))) (without_frequency word equals semicolon (placed_type ty types)
    name.text (placed value values) types
    values wrote w (record { is = e }) (all values v) (record { is = s })) r
  where
    own : List Token
    own = own_tokens types word equals values semicolon

    more : List Token
    more = behind_it ++ rest

    wrote : TypeWrote strict (placed_type ty types) types
    wrote = type_wrote strict ty types is_name deferred t

    some : types ≡ [] → ⊥
    some = type_some strict (placed_type ty types) types wrote

frequent_first : (strict : Bool) (frequency : Freq) (front_word : Kind) (ty : TypeTree)
    (name : Ident) (value : Tree) (others : Initializers) (front : Token)
    (tokens rest : List Token) → frequency_words (Some frequency) ≡ front.kind ∷ [] →
    IsName ty.name → (strict ≡ true → is_deferred ty.size ≡ false) → WroteAll strict value →
    Parts ty name value others tokens →
    InitializerBehind strict others rest (first_at (Some frequency) (front_word ∷ []) ty name value
    others (front ∷ (tokens ++ rest))) (front ∷ tokens)
frequent_first strict frequency front_word ty name value others front tokens rest f is_name deferred
    all
    (parts types word equals values semicolon behind_it t w e v s r) =
    behind_one (
      Some frequency,
      placed_type ty types,
      ident_at name.text (place word),
      placed value values,
      from_to front.at semicolon.end,
    ) (front ∷ own) behind_it
    (ap (λ more. first_at (Some frequency) (front_word ∷ []) ty name value others (front ∷ more))
    (append_assoc own behind_it rest)
    ∙ (λ i. (
      Some frequency,
      type_is ty types word equals values semicolon more t i,
      placed_ident name (name_is ty types word equals values semicolon more t i),
      placed value (value_is ty value types word equals values semicolon more t v i),
      (ap place_of all_taken
          ∙ ap (from_to front.at) (ends_at front.end types word equals values semicolon)) i,
    )
    ∷ initializer_list (placed_initializers others (all_left i)))) (with_frequency front word equals
    semicolon frequency (placed_type ty types) name.text (placed value values) types values f
    (type_wrote strict ty types is_name deferred t) w
    (record { is = e }) (all values v) (record { is = s })) r
  where
    own : List Token
    own = own_tokens types word equals values semicolon

    more : List Token
    more = behind_it ++ rest

    n : ℕ
    n = length (type_words ty ++ write value)

    one_more : suc n + 3 ≡ suc (n + 3)
    one_more = omega (arith)

    all_taken : take (suc n + 3) (front ∷ (own ++ more)) ≡ front ∷ own
    all_taken =
        ap (λ n. take n (front ∷ (own ++ more))) one_more ∙ ap (λ more. front ∷ more)
        (taken_is ty value types word equals values semicolon more t v)

    all_left : drop (suc n + 3) (front ∷ (own ++ more)) ≡ more
    all_left =
        ap (λ n. drop n (front ∷ (own ++ more))) one_more ∙ left_is ty value types word equals
        values semicolon more t v

abbrev pub FirstBehind : Bool → Option Freq → TypeTree → Ident → Tree → Span → Initializers → Type 0
FirstBehind strict frequency ty name value span others = (tokens rest : List Token) →
    write_initializers (initializer_and frequency ty name value span others) ≡ kinds tokens →
    InitializerBehind strict others rest
    (initializer_list (placed_initializers (initializer_and frequency ty name value span others)
    (tokens ++ rest))) tokens

frequent_by : (strict : Bool) (frequency : Freq) (front_word : Kind) (ty : TypeTree) (name : Ident)
    (value : Tree) (others : Initializers) (tokens rest : List Token) →
    frequency_words (Some frequency) ≡ front_word ∷ [] → IsName ty.name →
    (strict ≡ true → is_deferred ty.size ≡ false) → WroteAll strict value →
    First front_word (words_of ty name value others) tokens →
    InitializerBehind strict others rest (first_at (Some frequency) (front_word ∷ []) ty name value
    others (tokens ++ rest)) tokens
frequent_by strict frequency front_word ty name value others tokens rest f is_name deferred all
    (first front own front_is own_are) =
    frequent_first strict frequency front_word ty name value others front own rest
    (f ∙ (λ i. sym front_is i ∷ [])) is_name deferred all (cut_parts ty name value others own
    own_are)

pub first_behind : (strict : Bool) (frequency : Option Freq) (ty : TypeTree) (name : Ident)
    (value : Tree) (span : Span) (others : Initializers) → IsName ty.name →
    (strict ≡ true → is_deferred ty.size ≡ false) → WroteAll strict value →
    FirstBehind strict frequency ty name value span others
first_behind strict None ty name value span others is_name deferred all tokens rest is =
    plain_first strict ty name value others tokens rest is_name deferred all
    (cut_parts ty name value others tokens is)
first_behind strict (Some freq.Uniform) ty name value span others is_name deferred all tokens rest
    is =
    frequent_by strict freq.Uniform (name_word (codes "uniform")) ty name value others tokens rest
    refl is_name deferred all (cut_first is)
first_behind strict (Some freq.Varying) ty name value span others is_name deferred all tokens rest
    is =
    frequent_by strict freq.Varying (name_word (codes "varying")) ty name value others tokens rest
    refl is_name deferred all (cut_first is)

abbrev pub InitializersAll : Bool → Initializers → Type 0
InitializersAll strict own = (tokens rest : List Token) → write_initializers own ≡ kinds tokens →
    InitializersWrote strict (initializer_list (placed_initializers own (tokens ++ rest))) tokens

pub initializers_none : (strict : Bool) → InitializersAll strict no_initializers
initializers_none strict tokens rest is = by tokens (none is)
  where
    by : (tokens : List Token) → NoTokens tokens → InitializersWrote strict [] tokens
    by tokens no_tokens = wrote_none

pub initializers_some : (strict : Bool) (frequency : Option Freq) (ty : TypeTree) (name : Ident)
    (value : Tree) (span : Span) (others : Initializers) →
    FirstBehind strict frequency ty name value span others → InitializersAll strict others →
    InitializersAll strict (initializer_and frequency ty name value span others)
initializers_some strict frequency ty name value span others all more tokens rest is =
    by (initializer_list (placed_initializers (initializer_and frequency ty name value span others)
    (tokens ++ rest))) tokens (all tokens rest is)
  where
    by : (list : List Initializer) (tokens : List Token) →
        InitializerBehind strict others rest list tokens → InitializersWrote strict list tokens
    by list tokens (behind_one own one other list_is wrote other_is) =
        subst (λ all. InitializersWrote strict all (one ++ other)) (sym list_is)
        (one_more_initializer own (initializer_list (placed_initializers others (other ++ rest)))
        one other wrote (more other rest other_is))
