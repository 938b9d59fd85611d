-- Names and types are written part by part.
use Rattle.std.proofs.Common.{◌≡◌, ◌∙◌, sym, ap, subst, refl, ℕ, true, false, List, [], ◌∷◌, ◌++◌}
use Rattle.std.proofs.Common.{drop, codes}
use Rattle.std.proofs.lemmas.List.{append-nil, append_assoc}
use Rattle.mdl_lexer.specs.Kinds.{mark_word}
use Rattle.mdl_lexer.specs.declared.token.Kind.{Kind}
use Rattle.mdl_lexer.specs.declared.token.Kind.TheVariants as kind
use Rattle.mdl_lexer.specs.declared.token.Token.{Token}
use Rattle.mdl_syntax.specs.declared.names.Span.{Span}
use Rattle.mdl_syntax.specs.declared.names.Ident.{Ident}
use Rattle.mdl_syntax.specs.declared.names.Name.{Name}
use Rattle.mdl_syntax.specs.declared.names.NameForm.{NameForm}
use Rattle.mdl_syntax.specs.declared.names.NameForm.TheVariants as form
use Rattle.mdl_syntax.specs.Words.{ident_word, parts_words, form_words, name_words}
use Rattle.mdl_syntax.specs.Placed.{last_end, place_of, behind, placed_parts, placed_name}
use Rattle.mdl_syntax.specs.Placed.{placed_form}
use Rattle.mdl_syntax.specs.Levels.{is_type_word}
use Rattle.mdl_syntax.specs.Levelled.{IsForm, IsName}
use Rattle.expression_grammar.specs.inside.Machine.{Path, from_to, ident_at, first_part, absolute_path}
use Rattle.expression_grammar.specs.inside.Machine.{longer_path}
use Rattle.expression_grammar.specs.Readings.{kinds}
use Rattle.expression_grammar.specs.inside.Sound.{place}
use Rattle.expression_grammar.specs.inside.Wrote.{PathWrote, one_part, absolute_part, longer_parts}
use Rattle.expression_grammar.specs.inside.Wrote.{NameWrote}
use Rattle.expression_grammar.specs.inside.Wrote.{a_path, a_word}
use Rattle.expression_grammar.proofs.CutLaws.{NoTokens, no_tokens, none, First, first, cut_first}
use Rattle.expression_grammar.proofs.KindLaws.{all_of, not_empty}
use Rattle.expression_grammar.proofs.KindLaws.{not_empty_append, place_append}

-- the words of the parts behind the first
abbrev pub tail_words : List Ident → List Kind
tail_words [] = []
tail_words (part ∷ parts) = mark_word (codes "::") ∷ ident_word part ∷ tail_words parts

pub parts_are : (part : Ident) (parts : List Ident) →
    parts_words (part ∷ parts) ≡ ident_word part ∷ tail_words parts
parts_are part [] = refl
parts_are part (next ∷ parts) =
    ap (λ words. ident_word part ∷ mark_word (codes "::") ∷ words) (parts_are next parts)

-- a path with more parts
abbrev on_path : Path → List Ident → List Token → Path
on_path path parts tokens = record {
  absolute = path.absolute;
  parts = path.parts ++ placed_parts parts (drop 1 tokens);
  span = from_to path.span.at (last_end path.span.end tokens);
}

path_on : (parts : List Ident) (path : Path) (before tokens : List Token) → PathWrote path before →
    tail_words parts ≡ kinds tokens → PathWrote (on_path path parts tokens) (before ++ tokens)
path_on [] path before tokens wrote is = by tokens (none is)
  where
    by : (tokens : List Token) → NoTokens tokens →
        PathWrote (on_path path [] tokens) (before ++ tokens)
    by tokens no_tokens =
        subst (λ (own : Path). PathWrote own (before ++ []))
        (λ i. record {
          absolute = path.absolute;
          parts = sym (append-nil path.parts) i;
          span = path.span;
        })
        (subst (λ own. PathWrote path own) (sym (append-nil before)) wrote)
path_on (part ∷ parts) path before tokens wrote is =
    by (path_on parts) tokens (cut_first is)
  where
    Behind : Type 0
    Behind = (path : Path) (before tokens : List Token) → PathWrote path before →
        tail_words parts ≡ kinds tokens → PathWrote (on_path path parts tokens) (before ++ tokens)

    next : Behind → (colon : Token) (tokens : List Token) → colon.kind ≡ mark_word (codes "::") →
        First (ident_word part) (tail_words parts) tokens →
        PathWrote (on_path path (part ∷ parts) (colon ∷ tokens)) (before ++ colon ∷ tokens)
    next behind colon tokens colon_is (first word rest word_is rest_is) =
        subst (λ (own : Path). PathWrote own (before ++ colon ∷ word ∷ rest))
        (λ i. record {
          absolute = path.absolute;
          parts = append_assoc path.parts (ident_at part.text (place word) ∷ [])
              (placed_parts parts (drop 1 rest)) i;
          span = from_to path.span.at (last_end word.end rest);
        })
        (subst (λ own. PathWrote (on_path (longer_path path part.text (place word)) parts rest) own)
        (append_assoc before (colon ∷ word ∷ []) rest)
        (behind (longer_path path part.text (place word)) (before ++ colon ∷ word ∷ []) rest
        (longer_parts path before colon word part.text wrote (record { is = colon_is }) word_is)
        rest_is))

    by : Behind → (tokens : List Token) →
        First (mark_word (codes "::")) (ident_word part ∷ tail_words parts) tokens →
        PathWrote (on_path path (part ∷ parts) tokens) (before ++ tokens)
    by behind tokens (first colon others colon_is others_is) =
        next behind colon others colon_is (cut_first others_is)

-- a name with its place given
abbrev name_at : NameForm → Span → List Token → Name
name_at own span tokens = record { form = placed_form own tokens; span = span }

plain_path : (part : Ident) (parts : List Ident) (tokens : List Token) →
    First (ident_word part) (tail_words parts) tokens →
    NameWrote (name_at (form.Parts false (part ∷ parts)) (place_of tokens) tokens) tokens
plain_path part parts tokens (first word rest is rest_is) =
    a_path (on_path (first_part part.text (place word)) parts rest) (word ∷ rest)
    (path_on parts (first_part part.text (place word)) (word ∷ []) rest (one_part word part.text is)
    rest_is)

rooted_path : (part : Ident) (parts : List Ident) (colon : Token) (tokens : List Token) →
    colon.kind ≡ mark_word (codes "::") → First (ident_word part) (tail_words parts) tokens →
    NameWrote (name_at (form.Parts true (part ∷ parts)) (place_of (colon ∷ tokens))
    (colon ∷ tokens)) (colon ∷ tokens)
rooted_path part parts colon tokens colon_is (first word rest is rest_is) =
    let path = longer_path (absolute_path (place colon)) part.text (place word) in
    a_path (on_path path parts rest) (colon ∷ word ∷ rest) (path_on parts path (colon ∷ word ∷ [])
    rest
    (absolute_part colon word part.text (record { is = colon_is }) is) rest_is)

absolute_form : (part : Ident) (parts : List Ident) (tokens : List Token) →
    First (mark_word (codes "::")) (parts_words (part ∷ parts)) tokens →
    NameWrote (name_at (form.Parts true (part ∷ parts)) (place_of tokens) tokens) tokens
absolute_form part parts tokens (first colon others is others_is) =
    rooted_path part parts colon others is (cut_first (sym (parts_are part parts) ∙ others_is))

word_form : (number : ℕ) (tokens : List Token) → is_type_word number ≡ true →
    First (kind.Reserved number) [] tokens →
    NameWrote (name_at (form.Word number) (place_of tokens) tokens) tokens
word_form number tokens is_type (first word rest is rest_is) = by rest (none rest_is)
  where
    by : (rest : List Token) → NoTokens rest →
        NameWrote (name_at (form.Word number) (place_of (word ∷ rest)) (word ∷ rest)) (word ∷ rest)
    by rest no_tokens = a_word word number is is_type

form_wrote : (own : NameForm) (tokens : List Token) → IsForm own → form_words own ≡ kinds tokens →
    NameWrote (name_at own (place_of tokens) tokens) tokens
form_wrote (form.Parts absolute []) tokens some is = absurd (some refl)
form_wrote (form.Parts true (part ∷ parts)) tokens some is =
    absolute_form part parts tokens (cut_first is)
form_wrote (form.Parts false (part ∷ parts)) tokens some is =
    plain_path part parts tokens (cut_first (sym (parts_are part parts) ∙ is))
form_wrote (form.Word number) tokens is_type is =
    word_form number tokens is_type (cut_first is)

pub name_wrote : (name : Name) (tokens : List Token) → IsName name →
    name_words name ≡ kinds tokens → NameWrote (placed_name name tokens) tokens
name_wrote name tokens is_name is =
    subst (λ (span : Span). NameWrote (name_at name.form span tokens) tokens)
    (ap place_of (sym (all_of (name_words name) tokens is))) (form_wrote name.form tokens is_name
    is)

pub name_span : (name : Name) (tokens : List Token) → name_words name ≡ kinds tokens →
    (placed_name name tokens).span ≡ place_of tokens
name_span name tokens is = ap place_of (all_of (name_words name) tokens is)

path_some : (path : Path) (tokens : List Token) → PathWrote path tokens → tokens ≡ [] → ⊥
path_some path tokens (one_part word text is) = not_empty word []
path_some path tokens (absolute_part colon word text divides is) = not_empty colon (word ∷ [])
path_some path tokens (longer_parts before front colon word text wrote divides is) =
    not_empty_append front colon (word ∷ [])

pub name_some : (name : Name) (tokens : List Token) → NameWrote name tokens → tokens ≡ [] → ⊥
name_some name tokens (a_path path own wrote) = path_some path own wrote
name_some name tokens (a_word word number is is_type) = not_empty word []

pub name_tokens : (name : Name) (names : List Token) → IsName name → name_words name ≡ kinds names →
    names ≡ [] → ⊥
name_tokens name names is_name is =
    name_some (placed_name name names) names (name_wrote name names is_name is)

-- tokens that begin with a name's are placed from its first byte
pub place_from_name : (name : Name) (front : List Token) (token : Token) (rest : List Token)
    (end : ℕ) → name_words name ≡ kinds front → (front ≡ [] → ⊥) → last_end token.end rest ≡ end →
    place_of (front ++ token ∷ rest) ≡ from_to (placed_name name front).span.at end
place_from_name name front token rest end is some ends =
    place_append front token rest some ∙ (λ i. from_to ((sym (name_span name front is) i).at)
    (ends i))
