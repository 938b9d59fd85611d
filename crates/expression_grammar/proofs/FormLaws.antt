-- Each form of an expression stands for its tokens.
use Rattle.std.proofs.Common.{◌≡◌, ◌∙◌, sym, ap, refl, arith, ℕ, Bool, true, false, List, [], ◌∷◌}
use Rattle.std.proofs.Common.{◌++◌}
use Rattle.std.proofs.Common.{length, codes}
use Rattle.std.proofs.lemmas.List.{append-nil}
use Rattle.mdl_lexer.specs.Kinds.{mark_word}
use Rattle.mdl_lexer.specs.declared.token.Kind.{Kind}
use Rattle.mdl_lexer.specs.declared.token.Kind.TheVariants as kind
use Rattle.mdl_lexer.specs.declared.token.Token.{Token}
use Rattle.mdl_syntax.specs.declared.names.Span.{Span}
use Rattle.mdl_syntax.specs.declared.names.Ident.{Ident}
use Rattle.mdl_syntax.specs.declared.names.Name.{Name}
use Rattle.mdl_syntax.specs.declared.names.NameForm.{NameForm}
use Rattle.mdl_syntax.specs.declared.names.NameForm.TheVariants as form
use Rattle.mdl_syntax.specs.declared.types.Size.{Size}
use Rattle.mdl_syntax.specs.declared.types.Size.TheVariants as size
use Rattle.mdl_syntax.specs.declared.types.TypeTree.{TypeTree}
use Rattle.mdl_syntax.specs.declared.expressions.Lit.{Lit}
use Rattle.mdl_syntax.specs.Words.{literal_word, ident_word, parts_words, form_words, name_words}
use Rattle.mdl_syntax.specs.Words.{type_words}
use Rattle.mdl_syntax.specs.Written.{write}
use Rattle.mdl_syntax.specs.Placed.{last_end, place_of, tokens_of, behind, placed_parts}
use Rattle.mdl_syntax.specs.Placed.{placed_ident, placed_form, placed, placed_size}
use Rattle.mdl_syntax.specs.Trees.{Tree, literal, named, parenthesized, unary, binary, conditional}
use Rattle.mdl_syntax.specs.Trees.{indexed}
use Rattle.mdl_syntax.specs.Trees.{field}
use Rattle.expression_grammar.specs.inside.Machine.{Path, span_of, from_to, across, ident_at, word_name}
use Rattle.expression_grammar.specs.inside.Machine.{path_name}
use Rattle.expression_grammar.specs.inside.Machine.{first_part, absolute_path, longer_path, name_tree}
use Rattle.expression_grammar.specs.inside.Machine.{type_of}
use Rattle.expression_grammar.specs.Readings.{kinds}
use Rattle.expression_grammar.specs.inside.Stands.{Stands, NameStands, TypeStands}
use Rattle.expression_grammar.specs.inside.Sound.{place}
use Rattle.expression_grammar.proofs.KindLaws.{not_empty, not_empty_append, kinds_append, length_kinds}
use Rattle.expression_grammar.proofs.KindLaws.{all_of}
use Rattle.expression_grammar.proofs.KindLaws.{behind_front, last_end_append, name_span_stands, end_stands}
use Rattle.expression_grammar.proofs.KindLaws.{place_from, place_from_name, placed_front, name_kept}

-- The forms.

pub stands_literal : (own : Lit) (token : Token) → token.kind ≡ literal_word own →
    Stands (literal own (place token)) (token ∷ [])
stands_literal own token is = record {
  some = not_empty token [];
  writes = λ i. sym is i ∷ [];
  places = refl;
}

pub stands_name : (name : Name) (tokens : List Token) → NameStands name tokens →
    Stands (name_tree name) tokens
stands_name name tokens stands = record {
  some = stands.some;
  writes = stands.writes;
  places = λ i. named (stands.places i) (sym (name_span_stands name tokens stands) i);
}

pub stands_unary : (number : ℕ) (op : Token) (operand : Tree) (tokens : List Token) →
    op.kind ≡ kind.Mark number → Stands operand tokens →
    Stands (unary number operand (from_to op.at (span_of operand).end)) (op ∷ tokens)
stands_unary number op operand tokens is stands = record {
  some = not_empty op tokens;
  writes = λ i. sym is i ∷ stands.writes i;
  places = λ i. unary number (stands.places i) (from_to op.at (ends i));
}
  where
    ends : last_end op.end tokens ≡ (span_of operand).end
    ends = end_stands op.end operand tokens stands

pub stands_parenthesized : (opener closer : Token) (inner : Tree) (tokens : List Token) →
    opener.kind ≡ mark_word (codes "(") → closer.kind ≡ mark_word (codes ")") →
    Stands inner tokens → Stands (parenthesized inner (from_to opener.at closer.end))
    (opener ∷ tokens ++ closer ∷ [])
stands_parenthesized opener closer inner tokens opens closes stands = record {
  some = not_empty opener (tokens ++ closer ∷ []);
  writes =
      (λ i. sym opens i ∷ (stands.writes i ++ sym closes i ∷ []))
      ∙ ap (λ more. opener.kind ∷ more) (sym (kinds_append tokens (closer ∷ [])));
  places = λ i.
      parenthesized (placed_front inner tokens (closer ∷ []) stands i)
      (from_to opener.at (last_end_append opener.end tokens (closer ∷ []) i));
}

pub stands_binary : (number : ℕ) (op : Token) (left right : Tree) (lefts rights : List Token) →
    op.kind ≡ kind.Mark number → Stands left lefts → Stands right rights →
    Stands (binary number left right (across left right)) (lefts ++ op ∷ rights)
stands_binary number op left right lefts rights is l r = record {
  some = not_empty_append lefts op rights;
  writes = (λ i. l.writes i ++ (sym is i ∷ r.writes i)) ∙ sym (kinds_append lefts (op ∷ rights));
  places = λ i.
      binary number (placed_front left lefts (op ∷ rights) l i) (after i)
      (place_from left lefts op rights (span_of right).end l (end_stands op.end right rights r) i);
}
  where
    after : placed right (behind (write left) 1 (lefts ++ op ∷ rights)) ≡ right
    after = ap (placed right) (behind_front (write left) 1 lefts (op ∷ rights) l.writes) ∙ r.places

pub stands_conditional : (question colon : Token) (test one other : Tree)
    (tests ones others : List Token) → question.kind ≡ mark_word (codes "?") →
    colon.kind ≡ mark_word (codes ":") → Stands test tests → Stands one ones → Stands other others →
    Stands (conditional test one other (across test other))
    (tests ++ question ∷ (ones ++ colon ∷ others))
stands_conditional question colon test one other tests ones others asks parts t o e = record {
  some = not_empty_append tests question rest;
  writes =
      (λ i. t.writes i ++ (sym asks i ∷ (o.writes i ++ (sym parts i ∷ e.writes i))))
      ∙ (ap (λ more. kinds tests ++ question.kind ∷ more) (sym (kinds_append ones (colon ∷ others)))
      ∙ sym (kinds_append tests (question ∷ rest)));
  places = λ i.
      conditional (placed_front test tests (question ∷ rest) t i) (own_one i) (own_other i)
      (place_from test tests question rest (span_of other).end t ends i);
}
  where
    rest : List Token
    rest = ones ++ colon ∷ others

    at_one : behind (write test) 1 (tests ++ question ∷ rest) ≡ rest
    at_one = behind_front (write test) 1 tests (question ∷ rest) t.writes

    own_one : placed one (tokens_of (write one) (behind (write test) 1 (tests ++ question ∷ rest)))
        ≡ one
    own_one =
        ap (λ tokens. placed one (tokens_of (write one) tokens)) at_one ∙ placed_front one ones
        (colon ∷ others) o

    own_other : placed other
        (behind (write one) 1 (behind (write test) 1 (tests ++ question ∷ rest))) ≡ other
    own_other =
        ap (λ tokens. placed other (behind (write one) 1 tokens)) at_one
        ∙ (ap (placed other) (behind_front (write one) 1 ones (colon ∷ others) o.writes) ∙ e.places)

    ends : last_end question.end rest ≡ (span_of other).end
    ends = last_end_append question.end ones (colon ∷ others) ∙ end_stands colon.end other others e

pub stands_indexed : (opener closer : Token) (of at : Tree) (ofs ats : List Token) →
    opener.kind ≡ mark_word (codes "[") → closer.kind ≡ mark_word (codes "]") → Stands of ofs →
    Stands at ats → Stands (indexed of at (from_to (span_of of).at closer.end))
    (ofs ++ opener ∷ (ats ++ closer ∷ []))
stands_indexed opener closer of at ofs ats opens closes o a = record {
  some = not_empty_append ofs opener rest;
  writes =
      (λ i. o.writes i ++ (sym opens i ∷ (a.writes i ++ sym closes i ∷ [])))
      ∙ (ap (λ more. kinds ofs ++ opener.kind ∷ more) (sym (kinds_append ats (closer ∷ [])))
      ∙ sym (kinds_append ofs (opener ∷ rest)));
  places = λ i.
      indexed (placed_front of ofs (opener ∷ rest) o i) (own_at i)
      (place_from of ofs opener rest closer.end o (last_end_append opener.end ats (closer ∷ [])) i);
}
  where
    rest : List Token
    rest = ats ++ closer ∷ []

    own_at : placed at (tokens_of (write at) (behind (write of) 1 (ofs ++ opener ∷ rest))) ≡ at
    own_at =
        ap (λ tokens. placed at (tokens_of (write at) tokens)) (behind_front (write of) 1 ofs
        (opener ∷ rest) o.writes) ∙ placed_front at ats (closer ∷ []) a

pub stands_field : (dot name : Token) (text : List ℕ) (of : Tree) (ofs : List Token) →
    dot.kind ≡ mark_word (codes ".") → name.kind ≡ kind.Word text → Stands of ofs →
    Stands (field of (ident_at text (place name)) (from_to (span_of of).at name.end))
    (ofs ++ dot ∷ name ∷ [])
stands_field dot name text of ofs parts is o = record {
  some = not_empty_append ofs dot (name ∷ []);
  writes =
      (λ i. o.writes i ++ (sym parts i ∷ sym is i ∷ [])) ∙ sym (kinds_append ofs (dot ∷ name ∷ []));
  places = λ i.
      field (placed_front of ofs (dot ∷ name ∷ []) o i) (own i)
      (place_from of ofs dot (name ∷ []) name.end o refl i);
}
  where
    ident : Ident
    ident = ident_at text (place name)

    own : placed_ident ident (behind (write of) 1 (ofs ++ dot ∷ name ∷ [])) ≡ ident
    own = ap (placed_ident ident) (behind_front (write of) 1 ofs (dot ∷ name ∷ []) o.writes)

-- Names.

pub word_name_stands : (number : ℕ) (token : Token) → token.kind ≡ kind.Reserved number →
    NameStands (word_name number (place token)) (token ∷ [])
word_name_stands number token is = record {
  some = not_empty token [];
  writes = λ i. sym is i ∷ [];
  places = refl;
}

pub first_part_stands : (text : List ℕ) (token : Token) → token.kind ≡ kind.Word text →
    NameStands (path_name (first_part text (place token))) (token ∷ [])
first_part_stands text token is = record {
  some = not_empty token [];
  writes = λ i. sym is i ∷ [];
  places = refl;
}

pub absolute_stands : (text : List ℕ) (colon token : Token) → colon.kind ≡ mark_word (codes "::") →
    token.kind ≡ kind.Word text →
    NameStands (path_name (longer_path (absolute_path (place colon)) text (place token)))
    (colon ∷ token ∷ [])
absolute_stands text colon token parts is = record {
  some = not_empty colon (token ∷ []);
  writes = λ i. sym parts i ∷ sym is i ∷ [];
  places = refl;
}

-- a form with one part more
abbrev longer_form : NameForm → Ident → NameForm
longer_form (form.Parts absolute parts) last = form.Parts absolute (parts ++ last ∷ [])
longer_form (form.Word number) last = form.Word number

pub longer_parts_words : (part : Ident) (parts : List Ident) (last : Ident) →
    parts_words (part ∷ (parts ++ last ∷ [])) ≡ parts_words (part ∷ parts) ++ mark_word (codes "::")
    ∷ ident_word last ∷ []
longer_parts_words part [] last = refl
longer_parts_words part (next ∷ parts) last =
    ap (λ words. ident_word part ∷ mark_word (codes "::") ∷ words)
    (longer_parts_words next parts last)

longer_form_words : (absolute : Bool) (part : Ident) (parts : List Ident) (last : Ident) →
    form_words (form.Parts absolute (part ∷ (parts ++ last ∷ []))) ≡ form_words
    (form.Parts absolute (part ∷ parts)) ++ mark_word (codes "::") ∷ ident_word last ∷ []
longer_form_words true part parts last =
    ap (λ words. mark_word (codes "::") ∷ words) (longer_parts_words part parts last)
longer_form_words false part parts last = longer_parts_words part parts last

pub longer_parts_placed : (part : Ident) (parts : List Ident) (last : Ident) (tokens : List Token)
    (colon token : Token) → length (parts_words (part ∷ parts)) ≡ length tokens →
    placed_parts (part ∷ (parts ++ last ∷ [])) (tokens ++ colon ∷ token ∷ []) ≡ placed_parts
    (part ∷ parts) tokens ++ placed_ident last (token ∷ []) ∷ []
longer_parts_placed part [] last [] colon token is = absurd (omega (arith, is))
longer_parts_placed part [] last (own ∷ []) colon token is = refl
longer_parts_placed part [] last (own ∷ next ∷ tokens) colon token is = absurd (omega (arith, is))
longer_parts_placed part (next ∷ parts) last [] colon token is = absurd (omega (arith, is))
longer_parts_placed part (next ∷ parts) last (own ∷ []) colon token is =
    absurd (omega (arith, is))
longer_parts_placed part (next ∷ parts) last (own ∷ mark ∷ tokens) colon token is =
    ap (λ more. placed_ident part (own ∷ []) ∷ more) (longer_parts_placed next parts last tokens
    colon token (omega (arith, is)))

longer_form_placed : (absolute : Bool) (part : Ident) (parts : List Ident) (last : Ident)
    (tokens : List Token) (colon token : Token) →
    length (form_words (form.Parts absolute (part ∷ parts))) ≡ length tokens →
    placed_form (form.Parts absolute (part ∷ (parts ++ last ∷ []))) (tokens ++ colon ∷ token ∷ [])
    ≡ longer_form (placed_form (form.Parts absolute (part ∷ parts)) tokens)
    (placed_ident last (token ∷ []))
longer_form_placed true part parts last [] colon token is = absurd (omega (arith, is))
longer_form_placed true part parts last (own ∷ tokens) colon token is =
    ap (λ more. form.Parts true more) (longer_parts_placed part parts last tokens colon token
    (omega (arith, is)))
longer_form_placed false part parts last tokens colon token is =
    ap (λ more. form.Parts false more) (longer_parts_placed part parts last tokens colon token is)

longer_stands : (absolute : Bool) (part : Ident) (parts : List Ident) (span : Span) (text : List ℕ)
    (tokens : List Token) (colon token : Token) →
    NameStands (record { form = form.Parts absolute (part ∷ parts); span = span }) tokens →
    colon.kind ≡ mark_word (codes "::") → token.kind ≡ kind.Word text →
    NameStands (record {
      form = form.Parts absolute (part ∷ (parts ++ ident_at text (place token) ∷ []));
      span = from_to span.at token.end;
    }) (tokens ++ colon ∷ token ∷ [])
longer_stands absolute part parts span text tokens colon token stands divides is = record {
  some = not_empty_append tokens colon (token ∷ []);
  writes = writes;
  places = λ i. record { form = own_form i; span = own_span i };
}
  where
    last : Ident
    last = ident_at text (place token)

    before : Name
    before = record { form = form.Parts absolute (part ∷ parts); span = span }

    words : List Kind
    words = form_words (form.Parts absolute (part ∷ (parts ++ last ∷ [])))

    writes : words ≡ kinds (tokens ++ colon ∷ token ∷ [])
    writes =
        longer_form_words absolute part parts last
        ∙ ((λ i. stands.writes i ++ sym divides i ∷ sym is i ∷ []) ∙ sym
        (kinds_append tokens (colon ∷ token ∷ [])))

    own_form : placed_form (form.Parts absolute (part ∷ (parts ++ last ∷ [])))
        (tokens ++ colon ∷ token ∷ []) ≡ form.Parts absolute (part ∷ (parts ++ last ∷ []))
    own_form =
        longer_form_placed absolute part parts last tokens colon token
        (length_kinds (name_words before) tokens stands.writes) ∙ ap
        (λ (name : Name). longer_form name.form last) stands.places

    own_span : place_of (tokens_of words (tokens ++ colon ∷ token ∷ [])) ≡ from_to span.at token.end
    own_span =
        ap place_of (all_of words (tokens ++ colon ∷ token ∷ []) writes) ∙ place_from_name before
        tokens colon (token ∷ []) token.end stands refl

pub longer_path_stands : (path : Path) (text : List ℕ) (tokens : List Token) (colon token : Token) →
    NameStands (path_name path) tokens → (path.parts ≡ [] → ⊥) →
    colon.kind ≡ mark_word (codes "::") → token.kind ≡ kind.Word text →
    NameStands (path_name (longer_path path text (place token))) (tokens ++ colon ∷ token ∷ [])
longer_path_stands path text tokens colon token stands some divides is =
    by path.parts stands some
  where
    by : (parts : List Ident) →
        NameStands (record { form = form.Parts path.absolute parts; span = path.span }) tokens →
        (parts ≡ [] → ⊥) →
        NameStands (record {
          form = form.Parts path.absolute (parts ++ ident_at text (place token) ∷ []);
          span = from_to path.span.at token.end;
        }) (tokens ++ colon ∷ token ∷ [])
    by [] own none_left = absurd (none_left refl)
    by (part ∷ parts) own none_left =
        longer_stands path.absolute part parts path.span text tokens colon token own divides is

-- Types.

pub type_stands : (name : Name) (tokens : List Token) → NameStands name tokens →
    TypeStands (type_of name size.One name.span.end) tokens
type_stands name tokens stands = record {
  some = stands.some;
  writes = writes;
  places = λ i. record { name = stands.places i; size = size.One; span = own_span i };
}
  where
    writes : name_words name ++ [] ≡ kinds tokens
    writes = append-nil (name_words name) ∙ stands.writes

    own_span : place_of (tokens_of (name_words name ++ []) tokens) ≡ name.span
    own_span =
        ap place_of (all_of (name_words name ++ []) tokens writes) ∙ sym
        (name_span_stands name tokens stands)

pub sized_type_stands : (name : Name) (value : ℕ) (tokens : List Token)
    (opener number closer : Token) → NameStands name tokens → opener.kind ≡ mark_word (codes "[") →
    number.kind ≡ kind.Int value → closer.kind ≡ mark_word (codes "]") →
    TypeStands (type_of name (size.Sized value) closer.end) (tokens ++ opener ∷ number ∷ closer
    ∷ [])
sized_type_stands name value tokens opener number closer stands opens is closes = record {
  some = not_empty_append tokens opener (number ∷ closer ∷ []);
  writes = writes;
  places = λ i. record {
    name = name_kept name tokens rest stands i;
    size = size.Sized value;
    span = own_span i;
  };
}
  where
    rest : List Token
    rest = opener ∷ number ∷ closer ∷ []

    ty : TypeTree
    ty = type_of name (size.Sized value) closer.end

    writes : type_words ty ≡ kinds (tokens ++ rest)
    writes =
        (λ i. stands.writes i ++ sym opens i ∷ sym is i ∷ sym closes i ∷ []) ∙ sym
        (kinds_append tokens rest)

    own_span : place_of (tokens_of (type_words ty) (tokens ++ rest)) ≡ from_to name.span.at
        closer.end
    own_span =
        ap place_of (all_of (type_words ty) (tokens ++ rest) writes) ∙ place_from_name name tokens
        opener (number ∷ closer ∷ []) closer.end stands refl

pub deferred_type_stands : (name : Name) (text : List ℕ) (tokens : List Token)
    (opener less word greater closer : Token) → NameStands name tokens →
    opener.kind ≡ mark_word (codes "[") → less.kind ≡ mark_word (codes "<") →
    word.kind ≡ kind.Word text → greater.kind ≡ mark_word (codes ">") →
    closer.kind ≡ mark_word (codes "]") →
    TypeStands (type_of name (size.Deferred (ident_at text (place word))) closer.end)
    (tokens ++ opener ∷ less ∷ word ∷ greater ∷ closer ∷ [])
deferred_type_stands name text tokens opener less word greater closer stands opens begins is ends
    closes =
    record {
      some = not_empty_append tokens opener (less ∷ word ∷ greater ∷ closer ∷ []);
      writes = writes;
      places = λ i. record {
        name = name_kept name tokens rest stands i;
        size = own_size i;
        span = own_span i;
      };
    }
  where
    rest : List Token
    rest = opener ∷ less ∷ word ∷ greater ∷ closer ∷ []

    own : Size
    own = size.Deferred (ident_at text (place word))

    ty : TypeTree
    ty = type_of name own closer.end

    writes : type_words ty ≡ kinds (tokens ++ rest)
    writes =
        (λ i. stands.writes i ++ sym opens i ∷ sym begins i ∷ sym is i ∷ sym ends i ∷ sym closes i
        ∷ []) ∙ sym (kinds_append tokens rest)

    own_size : placed_size own (behind (name_words name) 0 (tokens ++ rest)) ≡ own
    own_size = ap (placed_size own) (behind_front (name_words name) 0 tokens rest stands.writes)

    own_span : place_of (tokens_of (type_words ty) (tokens ++ rest)) ≡ from_to name.span.at
        closer.end
    own_span =
        ap place_of (all_of (type_words ty) (tokens ++ rest) writes) ∙ place_from_name name tokens
        opener (less ∷ word ∷ greater ∷ closer ∷ []) closer.end stands refl
