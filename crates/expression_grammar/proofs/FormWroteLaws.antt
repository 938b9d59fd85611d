-- Each form of an expression is written from its parts.
use Rattle.std.proofs.Common.{◌≡◌, ◌≤◌, ◌∙◌, sym, ap, subst, refl, arith, ℕ, suc, Bool, true, List}
use Rattle.std.proofs.Common.{[]}
use Rattle.std.proofs.Common.{◌∷◌, ◌++◌, length, codes, Some}
use Rattle.mdl_lexer.specs.Kinds.{mark_word}
use Rattle.mdl_lexer.specs.declared.token.Kind.{Kind}
use Rattle.mdl_lexer.specs.declared.token.Kind.TheVariants as kind
use Rattle.mdl_lexer.specs.declared.token.Token.{Token}
use Rattle.mdl_syntax.specs.declared.names.Span.{Span}
use Rattle.mdl_syntax.specs.declared.names.Ident.{Ident}
use Rattle.mdl_syntax.specs.declared.names.Name.{Name}
use Rattle.mdl_syntax.specs.declared.expressions.Lit.{Lit}
use Rattle.mdl_syntax.specs.Words.{ident_word}
use Rattle.mdl_syntax.specs.Written.{write}
use Rattle.mdl_syntax.specs.Placed.{tokens_of, behind, placed, placed_name, placed_ident}
use Rattle.mdl_syntax.specs.Levels.{is_unary, binary_level, level}
use Rattle.mdl_syntax.specs.Levelled.{IsName}
use Rattle.mdl_syntax.specs.Trees.{Tree, literal, named, parenthesized, unary, binary, conditional}
use Rattle.mdl_syntax.specs.Trees.{indexed}
use Rattle.mdl_syntax.specs.Trees.{field}
use Rattle.expression_grammar.specs.inside.Machine.{span_of, from_to}
use Rattle.expression_grammar.specs.Readings.{kinds}
use Rattle.expression_grammar.specs.inside.Wrote.{Wrote, a_literal, a_name, a_parenthesized, a_unary}
use Rattle.expression_grammar.specs.inside.Wrote.{a_binary}
use Rattle.expression_grammar.specs.inside.Wrote.{a_conditional, an_indexed, a_field, a_call, an_array}
use Rattle.expression_grammar.specs.inside.Wrote.{a_plain_let}
use Rattle.expression_grammar.specs.inside.Wrote.{a_braced_let}
use Rattle.expression_grammar.proofs.HeightLaws.{placed_level}
use Rattle.expression_grammar.proofs.CutLaws.{First, first, cut_first, Around, around, cut_at, Last}
use Rattle.expression_grammar.proofs.CutLaws.{last, cut_last, head_is}
use Rattle.expression_grammar.proofs.NameWroteLaws.{name_wrote, name_some, name_span}
use Rattle.expression_grammar.proofs.KindLaws.{placed_from, front_of, behind_front, not_empty}
use Rattle.expression_grammar.proofs.KindLaws.{not_empty_append, last_end_append, end_placed}

-- a tree is written, with the places of any tokens that are its words
abbrev pub WroteAll : Bool → Tree → Type 0
WroteAll strict tree =
    (tokens : List Token) → write tree ≡ kinds tokens → Wrote strict (placed tree tokens) tokens

-- no tree is written with no tokens
wrote_some : (strict : Bool) (tree : Tree) (tokens : List Token) → Wrote strict tree tokens →
    tokens ≡ [] → ⊥
wrote_some strict tree tokens (a_literal token lit is) = not_empty token []
wrote_some strict tree tokens (a_name name names wrote) = name_some name names wrote
wrote_some strict tree tokens (a_parenthesized start close inner inners opens wrote closes) =
    not_empty start (inners ++ close ∷ [])
wrote_some strict tree tokens (a_unary op number operand operands is unary_is low wrote) = not_empty
    op operands
wrote_some strict tree tokens (a_binary op number own left right lefts rights is level_is low also l
    r) =
    not_empty_append lefts op rights
wrote_some strict tree tokens (a_conditional question colon test one other tests ones others q c low
    also t o e) =
    not_empty_append tests question (ones ++ colon ∷ others)
wrote_some strict tree tokens (an_indexed start close of at ofs ats opens closes low o a) =
    not_empty_append ofs start (ats ++ close ∷ [])
wrote_some strict tree tokens (a_field dot word text of ofs divides is low o) =
    not_empty_append ofs dot (word ∷ [])
wrote_some strict tree tokens (a_call start close name arguments names own n opens a closes) =
    not_empty_append names start (own ++ close ∷ [])
wrote_some strict tree tokens (an_array bracket end_bracket start close name own elements names
    sizes inside
    n opens s ends begins e closes) =
    not_empty_append names bracket (sizes ++ end_bracket ∷ start ∷ (inside ++ close ∷ []))
wrote_some strict tree tokens (a_plain_let word in_token initializer body own bodies w i n b) =
    not_empty word (own ++ in_token ∷ bodies)
wrote_some strict tree tokens (a_braced_let word brace close in_token one more body ones others
    bodies
    w br i is c n b) =
    not_empty word (brace ∷ (ones ++ (others ++ close ∷ in_token ∷ bodies)))

pub all_some : (strict : Bool) (tree : Tree) → WroteAll strict tree → (tokens : List Token) →
    write tree ≡ kinds tokens → tokens ≡ [] → ⊥
all_some strict tree all tokens is = wrote_some strict (placed tree tokens) tokens (all tokens is)

-- a level stays where a tree is placed
low_placed : (least : ℕ) (tree : Tree) (tokens : List Token) → least ≤ level tree →
    least ≤ level (placed tree tokens)
low_placed least tree tokens low = subst (λ n. least ≤ n) (sym (placed_level tree tokens)) low

pub literal_all : (strict : Bool) (own : Lit) (span : Span) → WroteAll strict (literal own span)
literal_all strict own span [] is = absurd (omega (arith, ap length is))
literal_all strict own span (token ∷ []) is = a_literal token own (head_is is)
literal_all strict own span (token ∷ more ∷ tokens) is = absurd (omega (arith, ap length is))

pub named_all : (strict : Bool) (name : Name) (span : Span) → IsName name →
    WroteAll strict (named name span)
named_all strict name span is_name tokens is =
    subst (λ own. Wrote strict (named (placed_name name tokens) own) tokens)
    (name_span name tokens is) (a_name (placed_name name tokens) tokens
    (name_wrote name tokens is_name is))

pub parenthesized_all : (strict : Bool) (inner : Tree) (span : Span) → WroteAll strict inner →
    WroteAll strict (parenthesized inner span)
parenthesized_all strict inner span all tokens is =
    by tokens (cut_first is)
  where
    last_by : (start : Token) (others : List Token) → start.kind ≡ mark_word (codes "(") →
        Last (write inner) (mark_word (codes ")")) others →
        Wrote strict (placed (parenthesized inner span) (start ∷ others)) (start ∷ others)
    last_by start others opens (last one close front closes) =
        subst (λ tree. Wrote strict tree (start ∷ (one ++ close ∷ [])))
        (sym (λ i. parenthesized (placed inner (front_of (write inner) one (close ∷ []) front i))
        (from_to start.at (last_end_append start.end one (close ∷ []) i))))
        (a_parenthesized start close (placed inner one) one (record { is = opens }) (all one front)
        (record { is = closes }))

    by : (tokens : List Token) →
        First (mark_word (codes "(")) (write inner ++ mark_word (codes ")") ∷ []) tokens →
        Wrote strict (placed (parenthesized inner span) tokens) tokens
    by tokens (first start others opens others_are) =
        last_by start others opens (cut_last others_are)

pub unary_all : (strict : Bool) (number : ℕ) (operand : Tree) (span : Span) →
    is_unary number ≡ true → 12 ≤ level operand → WroteAll strict operand →
    WroteAll strict (unary number operand span)
unary_all strict number operand span unary_is low all tokens is =
    by tokens (cut_first is)
  where
    by : (tokens : List Token) → First (kind.Mark number) (write operand) tokens →
        Wrote strict (placed (unary number operand span) tokens) tokens
    by tokens (first op rest op_is rest_is) =
        subst (λ tree. Wrote strict tree (op ∷ rest))
        (sym (λ i. unary number (placed operand rest) (from_to op.at (end_placed op.end operand rest
        (all_some strict operand all rest rest_is) i)))) (a_unary op number (placed operand rest)
        rest op_is unary_is (low_placed 12 operand rest low) (all rest rest_is))

pub binary_all : (strict : Bool) (number own : ℕ) (left right : Tree) (span : Span) →
    binary_level number ≡ Some own → own ≤ level left → suc own ≤ level right →
    WroteAll strict left → WroteAll strict right → WroteAll strict (binary number left right span)
binary_all strict number own left right span level_is low low_right left_all right_all tokens is =
    by tokens (cut_at is)
  where
    by : (tokens : List Token) → Around (write left) (kind.Mark number) (write right) tokens →
        Wrote strict (placed (binary number left right span) tokens) tokens
    by tokens (around lefts op rights lefts_are op_is rights_are) =
        subst (λ tree. Wrote strict tree (lefts ++ op ∷ rights))
        (sym (λ i. binary number (placed left (front_of (write left) lefts (op ∷ rights) lefts_are
        i)) (placed right (behind_front (write left) 1 lefts (op ∷ rights) lefts_are i))
        (placed_from left lefts op rights (span_of (placed right rights)).end
        (all_some strict left left_all lefts lefts_are) (end_placed op.end right rights
        (all_some strict right right_all rights rights_are)) i))) (a_binary op number own
        (placed left lefts) (placed right rights) lefts rights op_is level_is
        (low_placed own left lefts low) (low_placed (suc own) right rights low_right)
        (left_all lefts lefts_are) (right_all rights rights_are))

pub conditional_all : (strict : Bool) (test one other : Tree) (span : Span) → 2 ≤ level test →
    1 ≤ level other → WroteAll strict test → WroteAll strict one → WroteAll strict other →
    WroteAll strict (conditional test one other span)
conditional_all strict test one other span low low_other test_all one_all other_all tokens is =
    by tokens (cut_at is)
  where
    behind_question : List Kind
    behind_question = write one ++ (mark_word (codes ":") ∷ write other)

    inner : (tests : List Token) (question : Token) (rest : List Token) → write test ≡ kinds tests →
        question.kind ≡ mark_word (codes "?") → Around (write one) (mark_word (codes ":"))
        (write other) rest →
        Wrote strict (placed (conditional test one other span) (tests ++ question ∷ rest))
        (tests ++ question ∷ rest)
    inner tests question rest tests_are asks (around ones colon others ones_are parts others_are) =
        subst (λ tree. Wrote strict tree tokens_here)
        (sym (λ i. conditional (placed test (front_of (write test) tests (question ∷ behind_it)
        tests_are i)) (own_one i) (own_other i) (placed_from test tests question behind_it
        (span_of (placed other others)).end (all_some strict test test_all tests tests_are)
        (last_end_append question.end ones (colon ∷ others) ∙ end_placed colon.end other others
        (all_some strict other other_all others others_are)) i))) (a_conditional question colon
        (placed test tests) (placed one ones) (placed other others)
        tests ones others (record { is = asks }) (record { is = parts })
        (low_placed 2 test tests low) (low_placed 1 other others low_other)
        (test_all tests tests_are) (one_all ones ones_are) (other_all others others_are))
      where
        behind_it : List Token
        behind_it = ones ++ colon ∷ others

        tokens_here : List Token
        tokens_here = tests ++ question ∷ behind_it

        at_one : behind (write test) 1 tokens_here ≡ behind_it
        at_one = behind_front (write test) 1 tests (question ∷ behind_it) tests_are

        own_one : placed one (tokens_of (write one) (behind (write test) 1 tokens_here))
            ≡ placed one ones
        own_one =
            ap (λ own. placed one (tokens_of (write one) own)) at_one ∙ ap (placed one)
            (front_of (write one) ones (colon ∷ others) ones_are)

        own_other : placed other (behind (write one) 1 (behind (write test) 1 tokens_here))
            ≡ placed other others
        own_other =
            ap (λ own. placed other (behind (write one) 1 own)) at_one ∙ ap (placed other)
            (behind_front (write one) 1 ones (colon ∷ others) ones_are)

    by : (tokens : List Token) → Around (write test) (mark_word (codes "?")) behind_question
        tokens → Wrote strict (placed (conditional test one other span) tokens) tokens
    by tokens (around tests question rest tests_are asks rest_is) =
        inner tests question rest tests_are asks (cut_at rest_is)

pub indexed_all : (strict : Bool) (of at : Tree) (span : Span) → 13 ≤ level of →
    WroteAll strict of → WroteAll strict at → WroteAll strict (indexed of at span)
indexed_all strict of at span low of_all at_all tokens is =
    by tokens (cut_at is)
  where
    inner : (ofs : List Token) (start : Token) (rest : List Token) → write of ≡ kinds ofs →
        start.kind ≡ mark_word (codes "[") → Last (write at) (mark_word (codes "]")) rest →
        Wrote strict (placed (indexed of at span) (ofs ++ start ∷ rest)) (ofs ++ start ∷ rest)
    inner ofs start rest ofs_are opens (last ats close ats_are closes) =
        subst (λ tree. Wrote strict tree (ofs ++ start ∷ (ats ++ close ∷ [])))
        (sym (λ i. indexed (placed of (front_of (write of) ofs (start ∷ (ats ++ close ∷ [])) ofs_are
        i)) (own_at i) (placed_from of ofs start (ats ++ close ∷ []) close.end
        (all_some strict of of_all ofs ofs_are) (last_end_append start.end ats (close ∷ [])) i)))
        (an_indexed start close (placed of ofs) (placed at ats) ofs ats (record { is = opens })
        (record { is = closes }) (low_placed 13 of ofs low) (of_all ofs ofs_are)
        (at_all ats ats_are))
      where
        own_at : placed at
            (tokens_of (write at) (behind (write of) 1 (ofs ++ start ∷ (ats ++ close ∷ []))))
            ≡ placed at ats
        own_at =
            ap (λ own. placed at (tokens_of (write at) own)) (behind_front (write of) 1 ofs
            (start ∷ (ats ++ close ∷ [])) ofs_are) ∙ ap (placed at) (front_of (write at) ats
            (close ∷ []) ats_are)

    by : (tokens : List Token) →
        Around (write of) (mark_word (codes "[")) (write at ++ mark_word (codes "]") ∷ []) tokens →
        Wrote strict (placed (indexed of at span) tokens) tokens
    by tokens (around ofs start rest ofs_are opens rest_is) =
        inner ofs start rest ofs_are opens (cut_last rest_is)

pub field_all : (strict : Bool) (of : Tree) (name : Ident) (span : Span) → 13 ≤ level of →
    WroteAll strict of → WroteAll strict (field of name span)
field_all strict of name span low of_all tokens is =
    by tokens (cut_at is)
  where
    inner : (ofs : List Token) (dot : Token) (rest : List Token) → write of ≡ kinds ofs →
        dot.kind ≡ mark_word (codes ".") → ident_word name ∷ [] ≡ kinds rest →
        Wrote strict (placed (field of name span) (ofs ++ dot ∷ rest)) (ofs ++ dot ∷ rest)
    inner ofs dot [] ofs_are divides is = absurd (omega (arith, ap length is))
    inner ofs dot (word ∷ more ∷ rest) ofs_are divides is = absurd (omega (arith, ap length is))
    inner ofs dot (word ∷ []) ofs_are divides is =
        subst (λ tree. Wrote strict tree (ofs ++ dot ∷ word ∷ []))
        (sym (λ i. field (placed of (front_of (write of) ofs (dot ∷ word ∷ []) ofs_are i))
        (placed_ident name (behind_front (write of) 1 ofs (dot ∷ word ∷ []) ofs_are i))
        (placed_from of ofs dot (word ∷ []) word.end (all_some strict of of_all ofs ofs_are) refl
        i)))
        (a_field dot word name.text (placed of ofs) ofs (record { is = divides }) (head_is is)
        (low_placed 13 of ofs low) (of_all ofs ofs_are))

    by : (tokens : List Token) → Around (write of) (mark_word (codes ".")) (ident_word name ∷ [])
        tokens → Wrote strict (placed (field of name span) tokens) tokens
    by tokens (around ofs dot rest ofs_are divides rest_is) = inner ofs dot rest ofs_are divides
        rest_is
