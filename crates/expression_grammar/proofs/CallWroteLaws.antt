-- Calls, arrays and lets are written from their parts.
use Rattle.std.proofs.Common.{◌≡◌, ◌∙◌, sym, ap, subst, arith, ℕ, ◌+◌, Bool, true, false, List, []}
use Rattle.std.proofs.Common.{◌∷◌, ◌++◌}
use Rattle.std.proofs.Common.{length, drop, codes, Option}
use Rattle.std.proofs.lemmas.List.{append-nil, append_assoc, length-append}
use Rattle.std.proofs.Math.Seq.{drop-append-add}
use Rattle.mdl_lexer.specs.Kinds.{mark_word, name_word}
use Rattle.mdl_lexer.specs.declared.token.Kind.{Kind}
use Rattle.mdl_lexer.specs.declared.token.Token.{Token}
use Rattle.mdl_syntax.specs.declared.names.Span.{Span}
use Rattle.mdl_syntax.specs.declared.names.Ident.{Ident}
use Rattle.mdl_syntax.specs.declared.names.Name.{Name}
use Rattle.mdl_syntax.specs.declared.types.TypeTree.{TypeTree}
use Rattle.mdl_syntax.specs.declared.types.Freq.{Freq}
use Rattle.mdl_syntax.specs.Words.{name_words}
use Rattle.mdl_syntax.specs.Written.{number_words, write, write_trees, write_arguments}
use Rattle.mdl_syntax.specs.Written.{write_initializers}
use Rattle.mdl_syntax.specs.Placed.{behind, placed, placed_name, placed_trees, placed_arguments}
use Rattle.mdl_syntax.specs.Placed.{placed_initializers}
use Rattle.mdl_syntax.specs.Levelled.{IsName}
use Rattle.mdl_syntax.specs.Trees.{Tree, call, array, binding, Trees, Arguments, Initializers}
use Rattle.mdl_syntax.specs.Trees.{no_initializers, initializer_and, Initializer, initializers_of}
use Rattle.expression_grammar.specs.inside.Machine.{span_of, from_to}
use Rattle.expression_grammar.specs.Readings.{kinds}
use Rattle.expression_grammar.specs.inside.Wrote.{Wrote, a_call, an_array, a_plain_let, a_braced_let}
use Rattle.expression_grammar.specs.inside.Wrote.{InitializerWrote}
use Rattle.expression_grammar.proofs.CutLaws.{NoTokens, no_tokens, none, First, first, cut_first, Around}
use Rattle.expression_grammar.proofs.CutLaws.{around, cut_at, Last, last, cut_last}
use Rattle.expression_grammar.proofs.NameWroteLaws.{name_wrote, place_from_name, name_tokens}
use Rattle.expression_grammar.proofs.FormWroteLaws.{WroteAll, all_some}
use Rattle.expression_grammar.proofs.ListWroteLaws.{TreesAll, ArgumentsAll, tree_list, trees_same}
use Rattle.expression_grammar.proofs.ListWroteLaws.{argument_list}
use Rattle.expression_grammar.proofs.ListWroteLaws.{arguments_same}
use Rattle.expression_grammar.proofs.LetWroteLaws.{FirstBehind, InitializerBehind, behind_one}
use Rattle.expression_grammar.proofs.LetWroteLaws.{InitializersAll}
use Rattle.expression_grammar.proofs.LetWroteLaws.{initializer_list, initializers_same}
use Rattle.expression_grammar.proofs.KindLaws.{behind_front, length_kinds, last_end_append, end_placed}
use Rattle.expression_grammar.proofs.KindLaws.{name_before}

pub call_all : (strict : Bool) (name : Name) (arguments : Arguments) (span : Span) → IsName name →
    ArgumentsAll strict arguments → WroteAll strict (call name arguments span)
call_all strict name arguments span is_name all tokens is =
    by tokens (cut_at is)
  where
    inner : (names : List Token) (start : Token) (rest : List Token) →
        name_words name ≡ kinds names → start.kind ≡ mark_word (codes "(") →
        Last (write_arguments arguments) (mark_word (codes ")")) rest →
        Wrote strict (placed (call name arguments span) (names ++ start ∷ rest))
        (names ++ start ∷ rest)
    inner names start rest n opens (last own close o closes) =
        subst (λ tree. Wrote strict tree (names ++ start ∷ back))
        (sym (λ i. call (name_before name names (start ∷ back) n i)
        ((ap (placed_arguments arguments) (behind_front (name_words name) 1 names (start ∷ back) n)
        ∙ sym (arguments_same (placed_arguments arguments back))) i) (place_from_name name names
        start back close.end n (name_tokens name names is_name n) (last_end_append start.end own
        (close ∷ [])) i))) (a_call start close (placed_name name names)
        (argument_list (placed_arguments arguments back)) names own
        (name_wrote name names is_name n) (record { is = opens }) (all own (close ∷ []) o)
        (record { is = closes }))
      where
        back : List Token
        back = own ++ close ∷ []

    by : (tokens : List Token) → Around (name_words name) (mark_word (codes "("))
        (write_arguments arguments ++ mark_word (codes ")") ∷ []) tokens →
        Wrote strict (placed (call name arguments span) tokens) tokens
    by tokens (around names start rest n opens r) =
        inner names start rest n opens (cut_last r)

behind_brackets : (a b : List Kind) (names sizes : List Token) (bracket end_bracket start : Token)
    (back : List Token) → a ≡ kinds names → b ≡ kinds sizes →
    behind (a ++ b) 3 (names ++ bracket ∷ (sizes ++ end_bracket ∷ start ∷ back)) ≡ back
behind_brackets a b names sizes bracket end_bracket start back n s =
    ap (λ n. drop n (names ++ bracket ∷ (sizes ++ end_bracket ∷ start ∷ back))) long
    ∙ (ap (λ tokens. drop (length front + 0) tokens) (sym joined) ∙ drop-append-add front back 0)
  where
    front : List Token
    front = names ++ bracket ∷ (sizes ++ end_bracket ∷ start ∷ [])

    long : length (a ++ b) + 3 ≡ length front + 0
    long = omega (
      arith,
      length-append a b,
      length_kinds a names n,
      length_kinds b sizes s,
      length-append names (bracket ∷ (sizes ++ end_bracket ∷ start ∷ [])),
      length-append sizes (end_bracket ∷ start ∷ []),
    )

    joined : front ++ back ≡ names ++ bracket ∷ (sizes ++ end_bracket ∷ start ∷ back)
    joined =
        append_assoc names (bracket ∷ (sizes ++ end_bracket ∷ start ∷ [])) back ∙ ap
        (λ more. names ++ bracket ∷ more) (append_assoc sizes (end_bracket ∷ start ∷ []) back)

pub array_all : (strict : Bool) (name : Name) (own : Option ℕ) (elements : Trees) (span : Span) →
    IsName name → TreesAll strict elements → WroteAll strict (array name own elements span)
array_all strict name own elements span is_name all tokens is =
    by tokens (cut_at is)
  where
    element_words : List Kind
    element_words = write_trees elements ++ mark_word (codes ")") ∷ []

    behind_size : List Kind
    behind_size = mark_word (codes "]") ∷ mark_word (codes "(") ∷ element_words

    fourth : (names : List Token) (bracket : Token) (sizes : List Token) (end_bracket start : Token)
        (rest : List Token) → name_words name ≡ kinds names → bracket.kind ≡ mark_word (codes "[") →
        number_words own ≡ kinds sizes → end_bracket.kind ≡ mark_word (codes "]") →
        start.kind ≡ mark_word (codes "(") → Last (write_trees elements) (mark_word (codes ")"))
        rest →
        Wrote strict (placed (array name own elements span)
        (names ++ bracket ∷ (sizes ++ end_bracket ∷ start ∷ rest)))
        (names ++ bracket ∷ (sizes ++ end_bracket ∷ start ∷ rest))
    fourth names bracket sizes end_bracket start rest n b s e o (last inside close t closes) =
        subst (λ tree. Wrote strict tree (names ++ bracket ∷ behind_it))
        (sym (λ i. array (name_before name names (bracket ∷ behind_it) n i) own
        ((ap (placed_trees elements) (behind_brackets (name_words name) (number_words own) names
        sizes bracket end_bracket start back n s) ∙ sym (trees_same (placed_trees elements back)))
        i) (place_from_name name names bracket behind_it close.end n (name_tokens name names is_name
        n) (last_end_append bracket.end sizes (end_bracket ∷ start ∷ back) ∙ last_end_append
        start.end inside (close ∷ [])) i))) (an_array bracket end_bracket start close
        (placed_name name names) own (tree_list (placed_trees elements back)) names sizes inside
        (name_wrote name names is_name n)
        (record { is = b }) s (record { is = e }) (record { is = o }) (all inside (close ∷ []) t)
        (record { is = closes }))
      where
        back : List Token
        back = inside ++ close ∷ []

        behind_it : List Token
        behind_it = sizes ++ end_bracket ∷ start ∷ back

    third : (names : List Token) (bracket : Token) (sizes : List Token) (end_bracket : Token)
        (rest : List Token) → name_words name ≡ kinds names → bracket.kind ≡ mark_word (codes "[") →
        number_words own ≡ kinds sizes → end_bracket.kind ≡ mark_word (codes "]") →
        First (mark_word (codes "(")) element_words rest →
        Wrote strict (placed (array name own elements span)
        (names ++ bracket ∷ (sizes ++ end_bracket ∷ rest)))
        (names ++ bracket ∷ (sizes ++ end_bracket ∷ rest))
    third names bracket sizes end_bracket rest n b s e (first start others o r) =
        fourth names bracket sizes end_bracket start others n b s e o (cut_last r)

    second : (names : List Token) (bracket : Token) (rest : List Token) →
        name_words name ≡ kinds names → bracket.kind ≡ mark_word (codes "[") →
        Around (number_words own) (mark_word (codes "]")) (mark_word (codes "(") ∷ element_words)
        rest → Wrote strict (placed (array name own elements span) (names ++ bracket ∷ rest))
        (names ++ bracket ∷ rest)
    second names bracket rest n b (around sizes end_bracket others s e r) =
        third names bracket sizes end_bracket others n b s e (cut_first r)

    by : (tokens : List Token) →
        Around (name_words name) (mark_word (codes "[")) (number_words own ++ behind_size) tokens →
        Wrote strict (placed (array name own elements span) tokens) tokens
    by tokens (around names bracket rest n b r) =
        second names bracket rest n b (cut_at r)

-- Lets.

pub braced_all : (strict : Bool) (frequency : Option Freq) (ty : TypeTree) (name : Ident)
    (value : Tree) (place : Span) (others : Initializers) (body : Tree) (span : Span) →
    FirstBehind strict frequency ty name value place others → InitializersAll strict others →
    WroteAll strict body →
    WroteAll strict (binding true (initializer_and frequency ty name value place others) body span)
braced_all strict frequency ty name value place others body span first_all others_all body_all
    tokens is =
    by tokens (cut_first is)
  where
    all : Initializers
    all = initializer_and frequency ty name value place others

    tree : Tree
    tree = binding true all body span

    let_words : List Kind
    let_words = write_initializers all ++ (mark_word (codes "}") ∷ name_word (codes "in") ∷ write
        body)

    fifth : (word brace : Token) (own : List Token) (close in_token : Token) (bodies : List Token)
        (list : List Initializer) → word.kind ≡ name_word (codes "let") →
        brace.kind ≡ mark_word (codes "{") → close.kind ≡ mark_word (codes "}") →
        in_token.kind ≡ name_word (codes "in") → write body ≡ kinds bodies →
        InitializerBehind strict others (close ∷ in_token ∷ bodies) list own →
        Wrote strict (binding true (initializers_of list) (placed body bodies)
        (from_to word.at (span_of (placed body bodies)).end))
        (word ∷ brace ∷ (own ++ close ∷ in_token ∷ bodies))
    fifth word brace own close in_token bodies list w b c i t (behind_one head one other list_is
        wrote o) =
        subst (λ all. Wrote strict (binding true (initializers_of all) (placed body bodies)
        (from_to word.at (span_of (placed body bodies)).end))
        (word ∷ brace ∷ ((one ++ other) ++ close ∷ in_token ∷ bodies))) (sym list_is)
        (subst (λ tokens. Wrote strict (binding true (initializers_of (head ∷ more))
        (placed body bodies) (from_to word.at (span_of (placed body bodies)).end))
        (word ∷ brace ∷ tokens)) (sym (append_assoc one other rest))
        (a_braced_let word brace close in_token head more (placed body bodies) one other bodies
        (record { is = w }) (record { is = b }) wrote (others_all other rest o) (record { is = c })
        (record { is = i }) (body_all bodies t)))
      where
        rest : List Token
        rest = close ∷ in_token ∷ bodies

        more : List Initializer
        more = initializer_list (placed_initializers others (other ++ rest))

    fourth : (word brace : Token) (own : List Token) (close in_token : Token)
        (bodies : List Token) → word.kind ≡ name_word (codes "let") →
        brace.kind ≡ mark_word (codes "{") → write_initializers all ≡ kinds own →
        close.kind ≡ mark_word (codes "}") → in_token.kind ≡ name_word (codes "in") →
        write body ≡ kinds bodies →
        Wrote strict (placed tree (word ∷ brace ∷ (own ++ close ∷ in_token ∷ bodies)))
        (word ∷ brace ∷ (own ++ close ∷ in_token ∷ bodies))
    fourth word brace own close in_token bodies w b o c i t =
        subst (λ made. Wrote strict made (word ∷ brace ∷ (own ++ rest)))
        (λ j. binding true (initializers_same (placed_initializers all (own ++ rest)) j)
        (placed body (sym (behind_front (write_initializers all) 2 own rest o) j))
        (from_to word.at (sym (last_end_append brace.end own (close ∷ in_token ∷ bodies)
        ∙ end_placed in_token.end body bodies (all_some strict body body_all bodies t)) j)))
        (fifth word brace own close in_token bodies
        (initializer_list (placed_initializers all (own ++ rest))) w b c i t (first_all own rest o))
      where
        rest : List Token
        rest = close ∷ in_token ∷ bodies

    third : (word brace : Token) (own : List Token) (close : Token) (more : List Token) →
        word.kind ≡ name_word (codes "let") → brace.kind ≡ mark_word (codes "{") →
        write_initializers all ≡ kinds own → close.kind ≡ mark_word (codes "}") →
        First (name_word (codes "in")) (write body) more →
        Wrote strict (placed tree (word ∷ brace ∷ (own ++ close ∷ more)))
        (word ∷ brace ∷ (own ++ close ∷ more))
    third word brace own close more w b o c (first in_token bodies i t) =
        fourth word brace own close in_token bodies w b o c i t

    second : (word brace : Token) (more : List Token) → word.kind ≡ name_word (codes "let") →
        brace.kind ≡ mark_word (codes "{") → Around (write_initializers all) (mark_word (codes "}"))
        (name_word (codes "in") ∷ write body) more →
        Wrote strict (placed tree (word ∷ brace ∷ more)) (word ∷ brace ∷ more)
    second word brace more w b (around own close rest o c r) =
        third word brace own close rest w b o c (cut_first r)

    next : (word : Token) (more : List Token) → word.kind ≡ name_word (codes "let") →
        First (mark_word (codes "{")) let_words more →
        Wrote strict (placed tree (word ∷ more)) (word ∷ more)
    next word more w (first brace rest b r) =
        second word brace rest w b (cut_at r)

    by : (tokens : List Token) → First (name_word (codes "let")) (mark_word (codes "{") ∷ let_words)
        tokens → Wrote strict (placed tree tokens) tokens
    by tokens (first word rest w r) = next word rest w (cut_first r)

pub plain_all : (strict : Bool) (frequency : Option Freq) (ty : TypeTree) (name : Ident)
    (value : Tree) (place : Span) (body : Tree) (span : Span) →
    FirstBehind strict frequency ty name value place no_initializers → WroteAll strict body →
    WroteAll strict (binding false (initializer_and frequency ty name value place no_initializers)
    body span)
plain_all strict frequency ty name value place body span first_all body_all tokens is =
    by tokens (cut_first is)
  where
    all : Initializers
    all = initializer_and frequency ty name value place no_initializers

    tree : Tree
    tree = binding false all body span

    let_words : List Kind
    let_words = write_initializers all ++ (name_word (codes "in") ∷ write body)

    fifth : (word : Token) (one other : List Token) (in_token : Token) (bodies : List Token)
        (head : Initializer) → word.kind ≡ name_word (codes "let") →
        in_token.kind ≡ name_word (codes "in") → write body ≡ kinds bodies →
        InitializerWrote strict head one → NoTokens other →
        Wrote strict (binding false (initializers_of (head ∷ [])) (placed body bodies)
        (from_to word.at (span_of (placed body bodies)).end))
        (word ∷ ((one ++ other) ++ in_token ∷ bodies))
    fifth word one other in_token bodies head w i t wrote no_tokens =
        subst (λ tokens. Wrote strict (binding false (initializers_of (head ∷ []))
        (placed body bodies) (from_to word.at (span_of (placed body bodies)).end))
        (word ∷ (tokens ++ in_token ∷ bodies))) (sym (append-nil one))
        (a_plain_let word in_token head (placed body bodies) one bodies (record { is = w }) wrote
        (record { is = i }) (body_all bodies t))

    fourth : (word : Token) (own : List Token) (in_token : Token) (bodies : List Token)
        (list : List Initializer) → word.kind ≡ name_word (codes "let") →
        in_token.kind ≡ name_word (codes "in") → write body ≡ kinds bodies →
        InitializerBehind strict no_initializers (in_token ∷ bodies) list own →
        Wrote strict (binding false (initializers_of list) (placed body bodies)
        (from_to word.at (span_of (placed body bodies)).end)) (word ∷ (own ++ in_token ∷ bodies))
    fourth word own in_token bodies list w i t (behind_one head one other list_is wrote o) =
        subst (λ all. Wrote strict (binding false (initializers_of all) (placed body bodies)
        (from_to word.at (span_of (placed body bodies)).end))
        (word ∷ ((one ++ other) ++ in_token ∷ bodies))) (sym list_is)
        (fifth word one other in_token bodies head w i t wrote (none o))

    second : (word : Token) (more : List Token) → word.kind ≡ name_word (codes "let") →
        Around (write_initializers all) (name_word (codes "in")) (write body) more →
        Wrote strict (placed tree (word ∷ more)) (word ∷ more)
    second word more w (around own in_token bodies o i t) =
        subst (λ made. Wrote strict made (word ∷ (own ++ in_token ∷ bodies)))
        (λ j. binding false (initializers_same (placed_initializers all (own ++ in_token ∷ bodies))
        j) (placed body (sym (behind_front (write_initializers all) 1 own (in_token ∷ bodies) o) j))
        (from_to word.at (sym (last_end_append word.end own (in_token ∷ bodies)
        ∙ end_placed in_token.end body bodies (all_some strict body body_all bodies t)) j)))
        (fourth word own in_token bodies
        (initializer_list (placed_initializers all (own ++ in_token ∷ bodies))) w i t
        (first_all own (in_token ∷ bodies) o))

    by : (tokens : List Token) → First (name_word (codes "let")) let_words tokens →
        Wrote strict (placed tree tokens) tokens
    by tokens (first word rest w r) =
        second word rest w (cut_at r)
