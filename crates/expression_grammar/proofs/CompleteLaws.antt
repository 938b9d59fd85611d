-- Behind an expression the machine holds what it has taken.
use Rattle.std.proofs.Common.{◌≡◌, ◌∙◌, sym, ap, subst, refl, ℕ, Bool, true, false, List, [], ◌∷◌}
use Rattle.std.proofs.Common.{◌++◌}
use Rattle.std.proofs.Common.{None, codes, if◌then◌else◌, ◌+◌, nat_le, length, suc}
use Rattle.std.proofs.lemmas.Bool.{cond_both}
use Rattle.std.proofs.lemmas.List.{append_assoc}
use Rattle.mdl_lexer.specs.Kinds.{mark_word}
use Rattle.mdl_lexer.specs.declared.token.Kind.TheVariants as kind
use Rattle.mdl_lexer.specs.declared.token.Token.{Token}
use Rattle.mdl_syntax.specs.declared.names.Name.{Name}
use Rattle.mdl_syntax.specs.declared.types.TypeTree.{TypeTree}
use Rattle.mdl_syntax.specs.declared.expressions.Lit.TheVariants as lit
use Rattle.mdl_syntax.specs.Heights.{height}
use Rattle.mdl_syntax.specs.Words.{frequency_words}
use Rattle.mdl_syntax.specs.Placed.{place_of}
use Rattle.mdl_syntax.specs.Trees.{Tree, parenthesized, unary, binary, conditional, indexed}
use Rattle.mdl_syntax.specs.Trees.{call, array, binding, Initializer}
use Rattle.mdl_syntax.specs.Trees.{trees_of, arguments_of, initializers_of}
use Rattle.expression_grammar.specs.inside.Machine.{Frame, Mode, Path, Head, Let, Purpose, Sort, Step}
use Rattle.expression_grammar.specs.inside.Machine.{Finish}
use Rattle.expression_grammar.specs.inside.Machine.{goes, finished, ends_badly, ends_deep}
use Rattle.expression_grammar.specs.inside.Machine.{in_parentheses, behind_unary, behind_infix}
use Rattle.expression_grammar.specs.inside.Machine.{behind_question}
use Rattle.expression_grammar.specs.inside.Machine.{behind_colon, in_index, in_arguments, in_elements}
use Rattle.expression_grammar.specs.inside.Machine.{in_let}
use Rattle.expression_grammar.specs.inside.Machine.{in_initializer, in_body, wanted}
use Rattle.expression_grammar.specs.inside.Machine.{complete}
use Rattle.expression_grammar.specs.inside.Machine.{argument_wanted, field_wanted, next_wanted, in_wanted}
use Rattle.expression_grammar.specs.inside.Machine.{part_read, word_read, sized_closed}
use Rattle.expression_grammar.specs.inside.Machine.{span_of, from_to, across, ident_at, path_name}
use Rattle.expression_grammar.specs.inside.Machine.{name_tree}
use Rattle.expression_grammar.specs.inside.Machine.{integer_tree, indexed_tree, argument, longer_let}
use Rattle.expression_grammar.specs.inside.Machine.{reduced, within, around, infix_step}
use Rattle.expression_grammar.specs.inside.Machine.{colon_step}
use Rattle.expression_grammar.specs.inside.Machine.{question_step, closing_step, bracket_step, comma_step}
use Rattle.expression_grammar.specs.inside.Machine.{semicolon_step, complete_step, whole, unless_bad_end}
use Rattle.expression_grammar.specs.inside.Machine.{finish}
use Rattle.expression_grammar.specs.inside.Machine.{either_operator, binary_operator, question, colon}
use Rattle.expression_grammar.specs.inside.Machine.{closing, opening_bracket, closing_bracket}
use Rattle.expression_grammar.specs.inside.Machine.{comma, semicolon, dot}
use Rattle.expression_grammar.specs.Readings.{kinds}
use Rattle.expression_grammar.specs.inside.Stands.{Stands, NameStands, TypeStands}
use Rattle.expression_grammar.specs.inside.Stands.{InitializersStand}
use Rattle.expression_grammar.specs.inside.Sorts.{IsOf}
use Rattle.expression_grammar.specs.inside.Sound.{IsMark, IsReserved, LetStands, with_braces, without}
use Rattle.expression_grammar.specs.inside.Sound.{HeadStands}
use Rattle.expression_grammar.specs.inside.Sound.{with_frequency, without_frequency, Around, nothing}
use Rattle.expression_grammar.specs.inside.Sound.{parentheses}
use Rattle.expression_grammar.specs.inside.Sound.{unary_front, binary_front, question_front, colon_front}
use Rattle.expression_grammar.specs.inside.Sound.{index_front}
use Rattle.expression_grammar.specs.inside.Sound.{first_argument_front, next_argument_front}
use Rattle.expression_grammar.specs.inside.Sound.{first_element_front}
use Rattle.expression_grammar.specs.inside.Sound.{next_element_front, let_front, initializer_front}
use Rattle.expression_grammar.specs.inside.Sound.{body_front}
use Rattle.expression_grammar.specs.inside.Sound.{braced_body_front, place, FrontStands, of_expression}
use Rattle.expression_grammar.specs.inside.Sound.{of_type}
use Rattle.expression_grammar.specs.inside.Sound.{Holds, is_wanted, is_complete, part_is_read}
use Rattle.expression_grammar.specs.inside.Sound.{word_is_read, size_is_closed}
use Rattle.expression_grammar.specs.inside.Sound.{argument_is_wanted}
use Rattle.expression_grammar.specs.inside.Sound.{field_is_wanted}
use Rattle.expression_grammar.specs.inside.Sound.{next_is_wanted, in_is_wanted}
use Rattle.expression_grammar.proofs.HoldLaws.{HoldsAt, within_holds}
use Rattle.expression_grammar.proofs.FormLaws.{stands_literal, stands_name, stands_unary}
use Rattle.expression_grammar.proofs.FormLaws.{stands_parenthesized}
use Rattle.expression_grammar.proofs.FormLaws.{stands_binary, stands_conditional, stands_indexed}
use Rattle.expression_grammar.proofs.ListLaws.{first_argument_stands, next_argument_stands, stands_call}
use Rattle.expression_grammar.proofs.ListLaws.{first_tree_stands, next_tree_stands, stands_array}
use Rattle.expression_grammar.proofs.ListLaws.{stands_binding, stands_binding_braced}
use Rattle.expression_grammar.proofs.KindLaws.{append_some, not_empty_append}
use Rattle.expression_grammar.proofs.ListLaws.{no_label_stands, initializer_of, next_initializer_stands}

-- what is left behind a reduction stands for the same tokens
pub record ReducedStands (result : Tree × List Frame) (tokens : List Token) : Type 0 where
  pub before : List Token
  pub own : List Token
  pub front : Around result.1 before
  pub stands : Stands result.0 own
  pub same : tokens ≡ before ++ own

here : (tree : Tree) (frames : List Frame) (before own : List Token) → Around frames before →
    Stands tree own → ReducedStands (tree, frames) (before ++ own)
here tree frames before own front stands = record {
  before = before;
  own = own;
  front = front;
  stands = stands;
  same = refl;
}

-- a frame that may be tight, where what it holds with its operand reduces
tight : (grip : ℕ) (b : Bool) (tree whole : Tree) (frame : Frame) (frames : List Frame)
    (front middle own : List Token) → Around (frame ∷ frames) (front ++ middle) → Stands tree own →
    ReducedStands (reduced grip whole frames) (front ++ (middle ++ own)) →
    ReducedStands (if b then reduced grip whole frames else (tree, frame ∷ frames))
    ((front ++ middle) ++ own)
tight grip true tree whole frame frames front middle own before stands behind =
    subst (ReducedStands (reduced grip whole frames)) (sym (append_assoc front middle own)) behind
tight grip false tree whole frame frames front middle own before stands behind =
    here tree (frame ∷ frames) (front ++ middle) own before stands

conditional_joined : (tests ones own : List Token) (asks parts : Token) →
    (tests ++ asks ∷ (ones ++ parts ∷ [])) ++ own ≡ tests ++ asks ∷ (ones ++ parts ∷ own)
conditional_joined tests ones own asks parts =
    append_assoc tests (asks ∷ (ones ++ parts ∷ [])) own ∙ ap (λ t. tests ++ asks ∷ t)
    (append_assoc ones (parts ∷ []) own)

abbrev IsTrue : Bool → Type 0
IsTrue true = Unit {0}
IsTrue false = ⊥

no_braces : true ≡ false → ⊥
no_braces is = subst IsTrue is tt

let_binds : (held : Let) (tokens : List Token) (in_token : Token) (body : Tree)
    (bodies : List Token) → LetStands held tokens → held.braces ≡ false →
    IsReserved in_token (codes "in") → Stands body bodies →
    Stands (binding held.braces (initializers_of held.initializers) body
    (from_to held.at (span_of body).end)) (tokens ++ in_token ∷ bodies)
let_binds held tokens in_token body bodies (with_braces word brace own inner w b is) bn i stands =
    absurd (no_braces bn)
let_binds held tokens in_token body bodies (without word own inner w is) bn i stands =
    stands_binding word own inner in_token body bodies w.is i.is is stands

braced_let_binds : (held : Let) (tokens : List Token) (close in_token : Token) (body : Tree)
    (bodies : List Token) → LetStands held tokens → held.braces ≡ true → IsMark close (codes "}") →
    IsReserved in_token (codes "in") → Stands body bodies →
    Stands (binding held.braces (initializers_of held.initializers) body
    (from_to held.at (span_of body).end)) (tokens ++ close ∷ in_token ∷ bodies)
braced_let_binds held tokens close in_token body bodies (with_braces word brace own inner w b is) bn
    c i
    stands =
    stands_binding_braced word brace own inner close in_token body bodies w.is b.is c.is i.is is
    stands
braced_let_binds held tokens close in_token body bodies (without word own inner w is) bn c i
    stands =
    absurd (no_braces (sym bn))

reduced_sound : (grip : ℕ) (tree : Tree) (frames : List Frame) (before own : List Token) →
    Around frames before → Stands tree own →
    ReducedStands (reduced grip tree frames) (before ++ own)
reduced_sound grip tree frames before own nothing stands = here tree [] [] own nothing stands
reduced_sound grip tree frames before own (parentheses rest front mark a m) stands =
    here tree (in_parentheses mark.at ∷ rest) (front ++ mark ∷ []) own
    (parentheses rest front mark a m) stands
reduced_sound grip tree frames before own (unary_front rest front op number a is) stands =
    tight grip (nat_le grip 12) tree (unary number tree (from_to op.at (span_of tree).end))
    (behind_unary number op.at) rest front (op ∷ []) own (unary_front rest front op number a is)
    stands (reduced_sound grip (unary number tree (from_to op.at (span_of tree).end)) rest front
    (op ∷ own) a (stands_unary number op tree own is stands))
reduced_sound grip tree frames before own (binary_front rest front lefts op number level left a l
    is)
    stands =
    tight grip (nat_le grip level) tree (binary number left tree (across left tree))
    (behind_infix number level left) rest front (lefts ++ op ∷ []) own
    (binary_front rest front lefts op number level left a l is) stands
    (reduced_sound grip (binary number left tree (across left tree)) rest front
    ((lefts ++ op ∷ []) ++ own) a (subst (Stands (binary number left tree (across left tree)))
    (sym (append_assoc lefts (op ∷ []) own)) (stands_binary number op left tree lefts own is l
    stands)))
reduced_sound grip tree frames before own (question_front rest front tests asks test a t m) stands =
    here tree (behind_question test ∷ rest) (front ++ (tests ++ asks ∷ [])) own
    (question_front rest front tests asks test a t m) stands
reduced_sound grip tree frames before own (colon_front rest front tests ones asks parts test one a t
    m o p) stands =
    tight grip (nat_le grip 1) tree (conditional test one tree (across test tree))
    (behind_colon test one) rest front (tests ++ asks ∷ (ones ++ parts ∷ [])) own
    (colon_front rest front tests ones asks parts test one a t m o p) stands
    (reduced_sound grip (conditional test one tree (across test tree)) rest front
    ((tests ++ asks ∷ (ones ++ parts ∷ [])) ++ own) a
    (subst (Stands (conditional test one tree (across test tree)))
    (sym (conditional_joined tests ones own asks parts)) (stands_conditional asks parts test one
    tree tests ones own m.is p.is t o stands)))
reduced_sound grip tree frames before own (index_front rest front ofs mark of a o m) stands =
    here tree (in_index of ∷ rest) (front ++ (ofs ++ mark ∷ [])) own
    (index_front rest front ofs mark of a o m) stands
reduced_sound grip tree frames before own (first_argument_front rest front names labels mark name
    with_name label a n m l) stands =
    here tree (in_arguments name [] with_name label ∷ rest) (front ++ (names ++ mark ∷ labels)) own
    (first_argument_front rest front names labels mark name with_name label a n m l) stands
reduced_sound grip tree frames before own (next_argument_front rest front names tokens labels mark
    sep name arguments with_name label a n m s e c l) stands =
    here tree (in_arguments name arguments with_name label ∷ rest)
    (front ++ (names ++ mark ∷ (tokens ++ sep ∷ labels))) own (next_argument_front rest front names
    tokens labels mark sep name arguments with_name label a n m s e c l) stands
reduced_sound grip tree frames before own (first_element_front rest front names sizes bracket
    end_bracket mark name size a n b s e m) stands =
    here tree (in_elements name size [] ∷ rest)
    (front ++ (names ++ bracket ∷ (sizes ++ end_bracket ∷ mark ∷ []))) own
    (first_element_front rest front names sizes bracket end_bracket mark name size a n b s e m)
    stands
reduced_sound grip tree frames before own (next_element_front rest front names sizes tokens bracket
    end_bracket mark sep name size trees a n b s e m t some c) stands =
    here tree (in_elements name size trees ∷ rest)
    (front ++ (names ++ bracket ∷ (sizes ++ end_bracket ∷ mark ∷ (tokens ++ sep ∷ [])))) own
    (next_element_front rest front names sizes tokens bracket end_bracket mark sep name size trees a
    n b s e m t some c) stands
reduced_sound grip tree frames before own (let_front rest front tokens held a l) stands =
    here tree (in_let held ∷ rest) (front ++ tokens) own (let_front rest front tokens held a l)
    stands
reduced_sound grip tree frames before own
    (initializer_front rest front tokens heads types word sign held head ty text a l h t at w e)
    stands =
    here tree (in_initializer held head ty (record { text = text; span = from_to word.at word.end })
    ∷ rest) (front ++ (tokens ++ (heads ++ (types ++ word ∷ sign ∷ [])))) own
    (initializer_front rest front tokens heads types word sign held head ty text a l h t at w e)
    stands
reduced_sound grip tree frames before own (body_front rest front tokens in_token held a l bn i)
    stands =
    let body = binding held.braces (initializers_of held.initializers) tree
    (from_to held.at (span_of tree).end) in
    tight grip (nat_le grip 0) tree body (in_body held) rest front (tokens ++ in_token ∷ []) own
    (body_front rest front tokens in_token held a l bn i) stands (reduced_sound grip body rest front
    ((tokens ++ in_token ∷ []) ++ own) a
    (subst (Stands body) (sym (append_assoc tokens (in_token ∷ []) own)) (let_binds held tokens
    in_token tree own l bn i stands)))
reduced_sound grip tree frames before own
    (braced_body_front rest front tokens close in_token held a l bn c i) stands =
    let body = binding held.braces (initializers_of held.initializers) tree
    (from_to held.at (span_of tree).end) in
    tight grip (nat_le grip 0) tree body (in_body held) rest front (tokens ++ close ∷ in_token ∷ [])
    own (braced_body_front rest front tokens close in_token held a l bn c i) stands
    (reduced_sound grip body rest front ((tokens ++ close ∷ in_token ∷ []) ++ own) a
    (subst (Stands body) (sym (append_assoc tokens (close ∷ in_token ∷ []) own))
    (braced_let_binds held tokens close in_token tree own l bn c i stands)))

-- Steps.

-- what is behind stands behind the operand
behind_own : (tokens before own rest : List Token) → tokens ≡ before ++ own →
    tokens ++ rest ≡ before ++ (own ++ rest)
behind_own tokens before own rest same = ap (λ t. t ++ rest) same ∙ append_assoc before own rest

infix_keeps : (limit op level : ℕ) (result : Tree × List Frame) (tokens : List Token)
    (token : Token) → token.kind ≡ kind.Mark op → ReducedStands result tokens →
    HoldsAt (infix_step limit op level result) (tokens ++ token ∷ [])
infix_keeps limit op level (tree, frames) tokens token is r =
    within_holds (tokens ++ token ∷ []) limit frames (suc (height tree))
    (goes wanted (behind_infix op level tree ∷ frames))
    (subst (Holds wanted (behind_infix op level tree ∷ frames))
    (sym (behind_own tokens r.before r.own (token ∷ []) r.same))
    (is_wanted (behind_infix op level tree ∷ frames) (r.before ++ (r.own ++ token ∷ []))
    (binary_front frames r.before r.own token op level tree r.front r.stands is)))

question_keeps : (limit : ℕ) (result : Tree × List Frame) (tokens : List Token) (token : Token) →
    token.kind ≡ mark_word (codes "?") → ReducedStands result tokens →
    HoldsAt (question_step limit result) (tokens ++ token ∷ [])
question_keeps limit (tree, frames) tokens token is r =
    within_holds (tokens ++ token ∷ []) limit frames (suc (height tree))
    (goes wanted (behind_question tree ∷ frames))
    (subst (Holds wanted (behind_question tree ∷ frames))
    (sym (behind_own tokens r.before r.own (token ∷ []) r.same))
    (is_wanted (behind_question tree ∷ frames) (r.before ++ (r.own ++ token ∷ []))
    (question_front frames r.before r.own token tree r.front r.stands (record { is = is }))))

index_keeps : (limit : ℕ) (tree : Tree) (frames : List Frame) (before own : List Token)
    (token : Token) → token.kind ≡ mark_word (codes "[") → Around frames before → Stands tree own →
    HoldsAt (around limit (in_index tree) tree frames) ((before ++ own) ++ token ∷ [])
index_keeps limit tree frames before own token is front stands =
    within_holds ((before ++ own) ++ token ∷ []) limit frames (suc (height tree))
    (goes wanted (in_index tree ∷ frames)) (subst (Holds wanted (in_index tree ∷ frames))
    (sym (append_assoc before own (token ∷ []))) (is_wanted (in_index tree ∷ frames)
    (before ++ (own ++ token ∷ []))
    (index_front frames before own token tree front stands (record { is = is }))))

dot_keeps : (limit : ℕ) (tree : Tree) (frames : List Frame) (before own : List Token)
    (token : Token) → token.kind ≡ mark_word (codes ".") → Around frames before → Stands tree own →
    HoldsAt (within limit frames (suc (height tree)) (goes (field_wanted tree) frames))
    ((before ++ own) ++ token ∷ [])
dot_keeps limit tree frames before own token is front stands =
    within_holds ((before ++ own) ++ token ∷ []) limit frames (suc (height tree))
    (goes (field_wanted tree) frames) (subst (Holds (field_wanted tree) frames)
    (sym (append_assoc before own (token ∷ [])))
    (field_is_wanted frames before own tree token front stands (record { is = is })))

-- a frame's own tokens, the operand, and the token behind it
four : (front middle own last form : List Token) → middle ++ (own ++ last) ≡ form →
    ((front ++ middle) ++ own) ++ last ≡ front ++ form
four front middle own last form is =
    append_assoc (front ++ middle) own last ∙ (append_assoc front middle (own ++ last) ∙ ap
    (λ t. front ++ t) is)

-- what a step of a reduced tree does, it does for each way to reduce to it
from_reduced : (step : Tree × List Frame → Step) (last : List Token) →
    ((tree : Tree) (frames : List Frame) (before own : List Token) → Around frames before → Stands
    tree own → HoldsAt (step (tree, frames)) ((before ++ own) ++ last)) →
    (result : Tree × List Frame) (tokens : List Token) → ReducedStands result tokens →
    HoldsAt (step result) (tokens ++ last)
from_reduced step last by (tree, frames) tokens r =
    subst (λ t. HoldsAt (step (tree, frames)) (t ++ last)) (sym r.same)
    (by tree frames r.before r.own r.front r.stands)

bracket_keeps : (token : Token) → token.kind ≡ mark_word (codes "]") →
    (tree : Tree) (frames : List Frame) (before own : List Token) → Around frames before →
    Stands tree own → HoldsAt (bracket_step token.end (tree, frames))
    ((before ++ own) ++ token ∷ [])
bracket_keeps token is tree frames before own (index_front rest front ofs mark of a o m) stands =
    subst (Holds (complete (indexed of tree (from_to (span_of of).at token.end))) rest)
    (sym (four front (ofs ++ mark ∷ []) own (token ∷ []) (ofs ++ mark ∷ (own ++ token ∷ []))
    (append_assoc ofs (mark ∷ []) (own ++ token ∷ [])))) (is_complete rest front
    (ofs ++ mark ∷ (own ++ token ∷ [])) (indexed of tree (from_to (span_of of).at token.end)) a
    (stands_indexed mark token of tree ofs own m.is is o stands))
bracket_keeps token is tree frames before own _ stands = tt

colon_keeps : (token : Token) → token.kind ≡ mark_word (codes ":") →
    (tree : Tree) (frames : List Frame) (before own : List Token) → Around frames before →
    Stands tree own → HoldsAt (colon_step (tree, frames)) ((before ++ own) ++ token ∷ [])
colon_keeps token is tree frames before own (question_front rest front tests asks test a t m)
    stands =
    subst (Holds wanted (behind_colon test tree ∷ rest))
    (sym (four front (tests ++ asks ∷ []) own (token ∷ []) (tests ++ asks ∷ (own ++ token ∷ []))
    (append_assoc tests (asks ∷ []) (own ++ token ∷ []))))
    (is_wanted (behind_colon test tree ∷ rest) (front ++ (tests ++ asks ∷ (own ++ token ∷ [])))
    (colon_front rest front tests own asks token test tree a t m stands (record { is = is })))
colon_keeps token is tree frames before own _ stands = tt

-- The forms of what closes arguments and elements.

first_joined : (names labels own last : List Token) (mark : Token) →
    (names ++ mark ∷ labels) ++ (own ++ last) ≡ names ++ mark ∷ ((labels ++ own) ++ last)
first_joined names labels own last mark =
    append_assoc names (mark ∷ labels) (own ++ last) ∙ ap (λ t. names ++ mark ∷ t)
    (sym (append_assoc labels own last))

again_joined : (tokens labels own last : List Token) (sep : Token) →
    (tokens ++ sep ∷ labels) ++ (own ++ last) ≡ (tokens ++ sep ∷ (labels ++ own)) ++ last
again_joined tokens labels own last sep =
    sym (append_assoc (tokens ++ sep ∷ labels) own last) ∙ ap (λ t. t ++ last)
    (append_assoc tokens (sep ∷ labels) own)

next_joined : (names tokens labels own last : List Token) (mark sep : Token) →
    (names ++ mark ∷ (tokens ++ sep ∷ labels)) ++ (own ++ last) ≡ names ++ mark
    ∷ ((tokens ++ sep ∷ (labels ++ own)) ++ last)
next_joined names tokens labels own last mark sep =
    append_assoc names (mark ∷ (tokens ++ sep ∷ labels)) (own ++ last) ∙ ap (λ t. names ++ mark ∷ t)
    (again_joined tokens labels own last sep)

element_joined : (names sizes own last : List Token) (bracket end_bracket mark : Token) →
    (names ++ bracket ∷ (sizes ++ end_bracket ∷ mark ∷ [])) ++ (own ++ last) ≡ names ++ bracket
    ∷ (sizes ++ end_bracket ∷ mark ∷ (own ++ last))
element_joined names sizes own last bracket end_bracket mark =
    append_assoc names (bracket ∷ (sizes ++ end_bracket ∷ mark ∷ [])) (own ++ last) ∙ ap
    (λ t. names ++ bracket ∷ t) (append_assoc sizes (end_bracket ∷ mark ∷ []) (own ++ last))

next_element_joined : (names sizes tokens own last : List Token)
    (bracket end_bracket mark sep : Token) →
    (names ++ bracket ∷ (sizes ++ end_bracket ∷ mark ∷ (tokens ++ sep ∷ []))) ++ (own ++ last)
    ≡ names ++ bracket ∷ (sizes ++ end_bracket ∷ mark ∷ ((tokens ++ sep ∷ own) ++ last))
next_element_joined names sizes tokens own last bracket end_bracket mark sep =
    append_assoc names (bracket ∷ (sizes ++ end_bracket ∷ mark ∷ (tokens ++ sep ∷ [])))
    (own ++ last) ∙ (ap (λ t. names ++ bracket ∷ t)
    (append_assoc sizes (end_bracket ∷ mark ∷ (tokens ++ sep ∷ [])) (own ++ last)) ∙ ap
    (λ t. names ++ bracket ∷ (sizes ++ end_bracket ∷ mark ∷ t)) (again_joined tokens [] own last
    sep))

closing_keeps : (token : Token) → token.kind ≡ mark_word (codes ")") →
    (tree : Tree) (frames : List Frame) (before own : List Token) → Around frames before →
    Stands tree own → HoldsAt (closing_step token.end (tree, frames))
    ((before ++ own) ++ token ∷ [])
closing_keeps token is tree frames before own (parentheses rest front mark a m) stands =
    subst (Holds (complete (parenthesized tree (from_to mark.at token.end))) rest)
    (sym (four front (mark ∷ []) own (token ∷ []) (mark ∷ (own ++ token ∷ [])) refl))
    (is_complete rest front (mark ∷ (own ++ token ∷ []))
    (parenthesized tree (from_to mark.at token.end)) a (stands_parenthesized mark token tree own
    m.is is stands))
closing_keeps token is tree frames before own
    (first_argument_front rest front names labels mark name with_name label a n m l) stands =
    let whole = call name (arguments_of (argument label tree ∷ []))
    (from_to name.span.at token.end) in
    let form = names ++ mark ∷ ((labels ++ own) ++ token ∷ []) in
    subst (Holds (complete whole) rest) (sym (four front (names ++ mark ∷ labels) own (token ∷ [])
    form (first_joined names labels own (token ∷ []) mark))) (is_complete rest front form whole a
    (stands_call name names mark (argument label tree ∷ []) (labels ++ own) token n m.is is
    (first_argument_stands label labels tree own l stands)))
closing_keeps token is tree frames before own
    (next_argument_front rest front names tokens labels mark sep name arguments with_name label a n
    m s e c l)
    stands =
    let whole = call name (arguments_of (arguments ++ argument label tree ∷ []))
    (from_to name.span.at token.end) in
    let form = names ++ mark ∷ ((tokens ++ sep ∷ (labels ++ own)) ++ token ∷ []) in
    subst (Holds (complete whole) rest) (sym (four front (names ++ mark ∷ (tokens ++ sep ∷ labels))
    own (token ∷ []) form (next_joined names tokens labels own (token ∷ []) mark sep)))
    (is_complete rest front form whole a (stands_call name names mark (arguments ++ argument label
    tree ∷ []) (tokens ++ sep ∷ (labels ++ own)) token n m.is is (next_argument_stands arguments
    tokens sep label labels tree own s e c.is l stands)))
closing_keeps token is tree frames before own
    (first_element_front rest front names sizes bracket end_bracket mark name size a n b s e m)
    stands =
    let whole = array name size (trees_of (tree ∷ [])) (from_to name.span.at token.end) in
    let form = names ++ bracket ∷ (sizes ++ end_bracket ∷ mark ∷ (own ++ token ∷ [])) in
    subst (Holds (complete whole) rest)
    (sym (four front (names ++ bracket ∷ (sizes ++ end_bracket ∷ mark ∷ [])) own (token ∷ []) form
    (element_joined names sizes own (token ∷ []) bracket end_bracket mark)))
    (is_complete rest front form whole a (stands_array name names size sizes bracket end_bracket
    mark (tree ∷ []) own token n s b.is e.is m.is is (first_tree_stands tree own stands)))
closing_keeps token is tree frames before own
    (next_element_front rest front names sizes tokens bracket end_bracket mark sep name size trees
    a n b s e m t some c) stands =
    let whole = array name size (trees_of (trees ++ tree ∷ [])) (from_to name.span.at token.end) in
    let form = names ++ bracket ∷ (sizes ++ end_bracket ∷ mark ∷ ((tokens ++ sep ∷ own) ++ token
    ∷ [])) in
    subst (Holds (complete whole) rest)
    (sym (four front (names ++ bracket ∷ (sizes ++ end_bracket ∷ mark ∷ (tokens ++ sep ∷ []))) own
    (token ∷ []) form (next_element_joined names sizes tokens own (token ∷ []) bracket end_bracket
    mark sep))) (is_complete rest front form whole a (stands_array name names size sizes bracket
    end_bracket mark (trees ++ tree ∷ []) (tokens ++ sep ∷ own) token n s b.is e.is m.is is
    (next_tree_stands trees tokens sep tree own t some c.is stands)))
closing_keeps token is tree frames before own _ stands = tt

comma_keeps : (token : Token) → token.kind ≡ mark_word (codes ",") →
    (tree : Tree) (frames : List Frame) (before own : List Token) → Around frames before →
    Stands tree own → HoldsAt (comma_step (tree, frames)) ((before ++ own) ++ token ∷ [])
comma_keeps token is tree frames before own
    (first_argument_front rest front names labels mark name with_name label a n m l) stands =
    let arguments = argument label tree ∷ [] in
    let form = names ++ mark ∷ ((labels ++ own) ++ token ∷ []) in
    subst (Holds argument_wanted (in_arguments name arguments with_name None ∷ rest))
    (sym (four front (names ++ mark ∷ labels) own (token ∷ []) form (first_joined names labels own
    (token ∷ []) mark))) (argument_is_wanted rest (front ++ form) name arguments with_name
    (next_argument_front rest front names (labels ++ own) [] mark token name arguments with_name
    None a n m (first_argument_stands label labels tree own l stands)
    (not_empty_append [] (argument label tree) [])
    (record { is = is }) no_label_stands))
comma_keeps token is tree frames before own
    (next_argument_front rest front names tokens labels mark sep name old with_name label a n m s e
    c
    l) stands =
    let arguments = old ++ argument label tree ∷ [] in
    let form = names ++ mark ∷ ((tokens ++ sep ∷ (labels ++ own)) ++ token ∷ []) in
    subst (Holds argument_wanted (in_arguments name arguments with_name None ∷ rest))
    (sym (four front (names ++ mark ∷ (tokens ++ sep ∷ labels)) own (token ∷ []) form
    (next_joined names tokens labels own (token ∷ []) mark sep))) (argument_is_wanted rest
    (front ++ form) name arguments with_name (next_argument_front rest front names
    (tokens ++ sep ∷ (labels ++ own)) [] mark token name arguments with_name None a n m
    (next_argument_stands old tokens sep label labels tree own s e c.is l stands)
    (not_empty_append old (argument label tree) []) (record { is = is }) no_label_stands))
comma_keeps token is tree frames before own
    (first_element_front rest front names sizes bracket end_bracket mark name size a n b s e m)
    stands =
    let form = names ++ bracket ∷ (sizes ++ end_bracket ∷ mark ∷ (own ++ token ∷ [])) in
    subst (Holds wanted (in_elements name size (tree ∷ []) ∷ rest))
    (sym (four front (names ++ bracket ∷ (sizes ++ end_bracket ∷ mark ∷ [])) own (token ∷ []) form
    (element_joined names sizes own (token ∷ []) bracket end_bracket mark)))
    (is_wanted (in_elements name size (tree ∷ []) ∷ rest) (front ++ form)
    (next_element_front rest front names sizes own bracket end_bracket mark token name size
    (tree ∷ []) a n b s e m (first_tree_stands tree own stands) (not_empty_append [] tree [])
    (record { is = is })))
comma_keeps token is tree frames before own
    (next_element_front rest front names sizes tokens bracket end_bracket mark sep name size trees
    a n b s e m t some c) stands =
    let form = names ++ bracket ∷ (sizes ++ end_bracket ∷ mark ∷ ((tokens ++ sep ∷ own) ++ token
    ∷ [])) in
    subst (Holds wanted (in_elements name size (trees ++ tree ∷ []) ∷ rest))
    (sym (four front (names ++ bracket ∷ (sizes ++ end_bracket ∷ mark ∷ (tokens ++ sep ∷ []))) own
    (token ∷ []) form (next_element_joined names sizes tokens own (token ∷ []) bracket end_bracket
    mark sep))) (is_wanted (in_elements name size (trees ++ tree ∷ []) ∷ rest) (front ++ form)
    (next_element_front rest front names sizes (tokens ++ sep ∷ own) bracket end_bracket mark token
    name size (trees ++ tree ∷ []) a n b s e m (next_tree_stands trees tokens sep tree own t some
    c.is stands)
    (not_empty_append trees tree []) (record { is = is })))
comma_keeps token is tree frames before own _ stands = tt

-- the first of some tokens
record Begins (tokens : List Token) (at : ℕ) : Type 0 where
  pub first : Token
  pub others : List Token
  pub is : tokens ≡ first ∷ others
  pub there : at ≡ first.at

begins : (tokens : List Token) (at : ℕ) → (tokens ≡ [] → ⊥) → at ≡ (place_of tokens).at →
    Begins tokens at
begins [] at some is = absurd (some refl)
begins (first ∷ others) at some is =
    record { first = first; others = others; is = refl; there = is }

head_words : (head : Head) (heads : List Token) → HeadStands head heads →
    frequency_words head.frequency ≡ kinds heads
head_words head heads (with_frequency word own at is) = is
head_words head heads (without_frequency own is) = ap frequency_words is

-- the initializers with the one that ends here
grown : (before : List Initializer) (inner : List Token) (head : Head) (heads : List Token)
    (ty : TypeTree) (types : List Token) (text : List ℕ) (word sign : Token) (tree : Tree)
    (own : List Token) (token : Token) → InitializersStand before inner → HeadStands head heads →
    TypeStands ty types → head.at ≡ (place_of (heads ++ types)).at → word.kind ≡ kind.Word text →
    IsMark sign (codes "=") → Stands tree own → token.kind ≡ mark_word (codes ";") →
    InitializersStand (before ++ initializer_of head.frequency ty text word tree head.at token ∷ [])
    (inner ++ (heads ++ (types ++ word ∷ sign ∷ (own ++ token ∷ []))))
grown before inner head heads ty types text word sign tree own token held h t at w e stands is =
    let b = begins (heads ++ types) head.at (append_some heads types t.some) at in
    next_initializer_stands before inner head.frequency heads ty types text word sign tree own token
    head.at b.first b.others held (head_words head heads h) t w e.is stands is b.is b.there

longer_let_stands : (held : Let) (tokens : List Token) (head : Head) (heads : List Token)
    (ty : TypeTree) (types : List Token) (text : List ℕ) (word sign : Token) (tree : Tree)
    (own : List Token) (token : Token) → LetStands held tokens → HeadStands head heads →
    TypeStands ty types → head.at ≡ (place_of (heads ++ types)).at → word.kind ≡ kind.Word text →
    IsMark sign (codes "=") → Stands tree own → token.kind ≡ mark_word (codes ";") →
    LetStands (longer_let held head ty (ident_at text (from_to word.at word.end)) tree token.end)
    (tokens ++ (heads ++ (types ++ word ∷ sign ∷ (own ++ token ∷ []))))
longer_let_stands held tokens head heads ty types text word sign tree own token
    (with_braces first brace before inner f b is) h t at w e stands s =
    with_braces first brace (before ++ initializer_of head.frequency ty text word tree head.at token
    ∷ []) (inner ++ (heads ++ (types ++ word ∷ sign ∷ (own ++ token ∷ [])))) f b
    (grown before inner head heads ty types text word sign tree own token is h t at w e stands s)
longer_let_stands held tokens head heads ty types text word sign tree own token
    (without first before inner f is) h t at w e stands s =
    without first (before ++ initializer_of head.frequency ty text word tree head.at token ∷ [])
    (inner ++ (heads ++ (types ++ word ∷ sign ∷ (own ++ token ∷ [])))) f
    (grown before inner head heads ty types text word sign tree own token is h t at w e stands s)

next_holds : (b : Bool) (held : Let) (frames : List Frame) (tokens : List Token) → held.braces ≡ b →
    Around (in_let held ∷ frames) tokens → Holds (if b then next_wanted else in_wanted)
    (in_let held ∷ frames) tokens
next_holds true held frames tokens is front = next_is_wanted frames tokens held front is
next_holds false held frames tokens is front = in_is_wanted frames tokens held front is

initializer_joined : (tokens heads types own last : List Token) (word sign : Token) →
    (tokens ++ (heads ++ (types ++ word ∷ sign ∷ []))) ++ (own ++ last)
    ≡ tokens ++ (heads ++ (types ++ word ∷ sign ∷ (own ++ last)))
initializer_joined tokens heads types own last word sign =
    append_assoc tokens (heads ++ (types ++ word ∷ sign ∷ [])) (own ++ last) ∙ ap (λ t. tokens ++ t)
    (append_assoc heads (types ++ word ∷ sign ∷ []) (own ++ last) ∙ ap (λ t. heads ++ t)
    (append_assoc types (word ∷ sign ∷ []) (own ++ last)))

semicolon_keeps : (token : Token) → token.kind ≡ mark_word (codes ";") →
    (tree : Tree) (frames : List Frame) (before own : List Token) → Around frames before →
    Stands tree own → HoldsAt (semicolon_step token.end (tree, frames))
    ((before ++ own) ++ token ∷ [])
semicolon_keeps token is tree frames before own
    (initializer_front rest front tokens heads types word sign held head ty text a l h t at w e)
    stands =
    let ident = ident_at text (from_to word.at word.end) in
    let longer = longer_let held head ty ident tree token.end in
    let form = tokens ++ (heads ++ (types ++ word ∷ sign ∷ (own ++ token ∷ []))) in
    subst (Holds (if held.braces then next_wanted else in_wanted) (in_let longer ∷ rest))
    (sym (four front (tokens ++ (heads ++ (types ++ word ∷ sign ∷ []))) own (token ∷ []) form
    (initializer_joined tokens heads types own (token ∷ []) word sign)))
    (next_holds held.braces longer rest (front ++ form) refl (let_front rest front form longer a
    (longer_let_stands held tokens head heads ty types text word sign tree own token l h t at w e
    stands is)))
semicolon_keeps token is tree frames before own _ stands = tt

-- Behind an expression.

pub complete_keeps : (limit : ℕ) (frames : List Frame) (before own : List Token) (tree : Tree)
    (token : Token) (sort : Sort) → IsOf sort token.kind → Around frames before → Stands tree own →
    HoldsAt (complete_step limit tree frames sort (place token)) ((before ++ own) ++ token ∷ [])
complete_keeps limit frames before own tree token (either_operator op level) is front stands =
    infix_keeps limit op level (reduced level tree frames) (before ++ own) token is.0
    (reduced_sound level tree frames before own front stands)
complete_keeps limit frames before own tree token (binary_operator op level) is front stands =
    infix_keeps limit op level (reduced level tree frames) (before ++ own) token is.0
    (reduced_sound level tree frames before own front stands)
complete_keeps limit frames before own tree token question is front stands =
    question_keeps limit (reduced 2 tree frames) (before ++ own) token is
    (reduced_sound 2 tree frames before own front stands)
complete_keeps limit frames before own tree token dot is front stands =
    dot_keeps limit tree frames before own token is front stands
complete_keeps limit frames before own tree token opening_bracket is front stands =
    index_keeps limit tree frames before own token is front stands
complete_keeps limit frames before own tree token colon is front stands =
    from_reduced colon_step (token ∷ []) (colon_keeps token is) (reduced 0 tree frames)
    (before ++ own) (reduced_sound 0 tree frames before own front stands)
complete_keeps limit frames before own tree token closing is front stands =
    from_reduced (closing_step token.end) (token ∷ []) (closing_keeps token is)
    (reduced 0 tree frames) (before ++ own) (reduced_sound 0 tree frames before own front stands)
complete_keeps limit frames before own tree token closing_bracket is front stands =
    from_reduced (bracket_step token.end) (token ∷ []) (bracket_keeps token is)
    (reduced 0 tree frames) (before ++ own) (reduced_sound 0 tree frames before own front stands)
complete_keeps limit frames before own tree token comma is front stands =
    from_reduced comma_step (token ∷ []) (comma_keeps token is) (reduced 0 tree frames)
    (before ++ own) (reduced_sound 0 tree frames before own front stands)
complete_keeps limit frames before own tree token semicolon is front stands =
    from_reduced (semicolon_step token.end) (token ∷ []) (semicolon_keeps token is)
    (reduced 0 tree frames) (before ++ own) (reduced_sound 0 tree frames before own front stands)
complete_keeps limit frames before own tree token _ is front stands = tt

-- The end.

-- a finished tree stands for these tokens
abbrev FinishStands : Finish → List Token → Type 0
FinishStands (finished tree) tokens = Stands tree tokens
FinishStands ends_badly tokens = Unit {0}
FinishStands ends_deep tokens = Unit {0}

whole_around : (tree : Tree) (frames : List Frame) (before own : List Token) →
    Around frames before → Stands tree own → FinishStands (whole (tree, frames)) (before ++ own)
whole_around tree frames before own nothing stands = stands
whole_around tree frames before own _ stands = tt

whole_sound : (result : Tree × List Frame) (tokens : List Token) → ReducedStands result tokens →
    FinishStands (whole result) tokens
whole_sound (tree, frames) tokens r =
    subst (FinishStands (whole (tree, frames))) (sym r.same) (whole_around tree frames r.before
    r.own r.front r.stands)

whole_stands : (tree : Tree) (frames : List Frame) (before own : List Token) →
    Around frames before → Stands tree own → FinishStands (whole (reduced 0 tree frames))
    (before ++ own)
whole_stands tree frames before own front stands =
    whole_sound (reduced 0 tree frames) (before ++ own) (reduced_sound 0 tree frames before own
    front stands)

unless_bad_stands : (limit : ℕ) (frames : List Frame) (need : ℕ) (end : Finish)
    (tokens : List Token) → FinishStands end tokens →
    FinishStands (unless_bad_end limit frames need end) tokens
unless_bad_stands limit frames need (finished tree) tokens stands =
    cond_both (nat_le (length frames + need) limit) (finished tree) ends_deep
    (λ e. FinishStands e tokens) (λ is. stands) (λ is. tt)
unless_bad_stands limit frames need ends_badly tokens stands = tt
unless_bad_stands limit frames need ends_deep tokens stands = tt

part_end : (limit : ℕ) (frames : List Frame) (before heads own : List Token) (purpose : Purpose)
    (path : Path) → Around frames before → FrontStands purpose heads own →
    NameStands (path_name path) own → FinishStands (finish limit (part_read purpose path) frames)
    (before ++ (heads ++ own))
part_end limit frames before heads own purpose path front (of_expression same) name =
    whole_stands (name_tree (path_name path)) frames before own front
    (stands_name (path_name path) own name)
part_end limit frames before heads own purpose path front (of_type head all same h at) name = tt

word_end : (limit : ℕ) (frames : List Frame) (before heads own : List Token) (purpose : Purpose)
    (name : Name) → Around frames before → FrontStands purpose heads own → NameStands name own →
    FinishStands (finish limit (word_read purpose name) frames) (before ++ (heads ++ own))
word_end limit frames before heads own purpose name front (of_expression same) stands =
    whole_stands (name_tree name) frames before own front (stands_name name own stands)
word_end limit frames before heads own purpose name front (of_type head all same h at) stands = tt

sized_end : (limit : ℕ) (frames : List Frame) (before names : List Token) (name : Name)
    (mark number close : Token) (value : ℕ) → Around frames before → NameStands name names →
    IsMark mark (codes "[") → number.kind ≡ kind.Int value → IsMark close (codes "]") →
    FinishStands (finish limit (sized_closed name value (place number) close.end) frames)
    (before ++ (names ++ mark ∷ number ∷ close ∷ []))
sized_end limit frames before names name mark number close value front stands m is c =
    let tree = indexed_tree name value (place number) close.end in
    unless_bad_stands limit frames 2 (whole (reduced 0 tree frames))
    (before ++ (names ++ mark ∷ number ∷ close ∷ [])) (whole_stands tree frames before
    (names ++ mark ∷ number ∷ close ∷ []) front (stands_indexed mark close (name_tree name)
    (integer_tree value (place number)) names (number ∷ []) m.is c.is (stands_name name names
    stands) (stands_literal (lit.Int value) number is)))

finish_holds : (limit : ℕ) (mode : Mode) (frames : List Frame) (tokens : List Token) →
    Holds mode frames tokens → FinishStands (finish limit mode frames) tokens
finish_holds limit mode frames tokens (is_complete all before own tree front stands) =
    whole_stands tree all before own front stands
finish_holds limit mode frames tokens (part_is_read all before heads own purpose path front purposed
    name some) =
    part_end limit all before heads own purpose path front purposed name
finish_holds limit mode frames tokens (word_is_read all before heads own purpose name front purposed
    stands) =
    word_end limit all before heads own purpose name front purposed stands
finish_holds limit mode frames tokens (size_is_closed all before names name mark number close value
    front stands m is c) =
    sized_end limit all before names name mark number close value front stands m is c
finish_holds limit mode frames tokens _ = tt

-- a finished text is the tree's
pub finish_sound : (limit : ℕ) (mode : Mode) (frames : List Frame) (tokens : List Token)
    (tree : Tree) → Holds mode frames tokens → finish limit mode frames ≡ finished tree →
    Stands tree tokens
finish_sound limit mode frames tokens tree holds is =
    subst (λ e. FinishStands e tokens) is (finish_holds limit mode frames tokens holds)
