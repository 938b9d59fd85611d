-- What the height limit does to the machine.
use Rattle.std.proofs.Common.{◌≡◌, ◌≤◌, ◌⊎◌, ◌∙◌, inl, inr, sym, ap, refl, arith, ℕ, suc, ◌+◌}
use Rattle.std.proofs.Common.{Bool, true, false, if◌then◌else◌, List, [], ◌∷◌, length, codes, ◌==◌}
use Rattle.std.proofs.Common.{Some}
use Rattle.std.proofs.Common.{None, max}
use Rattle.std.specs.Prelude.{nat_le}
use Rattle.std.proofs.lemmas.Bool.{cond-true, cond-false, false≢true, le-leb, leb-true, leb-false}
use Rattle.std.proofs.lemmas.Bool.{lt-leb}
use Rattle.mdl_lexer.specs.declared.token.Token.{Token}
use Rattle.mdl_syntax.specs.declared.names.Span.{Span}
use Rattle.mdl_syntax.specs.declared.names.Ident.{Ident}
use Rattle.mdl_syntax.specs.declared.names.Name.{Name}
use Rattle.mdl_syntax.specs.declared.types.TypeTree.{TypeTree}
use Rattle.mdl_syntax.specs.Trees.{Tree, literal, call, array, trees_of, arguments_of}
use Rattle.mdl_syntax.specs.Heights.{height}
use Rattle.mdl_syntax.specs.Levels.{mark_number}
use Rattle.expression_grammar.specs.inside.Machine.{Sort, sort_of, Path, Head, Frame, Purpose, Mode, Step}
use Rattle.expression_grammar.specs.inside.Machine.{from_to, ident_at, word_name, path_name, first_part}
use Rattle.expression_grammar.specs.inside.Machine.{absolute_path, name_tree, integer_tree, indexed_tree}
use Rattle.expression_grammar.specs.inside.Machine.{reduced, asked, within, unless_bad, let_step}
use Rattle.expression_grammar.specs.inside.Machine.{wanted_step}
use Rattle.expression_grammar.specs.inside.Machine.{around, infix_step, question_step, colon_step}
use Rattle.expression_grammar.specs.inside.Machine.{closing_step}
use Rattle.expression_grammar.specs.inside.Machine.{bracket_step, comma_step, semicolon_step}
use Rattle.expression_grammar.specs.inside.Machine.{complete_step}
use Rattle.expression_grammar.specs.inside.Machine.{name_step, type_name_step, used_step, part_step}
use Rattle.expression_grammar.specs.inside.Machine.{part_wanted_step, bracketed_step, sized_step}
use Rattle.expression_grammar.specs.inside.Machine.{sized_closed_step, unsized_closed_step, argument_step}
use Rattle.expression_grammar.specs.inside.Machine.{first_argument_step, labelled_step, identifier_step}
use Rattle.expression_grammar.specs.inside.Machine.{colon_wanted_step, first_element_step, field_step}
use Rattle.expression_grammar.specs.inside.Machine.{type_step, head_step, let_begun_step}
use Rattle.expression_grammar.specs.inside.Machine.{type_bracketed_step}
use Rattle.expression_grammar.specs.inside.Machine.{type_sized_step, deferred_wanted_step}
use Rattle.expression_grammar.specs.inside.Machine.{deferred_read_step}
use Rattle.expression_grammar.specs.inside.Machine.{deferred_closed_step, deferred_wanted, deferred_read}
use Rattle.expression_grammar.specs.inside.Machine.{deferred_closed, name_wanted_step, equals_step}
use Rattle.expression_grammar.specs.inside.Machine.{next_step}
use Rattle.expression_grammar.specs.inside.Machine.{in_step, mode_step, sort_step, step, Finish, whole}
use Rattle.expression_grammar.specs.inside.Machine.{unless_bad_end, finish, identifier, integer}
use Rattle.expression_grammar.specs.inside.Machine.{other_literal}
use Rattle.expression_grammar.specs.inside.Machine.{type_word, unary_operator, either_operator}
use Rattle.expression_grammar.specs.inside.Machine.{binary_operator}
use Rattle.expression_grammar.specs.inside.Machine.{question, colon, double_colon, opening, closing}
use Rattle.expression_grammar.specs.inside.Machine.{opening_bracket, closing_bracket, opening_brace}
use Rattle.expression_grammar.specs.inside.Machine.{closing_brace, comma, semicolon, dot, equals, let_word}
use Rattle.expression_grammar.specs.inside.Machine.{in_word, frequency_word, left_out, in_parentheses}
use Rattle.expression_grammar.specs.inside.Machine.{behind_unary, behind_infix, behind_question, in_index}
use Rattle.expression_grammar.specs.inside.Machine.{in_arguments, in_elements, in_let, in_initializer}
use Rattle.expression_grammar.specs.inside.Machine.{in_expression, in_type, wanted, complete, part_wanted}
use Rattle.expression_grammar.specs.inside.Machine.{part_read, word_read, bracketed, sized, sized_closed}
use Rattle.expression_grammar.specs.inside.Machine.{unsized_closed, first_argument, argument_wanted}
use Rattle.expression_grammar.specs.inside.Machine.{identifier_read, colon_wanted, first_element}
use Rattle.expression_grammar.specs.inside.Machine.{field_wanted}
use Rattle.expression_grammar.specs.inside.Machine.{let_begun, head_wanted, type_wanted, type_bracketed}
use Rattle.expression_grammar.specs.inside.Machine.{type_sized, name_wanted, equals_wanted, next_wanted}
use Rattle.expression_grammar.specs.inside.Machine.{in_wanted, goes, bad, deep, is_left_out, finished}
use Rattle.expression_grammar.specs.inside.Machine.{ends_badly, ends_deep}
use Rattle.expression_grammar.proofs.TakenLaws.{either_way}

-- steps that go on or are bad
abbrev pub stays : Step → Bool
stays (goes mode frames) = true
stays bad = true
stays deep = false
stays (is_left_out text) = false

-- steps that the limit leaves alone
abbrev is_stuck : Step → Bool
is_stuck (goes mode frames) = false
is_stuck bad = true
is_stuck deep = false
is_stuck (is_left_out text) = true

-- a step by the limit: always the same, or deep below a need
pub data Limited (of : ℕ → Step) : Type 0 where
  always : (what : Step) → stays what ≡ true → ((limit : ℕ) → of limit ≡ what) → Limited of
  roomy : (need : ℕ) (mode : Mode) (frames : List Frame) →
      ((limit : ℕ) → of limit ≡ (if nat_le need limit then goes mode frames else deep)) → Limited of

-- .. or always left out
abbrev LimitedToken : (ℕ → Step) → Type 0
LimitedToken of = Limited of ⊎ ((text : List ℕ) × ((limit : ℕ) → of limit ≡ is_left_out text))

-- Steps that don't look at the limit.

colon_stays : (top : Tree × List Frame) → stays (colon_step top) ≡ true
colon_stays (tree, behind_question test ∷ frames) = refl
colon_stays _ = refl

closing_stays : (end : ℕ) (top : Tree × List Frame) → stays (closing_step end top) ≡ true
closing_stays end (tree, in_parentheses at ∷ frames) = refl
closing_stays end (tree, in_arguments name arguments with_name label ∷ frames) = refl
closing_stays end (tree, in_elements name size trees ∷ frames) = refl
closing_stays end _ = refl

bracket_stays : (end : ℕ) (top : Tree × List Frame) → stays (bracket_step end top) ≡ true
bracket_stays end (tree, in_index of ∷ frames) = refl
bracket_stays end _ = refl

comma_stays : (top : Tree × List Frame) → stays (comma_step top) ≡ true
comma_stays (tree, in_arguments name arguments with_name label ∷ frames) = refl
comma_stays (tree, in_elements name size trees ∷ frames) = refl
comma_stays _ = refl

semicolon_stays : (end : ℕ) (top : Tree × List Frame) → stays (semicolon_step end top) ≡ true
semicolon_stays end (tree, in_initializer held head ty name ∷ frames) = refl
semicolon_stays end _ = refl

type_name_stays : (head : Head) (name : Name) (frames : List Frame) (sort : Sort) (place : Span) →
    stays (type_name_step head name frames sort place) ≡ true
type_name_stays head name frames opening_bracket place = refl
type_name_stays head name frames (identifier text) place = refl
type_name_stays head name frames _ place = refl

part_wanted_stays : (purpose : Purpose) (path : Path) (frames : List Frame) (sort : Sort)
    (place : Span) → stays (part_wanted_step purpose path frames sort place) ≡ true
part_wanted_stays purpose path frames (identifier text) place = refl
part_wanted_stays purpose path frames _ place = refl

unsized_closed_stays : (name : Name) (frames : List Frame) (sort : Sort) →
    stays (unsized_closed_step name frames sort) ≡ true
unsized_closed_stays name frames opening = refl
unsized_closed_stays name frames _ = refl

labelled_stays : (label : Ident) (frames : List Frame) → stays (labelled_step label frames) ≡ true
labelled_stays label (in_arguments name arguments with_name other ∷ frames) = refl
labelled_stays label _ = refl

colon_wanted_stays : (ident : Ident) (frames : List Frame) (sort : Sort) →
    stays (colon_wanted_step ident frames sort) ≡ true
colon_wanted_stays ident frames colon = labelled_stays ident frames
colon_wanted_stays ident frames _ = refl

field_stays : (tree : Tree) (frames : List Frame) (sort : Sort) (place : Span) →
    stays (field_step tree frames sort place) ≡ true
field_stays tree frames (identifier text) place = refl
field_stays tree frames _ place = refl

type_stays : (head : Head) (frames : List Frame) (sort : Sort) (place : Span) →
    stays (type_step head frames sort place) ≡ true
type_stays head frames double_colon place = refl
type_stays head frames (identifier text) place = refl
type_stays head frames (type_word number) place = refl
type_stays head frames _ place = refl

head_stays : (frames : List Frame) (sort : Sort) (place : Span) →
    stays (head_step frames sort place) ≡ true
head_stays frames (frequency_word freq) place = refl
head_stays frames sort place = type_stays (record { at = place.at; frequency = None }) frames sort
    place

let_begun_stays : (at : ℕ) (frames : List Frame) (sort : Sort) (place : Span) →
    stays (let_begun_step at frames sort place) ≡ true
let_begun_stays at frames opening_brace place = refl
let_begun_stays at frames sort place =
    head_stays (in_let (record { at = at; braces = false; initializers = [] }) ∷ frames) sort place

or_bad_stays : (test : Bool) (mode : Mode) (frames : List Frame) →
    stays (if test then goes mode frames else bad) ≡ true
or_bad_stays true mode frames = refl
or_bad_stays false mode frames = refl

type_bracketed_stays : (head : Head) (name : Name) (frames : List Frame) (sort : Sort) →
    stays (type_bracketed_step head name frames sort) ≡ true
type_bracketed_stays head name frames (integer value) = refl
type_bracketed_stays head name frames (binary_operator op level) =
    or_bad_stays (op == mark_number (codes "<")) (deferred_wanted head name) frames
type_bracketed_stays head name frames _ = refl

type_sized_stays : (head : Head) (name : Name) (value : ℕ) (frames : List Frame) (sort : Sort)
    (place : Span) → stays (type_sized_step head name value frames sort place) ≡ true
type_sized_stays head name value frames closing_bracket place = refl
type_sized_stays head name value frames _ place = refl

deferred_wanted_stays : (head : Head) (name : Name) (frames : List Frame) (sort : Sort)
    (place : Span) → stays (deferred_wanted_step head name frames sort place) ≡ true
deferred_wanted_stays head name frames (identifier text) place = refl
deferred_wanted_stays head name frames _ place = refl

deferred_read_stays : (head : Head) (name : Name) (ident : Ident) (frames : List Frame)
    (sort : Sort) → stays (deferred_read_step head name ident frames sort) ≡ true
deferred_read_stays head name ident frames (binary_operator op level) =
    or_bad_stays (op == mark_number (codes ">")) (deferred_closed head name ident) frames
deferred_read_stays head name ident frames _ = refl

deferred_closed_stays : (head : Head) (name : Name) (ident : Ident) (frames : List Frame)
    (sort : Sort) (place : Span) → stays (deferred_closed_step head name ident frames sort place)
    ≡ true
deferred_closed_stays head name ident frames closing_bracket place = refl
deferred_closed_stays head name ident frames _ place = refl

name_wanted_stays : (head : Head) (ty : TypeTree) (frames : List Frame) (sort : Sort)
    (place : Span) → stays (name_wanted_step head ty frames sort place) ≡ true
name_wanted_stays head ty frames (identifier text) place = refl
name_wanted_stays head ty frames _ place = refl

equals_stays : (head : Head) (ty : TypeTree) (name : Ident) (frames : List Frame) (sort : Sort) →
    stays (equals_step head ty name frames sort) ≡ true
equals_stays head ty name (in_let held ∷ frames) equals = refl
equals_stays head ty name frames _ = refl

next_stays : (frames : List Frame) (sort : Sort) (place : Span) →
    stays (next_step frames sort place) ≡ true
next_stays frames closing_brace place = refl
next_stays frames sort place = head_stays frames sort place

in_stays : (frames : List Frame) (sort : Sort) → stays (in_step frames sort) ≡ true
in_stays (in_let held ∷ frames) in_word = refl
in_stays frames _ = refl

-- Steps that do.

let_limited : (frames : List Frame) (at : ℕ) → Limited (λ limit. let_step limit frames at)
let_limited frames at = by (asked frames == 0) refl
  where
    by : (test : Bool) → (asked frames == 0) ≡ test → Limited (λ limit. let_step limit frames at)
    by true is =
        roomy (length frames + 2) (let_begun at) frames (λ limit. cond-true (asked frames == 0)
        (within limit frames 2 (goes (let_begun at) frames)) bad is)
    by false is =
        always bad refl (λ limit. cond-false (asked frames == 0)
        (within limit frames 2 (goes (let_begun at) frames)) bad is)

wanted_limited : (frames : List Frame) (sort : Sort) (place : Span) →
    Limited (λ limit. wanted_step limit frames sort place)
wanted_limited frames (identifier text) place =
    roomy (length frames + 1) (part_read in_expression (first_part text place)) frames
    (λ limit. refl)
wanted_limited frames (integer value) place =
    roomy (length frames + 1) (complete (integer_tree value place)) frames (λ limit. refl)
wanted_limited frames (other_literal lit) place =
    roomy (length frames + 1) (complete (literal lit place)) frames (λ limit. refl)
wanted_limited frames (type_word number) place =
    roomy (length frames + 1) (word_read in_expression (word_name number place)) frames
    (λ limit. refl)
wanted_limited frames double_colon place =
    roomy (length frames + 1) (part_wanted in_expression (absolute_path place)) frames
    (λ limit. refl)
wanted_limited frames opening place =
    roomy (length frames + 2) wanted (in_parentheses place.at ∷ frames) (λ limit. refl)
wanted_limited frames (unary_operator op) place =
    roomy (length frames + 2) wanted (behind_unary op place.at ∷ frames) (λ limit. refl)
wanted_limited frames (either_operator op level) place =
    roomy (length frames + 2) wanted (behind_unary op place.at ∷ frames) (λ limit. refl)
wanted_limited frames let_word place = let_limited frames place.at
wanted_limited frames _ place = always bad refl (λ limit. refl)

around_limited : (frame : Frame) (tree : Tree) (frames : List Frame) →
    Limited (λ limit. around limit frame tree frames)
around_limited frame tree frames =
    roomy (length frames + suc (height tree)) wanted (frame ∷ frames) (λ limit. refl)

infix_limited : (op level : ℕ) (top : Tree × List Frame) →
    Limited (λ limit. infix_step limit op level top)
infix_limited op level (tree, frames) = around_limited (behind_infix op level tree) tree frames

question_limited : (top : Tree × List Frame) → Limited (λ limit. question_step limit top)
question_limited (tree, frames) = around_limited (behind_question tree) tree frames

complete_limited : (tree : Tree) (frames : List Frame) (sort : Sort) (place : Span) →
    Limited (λ limit. complete_step limit tree frames sort place)
complete_limited tree frames (either_operator op level) place =
    infix_limited op level (reduced level tree frames)
complete_limited tree frames (binary_operator op level) place =
    infix_limited op level (reduced level tree frames)
complete_limited tree frames question place = question_limited (reduced 2 tree frames)
complete_limited tree frames dot place =
    roomy (length frames + suc (height tree)) (field_wanted tree) frames (λ limit. refl)
complete_limited tree frames opening_bracket place = around_limited (in_index tree) tree frames
complete_limited tree frames colon place =
    always (colon_step (reduced 0 tree frames)) (colon_stays (reduced 0 tree frames))
    (λ limit. refl)
complete_limited tree frames closing place =
    always (closing_step place.end (reduced 0 tree frames)) (closing_stays place.end
    (reduced 0 tree frames)) (λ limit. refl)
complete_limited tree frames closing_bracket place =
    always (bracket_step place.end (reduced 0 tree frames)) (bracket_stays place.end
    (reduced 0 tree frames)) (λ limit. refl)
complete_limited tree frames comma place =
    always (comma_step (reduced 0 tree frames)) (comma_stays (reduced 0 tree frames))
    (λ limit. refl)
complete_limited tree frames semicolon place =
    always (semicolon_step place.end (reduced 0 tree frames)) (semicolon_stays place.end
    (reduced 0 tree frames)) (λ limit. refl)
complete_limited tree frames _ place = always bad refl (λ limit. refl)

name_limited : (name : Name) (frames : List Frame) (sort : Sort) (place : Span) →
    Limited (λ limit. name_step limit name frames sort place)
name_limited name frames opening place =
    always (goes first_argument (in_arguments name [] false None ∷ frames)) refl (λ limit. refl)
name_limited name frames opening_bracket place = always (goes (bracketed name) frames) refl
    (λ limit. refl)
name_limited name frames sort place = complete_limited (name_tree name) frames sort place

used_limited : (purpose : Purpose) (name : Name) (frames : List Frame) (sort : Sort)
    (place : Span) → Limited (λ limit. used_step limit purpose name frames sort place)
used_limited in_expression name frames sort place = name_limited name frames sort place
used_limited (in_type head) name frames sort place =
    always (type_name_step head name frames sort place) (type_name_stays head name frames sort
    place) (λ limit. refl)

part_limited : (purpose : Purpose) (path : Path) (frames : List Frame) (sort : Sort)
    (place : Span) → Limited (λ limit. part_step limit purpose path frames sort place)
part_limited purpose path frames double_colon place =
    always (goes (part_wanted purpose path) frames) refl (λ limit. refl)
part_limited purpose path frames sort place = used_limited purpose (path_name path) frames sort
    place

bracketed_limited : (name : Name) (frames : List Frame) (sort : Sort) (place : Span) →
    Limited (λ limit. bracketed_step limit name frames sort place)
bracketed_limited name frames closing_bracket place =
    always (goes (unsized_closed name) frames) refl (λ limit. refl)
bracketed_limited name frames (integer value) place =
    always (goes (sized name value place) frames) refl (λ limit. refl)
bracketed_limited name frames sort place =
    wanted_limited (in_index (name_tree name) ∷ frames) sort place

sized_limited : (name : Name) (value : ℕ) (at : Span) (frames : List Frame) (sort : Sort)
    (place : Span) → Limited (λ limit. sized_step limit name value at frames sort place)
sized_limited name value at frames closing_bracket place =
    always (goes (sized_closed name value at place.end) frames) refl (λ limit. refl)
sized_limited name value at frames sort place =
    complete_limited (integer_tree value at) (in_index (name_tree name) ∷ frames) sort place

abbrev room_for : ℕ → ℕ → Mode → List Frame → Step
room_for need limit mode below = if nat_le need limit then goes mode below else deep

-- two needs are one, the greater
both_needs : (frames : List Frame) (need low limit : ℕ) (mode : Mode) (below : List Frame) →
    unless_bad limit frames need (room_for low limit mode below) ≡ room_for
    (max (length frames + need) low) limit mode below
both_needs frames need low limit mode below = by (nat_le low limit) refl
  where
    own : ℕ
    own = length frames + need

    on : low ≤ limit → (test : Bool) → nat_le own limit ≡ test →
        room_for own limit mode below ≡ room_for (max own low) limit mode below
    on fits true is =
        cond-true (nat_le own limit) (goes mode below) deep is ∙ sym
        (cond-true (nat_le (max own low) limit) (goes mode below) deep
        (le-leb (max own low) limit (omega (arith, fits, leb-true own limit is))))
    on fits false is =
        cond-false (nat_le own limit) (goes mode below) deep is ∙ sym
        (cond-false (nat_le (max own low) limit) (goes mode below) deep
        (lt-leb (max own low) limit (omega (arith, leb-false own limit is))))

    by : (test : Bool) → nat_le low limit ≡ test →
        unless_bad limit frames need (room_for low limit mode below) ≡ room_for (max own low) limit
        mode below
    by true is =
        ap (unless_bad limit frames need) (cond-true (nat_le low limit) (goes mode below) deep is)
        ∙ on (leb-true low limit is) (nat_le own limit) refl
    by false is =
        ap (unless_bad limit frames need) (cond-false (nat_le low limit) (goes mode below) deep is)
        ∙ (either_way (nat_le own limit) deep ∙ sym (cond-false (nat_le (max own low) limit)
        (goes mode below) deep (lt-leb (max own low) limit
        (omega (arith, leb-false low limit is)))))

unless_limited : (frames : List Frame) (need : ℕ) (of : ℕ → Step) → Limited of →
    Limited (λ limit. unless_bad limit frames need (of limit))
unless_limited frames need of (always (goes mode below) ok same) =
    roomy (length frames + need) mode below (λ limit. ap (unless_bad limit frames need)
    (same limit))
unless_limited frames need of (always bad ok same) =
    always bad refl (λ limit. ap (unless_bad limit frames need) (same limit))
unless_limited frames need of (always deep ok same) = absurd (false≢true ok)
unless_limited frames need of (always (is_left_out text) ok same) = absurd (false≢true ok)
unless_limited frames need of (roomy low mode below same) =
    roomy (max (length frames + need) low) mode below (λ limit. ap (unless_bad limit frames need)
    (same limit) ∙ both_needs frames need low limit mode below)

sized_closed_limited : (name : Name) (value : ℕ) (at : Span) (end : ℕ) (frames : List Frame)
    (sort : Sort) (place : Span) →
    Limited (λ limit. sized_closed_step limit name value at end frames sort place)
sized_closed_limited name value at end frames opening place =
    always (goes first_element (in_elements name (Some value) [] ∷ frames)) refl (λ limit. refl)
sized_closed_limited name value at end frames sort place =
    unless_limited frames 2 (λ limit. complete_step limit (indexed_tree name value at end) frames
    sort place) (complete_limited (indexed_tree name value at end) frames sort place)

argument_limited : (frames : List Frame) (sort : Sort) (place : Span) →
    Limited (λ limit. argument_step limit frames sort place)
argument_limited (in_arguments name arguments true label ∷ frames) (identifier text) place =
    roomy (length (in_arguments name arguments true label ∷ frames) + 1)
    (colon_wanted (ident_at text place)) (in_arguments name arguments true label ∷ frames)
    (λ limit. refl)
argument_limited (in_arguments name arguments true label ∷ frames) sort place =
    always bad refl (λ limit. refl)
argument_limited frames (identifier text) place =
    roomy (length frames + 1) (identifier_read (ident_at text place)) frames (λ limit. refl)
argument_limited frames sort place = wanted_limited frames sort place

first_argument_limited : (frames : List Frame) (sort : Sort) (place : Span) →
    Limited (λ limit. first_argument_step limit frames sort place)
first_argument_limited (in_arguments name arguments with_name label ∷ frames) closing place =
    always (goes (complete (call name (arguments_of []) (from_to name.span.at place.end))) frames)
    refl (λ limit. refl)
first_argument_limited frames sort place = argument_limited frames sort place

identifier_limited : (ident : Ident) (frames : List Frame) (sort : Sort) (place : Span) →
    Limited (λ limit. identifier_step limit ident frames sort place)
identifier_limited ident frames colon place =
    always (labelled_step ident frames) (labelled_stays ident frames) (λ limit. refl)
identifier_limited ident frames sort place =
    part_limited in_expression (first_part ident.text ident.span) frames sort place

first_element_limited : (frames : List Frame) (sort : Sort) (place : Span) →
    Limited (λ limit. first_element_step limit frames sort place)
first_element_limited (in_elements name size trees ∷ frames) closing place =
    always (goes (complete (array name size (trees_of []) (from_to name.span.at place.end))) frames)
    refl (λ limit. refl)
first_element_limited frames sort place = wanted_limited frames sort place

-- a step that doesn't look at the limit
plainly : (what : Step) → stays what ≡ true → Limited (λ limit. what)
plainly what ok = always what ok (λ limit. refl)

pub mode_limited : (mode : Mode) (frames : List Frame) (sort : Sort) (place : Span) →
    Limited (λ limit. mode_step limit mode frames sort place)
mode_limited wanted frames sort place =
    wanted_limited frames sort place
mode_limited (complete tree) frames sort place =
    complete_limited tree frames sort place
mode_limited (part_wanted purpose path) frames sort place =
    plainly (part_wanted_step purpose path frames sort place) (part_wanted_stays purpose path frames
    sort place)
mode_limited (part_read purpose path) frames sort place =
    part_limited purpose path frames sort place
mode_limited (word_read purpose name) frames sort place =
    used_limited purpose name frames sort place
mode_limited (bracketed name) frames sort place =
    bracketed_limited name frames sort place
mode_limited (sized name value at) frames sort place =
    sized_limited name value at frames sort place
mode_limited (sized_closed name value at end) frames sort place =
    sized_closed_limited name value at end frames sort place
mode_limited (unsized_closed name) frames sort place =
    plainly (unsized_closed_step name frames sort) (unsized_closed_stays name frames sort)
mode_limited first_argument frames sort place =
    first_argument_limited frames sort place
mode_limited argument_wanted frames sort place =
    argument_limited frames sort place
mode_limited (identifier_read ident) frames sort place =
    identifier_limited ident frames sort place
mode_limited (colon_wanted ident) frames sort place =
    plainly (colon_wanted_step ident frames sort) (colon_wanted_stays ident frames sort)
mode_limited first_element frames sort place =
    first_element_limited frames sort place
mode_limited (field_wanted tree) frames sort place =
    plainly (field_step tree frames sort place) (field_stays tree frames sort place)
mode_limited (let_begun at) frames sort place =
    plainly (let_begun_step at frames sort place) (let_begun_stays at frames sort place)
mode_limited head_wanted frames sort place =
    plainly (head_step frames sort place) (head_stays frames sort place)
mode_limited (type_wanted head) frames sort place =
    plainly (type_step head frames sort place) (type_stays head frames sort place)
mode_limited (type_bracketed head name) frames sort place =
    plainly (type_bracketed_step head name frames sort) (type_bracketed_stays head name frames sort)
mode_limited (type_sized head name value) frames sort place =
    plainly (type_sized_step head name value frames sort place) (type_sized_stays head name value
    frames sort place)
mode_limited (deferred_wanted head name) frames sort place =
    plainly (deferred_wanted_step head name frames sort place) (deferred_wanted_stays head name
    frames sort place)
mode_limited (deferred_read head name ident) frames sort place =
    plainly (deferred_read_step head name ident frames sort) (deferred_read_stays head name ident
    frames sort)
mode_limited (deferred_closed head name ident) frames sort place =
    plainly (deferred_closed_step head name ident frames sort place)
    (deferred_closed_stays head name ident frames sort place)
mode_limited (name_wanted head ty) frames sort place =
    plainly (name_wanted_step head ty frames sort place) (name_wanted_stays head ty frames sort
    place)
mode_limited (equals_wanted head ty name) frames sort place =
    plainly (equals_step head ty name frames sort) (equals_stays head ty name frames sort)
mode_limited next_wanted frames sort place =
    plainly (next_step frames sort place) (next_stays frames sort place)
mode_limited in_wanted frames sort place = plainly (in_step frames sort) (in_stays frames sort)

sort_limited : (mode : Mode) (frames : List Frame) (sort : Sort) (place : Span) →
    LimitedToken (λ limit. sort_step limit mode frames sort place)
sort_limited mode frames (left_out text) place = inr (text, λ limit. refl)
sort_limited mode frames sort place = inl (mode_limited mode frames sort place)

-- each step is always the same, or deep below a need
step_limited : (mode : Mode) (frames : List Frame) (token : Token) →
    LimitedToken (λ limit. step limit mode frames token)
step_limited mode frames token =
    sort_limited mode frames (sort_of token.kind) (from_to token.at token.end)

-- What follows for steps.

goes_on : (of : ℕ → Step) → LimitedToken of → (less more : ℕ) → less ≤ more →
    (next : Mode) (below : List Frame) → of less ≡ goes next below → of more ≡ goes next below
goes_on of (inl (always what ok same)) less more within_more next below is =
    same more ∙ (sym (same less) ∙ is)
goes_on of (inl (roomy need mode frames same)) less more within_more next below is =
    by (nat_le need less) refl
  where
    by : (test : Bool) → nat_le need less ≡ test → of more ≡ goes next below
    by true fits =
        same more ∙ (cond-true (nat_le need more) (goes mode frames) deep
        (le-leb need more (omega (arith, within_more, leb-true need less fits)))
        ∙ (sym (same less ∙ cond-true (nat_le need less) (goes mode frames) deep fits) ∙ is))
    by false fails =
        absurd
        (false≢true (ap stays (sym (same less ∙ cond-false (nat_le need less) (goes mode frames)
        deep fails) ∙ is)))
goes_on of (inr (text, same)) less more within_more next below is = same more
    ∙ (sym (same less) ∙ is)

room_not_stuck : (test : Bool) (mode : Mode) (frames : List Frame) →
    is_stuck (if test then goes mode frames else deep) ≡ false
room_not_stuck true mode frames = refl
room_not_stuck false mode frames = refl

stays_stuck : (of : ℕ → Step) → LimitedToken of → (less more : ℕ) (what : Step) →
    is_stuck what ≡ true → of less ≡ what → of more ≡ what
stays_stuck of (inl (always own ok same)) less more what stuck is = same more
    ∙ (sym (same less) ∙ is)
stays_stuck of (inl (roomy need mode frames same)) less more what stuck is =
    absurd (false≢true (sym (room_not_stuck (nat_le need less) mode frames)
    ∙ (ap is_stuck (sym (same less) ∙ is) ∙ stuck)))
stays_stuck of (inr (text, same)) less more what stuck is = same more ∙ (sym (same less) ∙ is)

pub more_room : (less more : ℕ) → less ≤ more →
    (mode : Mode) (frames : List Frame) (token : Token) → (next : Mode) (below : List Frame) →
    step less mode frames token ≡ goes next below → step more mode frames token ≡ goes next below
more_room less more within_more mode frames token next below is =
    goes_on (λ limit. step limit mode frames token) (step_limited mode frames token) less more
    within_more next below is

pub still_bad : (less more : ℕ) (mode : Mode) (frames : List Frame) (token : Token) →
    step less mode frames token ≡ bad → step more mode frames token ≡ bad
still_bad less more mode frames token is =
    stays_stuck (λ limit. step limit mode frames token) (step_limited mode frames token) less more
    bad refl is

-- what is too high fits into more room
deep_fits : (of : ℕ → Step) → LimitedToken of → (limit : ℕ) → of limit ≡ deep →
    (more : ℕ) × (limit ≤ more) × (next : Mode) × (below : List Frame) × (of more ≡ goes next below)
deep_fits of (inl (always what ok same)) limit is =
    absurd (false≢true (ap stays (sym is ∙ same limit) ∙ ok))
deep_fits of (inl (roomy need next below same)) limit is = (
  limit + need,
  omega (arith),
  next,
  below,
  same (limit + need)
      ∙ cond-true (nat_le need (limit + need)) (goes next below) deep
      (le-leb need (limit + need) (omega (arith))),
)
deep_fits of (inr (text, same)) limit is = absurd (false≢true (ap is_stuck (sym is ∙ same limit)))

pub deep_goes : (limit : ℕ) (mode : Mode) (frames : List Frame) (token : Token) →
    step limit mode frames token ≡ deep →
    (more : ℕ) × (limit ≤ more) × (next : Mode) × (below : List Frame)
    × (step more mode frames token ≡ goes next below)
deep_goes limit mode frames token is =
    deep_fits (λ limit. step limit mode frames token) (step_limited mode frames token) limit is

-- The end.

abbrev pub is_ended : Finish → Bool
is_ended (finished tree) = true
is_ended ends_badly = true
is_ended ends_deep = false

abbrev is_badly : Finish → Bool
is_badly (finished tree) = false
is_badly ends_badly = true
is_badly ends_deep = false

-- an end by the limit
pub data Ending (of : ℕ → Finish) : Type 0 where
  ends : (what : Finish) → is_ended what ≡ true → ((limit : ℕ) → of limit ≡ what) → Ending of
  high : (need : ℕ) (tree : Tree) →
      ((limit : ℕ) → of limit ≡ (if nat_le need limit then finished tree else ends_deep)) →
      Ending of

whole_ended : (top : Tree × List Frame) → is_ended (whole top) ≡ true
whole_ended (tree, []) = refl
whole_ended (tree, frame ∷ frames) = refl

whole_ending : (top : Tree × List Frame) → Ending (λ limit. whole top)
whole_ending top = ends (whole top) (whole_ended top) (λ limit. refl)

unless_ending : (frames : List Frame) (need : ℕ) (what : Finish) → is_ended what ≡ true →
    Ending (λ limit. unless_bad_end limit frames need what)
unless_ending frames need (finished tree) ok = high (length frames + need) tree (λ limit. refl)
unless_ending frames need ends_badly ok = ends ends_badly refl (λ limit. refl)
unless_ending frames need ends_deep ok = absurd (false≢true ok)

-- each end is always the same, or deep below a need
pub finish_ending : (mode : Mode) (frames : List Frame) → Ending (λ limit. finish limit mode frames)
finish_ending (complete tree) frames = whole_ending (reduced 0 tree frames)
finish_ending (part_read in_expression path) frames =
    whole_ending (reduced 0 (name_tree (path_name path)) frames)
finish_ending (word_read in_expression name) frames = whole_ending
    (reduced 0 (name_tree name) frames)
finish_ending (sized_closed name value at end) frames =
    unless_ending frames 2 (whole (reduced 0 (indexed_tree name value at end) frames))
    (whole_ended (reduced 0 (indexed_tree name value at end) frames))
finish_ending mode frames = ends ends_badly refl (λ limit. refl)

high_not_badly : (test : Bool) (tree : Tree) →
    is_badly (if test then finished tree else ends_deep) ≡ false
high_not_badly true tree = refl
high_not_badly false tree = refl

ending_badly : (of : ℕ → Finish) → Ending of → (less more : ℕ) → of less ≡ ends_badly →
    of more ≡ ends_badly
ending_badly of (ends what ok same) less more is = same more ∙ (sym (same less) ∙ is)
ending_badly of (high need tree same) less more is =
    absurd (false≢true (sym (high_not_badly (nat_le need less) tree) ∙ ap is_badly (sym (same less)
    ∙ is)))

pub finish_bad : (less more : ℕ) (mode : Mode) (frames : List Frame) →
    finish less mode frames ≡ ends_badly → finish more mode frames ≡ ends_badly
finish_bad less more mode frames is =
    ending_badly (λ limit. finish limit mode frames) (finish_ending mode frames) less more is
