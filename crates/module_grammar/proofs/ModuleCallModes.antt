-- What stands in a call that is no expression: its name, or frames with its arguments below them all.
use Rattle.std.proofs.Common.{◌≡◌, refl, ℕ, suc, ◌+◌, nat_le, Bool, true, false, List, [], ◌∷◌, ◌++◌, length}
use Rattle.std.proofs.Common.{if◌then◌else◌, Option, None, codes}
use Rattle.std.specs.Prelude.{◌==◌}
use Rattle.mdl_syntax.specs.declared.names.Span.{Span}
use Rattle.mdl_syntax.specs.declared.names.Ident.{Ident}
use Rattle.mdl_syntax.specs.declared.names.Name.{Name}
use Rattle.mdl_syntax.specs.Trees.{Tree, Argument, literal, call, parenthesized, array, indexed, trees_of}
use Rattle.mdl_syntax.specs.Heights.{height}
use Rattle.expression_grammar.specs.inside.Machine.{Frame, Mode, Step, Sort, Purpose, Path, Head, goes}
use Rattle.expression_grammar.specs.inside.Machine.{bad, deep, wanted, complete, part_wanted}
use Rattle.expression_grammar.specs.inside.Machine.{part_read, word_read, field_wanted, in_expression}
use Rattle.expression_grammar.specs.inside.Machine.{in_type, in_parentheses, behind_unary, behind_infix}
use Rattle.expression_grammar.specs.inside.Machine.{behind_question, in_index, in_arguments}
use Rattle.expression_grammar.specs.inside.Machine.{in_elements, in_let, in_initializer, within}
use Rattle.expression_grammar.specs.inside.Machine.{unless_bad, reduced, is_tight, ended, colon_step}
use Rattle.expression_grammar.specs.inside.Machine.{closing_step, bracket_step, comma_step, semicolon_step}
use Rattle.expression_grammar.specs.inside.Machine.{infix_step, question_step, complete_step, wanted_step}
use Rattle.expression_grammar.specs.inside.Machine.{name_step, type_name_step, used_step, part_step}
use Rattle.expression_grammar.specs.inside.Machine.{part_wanted_step, bracketed_step, sized_step}
use Rattle.expression_grammar.specs.inside.Machine.{sized_closed_step, unsized_closed_step, labelled_step}
use Rattle.expression_grammar.specs.inside.Machine.{identifier, integer, other_literal, type_word}
use Rattle.expression_grammar.specs.inside.Machine.{double_colon, unary_operator, either_operator}
use Rattle.expression_grammar.specs.inside.Machine.{binary_operator, question, dot, opening_bracket, colon}
use Rattle.expression_grammar.specs.inside.Machine.{opening, closing, closing_bracket, comma, semicolon}
use Rattle.expression_grammar.specs.inside.Machine.{let_word, from_to, span_of, asked, first_part}
use Rattle.expression_grammar.specs.inside.Machine.{word_name, absolute_path, integer_tree, name_tree}
use Rattle.expression_grammar.specs.inside.Machine.{path_name, indexed_tree, let_begun, bracketed, sized}
use Rattle.expression_grammar.specs.inside.Machine.{sized_closed, unsized_closed, argument_step}
use Rattle.expression_grammar.specs.inside.Machine.{first_argument_step, identifier_step}
use Rattle.expression_grammar.specs.inside.Machine.{colon_wanted_step, first_element_step, type_step}
use Rattle.expression_grammar.specs.inside.Machine.{head_step, let_begun_step, in_step, next_step}
use Rattle.expression_grammar.specs.inside.Machine.{equals_step, mode_step, ident_at, colon_wanted}
use Rattle.expression_grammar.specs.inside.Machine.{identifier_read, first_argument, argument_wanted}
use Rattle.expression_grammar.specs.inside.Machine.{first_element, head_wanted, type_wanted}
use Rattle.expression_grammar.specs.inside.Machine.{type_bracketed, type_sized, deferred_wanted}
use Rattle.expression_grammar.specs.inside.Machine.{deferred_read, deferred_closed, name_wanted}
use Rattle.expression_grammar.specs.inside.Machine.{equals_wanted, next_wanted, in_wanted, frequency_word}
use Rattle.expression_grammar.specs.inside.Machine.{opening_brace, closing_brace, in_word, equals}
use Rattle.module_grammar.specs.inside.ModuleMachine.{may_name}
use Rattle.module_grammar.specs.inside.ModuleFits.{OnCall, StandsInCall}
use Rattle.std.proofs.lemmas.Bool.{false≢true}
use Rattle.mdl_syntax.specs.Levels.{mark_number}
use Rattle.mdl_syntax.specs.declared.types.TypeTree.{TypeTree}

-- over no frames only its name stands, or the whole call
abbrev pub InCall : Mode → List Frame → Type 0
InCall mode (frame ∷ frames) = OnCall (frame ∷ frames)
InCall wanted [] = Unit {0}
InCall (part_wanted in_expression path) [] = Unit {0}
InCall (part_read in_expression path) [] = Unit {0}
InCall (word_read in_expression name) [] = Unit {0}
InCall (complete (call name own span)) [] = Unit {0}
InCall mode [] = ⊥

abbrev pub StepInCall : Step → Type 0
StepInCall (goes mode frames) = InCall mode frames
StepInCall _ = Unit {0}

in_call : (mode : Mode) (frames : List Frame) → OnCall frames → InCall mode frames
in_call mode [] on = absurd on
in_call mode (frame ∷ frames) on = on

either_in : (test : Bool) (one other : Step) → StepInCall one → StepInCall other →
    StepInCall (if test then one else other)
either_in true one other is others = is
either_in false one other is others = others

within_in : (limit : ℕ) (frames : List Frame) (need : ℕ) (own : Step) → StepInCall own →
    StepInCall (within limit frames need own)
within_in limit frames need own is = either_in (nat_le (length frames + need) limit) own deep is tt

unless_in : (limit : ℕ) (frames : List Frame) (need : ℕ) (own : Step) → StepInCall own →
    StepInCall (unless_bad limit frames need own)
unless_in limit frames need bad is = tt
unless_in limit frames need own is = within_in limit frames need own is

either_on : (test : Bool) (one other : Tree × List Frame) → OnCall one.1 → OnCall other.1 →
    OnCall (if test then one else other).1
either_on true one other is others = is
either_on false one other is others = others

pub reduced_on : (grip : ℕ) (tree : Tree) (frames : List Frame) → OnCall frames →
    OnCall (reduced grip tree frames).1
reduced_on grip tree [] on = absurd on
reduced_on grip tree (in_arguments name arguments with_name label ∷ frames) on = on
reduced_on grip tree (frame ∷ frames) on =
    either_on (is_tight grip frame) (reduced grip (ended frame tree) frames) (tree, frame ∷ frames)
    (reduced_on grip (ended frame tree) frames on) on

pushed : (name : Name) (arguments : List Argument) (with_name : Bool) (label : Option Ident)
    (frames : List Frame) → OnCall frames → OnCall (in_arguments name arguments with_name label ∷ frames)
pushed name arguments with_name label [] on = tt
pushed name arguments with_name label (frame ∷ frames) on = on

colon_in : (pair : Tree × List Frame) → OnCall pair.1 → StepInCall (colon_step pair)
colon_in (tree, behind_question test ∷ frames) on = on
colon_in (tree, []) on = tt
colon_in (tree, frame ∷ frames) on = tt

closing_in : (end : ℕ) (pair : Tree × List Frame) → OnCall pair.1 → StepInCall (closing_step end pair)
closing_in end (tree, in_parentheses at ∷ frames) on =
    in_call (complete (parenthesized tree (from_to at end))) frames on
closing_in end (tree, in_arguments name arguments with_name label ∷ []) on = tt
closing_in end (tree, in_arguments name arguments with_name label ∷ (frame ∷ frames)) on = on
closing_in end (tree, in_elements name size trees ∷ frames) on =
    in_call (complete (array name size (trees_of (trees ++ tree ∷ [])) (from_to name.span.at end))) frames on
closing_in end (tree, []) on = tt
closing_in end (tree, frame ∷ frames) on = tt

bracket_in : (end : ℕ) (pair : Tree × List Frame) → OnCall pair.1 → StepInCall (bracket_step end pair)
bracket_in end (tree, in_index of ∷ frames) on =
    in_call (complete (indexed of tree (from_to (span_of of).at end))) frames on
bracket_in end (tree, []) on = tt
bracket_in end (tree, frame ∷ frames) on = tt

comma_in : (pair : Tree × List Frame) → OnCall pair.1 → StepInCall (comma_step pair)
comma_in (tree, in_arguments name arguments with_name label ∷ []) on = tt
comma_in (tree, in_arguments name arguments with_name label ∷ (frame ∷ frames)) on = on
comma_in (tree, in_elements name size trees ∷ frames) on = on
comma_in (tree, []) on = tt
comma_in (tree, frame ∷ frames) on = tt

semicolon_in : (end : ℕ) (pair : Tree × List Frame) → OnCall pair.1 → StepInCall (semicolon_step end pair)
semicolon_in end (tree, in_initializer held head ty name ∷ frames) on = on
semicolon_in end (tree, []) on = tt
semicolon_in end (tree, frame ∷ frames) on = tt

infix_in : (limit op level : ℕ) (pair : Tree × List Frame) → OnCall pair.1 →
    StepInCall (infix_step limit op level pair)
infix_in limit op level (tree, frames) on =
    within_in limit frames (suc (height tree)) (goes wanted (behind_infix op level tree ∷ frames)) on

question_in : (limit : ℕ) (pair : Tree × List Frame) → OnCall pair.1 → StepInCall (question_step limit pair)
question_in limit (tree, frames) on =
    within_in limit frames (suc (height tree)) (goes wanted (behind_question tree ∷ frames)) on

-- behind a whole operand in a call
pub complete_in : (limit : ℕ) (tree : Tree) (frames : List Frame) (sort : Sort) (place : Span) → OnCall frames →
    StepInCall (complete_step limit tree frames sort place)
complete_in limit tree frames (either_operator op level) place on =
    infix_in limit op level (reduced level tree frames) (reduced_on level tree frames on)
complete_in limit tree frames (binary_operator op level) place on =
    infix_in limit op level (reduced level tree frames) (reduced_on level tree frames on)
complete_in limit tree frames question place on =
    question_in limit (reduced 2 tree frames) (reduced_on 2 tree frames on)
complete_in limit tree frames dot place on =
    within_in limit frames (suc (height tree)) (goes (field_wanted tree) frames)
    (in_call (field_wanted tree) frames on)
complete_in limit tree frames opening_bracket place on =
    within_in limit frames (suc (height tree)) (goes wanted (in_index tree ∷ frames)) on
complete_in limit tree frames colon place on = colon_in (reduced 0 tree frames) (reduced_on 0 tree frames on)
complete_in limit tree frames closing place on =
    closing_in place.end (reduced 0 tree frames) (reduced_on 0 tree frames on)
complete_in limit tree frames closing_bracket place on =
    bracket_in place.end (reduced 0 tree frames) (reduced_on 0 tree frames on)
complete_in limit tree frames comma place on = comma_in (reduced 0 tree frames) (reduced_on 0 tree frames on)
complete_in limit tree frames semicolon place on =
    semicolon_in place.end (reduced 0 tree frames) (reduced_on 0 tree frames on)
complete_in limit tree frames sort place on = tt

-- Other modes.

wanted_in : (limit : ℕ) (frames : List Frame) (sort : Sort) (place : Span) → OnCall frames →
    StepInCall (wanted_step limit frames sort place)
wanted_in limit frames (identifier text) place on =
    within_in limit frames 1 (goes (part_read in_expression (first_part text place)) frames)
    (in_call (part_read in_expression (first_part text place)) frames on)
wanted_in limit frames (integer value) place on =
    within_in limit frames 1 (goes (complete (integer_tree value place)) frames)
    (in_call (complete (integer_tree value place)) frames on)
wanted_in limit frames (other_literal lit) place on =
    within_in limit frames 1 (goes (complete (literal lit place)) frames)
    (in_call (complete (literal lit place)) frames on)
wanted_in limit frames (type_word number) place on =
    within_in limit frames 1 (goes (word_read in_expression (word_name number place)) frames)
    (in_call (word_read in_expression (word_name number place)) frames on)
wanted_in limit frames double_colon place on =
    within_in limit frames 1 (goes (part_wanted in_expression (absolute_path place)) frames)
    (in_call (part_wanted in_expression (absolute_path place)) frames on)
wanted_in limit frames opening place on =
    within_in limit frames 2 (goes wanted (in_parentheses place.at ∷ frames)) on
wanted_in limit frames (unary_operator op) place on =
    within_in limit frames 2 (goes wanted (behind_unary op place.at ∷ frames)) on
wanted_in limit frames (either_operator op level) place on =
    within_in limit frames 2 (goes wanted (behind_unary op place.at ∷ frames)) on
wanted_in limit frames let_word place on =
    either_in (asked frames == 0) (within limit frames 2 (goes (let_begun place.at) frames)) bad
    (within_in limit frames 2 (goes (let_begun place.at) frames) (in_call (let_begun place.at) frames on)) tt
wanted_in limit frames sort place on = tt

name_in : (limit : ℕ) (name : Name) (frames : List Frame) (sort : Sort) (place : Span) → OnCall frames →
    StepInCall (name_step limit name frames sort place)
name_in limit name frames opening place on = pushed name [] false None frames on
name_in limit name frames opening_bracket place on = in_call (bracketed name) frames on
name_in limit name frames sort place on = complete_in limit (name_tree name) frames sort place on

type_name_in : (head : Head) (name : Name) (frames : List Frame) (sort : Sort) (place : Span) → OnCall frames →
    StepInCall (type_name_step head name frames sort place)
type_name_in head name [] sort place on = absurd on
type_name_in head name (frame ∷ frames) opening_bracket place on = on
type_name_in head name (frame ∷ frames) (identifier text) place on = on
type_name_in head name (frame ∷ frames) sort place on = tt

used_in : (limit : ℕ) (purpose : Purpose) (name : Name) (frames : List Frame) (sort : Sort) (place : Span) →
    OnCall frames → StepInCall (used_step limit purpose name frames sort place)
used_in limit in_expression name frames sort place on = name_in limit name frames sort place on
used_in limit (in_type head) name frames sort place on = type_name_in head name frames sort place on

part_in : (limit : ℕ) (purpose : Purpose) (path : Path) (frames : List Frame) (sort : Sort) (place : Span) →
    OnCall frames → StepInCall (part_step limit purpose path frames sort place)
part_in limit purpose path frames double_colon place on = in_call (part_wanted purpose path) frames on
part_in limit purpose path frames sort place on = used_in limit purpose (path_name path) frames sort place on

part_wanted_in : (purpose : Purpose) (path : Path) (frames : List Frame) (sort : Sort) (place : Span) →
    OnCall frames → StepInCall (part_wanted_step purpose path frames sort place)
part_wanted_in purpose path [] sort place on = absurd on
part_wanted_in purpose path (frame ∷ frames) (identifier text) place on = on
part_wanted_in purpose path (frame ∷ frames) sort place on = tt

bracketed_in : (limit : ℕ) (name : Name) (frames : List Frame) (sort : Sort) (place : Span) → OnCall frames →
    StepInCall (bracketed_step limit name frames sort place)
bracketed_in limit name frames closing_bracket place on = in_call (unsized_closed name) frames on
bracketed_in limit name frames (integer value) place on = in_call (sized name value place) frames on
bracketed_in limit name frames sort place on =
    wanted_in limit (in_index (name_tree name) ∷ frames) sort place on

sized_in : (limit : ℕ) (name : Name) (value : ℕ) (at : Span) (frames : List Frame) (sort : Sort) (place : Span) →
    OnCall frames → StepInCall (sized_step limit name value at frames sort place)
sized_in limit name value at frames closing_bracket place on =
    in_call (sized_closed name value at place.end) frames on
sized_in limit name value at frames sort place on =
    complete_in limit (integer_tree value at) (in_index (name_tree name) ∷ frames) sort place on

sized_closed_in : (limit : ℕ) (name : Name) (value : ℕ) (at : Span) (end : ℕ) (frames : List Frame) (sort : Sort)
    (place : Span) → OnCall frames → StepInCall (sized_closed_step limit name value at end frames sort place)
sized_closed_in limit name value at end frames opening place on = on
sized_closed_in limit name value at end frames sort place on =
    unless_in limit frames 2 (complete_step limit (indexed_tree name value at end) frames sort place)
    (complete_in limit (indexed_tree name value at end) frames sort place on)

unsized_closed_in : (name : Name) (frames : List Frame) (sort : Sort) → OnCall frames →
    StepInCall (unsized_closed_step name frames sort)
unsized_closed_in name frames opening on = on
unsized_closed_in name frames sort on = tt

labelled_in : (label : Ident) (frames : List Frame) → OnCall frames → StepInCall (labelled_step label frames)
labelled_in label [] on = tt
labelled_in label (in_arguments name arguments with_name old ∷ []) on = tt
labelled_in label (in_arguments name arguments with_name old ∷ (frame ∷ frames)) on = on
labelled_in label (frame ∷ frames) on = tt

argument_in : (limit : ℕ) (frames : List Frame) (sort : Sort) (place : Span) → OnCall frames →
    StepInCall (argument_step limit frames sort place)
argument_in limit (in_arguments name arguments true label ∷ frames) (identifier text) place on =
    within_in limit (in_arguments name arguments true label ∷ frames) 1
    (goes (colon_wanted (ident_at text place)) (in_arguments name arguments true label ∷ frames)) on
argument_in limit (in_arguments name arguments true label ∷ frames) sort place on = tt
argument_in limit frames (identifier text) place on =
    within_in limit frames 1 (goes (identifier_read (ident_at text place)) frames)
    (in_call (identifier_read (ident_at text place)) frames on)
argument_in limit frames sort place on = wanted_in limit frames sort place on

first_argument_in : (limit : ℕ) (frames : List Frame) (sort : Sort) (place : Span) → OnCall frames →
    StepInCall (first_argument_step limit frames sort place)
first_argument_in limit (in_arguments name arguments with_name label ∷ []) closing place on = tt
first_argument_in limit (in_arguments name arguments with_name label ∷ (frame ∷ frames)) closing place on = on
first_argument_in limit frames sort place on = argument_in limit frames sort place on

identifier_in : (limit : ℕ) (ident : Ident) (frames : List Frame) (sort : Sort) (place : Span) → OnCall frames →
    StepInCall (identifier_step limit ident frames sort place)
identifier_in limit ident frames colon place on = labelled_in ident frames on
identifier_in limit ident frames sort place on =
    part_in limit in_expression (first_part ident.text ident.span) frames sort place on

colon_wanted_in : (ident : Ident) (frames : List Frame) (sort : Sort) → OnCall frames →
    StepInCall (colon_wanted_step ident frames sort)
colon_wanted_in ident frames colon on = labelled_in ident frames on
colon_wanted_in ident frames sort on = tt

first_element_in : (limit : ℕ) (frames : List Frame) (sort : Sort) (place : Span) → OnCall frames →
    StepInCall (first_element_step limit frames sort place)
first_element_in limit (in_elements name size trees ∷ frames) closing place on =
    in_call (complete (array name size (trees_of []) (from_to name.span.at place.end))) frames on
first_element_in limit frames sort place on = wanted_in limit frames sort place on

type_in : (head : Head) (frames : List Frame) (sort : Sort) (place : Span) → OnCall frames →
    StepInCall (type_step head frames sort place)
type_in head [] sort place on = absurd on
type_in head (frame ∷ frames) double_colon place on = on
type_in head (frame ∷ frames) (identifier text) place on = on
type_in head (frame ∷ frames) (type_word number) place on = on
type_in head (frame ∷ frames) sort place on = tt

head_in : (frames : List Frame) (sort : Sort) (place : Span) → OnCall frames →
    StepInCall (head_step frames sort place)
head_in [] sort place on = absurd on
head_in (frame ∷ frames) (frequency_word freq) place on = on
head_in (frame ∷ frames) sort place on =
    type_in (record { at = place.at; frequency = None }) (frame ∷ frames) sort place on

let_begun_in : (at : ℕ) (frames : List Frame) (sort : Sort) (place : Span) → OnCall frames →
    StepInCall (let_begun_step at frames sort place)
let_begun_in at frames opening_brace place on = on
let_begun_in at frames sort place on =
    head_in (in_let (record { at = at; braces = false; initializers = [] }) ∷ frames) sort place on

in_step_in : (frames : List Frame) (sort : Sort) → OnCall frames → StepInCall (in_step frames sort)
in_step_in [] sort on = absurd on
in_step_in (in_let held ∷ frames) in_word on = on
in_step_in (frame ∷ frames) sort on = tt

next_in : (frames : List Frame) (sort : Sort) (place : Span) → OnCall frames →
    StepInCall (next_step frames sort place)
next_in frames closing_brace place on = in_call in_wanted frames on
next_in frames sort place on = head_in frames sort place on

equals_in : (head : Head) (ty : TypeTree) (name : Ident) (frames : List Frame) (sort : Sort) → OnCall frames →
    StepInCall (equals_step head ty name frames sort)
equals_in head ty name [] sort on = absurd on
equals_in head ty name (in_let held ∷ frames) equals on = on
equals_in head ty name (frame ∷ frames) sort on = tt

-- the types of a let
later_in : (limit : ℕ) (mode : Mode) (frame : Frame) (frames : List Frame) (sort : Sort) (place : Span) →
    OnCall (frame ∷ frames) → StepInCall (mode_step limit mode (frame ∷ frames) sort place)
later_in limit wanted frame frames sort place on = wanted_in limit (frame ∷ frames) sort place on
later_in limit (complete tree) frame frames sort place on = complete_in limit tree (frame ∷ frames) sort place on
later_in limit (part_wanted purpose path) frame frames sort place on =
    part_wanted_in purpose path (frame ∷ frames) sort place on
later_in limit (part_read purpose path) frame frames sort place on =
    part_in limit purpose path (frame ∷ frames) sort place on
later_in limit (word_read purpose name) frame frames sort place on =
    used_in limit purpose name (frame ∷ frames) sort place on
later_in limit (bracketed name) frame frames sort place on = bracketed_in limit name (frame ∷ frames) sort place on
later_in limit (sized name value at) frame frames sort place on =
    sized_in limit name value at (frame ∷ frames) sort place on
later_in limit (sized_closed name value at end) frame frames sort place on =
    sized_closed_in limit name value at end (frame ∷ frames) sort place on
later_in limit (unsized_closed name) frame frames sort place on = unsized_closed_in name (frame ∷ frames) sort on
later_in limit first_argument frame frames sort place on = first_argument_in limit (frame ∷ frames) sort place on
later_in limit argument_wanted frame frames sort place on = argument_in limit (frame ∷ frames) sort place on
later_in limit (identifier_read ident) frame frames sort place on =
    identifier_in limit ident (frame ∷ frames) sort place on
later_in limit (colon_wanted ident) frame frames sort place on = colon_wanted_in ident (frame ∷ frames) sort on
later_in limit first_element frame frames sort place on = first_element_in limit (frame ∷ frames) sort place on
later_in limit (field_wanted tree) frame frames (identifier text) place on = on
later_in limit (field_wanted tree) frame frames sort place on = tt
later_in limit (let_begun at) frame frames sort place on = let_begun_in at (frame ∷ frames) sort place on
later_in limit head_wanted frame frames sort place on = head_in (frame ∷ frames) sort place on
later_in limit (type_wanted head) frame frames sort place on = type_in head (frame ∷ frames) sort place on
later_in limit (type_bracketed head name) frame frames (integer value) place on = on
later_in limit (type_bracketed head name) frame frames (binary_operator op level) place on =
    either_in (op == mark_number (codes "<")) (goes (deferred_wanted head name) (frame ∷ frames)) bad on tt
later_in limit (type_bracketed head name) frame frames sort place on = tt
later_in limit (type_sized head name value) frame frames closing_bracket place on = on
later_in limit (type_sized head name value) frame frames sort place on = tt
later_in limit (deferred_wanted head name) frame frames (identifier text) place on = on
later_in limit (deferred_wanted head name) frame frames sort place on = tt
later_in limit (deferred_read head name ident) frame frames (binary_operator op level) place on =
    either_in (op == mark_number (codes ">")) (goes (deferred_closed head name ident) (frame ∷ frames)) bad on tt
later_in limit (deferred_read head name ident) frame frames sort place on = tt
later_in limit (deferred_closed head name ident) frame frames closing_bracket place on = on
later_in limit (deferred_closed head name ident) frame frames sort place on = tt
later_in limit (name_wanted head ty) frame frames (identifier text) place on = on
later_in limit (name_wanted head ty) frame frames sort place on = tt
later_in limit (equals_wanted head ty name) frame frames sort place on =
    equals_in head ty name (frame ∷ frames) sort on
later_in limit next_wanted frame frames sort place on = next_in (frame ∷ frames) sort place on
later_in limit in_wanted frame frames sort place on = in_step_in (frame ∷ frames) sort on

-- a token that may stand over no frames
first_in : (limit : ℕ) (mode : Mode) (sort : Sort) (place : Span) → InCall mode [] →
    may_name mode sort ≡ true → StepInCall (mode_step limit mode [] sort place)
first_in limit wanted (identifier text) place is may =
    within_in limit [] 1 (goes (part_read in_expression (first_part text place)) []) tt
first_in limit wanted (type_word number) place is may =
    within_in limit [] 1 (goes (word_read in_expression (word_name number place)) []) tt
first_in limit wanted double_colon place is may =
    within_in limit [] 1 (goes (part_wanted in_expression (absolute_path place)) []) tt
first_in limit wanted sort place is may = absurd (false≢true may)
first_in limit (part_wanted in_expression path) (identifier text) place is may = tt
first_in limit (part_wanted in_expression path) sort place is may = tt
first_in limit (part_read in_expression path) double_colon place is may = tt
first_in limit (part_read in_expression path) opening place is may = tt
first_in limit (part_read in_expression path) sort place is may = absurd (false≢true may)
first_in limit (word_read in_expression name) opening place is may = tt
first_in limit (word_read in_expression name) sort place is may = absurd (false≢true may)
first_in limit (complete tree) sort place is may = absurd (false≢true may)
first_in limit mode sort place is may = absurd is

-- in a call only its name stands over no frames: what the machine of modules takes keeps this
pub call_mode_step : (limit : ℕ) (mode : Mode) (frames : List Frame) (sort : Sort) (place : Span) →
    InCall mode frames → (frames ≡ [] → may_name mode sort ≡ true) →
    StepInCall (mode_step limit mode frames sort place)
call_mode_step limit mode [] sort place is may = first_in limit mode sort place is (may refl)
call_mode_step limit mode (frame ∷ frames) sort place is may = later_in limit mode frame frames sort place is

pub stands_in_call : (mode : Mode) (frames : List Frame) → StandsInCall mode frames → InCall mode frames
stands_in_call (complete tree) [] on = absurd on
stands_in_call mode (frame ∷ frames) on = on
stands_in_call mode [] on = on
