-- Whether the lowest frame is that of a call: no token changes this, save one that pops the frame.
use Rattle.std.proofs.Common.{◌≡◌, ◌∙◌, refl, ℕ, suc, ◌+◌, nat_le, Bool, true, false, List, [], ◌∷◌}
use Rattle.std.proofs.Common.{length, if◌then◌else◌, None, codes}
use Rattle.std.specs.Prelude.{◌==◌}
use Rattle.mdl_syntax.specs.declared.names.Span.{Span}
use Rattle.mdl_syntax.specs.declared.names.Ident.{Ident}
use Rattle.mdl_syntax.specs.declared.names.Name.{Name}
use Rattle.mdl_syntax.specs.declared.types.TypeTree.{TypeTree}
use Rattle.mdl_syntax.specs.Levels.{mark_number}
use Rattle.mdl_syntax.specs.Trees.{Tree, literal, call}
use Rattle.mdl_syntax.specs.Heights.{height}
use Rattle.expression_grammar.specs.inside.Machine.{Frame, Mode, Step, Sort, Purpose, Path, Head, goes}
use Rattle.expression_grammar.specs.inside.Machine.{bad, deep, wanted, complete, part_wanted}
use Rattle.expression_grammar.specs.inside.Machine.{part_read, word_read, field_wanted, in_expression}
use Rattle.expression_grammar.specs.inside.Machine.{in_type, in_parentheses, behind_unary, behind_infix}
use Rattle.expression_grammar.specs.inside.Machine.{behind_question, in_index, in_arguments}
use Rattle.expression_grammar.specs.inside.Machine.{in_elements, in_let, in_initializer, within}
use Rattle.expression_grammar.specs.inside.Machine.{unless_bad, reduced, is_tight, ended, colon_step}
use Rattle.expression_grammar.specs.inside.Machine.{closing_step, bracket_step, comma_step, semicolon_step}
use Rattle.expression_grammar.specs.inside.Machine.{infix_step, question_step, complete_step, wanted_step}
use Rattle.expression_grammar.specs.inside.Machine.{name_step, type_name_step, used_step, part_step}
use Rattle.expression_grammar.specs.inside.Machine.{part_wanted_step, bracketed_step, sized_step}
use Rattle.expression_grammar.specs.inside.Machine.{sized_closed_step, unsized_closed_step, labelled_step}
use Rattle.expression_grammar.specs.inside.Machine.{identifier, integer, other_literal, type_word}
use Rattle.expression_grammar.specs.inside.Machine.{double_colon, unary_operator, either_operator}
use Rattle.expression_grammar.specs.inside.Machine.{binary_operator, question, dot, opening_bracket, colon}
use Rattle.expression_grammar.specs.inside.Machine.{opening, closing, closing_bracket, comma, semicolon}
use Rattle.expression_grammar.specs.inside.Machine.{let_word, asked, first_part, word_name, absolute_path}
use Rattle.expression_grammar.specs.inside.Machine.{integer_tree, name_tree, path_name, indexed_tree}
use Rattle.expression_grammar.specs.inside.Machine.{let_begun, bracketed, sized, sized_closed}
use Rattle.expression_grammar.specs.inside.Machine.{unsized_closed, argument_step, first_argument_step}
use Rattle.expression_grammar.specs.inside.Machine.{identifier_step, colon_wanted_step, first_element_step}
use Rattle.expression_grammar.specs.inside.Machine.{type_step, head_step, let_begun_step, in_step}
use Rattle.expression_grammar.specs.inside.Machine.{next_step}
use Rattle.expression_grammar.specs.inside.Machine.{equals_step, mode_step, ident_at, colon_wanted}
use Rattle.expression_grammar.specs.inside.Machine.{identifier_read, first_argument, argument_wanted}
use Rattle.expression_grammar.specs.inside.Machine.{first_element, head_wanted, type_wanted}
use Rattle.expression_grammar.specs.inside.Machine.{type_bracketed, type_sized, deferred_wanted}
use Rattle.expression_grammar.specs.inside.Machine.{deferred_read, deferred_closed, name_wanted}
use Rattle.expression_grammar.specs.inside.Machine.{equals_wanted, next_wanted, in_wanted, frequency_word}
use Rattle.expression_grammar.specs.inside.Machine.{opening_brace, closing_brace, in_word, equals}

abbrev pub is_arguments : Frame → Bool
is_arguments (in_arguments name arguments with_name label) = true
is_arguments _ = false

abbrev pub base : List Frame → Bool
base [] = false
base (frame ∷ []) = is_arguments frame
base (frame ∷ (below ∷ frames)) = base (below ∷ frames)

abbrev pub is_call : Tree → Bool
is_call (call name own span) = true
is_call _ = false

-- what comes of a token above such a base
abbrev pub After : Bool → Mode → List Frame → Type 0
After b mode (frame ∷ frames) = base (frame ∷ frames) ≡ b
After b (complete tree) [] = is_call tree ≡ b
After b (field_wanted tree) [] = false ≡ b
After b mode [] = ⊥

abbrev pub StepAfter : Bool → Step → Type 0
StepAfter b (goes mode frames) = After b mode frames
StepAfter b _ = Unit {0}

-- where no token has been taken that pops the base
abbrev pub Before : Bool → Mode → List Frame → Type 0
Before b mode (frame ∷ frames) = base (frame ∷ frames) ≡ b
Before b (complete tree) [] = false ≡ b
Before b (field_wanted tree) [] = false ≡ b
Before b mode [] = ⊥

either_after : (b test : Bool) (one other : Step) → StepAfter b one → StepAfter b other →
    StepAfter b (if test then one else other)
either_after b true one other is others = is
either_after b false one other is others = others

within_after : (b : Bool) (limit : ℕ) (frames : List Frame) (need : ℕ) (own : Step) →
    StepAfter b own → StepAfter b (within limit frames need own)
within_after b limit frames need own is =
    either_after b (nat_le (length frames + need) limit) own deep is tt

unless_after : (b : Bool) (limit : ℕ) (frames : List Frame) (need : ℕ) (own : Step) →
    StepAfter b own → StepAfter b (unless_bad limit frames need own)
unless_after b limit frames need bad is = tt
unless_after b limit frames need own is = within_after b limit frames need own is

either_base : (b test : Bool) (one other : Tree × List Frame) → base one.1 ≡ b → base other.1 ≡ b →
    base (if test then one else other).1 ≡ b
either_base b true one other is others = is
either_base b false one other is others = others

reduced_base : (b : Bool) (grip : ℕ) (tree : Tree) (frames : List Frame) → base frames ≡ b →
    base (reduced grip tree frames).1 ≡ b
reduced_base b grip tree [] is = is
reduced_base b grip tree (in_arguments name arguments with_name label ∷ frames) is = is
reduced_base b grip tree (frame ∷ []) is =
    either_base b (is_tight grip frame) (ended frame tree, []) (tree, frame ∷ []) is is
reduced_base b grip tree (frame ∷ (below ∷ frames)) is =
    either_base b (is_tight grip frame) (reduced grip (ended frame tree) (below ∷ frames))
    (tree, frame ∷ (below ∷ frames)) (reduced_base b grip (ended frame tree) (below ∷ frames) is) is

pushed : (b : Bool) (frame : Frame) (frames : List Frame) → is_arguments frame ≡ false →
    base frames ≡ b → base (frame ∷ frames) ≡ b
pushed b frame [] other is = other ∙ is
pushed b frame (below ∷ frames) other is = is

colon_after : (b : Bool) (pair : Tree × List Frame) → base pair.1 ≡ b →
    StepAfter b (colon_step pair)
colon_after b (tree, behind_question test ∷ []) is = is
colon_after b (tree, behind_question test ∷ (below ∷ frames)) is = is
colon_after b (tree, []) is = tt
colon_after b (tree, frame ∷ frames) is = tt

closing_after : (b : Bool) (end : ℕ) (pair : Tree × List Frame) → base pair.1 ≡ b →
    StepAfter b (closing_step end pair)
closing_after b end (tree, in_parentheses at ∷ []) is = is
closing_after b end (tree, in_parentheses at ∷ (below ∷ frames)) is = is
closing_after b end (tree, in_arguments name arguments with_name label ∷ []) is = is
closing_after b end (tree, in_arguments name arguments with_name label ∷ (below ∷ frames)) is = is
closing_after b end (tree, in_elements name size trees ∷ []) is = is
closing_after b end (tree, in_elements name size trees ∷ (below ∷ frames)) is = is
closing_after b end (tree, []) is = tt
closing_after b end (tree, frame ∷ frames) is = tt

bracket_after : (b : Bool) (end : ℕ) (pair : Tree × List Frame) → base pair.1 ≡ b →
    StepAfter b (bracket_step end pair)
bracket_after b end (tree, in_index of ∷ []) is = is
bracket_after b end (tree, in_index of ∷ (below ∷ frames)) is = is
bracket_after b end (tree, []) is = tt
bracket_after b end (tree, frame ∷ frames) is = tt

comma_after : (b : Bool) (pair : Tree × List Frame) → base pair.1 ≡ b →
    StepAfter b (comma_step pair)
comma_after b (tree, in_arguments name arguments with_name label ∷ []) is = is
comma_after b (tree, in_arguments name arguments with_name label ∷ (below ∷ frames)) is = is
comma_after b (tree, in_elements name size trees ∷ []) is = is
comma_after b (tree, in_elements name size trees ∷ (below ∷ frames)) is = is
comma_after b (tree, []) is = tt
comma_after b (tree, frame ∷ frames) is = tt

semicolon_after : (b : Bool) (end : ℕ) (pair : Tree × List Frame) → base pair.1 ≡ b →
    StepAfter b (semicolon_step end pair)
semicolon_after b end (tree, in_initializer held head ty name ∷ []) is = is
semicolon_after b end (tree, in_initializer held head ty name ∷ (below ∷ frames)) is = is
semicolon_after b end (tree, []) is = tt
semicolon_after b end (tree, frame ∷ frames) is = tt

infix_after : (b : Bool) (limit op level : ℕ) (pair : Tree × List Frame) → base pair.1 ≡ b →
    StepAfter b (infix_step limit op level pair)
infix_after b limit op level (tree, frames) is =
    within_after b limit frames (suc (height tree))
    (goes wanted (behind_infix op level tree ∷ frames))
    (pushed b (behind_infix op level tree) frames refl is)

question_after : (b : Bool) (limit : ℕ) (pair : Tree × List Frame) → base pair.1 ≡ b →
    StepAfter b (question_step limit pair)
question_after b limit (tree, frames) is =
    within_after b limit frames (suc (height tree)) (goes wanted (behind_question tree ∷ frames))
    (pushed b (behind_question tree) frames refl is)

field_after : (b : Bool) (tree : Tree) (frames : List Frame) → base frames ≡ b →
    After b (field_wanted tree) frames
field_after b tree [] is = is
field_after b tree (frame ∷ frames) is = is

-- behind a whole operand
complete_after : (b : Bool) (limit : ℕ) (tree : Tree) (frames : List Frame) (sort : Sort)
    (own : Span) → base frames ≡ b → StepAfter b (complete_step limit tree frames sort own)
complete_after b limit tree frames (either_operator op level) own is =
    infix_after b limit op level (reduced level tree frames) (reduced_base b level tree frames is)
complete_after b limit tree frames (binary_operator op level) own is =
    infix_after b limit op level (reduced level tree frames) (reduced_base b level tree frames is)
complete_after b limit tree frames question own is =
    question_after b limit (reduced 2 tree frames) (reduced_base b 2 tree frames is)
complete_after b limit tree frames dot own is =
    within_after b limit frames (suc (height tree)) (goes (field_wanted tree) frames)
    (field_after b tree frames is)
complete_after b limit tree frames opening_bracket own is =
    within_after b limit frames (suc (height tree)) (goes wanted (in_index tree ∷ frames))
    (pushed b (in_index tree) frames refl is)
complete_after b limit tree frames colon own is =
    colon_after b (reduced 0 tree frames) (reduced_base b 0 tree frames is)
complete_after b limit tree frames closing own is =
    closing_after b own.end (reduced 0 tree frames) (reduced_base b 0 tree frames is)
complete_after b limit tree frames closing_bracket own is =
    bracket_after b own.end (reduced 0 tree frames) (reduced_base b 0 tree frames is)
complete_after b limit tree frames comma own is =
    comma_after b (reduced 0 tree frames) (reduced_base b 0 tree frames is)
complete_after b limit tree frames semicolon own is =
    semicolon_after b own.end (reduced 0 tree frames) (reduced_base b 0 tree frames is)
complete_after b limit tree frames sort own is = tt

-- Other modes.

wanted_after : (b : Bool) (limit : ℕ) (frame : Frame) (frames : List Frame) (sort : Sort)
    (own : Span) → base (frame ∷ frames) ≡ b →
    StepAfter b (wanted_step limit (frame ∷ frames) sort own)
wanted_after b limit frame frames (identifier text) own is =
    within_after b limit (frame ∷ frames) 1
    (goes (part_read in_expression (first_part text own)) (frame ∷ frames)) is
wanted_after b limit frame frames (integer value) own is =
    within_after b limit (frame ∷ frames) 1
    (goes (complete (integer_tree value own)) (frame ∷ frames)) is
wanted_after b limit frame frames (other_literal lit) own is =
    within_after b limit (frame ∷ frames) 1 (goes (complete (literal lit own)) (frame ∷ frames)) is
wanted_after b limit frame frames (type_word number) own is =
    within_after b limit (frame ∷ frames) 1
    (goes (word_read in_expression (word_name number own)) (frame ∷ frames)) is
wanted_after b limit frame frames double_colon own is =
    within_after b limit (frame ∷ frames) 1
    (goes (part_wanted in_expression (absolute_path own)) (frame ∷ frames)) is
wanted_after b limit frame frames opening own is =
    within_after b limit (frame ∷ frames) 2
    (goes wanted (in_parentheses own.at ∷ (frame ∷ frames))) is
wanted_after b limit frame frames (unary_operator op) own is =
    within_after b limit (frame ∷ frames) 2
    (goes wanted (behind_unary op own.at ∷ (frame ∷ frames))) is
wanted_after b limit frame frames (either_operator op level) own is =
    within_after b limit (frame ∷ frames) 2
    (goes wanted (behind_unary op own.at ∷ (frame ∷ frames))) is
wanted_after b limit frame frames let_word own is =
    either_after b (asked (frame ∷ frames) == 0)
    (within limit (frame ∷ frames) 2 (goes (let_begun own.at) (frame ∷ frames))) bad
    (within_after b limit (frame ∷ frames) 2 (goes (let_begun own.at) (frame ∷ frames)) is) tt
wanted_after b limit frame frames sort own is = tt

name_after : (b : Bool) (limit : ℕ) (name : Name) (frame : Frame) (frames : List Frame)
    (sort : Sort) (own : Span) → base (frame ∷ frames) ≡ b →
    StepAfter b (name_step limit name (frame ∷ frames) sort own)
name_after b limit name frame frames opening own is = is
name_after b limit name frame frames opening_bracket own is = is
name_after b limit name frame frames sort own is =
    complete_after b limit (name_tree name) (frame ∷ frames) sort own is

type_name_after : (b : Bool) (head : Head) (name : Name) (frame : Frame) (frames : List Frame)
    (sort : Sort) (own : Span) → base (frame ∷ frames) ≡ b →
    StepAfter b (type_name_step head name (frame ∷ frames) sort own)
type_name_after b head name frame frames opening_bracket own is = is
type_name_after b head name frame frames (identifier text) own is = is
type_name_after b head name frame frames sort own is = tt

used_after : (b : Bool) (limit : ℕ) (purpose : Purpose) (name : Name) (frame : Frame)
    (frames : List Frame) (sort : Sort) (own : Span) → base (frame ∷ frames) ≡ b →
    StepAfter b (used_step limit purpose name (frame ∷ frames) sort own)
used_after b limit in_expression name frame frames sort own is =
    name_after b limit name frame frames sort own is
used_after b limit (in_type head) name frame frames sort own is =
    type_name_after b head name frame frames sort own is

part_after : (b : Bool) (limit : ℕ) (purpose : Purpose) (path : Path) (frame : Frame)
    (frames : List Frame) (sort : Sort) (own : Span) → base (frame ∷ frames) ≡ b →
    StepAfter b (part_step limit purpose path (frame ∷ frames) sort own)
part_after b limit purpose path frame frames double_colon own is = is
part_after b limit purpose path frame frames sort own is =
    used_after b limit purpose (path_name path) frame frames sort own is

part_wanted_after : (b : Bool) (purpose : Purpose) (path : Path) (frame : Frame)
    (frames : List Frame) (sort : Sort) (own : Span) → base (frame ∷ frames) ≡ b →
    StepAfter b (part_wanted_step purpose path (frame ∷ frames) sort own)
part_wanted_after b purpose path frame frames (identifier text) own is = is
part_wanted_after b purpose path frame frames sort own is = tt

bracketed_after : (b : Bool) (limit : ℕ) (name : Name) (frame : Frame) (frames : List Frame)
    (sort : Sort) (own : Span) → base (frame ∷ frames) ≡ b →
    StepAfter b (bracketed_step limit name (frame ∷ frames) sort own)
bracketed_after b limit name frame frames closing_bracket own is = is
bracketed_after b limit name frame frames (integer value) own is = is
bracketed_after b limit name frame frames sort own is =
    wanted_after b limit (in_index (name_tree name)) (frame ∷ frames) sort own is

sized_after : (b : Bool) (limit : ℕ) (name : Name) (value : ℕ) (at : Span) (frame : Frame)
    (frames : List Frame) (sort : Sort) (own : Span) → base (frame ∷ frames) ≡ b →
    StepAfter b (sized_step limit name value at (frame ∷ frames) sort own)
sized_after b limit name value at frame frames closing_bracket own is = is
sized_after b limit name value at frame frames sort own is =
    complete_after b limit (integer_tree value at) (in_index (name_tree name) ∷ (frame ∷ frames))
    sort own is

sized_closed_after : (b : Bool) (limit : ℕ) (name : Name) (value : ℕ) (at : Span) (end : ℕ)
    (frame : Frame) (frames : List Frame) (sort : Sort) (own : Span) → base (frame ∷ frames) ≡ b →
    StepAfter b (sized_closed_step limit name value at end (frame ∷ frames) sort own)
sized_closed_after b limit name value at end frame frames opening own is = is
sized_closed_after b limit name value at end frame frames sort own is =
    unless_after b limit (frame ∷ frames) 2
    (complete_step limit (indexed_tree name value at end) (frame ∷ frames) sort own)
    (complete_after b limit (indexed_tree name value at end) (frame ∷ frames) sort own is)

unsized_closed_after : (b : Bool) (name : Name) (frame : Frame) (frames : List Frame)
    (sort : Sort) →
    base (frame ∷ frames) ≡ b → StepAfter b (unsized_closed_step name (frame ∷ frames) sort)
unsized_closed_after b name frame frames opening is = is
unsized_closed_after b name frame frames sort is = tt

labelled_after : (b : Bool) (label : Ident) (frame : Frame) (frames : List Frame) →
    base (frame ∷ frames) ≡ b → StepAfter b (labelled_step label (frame ∷ frames))
labelled_after b label (in_arguments name arguments with_name old) [] is = is
labelled_after b label (in_arguments name arguments with_name old) (below ∷ frames) is = is
labelled_after b label frame frames is = tt

argument_after : (b : Bool) (limit : ℕ) (frame : Frame) (frames : List Frame) (sort : Sort)
    (own : Span) → base (frame ∷ frames) ≡ b →
    StepAfter b (argument_step limit (frame ∷ frames) sort own)
argument_after b limit (in_arguments name arguments true label) frames (identifier text) own is =
    within_after b limit (in_arguments name arguments true label ∷ frames) 1
    (goes (colon_wanted (ident_at text own)) (in_arguments name arguments true label ∷ frames)) is
argument_after b limit (in_arguments name arguments true label) frames sort own is = tt
argument_after b limit frame frames (identifier text) own is =
    within_after b limit (frame ∷ frames) 1
    (goes (identifier_read (ident_at text own)) (frame ∷ frames)) is
argument_after b limit frame frames sort own is = wanted_after b limit frame frames sort own is

first_argument_after : (b : Bool) (limit : ℕ) (frame : Frame) (frames : List Frame) (sort : Sort)
    (own : Span) → base (frame ∷ frames) ≡ b →
    StepAfter b (first_argument_step limit (frame ∷ frames) sort own)
first_argument_after b limit (in_arguments name arguments with_name label) [] closing own is = is
first_argument_after b limit (in_arguments name arguments with_name label) (below ∷ frames) closing
    own is = is
first_argument_after b limit frame frames sort own is =
    argument_after b limit frame frames sort own is

identifier_after : (b : Bool) (limit : ℕ) (ident : Ident) (frame : Frame) (frames : List Frame)
    (sort : Sort) (own : Span) → base (frame ∷ frames) ≡ b →
    StepAfter b (identifier_step limit ident (frame ∷ frames) sort own)
identifier_after b limit ident frame frames colon own is = labelled_after b ident frame frames is
identifier_after b limit ident frame frames sort own is =
    part_after b limit in_expression (first_part ident.text ident.span) frame frames sort own is

colon_wanted_after : (b : Bool) (ident : Ident) (frame : Frame) (frames : List Frame)
    (sort : Sort) →
    base (frame ∷ frames) ≡ b → StepAfter b (colon_wanted_step ident (frame ∷ frames) sort)
colon_wanted_after b ident frame frames colon is = labelled_after b ident frame frames is
colon_wanted_after b ident frame frames sort is = tt

first_element_after : (b : Bool) (limit : ℕ) (frame : Frame) (frames : List Frame) (sort : Sort)
    (own : Span) → base (frame ∷ frames) ≡ b →
    StepAfter b (first_element_step limit (frame ∷ frames) sort own)
first_element_after b limit (in_elements name size trees) [] closing own is = is
first_element_after b limit (in_elements name size trees) (below ∷ frames) closing own is = is
first_element_after b limit frame frames sort own is = wanted_after b limit frame frames sort own is

type_after : (b : Bool) (head : Head) (frame : Frame) (frames : List Frame) (sort : Sort)
    (own : Span) → base (frame ∷ frames) ≡ b →
    StepAfter b (type_step head (frame ∷ frames) sort own)
type_after b head frame frames double_colon own is = is
type_after b head frame frames (identifier text) own is = is
type_after b head frame frames (type_word number) own is = is
type_after b head frame frames sort own is = tt

head_after : (b : Bool) (frame : Frame) (frames : List Frame) (sort : Sort) (own : Span) →
    base (frame ∷ frames) ≡ b → StepAfter b (head_step (frame ∷ frames) sort own)
head_after b frame frames (frequency_word freq) own is = is
head_after b frame frames sort own is =
    type_after b (record { at = own.at; frequency = None }) frame frames sort own is

let_begun_after : (b : Bool) (at : ℕ) (frame : Frame) (frames : List Frame) (sort : Sort)
    (own : Span) → base (frame ∷ frames) ≡ b →
    StepAfter b (let_begun_step at (frame ∷ frames) sort own)
let_begun_after b at frame frames opening_brace own is = is
let_begun_after b at frame frames sort own is =
    head_after b (in_let (record { at = at; braces = false; initializers = [] })) (frame ∷ frames)
    sort own is

in_after : (b : Bool) (frame : Frame) (frames : List Frame) (sort : Sort) →
    base (frame ∷ frames) ≡ b → StepAfter b (in_step (frame ∷ frames) sort)
in_after b (in_let held) [] in_word is = is
in_after b (in_let held) (below ∷ frames) in_word is = is
in_after b frame frames sort is = tt

next_after : (b : Bool) (frame : Frame) (frames : List Frame) (sort : Sort) (own : Span) →
    base (frame ∷ frames) ≡ b → StepAfter b (next_step (frame ∷ frames) sort own)
next_after b frame frames closing_brace own is = is
next_after b frame frames sort own is = head_after b frame frames sort own is

equals_after : (b : Bool) (head : Head) (ty : TypeTree) (name : Ident) (frame : Frame)
    (frames : List Frame) (sort : Sort) → base (frame ∷ frames) ≡ b →
    StepAfter b (equals_step head ty name (frame ∷ frames) sort)
equals_after b head ty name (in_let held) [] equals is = is
equals_after b head ty name (in_let held) (below ∷ frames) equals is = is
equals_after b head ty name frame frames sort is = tt

-- above some frame
later_after : (b : Bool) (limit : ℕ) (mode : Mode) (frame : Frame) (frames : List Frame)
    (sort : Sort) (own : Span) → base (frame ∷ frames) ≡ b →
    StepAfter b (mode_step limit mode (frame ∷ frames) sort own)
later_after b limit wanted frame frames sort own is = wanted_after b limit frame frames sort own is
later_after b limit (complete tree) frame frames sort own is =
    complete_after b limit tree (frame ∷ frames) sort own is
later_after b limit (part_wanted purpose path) frame frames sort own is =
    part_wanted_after b purpose path frame frames sort own is
later_after b limit (part_read purpose path) frame frames sort own is =
    part_after b limit purpose path frame frames sort own is
later_after b limit (word_read purpose name) frame frames sort own is =
    used_after b limit purpose name frame frames sort own is
later_after b limit (bracketed name) frame frames sort own is =
    bracketed_after b limit name frame frames sort own is
later_after b limit (sized name value at) frame frames sort own is =
    sized_after b limit name value at frame frames sort own is
later_after b limit (sized_closed name value at end) frame frames sort own is =
    sized_closed_after b limit name value at end frame frames sort own is
later_after b limit (unsized_closed name) frame frames sort own is =
    unsized_closed_after b name frame frames sort is
later_after b limit first_argument frame frames sort own is =
    first_argument_after b limit frame frames sort own is
later_after b limit argument_wanted frame frames sort own is =
    argument_after b limit frame frames sort own is
later_after b limit (identifier_read ident) frame frames sort own is =
    identifier_after b limit ident frame frames sort own is
later_after b limit (colon_wanted ident) frame frames sort own is =
    colon_wanted_after b ident frame frames sort is
later_after b limit first_element frame frames sort own is =
    first_element_after b limit frame frames sort own is
later_after b limit (field_wanted tree) frame frames (identifier text) own is = is
later_after b limit (field_wanted tree) frame frames sort own is = tt
later_after b limit (let_begun at) frame frames sort own is =
    let_begun_after b at frame frames sort own is
later_after b limit head_wanted frame frames sort own is = head_after b frame frames sort own is
later_after b limit (type_wanted head) frame frames sort own is =
    type_after b head frame frames sort own is
later_after b limit (type_bracketed head name) frame frames (integer value) own is = is
later_after b limit (type_bracketed head name) frame frames (binary_operator op level) own is =
    either_after b (op == mark_number (codes "<"))
    (goes (deferred_wanted head name) (frame ∷ frames)) bad is tt
later_after b limit (type_bracketed head name) frame frames sort own is = tt
later_after b limit (type_sized head name value) frame frames closing_bracket own is = is
later_after b limit (type_sized head name value) frame frames sort own is = tt
later_after b limit (deferred_wanted head name) frame frames (identifier text) own is = is
later_after b limit (deferred_wanted head name) frame frames sort own is = tt
later_after b limit (deferred_read head name ident) frame frames (binary_operator op level) own is =
    either_after b (op == mark_number (codes ">"))
    (goes (deferred_closed head name ident) (frame ∷ frames)) bad is tt
later_after b limit (deferred_read head name ident) frame frames sort own is = tt
later_after b limit (deferred_closed head name ident) frame frames closing_bracket own is = is
later_after b limit (deferred_closed head name ident) frame frames sort own is = tt
later_after b limit (name_wanted head ty) frame frames (identifier text) own is = is
later_after b limit (name_wanted head ty) frame frames sort own is = tt
later_after b limit (equals_wanted head ty name) frame frames sort own is =
    equals_after b head ty name frame frames sort is
later_after b limit next_wanted frame frames sort own is = next_after b frame frames sort own is
later_after b limit in_wanted frame frames sort own is = in_after b frame frames sort is

-- what the base is, it stays, and only a call closes that of a call
pub base_step : (b : Bool) (limit : ℕ) (mode : Mode) (frames : List Frame) (sort : Sort)
    (own : Span) → Before b mode frames → StepAfter b (mode_step limit mode frames sort own)
base_step b limit mode (frame ∷ frames) sort own is =
    later_after b limit mode frame frames sort own is
base_step b limit (complete tree) [] sort own is = complete_after b limit tree [] sort own is
base_step b limit (field_wanted tree) [] (identifier text) own is = is
base_step b limit (field_wanted tree) [] sort own is = tt
base_step b limit mode [] sort own is = absurd is
