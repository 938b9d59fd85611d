-- A step where an operand is wanted, or inside one, keeps the state fit.
use Rattle.std.proofs.Common.{◌≡◌, refl, arith, ℕ, Bool, true, false, List, [], ◌∷◌, ◌++◌, Some}
use Rattle.std.proofs.Common.{None, if◌then◌else◌}
use Rattle.std.specs.Prelude.{◌==◌}
use Rattle.std.proofs.lemmas.Bool.{true≢false, eqb-true}
use Rattle.mdl_lexer.specs.declared.token.Kind.{Kind}
use Rattle.mdl_syntax.specs.declared.names.Span.{Span}
use Rattle.mdl_syntax.specs.declared.names.Ident.{Ident}
use Rattle.mdl_syntax.specs.declared.names.Name.{Name}
use Rattle.mdl_syntax.specs.Trees.{Tree, literal}
use Rattle.mdl_syntax.specs.Levels.{binary_level}
use Rattle.mdl_syntax.specs.Levelled.{IsName}
use Rattle.expression_grammar.specs.inside.Fits.{MayBePlain, HasRoom, ModeSuits, PurposeSuits, IsInFront}
use Rattle.expression_grammar.specs.inside.Fits.{IsInArguments}
use Rattle.expression_grammar.specs.inside.Sorts.{IsOf}
use Rattle.expression_grammar.specs.inside.Machine.{name_step, type_name_step, used_step, part_step}
use Rattle.expression_grammar.specs.inside.Machine.{part_wanted_step, ident_at}
use Rattle.expression_grammar.specs.inside.Machine.{bracketed_step, labelled_step, identifier_step}
use Rattle.expression_grammar.specs.inside.Machine.{colon_wanted_step, first_element_step, argument_step}
use Rattle.expression_grammar.specs.inside.Machine.{first_argument_step, unsized_closed_step, field_step}
use Rattle.expression_grammar.specs.inside.Machine.{wanted_step, let_step, first_part, word_name}
use Rattle.expression_grammar.specs.inside.Machine.{absolute_path, Sort, goes, bad, within, around}
use Rattle.expression_grammar.specs.inside.Machine.{complete_step, wanted, Head, identifier, integer}
use Rattle.expression_grammar.specs.inside.Machine.{other_literal, type_word, unary_operator}
use Rattle.expression_grammar.specs.inside.Machine.{either_operator, binary_operator, question, colon}
use Rattle.expression_grammar.specs.inside.Machine.{double_colon, opening, closing, opening_bracket}
use Rattle.expression_grammar.specs.inside.Machine.{closing_bracket, dot, let_word, Purpose, Path}
use Rattle.expression_grammar.specs.inside.Machine.{in_expression, in_type, complete, part_wanted}
use Rattle.expression_grammar.specs.inside.Machine.{part_read, word_read, bracketed, sized, sized_closed}
use Rattle.expression_grammar.specs.inside.Machine.{unsized_closed, first_argument, identifier_read}
use Rattle.expression_grammar.specs.inside.Machine.{colon_wanted, first_element, let_begun}
use Rattle.expression_grammar.specs.inside.Machine.{name_tree, path_name, indexed_tree}
use Rattle.expression_grammar.specs.inside.Machine.{field_wanted, Frame, asked}
use Rattle.expression_grammar.specs.inside.Machine.{in_parentheses, behind_unary, behind_infix}
use Rattle.expression_grammar.specs.inside.Machine.{behind_question, in_index, in_arguments, in_elements}
use Rattle.expression_grammar.specs.inside.Machine.{sized_step, sized_closed_step, integer_tree}
use Rattle.expression_grammar.proofs.KeptLaws.{AllKept, fit, StepFits, within_fits, unless_fits}
use Rattle.expression_grammar.proofs.ReducedLaws.{asked_most}
use Rattle.expression_grammar.proofs.CompleteFits.{complete_fits}
use Rattle.expression_grammar.proofs.ReadsLevels.{operator_between}

some_part : (parts : List Ident) (part : Ident) → (parts ++ part ∷ [] ≡ []) → ⊥
some_part [] part is = cc
some_part (first ∷ parts) part is = cc

let_fits : (limit : ℕ) (frames : List Frame) (at : ℕ) →
    (HasRoom limit frames 1 → AllKept limit frames) → MayBePlain frames →
    StepFits limit (let_step limit frames at)
let_fits limit frames at all plain = by (asked frames == 0) refl
  where
    by : (b : Bool) → (asked frames == 0) ≡ b →
        StepFits limit (if b then within limit frames 2 (goes (let_begun at) frames) else bad)
    by true is = within_fits limit frames 2 (goes (let_begun at) frames) (λ room.
        fit (all (omega (arith, room))) (eqb-true (asked frames) 0 is, room, plain))
    by false is = tt

-- where an operand is wanted. The room of a leaf may be what shows that the top frame has its room
pub wanted_fits : (limit : ℕ) (frames : List Frame) (sort : Sort) (place : Span) (word : Kind) →
    IsOf sort word → (HasRoom limit frames 1 → AllKept limit frames) → MayBePlain frames →
    StepFits limit (wanted_step limit frames sort place)
wanted_fits limit frames (identifier text) place word of all plain =
    within_fits limit frames 1 (goes (part_read in_expression (first_part text place)) frames)
    (λ room. fit (all room) (some_part [] (ident_at text place), (room, plain)))
wanted_fits limit frames (integer value) place word of all plain =
    within_fits limit frames 1 (goes (complete (integer_tree value place)) frames)
    (λ room. fit (all room) (tt, omega arith, room, plain))
wanted_fits limit frames (other_literal lit) place word of all plain =
    within_fits limit frames 1 (goes (complete (literal lit place)) frames) (λ room. fit (all room)
    (tt, omega arith, room, plain))
wanted_fits limit frames (type_word number) place word of all plain =
    within_fits limit frames 1 (goes (word_read in_expression (word_name number place)) frames)
    (λ room. fit (all room) (of.1, (room, plain)))
wanted_fits limit frames (unary_operator op) place word of all plain =
    within_fits limit frames 2 (goes wanted (behind_unary op place.at ∷ frames)) (λ room.
    let own = all (omega (arith, room)) in
    fit ((of.1, asked_most limit frames own), room, plain, own) (tt, omega (arith, room)))
wanted_fits limit frames (either_operator op own_level) place word of all plain =
    within_fits limit frames 2 (goes wanted (behind_unary op place.at ∷ frames)) (λ room.
    let own = all (omega (arith, room)) in
    fit ((of.1, asked_most limit frames own), room, plain, own) (tt, omega (arith, room)))
wanted_fits limit frames double_colon place word of all plain =
    within_fits limit frames 1 (goes (part_wanted in_expression (absolute_path place)) frames)
    (λ room. fit (all room) (room, plain))
wanted_fits limit frames opening place word of all plain =
    within_fits limit frames 2 (goes wanted (in_parentheses place.at ∷ frames)) (λ room.
    let own = all (omega (arith, room)) in
    fit (tt, room, plain, own) (tt, omega (arith, room)))
wanted_fits limit frames let_word place word of all plain = let_fits limit frames place.at all plain
wanted_fits limit frames sort place word of all plain = tt

-- Names.

name_fits : (limit : ℕ) (name : Name) (frames : List Frame) (sort : Sort)
    (place : Span) (word : Kind) → IsOf sort word → AllKept limit frames → IsName name →
    HasRoom limit frames 1 → MayBePlain frames →
    StepFits limit (name_step limit name frames sort place)
name_fits limit name frames opening place word of all is room plain =
    fit ((is, tt, refl, λ e. (tt, refl)), room, plain, all) (tt, refl)
name_fits limit name frames opening_bracket place word of all is room plain =
    fit all (is, room, plain)
name_fits limit name frames sort place word of all is room plain =
    complete_fits limit frames (name_tree name) sort place word of all
    (is, omega arith, room, plain)

type_name_fits : (limit : ℕ) (head : Head) (name : Name) (frames : List Frame) (sort : Sort)
    (place : Span) → AllKept limit frames → IsName name → IsInFront frames →
    StepFits limit (type_name_step head name frames sort place)
type_name_fits limit head name frames (identifier text) place all is front =
    fit all (is, front)
type_name_fits limit head name frames opening_bracket place all is front =
    fit all (is, front)
type_name_fits limit head name frames sort place all is front = tt

-- behind a name
pub used_fits : (limit : ℕ) (purpose : Purpose) (name : Name) (frames : List Frame) (sort : Sort)
    (place : Span) (word : Kind) → IsOf sort word → AllKept limit frames → IsName name →
    PurposeSuits limit purpose frames →
    StepFits limit (used_step limit purpose name frames sort place)
used_fits limit in_expression name frames sort place word of all is one =
    name_fits limit name frames sort place word of all is one.0 one.1
used_fits limit (in_type head) name frames sort place word of all is one =
    type_name_fits limit head name frames sort place all is one

-- behind a part of a name
pub part_fits : (limit : ℕ) (purpose : Purpose) (path : Path) (frames : List Frame) (sort : Sort)
    (place : Span) (word : Kind) → IsOf sort word → AllKept limit frames →
    ModeSuits limit (part_read purpose path) frames →
    StepFits limit (part_step limit purpose path frames sort place)
part_fits limit purpose path frames double_colon place word of all one =
    fit all one.1
part_fits limit purpose path frames sort place word of all one =
    used_fits limit purpose (path_name path) frames sort place word of all one.0 one.1

pub part_wanted_fits : (limit : ℕ) (purpose : Purpose) (path : Path)
    (frames : List Frame) (sort : Sort) (place : Span) → AllKept limit frames →
    ModeSuits limit (part_wanted purpose path) frames →
    StepFits limit (part_wanted_step purpose path frames sort place)
part_wanted_fits limit purpose path frames (identifier text) place all one =
    fit all (some_part path.parts (ident_at text place), one)
part_wanted_fits limit purpose path frames sort place all one = tt

-- Brackets.

pub bracketed_fits : (limit : ℕ) (name : Name) (frames : List Frame) (sort : Sort) (place : Span)
    (word : Kind) → IsOf sort word → AllKept limit frames →
    ModeSuits limit (bracketed name) frames →
    StepFits limit (bracketed_step limit name frames sort place)
bracketed_fits limit name frames (integer value) place word of all one =
    fit all one
bracketed_fits limit name frames closing_bracket place word of all one =
    fit all one
bracketed_fits limit name frames sort place word of all one =
    wanted_fits limit (in_index (name_tree name) ∷ frames) sort place word of
    (λ room. ((omega arith, one.0), omega (arith, room), one.2, all)) tt

-- a name's index has its room, where there is room behind its first integer
index_kept : (limit : ℕ) (name : Name) (frames : List Frame) → AllKept limit frames → IsName name →
    MayBePlain frames → HasRoom limit (in_index (name_tree name) ∷ frames) 2 →
    AllKept limit (in_index (name_tree name) ∷ frames)
index_kept limit name frames all is plain room =
    ((omega arith, is), omega (arith, room), plain, all)

sized_infix_fits : (limit : ℕ) (name : Name) (count : ℕ) (at : Span)
    (frames : List Frame) (op own : ℕ) → binary_level op ≡ Some own → AllKept limit frames →
    ModeSuits limit (sized name count at) frames →
    StepFits limit (around limit (behind_infix op own (integer_tree count at))
    (integer_tree count at) (in_index (name_tree name) ∷ frames))
sized_infix_fits limit name count at frames op own is all one =
    let most = (operator_between op own is).1 in
    let tree = integer_tree count at in
    within_fits limit (in_index (name_tree name) ∷ frames) 2
    (goes wanted (behind_infix op own tree ∷ in_index (name_tree name) ∷ frames)) (λ room.
    fit (
      (is, omega (arith, most), tt, omega arith),
      room,
      tt,
      index_kept limit name frames all one.0 one.2 room,
    )
    (tt, omega (arith, room)))

pub sized_fits : (limit : ℕ) (name : Name) (count : ℕ) (at : Span)
    (frames : List Frame) (sort : Sort) (place : Span) (word : Kind) → IsOf sort word →
    AllKept limit frames → ModeSuits limit (sized name count at) frames →
    StepFits limit (sized_step limit name count at frames sort place)
sized_fits limit name count at frames (either_operator op own) place word of all one =
    sized_infix_fits limit name count at frames op own of.2 all one
sized_fits limit name count at frames (binary_operator op own) place word of all one =
    sized_infix_fits limit name count at frames op own of.1 all one
sized_fits limit name count at frames question place word of all one =
    within_fits limit (in_index (name_tree name) ∷ frames) 2
    (goes wanted (behind_question (integer_tree count at) ∷ in_index (name_tree name) ∷ frames))
    (λ room. fit (
      (omega arith, tt, omega arith),
      room,
      tt,
      index_kept limit name
          frames all one.0 one.2 room,
    ) (tt, omega (arith, room)))
sized_fits limit name count at frames opening_bracket place word of all one =
    within_fits limit (in_index (name_tree name) ∷ frames) 2
    (goes wanted (in_index (integer_tree count at) ∷ in_index (name_tree name) ∷ frames))
    (λ room. fit ((omega arith, tt), room, tt, index_kept limit name frames all one.0 one.2 room)
    (tt, omega (arith, room)))
sized_fits limit name count at frames closing_bracket place word of all one =
    fit all one
sized_fits limit name count at frames dot place word of all one =
    within_fits limit (in_index (name_tree name) ∷ frames) 2
    (goes (field_wanted (integer_tree count at)) (in_index (name_tree name) ∷ frames))
    (λ room. fit (index_kept limit name frames all one.0 one.2 room) (tt, omega arith, room, tt))
sized_fits limit name count at frames sort place word of all one = tt

pub sized_closed_fits : (limit : ℕ) (name : Name) (count : ℕ) (at : Span) (end : ℕ)
    (frames : List Frame) (sort : Sort) (place : Span) (word : Kind) → IsOf sort word →
    AllKept limit frames → ModeSuits limit (sized_closed name count at end) frames →
    StepFits limit (sized_closed_step limit name count at end frames sort place)
sized_closed_fits limit name count at end frames opening place word of all one =
    fit ((one.0, tt), one.1, one.2, all) tt
sized_closed_fits limit name count at end frames sort place word of all one =
    unless_fits limit frames 2 (complete_step limit (indexed_tree name count at end) frames sort
    place) (λ room. complete_fits limit frames (indexed_tree name count at end) sort place word of
    all ((omega arith, one.0, tt), omega arith, room, one.2))

pub unsized_closed_fits : (limit : ℕ) (name : Name) (frames : List Frame) (sort : Sort) →
    AllKept limit frames → ModeSuits limit (unsized_closed name) frames →
    StepFits limit (unsized_closed_step name frames sort)
unsized_closed_fits limit name frames opening all one =
    fit ((one.0, tt), one.1, one.2, all) tt
unsized_closed_fits limit name frames sort all one = tt

-- Arguments, elements and fields.

pub argument_fits : (limit : ℕ) (frames : List Frame) (sort : Sort) (place : Span) (word : Kind) →
    IsOf sort word → AllKept limit frames → IsInArguments frames →
    StepFits limit (argument_step limit frames sort place)
argument_fits limit (in_arguments name arguments true None ∷ frames) (identifier text)
    place word of all one =
    within_fits limit (in_arguments name arguments true None ∷ frames) 1
    (goes (colon_wanted (ident_at text place)) (in_arguments name arguments true None ∷ frames))
    (λ room. fit all (tt, room))
argument_fits limit (in_arguments name arguments true None ∷ frames) sort place word of all one = tt
argument_fits limit (in_arguments name arguments false None ∷ frames) (identifier text)
    place word of all one =
    within_fits limit (in_arguments name arguments false None ∷ frames) 1
    (goes (identifier_read (ident_at text place)) (in_arguments name arguments false None ∷ frames))
    (λ room. fit all (tt, refl, room))
argument_fits limit (in_arguments name arguments false None ∷ frames) sort place word of all one =
    wanted_fits limit (in_arguments name arguments false None ∷ frames) sort place word of
    (λ room. all) refl
argument_fits limit frames sort place word of all one = absurd one

pub first_argument_fits : (limit : ℕ) (frames : List Frame) (sort : Sort)
    (place : Span) (word : Kind) → IsOf sort word → AllKept limit frames →
    ModeSuits limit first_argument frames →
    StepFits limit (first_argument_step limit frames sort place)
first_argument_fits limit (in_arguments name arguments with_name None ∷ frames) closing
    place word of all one =
    fit all.3 ((all.0.0, refl, tt), omega arith, omega (arith, all.1), all.2)
first_argument_fits limit (in_arguments name arguments with_name None ∷ frames) sort
    place word of all one =
    argument_fits limit (in_arguments name arguments with_name None ∷ frames) sort place word of all
    tt
first_argument_fits limit frames sort place word of all one = absurd one.0

labelled_fits : (limit : ℕ) (label : Ident) (frames : List Frame) → AllKept limit frames →
    HasRoom limit frames 1 → StepFits limit (labelled_step label frames)
labelled_fits limit label (in_arguments name arguments with_name other ∷ frames) all room =
    fit ((all.0.0, all.0.1, all.0.2, λ e. absurd (true≢false e)), all.1, all.2, all.3) (tt, room)
labelled_fits limit label frames all room = tt

pub identifier_fits : (limit : ℕ) (ident : Ident) (frames : List Frame) (sort : Sort) (place : Span)
    (word : Kind) → IsOf sort word → AllKept limit frames →
    ModeSuits limit (identifier_read ident) frames →
    StepFits limit (identifier_step limit ident frames sort place)
identifier_fits limit ident frames colon place word of all one =
    labelled_fits limit ident frames all one.2
identifier_fits limit ident frames sort place word of all one =
    part_fits limit in_expression (first_part ident.text ident.span) frames sort place word of all
    (some_part [] (ident_at ident.text ident.span), (one.2, one.1))

pub colon_wanted_fits : (limit : ℕ) (ident : Ident) (frames : List Frame) (sort : Sort) →
    AllKept limit frames → ModeSuits limit (colon_wanted ident) frames →
    StepFits limit (colon_wanted_step ident frames sort)
colon_wanted_fits limit ident frames colon all one = labelled_fits limit ident frames all one.1
colon_wanted_fits limit ident frames sort all one = tt

pub first_element_fits : (limit : ℕ) (frames : List Frame) (sort : Sort)
    (place : Span) (word : Kind) → IsOf sort word → AllKept limit frames →
    ModeSuits limit first_element frames →
    StepFits limit (first_element_step limit frames sort place)
first_element_fits limit (in_elements name count trees ∷ frames) closing place word of all one =
    fit all.3 ((all.0.0, tt), omega arith, omega (arith, all.1), all.2)
first_element_fits limit (in_elements name count trees ∷ frames) sort place word of all one =
    wanted_fits limit (in_elements name count trees ∷ frames) sort place word of (λ room. all) tt
first_element_fits limit frames sort place word of all one = absurd one

pub field_fits : (limit : ℕ) (tree : Tree) (frames : List Frame) (sort : Sort) (place : Span) →
    AllKept limit frames → ModeSuits limit (field_wanted tree) frames →
    StepFits limit (field_step tree frames sort place)
field_fits limit tree frames (identifier text) place all one =
    fit all ((one.1, one.0), omega arith, one.2, one.3)
field_fits limit tree frames sort place all one = tt
