-- A step behind a whole operand keeps the state fit, and so does the end of the text.
use Rattle.std.proofs.Common.{◌≡◌, ◌∙◌, sym, ap, subst, refl, arith, ℕ, suc, ◌+◌, ◌≤◌, nat_le, Bool}
use Rattle.std.proofs.Common.{true, false, List, [], ◌∷◌, ◌++◌, Some, if◌then◌else◌, length}
use Rattle.std.proofs.lemmas.Bool.{cond-true, cond-false, leb-true}
use Rattle.mdl_lexer.specs.declared.token.Kind.{Kind}
use Rattle.mdl_syntax.specs.declared.names.Span.{Span}
use Rattle.mdl_syntax.specs.declared.names.Ident.{Ident}
use Rattle.mdl_syntax.specs.declared.types.TypeTree.{TypeTree}
use Rattle.mdl_syntax.specs.Trees.{Tree, initializers_of, Initializer}
use Rattle.mdl_syntax.specs.Heights.{height}
use Rattle.mdl_syntax.specs.Levels.{binary_level}
use Rattle.mdl_syntax.specs.Levelled.{Levelled, are_initializers}
use Rattle.expression_grammar.specs.inside.Fits.{Suits, OperandSuits, Fits, ModeSuits}
use Rattle.expression_grammar.specs.inside.Sorts.{IsOf}
use Rattle.expression_grammar.specs.inside.Machine.{Sort, goes, infix_step, question_step, colon_step}
use Rattle.expression_grammar.specs.inside.Machine.{closing_step, bracket_step, comma_step, semicolon_step}
use Rattle.expression_grammar.specs.inside.Machine.{complete_step, Mode, wanted, Head, Let}
use Rattle.expression_grammar.specs.inside.Machine.{either_operator, binary_operator, question, colon}
use Rattle.expression_grammar.specs.inside.Machine.{closing, opening_bracket, closing_bracket, comma}
use Rattle.expression_grammar.specs.inside.Machine.{semicolon, dot, in_expression, complete, part_read}
use Rattle.expression_grammar.specs.inside.Machine.{word_read, sized_closed, Finish}
use Rattle.expression_grammar.specs.inside.Machine.{finished, ends_badly, ends_deep, whole, unless_bad_end}
use Rattle.expression_grammar.specs.inside.Machine.{finish, name_tree, path_name, indexed_tree, longer_let}
use Rattle.expression_grammar.specs.inside.Machine.{next_wanted, in_wanted, argument, field_wanted, Frame}
use Rattle.expression_grammar.specs.inside.Machine.{reduced, from_to, in_parentheses}
use Rattle.expression_grammar.specs.inside.Machine.{behind_infix, behind_question, in_index}
use Rattle.expression_grammar.specs.inside.Machine.{in_arguments, in_elements, in_let, in_initializer}
use Rattle.expression_grammar.proofs.KeptLaws.{AllKept, all_kept, fit, StepFits, within_fits, inner_room}
use Rattle.expression_grammar.proofs.ReducedLaws.{Reduced, asked_loose, asked_two, operand_reduced}
use Rattle.expression_grammar.proofs.LongerLaws.{arguments_higher, trees_higher, initializers_higher}
use Rattle.expression_grammar.proofs.LongerLaws.{arguments_levelled, trees_levelled, initializers_levelled}
use Rattle.expression_grammar.proofs.LongerLaws.{some_initializers, longer_in_order, longer_plain}
use Rattle.expression_grammar.proofs.ReadsLevels.{operator_between}
use Rattle.expression_grammar.proofs.HeightLaws.{some_height}

infix_fits : (limit op own : ℕ) (pair : Tree × List Frame) → binary_level op ≡ Some own →
    Reduced limit own pair.0 pair.1 → StepFits limit (infix_step limit op own pair)
infix_fits limit op own (tree, frames) is read =
    within_fits limit frames (suc (height tree)) (goes wanted (behind_infix op own tree ∷ frames))
    (λ room. fit (
      (is, read.placed.gripped, read.placed.levelled, asked_loose own frames read.loose),
      room,
      read.plain,
      read.all,
    )
    (tt, inner_room (length frames) (height tree) limit (some_height tree) room))

question_fits : (limit : ℕ) (pair : Tree × List Frame) → Reduced limit 2 pair.0 pair.1 →
    StepFits limit (question_step limit pair)
question_fits limit (tree, frames) read =
    within_fits limit frames (suc (height tree)) (goes wanted (behind_question tree ∷ frames))
    (λ room. fit (
      (read.placed.gripped, read.placed.levelled, asked_two limit frames read.all read.loose),
      room,
      read.plain,
      read.all,
    )
    (tt, inner_room (length frames) (height tree) limit (some_height tree) room))

colon_fits : (limit : ℕ) (pair : Tree × List Frame) → Reduced limit 0 pair.0 pair.1 →
    StepFits limit (colon_step pair)
colon_fits limit (tree, behind_question test ∷ frames) read =
    let suits = read.all.0 in
    fit (
      (suits.0, suits.1, read.placed.levelled, suits.2),
      omega (arith, read.all.1, read.placed.room),
      read.all.2,
      read.all.3,
    )
    (tt, inner_room (length frames) (height test) limit (some_height test) read.all.1)
colon_fits limit (tree, []) read = tt
colon_fits limit (tree, frame ∷ frames) read = tt

closing_fits : (limit end : ℕ) (pair : Tree × List Frame) → Reduced limit 0 pair.0 pair.1 →
    StepFits limit (closing_step end pair)
closing_fits limit end (tree, in_parentheses at ∷ frames) read =
    fit read.all.3 (read.placed.levelled, omega arith, omega (arith, read.placed.room), read.all.2)
closing_fits limit end (tree, in_arguments name arguments with_name label ∷ frames) read =
    let suits = read.all.0 in
    let span = (argument label tree).2 in
    fit read.all.3 (
      (
        suits.0,
        longer_in_order frames name arguments with_name label tree span suits.2 suits.3 read.plain,
        arguments_levelled arguments label tree span suits.1 read.placed.levelled,
      ),
      omega arith,
      omega (arith, read.all.1, read.placed.room, arguments_higher arguments label tree span),
      read.all.2,
    )
closing_fits limit end (tree, in_elements name size trees ∷ frames) read =
    let suits = read.all.0 in
    fit read.all.3 (
      (suits.0, trees_levelled trees tree suits.1 read.placed.levelled),
      omega arith,
      omega (arith, read.all.1, read.placed.room, trees_higher trees tree),
      read.all.2,
    )
closing_fits limit end (tree, []) read = tt
closing_fits limit end (tree, frame ∷ frames) read = tt

bracket_fits : (limit end : ℕ) (pair : Tree × List Frame) → Reduced limit 0 pair.0 pair.1 →
    StepFits limit (bracket_step end pair)
bracket_fits limit end (tree, in_index of ∷ frames) read =
    let suits = read.all.0 in
    fit read.all.3 (
      (suits.0, suits.1, read.placed.levelled),
      omega arith,
      omega (arith, read.all.1, read.placed.room),
      read.all.2,
    )
bracket_fits limit end (tree, []) read = tt
bracket_fits limit end (tree, frame ∷ frames) read = tt

comma_fits : (limit : ℕ) (pair : Tree × List Frame) → Reduced limit 0 pair.0 pair.1 →
    StepFits limit (comma_step pair)
comma_fits limit (tree, in_arguments name arguments with_name label ∷ frames) read =
    let suits = read.all.0 in
    let span = (argument label tree).2 in
    fit (
      (
        suits.0,
        arguments_levelled arguments label tree span suits.1 read.placed.levelled,
        longer_in_order frames name arguments with_name label tree span suits.2 suits.3 read.plain,
        λ is. (longer_plain arguments with_name label tree span suits.3 is, refl),
      ),
      omega (arith, read.all.1, read.placed.room, arguments_higher arguments label tree span),
      read.all.2,
      read.all.3,
    )
    (tt, omega (arith, some_height tree, read.placed.room))
comma_fits limit (tree, in_elements name size trees ∷ frames) read =
    let suits = read.all.0 in
    fit (
      (suits.0, trees_levelled trees tree suits.1 read.placed.levelled),
      omega (arith, read.all.1, read.placed.room, trees_higher trees tree),
      read.all.2,
      read.all.3,
    )
    (tt, omega (arith, some_height tree, read.placed.room))
comma_fits limit (tree, []) read = tt
comma_fits limit (tree, frame ∷ frames) read = tt

initializer_fits : (limit end : ℕ) (held : Let) (head : Head) (ty : TypeTree)
    (name : Ident) (tree : Tree) (frames : List Frame) →
    Reduced limit 0 tree (in_initializer held head ty name ∷ frames) →
    Fits limit (if held.braces then next_wanted else in_wanted)
    (in_let (longer_let held head ty name tree end) ∷ frames)
initializer_fits limit end held head ty name tree frames read =
    fit (
      (
        suits.0,
        initializers_levelled held.initializers head.frequency ty name tree
            span suits.1 suits.3 read.placed.levelled,
      ),
      omega (
        arith,
        read.all.1,
        read.placed.room,
        initializers_higher held.initializers head.frequency ty name tree span,
      ),
      read.all.2,
      read.all.3,
    )
    (by held.braces refl)
  where
    span : Span
    span = from_to head.at end

    suits : Suits (in_initializer held head ty name) frames
    suits = read.all.0

    next : List Frame
    next = in_let (longer_let held head ty name tree end) ∷ frames

    by : (b : Bool) → held.braces ≡ b →
        ModeSuits limit (if held.braces then next_wanted else in_wanted) next
    by true is =
        subst (λ mode. ModeSuits limit mode next)
        (sym (cond-true held.braces next_wanted in_wanted is))
        (is, some_initializers held.initializers head.frequency ty name tree span)
    by false is =
        subst (λ mode. ModeSuits limit mode next)
        (sym (cond-false held.braces next_wanted in_wanted is))
        (ap (λ (b : Bool). are_initializers b
        (initializers_of (held.initializers ++ (head.frequency, ty, name, tree, span) ∷ []))) is
        ∙ ap (λ (l : List Initializer). are_initializers false
        (initializers_of (l ++ (head.frequency, ty, name, tree, span) ∷ []))) (suits.2 is))

semicolon_fits : (limit end : ℕ) (pair : Tree × List Frame) → Reduced limit 0 pair.0 pair.1 →
    StepFits limit (semicolon_step end pair)
semicolon_fits limit end (tree, in_initializer held head ty name ∷ frames) read =
    initializer_fits limit end held head ty name tree frames read
semicolon_fits limit end (tree, []) read = tt
semicolon_fits limit end (tree, frame ∷ frames) read = tt

-- a step behind a whole operand keeps the state fit
pub complete_fits : (limit : ℕ) (frames : List Frame) (tree : Tree) (sort : Sort) (place : Span)
    (word : Kind) → IsOf sort word → AllKept limit frames →
    OperandSuits limit tree frames (height tree) →
    StepFits limit (complete_step limit tree frames sort place)
complete_fits limit frames tree (either_operator op own) place word is all suits =
    infix_fits limit op own (reduced own tree frames) is.2 (operand_reduced limit own tree frames
    (omega (arith, (operator_between op own is.2).1)) all suits)
complete_fits limit frames tree (binary_operator op own) place word is all suits =
    infix_fits limit op own (reduced own tree frames) is.1 (operand_reduced limit own tree frames
    (omega (arith, (operator_between op own is.1).1)) all suits)
complete_fits limit frames tree question place word is all suits =
    question_fits limit (reduced 2 tree frames) (operand_reduced limit 2 tree frames (omega arith)
    all suits)
complete_fits limit frames tree colon place word is all suits =
    colon_fits limit (reduced 0 tree frames) (operand_reduced limit 0 tree frames (omega arith) all
    suits)
complete_fits limit frames tree closing place word is all suits =
    closing_fits limit place.end (reduced 0 tree frames) (operand_reduced limit 0 tree frames
    (omega arith) all suits)
complete_fits limit frames tree opening_bracket place word is all suits =
    within_fits limit frames (suc (height tree)) (goes wanted (in_index tree ∷ frames))
    (λ room. fit ((suits.1, suits.0), room, suits.3, all)
    (tt, inner_room (length frames) (height tree) limit (some_height tree) room))
complete_fits limit frames tree closing_bracket place word is all suits =
    bracket_fits limit place.end (reduced 0 tree frames) (operand_reduced limit 0 tree frames
    (omega arith) all suits)
complete_fits limit frames tree comma place word is all suits =
    comma_fits limit (reduced 0 tree frames) (operand_reduced limit 0 tree frames (omega arith) all
    suits)
complete_fits limit frames tree semicolon place word is all suits =
    semicolon_fits limit place.end (reduced 0 tree frames) (operand_reduced limit 0 tree frames
    (omega arith) all suits)
complete_fits limit frames tree dot place word is all suits =
    within_fits limit frames (suc (height tree)) (goes (field_wanted tree) frames)
    (λ room. fit all (suits.0, suits.1, room, suits.3))
complete_fits limit frames tree sort place word is all suits = tt

-- The end of the text.

-- an expression that is finished is levelled and low
abbrev FinishFits : ℕ → Finish → Type 0
FinishFits limit (finished tree) = Levelled tree × (height tree ≤ limit)
FinishFits limit _ = Unit {0}

whole_fits : (limit : ℕ) (pair : Tree × List Frame) → Reduced limit 0 pair.0 pair.1 →
    FinishFits limit (whole pair)
whole_fits limit (tree, []) read = (read.placed.levelled, omega (arith, read.placed.room))
whole_fits limit (tree, frame ∷ frames) read = tt

operand_finished : (limit : ℕ) (tree : Tree) (frames : List Frame) → AllKept limit frames →
    OperandSuits limit tree frames (height tree) → FinishFits limit (whole (reduced 0 tree frames))
operand_finished limit tree frames all suits =
    whole_fits limit (reduced 0 tree frames) (operand_reduced limit 0 tree frames (omega arith) all
    suits)

unless_bad_end_fits : (limit : ℕ) (frames : List Frame) (need : ℕ) (end : Finish) →
    (length frames + need ≤ limit → FinishFits limit end) →
    FinishFits limit (unless_bad_end limit frames need end)
unless_bad_end_fits limit frames need (finished tree) fits =
    by (nat_le (length frames + need) limit) refl
  where
    by : (b : Bool) → nat_le (length frames + need) limit ≡ b →
        FinishFits limit (unless_bad_end limit frames need (finished tree))
    by true is =
        subst (FinishFits limit) (sym (cond-true (nat_le (length frames + need) limit)
        (finished tree) ends_deep is)) (fits (leb-true (length frames + need) limit is))
    by false other =
        subst (FinishFits limit) (sym (cond-false (nat_le (length frames + need) limit)
        (finished tree) ends_deep other)) tt
unless_bad_end_fits limit frames need ends_badly fits = tt
unless_bad_end_fits limit frames need ends_deep fits = tt

finish_keeps : (limit : ℕ) (mode : Mode) (frames : List Frame) → AllKept limit frames →
    ModeSuits limit mode frames → FinishFits limit (finish limit mode frames)
finish_keeps limit (complete tree) frames all suits = operand_finished limit tree frames all suits
finish_keeps limit (part_read in_expression path) frames all suits =
    operand_finished limit (name_tree (path_name path)) frames all
    (suits.0, omega arith, suits.1.0, suits.1.1)
finish_keeps limit (word_read in_expression name) frames all suits =
    operand_finished limit (name_tree name) frames all (suits.0, omega arith, suits.1.0, suits.1.1)
finish_keeps limit (sized_closed name value place end) frames all suits =
    let tree = indexed_tree name value place end in
    unless_bad_end_fits limit frames 2 (whole (reduced 0 tree frames))
    (λ room. operand_finished limit tree frames all
    ((omega arith, suits.0, tt), omega arith, room, suits.2))
finish_keeps limit mode frames all suits = tt

-- what is finished in a fit state is levelled and low
pub finish_fits : (limit : ℕ) (mode : Mode) (frames : List Frame) (tree : Tree) →
    Fits limit mode frames → finish limit mode frames ≡ finished tree →
    Levelled tree × (height tree ≤ limit)
finish_fits limit mode frames tree fits end =
    subst (FinishFits limit) end (finish_keeps limit mode frames (all_kept limit frames fits.all
    fits.below) fits.one)
