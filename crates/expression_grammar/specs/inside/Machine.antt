-- The reader of expressions, as a machine that takes one token after another. Its stack holds what is unfinished.
use Rattle.std.specs.Prelude.{ℕ, suc, ◌+◌, ◌==◌, nat_le, Bool, true, false, List, [], ◌∷◌, ◌++◌}
use Rattle.std.specs.Prelude.{Option, Some, None, if◌then◌else◌, length, codes}
use Rattle.mdl_lexer.specs.WordTables.{reserved_left_out, marks_left_out}
use Rattle.mdl_lexer.specs.declared.token.Kind.{Kind}
use Rattle.mdl_lexer.specs.declared.token.Kind.TheVariants as kind
use Rattle.mdl_lexer.specs.declared.token.Token.{Token}
use Rattle.mdl_syntax.specs.declared.names.Span.{Span}
use Rattle.mdl_syntax.specs.declared.names.Ident.{Ident}
use Rattle.mdl_syntax.specs.declared.names.Name.{Name}
use Rattle.mdl_syntax.specs.declared.names.NameForm.TheVariants as form
use Rattle.mdl_syntax.specs.declared.types.Size.{Size}
use Rattle.mdl_syntax.specs.declared.types.Size.TheVariants as size
use Rattle.mdl_syntax.specs.declared.types.TypeTree.{TypeTree}
use Rattle.mdl_syntax.specs.declared.types.Freq.{Freq}
use Rattle.mdl_syntax.specs.declared.types.Freq.TheVariants as freq
use Rattle.mdl_syntax.specs.declared.expressions.Lit.{Lit}
use Rattle.mdl_syntax.specs.declared.expressions.Lit.TheVariants as lit
use Rattle.mdl_syntax.specs.Trees.{Tree, literal, named, parenthesized, unary, binary, conditional, indexed}
use Rattle.mdl_syntax.specs.Trees.{field, call, array, binding, Argument, Initializer}
use Rattle.mdl_syntax.specs.Trees.{trees_of, arguments_of, initializers_of}
use Rattle.mdl_syntax.specs.Heights.{height}
use Rattle.mdl_syntax.specs.Levels.{mark_number, reserved_number, is_unary, binary_level, is_type_word}
use Rattle.expression_grammar.specs.Languages.{text_in}

-- what a token may be in an expression
pub data Sort : Type 0 where
  identifier : List ℕ → Sort
  integer : ℕ → Sort
  -- a literal that is no integer
  other_literal : Lit → Sort
  type_word : ℕ → Sort
  -- an operator before its operand alone, before its operand or between two, or between two alone, with its level
  unary_operator : ℕ → Sort
  either_operator : ℕ → ℕ → Sort
  binary_operator : ℕ → ℕ → Sort
  question : Sort
  colon : Sort
  double_colon : Sort
  opening : Sort
  closing : Sort
  opening_bracket : Sort
  closing_bracket : Sort
  opening_brace : Sort
  closing_brace : Sort
  comma : Sort
  semicolon : Sort
  dot : Sort
  equals : Sort
  let_word : Sort
  in_word : Sort
  frequency_word : Freq → Sort
  -- words that declarations begin with
  mdl_word : Sort
  import_word : Sort
  using_word : Sort
  module_word : Sort
  export_word : Sort
  struct_word : Sort
  enum_word : Sort
  annotation_word : Sort
  left_out : List ℕ → Sort
  unused : Sort

-- the sort by a word's text
abbrev pub reserved_sorts : List (List ℕ × Sort)
reserved_sorts =
    (codes "true", other_literal (lit.Bool true)) ∷ (codes "false", other_literal (lit.Bool false))
    ∷ (codes "let", let_word) ∷ (codes "in", in_word)
    ∷ (codes "uniform", frequency_word freq.Uniform) ∷ (codes "varying", frequency_word freq.Varying)
    ∷ (codes "mdl", mdl_word) ∷ (codes "import", import_word) ∷ (codes "using", using_word)
    ∷ (codes "module", module_word) ∷ (codes "export", export_word) ∷ (codes "struct", struct_word)
    ∷ (codes "enum", enum_word) ∷ (codes "annotation", annotation_word) ∷ []

abbrev pub mark_sorts : List (List ℕ × Sort)
mark_sorts =
    (codes "?", question) ∷ (codes ":", colon) ∷ (codes "::", double_colon) ∷ (codes "(", opening)
    ∷ (codes ")", closing) ∷ (codes "[", opening_bracket) ∷ (codes "]", closing_bracket)
    ∷ (codes "{", opening_brace) ∷ (codes "}", closing_brace) ∷ (codes ",", comma) ∷ (codes ";", semicolon)
    ∷ (codes ".", dot) ∷ (codes "=", equals) ∷ []

abbrev pub sort_among : (List ℕ → ℕ) → List (List ℕ × Sort) → ℕ → Option Sort
sort_among number_of [] number = None
sort_among number_of (row ∷ rows) number =
    if number_of row.0 == number then Some row.1 else sort_among number_of rows number

abbrev pub left_out_or_unused : Option (List ℕ) → Sort
left_out_or_unused None = unused
left_out_or_unused (Some text) = left_out text

abbrev pub type_or_else : Bool → ℕ → Sort
type_or_else true number = type_word number
type_or_else false number = left_out_or_unused (text_in reserved_left_out number)

abbrev pub reserved_sort : Option Sort → ℕ → Sort
reserved_sort (Some sort) number = sort
reserved_sort None number = type_or_else (is_type_word number) number

abbrev pub operator_sort : Bool → Option ℕ → ℕ → Sort
operator_sort true (Some level) number = either_operator number level
operator_sort true None number = unary_operator number
operator_sort false (Some level) number = binary_operator number level
operator_sort false None number = left_out_or_unused (text_in marks_left_out number)

abbrev pub mark_sort : Option Sort → ℕ → Sort
mark_sort (Some sort) number = sort
mark_sort None number = operator_sort (is_unary number) (binary_level number) number

abbrev pub sort_of : Kind → Sort
sort_of (kind.Word text) = identifier text
sort_of (kind.Reserved number) = reserved_sort (sort_among reserved_number reserved_sorts number) number
sort_of (kind.Mark number) = mark_sort (sort_among mark_number mark_sorts number) number
sort_of (kind.Int value) = integer value
sort_of (kind.Real text double) = other_literal (lit.Real text double)
sort_of (kind.Str text) = other_literal (lit.Str text)

-- a name of identifiers so far
pub record Path : Type 0 where
  pub absolute : Bool
  pub parts : List Ident
  pub span : Span

-- the front of an initializer so far
pub record Head : Type 0 where
  pub at : ℕ
  pub frequency : Option Freq

-- a let so far
pub record Let : Type 0 where
  pub at : ℕ
  pub braces : Bool
  pub initializers : List Initializer

-- what is unfinished around the place
pub data Frame : Type 0 where
  in_parentheses : ℕ → Frame
  behind_unary : ℕ → ℕ → Frame
  -- with the operator's level
  behind_infix : ℕ → ℕ → Tree → Frame
  behind_question : Tree → Frame
  behind_colon : Tree → Tree → Frame
  in_index : Tree → Frame
  -- the arguments before, whether one was named, and the name of the one at hand
  in_arguments : Name → List Argument → Bool → Option Ident → Frame
  in_elements : Name → Option ℕ → List Tree → Frame
  in_let : Let → Frame
  in_initializer : Let → Head → TypeTree → Ident → Frame
  in_body : Let → Frame

-- where a name stands
pub data Purpose : Type 0 where
  in_expression : Purpose
  in_type : Head → Purpose

-- what was read last
pub data Mode : Type 0 where
  wanted : Mode
  complete : Tree → Mode
  -- a part of a name is wanted, or was the last token
  part_wanted : Purpose → Path → Mode
  part_read : Purpose → Path → Mode
  word_read : Purpose → Name → Mode
  -- `name[`, `name[3`, `name[3]`, `name[]`
  bracketed : Name → Mode
  sized : Name → ℕ → Span → Mode
  sized_closed : Name → ℕ → Span → ℕ → Mode
  unsized_closed : Name → Mode
  -- the first argument or `)`, an argument, its first identifier, `:` behind its name
  first_argument : Mode
  argument_wanted : Mode
  identifier_read : Ident → Mode
  colon_wanted : Ident → Mode
  first_element : Mode
  field_wanted : Tree → Mode
  let_begun : ℕ → Mode
  head_wanted : Mode
  type_wanted : Head → Mode
  type_bracketed : Head → Name → Mode
  type_sized : Head → Name → ℕ → Mode
  -- `name[<`, `name[<n`, `name[<n>`
  deferred_wanted : Head → Name → Mode
  deferred_read : Head → Name → Ident → Mode
  deferred_closed : Head → Name → Ident → Mode
  name_wanted : Head → TypeTree → Mode
  equals_wanted : Head → TypeTree → Ident → Mode
  next_wanted : Mode
  in_wanted : Mode

-- what comes of a token
pub data Step : Type 0 where
  goes : Mode → List Frame → Step
  bad : Step
  deep : Step
  is_left_out : List ℕ → Step

-- Places.

abbrev pub span_of : Tree → Span
span_of (literal _ span) = span
span_of (named _ span) = span
span_of (parenthesized _ span) = span
span_of (unary _ _ span) = span
span_of (binary _ _ _ span) = span
span_of (conditional _ _ _ span) = span
span_of (indexed _ _ span) = span
span_of (field _ _ span) = span
span_of (call _ _ span) = span
span_of (array _ _ _ span) = span
span_of (binding _ _ _ span) = span

abbrev pub from_to : ℕ → ℕ → Span
from_to at end = record { at = at; end = end }

-- from the first byte of one to the last of the other
abbrev pub across : Tree → Tree → Span
across one other = from_to (span_of one).at (span_of other).end

abbrev pub ident_at : List ℕ → Span → Ident
ident_at text place = record { text = text; span = place }

abbrev pub word_name : ℕ → Span → Name
word_name number place = record { form = form.Word number; span = place }

abbrev pub path_name : Path → Name
path_name path = record { form = form.Parts path.absolute path.parts; span = path.span }

abbrev pub first_part : List ℕ → Span → Path
first_part text place = record { absolute = false; parts = ident_at text place ∷ []; span = place }

abbrev pub absolute_path : Span → Path
absolute_path place = record { absolute = true; parts = []; span = place }

abbrev pub longer_path : Path → List ℕ → Span → Path
longer_path path text place = record {
  absolute = path.absolute;
  parts = path.parts ++ ident_at text place ∷ [];
  span = from_to path.span.at place.end;
}

abbrev pub name_tree : Name → Tree
name_tree name = named name name.span

abbrev pub integer_tree : ℕ → Span → Tree
integer_tree value place = literal (lit.Int value) place

-- `name[3]` as an index
abbrev pub indexed_tree : Name → ℕ → Span → ℕ → Tree
indexed_tree name value place end =
    indexed (name_tree name) (integer_tree value place) (from_to name.span.at end)

abbrev pub argument_at : Option Ident → Tree → ℕ
argument_at None tree = (span_of tree).at
argument_at (Some name) tree = name.span.at

abbrev pub argument : Option Ident → Tree → Argument
argument name tree = (name, tree, from_to (argument_at name tree) (span_of tree).end)

abbrev pub type_of : Name → Size → ℕ → TypeTree
type_of name size end = record { name = name; size = size; span = from_to name.span.at end }

-- the let with one initializer more, which ends here
abbrev pub longer_let : Let → Head → TypeTree → Ident → Tree → ℕ → Let
longer_let held head ty name value end = record {
  at = held.at;
  braces = held.braces;
  initializers = held.initializers ++ (head.frequency, ty, name, value, from_to head.at end) ∷ [];
}

-- Reduction.

-- whether a frame holds the operand before it at least as tight as a token of this level grips it
abbrev pub is_tight : ℕ → Frame → Bool
is_tight grip (behind_unary _ _) = nat_le grip 12
is_tight grip (behind_infix _ level _) = nat_le grip level
is_tight grip (behind_colon _ _) = nat_le grip 1
is_tight grip (in_body _) = nat_le grip 0
is_tight grip _ = false

-- the frame's expression, which ends with this operand
abbrev pub ended : Frame → Tree → Tree
ended (behind_unary op at) tree = unary op tree (from_to at (span_of tree).end)
ended (behind_infix op level left) tree = binary op left tree (across left tree)
ended (behind_colon test one) tree = conditional test one tree (across test tree)
ended (in_body held) tree =
    binding held.braces (initializers_of held.initializers) tree (from_to held.at (span_of tree).end)
ended _ tree = tree

abbrev pub reduced : ℕ → Tree → List Frame → Tree × List Frame
reduced grip tree [] = (tree, [])
reduced grip tree (frame ∷ frames) =
    if is_tight grip frame then reduced grip (ended frame tree) frames else (tree, frame ∷ frames)

-- the level that the place asks of an operand
abbrev pub asked : List Frame → ℕ
asked (behind_unary _ _ ∷ _) = 12
asked (behind_infix _ level _ ∷ _) = suc level
asked (behind_colon _ _ ∷ _) = 1
asked _ = 0

-- Steps.

-- within the frames there must be room for an expression of this height
abbrev pub within : ℕ → List Frame → ℕ → Step → Step
within limit frames need step = if nat_le (length frames + need) limit then step else deep

abbrev pub unless_bad : ℕ → List Frame → ℕ → Step → Step
unless_bad limit frames need bad = bad
unless_bad limit frames need step = within limit frames need step

abbrev pub let_step : ℕ → List Frame → ℕ → Step
let_step limit frames at =
    if asked frames == 0 then within limit frames 2 (goes (let_begun at) frames) else bad

abbrev pub wanted_step : ℕ → List Frame → Sort → Span → Step
wanted_step limit frames (identifier text) place =
    within limit frames 1 (goes (part_read in_expression (first_part text place)) frames)
wanted_step limit frames (integer value) place =
    within limit frames 1 (goes (complete (integer_tree value place)) frames)
wanted_step limit frames (other_literal lit) place =
    within limit frames 1 (goes (complete (literal lit place)) frames)
wanted_step limit frames (type_word number) place =
    within limit frames 1 (goes (word_read in_expression (word_name number place)) frames)
wanted_step limit frames double_colon place =
    within limit frames 1 (goes (part_wanted in_expression (absolute_path place)) frames)
wanted_step limit frames opening place =
    within limit frames 2 (goes wanted (in_parentheses place.at ∷ frames))
wanted_step limit frames (unary_operator op) place =
    within limit frames 2 (goes wanted (behind_unary op place.at ∷ frames))
wanted_step limit frames (either_operator op level) place =
    within limit frames 2 (goes wanted (behind_unary op place.at ∷ frames))
wanted_step limit frames let_word place = let_step limit frames place.at
wanted_step limit frames _ place = bad

-- a frame that needs an expression higher than the one that it holds
abbrev pub around : ℕ → Frame → Tree → List Frame → Step
around limit frame tree frames = within limit frames (suc (height tree)) (goes wanted (frame ∷ frames))

abbrev pub infix_step : ℕ → ℕ → ℕ → Tree × List Frame → Step
infix_step limit op level (tree, frames) = around limit (behind_infix op level tree) tree frames

abbrev pub question_step : ℕ → Tree × List Frame → Step
question_step limit (tree, frames) = around limit (behind_question tree) tree frames

abbrev pub colon_step : Tree × List Frame → Step
colon_step (tree, behind_question test ∷ frames) = goes wanted (behind_colon test tree ∷ frames)
colon_step _ = bad

abbrev pub closing_step : ℕ → Tree × List Frame → Step
closing_step end (tree, in_parentheses at ∷ frames) =
    goes (complete (parenthesized tree (from_to at end))) frames
closing_step end (tree, in_arguments name arguments _ label ∷ frames) =
    goes (complete (call name (arguments_of (arguments ++ argument label tree ∷ []))
    (from_to name.span.at end))) frames
closing_step end (tree, in_elements name size trees ∷ frames) =
    goes (complete (array name size (trees_of (trees ++ tree ∷ [])) (from_to name.span.at end))) frames
closing_step end _ = bad

abbrev pub bracket_step : ℕ → Tree × List Frame → Step
bracket_step end (tree, in_index of ∷ frames) =
    goes (complete (indexed of tree (from_to (span_of of).at end))) frames
bracket_step end _ = bad

abbrev pub comma_step : Tree × List Frame → Step
comma_step (tree, in_arguments name arguments with_name label ∷ frames) =
    goes argument_wanted (in_arguments name (arguments ++ argument label tree ∷ []) with_name None ∷ frames)
comma_step (tree, in_elements name size trees ∷ frames) =
    goes wanted (in_elements name size (trees ++ tree ∷ []) ∷ frames)
comma_step _ = bad

abbrev pub semicolon_step : ℕ → Tree × List Frame → Step
semicolon_step end (tree, in_initializer held head ty name ∷ frames) =
    goes (if held.braces then next_wanted else in_wanted)
    (in_let (longer_let held head ty name tree end) ∷ frames)
semicolon_step end _ = bad

abbrev pub complete_step : ℕ → Tree → List Frame → Sort → Span → Step
complete_step limit tree frames (either_operator op level) place = infix_step limit op level (reduced level tree frames)
complete_step limit tree frames (binary_operator op level) place = infix_step limit op level (reduced level tree frames)
complete_step limit tree frames question place = question_step limit (reduced 2 tree frames)
complete_step limit tree frames dot place =
    within limit frames (suc (height tree)) (goes (field_wanted tree) frames)
complete_step limit tree frames opening_bracket place = around limit (in_index tree) tree frames
complete_step limit tree frames colon place = colon_step (reduced 0 tree frames)
complete_step limit tree frames closing place = closing_step place.end (reduced 0 tree frames)
complete_step limit tree frames closing_bracket place = bracket_step place.end (reduced 0 tree frames)
complete_step limit tree frames comma place = comma_step (reduced 0 tree frames)
complete_step limit tree frames semicolon place = semicolon_step place.end (reduced 0 tree frames)
complete_step limit tree frames _ place = bad

-- behind a name in an expression
abbrev pub name_step : ℕ → Name → List Frame → Sort → Span → Step
name_step limit name frames opening place =
    goes first_argument (in_arguments name [] false None ∷ frames)
name_step limit name frames opening_bracket place = goes (bracketed name) frames
name_step limit name frames sort place = complete_step limit (name_tree name) frames sort place

-- behind a name in a type
abbrev pub type_name_step : Head → Name → List Frame → Sort → Span → Step
type_name_step head name frames opening_bracket place = goes (type_bracketed head name) frames
type_name_step head name frames (identifier text) place =
    goes (equals_wanted head (type_of name size.One name.span.end) (ident_at text place)) frames
type_name_step head name frames _ place = bad

abbrev pub used_step : ℕ → Purpose → Name → List Frame → Sort → Span → Step
used_step limit in_expression name frames sort place = name_step limit name frames sort place
used_step limit (in_type head) name frames sort place = type_name_step head name frames sort place

abbrev pub part_step : ℕ → Purpose → Path → List Frame → Sort → Span → Step
part_step limit purpose path frames double_colon place = goes (part_wanted purpose path) frames
part_step limit purpose path frames sort place = used_step limit purpose (path_name path) frames sort place

abbrev pub part_wanted_step : Purpose → Path → List Frame → Sort → Span → Step
part_wanted_step purpose path frames (identifier text) place =
    goes (part_read purpose (longer_path path text place)) frames
part_wanted_step purpose path frames _ place = bad

abbrev pub bracketed_step : ℕ → Name → List Frame → Sort → Span → Step
bracketed_step limit name frames closing_bracket place = goes (unsized_closed name) frames
bracketed_step limit name frames (integer value) place = goes (sized name value place) frames
bracketed_step limit name frames sort place =
    wanted_step limit (in_index (name_tree name) ∷ frames) sort place

abbrev pub sized_step : ℕ → Name → ℕ → Span → List Frame → Sort → Span → Step
sized_step limit name value at frames closing_bracket place =
    goes (sized_closed name value at place.end) frames
sized_step limit name value at frames sort place =
    complete_step limit (integer_tree value at) (in_index (name_tree name) ∷ frames) sort place

abbrev pub sized_closed_step : ℕ → Name → ℕ → Span → ℕ → List Frame → Sort → Span → Step
sized_closed_step limit name value at end frames opening place =
    goes first_element (in_elements name (Some value) [] ∷ frames)
sized_closed_step limit name value at end frames sort place =
    unless_bad limit frames 2
    (complete_step limit (indexed_tree name value at end) frames sort place)

abbrev pub unsized_closed_step : Name → List Frame → Sort → Step
unsized_closed_step name frames opening = goes first_element (in_elements name None [] ∷ frames)
unsized_closed_step name frames _ = bad

-- an argument's first token. Behind a named one only named ones stand
abbrev pub argument_step : ℕ → List Frame → Sort → Span → Step
argument_step limit (in_arguments name arguments true label ∷ frames) (identifier text) place =
    within limit (in_arguments name arguments true label ∷ frames) 1
    (goes (colon_wanted (ident_at text place)) (in_arguments name arguments true label ∷ frames))
argument_step limit (in_arguments name arguments true label ∷ frames) sort place = bad
argument_step limit frames (identifier text) place =
    within limit frames 1 (goes (identifier_read (ident_at text place)) frames)
argument_step limit frames sort place = wanted_step limit frames sort place

abbrev pub first_argument_step : ℕ → List Frame → Sort → Span → Step
first_argument_step limit (in_arguments name _ _ _ ∷ frames) closing place =
    goes (complete (call name (arguments_of []) (from_to name.span.at place.end))) frames
first_argument_step limit frames sort place = argument_step limit frames sort place

abbrev pub labelled_step : Ident → List Frame → Step
labelled_step label (in_arguments name arguments _ _ ∷ frames) =
    goes wanted (in_arguments name arguments true (Some label) ∷ frames)
labelled_step label _ = bad

abbrev pub identifier_step : ℕ → Ident → List Frame → Sort → Span → Step
identifier_step limit ident frames colon place = labelled_step ident frames
identifier_step limit ident frames sort place =
    part_step limit in_expression (first_part ident.text ident.span) frames sort place

abbrev pub colon_wanted_step : Ident → List Frame → Sort → Step
colon_wanted_step ident frames colon = labelled_step ident frames
colon_wanted_step ident frames _ = bad

abbrev pub first_element_step : ℕ → List Frame → Sort → Span → Step
first_element_step limit (in_elements name size _ ∷ frames) closing place =
    goes (complete (array name size (trees_of []) (from_to name.span.at place.end))) frames
first_element_step limit frames sort place = wanted_step limit frames sort place

abbrev pub field_step : Tree → List Frame → Sort → Span → Step
field_step tree frames (identifier text) place =
    goes (complete (field tree (ident_at text place) (from_to (span_of tree).at place.end))) frames
field_step tree frames _ place = bad

abbrev pub type_step : Head → List Frame → Sort → Span → Step
type_step head frames double_colon place = goes (part_wanted (in_type head) (absolute_path place)) frames
type_step head frames (identifier text) place = goes (part_read (in_type head) (first_part text place)) frames
type_step head frames (type_word number) place =
    goes (word_read (in_type head) (word_name number place)) frames
type_step head frames _ place = bad

abbrev pub head_step : List Frame → Sort → Span → Step
head_step frames (frequency_word freq) place =
    goes (type_wanted (record { at = place.at; frequency = Some freq })) frames
head_step frames sort place = type_step (record { at = place.at; frequency = None }) frames sort place

abbrev pub let_begun_step : ℕ → List Frame → Sort → Span → Step
let_begun_step at frames opening_brace place =
    goes head_wanted (in_let (record { at = at; braces = true; initializers = [] }) ∷ frames)
let_begun_step at frames sort place =
    head_step (in_let (record { at = at; braces = false; initializers = [] }) ∷ frames) sort place

abbrev pub type_bracketed_step : Head → Name → List Frame → Sort → Step
type_bracketed_step head name frames (integer value) = goes (type_sized head name value) frames
type_bracketed_step head name frames (binary_operator op level) =
    if op == mark_number (codes "<") then goes (deferred_wanted head name) frames else bad
type_bracketed_step head name frames _ = bad

abbrev pub type_sized_step : Head → Name → ℕ → List Frame → Sort → Span → Step
type_sized_step head name value frames closing_bracket place =
    goes (name_wanted head (type_of name (size.Sized value) place.end)) frames
type_sized_step head name value frames _ place = bad

abbrev pub deferred_wanted_step : Head → Name → List Frame → Sort → Span → Step
deferred_wanted_step head name frames (identifier text) place =
    goes (deferred_read head name (ident_at text place)) frames
deferred_wanted_step head name frames _ place = bad

abbrev pub deferred_read_step : Head → Name → Ident → List Frame → Sort → Step
deferred_read_step head name ident frames (binary_operator op level) =
    if op == mark_number (codes ">") then goes (deferred_closed head name ident) frames else bad
deferred_read_step head name ident frames _ = bad

abbrev pub deferred_closed_step : Head → Name → Ident → List Frame → Sort → Span → Step
deferred_closed_step head name ident frames closing_bracket place =
    goes (name_wanted head (type_of name (size.Deferred ident) place.end)) frames
deferred_closed_step head name ident frames _ place = bad

abbrev pub name_wanted_step : Head → TypeTree → List Frame → Sort → Span → Step
name_wanted_step head ty frames (identifier text) place =
    goes (equals_wanted head ty (ident_at text place)) frames
name_wanted_step head ty frames _ place = bad

abbrev pub equals_step : Head → TypeTree → Ident → List Frame → Sort → Step
equals_step head ty name (in_let held ∷ frames) equals =
    goes wanted (in_initializer held head ty name ∷ frames)
equals_step head ty name frames _ = bad

abbrev pub next_step : List Frame → Sort → Span → Step
next_step frames closing_brace place = goes in_wanted frames
next_step frames sort place = head_step frames sort place

abbrev pub in_step : List Frame → Sort → Step
in_step (in_let held ∷ frames) in_word = goes wanted (in_body held ∷ frames)
in_step frames _ = bad

abbrev pub mode_step : ℕ → Mode → List Frame → Sort → Span → Step
mode_step limit wanted frames sort place = wanted_step limit frames sort place
mode_step limit (complete tree) frames sort place = complete_step limit tree frames sort place
mode_step limit (part_wanted purpose path) frames sort place = part_wanted_step purpose path frames sort place
mode_step limit (part_read purpose path) frames sort place = part_step limit purpose path frames sort place
mode_step limit (word_read purpose name) frames sort place = used_step limit purpose name frames sort place
mode_step limit (bracketed name) frames sort place = bracketed_step limit name frames sort place
mode_step limit (sized name value at) frames sort place = sized_step limit name value at frames sort place
mode_step limit (sized_closed name value at end) frames sort place =
    sized_closed_step limit name value at end frames sort place
mode_step limit (unsized_closed name) frames sort place = unsized_closed_step name frames sort
mode_step limit first_argument frames sort place = first_argument_step limit frames sort place
mode_step limit argument_wanted frames sort place = argument_step limit frames sort place
mode_step limit (identifier_read ident) frames sort place = identifier_step limit ident frames sort place
mode_step limit (colon_wanted ident) frames sort place = colon_wanted_step ident frames sort
mode_step limit first_element frames sort place = first_element_step limit frames sort place
mode_step limit (field_wanted tree) frames sort place = field_step tree frames sort place
mode_step limit (let_begun at) frames sort place = let_begun_step at frames sort place
mode_step limit head_wanted frames sort place = head_step frames sort place
mode_step limit (type_wanted head) frames sort place = type_step head frames sort place
mode_step limit (type_bracketed head name) frames sort place = type_bracketed_step head name frames sort
mode_step limit (type_sized head name value) frames sort place =
    type_sized_step head name value frames sort place
mode_step limit (deferred_wanted head name) frames sort place =
    deferred_wanted_step head name frames sort place
mode_step limit (deferred_read head name ident) frames sort place =
    deferred_read_step head name ident frames sort
mode_step limit (deferred_closed head name ident) frames sort place =
    deferred_closed_step head name ident frames sort place
mode_step limit (name_wanted head ty) frames sort place = name_wanted_step head ty frames sort place
mode_step limit (equals_wanted head ty name) frames sort place = equals_step head ty name frames sort
mode_step limit next_wanted frames sort place = next_step frames sort place
mode_step limit in_wanted frames sort place = in_step frames sort

abbrev pub sort_step : ℕ → Mode → List Frame → Sort → Span → Step
sort_step limit mode frames (left_out text) place = is_left_out text
sort_step limit mode frames sort place = mode_step limit mode frames sort place

abbrev pub step : ℕ → Mode → List Frame → Token → Step
step limit mode frames token =
    sort_step limit mode frames (sort_of token.kind) (from_to token.at token.end)

-- The end of the text.

pub data Finish : Type 0 where
  finished : Tree → Finish
  ends_badly : Finish
  ends_deep : Finish

abbrev pub whole : Tree × List Frame → Finish
whole (tree, []) = finished tree
whole (tree, frame ∷ frames) = ends_badly

abbrev pub unless_bad_end : ℕ → List Frame → ℕ → Finish → Finish
unless_bad_end limit frames need (finished tree) =
    if nat_le (length frames + need) limit then finished tree else ends_deep
unless_bad_end limit frames need other = other

abbrev pub finish : ℕ → Mode → List Frame → Finish
finish limit (complete tree) frames = whole (reduced 0 tree frames)
finish limit (part_read in_expression path) frames = whole (reduced 0 (name_tree (path_name path)) frames)
finish limit (word_read in_expression name) frames = whole (reduced 0 (name_tree name) frames)
finish limit (sized_closed name value at end) frames =
    unless_bad_end limit frames 2 (whole (reduced 0 (indexed_tree name value at end) frames))
finish limit mode frames = ends_badly

-- The whole run: the tree, or the first fault, with the number of tokens before it.

pub data Run : Type 0 where
  read_as : Tree → Run
  bad_at : ℕ → Run
  deep_at : ℕ → Run
  left_out_at : ℕ → List ℕ → Run

abbrev pub run_end : ℕ → Finish → Run
run_end at (finished tree) = read_as tree
run_end at ends_badly = bad_at at
run_end at ends_deep = deep_at at

-- whether the size of a type is deferred from here on
abbrev pub is_deferred : Mode → Bool
is_deferred (deferred_wanted head name) = true
is_deferred _ = false

-- the profile leaves deferred sizes out. The grammar has them
abbrev pub allowed : Bool → Step → Step
allowed strict (goes mode frames) =
    if is_deferred mode then (if strict then is_left_out (codes "deferred-size") else goes mode frames)
    else goes mode frames
allowed strict bad = bad
allowed strict deep = deep
allowed strict (is_left_out text) = is_left_out text

abbrev pub taken : Bool → ℕ → Mode → List Frame → Token → Step
taken strict limit mode frames token = allowed strict (step limit mode frames token)

-- the place of the next token, or of the one that can't be taken
abbrev pub place_after : ℕ → Step → ℕ
place_after at (goes mode frames) = suc at
place_after at _ = at

-- what comes of the tokens from this place on
abbrev pub run_from : Bool → ℕ → ℕ → Step → List Token → Run
run_from strict limit at (goes mode frames) [] = run_end at (finish limit mode frames)
run_from strict limit at (goes mode frames) (token ∷ tokens) =
    let next = taken strict limit mode frames token in run_from strict limit (place_after at next) next tokens
run_from strict limit at bad tokens = bad_at at
run_from strict limit at deep tokens = deep_at at
run_from strict limit at (is_left_out text) tokens = left_out_at at text

abbrev pub run : ℕ → List Token → Run
run limit tokens = run_from true limit 0 (goes wanted []) tokens
