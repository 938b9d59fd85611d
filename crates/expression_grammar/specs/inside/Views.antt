-- The reader's state as the machine's.
use Rattle.std.specs.Prelude.{◌≡◌, ⊤, ℕ, Bool, true, false, List, [], ◌∷◌, Result, Ok, Err, map}
use Rattle.mdl_syntax.specs.declared.expressions.Expr.{Expr}
use Rattle.mdl_syntax.specs.declared.declarations.Anno.{Anno}
use Rattle.mdl_syntax.specs.Trees.{Tree, tree_of, argument_of, arguments_of, initializer_of, call, array}
use Rattle.mdl_syntax.specs.Trees.{no_arguments, no_trees}
use Rattle.expression_grammar.specs.declared.frame.Frame as held
use Rattle.expression_grammar.specs.declared.frame.Frame.TheVariants as held_frame
use Rattle.expression_grammar.specs.declared.frame.Held as held_let
use Rattle.expression_grammar.specs.declared.frame.Head as held_head
use Rattle.expression_grammar.specs.declared.mode.Mode as held_modes
use Rattle.expression_grammar.specs.declared.mode.Mode.TheVariants as held_mode
use Rattle.expression_grammar.specs.declared.mode.Path as held_path
use Rattle.expression_grammar.specs.declared.mode.Purpose as held_purposes
use Rattle.expression_grammar.specs.declared.mode.Purpose.TheVariants as held_purpose
use Rattle.expression_grammar.specs.declared.mode.Stop.{Stop}
use Rattle.expression_grammar.specs.declared.mode.Stop.TheVariants as stop
use Rattle.expression_grammar.specs.inside.Machine.{Frame, Mode, Path, Head, Let, Purpose, Step}
use Rattle.expression_grammar.specs.inside.Machine.{in_parentheses, behind_unary, behind_infix, behind_question}
use Rattle.expression_grammar.specs.inside.Machine.{behind_colon, in_index, in_arguments, in_elements, in_let}
use Rattle.expression_grammar.specs.inside.Machine.{in_initializer, in_body, in_expression, in_type}
use Rattle.expression_grammar.specs.inside.Machine.{wanted, complete, part_wanted, part_read, word_read, bracketed}
use Rattle.expression_grammar.specs.inside.Machine.{sized, sized_closed, unsized_closed, first_argument}
use Rattle.expression_grammar.specs.inside.Machine.{argument_wanted, identifier_read, colon_wanted, first_element}
use Rattle.expression_grammar.specs.inside.Machine.{field_wanted, let_begun, head_wanted, type_wanted, type_bracketed}
use Rattle.expression_grammar.specs.inside.Machine.{type_sized, name_wanted, equals_wanted, next_wanted, in_wanted}
use Rattle.expression_grammar.specs.inside.Machine.{deferred_wanted, deferred_read, deferred_closed}
use Rattle.expression_grammar.specs.inside.Machine.{goes, bad, deep, is_left_out, is_tight, from_to}
use Rattle.expression_grammar.specs.inside.Machine.{Finish, finished, ends_badly, ends_deep}

abbrev pub path_of : held_path.Path → Path
path_of path = record { absolute = path.absolute; parts = path.parts.items; span = path.span }

abbrev pub head_of : held_head.Head → Head
head_of head = record { at = head.at; frequency = head.frequency }

abbrev pub let_of : held_let.Held → Let
let_of held = record { at = held.at; braces = held.braces; initializers = map initializer_of held.initializers }

abbrev pub purpose_of : held_purposes.Purpose → Purpose
purpose_of held_purpose.Expression = in_expression
purpose_of (held_purpose.Type head) = in_type (head_of head)

abbrev pub frame_of : held.Frame → Frame
frame_of (held_frame.Parentheses at) = in_parentheses at
frame_of (held_frame.Unary op at) = behind_unary op at
frame_of (held_frame.Infix op level left) = behind_infix op level (tree_of left)
frame_of (held_frame.Question test) = behind_question (tree_of test)
frame_of (held_frame.Colon test one) = behind_colon (tree_of test) (tree_of one)
frame_of (held_frame.Index of) = in_index (tree_of of)
frame_of (held_frame.Arguments name arguments with_name label) =
    in_arguments name (map argument_of arguments) with_name label
frame_of (held_frame.Elements name size elements) = in_elements name size (map tree_of elements)
frame_of (held_frame.Let held) = in_let (let_of held)
frame_of (held_frame.Initializer held head ty name) = in_initializer (let_of held) (head_of head) ty name
frame_of (held_frame.Body held) = in_body (let_of held)

-- the frames, the innermost first, over others
abbrev pub stack_over : List Frame → List held.Frame → List Frame
stack_over below [] = below
stack_over below (frame ∷ frames) = stack_over (frame_of frame ∷ below) frames

unfoldable pub stack_of : List held.Frame → List Frame
stack_of frames = stack_over [] frames

abbrev pub mode_of : held_modes.Mode → Mode
mode_of held_mode.Wanted = wanted
mode_of (held_mode.Complete operand) = complete (tree_of operand)
mode_of (held_mode.PartWanted purpose path) = part_wanted (purpose_of purpose) (path_of path)
mode_of (held_mode.PartRead purpose path) = part_read (purpose_of purpose) (path_of path)
mode_of (held_mode.WordRead purpose name) = word_read (purpose_of purpose) name
mode_of (held_mode.Bracketed name) = bracketed name
mode_of (held_mode.Sized name value at) = sized name value at
mode_of (held_mode.SizedClosed name value at end) = sized_closed name value at end
mode_of (held_mode.UnsizedClosed name) = unsized_closed name
mode_of held_mode.FirstArgument = first_argument
mode_of held_mode.ArgumentWanted = argument_wanted
mode_of (held_mode.IdentifierRead ident) = identifier_read ident
mode_of (held_mode.ColonWanted ident) = colon_wanted ident
mode_of held_mode.FirstElement = first_element
mode_of (held_mode.FieldWanted of) = field_wanted (tree_of of)
mode_of (held_mode.LetBegun at) = let_begun at
mode_of held_mode.HeadWanted = head_wanted
mode_of (held_mode.TypeWanted head) = type_wanted (head_of head)
mode_of (held_mode.TypeBracketed head name) = type_bracketed (head_of head) name
mode_of (held_mode.TypeSized head name value) = type_sized (head_of head) name value
mode_of (held_mode.DeferredWanted head name) = deferred_wanted (head_of head) name
mode_of (held_mode.DeferredRead head name ident) = deferred_read (head_of head) name ident
mode_of (held_mode.DeferredClosed head name ident) = deferred_closed (head_of head) name ident
mode_of (held_mode.NameWanted head ty) = name_wanted (head_of head) ty
mode_of (held_mode.EqualsWanted head ty name) = equals_wanted (head_of head) ty name
mode_of held_mode.NextWanted = next_wanted
mode_of held_mode.InWanted = in_wanted

-- a step gave what the machine's step gives, or there was no memory
abbrev pub Came : Result held_modes.Mode Stop → List held.Frame → Step → Type 0
Came (Ok mode) frames step = step ≡ goes (mode_of mode) (stack_of frames)
Came (Err stop.Bad) frames step = step ≡ bad
Came (Err stop.Deep) frames step = step ≡ deep
Came (Err (stop.LeftOut text)) frames step = step ≡ is_left_out text
Came (Err stop.OutOfMemory) frames step = ⊤

-- whether the innermost frame is tight
abbrev pub tight_top : ℕ → List Frame → Bool
tight_top grip [] = false
tight_top grip (frame ∷ frames) = is_tight grip frame

-- whether this is a list of arguments of which one was named
abbrev pub after_named : List Frame → Bool
after_named (in_arguments name arguments with_name label ∷ frames) = with_name
after_named _ = false

-- a step that isn't bad, where there is room for it or not
abbrev pub UnlessBad : Bool → Result held_modes.Mode Stop → Result held_modes.Mode Stop → Type 0
UnlessBad fits (Err stop.Bad) result = result ≡ Err stop.Bad
UnlessBad fits (Err stop.OutOfMemory) result = result ≡ Err stop.OutOfMemory
UnlessBad true made result = result ≡ made
UnlessBad false made result = result ≡ Err stop.Deep

-- `)` right behind the front of a call, and of an array
abbrev pub closed_call : List Frame → ℕ → Step
closed_call (in_arguments name arguments with_name label ∷ frames) end =
    goes (complete (call name no_arguments (from_to name.span.at end))) frames
closed_call _ end = bad

abbrev pub closed_array : List Frame → ℕ → Step
closed_array (in_elements name size trees ∷ frames) end =
    goes (complete (array name size no_trees (from_to name.span.at end))) frames
closed_array _ end = bad

-- the end gave what the machine's end gives, or there was no memory
abbrev pub Finished : Result Expr Stop → Finish → Type 0
Finished (Ok tree) end = end ≡ finished (tree_of tree)
Finished (Err stop.Bad) end = end ≡ ends_badly
Finished (Err stop.Deep) end = end ≡ ends_deep
Finished (Err (stop.LeftOut text)) end = ⊥
Finished (Err stop.OutOfMemory) end = ⊤

-- the call that a tree is, or else the tree
abbrev pub IsNoCall : Tree → Type 0
IsNoCall (call _ _ _) = ⊥
IsNoCall tree = ⊤

abbrev pub IsCall : Tree → Result Anno Expr → Type 0
IsCall tree (Ok one) = tree ≡ call one.name (arguments_of (map argument_of one.args)) one.span
IsCall tree (Err other) = (tree_of other ≡ tree) × IsNoCall tree
