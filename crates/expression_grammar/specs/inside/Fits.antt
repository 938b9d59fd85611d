-- What the machine keeps: operands have the level of their place, and what is unfinished has room.
use Rattle.std.specs.Prelude.{◌≡◌, ℕ, suc, ◌+◌, ◌≤◌, max, true, false, List, [], ◌∷◌}
use Rattle.std.specs.Prelude.{Some, None}
use Rattle.std.specs.Prelude.{length}
use Rattle.mdl_syntax.specs.Trees.{Tree, Argument, arguments_of, trees_of, initializers_of}
use Rattle.mdl_syntax.specs.Heights.{height, arguments_height, trees_height, initializers_height}
use Rattle.mdl_syntax.specs.Levels.{is_unary, binary_level, level}
use Rattle.mdl_syntax.specs.Levelled.{IsName, Levelled, AreLevelled, AreLevelledArguments}
use Rattle.mdl_syntax.specs.Levelled.{AreLevelledInitializers, in_order, are_initializers}
use Rattle.expression_grammar.specs.inside.Machine.{Frame, Mode, Let, Purpose, asked, in_expression, in_type}
use Rattle.expression_grammar.specs.inside.Machine.{in_parentheses, behind_unary, behind_infix, behind_question}
use Rattle.expression_grammar.specs.inside.Machine.{behind_colon, in_index, in_arguments, in_elements, in_let}
use Rattle.expression_grammar.specs.inside.Machine.{in_initializer, in_body}
use Rattle.expression_grammar.specs.inside.Machine.{wanted, complete, part_wanted, part_read, word_read, bracketed}
use Rattle.expression_grammar.specs.inside.Machine.{sized, sized_closed, unsized_closed, first_argument}
use Rattle.expression_grammar.specs.inside.Machine.{argument_wanted, identifier_read, colon_wanted, first_element}
use Rattle.expression_grammar.specs.inside.Machine.{field_wanted, let_begun, head_wanted, type_wanted, type_bracketed}
use Rattle.expression_grammar.specs.inside.Machine.{type_sized, name_wanted, equals_wanted, next_wanted, in_wanted}
use Rattle.expression_grammar.specs.inside.Machine.{deferred_wanted, deferred_read, deferred_closed}

abbrev pub initializers_room : Let → ℕ
initializers_room held = suc (max 1 (initializers_height (initializers_of held.initializers)))

-- the height that the unfinished form has at least
abbrev pub least_height : Frame → ℕ
least_height (in_parentheses at) = 2
least_height (behind_unary op at) = 2
least_height (behind_infix op own left) = suc (height left)
least_height (behind_question test) = suc (height test)
least_height (behind_colon test one) = suc (max (height test) (height one))
least_height (in_index of) = suc (height of)
least_height (in_arguments name arguments with_name label) =
    suc (arguments_height (arguments_of arguments))
least_height (in_elements name size trees) = suc (trees_height (trees_of trees))
least_height (in_let held) = initializers_room held
least_height (in_initializer held head ty name) = initializers_room held
least_height (in_body held) = initializers_room held

-- none is named
abbrev pub ArePlain : List Argument → Type 0
ArePlain [] = Unit {0}
ArePlain (argument ∷ arguments) = (argument.0 ≡ None) × ArePlain arguments

-- without braces there is one initializer, and before it none
abbrev pub MayGrow : Let → Type 0
MayGrow held = held.braces ≡ false → held.initializers ≡ []

-- the frame suits the frames around it
abbrev pub Suits : Frame → List Frame → Type 0
Suits (in_parentheses at) frames = Unit {0}
Suits (behind_unary op at) frames = (is_unary op ≡ true) × (asked frames ≤ 12)
Suits (behind_infix op own left) frames =
    (binary_level op ≡ Some own) × (own ≤ level left) × Levelled left × (asked frames ≤ own)
Suits (behind_question test) frames = (2 ≤ level test) × Levelled test × (asked frames ≤ 1)
Suits (behind_colon test one) frames = (2 ≤ level test) × Levelled test × Levelled one × (asked frames ≤ 1)
Suits (in_index of) frames = (13 ≤ level of) × Levelled of
Suits (in_arguments name arguments with_name label) frames =
    IsName name × AreLevelledArguments (arguments_of arguments)
    × (in_order false (arguments_of arguments) ≡ true) × (with_name ≡ false → ArePlain arguments × (label ≡ None))
Suits (in_elements name size trees) frames = IsName name × AreLevelled (trees_of trees)
Suits (in_let held) frames =
    (asked frames ≡ 0) × AreLevelledInitializers (initializers_of held.initializers)
Suits (in_initializer held head ty name) frames =
    (asked frames ≡ 0) × AreLevelledInitializers (initializers_of held.initializers) × MayGrow held
    × IsName ty.name
Suits (in_body held) frames =
    (asked frames ≡ 0) × AreLevelledInitializers (initializers_of held.initializers)
    × (are_initializers held.braces (initializers_of held.initializers) ≡ true)

abbrev pub AllSuit : ℕ → List Frame → Type 0
AllSuit limit [] = Unit {0}
AllSuit limit (frame ∷ frames) =
    Suits frame frames × (length frames + least_height frame ≤ limit) × AllSuit limit frames

-- an operand may stand here: a plain argument, if this is in a list of arguments, and not straight in a let
abbrev pub MayBePlain : List Frame → Type 0
MayBePlain (in_arguments name arguments with_name None ∷ frames) = with_name ≡ false
MayBePlain (in_let held ∷ frames) = ⊥
MayBePlain frames = Unit {0}

-- an operand may stand in front of each frame
abbrev pub AllPlain : List Frame → Type 0
AllPlain [] = Unit {0}
AllPlain (frame ∷ frames) = MayBePlain frames × AllPlain frames

abbrev pub HasRoom : ℕ → List Frame → ℕ → Type 0
HasRoom limit frames need = length frames + need ≤ limit

-- a let at its front: an initializer may follow
abbrev pub IsInFront : List Frame → Type 0
IsInFront (in_let held ∷ frames) = MayGrow held
IsInFront frames = ⊥

abbrev pub IsInBraces : List Frame → Type 0
IsInBraces (in_let held ∷ frames) =
    (held.braces ≡ true) × (are_initializers true (initializers_of held.initializers) ≡ true)
IsInBraces frames = ⊥

abbrev pub IsFilled : List Frame → Type 0
IsFilled (in_let held ∷ frames) = are_initializers held.braces (initializers_of held.initializers) ≡ true
IsFilled frames = ⊥

abbrev pub IsInArguments : List Frame → Type 0
IsInArguments (in_arguments name arguments with_name None ∷ frames) = Unit {0}
IsInArguments frames = ⊥

abbrev pub IsInElements : List Frame → Type 0
IsInElements (in_elements name size trees ∷ frames) = Unit {0}
IsInElements frames = ⊥

-- a name so far suits where it stands
abbrev pub PurposeSuits : ℕ → Purpose → List Frame → Type 0
PurposeSuits limit in_expression frames = HasRoom limit frames 1 × MayBePlain frames
PurposeSuits limit (in_type head) frames = IsInFront frames

-- a whole operand
abbrev pub OperandSuits : ℕ → Tree → List Frame → ℕ → Type 0
OperandSuits limit tree frames need =
    Levelled tree × (13 ≤ level tree) × HasRoom limit frames need × MayBePlain frames

abbrev pub ModeSuits : ℕ → Mode → List Frame → Type 0
ModeSuits limit wanted frames = MayBePlain frames × HasRoom limit frames 1
ModeSuits limit (complete tree) frames = OperandSuits limit tree frames (height tree)
ModeSuits limit (part_wanted purpose path) frames = PurposeSuits limit purpose frames
ModeSuits limit (part_read purpose path) frames = (path.parts ≡ [] → ⊥) × PurposeSuits limit purpose frames
ModeSuits limit (word_read purpose name) frames = IsName name × PurposeSuits limit purpose frames
ModeSuits limit (bracketed name) frames = IsName name × HasRoom limit frames 1 × MayBePlain frames
ModeSuits limit (sized name value place) frames = IsName name × HasRoom limit frames 1 × MayBePlain frames
ModeSuits limit (sized_closed name value place end) frames =
    IsName name × HasRoom limit frames 1 × MayBePlain frames
ModeSuits limit (unsized_closed name) frames = IsName name × HasRoom limit frames 1 × MayBePlain frames
ModeSuits limit first_argument frames = IsInArguments frames × MayBePlain frames
ModeSuits limit argument_wanted frames = IsInArguments frames × HasRoom limit frames 1
ModeSuits limit (identifier_read ident) frames =
    IsInArguments frames × MayBePlain frames × HasRoom limit frames 1
ModeSuits limit (colon_wanted ident) frames = IsInArguments frames × HasRoom limit frames 1
ModeSuits limit first_element frames = IsInElements frames
ModeSuits limit (field_wanted tree) frames = OperandSuits limit tree frames (suc (height tree))
ModeSuits limit (let_begun at) frames = (asked frames ≡ 0) × HasRoom limit frames 2 × MayBePlain frames
ModeSuits limit head_wanted frames = IsInFront frames
ModeSuits limit (type_wanted head) frames = IsInFront frames
ModeSuits limit (type_bracketed head name) frames = IsName name × IsInFront frames
ModeSuits limit (type_sized head name value) frames = IsName name × IsInFront frames
ModeSuits limit (deferred_wanted head name) frames = IsName name × IsInFront frames
ModeSuits limit (deferred_read head name ident) frames = IsName name × IsInFront frames
ModeSuits limit (deferred_closed head name ident) frames = IsName name × IsInFront frames
ModeSuits limit (name_wanted head ty) frames = IsName ty.name × IsInFront frames
ModeSuits limit (equals_wanted head ty name) frames = IsName ty.name × IsInFront frames
ModeSuits limit next_wanted frames = IsInBraces frames
ModeSuits limit in_wanted frames = IsFilled frames

-- the state suits
pub record Fits (limit : ℕ) (mode : Mode) (frames : List Frame) : Type 0 where
  pub all : AllSuit limit frames
  pub one : ModeSuits limit mode frames
  pub below : AllPlain frames
