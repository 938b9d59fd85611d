-- What the limit of heights does to the token behind a bracket in an expression of a module.
use Rattle.std.proofs.Common.{◌≡◌, ◌∙◌, sym, ap, refl, arith, ℕ, suc, ◌+◌, max, Bool, true, false}
use Rattle.std.proofs.Common.{List, [], ◌∷◌, if◌then◌else◌, length}
use Rattle.std.specs.Prelude.{nat_le}
use Rattle.std.proofs.lemmas.Bool.{cond-true, cond-false, false≢true, le-leb, leb-true, leb-false}
use Rattle.std.proofs.lemmas.Bool.{lt-leb}
use Rattle.mdl_syntax.specs.declared.names.Span.{Span}
use Rattle.mdl_syntax.specs.declared.names.Ident.{Ident}
use Rattle.mdl_syntax.specs.declared.types.TypeTree.{TypeTree}
use Rattle.mdl_syntax.specs.Trees.{Tree, literal}
use Rattle.mdl_syntax.specs.Heights.{height}
use Rattle.expression_grammar.specs.inside.Machine.{Sort, Head, Mode, Frame, Step, goes, bad, deep}
use Rattle.expression_grammar.specs.inside.Machine.{is_left_out, mode_step, identifier, integer}
use Rattle.expression_grammar.specs.inside.Machine.{other_literal, type_word, unary_operator}
use Rattle.expression_grammar.specs.inside.Machine.{either_operator, double_colon, opening}
use Rattle.expression_grammar.specs.inside.Machine.{opening_bracket, let_word, wanted, complete}
use Rattle.expression_grammar.specs.inside.Machine.{part_wanted, part_read, word_read, bracketed, sized}
use Rattle.expression_grammar.specs.inside.Machine.{sized_closed, unsized_closed, first_argument}
use Rattle.expression_grammar.specs.inside.Machine.{argument_wanted, identifier_read, colon_wanted}
use Rattle.expression_grammar.specs.inside.Machine.{first_element, field_wanted, let_begun, head_wanted}
use Rattle.expression_grammar.specs.inside.Machine.{type_wanted, type_bracketed, type_sized}
use Rattle.expression_grammar.specs.inside.Machine.{deferred_wanted, deferred_read, deferred_closed}
use Rattle.expression_grammar.specs.inside.Machine.{name_wanted, equals_wanted, next_wanted, in_wanted}
use Rattle.expression_grammar.specs.inside.Machine.{in_expression, in_type, in_index, in_arguments}
use Rattle.expression_grammar.specs.inside.Machine.{in_elements, in_let, in_parentheses, behind_unary}
use Rattle.expression_grammar.specs.inside.Machine.{wanted_step, argument_step, first_argument_step}
use Rattle.expression_grammar.specs.inside.Machine.{first_element_step, equals_step, in_step, unless_bad}
use Rattle.expression_grammar.specs.inside.Machine.{path_name, name_tree, integer_tree, indexed_tree}
use Rattle.expression_grammar.specs.inside.Machine.{first_part, word_name, absolute_path}
use Rattle.expression_grammar.specs.inside.Machine.{within as room_within}
use Rattle.module_grammar.specs.inside.ModuleStates.{Begun, Site, Outcome, on, wrong, too_deep}
use Rattle.module_grammar.specs.inside.ModuleMachine.{expression_outcome}
use Rattle.module_grammar.specs.inside.ModuleStates.{within, expression}
use Rattle.module_grammar.specs.inside.ModuleMachine.{unless_wrong, index_outcome}
use Rattle.expression_grammar.proofs.TakenLaws.{either_way}
use Rattle.expression_grammar.proofs.RoomLaws.{stays, mode_limited}
use Rattle.module_grammar.proofs.ModuleLimitedLaws.{Roomed, settled, above, roomed_same, over}
use Rattle.module_grammar.proofs.ModuleLimitedLaws.{expression_roomed}

-- two needs are one, the greater
both_needs : (A : Type 0) (need low limit : ℕ) (one other : A) →
    (if nat_le need limit then (if nat_le low limit then one else other) else other)
    ≡ (if nat_le (max need low) limit then one else other)
both_needs A need low limit one other = by (nat_le need limit) (nat_le low limit) refl refl
  where
    by : (first second : Bool) → nat_le need limit ≡ first → nat_le low limit ≡ second →
        (if first then (if second then one else other) else other)
        ≡ (if nat_le (max need low) limit then one else other)
    by true true a b =
        sym (cond-true (nat_le (max need low) limit) one other (le-leb (max need low) limit
        (omega (arith, leb-true need limit a, leb-true low limit b))))
    by true false a b =
        sym (cond-false (nat_le (max need low) limit) one other (lt-leb (max need low) limit
        (omega (arith, leb-false low limit b))))
    by false second a b =
        sym (cond-false (nat_le (max need low) limit) one other (lt-leb (max need low) limit
        (omega (arith, leb-false need limit a))))

unless_over : (limit : ℕ) (frames : List Frame) (need : ℕ) (mode : Mode) (below : List Frame)
    (test : Bool) → unless_bad limit frames need (if test then goes mode below else deep)
    ≡ (if test then room_within limit frames need (goes mode below) else deep)
unless_over limit frames need mode below true = refl
unless_over limit frames need mode below false =
    either_way (nat_le (length frames + need) limit) deep

-- a step by the limit at `[`: always the same, or an index, and deep below a need
pub data Bracketed (of : ℕ → Step) : Type 0 where
  still : (what : Step) → stays what ≡ true → ((limit : ℕ) → of limit ≡ what) → Bracketed of
  indexes : (need : ℕ) (tree : Tree) (frames : List Frame) → ((limit : ℕ) → of limit
      ≡ (if nat_le need limit then goes wanted (in_index tree ∷ frames) else deep)) → Bracketed of

argument_bracket : (limit : ℕ) (frames : List Frame) (bracket : Span) →
    argument_step limit frames opening_bracket bracket ≡ bad
argument_bracket limit (in_arguments name arguments true label ∷ frames) bracket = refl
argument_bracket limit (in_arguments name arguments false label ∷ frames) bracket = refl
argument_bracket limit _ bracket = refl

first_argument_bracket : (limit : ℕ) (frames : List Frame) (bracket : Span) →
    first_argument_step limit frames opening_bracket bracket ≡ bad
first_argument_bracket limit (in_arguments name arguments with_name label ∷ frames) bracket =
    argument_bracket limit (in_arguments name arguments with_name label ∷ frames) bracket
first_argument_bracket limit _ bracket = refl

first_element_bracket : (limit : ℕ) (frames : List Frame) (bracket : Span) →
    first_element_step limit frames opening_bracket bracket ≡ bad
first_element_bracket limit (in_elements name size trees ∷ frames) bracket = refl
first_element_bracket limit _ bracket = refl

equals_bracket : (head : Head) (ty : TypeTree) (name : Ident) (frames : List Frame) →
    equals_step head ty name frames opening_bracket ≡ bad
equals_bracket head ty name (in_let held ∷ frames) = refl
equals_bracket head ty name _ = refl

in_bracket : (frames : List Frame) → in_step frames opening_bracket ≡ bad
in_bracket (in_let held ∷ frames) = refl
in_bracket _ = refl

sized_closed_bracket : (tree : Tree) (frames : List Frame) →
    Bracketed (λ limit. unless_bad limit frames 2 (if nat_le (length frames + suc (height tree))
    limit then goes wanted (in_index tree ∷ frames) else deep))
sized_closed_bracket tree frames =
    let need = length frames + suc (height tree) in let own = length frames + 2 in
    indexes (max need own) tree frames
    (λ limit. unless_over limit frames 2 wanted (in_index tree ∷ frames) (nat_le need limit)
    ∙ both_needs Step need own limit (goes wanted (in_index tree ∷ frames)) deep)

pub bracket_limited : (mode : Mode) (frames : List Frame) (bracket : Span) →
    Bracketed (λ limit. mode_step limit mode frames opening_bracket bracket)
bracket_limited wanted frames bracket = still bad refl (λ limit. refl)
bracket_limited (complete tree) frames bracket =
    indexes (length frames + suc (height tree)) tree frames (λ limit. refl)
bracket_limited (part_wanted purpose path) frames bracket = still bad refl (λ limit. refl)
bracket_limited (part_read in_expression path) frames bracket =
    still (goes (bracketed (path_name path)) frames) refl (λ limit. refl)
bracket_limited (part_read (in_type head) path) frames bracket =
    still (goes (type_bracketed head (path_name path)) frames) refl (λ limit. refl)
bracket_limited (word_read in_expression name) frames bracket =
    still (goes (bracketed name) frames) refl (λ limit. refl)
bracket_limited (word_read (in_type head) name) frames bracket =
    still (goes (type_bracketed head name) frames) refl (λ limit. refl)
bracket_limited (bracketed name) frames bracket = still bad refl (λ limit. refl)
bracket_limited (sized name value at) frames bracket =
    indexes (length (in_index (name_tree name) ∷ frames) + suc (height (integer_tree value at)))
    (integer_tree value at) (in_index (name_tree name) ∷ frames) (λ limit. refl)
bracket_limited (sized_closed name value at end) frames bracket =
    sized_closed_bracket (indexed_tree name value at end) frames
bracket_limited (unsized_closed name) frames bracket = still bad refl (λ limit. refl)
bracket_limited first_argument frames bracket =
    still bad refl (λ limit. first_argument_bracket limit frames bracket)
bracket_limited argument_wanted frames bracket =
    still bad refl (λ limit. argument_bracket limit frames bracket)
bracket_limited (identifier_read ident) frames bracket =
    still (goes (bracketed (path_name (first_part ident.text ident.span))) frames) refl
    (λ limit. refl)
bracket_limited (colon_wanted ident) frames bracket = still bad refl (λ limit. refl)
bracket_limited first_element frames bracket =
    still bad refl (λ limit. first_element_bracket limit frames bracket)
bracket_limited (field_wanted tree) frames bracket = still bad refl (λ limit. refl)
bracket_limited (let_begun at) frames bracket = still bad refl (λ limit. refl)
bracket_limited head_wanted frames bracket = still bad refl (λ limit. refl)
bracket_limited (type_wanted head) frames bracket = still bad refl (λ limit. refl)
bracket_limited (type_bracketed head name) frames bracket = still bad refl (λ limit. refl)
bracket_limited (type_sized head name value) frames bracket = still bad refl (λ limit. refl)
bracket_limited (deferred_wanted head name) frames bracket = still bad refl (λ limit. refl)
bracket_limited (deferred_read head name ident) frames bracket = still bad refl (λ limit. refl)
bracket_limited (deferred_closed head name ident) frames bracket = still bad refl (λ limit. refl)
bracket_limited (name_wanted head ty) frames bracket = still bad refl (λ limit. refl)
bracket_limited (equals_wanted head ty name) frames bracket =
    still bad refl (λ limit. equals_bracket head ty name frames)
bracket_limited next_wanted frames bracket = still bad refl (λ limit. refl)
bracket_limited in_wanted frames bracket = still bad refl (λ limit. in_bracket frames)

-- whether a token begins an operand, in an index as alone
data Operand (tree : Tree) (frames : List Frame) (sort : Sort) (place : Span) : Type 0 where
  no_operand : ((limit : ℕ) → wanted_step limit (in_index tree ∷ frames) sort place ≡ bad) →
      ((limit : ℕ) → wanted_step limit [] sort place ≡ bad) → Operand tree frames sort place
  an_operand : (need : ℕ) (mode : Mode) (below : List Frame) →
      ((limit : ℕ) → wanted_step limit (in_index tree ∷ frames) sort place
      ≡ (if nat_le need limit then goes mode below else deep)) →
      (low : ℕ) (lone : Mode) (under : List Frame) →
      ((limit : ℕ) → wanted_step limit [] sort place
      ≡ (if nat_le low limit then goes lone under else deep)) → Operand tree frames sort place

-- a leaf, and what begins a higher form
leaf : (tree : Tree) (frames : List Frame) (sort : Sort) (place : Span) (mode : Mode) →
    ((limit : ℕ) (below : List Frame) → wanted_step limit below sort place
    ≡ room_within limit below 1 (goes mode below)) → Operand tree frames sort place
leaf tree frames sort place mode is =
    let below = in_index tree ∷ frames in
    an_operand (length below + 1) mode below (λ limit. is limit below) 1 mode []
    (λ limit. is limit [])

higher : (tree : Tree) (frames : List Frame) (sort : Sort) (place : Span) (frame : Frame) →
    ((limit : ℕ) (below : List Frame) → wanted_step limit below sort place
    ≡ room_within limit below 2 (goes wanted (frame ∷ below))) → Operand tree frames sort place
higher tree frames sort place frame is =
    let below = in_index tree ∷ frames in
    an_operand (length below + 2) wanted (frame ∷ below) (λ limit. is limit below) 2 wanted
    (frame ∷ []) (λ limit. is limit [])

operand_of : (tree : Tree) (frames : List Frame) (sort : Sort) (place : Span) →
    Operand tree frames sort place
operand_of tree frames (identifier text) place =
    leaf tree frames (identifier text) place (part_read in_expression (first_part text place))
    (λ limit below. refl)
operand_of tree frames (integer value) place =
    leaf tree frames (integer value) place (complete (integer_tree value place))
    (λ limit below. refl)
operand_of tree frames (other_literal lit) place =
    leaf tree frames (other_literal lit) place (complete (literal lit place)) (λ limit below. refl)
operand_of tree frames (type_word number) place =
    leaf tree frames (type_word number) place (word_read in_expression (word_name number place))
    (λ limit below. refl)
operand_of tree frames double_colon place =
    leaf tree frames double_colon place (part_wanted in_expression (absolute_path place))
    (λ limit below. refl)
operand_of tree frames opening place =
    higher tree frames opening place (in_parentheses place.at) (λ limit below. refl)
operand_of tree frames (unary_operator op) place =
    higher tree frames (unary_operator op) place (behind_unary op place.at) (λ limit below. refl)
operand_of tree frames (either_operator op level) place =
    higher tree frames (either_operator op level) place (behind_unary op place.at)
    (λ limit below. refl)
operand_of tree frames let_word place =
    let below = in_index tree ∷ frames in
    an_operand (length below + 2) (let_begun place.at) below (λ limit. refl) 2 (let_begun place.at)
    []
    (λ limit. refl)
operand_of tree frames sort place = no_operand (λ limit. refl) (λ limit. refl)

never_wrong : (begun : Begun) (site : Site) (mode : Mode) (frames : List Frame) (test : Bool) →
    unless_wrong (expression_outcome begun site (if test then goes mode frames else deep))
    ≡ too_deep
never_wrong begun site mode frames true = refl
never_wrong begun site mode frames false = refl

-- what follows `[` in an index
abbrev Indexed : Begun → Site → Sort → Span → ℕ → Bool → Tree → List Frame → Outcome
Indexed begun site sort place limit test tree frames =
    index_outcome limit begun site sort place (if test then goes wanted (in_index tree ∷ frames)
    else deep)

index_none : (begun : Begun) (site : Site) (sort : Sort) (place : Span) (tree : Tree)
    (frames : List Frame) → ((limit : ℕ) → wanted_step limit (in_index tree ∷ frames) sort place
    ≡ bad) → ((limit : ℕ) → wanted_step limit [] sort place ≡ bad) → (limit : ℕ) (test : Bool) →
    Indexed begun site sort place limit test tree frames ≡ wrong
index_none begun site sort place tree frames inner outer limit true =
    ap (expression_outcome begun site) (inner limit)
index_none begun site sort place tree frames inner outer limit false =
    ap (λ s. unless_wrong (expression_outcome begun site s)) (outer limit)

index_some : (begun : Begun) (site : Site) (sort : Sort) (place : Span) (tree : Tree)
    (frames : List Frame) (own low : ℕ) (mode lone : Mode) (below under : List Frame) →
    ((limit : ℕ) → wanted_step limit (in_index tree ∷ frames) sort place
    ≡ (if nat_le own limit then goes mode below else deep)) →
    ((limit : ℕ) → wanted_step limit [] sort place ≡ (if nat_le low limit then goes lone under else
    deep)) → (limit : ℕ) (test : Bool) → Indexed begun site sort place limit test tree frames
    ≡ (if test then (if nat_le own limit then on (within begun (expression site mode below)) else
    too_deep) else too_deep)
index_some begun site sort place tree frames own low mode lone below under inner outer limit true =
    ap (expression_outcome begun site) (inner limit)
    ∙ over (expression_outcome begun site) mode below (within begun (expression site mode below))
    refl refl (nat_le own limit)
index_some begun site sort place tree frames own low mode lone below under inner outer limit false =
    ap (λ s. unless_wrong (expression_outcome begun site s)) (outer limit)
    ∙ never_wrong begun site lone under (nat_le low limit)

index_operand : (begun : Begun) (site : Site) (sort : Sort) (place : Span) (of : ℕ → Step)
    (need : ℕ) (tree : Tree) (frames : List Frame) →
    ((limit : ℕ) → of limit ≡ (if nat_le need limit then goes wanted (in_index tree ∷ frames) else
    deep)) → Operand tree frames sort place → Roomed true
    (λ limit. index_outcome limit begun site sort place (of limit))
index_operand begun site sort place of need tree frames same (no_operand inner outer) =
    settled wrong refl (λ limit. ap (index_outcome limit begun site sort place) (same limit)
    ∙ index_none begun site sort place tree frames inner outer limit (nat_le need limit))
index_operand begun site sort place of need tree frames same
    (an_operand own mode below inner low lone under outer) =
    let after = within begun (expression site mode below) in
    above (max need own) begun (expression site mode below)
    (λ limit. ap (index_outcome limit begun site sort place) (same limit)
    ∙ (index_some begun site sort place tree frames own low mode lone below under inner outer limit
    (nat_le need limit) ∙ both_needs Outcome need own limit (on after) too_deep))

pub index_roomed : (begun : Begun) (site : Site) (sort : Sort) (place : Span) (of : ℕ → Step) →
    Bracketed of → Roomed true (λ limit. index_outcome limit begun site sort place (of limit))
index_roomed begun site sort place of (still (goes mode below) ok same) =
    roomed_same (λ limit. expression_outcome begun site (mode_step limit mode below sort place))
    (λ limit. index_outcome limit begun site sort place (of limit))
    (λ limit. ap (index_outcome limit begun site sort place) (same limit))
    (expression_roomed begun site (λ limit. mode_step limit mode below sort place)
    (mode_limited mode below sort place))
index_roomed begun site sort place of (still bad ok same) =
    settled wrong refl (λ limit. ap (index_outcome limit begun site sort place) (same limit))
index_roomed begun site sort place of (still deep ok same) = absurd (false≢true ok)
index_roomed begun site sort place of (still (is_left_out text) ok same) = absurd (false≢true ok)
index_roomed begun site sort place of (indexes need tree frames same) =
    index_operand begun site sort place of need tree frames same (operand_of tree frames sort place)
