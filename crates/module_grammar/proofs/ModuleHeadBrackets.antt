-- Behind `[`, a `<` begins the size of a type and nothing else.
use Rattle.std.proofs.Common.{◌≡◌, ◌⊎◌, inl, inr, sym, subst, refl, ℕ, suc, Bool, true, false, List}
use Rattle.std.proofs.Common.{[], ◌∷◌, Option, Some, None, codes, if◌then◌else◌}
use Rattle.std.proofs.lemmas.Bool.{false≢true}
use Rattle.mdl_lexer.specs.Kinds.{mark_word}
use Rattle.mdl_lexer.specs.declared.token.Token.{Token}
use Rattle.mdl_syntax.specs.declared.names.Span.{Span}
use Rattle.mdl_syntax.specs.declared.names.Name.{Name}
use Rattle.mdl_syntax.specs.declared.types.TypeTree.{TypeTree}
use Rattle.mdl_syntax.specs.Levels.{mark_number}
use Rattle.mdl_syntax.specs.Trees.{Tree, call}
use Rattle.expression_grammar.specs.inside.Machine.{Sort, Mode, Frame, Step, Finish, Head, mode_step}
use Rattle.expression_grammar.specs.inside.Machine.{finish, goes, bad, deep, is_left_out, finished}
use Rattle.expression_grammar.specs.inside.Machine.{ends_badly, ends_deep, complete, wanted}
use Rattle.expression_grammar.specs.inside.Machine.{binary_operator, opening_bracket, from_to, is_deferred}
use Rattle.expression_grammar.specs.inside.Machine.{in_type, part_wanted, part_read, word_read}
use Rattle.expression_grammar.specs.inside.Machine.{type_wanted, type_bracketed, type_sized}
use Rattle.expression_grammar.specs.inside.Machine.{deferred_wanted, deferred_read, deferred_closed}
use Rattle.expression_grammar.specs.inside.Machine.{name_wanted, equals_wanted}
use Rattle.module_grammar.specs.inside.ModuleStates.{Begun, Named, Site, State, Outcome, Fronting, on}
use Rattle.module_grammar.specs.inside.ModuleStates.{wrong, within, of_function, of_annotation}
use Rattle.module_grammar.specs.inside.ModuleStates.{of_declaration, of_parameter, of_field}
use Rattle.module_grammar.specs.inside.ModuleStates.{in_function_body, in_default, in_field_default}
use Rattle.module_grammar.specs.inside.ModuleStates.{in_annotation, in_base, fronting, expression}
use Rattle.module_grammar.specs.inside.ModuleMachine.{state_step, front_outcome, call_step}
use Rattle.module_grammar.specs.inside.ModuleStates.{opened}
use Rattle.module_grammar.specs.inside.ModuleMachine.{call_outcome, whole_call, call_goes, may_name}
use Rattle.module_grammar.specs.inside.ModuleMachine.{expression_step, value_step_of}
use Rattle.module_grammar.specs.inside.ModuleMachine.{expression_outcome, is_call_site, closes}
use Rattle.module_grammar.specs.inside.ModuleMachine.{by_finish, index_outcome, annotations_behind}
use Rattle.module_grammar.specs.inside.ModuleMachine.{unless_wrong}
use Rattle.module_grammar.specs.inside.ModuleHolds.{HeadIn}
use Rattle.expression_grammar.proofs.DeferredLaws.{behind_bracket}

-- `<`
abbrev pub less_sort : Sort
less_sort = binary_operator (mark_number (codes "<")) 8

abbrev pub IsThere : Option ℕ → Type 0
IsThere (Some at) = Unit {0}
IsThere None = ⊥

-- a deferred size begins with the last token. In the head of a function a first one is known
abbrev pub IsSizeBegun : State → Type 0
IsSizeBegun (within begun (fronting (of_parameter (of_function fronted) parameters) mode)) =
    (is_deferred mode ≡ true) × IsThere fronted.deferred
IsSizeBegun (within begun (fronting of mode)) = is_deferred mode ≡ true
IsSizeBegun (within begun (expression site mode frames)) = is_deferred mode ≡ true
IsSizeBegun state = ⊥

abbrev pub LessOutcome : Outcome → Type 0
LessOutcome (on after) = IsSizeBegun after
LessOutcome _ = Unit {0}

abbrev pub BracketOutcome : ℕ → Outcome → Type 0
BracketOutcome limit (on state) =
    (number from to : ℕ) → LessOutcome (state_step limit number state less_sort (from_to from to))
BracketOutcome limit _ = Unit {0}

if_less : (test : Bool) (one other : Outcome) → LessOutcome one → LessOutcome other →
    LessOutcome (if test then one else other)
if_less true one other holds others = holds
if_less false one other holds others = others

if_bracket : (limit : ℕ) (test : Bool) (one other : Outcome) → BracketOutcome limit one →
    BracketOutcome limit other → BracketOutcome limit (if test then one else other)
if_bracket limit true one other holds others = holds
if_bracket limit false one other holds others = others

-- Within expressions.

-- in this mode `<` is bad or begins the size of a type
abbrev LessMade : ℕ → Mode → List Frame → Type 0
LessMade limit mode frames =
    (from to : ℕ) → (mode_step limit mode frames less_sort (from_to from to) ≡ bad)
    ⊎ ((head : Head) × (name : Name) × (mode_step limit mode frames less_sort (from_to from to)
    ≡ goes (deferred_wanted head name) frames))

mark_at : List ℕ → ℕ → ℕ → Token
mark_at text from to = record { kind = mark_word text; at = from; end = to }

less_made : (limit : ℕ) (mode : Mode) (frames : List Frame) (from to : ℕ) (later : Mode)
    (below : List Frame) →
    mode_step limit mode frames opening_bracket (from_to from to) ≡ goes later below → LessMade
    limit later below
unfolding mark_at
less_made limit mode frames from to later below is start end =
    behind_bracket limit mode frames (mark_at (codes "[") from to) later below
    (mark_at (codes "<") start end)
    (record { is = refl }) is (record { is = refl })

call_less : (limit : ℕ) (begun : Begun) (site : Site) (mode : Mode) (frames : List Frame)
    (from to : ℕ) →
    LessMade (suc limit) mode frames →
    LessOutcome (call_outcome begun site (mode_step (suc limit) mode frames less_sort
    (from_to from to)))
call_less limit begun site mode frames from to made = by (made from to)
  where
    by : (mode_step (suc limit) mode frames less_sort (from_to from to) ≡ bad) ⊎
        ((head : Head) × (name : Name)
        × (mode_step (suc limit) mode frames less_sort (from_to from to)
        ≡ goes (deferred_wanted head name) frames)) →
        LessOutcome (call_outcome begun site (mode_step (suc limit) mode frames less_sort
        (from_to from to)))
    by (inl is) = subst (λ s. LessOutcome (call_outcome begun site s)) (sym is) tt
    by (inr (head, name, is)) = subst (λ s. LessOutcome (call_outcome begun site s)) (sym is) refl

call_step_less : (limit : ℕ) (begun : Begun) (site : Site) (mode : Mode) (frames : List Frame)
    (from to : ℕ) →
    LessMade (suc limit) mode frames →
    LessOutcome (call_step limit begun site mode frames less_sort (from_to from to))
call_step_less limit begun site mode [] from to made =
    if_less (may_name mode less_sort)
    (call_outcome begun site (mode_step (suc limit) mode [] less_sort (from_to from to))) wrong
    (call_less limit begun site mode [] from to made) tt
call_step_less limit begun site mode (frame ∷ frames) from to made =
    call_less limit begun site mode (frame ∷ frames) from to made

value_less : (limit : ℕ) (begun : Begun) (site : Site) (mode : Mode) (frames : List Frame)
    (from to : ℕ) →
    LessMade limit mode frames →
    LessOutcome (expression_outcome begun site (mode_step limit mode frames less_sort
    (from_to from to)))
value_less limit begun site mode frames from to made = by (made from to)
  where
    by : (mode_step limit mode frames less_sort (from_to from to) ≡ bad) ⊎
        ((head : Head) × (name : Name)
        × (mode_step limit mode frames less_sort (from_to from to) ≡ goes
        (deferred_wanted head name) frames)) →
        LessOutcome (expression_outcome begun site (mode_step limit mode frames less_sort
        (from_to from to)))
    by (inl is) = subst (λ s. LessOutcome (expression_outcome begun site s)) (sym is) tt
    by (inr (head, name, is)) = subst (λ s. LessOutcome (expression_outcome begun site s)) (sym is)
        refl

-- a site of a call, and another one
in_call_less : (limit : ℕ) (begun : Begun) (site : Site) (mode : Mode) (frames : List Frame)
    (from to : ℕ) →
    is_call_site site ≡ true → LessMade (suc limit) mode frames →
    LessOutcome (expression_step limit begun site mode frames less_sort (from_to from to))
in_call_less limit begun (in_annotation holder annotations) mode frames from to is made =
    call_step_less limit begun (in_annotation holder annotations) mode frames from to made
in_call_less limit begun (in_base fronted annotations) mode frames from to is made =
    call_step_less limit begun (in_base fronted annotations) mode frames from to made
in_call_less limit begun site mode frames from to is made = absurd (false≢true is)

in_value_less : (limit : ℕ) (begun : Begun) (site : Site) (mode : Mode) (frames : List Frame)
    (from to : ℕ) →
    is_call_site site ≡ false → LessMade limit mode frames →
    LessOutcome (expression_step limit begun site mode frames less_sort (from_to from to))
in_value_less limit begun (in_function_body fronted parameters frequency annotations) mode frames
    from to is made =
    value_less limit begun (in_function_body fronted parameters frequency annotations) mode frames
    from to made
in_value_less limit begun (in_default owner parameters front) mode frames from to is made =
    value_less limit begun (in_default owner parameters front) mode frames from to made
in_value_less limit begun (in_field_default held front) mode frames from to is made =
    value_less limit begun (in_field_default held front) mode frames from to made
in_value_less limit begun site mode frames from to is made = absurd (false≢true (sym is))

whole_less : (limit : ℕ) (begun : Begun) (site : Site) (tree : Tree) → is_call_site site ≡ true →
    BracketOutcome limit (on (within begun (whole_call begun site tree)))
whole_less limit begun (in_annotation holder annotations) (call _ _ _) is = λ number from to. tt
whole_less limit begun (in_annotation holder annotations) tree is = λ number from to. tt
whole_less limit begun (in_base fronted annotations) (call _ _ _) is = λ number from to. tt
whole_less limit begun (in_base fronted annotations) tree is = λ number from to. tt
whole_less limit begun site tree is = absurd (false≢true is)

call_goes_less : (limit : ℕ) (begun : Begun) (site : Site) (mode : Mode) (frames : List Frame) →
    is_call_site site ≡ true → LessMade (suc limit) mode frames →
    BracketOutcome limit (on (call_goes begun site mode frames))
call_goes_less limit begun site (complete tree) [] is made = whole_less limit begun site tree is
call_goes_less limit begun site (complete tree) (frame ∷ frames) is made =
    λ number from to. in_call_less limit begun site (complete tree) (frame ∷ frames) from to is made
call_goes_less limit begun site mode [] is made =
    λ number from to. in_call_less limit begun site mode [] from to is made
call_goes_less limit begun site mode (frame ∷ frames) is made =
    λ number from to. in_call_less limit begun site mode (frame ∷ frames) from to is made

call_bracket : (limit : ℕ) (begun : Begun) (site : Site) (mode : Mode) (frames : List Frame)
    (from to : ℕ) →
    is_call_site site ≡ true → BracketOutcome limit
    (call_outcome begun site (mode_step (suc limit) mode frames opening_bracket (from_to from to)))
call_bracket limit begun site mode frames from to is =
    by (mode_step (suc limit) mode frames opening_bracket (from_to from to)) refl
  where
    by : (made : Step) → mode_step (suc limit) mode frames opening_bracket (from_to from to) ≡ made
        →
        BracketOutcome limit (call_outcome begun site made)
    by (goes later below) went =
        call_goes_less limit begun site later below is
        (less_made (suc limit) mode frames from to later below went)
    by bad went = tt
    by deep went = tt
    by (is_left_out text) went = tt

pub call_step_bracket : (limit : ℕ) (begun : Begun) (site : Site) (mode : Mode)
    (frames : List Frame)
    (from to : ℕ) → is_call_site site ≡ true →
    BracketOutcome limit (call_step limit begun site mode frames opening_bracket (from_to from to))
call_step_bracket limit begun site mode [] from to is =
    if_bracket limit (may_name mode opening_bracket)
    (call_outcome begun site (mode_step (suc limit) mode [] opening_bracket (from_to from to)))
    wrong
    (call_bracket limit begun site mode [] from to is) tt
call_step_bracket limit begun site mode (frame ∷ frames) from to is =
    call_bracket limit begun site mode (frame ∷ frames) from to is

value_bracket : (limit : ℕ) (begun : Begun) (site : Site) (mode : Mode) (frames : List Frame)
    (from to : ℕ) →
    is_call_site site ≡ false → BracketOutcome limit
    (expression_outcome begun site (mode_step limit mode frames opening_bracket (from_to from to)))
value_bracket limit begun site mode frames from to is =
    by (mode_step limit mode frames opening_bracket (from_to from to)) refl
  where
    by : (made : Step) → mode_step limit mode frames opening_bracket (from_to from to) ≡ made →
        BracketOutcome limit (expression_outcome begun site made)
    by (goes later below) went =
        λ number start end. in_value_less limit begun site later below start end is
        (less_made limit mode frames from to later below went)
    by bad went = tt
    by deep went = tt
    by (is_left_out text) went = tt

unless_less : (made : Outcome) → LessOutcome (unless_wrong made)
unless_less wrong = tt
unless_less made = tt

-- `<` behind `[` behind a whole expression
opened_less : (limit : ℕ) (begun : Begun) (site : Site) (mode : Mode) (frames : List Frame)
    (from to : ℕ) →
    BracketOutcome limit (on (within begun (opened site mode frames (from_to from to))))
opened_less limit begun site mode frames from to number start end =
    by (mode_step limit mode frames opening_bracket (from_to from to)) refl
  where
    by : (made : Step) → mode_step limit mode frames opening_bracket (from_to from to) ≡ made →
        LessOutcome (index_outcome limit begun site less_sort (from_to start end) made)
    by (goes later below) went =
        value_less limit begun site later below start end
        (less_made limit mode frames from to later below went)
    by bad went = tt
    by deep went =
        unless_less (expression_outcome begun site (mode_step limit wanted [] less_sort
        (from_to start end)))
    by (is_left_out text) went = tt

value_step_bracket : (limit : ℕ) (begun : Begun) (site : Site) (mode : Mode) (frames : List Frame)
    (from to : ℕ) → is_call_site site ≡ false →
    BracketOutcome limit (value_step_of limit begun site mode frames opening_bracket
    (from_to from to))
value_step_bracket limit begun site mode frames from to is =
    if_bracket limit (closes site opening_bracket)
    (by_finish limit begun site mode frames opening_bracket (from_to from to)
    (finish limit mode frames))
    (expression_outcome begun site (mode_step limit mode frames opening_bracket (from_to from to)))
    (by (finish limit mode frames)) (value_bracket limit begun site mode frames from to is)
  where
    by : (end : Finish) → BracketOutcome limit
        (by_finish limit begun site mode frames opening_bracket (from_to from to) end)
    by (finished tree) = opened_less limit begun site mode frames from to
    by ends_badly = value_bracket limit begun site mode frames from to is
    by ends_deep = tt

pub expression_bracket : (limit : ℕ) (begun : Begun) (site : Site) (mode : Mode)
    (frames : List Frame)
    (from to : ℕ) →
    BracketOutcome limit (expression_step limit begun site mode frames opening_bracket
    (from_to from to))
expression_bracket limit begun (in_function_body fronted parameters frequency annotations) mode
    frames from to =
    value_step_bracket limit begun (in_function_body fronted parameters frequency annotations) mode
    frames from to
    refl
expression_bracket limit begun (in_default owner parameters front) mode frames from to =
    value_step_bracket limit begun (in_default owner parameters front) mode frames from to refl
expression_bracket limit begun (in_field_default held front) mode frames from to =
    value_step_bracket limit begun (in_field_default held front) mode frames from to refl
expression_bracket limit begun (in_annotation holder annotations) mode frames from to =
    call_step_bracket limit begun (in_annotation holder annotations) mode frames from to refl
expression_bracket limit begun (in_base fronted annotations) mode frames from to =
    call_step_bracket limit begun (in_base fronted annotations) mode frames from to refl

pub behind_less : (limit : ℕ) (begun : Begun) (site : Site) (end : Finish) →
    BracketOutcome limit (annotations_behind begun site end)
behind_less limit begun site (finished tree) = λ number from to. tt
behind_less limit begun site ends_badly = tt
behind_less limit begun site ends_deep = tt

-- Types.

bracketed_less : (limit number : ℕ) (begun : Begun) (of : Fronting) (head : Head) (name : Name) →
    LessOutcome (front_outcome number begun of (goes (deferred_wanted head name) []))
bracketed_less limit number begun (of_declaration at exported) head name = refl
bracketed_less limit number begun (of_parameter (of_annotation named) parameters) head name = refl
bracketed_less limit number begun (of_parameter (of_function fronted) parameters) head name =
    by fronted.named fronted.ty fronted.deferred
  where
    by : (named : Named) (ty : TypeTree) (first : Option ℕ) →
        LessOutcome (front_outcome number begun
        (of_parameter (of_function (record { named = named; ty = ty; deferred = first }))
        parameters)
        (goes (deferred_wanted head name) []))
    by named ty None = (refl, tt)
    by named ty (Some earlier) = (refl, tt)
bracketed_less limit number begun (of_field held) head name = refl

pub fronting_bracket : (Is : Head → Type 0) (limit number : ℕ) (begun : Begun) (of : Fronting)
    (mode : Mode)
    (place : Span) → HeadIn Is mode →
    BracketOutcome limit (front_outcome number begun of (mode_step limit mode [] opening_bracket
    place))
fronting_bracket Is limit number begun of (part_wanted (in_type head) path) place is = tt
fronting_bracket Is limit number begun of (part_read (in_type head) path) place is =
    λ token from to. bracketed_less limit token begun of head _
fronting_bracket Is limit number begun of (word_read (in_type head) name) place is =
    λ token from to. bracketed_less limit token begun of head name
fronting_bracket Is limit number begun of (type_wanted head) place is = tt
fronting_bracket Is limit number begun of (type_bracketed head name) place is = tt
fronting_bracket Is limit number begun of (type_sized head name value) place is = tt
fronting_bracket Is limit number begun of (deferred_wanted head name) place is = tt
fronting_bracket Is limit number begun of (deferred_read head name ident) place is = tt
fronting_bracket Is limit number begun of (deferred_closed head name ident) place is = tt
fronting_bracket Is limit number begun of (name_wanted head ty) place is = tt
fronting_bracket Is limit number begun of (equals_wanted head ty name) place is = tt
fronting_bracket Is limit number begun of mode place is = absurd is
