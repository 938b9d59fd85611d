-- What the limit does to steps in expressions of modules: nothing, or too deep below a need.
use Rattle.std.proofs.Common.{◌≡◌, ◌∙◌, sym, ap, refl, arith, ℕ, suc, Bool, true, false, List}
use Rattle.std.proofs.Common.{if◌then◌else◌}
use Rattle.std.specs.Prelude.{nat_le, pred, zero}
use Rattle.std.proofs.lemmas.Bool.{false≢true, le-leb, leb-true, leb-false, lt-leb}
use Rattle.mdl_syntax.specs.declared.names.Span.{Span}
use Rattle.mdl_syntax.specs.Trees.{Tree}
use Rattle.expression_grammar.specs.inside.Machine.{Sort, Mode, Frame, Step, Finish, goes, bad, deep}
use Rattle.expression_grammar.specs.inside.Machine.{is_left_out, finished, ends_badly, ends_deep}
use Rattle.expression_grammar.specs.inside.Machine.{mode_step, finish, opening_bracket, comma, closing}
use Rattle.expression_grammar.specs.inside.Machine.{semicolon}
use Rattle.module_grammar.specs.inside.ModuleStates.{Begun, Site, Position, State, Outcome, on}
use Rattle.module_grammar.specs.inside.ModuleStates.{too_deep, within, in_function_body, in_default}
use Rattle.module_grammar.specs.inside.ModuleMachine.{expression_outcome, closes}
use Rattle.module_grammar.specs.inside.ModuleStates.{in_field_default}
use Rattle.module_grammar.specs.inside.ModuleMachine.{closing_outcome, by_finish}
use Rattle.expression_grammar.proofs.RoomLaws.{Limited, always, roomy, mode_limited, Ending, ends, high}
use Rattle.expression_grammar.proofs.RoomLaws.{finish_ending}
use Rattle.module_grammar.proofs.ModuleSettledLaws.{is_settled, Settled, IsOn}

-- what a step comes to by the limit: always the same, or too deep below a need
pub data Roomed (inside : Bool) (of : ℕ → Outcome) : Type 0 where
  settled : (what : Outcome) → is_settled inside what ≡ true → ((limit : ℕ) → of limit ≡ what) →
      Roomed inside of
  above : (need : ℕ) (begun : Begun) (position : Position) → ((limit : ℕ) → of limit
      ≡ (if nat_le need limit then on (within begun position) else too_deep)) → Roomed inside of

pub roomed_same : (one other : ℕ → Outcome) → ((limit : ℕ) → other limit ≡ one limit) →
    Roomed true one → Roomed true other
roomed_same one other same (settled what ok is) = settled what ok (λ limit. same limit ∙ is limit)
roomed_same one other same (above need begun position is) =
    above need begun position (λ limit. same limit ∙ is limit)

pub if_roomed : (test : Bool) (one other : ℕ → Outcome) → Roomed true one → Roomed true other →
    Roomed true (λ limit. if test then one limit else other limit)
if_roomed true one other is others = is
if_roomed false one other is others = others

-- what it goes on to
on_state : (made : Outcome) → IsOn made → (begun : Begun) × (position : Position)
    × (made ≡ on (within begun position))
on_state (on (within begun position)) is = (begun, position, refl)
on_state _ is = absurd is

-- Of steps.

pub over : (f : Step → Outcome) (mode : Mode) (frames : List Frame) (after : State) →
    f (goes mode frames) ≡ on after → f deep ≡ too_deep → (test : Bool) →
    f (if test then goes mode frames else deep) ≡ (if test then on after else too_deep)
over f mode frames after is high_is true = is
over f mode frames after is high_is false = high_is

-- what comes of a step, where it goes on with each that goes on
pub step_roomed : (f : Step → Outcome) → ((mode : Mode) (frames : List Frame) →
    IsOn (f (goes mode frames))) → Settled (f bad) → f deep ≡ too_deep → (of : ℕ → Step) →
    Limited of → Roomed true (λ limit. f (of limit))
step_roomed f on_goes bad_ok deep_is of (always (goes mode frames) ok same) =
    let (begun, position, is) = on_state (f (goes mode frames)) (on_goes mode frames) in
    settled (on (within begun position)) refl (λ limit. ap f (same limit) ∙ is)
step_roomed f on_goes bad_ok deep_is of (always bad ok same) =
    settled (f bad) bad_ok (λ limit. ap f (same limit))
step_roomed f on_goes bad_ok deep_is of (always deep ok same) = absurd (false≢true ok)
step_roomed f on_goes bad_ok deep_is of (always (is_left_out text) ok same) = absurd (false≢true ok)
step_roomed f on_goes bad_ok deep_is of (roomy need mode frames same) =
    let (begun, position, is) = on_state (f (goes mode frames)) (on_goes mode frames) in
    above need begun position (λ limit. ap f (same limit)
    ∙ over f mode frames (within begun position) is deep_is (nat_le need limit))

lower_need : (need limit : ℕ) → nat_le need (suc limit) ≡ nat_le (pred need) limit
lower_need zero limit = le-leb 0 (suc limit) (omega arith) ∙ sym (le-leb 0 limit (omega arith))
lower_need (suc need) limit = by (nat_le need limit) refl
  where
    by : (test : Bool) → nat_le need limit ≡ test →
        nat_le (suc need) (suc limit) ≡ nat_le need limit
    by true is =
        le-leb (suc need) (suc limit) (omega (arith, leb-true need limit is)) ∙ sym is
    by false is =
        lt-leb (suc need) (suc limit) (omega (arith, leb-false need limit is)) ∙ sym is

-- with a limit that is higher by one
pub limited_above : (of : ℕ → Step) → Limited of → Limited (λ limit. of (suc limit))
limited_above of (always what ok same) = always what ok (λ limit. same (suc limit))
limited_above of (roomy need mode frames same) =
    roomy (pred need) mode frames (λ limit. same (suc limit)
    ∙ ap (λ test. if test then goes mode frames else deep) (lower_need need limit))

pub expression_roomed : (begun : Begun) (site : Site) (of : ℕ → Step) → Limited of →
    Roomed true (λ limit. expression_outcome begun site (of limit))
expression_roomed begun site of limited =
    step_roomed (expression_outcome begun site) (λ mode frames. tt) refl refl of limited

-- Of ends.

over_end : (f : Finish → Outcome) (tree : Tree) (after : State) → f (finished tree) ≡ on after →
    f ends_deep ≡ too_deep → (test : Bool) → f (if test then finished tree else ends_deep)
    ≡ (if test then on after else too_deep)
over_end f tree after is high_is true = is
over_end f tree after is high_is false = high_is

-- what comes of an end, with what comes of an end that is bad by the limit
pub end_roomed : (f : ℕ → Finish → Outcome) → ((limit : ℕ) → f limit ends_deep ≡ too_deep) →
    ((tree : Tree) → IsOn (f 0 (finished tree))) → ((limit : ℕ) (tree : Tree) →
    f limit (finished tree) ≡ f 0 (finished tree)) → Roomed true (λ limit. f limit ends_badly) →
    (of : ℕ → Finish) → Ending of → Roomed true (λ limit. f limit (of limit))
end_roomed f deep_is on_whole alike badly of (ends (finished tree) ok same) =
    let (begun, position, is) = on_state (f 0 (finished tree)) (on_whole tree) in
    settled (on (within begun position)) refl (λ limit. ap (f limit) (same limit) ∙
    (alike limit tree ∙ is))
end_roomed f deep_is on_whole alike badly of (ends ends_badly ok same) =
    roomed_same (λ limit. f limit ends_badly) (λ limit. f limit (of limit))
    (λ limit. ap (f limit) (same limit)) badly
end_roomed f deep_is on_whole alike badly of (ends ends_deep ok same) = absurd (false≢true ok)
end_roomed f deep_is on_whole alike badly of (high need tree same) =
    let (begun, position, is) = on_state (f 0 (finished tree)) (on_whole tree) in
    above need begun position (λ limit. ap (f limit) (same limit)
    ∙ over_end (f limit) tree (within begun position) (alike limit tree ∙ is) (deep_is limit)
    (nat_le need limit))

-- Behind a whole expression.

closing_on : (begun : Begun) (site : Site) (mode : Mode) (frames : List Frame) (tree : Tree)
    (sort : Sort) (place : Span) → closes site sort ≡ true →
    IsOn (closing_outcome begun site mode frames tree sort place)
closing_on begun (in_function_body fronted parameters frequency annotations) mode frames tree
    semicolon place is =
    tt
closing_on begun (in_default owner parameters front) mode frames tree comma place is = tt
closing_on begun (in_default owner parameters front) mode frames tree closing place is = tt
closing_on begun (in_default owner parameters front) mode frames tree opening_bracket place is = tt
closing_on begun (in_field_default held front) mode frames tree semicolon place is = tt
closing_on begun (in_field_default held front) mode frames tree opening_bracket place is = tt
closing_on begun site mode frames tree sort place is = absurd (false≢true is)

pub by_finish_roomed : (begun : Begun) (site : Site) (mode : Mode) (frames : List Frame)
    (sort : Sort) (place : Span) → closes site sort ≡ true →
    Roomed true (λ limit. by_finish limit begun site mode frames sort place
    (finish limit mode frames))
by_finish_roomed begun site mode frames sort place may =
    end_roomed (λ limit end. by_finish limit begun site mode frames sort place end) (λ limit. refl)
    (λ tree. closing_on begun site mode frames tree sort place may) (λ limit tree. refl)
    (expression_roomed begun site (λ limit. mode_step limit mode frames sort place)
    (mode_limited mode frames sort place)) (λ limit. finish limit mode frames)
    (finish_ending mode frames)
