-- What suits frame by frame, in one.
use Rattle.std.proofs.Common.{◌≡◌, refl, arith, ℕ, suc, ◌+◌, ◌≤◌, nat_le, Bool, true, false, List}
use Rattle.std.proofs.Common.{[], ◌∷◌, length, if◌then◌else◌}
use Rattle.std.proofs.lemmas.Bool.{leb-true}
use Rattle.expression_grammar.specs.inside.Fits.{Fits, AllSuit, AllPlain, Suits, MayBePlain, ModeSuits}
use Rattle.expression_grammar.specs.inside.Fits.{HasRoom, least_height}
use Rattle.expression_grammar.specs.inside.Machine.{Frame, Mode, Step, goes, bad, deep, is_left_out}
use Rattle.expression_grammar.specs.inside.Machine.{within, unless_bad}

-- each frame suits, has its room, and an operand may stand in front of it
abbrev pub AllKept : ℕ → List Frame → Type 0
AllKept limit [] = Unit {0}
AllKept limit (frame ∷ frames) =
    Suits frame frames × (length frames + least_height frame ≤ limit) × MayBePlain frames
    × AllKept limit frames

all_suit : (limit : ℕ) (frames : List Frame) → AllKept limit frames → AllSuit limit frames
all_suit limit [] all = tt
all_suit limit (frame ∷ frames) all = (all.0, all.1, all_suit limit frames all.3)

all_plain : (limit : ℕ) (frames : List Frame) → AllKept limit frames → AllPlain frames
all_plain limit [] all = tt
all_plain limit (frame ∷ frames) all = (all.2, all_plain limit frames all.3)

pub all_kept : (limit : ℕ) (frames : List Frame) → AllSuit limit frames → AllPlain frames →
    AllKept limit frames
all_kept limit [] all below = tt
all_kept limit (frame ∷ frames) all below =
    (all.0, all.1, below.0, all_kept limit frames all.2 below.1)

-- a state of frames that are kept, and of a mode that suits
pub fit : {limit : ℕ} {mode : Mode} {frames : List Frame} → AllKept limit frames →
    ModeSuits limit mode frames → Fits limit mode frames
fit {limit} {mode} {frames} all one =
    record { all = all_suit limit frames all; one = one; below = all_plain limit frames all }

-- a state that a step goes to is fit
abbrev pub StepFits : ℕ → Step → Type 0
StepFits limit (goes mode frames) = Fits limit mode frames
StepFits limit _ = Unit {0}

pub within_fits : (limit : ℕ) (frames : List Frame) (need : ℕ) (own : Step) →
    (HasRoom limit frames need → StepFits limit own) → StepFits limit (within limit frames need own)
within_fits limit frames need own fits = by (nat_le (length frames + need) limit) refl
  where
    by : (b : Bool) → nat_le (length frames + need) limit ≡ b →
        StepFits limit (if b then own else deep)
    by true is = fits (leb-true (length frames + need) limit is)
    by false is = tt

pub unless_fits : (limit : ℕ) (frames : List Frame) (need : ℕ) (own : Step) →
    (HasRoom limit frames need → StepFits limit own) →
    StepFits limit (unless_bad limit frames need own)
unless_fits limit frames need bad fits = tt
unless_fits limit frames need (goes next below) fits =
    within_fits limit frames need (goes next below) fits
unless_fits limit frames need deep fits = within_fits limit frames need deep fits
unless_fits limit frames need (is_left_out text) fits =
    within_fits limit frames need (is_left_out text) fits

-- where a frame has room for its form, there is room for a leaf in it
pub inner_room : (n need limit : ℕ) → 1 ≤ need → n + suc need ≤ limit → suc n + 1 ≤ limit
inner_room n need limit some room = omega (arith, some, room)
