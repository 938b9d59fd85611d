-- The stack of the reader's frames.
use Rattle.std.proofs.Common.{◌≡◌, refl, ◌+◌, List, [], ◌∷◌, ◌++◌, length, arith}
use Rattle.expression_grammar.specs.declared.frame.Frame as held
use Rattle.expression_grammar.specs.inside.Machine.{Frame}
use Rattle.expression_grammar.specs.inside.Views.{frame_of, stack_over, stack_of}

over_longer : (below : List Frame) (frames : List held.Frame) (top : held.Frame) →
    stack_over below (frames ++ top ∷ []) ≡ frame_of top ∷ stack_over below frames
over_longer below [] top = refl
over_longer below (frame ∷ frames) top = over_longer (frame_of frame ∷ below) frames top

pub stack_of-push : (frames : List held.Frame) (top : held.Frame) →
    stack_of (frames ++ top ∷ []) ≡ frame_of top ∷ stack_of frames
unfolding stack_of
stack_of-push frames top = over_longer [] frames top

pub stack_of-none : stack_of [] ≡ []
unfolding stack_of
stack_of-none = refl

length_over : (below : List Frame) (frames : List held.Frame) →
    length (stack_over below frames) ≡ length below + length frames
length_over below [] = omega arith
length_over below (frame ∷ frames) = omega (arith, length_over (frame_of frame ∷ below) frames)

pub stack_of-length : (frames : List held.Frame) → length (stack_of frames) ≡ length frames
unfolding stack_of
stack_of-length frames = omega (arith, length_over [] frames)

pub ruleset stack_laws = (stack_of-push, stack_of-none, stack_of-length)
