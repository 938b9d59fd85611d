-- What a reduction keeps: an ended frame's expression is an operand of the frames around.
use Rattle.std.proofs.Common.{◌≡◌, sym, subst, refl, arith, ℕ, suc, ◌+◌, ◌≤◌, max, Bool}
use Rattle.std.proofs.Common.{true, false, List, [], ◌∷◌, length}
use Rattle.std.proofs.lemmas.Bool.{cond-true, cond-false, false≢true, leb-true, leb-false}
use Rattle.std.proofs.lemmas.Bool.{true≢false}
use Rattle.mdl_syntax.specs.Trees.{Tree}
use Rattle.mdl_syntax.specs.Heights.{height}
use Rattle.mdl_syntax.specs.Levels.{level}
use Rattle.mdl_syntax.specs.Levelled.{Levelled}
use Rattle.expression_grammar.specs.inside.Fits.{Suits, MayBePlain, least_height, OperandSuits}
use Rattle.expression_grammar.specs.inside.Machine.{Frame, asked, ended, is_tight, reduced, across}
use Rattle.expression_grammar.specs.inside.Machine.{behind_unary, behind_infix}
use Rattle.expression_grammar.specs.inside.Machine.{behind_colon}
use Rattle.expression_grammar.specs.inside.Machine.{in_body}
use Rattle.expression_grammar.proofs.KeptLaws.{AllKept}
use Rattle.expression_grammar.proofs.ReadsLevels.{operator_between, level_of_binary}

room_of_both : (n a b limit : ℕ) → n + suc a ≤ limit → suc n + b ≤ limit → n + suc (max a b) ≤ limit
room_of_both n a b limit one other = omega (arith, one, other)

-- an operand of a place: what is kept when an expression becomes a part
pub record Placed (limit grip : ℕ) (tree : Tree) (frames : List Frame) : Type 0 where
  pub levelled : Levelled tree
  pub suited : asked frames ≤ level tree
  pub gripped : grip ≤ level tree
  pub room : length frames + height tree ≤ limit

-- a tight frame's expression is an operand of the frames around
ended_fits : (limit grip : ℕ) (frame : Frame) (frames : List Frame) (tree : Tree) →
    is_tight grip frame ≡ true → Suits frame frames → length frames + least_height frame ≤ limit →
    Placed limit grip tree (frame ∷ frames) → Placed limit grip (ended frame tree) frames
ended_fits limit grip (behind_unary op at) frames tree tight suits low placed = record {
  levelled = (suits.0, placed.suited, placed.levelled);
  suited = suits.1;
  gripped = leb-true grip 12 tight;
  room = omega (arith, placed.room);
}
ended_fits limit grip (behind_infix op own left) frames tree tight suits low placed =
    let is = level_of_binary op own left tree (across left tree) suits.0 in record {
      levelled = (own, suits.0, suits.1, placed.suited, suits.2, placed.levelled);
      suited = omega (arith, suits.3, is);
      gripped = omega (arith, leb-true grip own tight, is);
      room = room_of_both (length frames) (height left) (height tree) limit low placed.room;
    }
ended_fits limit grip (behind_colon test one) frames tree tight suits low placed = record {
  levelled = (suits.0, placed.suited, suits.1, suits.2, placed.levelled);
  suited = suits.3;
  gripped = leb-true grip 1 tight;
  room = omega (arith, low, placed.room);
}
ended_fits limit grip (in_body held) frames tree tight suits low placed = record {
  levelled = (suits.2, suits.1, placed.levelled);
  suited = omega (arith, suits.0);
  gripped = leb-true grip 0 tight;
  room = omega (arith, low, placed.room);
}
ended_fits limit grip frame frames tree tight suits low placed = absurd (false≢true tight)

-- the top frame, if there is one, isn't tight for the grip
abbrev IsLoose : ℕ → List Frame → Type 0
IsLoose grip [] = Unit {0}
IsLoose grip (frame ∷ frames) = is_tight grip frame ≡ false

pub record Reduced (limit grip : ℕ) (tree : Tree) (frames : List Frame) : Type 0 where
  pub all : AllKept limit frames
  pub plain : MayBePlain frames
  pub placed : Placed limit grip tree frames
  pub loose : IsLoose grip frames

reduced_fits : (limit grip : ℕ) (tree : Tree) (frames : List Frame) → AllKept limit frames →
    MayBePlain frames → Placed limit grip tree frames →
    Reduced limit grip (reduced grip tree frames).0 (reduced grip tree frames).1
reduced_fits limit grip tree [] all plain placed =
    record { all = all; plain = plain; placed = placed; loose = tt }
reduced_fits limit grip tree (frame ∷ frames) all plain placed =
    by (λ inner. reduced_fits limit grip (ended frame tree) frames all.3 all.2 inner)
    (is_tight grip frame) refl
  where
    by : (Placed limit grip (ended frame tree) frames →
        Reduced limit grip (reduced grip (ended frame tree) frames).0
        (reduced grip (ended frame tree) frames).1) → (b : Bool) → is_tight grip frame ≡ b →
        Reduced limit grip (reduced grip tree (frame ∷ frames)).0
        (reduced grip tree (frame ∷ frames)).1
    by behind true tight =
        subst (λ pair. Reduced limit grip pair.0 pair.1)
        (sym (cond-true (is_tight grip frame) (reduced grip (ended frame tree) frames)
        (tree, frame ∷ frames) tight)) (behind (ended_fits limit grip frame frames tree tight all.0
        all.1 placed))
    by behind false loose =
        subst (λ (pair : Tree × List Frame). Reduced limit grip pair.0 pair.1)
        (sym (cond-false (is_tight grip frame) (reduced grip (ended frame tree) frames)
        (tree, frame ∷ frames) loose))
        (record { all = all; plain = plain; placed = placed; loose = loose })

-- What a place asks.

-- no place asks more than a whole operand has
pub asked_most : (limit : ℕ) (frames : List Frame) → AllKept limit frames → asked frames ≤ 12
asked_most limit ((behind_infix op own left) ∷ frames) all =
    omega (arith, (operator_between op own all.0.0).1)
asked_most limit frames all = omega arith

-- behind a reduction the place asks at most the grip
pub asked_loose : (grip : ℕ) (frames : List Frame) → IsLoose grip frames → asked frames ≤ grip
asked_loose grip ((behind_unary op at) ∷ frames) loose = omega (arith, leb-false grip 12 loose)
asked_loose grip ((behind_infix op own left) ∷ frames) loose = leb-false grip own loose
asked_loose grip ((behind_colon test one) ∷ frames) loose = omega (arith, leb-false grip 1 loose)
asked_loose grip frames loose = omega arith

-- behind the reduction at `?` it asks less
pub asked_two : (limit : ℕ) (frames : List Frame) → AllKept limit frames → IsLoose 2 frames →
    asked frames ≤ 1
asked_two limit ((behind_unary op at) ∷ frames) all loose = absurd (true≢false loose)
asked_two limit ((behind_infix op own left) ∷ frames) all loose =
    absurd (omega (arith, leb-false 2 own loose, (operator_between op own all.0.0).0))
asked_two limit frames all loose = omega arith

pub operand_reduced : (limit grip : ℕ) (tree : Tree) (frames : List Frame) → grip ≤ 13 →
    AllKept limit frames → OperandSuits limit tree frames (height tree) →
    Reduced limit grip (reduced grip tree frames).0 (reduced grip tree frames).1
operand_reduced limit grip tree frames low all suits =
    reduced_fits limit grip tree frames all suits.3 (record {
      levelled = suits.0;
      suited = omega (arith, asked_most limit frames all, suits.1);
      gripped = omega (arith, low, suits.1);
      room = suits.2;
    })
