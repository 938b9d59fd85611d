-- What the end of an expression comes to is told by its frames.
use Rattle.std.proofs.Common.{◌≡◌, refl, sym, ap, ℕ, nat_le, ◌+◌, Bool, true, false, List, [], ◌∷◌, if◌then◌else◌}
use Rattle.std.proofs.Common.{length}
use Rattle.mdl_syntax.specs.Trees.{Tree}
use Rattle.std.proofs.lemmas.Bool.{false≢true}
use Rattle.mdl_grammar.specs.declared.ends.End.{End}
use Rattle.mdl_grammar.specs.declared.ends.End.TheVariants as end
use Rattle.expression_grammar.specs.inside.Machine.{Frame, is_tight, ended, reduced, whole, unless_bad_end}
use Rattle.expression_grammar.specs.inside.Machine.{Finish, finished, ends_badly, ends_deep}
use Rattle.mdl_grammar.specs.inside.Ends.{all_tight, end_kind, tight_end}

pub whole_end : (tree : Tree) (frames : List Frame) →
    end_kind (whole (reduced 0 tree frames)) ≡ tight_end frames
whole_end tree [] = refl
whole_end tree (frame ∷ frames) = by (is_tight 0 frame) (whole_end (ended frame tree) frames)
  where
    by : (test : Bool) → end_kind (whole (reduced 0 (ended frame tree) frames)) ≡ tight_end frames →
        end_kind (whole (if test then reduced 0 (ended frame tree) frames else (tree, frame ∷ frames)))
        ≡ (if (if test then all_tight frames else false) then end.Whole else end.Bad)
    by true is = is
    by false is = refl

-- one that must have room besides
room_end : (limit need : ℕ) (all : List Frame) (tree : Tree) (frames : List Frame) →
    end_kind (unless_bad_end limit all need (whole (reduced 0 tree frames)))
    ≡ (if all_tight frames then (if nat_le (length all + need) limit then end.Whole else end.Deep)
    else end.Bad)
room_end limit need all tree [] = by (nat_le (length all + need) limit)
  where
    by : (test : Bool) →
        end_kind (if test then finished tree else ends_deep) ≡ (if test then end.Whole else end.Deep)
    by true = refl
    by false = refl
room_end limit need all tree (frame ∷ frames) =
    by (is_tight 0 frame) (room_end limit need all (ended frame tree) frames)
  where
    by : (test : Bool) →
        end_kind (unless_bad_end limit all need (whole (reduced 0 (ended frame tree) frames)))
        ≡ (if all_tight frames then (if nat_le (length all + need) limit then end.Whole else end.Deep)
        else end.Bad) →
        end_kind (unless_bad_end limit all need
        (whole (if test then reduced 0 (ended frame tree) frames else (tree, frame ∷ frames))))
        ≡ (if (if test then all_tight frames else false)
        then (if nat_le (length all + need) limit then end.Whole else end.Deep) else end.Bad)
    by true is = is
    by false is = refl

pub sized_end : (limit need : ℕ) (tree : Tree) (frames : List Frame) →
    end_kind (unless_bad_end limit frames need (whole (reduced 0 tree frames)))
    ≡ (if all_tight frames then (if nat_le (length frames + need) limit then end.Whole else end.Deep)
    else end.Bad)
sized_end limit need tree frames = room_end limit need frames tree frames

abbrev is_deep : End → Bool
is_deep end.Deep = true
is_deep _ = false

pub deep_end : (made : Finish) → end.Deep ≡ end_kind made → made ≡ ends_deep
deep_end (finished tree) is = absurd (false≢true (sym (ap is_deep is)))
deep_end ends_badly is = absurd (false≢true (sym (ap is_deep is)))
deep_end ends_deep is = refl

abbrev is_bad : End → Bool
is_bad end.Bad = true
is_bad _ = false

pub bad_end : (made : Finish) → end.Bad ≡ end_kind made → made ≡ ends_badly
bad_end (finished tree) is = absurd (false≢true (sym (ap is_bad is)))
bad_end ends_badly is = refl
bad_end ends_deep is = absurd (false≢true (sym (ap is_bad is)))

pub ruleset end_laws = (whole_end, sized_end)
