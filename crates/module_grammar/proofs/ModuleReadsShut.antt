-- Behind a whole expression the machine of expressions takes no token that ends it.
use Rattle.std.proofs.Common.{◌≡◌, ap, ℕ, suc, ◌+◌, nat_le, Bool, true, false, List, []}
use Rattle.std.proofs.Common.{◌∷◌, length, if◌then◌else◌, refl}
use Rattle.mdl_syntax.specs.declared.names.Span.{Span}
use Rattle.mdl_syntax.specs.Trees.{Tree}
use Rattle.mdl_syntax.specs.Heights.{height}
use Rattle.expression_grammar.specs.inside.Machine.{Sort, Mode, Frame, Step, Finish, goes, bad, deep}
use Rattle.expression_grammar.specs.inside.Machine.{finished, ends_badly, ends_deep, closing}
use Rattle.expression_grammar.specs.inside.Machine.{opening_bracket, comma, semicolon, complete, part_read}
use Rattle.expression_grammar.specs.inside.Machine.{word_read, sized_closed, in_expression, reduced}
use Rattle.expression_grammar.specs.inside.Machine.{closing_step, comma_step, semicolon_step}
use Rattle.expression_grammar.specs.inside.Machine.{complete_step}
use Rattle.expression_grammar.specs.inside.Machine.{unless_bad, unless_bad_end, whole, finish, mode_step}
use Rattle.expression_grammar.specs.inside.Machine.{name_tree, path_name, indexed_tree, within}
use Rattle.expression_grammar.specs.inside.Machine.{wanted, in_index}

abbrev pub IsGoing : Step → Type 0
IsGoing (goes mode frames) = Unit {0}
IsGoing _ = ⊥

abbrev pub IsFinished : Finish → Type 0
IsFinished (finished tree) = Unit {0}
IsFinished _ = ⊥

abbrev pub IsDeep : Finish → Type 0
IsDeep ends_deep = Unit {0}
IsDeep _ = ⊥

-- a token that ends an expression
abbrev pub IsEnd : Sort → Type 0
IsEnd closing = Unit {0}
IsEnd comma = Unit {0}
IsEnd semicolon = Unit {0}
IsEnd _ = ⊥

closing_shut : (end : ℕ) (pair : Tree × List Frame) → IsFinished (whole pair) →
    closing_step end pair ≡ bad
closing_shut end (tree, []) is = refl
closing_shut end (tree, frame ∷ frames) is = absurd is

comma_shut : (pair : Tree × List Frame) → IsFinished (whole pair) → comma_step pair ≡ bad
comma_shut (tree, []) is = refl
comma_shut (tree, frame ∷ frames) is = absurd is

semicolon_shut : (end : ℕ) (pair : Tree × List Frame) → IsFinished (whole pair) →
    semicolon_step end pair ≡ bad
semicolon_shut end (tree, []) is = refl
semicolon_shut end (tree, frame ∷ frames) is = absurd is

complete_shut : (limit : ℕ) (tree : Tree) (frames : List Frame) (sort : Sort) (own : Span) →
    IsEnd sort → IsFinished (whole (reduced 0 tree frames)) →
    complete_step limit tree frames sort own ≡ bad
complete_shut limit tree frames closing own end is = closing_shut own.end (reduced 0 tree frames) is
complete_shut limit tree frames comma own end is = comma_shut (reduced 0 tree frames) is
complete_shut limit tree frames semicolon own end is =
    semicolon_shut own.end (reduced 0 tree frames) is
complete_shut limit tree frames sort own end is = absurd end

room_end : (limit : ℕ) (frames : List Frame) (need : ℕ) (one : Finish) →
    IsFinished (unless_bad_end limit frames need one) → IsFinished one
room_end limit frames need (finished tree) is = tt
room_end limit frames need ends_badly is = absurd is
room_end limit frames need ends_deep is = absurd is

-- behind an expression that is whole
pub finished_shut : (limit : ℕ) (mode : Mode) (frames : List Frame) (sort : Sort) (own : Span) →
    IsEnd sort → IsFinished (finish limit mode frames) → mode_step limit mode frames sort own ≡ bad
finished_shut limit (complete tree) frames sort own end is =
    complete_shut limit tree frames sort own end is
finished_shut limit (part_read in_expression path) frames closing own end is =
    complete_shut limit (name_tree (path_name path)) frames closing own end is
finished_shut limit (part_read in_expression path) frames comma own end is =
    complete_shut limit (name_tree (path_name path)) frames comma own end is
finished_shut limit (part_read in_expression path) frames semicolon own end is =
    complete_shut limit (name_tree (path_name path)) frames semicolon own end is
finished_shut limit (part_read in_expression path) frames sort own end is = absurd end
finished_shut limit (word_read in_expression name) frames closing own end is =
    complete_shut limit (name_tree name) frames closing own end is
finished_shut limit (word_read in_expression name) frames comma own end is =
    complete_shut limit (name_tree name) frames comma own end is
finished_shut limit (word_read in_expression name) frames semicolon own end is =
    complete_shut limit (name_tree name) frames semicolon own end is
finished_shut limit (word_read in_expression name) frames sort own end is = absurd end
finished_shut limit (sized_closed name value at behind) frames closing own end is =
    ap (unless_bad limit frames 2)
    (complete_shut limit (indexed_tree name value at behind) frames closing own end
    (room_end limit frames 2 (whole (reduced 0 (indexed_tree name value at behind) frames)) is))
finished_shut limit (sized_closed name value at behind) frames comma own end is =
    ap (unless_bad limit frames 2)
    (complete_shut limit (indexed_tree name value at behind) frames comma own end
    (room_end limit frames 2 (whole (reduced 0 (indexed_tree name value at behind) frames)) is))
finished_shut limit (sized_closed name value at behind) frames semicolon own end is =
    ap (unless_bad limit frames 2)
    (complete_shut limit (indexed_tree name value at behind) frames semicolon own end
    (room_end limit frames 2 (whole (reduced 0 (indexed_tree name value at behind) frames)) is))
finished_shut limit (sized_closed name value at behind) frames sort own end is = absurd end
finished_shut limit mode frames sort own end is = absurd is

-- Where there is no room for it.

no_room : (limit : ℕ) (frames : List Frame) (need : ℕ) (pair : Tree × List Frame) →
    IsDeep (unless_bad_end limit frames need (whole pair)) →
    nat_le (length frames + need) limit ≡ false
no_room limit frames need (tree, frame ∷ below) is = absurd is
no_room limit frames need (tree, []) is = by (nat_le (length frames + need) limit) is
  where
    by : (test : Bool) → IsDeep (if test then finished tree else ends_deep) → test ≡ false
    by true deeper = absurd deeper
    by false deeper = refl

never_whole : (pair : Tree × List Frame) → IsDeep (whole pair) → ⊥
never_whole (tree, []) is = is
never_whole (tree, frame ∷ frames) is = is

shut_room : (test : Bool) (made : Step) → test ≡ false → IsGoing (if test then made else deep) → ⊥
shut_room true made is went = cc
shut_room false made is went = went

unless_shut : (limit : ℕ) (frames : List Frame) (need : ℕ) (made : Step) →
    nat_le (length frames + need) limit ≡ false → IsGoing (unless_bad limit frames need made) → ⊥
unless_shut limit frames need bad is went = went
unless_shut limit frames need made is went =
    shut_room (nat_le (length frames + need) limit) made is went

-- a token that ends an expression, or `[`
abbrev pub IsClose : Sort → Type 0
IsClose opening_bracket = Unit {0}
IsClose sort = IsEnd sort

pub deep_shut : (limit : ℕ) (mode : Mode) (frames : List Frame) (sort : Sort) (own : Span) →
    IsClose sort → IsDeep (finish limit mode frames) →
    IsGoing (mode_step limit mode frames sort own) → ⊥
deep_shut limit (complete tree) frames sort own close is went =
    never_whole (reduced 0 tree frames) is
deep_shut limit (part_read in_expression path) frames sort own close is went =
    never_whole (reduced 0 (name_tree (path_name path)) frames) is
deep_shut limit (word_read in_expression name) frames sort own close is went =
    never_whole (reduced 0 (name_tree name) frames) is
deep_shut limit (sized_closed name value at behind) frames opening_bracket own close is went =
    let tree = indexed_tree name value at behind in
    unless_shut limit frames 2 (complete_step limit tree frames opening_bracket own)
    (no_room limit frames 2 (reduced 0 tree frames) is) went
deep_shut limit (sized_closed name value at behind) frames closing own close is went =
    let tree = indexed_tree name value at behind in
    unless_shut limit frames 2 (complete_step limit tree frames closing own)
    (no_room limit frames 2 (reduced 0 tree frames) is) went
deep_shut limit (sized_closed name value at behind) frames comma own close is went =
    let tree = indexed_tree name value at behind in
    unless_shut limit frames 2 (complete_step limit tree frames comma own)
    (no_room limit frames 2 (reduced 0 tree frames) is) went
deep_shut limit (sized_closed name value at behind) frames semicolon own close is went =
    let tree = indexed_tree name value at behind in
    unless_shut limit frames 2 (complete_step limit tree frames semicolon own)
    (no_room limit frames 2 (reduced 0 tree frames) is) went
deep_shut limit (sized_closed name value at behind) frames sort own close is went = absurd close
deep_shut limit mode frames sort own close is went = absurd is

-- `[` behind a whole expression begins an index or a size, and neither another nor the end follows

abbrev pub IsStuck : ℕ → Step → Type 0
IsStuck limit (goes mode frames) =
    ((own : Span) → mode_step limit mode frames opening_bracket own ≡ bad)
    × (finish limit mode frames ≡ ends_badly)
IsStuck limit _ = Unit {0}

either_stuck : (limit : ℕ) (test : Bool) (one other : Step) → IsStuck limit one →
    IsStuck limit other → IsStuck limit (if test then one else other)
either_stuck limit true one other is also = is
either_stuck limit false one other is also = also

within_stuck : (limit : ℕ) (frames : List Frame) (need : ℕ) (made : Step) → IsStuck limit made →
    IsStuck limit (within limit frames need made)
within_stuck limit frames need made is =
    either_stuck limit (nat_le (length frames + need) limit) made deep is tt

unless_stuck : (limit : ℕ) (frames : List Frame) (need : ℕ) (made : Step) → IsStuck limit made →
    IsStuck limit (unless_bad limit frames need made)
unless_stuck limit frames need bad is = tt
unless_stuck limit frames need made is = within_stuck limit frames need made is

index_stuck : (limit : ℕ) (tree : Tree) (frames : List Frame) (own : Span) →
    IsStuck limit (complete_step limit tree frames opening_bracket own)
index_stuck limit tree frames own =
    within_stuck limit frames (suc (height tree)) (goes wanted (in_index tree ∷ frames))
    ((λ at. refl), refl)

pub bracket_stuck : (limit : ℕ) (mode : Mode) (frames : List Frame) (own : Span) →
    IsFinished (finish limit mode frames) →
    IsStuck limit (mode_step limit mode frames opening_bracket own)
bracket_stuck limit (complete tree) frames own is = index_stuck limit tree frames own
bracket_stuck limit (part_read in_expression path) frames own is = ((λ at. refl), refl)
bracket_stuck limit (word_read in_expression name) frames own is = ((λ at. refl), refl)
bracket_stuck limit (sized_closed name value at behind) frames own is =
    unless_stuck limit frames 2
    (complete_step limit (indexed_tree name value at behind) frames opening_bracket own)
    (index_stuck limit (indexed_tree name value at behind) frames own)
bracket_stuck limit mode frames own is = absurd is
