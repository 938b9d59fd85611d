-- Steps on the sorts that their default arms are for.
use Rattle.std.proofs.Common.{◌≡◌, ◌∙◌, refl, sym, ap, ℕ, true, false}
use Rattle.std.proofs.Common.{List, ◌∷◌, Err}
use Rattle.mdl_syntax.specs.declared.names.Span.{Span}
use Rattle.mdl_syntax.specs.declared.names.Name.{Name}
use Rattle.expression_grammar.specs.declared.sort.Sort as held
use Rattle.expression_grammar.specs.declared.sort.Sort.TheVariants as sort
use Rattle.expression_grammar.specs.inside.Machine.{Frame, Path, Purpose, part_step, used_step, path_name}
use Rattle.expression_grammar.specs.inside.Machine.{sized_step, complete_step, wanted_step, argument_step}
use Rattle.expression_grammar.specs.inside.Machine.{first_argument_step}
use Rattle.expression_grammar.specs.inside.Machine.{integer_tree, name_tree, in_index, in_arguments}
use Rattle.expression_grammar.specs.inside.Machine.{Step, is_deferred, allowed}
use Rattle.expression_grammar.specs.declared.mode.Mode as held_modes
use Rattle.expression_grammar.specs.declared.mode.Mode.TheVariants as held_mode
use Rattle.expression_grammar.specs.declared.frame.Head.{Head}
use Rattle.expression_grammar.specs.declared.mode.Stop.{Stop}
use Rattle.expression_grammar.specs.declared.mode.Stop.TheVariants as stop
use Rattle.expression_grammar.specs.declared.frame.Frame as held_frames
use Rattle.expression_grammar.specs.inside.SortViews.{sort_view}
use Rattle.expression_grammar.specs.inside.Views.{after_named, mode_of, stack_of, Came}
use Rattle.std.proofs.lemmas.Bool.{false≢true}
use Rattle.case_table.specs.declared.text.Text.{Text}
use denote.Bor.{Bor}
use Rattle.expression_grammar.specs.inside.Machine.{goes}
use Rattle.expression_grammar.proofs.TakenLaws.{allowed_goes}

pub part_otherwise : (limit : ℕ) (purpose : Purpose) (path : Path) (frames : List Frame)
    (word : held.Sort) (place : Span) → (word ≡ sort.DoubleColon → ⊥) →
    part_step limit purpose path frames (sort_view word) place ≡ used_step limit purpose
    (path_name path) frames (sort_view word) place
part_otherwise limit purpose path frames sort.DoubleColon place other = absurd (other refl)
part_otherwise limit purpose path frames _ place other = refl

pub sized_otherwise : (limit : ℕ) (name : Name) (value : ℕ) (at : Span) (frames : List Frame)
    (word : held.Sort) (place : Span) → (word ≡ sort.ClosingBracket → ⊥) →
    sized_step limit name value at frames (sort_view word) place ≡ complete_step limit
    (integer_tree value at) (in_index (name_tree name) ∷ frames) (sort_view word) place
sized_otherwise limit name value at frames sort.ClosingBracket place other = absurd (other refl)
sized_otherwise limit name value at frames _ place other = refl

-- a plain argument begins as an operand does, but for identifiers
pub argument_otherwise : (limit : ℕ) (frames : List Frame) (word : held.Sort) (place : Span) →
    after_named frames ≡ false → ((text : Bor Text) → word ≡ sort.Identifier text → ⊥) →
    argument_step limit frames (sort_view word) place ≡ wanted_step limit frames (sort_view word)
    place
argument_otherwise limit (in_arguments name arguments true label ∷ frames) word place plain other =
    absurd (false≢true (sym plain))
argument_otherwise limit frames (sort.Identifier text) place plain other = absurd (other text refl)
argument_otherwise limit frames _ place plain other = refl

pub first_argument_otherwise : (limit : ℕ) (frames : List Frame) (word : held.Sort) (place : Span) →
    (word ≡ sort.Closing → ⊥) → first_argument_step limit frames (sort_view word) place
    ≡ argument_step limit frames (sort_view word) place
first_argument_otherwise limit (in_arguments name arguments with_name label ∷ frames) sort.Closing
    place other =
    absurd (other refl)
first_argument_otherwise limit (in_arguments name arguments with_name label ∷ frames) _ place
    other = refl
first_argument_otherwise limit _ word place other = refl

-- a step that begins no size that is deferred is allowed
never_deferred : (mode : held_modes.Mode) →
    ((head : Head) (name : Name) → mode ≡ held_mode.DeferredWanted head name → ⊥) →
    is_deferred (mode_of mode) ≡ false
never_deferred (held_mode.DeferredWanted head name) other = absurd (other head name refl)
never_deferred _ other = refl

pub plain_allowed : (mode : held_modes.Mode) (frames : List held_frames.Frame) (made : Step) →
    ((head : Head) (name : Name) → mode ≡ held_mode.DeferredWanted head name → ⊥) →
    made ≡ goes (mode_of mode) (stack_of frames) → allowed true made ≡ goes (mode_of mode) (stack_of frames)
plain_allowed mode frames made other came =
    ap (allowed true) came ∙ allowed_goes true (mode_of mode) (stack_of frames) (never_deferred mode other)

pub stop_allowed : (why : Stop) (frames : List held_frames.Frame) (made : Step) →
    Came (Err why) frames made → Came (Err why) frames (allowed true made)
stop_allowed stop.Bad frames made came = ap (allowed true) came
stop_allowed stop.Deep frames made came = ap (allowed true) came
stop_allowed (stop.LeftOut text) frames made came = ap (allowed true) came
stop_allowed stop.OutOfMemory frames made came = tt
