-- A step in the front of a let, or of its body, keeps the state fit.
use Rattle.std.proofs.Common.{◌≡◌, ◌∙◌, sym, subst, refl, arith, ℕ, Bool, true, false, List, []}
use Rattle.std.proofs.Common.{◌∷◌, None, if◌then◌else◌, codes}
use Rattle.std.specs.Prelude.{◌==◌}
use Rattle.std.proofs.lemmas.Bool.{true≢false}
use Rattle.mdl_lexer.specs.declared.token.Kind.{Kind}
use Rattle.mdl_syntax.specs.declared.names.Span.{Span}
use Rattle.mdl_syntax.specs.declared.names.Ident.{Ident}
use Rattle.mdl_syntax.specs.declared.names.Name.{Name}
use Rattle.mdl_syntax.specs.declared.types.TypeTree.{TypeTree}
use Rattle.mdl_syntax.specs.Trees.{initializers_of}
use Rattle.mdl_syntax.specs.Levels.{mark_number}
use Rattle.mdl_syntax.specs.Levelled.{are_initializers}
use Rattle.expression_grammar.specs.inside.Fits.{Fits, ModeSuits, IsInFront}
use Rattle.expression_grammar.specs.inside.Sorts.{IsOf}
use Rattle.expression_grammar.specs.inside.Machine.{equals_step, next_step, in_step, type_step}
use Rattle.expression_grammar.specs.inside.Machine.{head_step, let_begun_step, type_sized_step}
use Rattle.expression_grammar.specs.inside.Machine.{name_wanted_step}
use Rattle.expression_grammar.specs.inside.Machine.{Sort, goes, bad, Mode, Head, identifier}
use Rattle.expression_grammar.specs.inside.Machine.{integer, type_word, binary_operator, double_colon}
use Rattle.expression_grammar.specs.inside.Machine.{closing_bracket, opening_brace, closing_brace, equals}
use Rattle.expression_grammar.specs.inside.Machine.{in_word, frequency_word}
use Rattle.expression_grammar.specs.inside.Machine.{let_begun}
use Rattle.expression_grammar.specs.inside.Machine.{type_bracketed, type_sized, name_wanted}
use Rattle.expression_grammar.specs.inside.Machine.{equals_wanted, next_wanted, in_wanted, Frame, in_let}
use Rattle.expression_grammar.specs.inside.Machine.{deferred_wanted}
use Rattle.expression_grammar.specs.inside.Machine.{deferred_read, deferred_closed, deferred_wanted_step}
use Rattle.expression_grammar.specs.inside.Machine.{deferred_read_step, deferred_closed_step}
use Rattle.expression_grammar.specs.inside.Machine.{type_bracketed_step}
use Rattle.expression_grammar.proofs.KeptLaws.{AllKept, fit, StepFits}

either_fits : (limit : ℕ) (test : Bool) (mode : Mode) (frames : List Frame) →
    Fits limit mode frames → StepFits limit (if test then goes mode frames else bad)
either_fits limit true mode frames fits = fits
either_fits limit false mode frames fits = tt

pub type_fits : (limit : ℕ) (head : Head) (frames : List Frame) (sort : Sort)
    (place : Span) (word : Kind) → IsOf sort word → AllKept limit frames → IsInFront frames →
    StepFits limit (type_step head frames sort place)
type_fits limit head frames (identifier text) place word of all one =
    fit all ((λ e. cc), one)
type_fits limit head frames (type_word number) place word of all one =
    fit all (of.1, one)
type_fits limit head frames double_colon place word of all one =
    fit all one
type_fits limit head frames sort place word of all one = tt

pub head_fits : (limit : ℕ) (frames : List Frame) (sort : Sort) (place : Span) (word : Kind) →
    IsOf sort word → AllKept limit frames → IsInFront frames →
    StepFits limit (head_step frames sort place)
head_fits limit frames (frequency_word freq) place word of all one =
    fit all one
head_fits limit frames sort place word of all one =
    type_fits limit (record { at = place.at; frequency = None }) frames sort place word of all one

pub let_begun_fits : (limit at : ℕ) (frames : List Frame) (sort : Sort)
    (place : Span) (word : Kind) → IsOf sort word → AllKept limit frames →
    ModeSuits limit (let_begun at) frames → StepFits limit (let_begun_step at frames sort place)
let_begun_fits limit at frames opening_brace place word of all one =
    fit ((one.0, tt), one.1, one.2, all) (λ e. refl)
let_begun_fits limit at frames sort place word of all one =
    head_fits limit (in_let (record { at = at; braces = false; initializers = [] }) ∷ frames) sort
    place word of ((one.0, tt), one.1, one.2, all) (λ e. refl)

pub type_bracketed_fits : (limit : ℕ) (head : Head) (name : Name)
    (frames : List Frame) (sort : Sort) → AllKept limit frames →
    ModeSuits limit (type_bracketed head name) frames →
    StepFits limit (type_bracketed_step head name frames sort)
type_bracketed_fits limit head name frames (integer value) all one =
    fit all one
type_bracketed_fits limit head name frames (binary_operator op own) all one =
    either_fits limit (op == mark_number (codes "<")) (deferred_wanted head name) frames
    (fit all one)
type_bracketed_fits limit head name frames sort all one = tt

pub type_sized_fits : (limit : ℕ) (head : Head) (name : Name) (count : ℕ) (frames : List Frame)
    (sort : Sort) (place : Span) → AllKept limit frames →
    ModeSuits limit (type_sized head name count) frames →
    StepFits limit (type_sized_step head name count frames sort place)
type_sized_fits limit head name count frames closing_bracket place all one =
    fit all one
type_sized_fits limit head name count frames sort place all one = tt

pub deferred_wanted_fits : (limit : ℕ) (head : Head) (name : Name)
    (frames : List Frame) (sort : Sort) (place : Span) → AllKept limit frames →
    ModeSuits limit (deferred_wanted head name) frames →
    StepFits limit (deferred_wanted_step head name frames sort place)
deferred_wanted_fits limit head name frames (identifier text) place all one =
    fit all one
deferred_wanted_fits limit head name frames sort place all one = tt

pub deferred_read_fits : (limit : ℕ) (head : Head) (name : Name) (ident : Ident)
    (frames : List Frame) (sort : Sort) → AllKept limit frames →
    ModeSuits limit (deferred_read head name ident) frames →
    StepFits limit (deferred_read_step head name ident frames sort)
deferred_read_fits limit head name ident frames (binary_operator op own) all one =
    either_fits limit (op == mark_number (codes ">")) (deferred_closed head name ident) frames
    (fit all one)
deferred_read_fits limit head name ident frames sort all one = tt

pub deferred_closed_fits : (limit : ℕ) (head : Head) (name : Name) (ident : Ident)
    (frames : List Frame) (sort : Sort) (place : Span) → AllKept limit frames →
    ModeSuits limit (deferred_closed head name ident) frames →
    StepFits limit (deferred_closed_step head name ident frames sort place)
deferred_closed_fits limit head name ident frames closing_bracket place all one =
    fit all one
deferred_closed_fits limit head name ident frames sort place all one = tt

pub name_wanted_fits : (limit : ℕ) (head : Head) (ty : TypeTree) (frames : List Frame) (sort : Sort)
    (place : Span) → AllKept limit frames → ModeSuits limit (name_wanted head ty) frames →
    StepFits limit (name_wanted_step head ty frames sort place)
name_wanted_fits limit head ty frames (identifier text) place all one =
    fit all one
name_wanted_fits limit head ty frames sort place all one = tt

pub equals_fits : (limit : ℕ) (head : Head) (ty : TypeTree) (name : Ident) (frames : List Frame)
    (sort : Sort) → AllKept limit frames → ModeSuits limit (equals_wanted head ty name) frames →
    StepFits limit (equals_step head ty name frames sort)
equals_fits limit head ty name (in_let held ∷ frames) equals all one =
    fit ((all.0.0, all.0.1, one.1, one.0), all.1, all.2, all.3) (tt, omega (arith, all.1))
equals_fits limit head ty name (in_let held ∷ frames) sort all one = tt
equals_fits limit head ty name frames sort all one = absurd one.1

pub next_fits : (limit : ℕ) (frames : List Frame) (sort : Sort) (place : Span) (word : Kind) →
    IsOf sort word → AllKept limit frames → ModeSuits limit next_wanted frames →
    StepFits limit (next_step frames sort place)
next_fits limit (in_let held ∷ frames) closing_brace place word of all one =
    fit all (subst (λ b. are_initializers b (initializers_of held.initializers) ≡ true) (sym one.0)
    one.1)
next_fits limit (in_let held ∷ frames) sort place word of all one =
    head_fits limit (in_let held ∷ frames) sort place word of all
    (λ e. absurd (true≢false (sym one.0 ∙ e)))
next_fits limit frames sort place word of all one = absurd one

pub in_fits : (limit : ℕ) (frames : List Frame) (sort : Sort) → AllKept limit frames →
    ModeSuits limit in_wanted frames → StepFits limit (in_step frames sort)
in_fits limit (in_let held ∷ frames) in_word all one =
    fit ((all.0.0, all.0.1, one), all.1, all.2, all.3) (tt, omega (arith, all.1))
in_fits limit (in_let held ∷ frames) sort all one = tt
in_fits limit frames sort all one = absurd one
