-- What the machine of expressions has read at a site is plain, and a token leads it on.
use Rattle.std.proofs.Common.{◌≡◌, ◌∙◌, sym, ap, subst, refl, ℕ, suc, ◌+◌, Bool, true, false, List}
use Rattle.std.proofs.Common.{[], ◌∷◌, ◌++◌, Option, Some, None, if◌then◌else◌, length}
use Rattle.std.specs.Prelude.{nat_le}
use Rattle.std.proofs.lemmas.Bool.{true≢false, false≢true}
use Rattle.mdl_lexer.specs.declared.token.Token.{Token}
use Rattle.mdl_syntax.specs.declared.names.Span.{Span}
use Rattle.mdl_syntax.specs.Trees.{Tree}
use Rattle.mdl_syntax.specs.Heights.{height}
use Rattle.mdl_syntax.specs.Levelled.{NoneDeferred}
use Rattle.expression_grammar.specs.inside.Machine.{Sort, Mode, Frame, Step, goes, bad, deep, is_left_out}
use Rattle.expression_grammar.specs.inside.Machine.{wanted, complete, part_read, word_read, sized_closed}
use Rattle.expression_grammar.specs.inside.Machine.{in_expression, finish, finished, mode_step}
use Rattle.expression_grammar.specs.inside.Machine.{opening_bracket, is_deferred, allowed, taken, in_index}
use Rattle.expression_grammar.specs.inside.Machine.{around, unless_bad, indexed_tree}
use Rattle.expression_grammar.specs.inside.Leads.{Ends}
use Rattle.module_grammar.specs.inside.ModuleMachine.{room_of, is_call_site}
use Rattle.module_grammar.specs.inside.ModuleStates.{Site, expression}
use Rattle.module_grammar.specs.inside.ModuleMachine.{verdict_in, passes}
use Rattle.module_grammar.specs.inside.ModuleStates.{in_function_body, in_default}
use Rattle.module_grammar.specs.inside.ModuleStates.{in_field_default, in_annotation, in_base}
use Rattle.module_grammar.specs.inside.ModuleMachine.{Verdict, if_deferred, is_bracket}
use Rattle.module_grammar.specs.inside.ModuleMachine.{behind_parameter, deferred_of_owner}
use Rattle.module_grammar.specs.inside.ModuleMachine.{deferred_of_holder}
use Rattle.module_grammar.specs.inside.ModulePlain.{Led, Takes}
use Rattle.expression_grammar.proofs.TakenLaws.{allowed_goes}
use Rattle.expression_grammar.proofs.LeadsLaws.{leads_on, one_step}
use Rattle.expression_grammar.proofs.SoundLaws.{ends_sound}
use Rattle.expression_grammar.proofs.ReadingLaws.{strict_none}
use Rattle.module_grammar.proofs.ModulePlainFronts.{IsPassed}

-- a token leads on, where no deferred size begins with it
pub led_on : (limit : ℕ) (mode : Mode) (frames : List Frame) (sort : Sort) (place : Span)
    (token : Token) →
    Takes token sort place → Led limit mode frames → (after : Mode) (below : List Frame) →
    mode_step limit mode frames sort place ≡ goes after below → is_deferred after ≡ false →
    Led limit after below
led_on limit mode frames sort place token takes (own, leads) after below is plain =
    (own ++ token ∷ [], leads_on leads (one_step went))
  where
    went : taken true limit mode frames token ≡ goes after below
    went = ap (allowed true) (takes.is limit mode frames ∙ is) ∙ allowed_goes true after below plain

-- a whole expression has no deferred size
pub led_tree : (limit : ℕ) (mode : Mode) (frames : List Frame) (tree : Tree) →
    Led limit mode frames →
    finish limit mode frames ≡ finished tree → NoneDeferred tree
led_tree limit mode frames tree (own, leads) is =
    strict_none limit own tree whole (ends_sound true limit own tree whole).writes
  where
    whole : Ends true limit wanted [] own tree
    whole = record { last = mode; last_frames = frames; leads = leads; ends = is }

-- Where a state in an expression is permitted, no deferred size begins.

if_passed : (mode : Mode) (verdict : Verdict) → (verdict ≡ passes → ⊥) →
    if_deferred mode verdict ≡ passes →
    is_deferred mode ≡ false
if_passed mode verdict never passed = by (is_deferred mode) passed
  where
    by : (test : Bool) → (if test then verdict else passes) ≡ passes → test ≡ false
    by true is = absurd (never is)
    by false is = refl

behind_never : (earlier : Option ℕ) → behind_parameter earlier ≡ passes → ⊥
behind_never None is = subst IsPassed (sym is) tt
behind_never (Some at) is = subst IsPassed (sym is) tt

pub passed_plain : (site : Site) (mode : Mode) (frames : List Frame) →
    verdict_in (expression site mode frames) ≡ passes → is_deferred mode ≡ false
passed_plain (in_function_body fronted parameters frequency annotations) wanted [] passed = refl
passed_plain (in_function_body fronted parameters frequency annotations) wanted (frame ∷ frames)
    passed = refl
passed_plain (in_function_body fronted parameters frequency annotations) mode frames passed =
    if_passed mode (behind_parameter None) (behind_never None) passed
passed_plain (in_default owner parameters front) mode frames passed =
    if_passed mode (behind_parameter (deferred_of_owner owner))
    (behind_never (deferred_of_owner owner)) passed
passed_plain (in_field_default held front) mode frames passed =
    if_passed mode (behind_parameter None) (behind_never None) passed
passed_plain (in_annotation holder annotations) mode frames passed =
    if_passed mode (behind_parameter (deferred_of_holder holder))
    (behind_never (deferred_of_holder holder)) passed
passed_plain (in_base fronted annotations) mode frames passed =
    if_passed mode (behind_parameter None) (behind_never None) passed

pub same_room : (limit : ℕ) (site : Site) → is_call_site site ≡ false → room_of limit site ≡ limit
same_room limit (in_function_body fronted parameters frequency annotations) is = refl
same_room limit (in_default owner parameters front) is = refl
same_room limit (in_field_default held front) is = refl
same_room limit (in_annotation holder annotations) is = absurd (true≢false is)
same_room limit (in_base fronted annotations) is = absurd (true≢false is)

-- Behind a whole expression `[` begins no deferred size.

pub bracket_sort : (sort : Sort) → is_bracket sort ≡ true → sort ≡ opening_bracket
bracket_sort opening_bracket is = refl
bracket_sort sort is = absurd (false≢true is)

abbrev pub StepPlain : Step → Type 0
StepPlain (goes mode frames) = is_deferred mode ≡ false
StepPlain _ = Unit {0}

or_deep : (test : Bool) (made : Step) → StepPlain made → StepPlain (if test then made else deep)
or_deep true made is = is
or_deep false made is = tt

around_plain : (limit : ℕ) (frame : Frame) (tree : Tree) (frames : List Frame) →
    StepPlain (around limit frame tree frames)
around_plain limit frame tree frames =
    or_deep (nat_le (length frames + suc (height tree)) limit) (goes wanted (frame ∷ frames)) refl

unless_plain : (limit : ℕ) (frames : List Frame) (need : ℕ) (made : Step) → StepPlain made →
    StepPlain (unless_bad limit frames need made)
unless_plain limit frames need bad is = tt
unless_plain limit frames need (goes mode below) is =
    or_deep (nat_le (length frames + need) limit) (goes mode below) is
unless_plain limit frames need deep is = or_deep (nat_le (length frames + need) limit) deep tt
unless_plain limit frames need (is_left_out text) is =
    or_deep (nat_le (length frames + need) limit) (is_left_out text) tt

pub bracket_plain : (limit : ℕ) (mode : Mode) (frames : List Frame) (tree : Tree) (place : Span) →
    finish limit mode frames ≡ finished tree → StepPlain
    (mode_step limit mode frames opening_bracket place)
bracket_plain limit (complete own) frames tree place is =
    around_plain limit (in_index own) own frames
bracket_plain limit (part_read in_expression path) frames tree place is = refl
bracket_plain limit (word_read in_expression name) frames tree place is = refl
bracket_plain limit (sized_closed name value at end) frames tree place is =
    let own = indexed_tree name value at end in
    unless_plain limit frames 2 (around limit (in_index own) own frames)
    (around_plain limit (in_index own) own frames)
bracket_plain limit mode frames tree place is = cc
