-- What the reader of modules holds through calls that are no expressions: annotations and bases.
use Rattle.std.proofs.Common.{◌≡◌, ap, subst, refl, ℕ, suc, ◌+◌, Bool, true, false, List, []}
use Rattle.std.proofs.Common.{◌∷◌, ◌++◌, codes, Option, if◌then◌else◌, length, nat_le}
use Rattle.std.proofs.lemmas.Bool.{false≢true}
use Rattle.std.proofs.lemmas.List.{append-nil}
use Rattle.mdl_lexer.specs.Kinds.{mark_word}
use Rattle.mdl_lexer.specs.declared.token.Token.{Token}
use Rattle.mdl_syntax.specs.declared.names.Span.{Span}
use Rattle.mdl_syntax.specs.Trees.{call}
use Rattle.mdl_syntax.specs.Modules.{Annotation}
use Rattle.mdl_syntax.specs.WrittenModules.{write_annotation}
use Rattle.mdl_syntax.specs.PlacedModules.{placed_annotation}
use Rattle.expression_grammar.specs.inside.Machine.{Sort, Mode, Frame, Step, goes, bad, deep, is_left_out}
use Rattle.expression_grammar.specs.inside.Machine.{identifier, type_word, double_colon, opening}
use Rattle.expression_grammar.specs.inside.Machine.{closing_bracket, mode_step, wanted, complete}
use Rattle.expression_grammar.specs.inside.Machine.{part_wanted}
use Rattle.expression_grammar.specs.inside.Machine.{part_read, word_read, in_expression}
use Rattle.expression_grammar.specs.inside.Machine as machine
use Rattle.expression_grammar.specs.inside.Sorts.{IsOf}
use Rattle.expression_grammar.specs.inside.Sound.{place, is_wanted, nothing}
use Rattle.module_grammar.specs.inside.ModuleStates.{Begun, Fronted, Holder, in_annotation, in_base}
use Rattle.module_grammar.specs.inside.ModuleStates.{wrong, expression, annotation_read, base_read}
use Rattle.module_grammar.specs.inside.ModuleMachine.{may_name, call_outcome}
use Rattle.module_grammar.specs.inside.ModuleStates.{annotations_closing}
use Rattle.module_grammar.specs.inside.ModuleMachine.{call_step, first_annotation_step}
use Rattle.module_grammar.specs.inside.ModuleStates.{first_annotation}
use Rattle.module_grammar.specs.inside.ModuleHolds.{PositionHolds, BegunStands, EarlyHolder, Then}
use Rattle.module_grammar.specs.inside.ModuleHolds.{AtLeastOne, AnnotationsStand, AnnotationsOpen}
use Rattle.module_grammar.specs.inside.ModuleHolds.{AnnotatedVariant, CallHolds, BaseHolds}
use Rattle.module_grammar.specs.inside.ModuleHolds.{OfCall, Outermost, HoldsBehind}
use Rattle.expression_grammar.proofs.HoldLaws.{HoldsAt}
use Rattle.expression_grammar.proofs.CompleteLaws.{finish_sound}
use Rattle.expression_grammar.proofs.SoundLaws.{by_mode}
use Rattle.module_grammar.proofs.ModuleListLaws.{no_several}
use Rattle.module_grammar.proofs.ModuleJoinLaws.{OutcomeHolds, stays, then_more, then_nothing}
use Rattle.module_grammar.proofs.ModuleJoinLaws.{behind_with}
use Rattle.module_grammar.proofs.ModuleJoinLaws.{regroup, then_map, several_open}
use Rattle.module_grammar.proofs.ModuleFormLaws.{annotation_part}

-- The form of a call is kept.

abbrev pub CallStep : Step → Type 0
CallStep (goes mode frames) = OfCall mode frames
CallStep _ = Unit {0}

-- it is kept within its arguments
abbrev pub FormsKeep : Type 0
FormsKeep =
    (limit : ℕ) (mode : Mode) (frame : Frame) (frames : List Frame) (sort : Sort) (span : Span) →
    Outermost frame frames → CallStep (mode_step limit mode (frame ∷ frames) sort span)

pub within_form : (limit : ℕ) (frames : List Frame) (need : ℕ) (step : Step) → CallStep step →
    CallStep (machine.within limit frames need step)
within_form limit frames need step form = by (nat_le (length frames + need) limit)
  where
    by : (test : Bool) → CallStep (if test then step else deep)
    by true = form
    by false = tt

name_form : (limit : ℕ) (mode : Mode) (sort : Sort) (span : Span) → OfCall mode [] →
    may_name mode sort ≡ true → CallStep (mode_step limit mode [] sort span)
name_form limit wanted (identifier text) span form is =
    within_form limit [] 1 (goes (part_read in_expression (machine.first_part text span)) []) tt
name_form limit wanted (type_word number) span form is =
    within_form limit [] 1 (goes (word_read in_expression (machine.word_name number span)) []) tt
name_form limit wanted double_colon span form is =
    within_form limit [] 1 (goes (part_wanted in_expression (machine.absolute_path span)) []) tt
name_form limit wanted sort span form is = absurd (false≢true is)
name_form limit (part_wanted in_expression path) (identifier text) span form is = tt
name_form limit (part_wanted in_expression path) sort span form is = tt
name_form limit (part_read in_expression path) double_colon span form is = tt
name_form limit (part_read in_expression path) opening span form is = tt
name_form limit (part_read in_expression path) sort span form is = absurd (false≢true is)
name_form limit (word_read in_expression name) opening span form is = tt
name_form limit (word_read in_expression name) sort span form is = absurd (false≢true is)
name_form limit (complete tree) sort span form is = absurd (false≢true is)
name_form limit mode sort span form is = absurd form

-- One step.

abbrev CallAt : Step → List Token → Type 0
CallAt (goes mode frames) tokens = CallHolds mode frames tokens
CallAt _ tokens = Unit {0}

call_at : (step : Step) (tokens : List Token) → HoldsAt step tokens → CallStep step →
    CallAt step tokens
call_at (goes mode frames) tokens holds form = record { holds = holds; form = form }
call_at bad tokens holds form = tt
call_at deep tokens holds form = tt
call_at (is_left_out text) tokens holds form = tt

abbrev BaseAt : Step → List Token → Type 0
BaseAt (goes mode frames) tokens = BaseHolds mode frames tokens
BaseAt _ tokens = Unit {0}

base_at : (step : Step) (token : Token) (mode : Mode) (frames : List Frame) (back : List Token)
    (held : HoldsBehind mode frames back) → HoldsAt step (held.own ++ token ∷ []) →
    CallStep step → BaseAt step (back ++ token ∷ [])
base_at (goes next below) token mode frames back held holds form = record {
  behind = record {
    equals = held.equals;
    own = held.own ++ token ∷ [];
    is = held.is;
    holds = holds;
    are = ap (λ t. t ++ token ∷ []) held.are;
  };
  form = form;
}
base_at bad token mode frames back held holds form = tt
base_at deep token mode frames back held holds form = tt
base_at (is_left_out text) token mode frames back held holds form = tt

-- Annotations.

annotation_outcome : (begun : Begun) (holder : Holder) (annotations : List Annotation) (step : Step)
    (token : Token) (before own : List Token) → BegunStands begun before →
    EarlyHolder holder begun →
    Then (AnnotationsOpen holder annotations) (CallAt step) (own ++ token ∷ []) →
    OutcomeHolds (call_outcome begun (in_annotation holder annotations) step)
    ((before ++ own) ++ token ∷ [])
annotation_outcome begun holder annotations (goes (complete (call name arguments span)) []) token
    before own stands early held =
    stays begun (annotation_read holder (annotations ++ one ∷ [])) before own token stands early
    (then_map (own ++ token ∷ []) (regroup (own ++ token ∷ []) held)
    (λ back both. subst (AtLeastOne AnnotationsStand (annotations ++ one ∷ []))
    both.are (several_open write_annotation placed_annotation annotations one
    both.front both.back both.one (annotation_part name arguments span both.back
    (finish_sound 0 (complete (call name arguments span)) [] both.back (call name arguments span)
    both.other.holds refl)))))
  where
    one : Annotation
    one = record { name = name; arguments = arguments; span = span }
annotation_outcome begun holder annotations (goes (complete tree) []) token before own stands early
    held = absurd held.other.form
annotation_outcome begun holder annotations (goes mode frames) token before own stands early held =
    stays begun (expression (in_annotation holder annotations) mode frames) before own token stands
    early held
annotation_outcome begun holder annotations bad token before own stands early held = tt
annotation_outcome begun holder annotations deep token before own stands early held = tt
annotation_outcome begun holder annotations (is_left_out text) token before own stands early held = tt

annotation_step : (limit : ℕ) (begun : Begun) (holder : Holder) (annotations : List Annotation)
    (mode : Mode) (frames : List Frame) (sort : Sort) (token : Token) (before own : List Token) →
    IsOf sort token.kind → BegunStands begun before → EarlyHolder holder begun →
    Then (AnnotationsOpen holder annotations) (CallHolds mode frames) own →
    CallStep (mode_step (suc limit) mode frames sort (place token)) →
    OutcomeHolds (call_outcome begun (in_annotation holder annotations)
    (mode_step (suc limit) mode frames sort (place token))) ((before ++ own) ++ token ∷ [])
annotation_step limit begun holder annotations mode frames sort token before own is stands early held
    form =
    let step = mode_step (suc limit) mode frames sort (place token) in
    annotation_outcome begun holder annotations step token before own stands early
    (then_more own (token ∷ []) held
    (λ back call. call_at step (back ++ token ∷ [])
    (by_mode (suc limit) mode frames back sort token is call.holds) form))

pub annotation_call_keeps : FormsKeep → (limit : ℕ) (begun : Begun) (holder : Holder)
    (annotations : List Annotation) (mode : Mode) (frames : List Frame) (sort : Sort)
    (token : Token) (before own : List Token) → IsOf sort token.kind → BegunStands begun before →
    EarlyHolder holder begun →
    Then (AnnotationsOpen holder annotations) (CallHolds mode frames) own →
    OutcomeHolds (call_step limit begun (in_annotation holder annotations) mode frames sort
    (place token)) ((before ++ own) ++ token ∷ [])
annotation_call_keeps forms limit begun holder annotations mode [] sort token before own is stands
    early held = by (may_name mode sort) refl
  where
    by : (test : Bool) → may_name mode sort ≡ test →
        OutcomeHolds (if test then call_outcome begun (in_annotation holder annotations)
        (mode_step (suc limit) mode [] sort (place token)) else wrong)
        ((before ++ own) ++ token ∷ [])
    by true may =
        annotation_step limit begun holder annotations mode [] sort token before own is stands early
        held (name_form (suc limit) mode sort (place token) held.other.form may)
    by false may = tt
annotation_call_keeps forms limit begun holder annotations mode (frame ∷ frames) sort token before own
    is stands early held =
    annotation_step limit begun holder annotations mode (frame ∷ frames) sort token before own is
    stands early held (forms (suc limit) mode frame frames sort (place token) held.other.form)

pub first_annotation_keeps : FormsKeep → (limit : ℕ) (begun : Begun) (holder : Holder) (sort : Sort)
    (token : Token) (before own : List Token) → IsOf sort token.kind → BegunStands begun before →
    EarlyHolder holder begun → PositionHolds (first_annotation holder) own →
    OutcomeHolds (first_annotation_step limit begun holder sort (place token))
    ((before ++ own) ++ token ∷ [])
first_annotation_keeps forms limit begun holder closing_bracket token before own is stands early
    held =
    stays begun (annotations_closing holder []) before own token stands early
    (behind_with (mark_word (codes "]")) own token (record {
      front = own;
      back = [];
      one = held;
      other = no_several write_annotation placed_annotation;
      are = append-nil own;
    }) is)
first_annotation_keeps forms limit begun holder sort token before own is stands early held =
    annotation_call_keeps forms limit begun holder [] wanted [] sort token before own is stands early
    (record {
      front = own;
      back = [];
      one = then_nothing own held;
      other = record { holds = is_wanted [] [] nothing; form = tt };
      are = append-nil own;
    })

-- Bases.

base_outcome : (begun : Begun) (fronted : Fronted) (annotations : Option (List Annotation))
    (step : Step) (token : Token) (before own : List Token) → BegunStands begun before →
    Then (AnnotatedVariant fronted annotations) (BaseAt step) (own ++ token ∷ []) →
    OutcomeHolds (call_outcome begun (in_base fronted annotations) step)
    ((before ++ own) ++ token ∷ [])
base_outcome begun fronted annotations (goes (complete (call name arguments span)) []) token before
    own stands held =
    stays begun (base_read fronted annotations one) before own token stands tt
    (then_map (own ++ token ∷ []) held
    (λ back base. let b = base.behind in record {
      equals = b.equals;
      own = b.own;
      is = b.is;
      stands = annotation_part name arguments span b.own
          (finish_sound 0 (complete (call name arguments span)) [] b.own
          (call name arguments span) b.holds refl);
      are = b.are;
    }))
  where
    one : Annotation
    one = record { name = name; arguments = arguments; span = span }
base_outcome begun fronted annotations (goes (complete tree) []) token before own stands held =
    absurd held.other.form
base_outcome begun fronted annotations (goes mode frames) token before own stands held =
    stays begun (expression (in_base fronted annotations) mode frames) before own token stands tt held
base_outcome begun fronted annotations bad token before own stands held = tt
base_outcome begun fronted annotations deep token before own stands held = tt
base_outcome begun fronted annotations (is_left_out text) token before own stands held = tt

base_step_keeps : (limit : ℕ) (begun : Begun) (fronted : Fronted)
    (annotations : Option (List Annotation)) (mode : Mode) (frames : List Frame) (sort : Sort)
    (token : Token) (before own : List Token) → IsOf sort token.kind → BegunStands begun before →
    Then (AnnotatedVariant fronted annotations) (BaseHolds mode frames) own →
    CallStep (mode_step (suc limit) mode frames sort (place token)) →
    OutcomeHolds (call_outcome begun (in_base fronted annotations)
    (mode_step (suc limit) mode frames sort (place token))) ((before ++ own) ++ token ∷ [])
base_step_keeps limit begun fronted annotations mode frames sort token before own is stands held form =
    let step = mode_step (suc limit) mode frames sort (place token) in
    base_outcome begun fronted annotations step token before own stands
    (then_more own (token ∷ []) held
    (λ back base. base_at step token mode frames back base.behind
    (by_mode (suc limit) mode frames base.behind.own sort token is base.behind.holds) form))

pub base_call_keeps : FormsKeep → (limit : ℕ) (begun : Begun) (fronted : Fronted)
    (annotations : Option (List Annotation)) (mode : Mode) (frames : List Frame) (sort : Sort)
    (token : Token) (before own : List Token) → IsOf sort token.kind → BegunStands begun before →
    Then (AnnotatedVariant fronted annotations) (BaseHolds mode frames) own →
    OutcomeHolds (call_step limit begun (in_base fronted annotations) mode frames sort
    (place token)) ((before ++ own) ++ token ∷ [])
base_call_keeps forms limit begun fronted annotations mode [] sort token before own is stands held =
    by (may_name mode sort) refl
  where
    by : (test : Bool) → may_name mode sort ≡ test →
        OutcomeHolds (if test then call_outcome begun (in_base fronted annotations)
        (mode_step (suc limit) mode [] sort (place token)) else wrong)
        ((before ++ own) ++ token ∷ [])
    by true may =
        base_step_keeps limit begun fronted annotations mode [] sort token before own is stands held
        (name_form (suc limit) mode sort (place token) held.other.form may)
    by false may = tt
base_call_keeps forms limit begun fronted annotations mode (frame ∷ frames) sort token before own is
    stands held =
    base_step_keeps limit begun fronted annotations mode (frame ∷ frames) sort token before own is
    stands held (forms (suc limit) mode frame frames sort (place token) held.other.form)
