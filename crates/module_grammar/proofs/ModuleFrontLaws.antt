-- What the reader of modules holds through types and the names behind them.
use Rattle.std.proofs.Common.{◌≡◌, ◌∙◌, ◌==◌, sym, ap, subst, refl, arith, ℕ, Bool, true, false}
use Rattle.std.proofs.Common.{List, [], ◌∷◌, ◌++◌, length, codes, Option, Some, None}
use Rattle.std.proofs.Common.{if◌then◌else◌}
use Rattle.mdl_lexer.specs.declared.token.Token.{Token}
use Rattle.mdl_syntax.specs.declared.names.Span.{Span}
use Rattle.mdl_syntax.specs.declared.names.Ident.{Ident}
use Rattle.mdl_syntax.specs.declared.types.TypeTree.{TypeTree}
use Rattle.mdl_syntax.specs.Levels.{mark_number}
use Rattle.mdl_syntax.specs.Words.{frequency_words}
use Rattle.mdl_syntax.specs.Placed.{place_of}
use Rattle.mdl_syntax.specs.Modules.{Parameter}
use Rattle.expression_grammar.specs.Readings.{kinds}
use Rattle.expression_grammar.specs.inside.Machine.{Sort, Mode, Head, Step, goes, bad, deep, is_left_out}
use Rattle.expression_grammar.specs.inside.Machine.{identifier, integer, type_word, binary_operator}
use Rattle.expression_grammar.specs.inside.Machine.{double_colon, opening_bracket, closing_bracket}
use Rattle.expression_grammar.specs.inside.Machine.{frequency_word, part_wanted, part_read, word_read}
use Rattle.expression_grammar.specs.inside.Machine.{type_wanted, type_bracketed, type_sized}
use Rattle.expression_grammar.specs.inside.Machine.{deferred_wanted}
use Rattle.expression_grammar.specs.inside.Machine.{deferred_read, deferred_closed, name_wanted}
use Rattle.expression_grammar.specs.inside.Machine.{equals_wanted, in_type, mode_step, type_step}
use Rattle.expression_grammar.specs.inside.Machine.{head_step}
use Rattle.expression_grammar.specs.inside.Machine.{ident_at, is_deferred}
use Rattle.expression_grammar.specs.inside.Sound.{Around, nothing, HeadStands, with_frequency}
use Rattle.expression_grammar.specs.inside.Sound.{without_frequency, of_type, Holds, equals_is_wanted}
use Rattle.expression_grammar.specs.inside.Sound.{place}
use Rattle.module_grammar.specs.inside.ModuleParts.{First}
use Rattle.module_grammar.specs.inside.ModuleStates.{Begun, Named, Owner, of_function}
use Rattle.module_grammar.specs.inside.ModuleStates.{of_annotation, Fronting, of_declaration}
use Rattle.module_grammar.specs.inside.ModuleMachine.{deferred_owner}
use Rattle.module_grammar.specs.inside.ModuleStates.{of_parameter, of_field}
use Rattle.module_grammar.specs.inside.ModuleMachine.{front_from, named_state, deferred_state}
use Rattle.module_grammar.specs.inside.ModuleMachine.{front_goes, front_outcome}
use Rattle.module_grammar.specs.inside.ModuleStates.{on, within, fronting}
use Rattle.module_grammar.specs.inside.ModuleHolds.{HeadIn, HeadOf, FrontBase, FrontStands}
use Rattle.module_grammar.specs.inside.ModuleHolds.{BegunStands, OwnerStands, ParametersOpen}
use Rattle.module_grammar.specs.inside.ModuleHolds.{ModuleHolds, WithinHolds}
use Rattle.expression_grammar.proofs.HoldLaws.{HoldsAt}
use Rattle.module_grammar.proofs.ModuleJoinLaws.{OutcomeHolds}

-- Modes within a type go on to such modes.

abbrev pub StepIn : (Head → Type 0) → Step → Type 0
StepIn Is (goes mode frames) = HeadIn Is mode × (frames ≡ [])
StepIn Is _ = Unit {0}

operator_in : (Is : Head → Type 0) (mode : Mode) (test : Bool) → HeadIn Is mode →
    StepIn Is (if test then goes mode [] else bad)
operator_in Is mode true is = (is, refl)
operator_in Is mode false is = tt

pub mode_in : (Is : Head → Type 0) (limit : ℕ) (mode : Mode) (sort : Sort) (span : Span) →
    HeadIn Is mode → StepIn Is (mode_step limit mode [] sort span)
mode_in Is limit (part_wanted (in_type head) path) (identifier text) span is = (is, refl)
mode_in Is limit (part_wanted (in_type head) path) sort span is = tt
mode_in Is limit (part_read (in_type head) path) double_colon span is = (is, refl)
mode_in Is limit (part_read (in_type head) path) opening_bracket span is = (is, refl)
mode_in Is limit (part_read (in_type head) path) (identifier text) span is = (is, refl)
mode_in Is limit (part_read (in_type head) path) sort span is = tt
mode_in Is limit (word_read (in_type head) name) opening_bracket span is = (is, refl)
mode_in Is limit (word_read (in_type head) name) (identifier text) span is = (is, refl)
mode_in Is limit (word_read (in_type head) name) sort span is = tt
mode_in Is limit (type_wanted head) double_colon span is = (is, refl)
mode_in Is limit (type_wanted head) (identifier text) span is = (is, refl)
mode_in Is limit (type_wanted head) (type_word number) span is = (is, refl)
mode_in Is limit (type_wanted head) sort span is = tt
mode_in Is limit (type_bracketed head name) (integer value) span is = (is, refl)
mode_in Is limit (type_bracketed head name) (binary_operator op level) span is =
    operator_in Is (deferred_wanted head name) (op == mark_number (codes "<")) is
mode_in Is limit (type_bracketed head name) sort span is = tt
mode_in Is limit (type_sized head name value) closing_bracket span is = (is, refl)
mode_in Is limit (type_sized head name value) sort span is = tt
mode_in Is limit (deferred_wanted head name) (identifier text) span is = (is, refl)
mode_in Is limit (deferred_wanted head name) sort span is = tt
mode_in Is limit (deferred_read head name ident) (binary_operator op level) span is =
    operator_in Is (deferred_closed head name ident) (op == mark_number (codes ">")) is
mode_in Is limit (deferred_read head name ident) sort span is = tt
mode_in Is limit (deferred_closed head name ident) closing_bracket span is = (is, refl)
mode_in Is limit (deferred_closed head name ident) sort span is = tt
mode_in Is limit (name_wanted head ty) (identifier text) span is = (is, refl)
mode_in Is limit (name_wanted head ty) sort span is = tt
mode_in Is limit (equals_wanted head ty name) sort span is = tt
mode_in Is limit mode sort span is = absurd is

pub type_in : (Is : Head → Type 0) (head : Head) (sort : Sort) (span : Span) → Is head →
    StepIn Is (type_step head [] sort span)
type_in Is head double_colon span is = (is, refl)
type_in Is head (identifier text) span is = (is, refl)
type_in Is head (type_word number) span is = (is, refl)
type_in Is head sort span is = tt

pub head_in : (Is : Head → Type 0) (sort : Sort) (span : Span) → ((head : Head) → Is head) →
    StepIn Is (head_step [] sort span)
head_in Is (frequency_word freq) span is = (is (record { at = span.at; frequency = Some freq }), refl)
head_in Is sort span is =
    type_in Is (record { at = span.at; frequency = None }) sort span
    (is (record { at = span.at; frequency = None }))

-- A whole front.

none_around : (before : List Token) → Around [] before → before ≡ []
none_around _ nothing = refl

head_often : (head : Head) (heads : List Token) → HeadStands head heads →
    frequency_words head.frequency ≡ kinds heads
head_often _ _ (with_frequency word head at is) = is
head_often _ _ (without_frequency head none) = ap frequency_words none

first_at : (at : ℕ) (heads types : List Token) → (types ≡ [] → ⊥) →
    at ≡ (place_of (heads ++ types)).at → First at (heads ++ types)
first_at at [] [] some is = absurd (some refl)
first_at at [] (token ∷ types) some is = is
first_at at (head ∷ heads) types some is = is

front_read : (head : Head) (ty : TypeTree) (name : Ident) (tokens : List Token) →
    Holds (equals_wanted head ty name) [] tokens → FrontStands (front_from head ty name) tokens
front_read _ _ _ _ (equals_is_wanted frames before heads types head ty text word around
    (of_type _ _ _ stands at) typed is) =
    subst (FrontStands (front_from head ty (ident_at text (place word))))
    (ap (λ b. b ++ (heads ++ (types ++ word ∷ []))) (sym (none_around before around))) (record {
      frequencies = heads;
      types = types;
      names = word ∷ [];
      often = head_often head heads stands;
      typed = typed;
      name = record { token = word; text = text; is = is; names = refl; are = refl };
      first = first_at head.at heads types typed.some at;
      are = refl;
    })

-- where a size is deferred, the owner of the parameters stands for the same
kept_owner : (owner : Owner) (at : ℕ) (tokens : List Token) → OwnerStands owner tokens →
    OwnerStands (deferred_owner owner at) tokens
kept_owner (of_function fronted) at tokens stands =
    by fronted.named fronted.ty fronted.deferred stands
  where
    by : (named : Named) (ty : TypeTree) (deferred : Option ℕ) →
        OwnerStands (of_function (record { named = named; ty = ty; deferred = deferred })) tokens →
        OwnerStands (deferred_owner (of_function
        (record { named = named; ty = ty; deferred = deferred })) at) tokens
    by named ty None stands = stands
    by named ty (Some earlier) stands = stands
kept_owner (of_annotation named) at tokens stands = stands

deferred_base : (owner : Owner) (parameters : List Parameter) (at : ℕ) (tokens : List Token) →
    ParametersOpen owner parameters tokens →
    ParametersOpen (deferred_owner owner at) parameters tokens
deferred_base owner parameters at tokens held = record {
  front = held.front;
  back = held.back;
  one = record {
    front = held.one.front;
    last = held.one.last;
    one = kept_owner owner at held.one.front held.one.one;
    is = held.one.is;
    are = held.one.are;
  };
  other = held.other;
  are = held.are;
}

-- Steps.

fronts : (begun : Begun) (of : Fronting) (mode : Mode) (before front back : List Token) →
    BegunStands begun before → FrontBase of front back → Holds mode [] back →
    HeadIn (HeadOf of) mode → WithinHolds begun (fronting of mode) (before ++ (front ++ back))
fronts begun of mode before front back stands base holds form = record {
  before = before;
  own = front ++ back;
  stands = stands;
  early = tt;
  holds = record {
    front = front;
    back = back;
    base = base;
    holds = holds;
    form = form;
    are = refl;
  };
  are = refl;
}

deferred_keeps : (number : ℕ) (begun : Begun) (of : Fronting) (mode : Mode)
    (before front back : List Token) → BegunStands begun before → FrontBase of front back →
    Holds mode [] back → HeadIn (HeadOf of) mode →
    OutcomeHolds (deferred_state number begun of mode) (before ++ (front ++ back))
deferred_keeps number begun (of_parameter owner parameters) mode before front back stands base holds
    form =
    fronts begun (of_parameter (deferred_owner owner number) parameters) mode before front back
    stands (deferred_base owner parameters number front base) holds form
deferred_keeps number begun (of_declaration at exported) mode before front back stands base holds
    form = fronts begun (of_declaration at exported) mode before front back stands base holds form
deferred_keeps number begun (of_field held) mode before front back stands base holds form =
    fronts begun (of_field held) mode before front back stands base holds form

no_heads : (head : Head) (heads : List Token) → head.frequency ≡ None →
    frequency_words head.frequency ≡ kinds heads → heads ≡ []
no_heads head [] none is = refl
no_heads head (token ∷ heads) none is =
    absurd (omega (arith, ap length (ap frequency_words (sym none) ∙ is)))

shorter_first : (at : ℕ) (front types names : List Token) → (types ≡ [] → ⊥) →
    First at (front ++ (types ++ names)) → First at (front ++ types)
shorter_first at [] [] names some first = absurd (some refl)
shorter_first at [] (token ∷ types) names some first = first
shorter_first at (token ∷ front) types names some first = first

named_keeps : (begun : Begun) (of : Fronting) (head : Head) (ty : TypeTree) (name : Ident)
    (before front back : List Token) → BegunStands begun before → FrontBase of front back →
    FrontStands (front_from head ty name) back → HeadOf of head →
    ModuleHolds (named_state begun of head ty name) (before ++ (front ++ back))
named_keeps begun (of_declaration at exported) head ty name before front back stands base held form =
    let alone : held.types ++ held.names ≡ back =
    ap (λ h. h ++ (held.types ++ held.names)) (sym (no_heads head held.frequencies form held.often))
    ∙ held.are in
    record {
      before = before;
      own = front ++ back;
      stands = stands;
      early = tt;
      holds = record {
        exports = front;
        types = held.types;
        names = held.names;
        exporting = base.0;
        typed = held.typed;
        name = held.name;
        first = shorter_first at front held.types held.names held.typed.some
            (subst (λ b. First at (front ++ b)) (sym alone) base.1);
        are = ap (λ b. front ++ b) alone;
      };
      are = refl;
    }
named_keeps begun (of_parameter owner parameters) head ty name before front back stands base held
    form = record {
      before = before;
      own = front ++ back;
      stands = stands;
      early = tt;
      holds = record { front = front; back = back; one = base; other = held; are = refl };
      are = refl;
    }
named_keeps begun (of_field struct) head ty name before front back stands base held form = record {
  before = before;
  own = front ++ back;
  stands = stands;
  early = tt;
  holds = record { front = front; back = back; one = base; other = held; are = refl };
  are = refl;
}

unnamed_keeps : (number : ℕ) (begun : Begun) (of : Fronting) (mode : Mode)
    (before front back : List Token) → BegunStands begun before → FrontBase of front back →
    Holds mode [] back → HeadIn (HeadOf of) mode →
    OutcomeHolds (if is_deferred mode then deferred_state number begun of mode
    else on (within begun (fronting of mode))) (before ++ (front ++ back))
unnamed_keeps number begun of mode before front back stands base holds form = by (is_deferred mode)
  where
    by : (test : Bool) → OutcomeHolds (if test then deferred_state number begun of mode
        else on (within begun (fronting of mode))) (before ++ (front ++ back))
    by true = deferred_keeps number begun of mode before front back stands base holds form
    by false = fronts begun of mode before front back stands base holds form

goes_keeps : (number : ℕ) (begun : Begun) (of : Fronting) (mode : Mode)
    (before front back : List Token) → BegunStands begun before → FrontBase of front back →
    Holds mode [] back → HeadIn (HeadOf of) mode →
    OutcomeHolds (front_goes number begun of mode) (before ++ (front ++ back))
goes_keeps number begun of (equals_wanted head ty name) before front back stands base holds form =
    named_keeps begun of head ty name before front back stands base
    (front_read head ty name back holds) form
goes_keeps number begun of mode before front back stands base holds form =
    unnamed_keeps number begun of mode before front back stands base holds form

pub front_outcome_keeps : (number : ℕ) (begun : Begun) (of : Fronting) (step : Step)
    (before front back : List Token) → BegunStands begun before → FrontBase of front back →
    HoldsAt step back → StepIn (HeadOf of) step →
    OutcomeHolds (front_outcome number begun of step) (before ++ (front ++ back))
front_outcome_keeps number begun of (goes mode frames) before front back stands base holds form =
    goes_keeps number begun of mode before front back stands base
    (subst (λ f. Holds mode f back) form.1 holds) form.0
front_outcome_keeps number begun of bad before front back stands base holds form = tt
front_outcome_keeps number begun of deep before front back stands base holds form = tt
front_outcome_keeps number begun of (is_left_out text) before front back stands base holds form = tt

pub base_longer : (of : Fronting) (front back more : List Token) → FrontBase of front back →
    FrontBase of front (back ++ more)
base_longer (of_declaration at exported) front back more base =
    (base.0, longer at front back more base.1)
  where
    longer : (at : ℕ) (front back more : List Token) → First at (front ++ back) →
        First at (front ++ (back ++ more))
    longer at [] [] more first = absurd first
    longer at [] (token ∷ back) more first = first
    longer at (token ∷ front) back more first = first
base_longer (of_parameter owner parameters) front back more base = base
base_longer (of_field held) front back more base = base
