-- What the reader of modules holds within expressions.
use Rattle.std.proofs.Common.{◌≡◌, ◌∙◌, sym, ap, subst, refl, ℕ, Bool, true, false, List, [], ◌∷◌}
use Rattle.std.proofs.Common.{◌++◌, codes, Some, if◌then◌else◌}
use Rattle.std.proofs.lemmas.Bool.{false≢true}
use Rattle.std.proofs.lemmas.List.{append_assoc}
use Rattle.mdl_lexer.specs.Kinds.{mark_word}
use Rattle.mdl_lexer.specs.declared.token.Token.{Token}
use Rattle.mdl_syntax.specs.declared.names.Span.{Span}
use Rattle.mdl_syntax.specs.Trees.{Tree}
use Rattle.expression_grammar.specs.inside.Machine.{Sort, Mode, Frame, Step, Finish, goes, bad, deep}
use Rattle.expression_grammar.specs.inside.Machine.{is_left_out}
use Rattle.expression_grammar.specs.inside.Machine.{finished, ends_badly, ends_deep, finish, mode_step}
use Rattle.expression_grammar.specs.inside.Machine.{wanted}
use Rattle.expression_grammar.specs.inside.Machine.{semicolon, opening_bracket}
use Rattle.expression_grammar.specs.inside.Sorts.{IsOf}
use Rattle.expression_grammar.specs.inside.Sound.{place}
use Rattle.module_grammar.specs.inside.ModuleStates.{Begun, Front, Site, in_function_body, in_default}
use Rattle.module_grammar.specs.inside.ModuleStates.{in_field_default, in_annotation, in_base, on}
use Rattle.module_grammar.specs.inside.ModuleStates.{within}
use Rattle.module_grammar.specs.inside.ModuleStates.{wrong, too_deep, leaves_out, statement_body, waits}
use Rattle.module_grammar.specs.inside.ModuleStates.{other_version, Outcome, expression, opened}
use Rattle.module_grammar.specs.inside.ModuleMachine.{expression_outcome, closes, closed_by}
use Rattle.module_grammar.specs.inside.ModuleMachine.{closing_outcome, by_finish, value_step_of}
use Rattle.module_grammar.specs.inside.ModuleMachine.{holder_of, annotations_behind, unless_wrong}
use Rattle.module_grammar.specs.inside.ModuleMachine.{index_outcome, opened_step}
use Rattle.module_grammar.specs.inside.ModuleStates.{first_annotation}
use Rattle.module_grammar.specs.inside.ModuleStates.{plain_parameter, function_from}
use Rattle.module_grammar.specs.inside.ModuleHolds.{BegunStands, Then}
use Rattle.module_grammar.specs.inside.ModuleHolds.{SiteHolds, SiteOpened, IsDefault}
use Rattle.module_grammar.specs.inside.ModuleHolds.{HoldsBehind, ValueBehind, FrontStands}
use Rattle.module_grammar.specs.inside.ModuleHolds.{BracketsOpen}
use Rattle.expression_grammar.proofs.HoldLaws.{HoldsAt}
use Rattle.expression_grammar.proofs.CompleteLaws.{finish_sound}
use Rattle.expression_grammar.proofs.SoundLaws.{by_mode}
use Rattle.module_grammar.proofs.ModuleJoinLaws.{OutcomeHolds, stays, then_more, then_map}
use Rattle.module_grammar.proofs.ModuleJoinLaws.{declares}
use Rattle.module_grammar.proofs.ModulePartLaws.{ParameterHolds, plain_holds}
use Rattle.module_grammar.proofs.ModuleDeclareLaws.{field_ends_keeps}
use Rattle.module_grammar.proofs.ModuleParameterLaws.{parameter_ends_keeps, function_part}

abbrev pub IsValueSite : Site → Type 0
IsValueSite (in_annotation holder annotations) = ⊥
IsValueSite (in_base fronted annotations) = ⊥
IsValueSite site = Unit {0}

-- One step within.

abbrev BehindAt : Step → List Token → Type 0
BehindAt (goes mode frames) tokens = HoldsBehind mode frames tokens
BehindAt _ tokens = Unit {0}

behind_at : (step : Step) (token : Token) (mode : Mode) (frames : List Frame) (back : List Token)
    (held : HoldsBehind mode frames back) → HoldsAt step (held.own ++ token ∷ []) →
    BehindAt step (back ++ token ∷ [])
behind_at (goes next below) token mode frames back held holds = record {
  equals = held.equals;
  own = held.own ++ token ∷ [];
  is = held.is;
  holds = holds;
  are = ap (λ t. t ++ token ∷ []) held.are;
}
behind_at bad token mode frames back held holds = tt
behind_at deep token mode frames back held holds = tt
behind_at (is_left_out text) token mode frames back held holds = tt

abbrev pub SiteNext : Site → Step → List Token → Type 0
SiteNext site (goes mode frames) tokens = SiteHolds site mode frames tokens
SiteNext site _ tokens = Unit {0}

site_next : (site : Site) (step : Step) (mode : Mode) (frames : List Frame)
    (own more : List Token) → IsValueSite site → SiteHolds site mode frames own →
    ((back : List Token) → HoldsBehind mode frames back → BehindAt step (back ++ more)) →
    SiteNext site step (own ++ more)
site_next (in_function_body fronted parameters frequency annotations) (goes next below) mode frames
    own more of held go = then_more own more held go
site_next (in_default owner parameters front) (goes next below) mode frames own more of held go =
    then_more own more held (λ back both. then_more back more both go)
site_next (in_field_default struct front) (goes next below) mode frames own more of held go =
    then_more own more held (λ back both. then_more back more both go)
site_next (in_annotation holder annotations) (goes next below) mode frames own more of held go =
    absurd of
site_next (in_base fronted annotations) (goes next below) mode frames own more of held go = absurd of
site_next site bad mode frames own more of held go = tt
site_next site deep mode frames own more of held go = tt
site_next site (is_left_out text) mode frames own more of held go = tt

site_step : (limit : ℕ) (site : Site) (mode : Mode) (frames : List Frame) (sort : Sort)
    (token : Token) (own : List Token) → IsOf sort token.kind → IsValueSite site →
    SiteHolds site mode frames own →
    SiteNext site (mode_step limit mode frames sort (place token)) (own ++ token ∷ [])
site_step limit site mode frames sort token own is of held =
    site_next site (mode_step limit mode frames sort (place token)) mode frames own (token ∷ []) of
    held (λ back behind. behind_at (mode_step limit mode frames sort (place token)) token mode frames
    back behind (by_mode limit mode frames behind.own sort token is behind.holds))

value_stays : (begun : Begun) (site : Site) (mode : Mode) (frames : List Frame) (token : Token)
    (before own : List Token) → IsValueSite site → BegunStands begun before →
    SiteHolds site mode frames (own ++ token ∷ []) →
    OutcomeHolds (on (within begun (expression site mode frames))) ((before ++ own) ++ token ∷ [])
value_stays begun (in_function_body fronted parameters frequency annotations) mode frames token
    before own of stands held =
    stays begun (expression (in_function_body fronted parameters frequency annotations) mode frames)
    before own token stands tt held
value_stays begun (in_default owner parameters front) mode frames token before own of stands held =
    stays begun (expression (in_default owner parameters front) mode frames) before own token stands
    tt held
value_stays begun (in_field_default struct front) mode frames token before own of stands held =
    stays begun (expression (in_field_default struct front) mode frames) before own token stands tt
    held
value_stays begun (in_annotation holder annotations) mode frames token before own of stands held =
    absurd of
value_stays begun (in_base fronted annotations) mode frames token before own of stands held =
    absurd of

outcome_keeps : (begun : Begun) (site : Site) (step : Step) (token : Token)
    (before own : List Token) → IsValueSite site → BegunStands begun before →
    SiteNext site step (own ++ token ∷ []) →
    OutcomeHolds (expression_outcome begun site step) ((before ++ own) ++ token ∷ [])
outcome_keeps begun site (goes mode frames) token before own of stands held =
    value_stays begun site mode frames token before own of stands held
outcome_keeps begun site bad token before own of stands held = tt
outcome_keeps begun site deep token before own of stands held = tt
outcome_keeps begun site (is_left_out text) token before own of stands held = tt

-- Behind the whole expression.

whole_value : (limit : ℕ) (mode : Mode) (frames : List Frame) (tree : Tree) (back : List Token) →
    finish limit mode frames ≡ finished tree → HoldsBehind mode frames back →
    ValueBehind tree back
whole_value limit mode frames tree back ends held = record {
  equals = held.equals;
  own = held.own;
  is = held.is;
  stands = finish_sound limit mode frames held.own tree held.holds ends;
  are = held.are;
}

default_holds : (limit : ℕ) (mode : Mode) (frames : List Frame) (tree : Tree) (front : Front)
    (back : List Token) → finish limit mode frames ≡ finished tree →
    Then (FrontStands front) (HoldsBehind mode frames) back →
    ParameterHolds (plain_parameter front (Some tree)) back
default_holds limit mode frames tree front back ends held =
    subst (ParameterHolds (plain_parameter front (Some tree))) held.are
    (plain_holds front (Some tree) held.front held.back held.one
    (whole_value limit mode frames tree held.back ends held.other))

closed_keeps : (limit : ℕ) (begun : Begun) (site : Site) (mode : Mode) (frames : List Frame)
    (tree : Tree) (sort : Sort) (token : Token) (before own : List Token) → IsOf sort token.kind →
    IsValueSite site → BegunStands begun before → SiteHolds site mode frames own →
    closes site sort ≡ true → finish limit mode frames ≡ finished tree →
    OutcomeHolds (closed_by begun site tree sort (place token)) ((before ++ own) ++ token ∷ [])
closed_keeps limit begun (in_function_body fronted parameters frequency annotations) mode frames tree
    semicolon token before own is of stands held shuts ends =
    declares begun (function_from fronted parameters frequency annotations tree token.end) before own
    token stands (function_part fronted parameters frequency annotations tree token own
    (then_map own held (λ back one. whole_value limit mode frames tree back ends one)) is)
closed_keeps limit begun (in_function_body fronted parameters frequency annotations) mode frames tree
    sort token before own is of stands held shuts ends = absurd (false≢true shuts)
closed_keeps limit begun (in_default owner parameters front) mode frames tree sort token before own
    is of stands held shuts ends =
    parameter_ends_keeps begun owner parameters (plain_parameter front (Some tree)) sort token before
    own is stands (then_map own held
    (λ back one. default_holds limit mode frames tree front back ends one))
closed_keeps limit begun (in_field_default struct front) mode frames tree sort token before own is of
    stands held shuts ends =
    field_ends_keeps begun struct (plain_parameter front (Some tree)) sort token before own is stands
    (then_map own held (λ back one. default_holds limit mode frames tree front back ends one))
closed_keeps limit begun (in_annotation holder annotations) mode frames tree sort token before own is
    of stands held shuts ends = absurd of
closed_keeps limit begun (in_base fronted annotations) mode frames tree sort token before own is of
    stands held shuts ends = absurd of

default_site : (site : Site) → IsValueSite site → closes site opening_bracket ≡ true → IsDefault site
default_site (in_function_body fronted parameters frequency annotations) of shuts =
    absurd (false≢true shuts)
default_site (in_default owner parameters front) of shuts = tt
default_site (in_field_default struct front) of shuts = tt
default_site (in_annotation holder annotations) of shuts = absurd of
default_site (in_base fronted annotations) of shuts = absurd of

closing_keeps : (limit : ℕ) (begun : Begun) (site : Site) (mode : Mode) (frames : List Frame)
    (tree : Tree) (sort : Sort) (token : Token) (before own : List Token) → IsOf sort token.kind →
    IsValueSite site → BegunStands begun before → SiteHolds site mode frames own →
    closes site sort ≡ true → finish limit mode frames ≡ finished tree →
    OutcomeHolds (closing_outcome begun site mode frames tree sort (place token))
    ((before ++ own) ++ token ∷ [])
closing_keeps limit begun site mode frames tree opening_bracket token before own is of stands held
    shuts ends =
    stays begun (opened site mode frames (place token)) before own token stands tt (record {
      front = own;
      last = token;
      one = held;
      form = default_site site of shuts;
      is = is;
      here = refl;
      are = refl;
    })
closing_keeps limit begun site mode frames tree sort token before own is of stands held shuts
    ends =
    closed_keeps limit begun site mode frames tree sort token before own is of stands held shuts
    ends

finish_keeps : (limit : ℕ) (begun : Begun) (site : Site) (mode : Mode) (frames : List Frame)
    (sort : Sort) (token : Token) (before own : List Token) → IsOf sort token.kind →
    IsValueSite site → BegunStands begun before → SiteHolds site mode frames own →
    closes site sort ≡ true → (found : Finish) → finish limit mode frames ≡ found →
    OutcomeHolds (by_finish limit begun site mode frames sort (place token) found)
    ((before ++ own) ++ token ∷ [])
finish_keeps limit begun site mode frames sort token before own is of stands held shuts
    (finished tree) ends =
    closing_keeps limit begun site mode frames tree sort token before own is of stands held shuts
    ends
finish_keeps limit begun site mode frames sort token before own is of stands held shuts ends_deep
    ends = tt
finish_keeps limit begun site mode frames sort token before own is of stands held shuts ends_badly
    ends =
    outcome_keeps begun site (mode_step limit mode frames sort (place token)) token before own of
    stands (site_step limit site mode frames sort token own is of held)

pub value_keeps : (limit : ℕ) (begun : Begun) (site : Site) (mode : Mode) (frames : List Frame)
    (sort : Sort) (token : Token) (before own : List Token) → IsOf sort token.kind →
    IsValueSite site → BegunStands begun before → SiteHolds site mode frames own →
    OutcomeHolds (value_step_of limit begun site mode frames sort (place token))
    ((before ++ own) ++ token ∷ [])
value_keeps limit begun site mode frames sort token before own is of stands held =
    by (closes site sort) refl
  where
    by : (test : Bool) → closes site sort ≡ test →
        OutcomeHolds (if test
        then by_finish limit begun site mode frames sort (place token) (finish limit mode frames)
        else expression_outcome begun site (mode_step limit mode frames sort (place token)))
        ((before ++ own) ++ token ∷ [])
    by true shuts =
        finish_keeps limit begun site mode frames sort token before own is of stands held shuts
        (finish limit mode frames) refl
    by false shuts =
        outcome_keeps begun site (mode_step limit mode frames sort (place token)) token before own of
        stands (site_step limit site mode frames sort token own is of held)

-- Behind `[`.

value_of_default : (site : Site) → IsDefault site → IsValueSite site
value_of_default (in_function_body fronted parameters frequency annotations) of = absurd of
value_of_default (in_default owner parameters front) of = tt
value_of_default (in_field_default struct front) of = tt
value_of_default (in_annotation holder annotations) of = absurd of
value_of_default (in_base fronted annotations) of = absurd of

two_brackets : (one two : Token) → one.kind ≡ mark_word (codes "[") →
    two.kind ≡ mark_word (codes "[") → BracketsOpen (one ∷ two ∷ [])
two_brackets one two is also = record {
  front = one ∷ [];
  last = two;
  one = record { token = one; is = is; are = refl };
  is = also;
  are = refl;
}

both_behind : (front own : List Token) (one two : Token) → front ++ one ∷ [] ≡ own →
    front ++ one ∷ two ∷ [] ≡ own ++ two ∷ []
both_behind front own one two are =
    sym (append_assoc front (one ∷ []) (two ∷ [])) ∙ ap (λ t. t ++ two ∷ []) are

annotations_keep : (limit : ℕ) (begun : Begun) (site : Site) (mode : Mode) (frames : List Frame)
    (bracket : Span) (token : Token) (before own : List Token) →
    token.kind ≡ mark_word (codes "[") → BegunStands begun before →
    SiteOpened site mode frames bracket own → (found : Finish) →
    finish limit mode frames ≡ found →
    OutcomeHolds (annotations_behind begun site found) ((before ++ own) ++ token ∷ [])
annotations_keep limit begun (in_default owner parameters front) mode frames bracket token before own
    is stands held (finished tree) ends =
    stays begun (first_annotation (holder_of (in_default owner parameters front) tree)) before own
    token stands tt (record {
      front = held.front;
      back = held.last ∷ token ∷ [];
      one = then_map held.front held.one (λ back both. then_map back both
          (λ last one. whole_value limit mode frames tree last ends one));
      other = two_brackets held.last token held.is is;
      are = both_behind held.front own held.last token held.are;
    })
annotations_keep limit begun (in_field_default struct front) mode frames bracket token before own is
    stands held (finished tree) ends =
    stays begun (first_annotation (holder_of (in_field_default struct front) tree)) before own token
    stands tt (record {
      front = held.front;
      back = held.last ∷ token ∷ [];
      one = then_map held.front held.one (λ back both. then_map back both
          (λ last one. whole_value limit mode frames tree last ends one));
      other = two_brackets held.last token held.is is;
      are = both_behind held.front own held.last token held.are;
    })
annotations_keep limit begun (in_function_body fronted parameters frequency annotations) mode frames
    bracket token before own is stands held (finished tree) ends = absurd held.form
annotations_keep limit begun (in_annotation holder annotations) mode frames bracket token before own
    is stands held (finished tree) ends = absurd held.form
annotations_keep limit begun (in_base fronted annotations) mode frames bracket token before own is
    stands held (finished tree) ends = absurd held.form
annotations_keep limit begun site mode frames bracket token before own is stands held ends_badly
    ends = tt
annotations_keep limit begun site mode frames bracket token before own is stands held ends_deep
    ends = tt

unless_keeps : (outcome : Outcome) (tokens : List Token) → OutcomeHolds (unless_wrong outcome) tokens
unless_keeps (on state) tokens = tt
unless_keeps (waits state) tokens = tt
unless_keeps wrong tokens = tt
unless_keeps too_deep tokens = tt
unless_keeps (leaves_out earlier text) tokens = tt
unless_keeps statement_body tokens = tt
unless_keeps other_version tokens = tt

index_keeps : (limit : ℕ) (begun : Begun) (site : Site) (step : Step) (sort : Sort) (token : Token)
    (before own : List Token) → IsOf sort token.kind → IsValueSite site →
    BegunStands begun before → SiteNext site step own →
    OutcomeHolds (index_outcome limit begun site sort (place token) step)
    ((before ++ own) ++ token ∷ [])
index_keeps limit begun site (goes mode frames) sort token before own is of stands held =
    outcome_keeps begun site (mode_step limit mode frames sort (place token)) token before own of
    stands (site_step limit site mode frames sort token own is of held)
index_keeps limit begun site bad sort token before own is of stands held = tt
index_keeps limit begun site deep sort token before own is of stands held =
    unless_keeps (expression_outcome begun site (mode_step limit wanted [] sort (place token)))
    ((before ++ own) ++ token ∷ [])
index_keeps limit begun site (is_left_out text) sort token before own is of stands held = tt

pub opened_keeps : (limit : ℕ) (begun : Begun) (site : Site) (mode : Mode) (frames : List Frame)
    (bracket : Span) (sort : Sort) (token : Token) (before own : List Token) →
    IsOf sort token.kind → BegunStands begun before → SiteOpened site mode frames bracket own →
    OutcomeHolds (opened_step limit begun site mode frames bracket sort (place token))
    ((before ++ own) ++ token ∷ [])
opened_keeps limit begun site mode frames bracket opening_bracket token before own is stands held =
    annotations_keep limit begun site mode frames bracket token before own is stands held
    (finish limit mode frames) refl
opened_keeps limit begun site mode frames bracket sort token before own is stands held =
    let of = value_of_default site held.form in
    index_keeps limit begun site (mode_step limit mode frames opening_bracket bracket) sort token
    before own is of stands
    (subst (λ b. SiteNext site (mode_step limit mode frames opening_bracket b) own) (sym held.here)
    (subst (SiteNext site (mode_step limit mode frames opening_bracket (place held.last))) held.are
    (site_step limit site mode frames opening_bracket held.last held.front held.is of held.one)))
