-- An expression that is begun in a module can be led to its end, and so to the end of the module.
use Rattle.std.proofs.Common.{◌≡◌, ◌∙◌, sym, ap, subst, refl, ℕ, ◌+◌, Bool, true, false}
use Rattle.std.proofs.Common.{List, [], ◌∷◌, ◌++◌, Option, Some, None, codes, length}
use Rattle.std.proofs.Common.{if◌then◌else◌}
use Rattle.std.specs.Prelude.{nat_le}
use Rattle.std.proofs.lemmas.Bool.{false≢true}
use Rattle.mdl_lexer.specs.declared.token.Token.{Token}
use Rattle.mdl_syntax.specs.declared.names.Span.{Span}
use Rattle.mdl_syntax.specs.declared.types.Freq.{Freq}
use Rattle.mdl_syntax.specs.Trees.{Tree}
use Rattle.mdl_syntax.specs.Modules.{Annotation, Parameter}
use Rattle.expression_grammar.specs.inside.Fits.{Fits}
use Rattle.expression_grammar.specs.inside.Leads.{Leads, here, next}
use Rattle.expression_grammar.specs.inside.Machine.{Sort, sort_of, Mode, Frame, Step, Finish, goes, bad}
use Rattle.expression_grammar.specs.inside.Machine.{deep, is_left_out, left_out, opening, wanted, complete}
use Rattle.expression_grammar.specs.inside.Machine.{part_read, word_read, sized_closed, in_expression}
use Rattle.expression_grammar.specs.inside.Machine.{indexed_tree, reduced, whole, unless_bad}
use Rattle.expression_grammar.specs.inside.Machine.{unless_bad_end, complete_step, mode_step, sort_step}
use Rattle.expression_grammar.specs.inside.Machine.{finish, finished, ends_badly, ends_deep, is_deferred}
use Rattle.expression_grammar.specs.inside.Machine.{allowed, taken, semicolon, closing}
use Rattle.expression_grammar.specs.inside.Machine.{name_tree, path_name}
use Rattle.module_grammar.specs.inside.ModuleMachine.{Verdict}
use Rattle.module_grammar.specs.inside.ModuleStates.{State, Begun, Site, on, within}
use Rattle.module_grammar.specs.inside.ModuleStates.{expression, in_function_body, in_default}
use Rattle.module_grammar.specs.inside.ModuleStates.{in_field_default}
use Rattle.module_grammar.specs.inside.ModuleMachine.{is_call_site, closes}
use Rattle.module_grammar.specs.inside.ModuleStates.{in_annotation, in_base}
use Rattle.module_grammar.specs.inside.ModuleMachine.{state_step, module_sort_step}
use Rattle.module_grammar.specs.inside.ModuleMachine.{by_finish, value_step_of, expression_outcome}
use Rattle.module_grammar.specs.inside.ModuleStates.{Fronted, Front, Owner, Struct}
use Rattle.module_grammar.specs.inside.ModuleMachine.{call_step, permitted_state, judged, before_body}
use Rattle.module_grammar.specs.inside.ModuleMachine.{behind_parameter, deferred_of_site}
use Rattle.module_grammar.specs.inside.ModuleMachine.{passes}
use Rattle.module_grammar.specs.inside.ModuleStates.{plain_parameter}
use Rattle.expression_grammar.specs.inside.Sound.{place}
use Rattle.expression_grammar.proofs.TakenLaws.{taken_goes}
use Rattle.module_grammar.proofs.ModuleReadsParts.{IsKept}
use Rattle.module_grammar.proofs.ModuleViableParts.{ModuleViable, led, led_if, whole_end}
use Rattle.module_grammar.proofs.ModuleViableParts.{parameters_viable, parameters_permitted}
use Rattle.module_grammar.proofs.ModuleViableParts.{fields_viable, semicolon_mark}
use Rattle.expression_grammar.proofs.ShutLaws.{mark}
use Rattle.expression_grammar.proofs.ViableLaws.{viable_strictly}

-- What a step says.

abbrev IsGoing : Step → Type 0
IsGoing (goes mode frames) = Unit {0}
IsGoing _ = ⊥

abbrev StepsTo : ℕ → Mode → List Frame → Sort → Span → Mode → List Frame → Type 0
StepsTo limit mode frames sort at later below =
    mode_step limit mode frames sort at ≡ goes later below

-- a token that is taken isn't left out
kept_sort : (limit : ℕ) (mode : Mode) (frames : List Frame) (sort : Sort) (at : Span) (later : Mode)
    (below : List Frame) → sort_step limit mode frames sort at ≡ goes later below →
    IsKept sort × StepsTo limit mode frames sort at later below
kept_sort limit mode frames (left_out text) at later below is =
    absurd (subst IsGoing (sym is) tt)
kept_sort limit mode frames sort at later below is = (tt, is)

plain_taken : (test : Bool) (text : List ℕ) (mode later : Mode) (frames below : List Frame) →
    (if test then is_left_out text else goes mode frames) ≡ goes later below → test ≡ false
plain_taken true text mode later frames below is = absurd (subst IsGoing (sym is) tt)
plain_taken false text mode later frames below is = refl

pub taken_plain : (limit : ℕ) (mode : Mode) (frames : List Frame) (token : Token) (later : Mode)
    (below : List Frame) → taken true limit mode frames token ≡ goes later below →
    is_deferred later ≡ false
taken_plain limit mode frames token later below is =
    plain_taken (is_deferred later) (codes "deferred-size") later later below below
    (sym (ap (allowed true) (taken_goes true limit mode frames token later below is)) ∙ is)

pub record Stepped (strict : Bool) (limit : ℕ) (mode : Mode) (frames : List Frame) (token : Token)
    (later : Mode) (below : List Frame) : Type 0 where
  pub kept : IsKept (sort_of token.kind)
  pub steps : mode_step limit mode frames (sort_of token.kind) (place token)
      ≡ goes later below
  pub plain : strict ≡ true → is_deferred later ≡ false

pub stepped : (strict : Bool) (limit : ℕ) (mode : Mode) (frames : List Frame) (token : Token)
    (later : Mode) (below : List Frame) →
    taken strict limit mode frames token ≡ goes later below →
    Stepped strict limit mode frames token later below
stepped strict limit mode frames token later below is =
    let both = kept_sort limit mode frames (sort_of token.kind) (place token) later below
    (taken_goes strict limit mode frames token later below is) in record {
      kept = both.0;
      steps = both.1;
      plain = λ strictly. taken_plain limit mode frames token later below
          (subst (λ b. taken b limit mode frames token ≡ goes later below) strictly is);
    }

-- What is permitted.

-- no parameter of a function has a deferred size, where its body begins
abbrev pub IsBodyPlain : Site → Type 0
IsBodyPlain (in_function_body fronted parameters frequency annotations) = fronted.deferred ≡ None
IsBodyPlain site = Unit {0}

by_deferred : (state : State) (verdict : Verdict) (test : Bool) → test ≡ false →
    judged state (if test then verdict else passes) ≡ on state
by_deferred state verdict true is = absurd (false≢true (sym is))
by_deferred state verdict false is = refl

plain_permitted : (begun : Begun) (site : Site) (mode : Mode) (frames : List Frame) →
    is_deferred mode ≡ false →
    judged (within begun (expression site mode frames))
    (if is_deferred mode then behind_parameter (deferred_of_site site) else passes)
    ≡ on (within begun (expression site mode frames))
plain_permitted begun site mode frames plain =
    by_deferred (within begun (expression site mode frames))
    (behind_parameter (deferred_of_site site)) (is_deferred mode) plain

pub site_permitted : (begun : Begun) (site : Site) (mode : Mode) (frames : List Frame) →
    IsBodyPlain site → is_deferred mode ≡ false →
    permitted_state (within begun (expression site mode frames))
    ≡ on (within begun (expression site mode frames))
site_permitted begun (in_function_body fronted parameters frequency annotations) wanted [] body
    plain =
    ap (λ earlier. judged (within begun (expression
    (in_function_body fronted parameters frequency annotations) wanted [])) (before_body earlier))
    body
site_permitted begun (in_function_body fronted parameters frequency annotations) wanted
    (frame ∷ frames) body plain =
    plain_permitted begun (in_function_body fronted parameters frequency annotations) wanted
    (frame ∷ frames) plain
site_permitted begun (in_function_body fronted parameters frequency annotations) mode frames body
    plain =
    plain_permitted begun (in_function_body fronted parameters frequency annotations) mode frames
    plain
site_permitted begun (in_default owner parameters front) mode frames body plain =
    plain_permitted begun (in_default owner parameters front) mode frames plain
site_permitted begun (in_field_default held front) mode frames body plain =
    plain_permitted begun (in_field_default held front) mode frames plain
site_permitted begun (in_annotation holder annotations) mode frames body plain =
    plain_permitted begun (in_annotation holder annotations) mode frames plain
site_permitted begun (in_base fronted annotations) mode frames body plain =
    plain_permitted begun (in_base fronted annotations) mode frames plain

-- Behind a state that has too little room no closing token is taken.

test_goes : (test : Bool) (own : Step) → IsGoing (if test then own else deep) → test ≡ true
test_goes true own is = refl
test_goes false own is = absurd is

unless_goes : (limit : ℕ) (frames : List Frame) (need : ℕ) (own : Step) →
    IsGoing (unless_bad limit frames need own) → nat_le (length frames + need) limit ≡ true
unless_goes limit frames need bad is = absurd is
unless_goes limit frames need deep is =
    test_goes (nat_le (length frames + need) limit) deep is
unless_goes limit frames need (goes mode below) is =
    test_goes (nat_le (length frames + need) limit) (goes mode below) is
unless_goes limit frames need (is_left_out text) is =
    test_goes (nat_le (length frames + need) limit) (is_left_out text) is

abbrev IsDeepEnd : Finish → Type 0
IsDeepEnd ends_deep = Unit {0}
IsDeepEnd _ = ⊥

test_ends : (test : Bool) (tree : Tree) → IsDeepEnd (if test then finished tree else ends_deep) →
    test ≡ false
test_ends true tree is = absurd is
test_ends false tree is = refl

unless_ends : (limit : ℕ) (frames : List Frame) (need : ℕ) (pair : Tree × List Frame) →
    IsDeepEnd (unless_bad_end limit frames need (whole pair)) →
    nat_le (length frames + need) limit ≡ false
unless_ends limit frames need (tree, []) is =
    test_ends (nat_le (length frames + need) limit) tree is
unless_ends limit frames need (tree, frame ∷ below) is = absurd is

whole_ends : (pair : Tree × List Frame) → IsDeepEnd (whole pair) → ⊥
whole_ends (tree, []) is = is
whole_ends (tree, frame ∷ below) is = is

no_opening : (site : Site) → closes site opening ≡ false
no_opening (in_function_body fronted parameters frequency annotations) = refl
no_opening (in_default owner parameters front) = refl
no_opening (in_field_default held front) = refl
no_opening (in_annotation holder annotations) = refl
no_opening (in_base fronted annotations) = refl

no_room : (test : Bool) → test ≡ true → test ≡ false → ⊥
no_room true one other = false≢true (sym other)
no_room false one other = false≢true one

deep_closed : (limit : ℕ) (site : Site) (mode : Mode) (frames : List Frame) (sort : Sort)
    (at : Span) → closes site sort ≡ true → IsGoing (mode_step limit mode frames sort at) →
    IsDeepEnd (finish limit mode frames) → ⊥
deep_closed limit site (complete tree) frames sort at closed goes_on is =
    whole_ends (reduced 0 tree frames) is
deep_closed limit site (part_read in_expression path) frames sort at closed goes_on is =
    whole_ends (reduced 0 (name_tree (path_name path)) frames) is
deep_closed limit site (word_read in_expression name) frames sort at closed goes_on is =
    whole_ends (reduced 0 (name_tree name) frames) is
deep_closed limit site (sized_closed name value own end) frames opening at closed goes_on is =
    false≢true (sym (no_opening site) ∙ closed)
deep_closed limit site (sized_closed name value own end) frames sort at closed goes_on is =
    no_room (nat_le (length frames + 2) limit)
    (unless_goes limit frames 2
    (complete_step limit (indexed_tree name value own end) frames sort at) goes_on)
    (unless_ends limit frames 2 (reduced 0 (indexed_tree name value own end) frames) is)
deep_closed limit site mode frames sort at closed goes_on is = is

-- Values.

abbrev pub IsUnfinished : Finish → Type 0
IsUnfinished (finished tree) = ⊥
IsUnfinished _ = Unit {0}

finish_goes : (limit : ℕ) (begun : Begun) (site : Site) (mode : Mode) (frames : List Frame)
    (sort : Sort) (at : Span) (later : Mode) (below : List Frame) (end : Finish) →
    finish limit mode frames ≡ end → IsUnfinished end → closes site sort ≡ true →
    StepsTo limit mode frames sort at later below →
    by_finish limit begun site mode frames sort at end
    ≡ on (within begun (expression site later below))
finish_goes limit begun site mode frames sort at later below (finished tree) same un closed is =
    absurd un
finish_goes limit begun site mode frames sort at later below ends_badly same un closed is =
    ap (expression_outcome begun site) is
finish_goes limit begun site mode frames sort at later below ends_deep same un closed is =
    absurd (deep_closed limit site mode frames sort at closed (subst IsGoing (sym is) tt)
    (subst IsDeepEnd (sym same) tt))

value_goes : (limit : ℕ) (begun : Begun) (site : Site) (mode : Mode) (frames : List Frame)
    (sort : Sort) (at : Span) (later : Mode) (below : List Frame) →
    IsUnfinished (finish limit mode frames) →
    StepsTo limit mode frames sort at later below →
    value_step_of limit begun site mode frames sort at
    ≡ on (within begun (expression site later below))
value_goes limit begun site mode frames sort at later below un is =
    by (closes site sort) refl
  where
    by : (test : Bool) → closes site sort ≡ test →
        (if test then by_finish limit begun site mode frames sort at (finish limit mode frames)
        else expression_outcome begun site (mode_step limit mode frames sort at))
        ≡ on (within begun (expression site later below))
    by true closed =
        finish_goes limit begun site mode frames sort at later below
        (finish limit mode frames) refl un closed is
    by false closed = ap (expression_outcome begun site) is

pub value_takes : (limit number : ℕ) (begun : Begun) (site : Site) (mode : Mode)
    (frames : List Frame) (sort : Sort) (at : Span) → is_call_site site ≡ false →
    state_step limit number (within begun (expression site mode frames)) sort at
    ≡ value_step_of limit begun site mode frames sort at
value_takes limit number begun site mode frames sort at value =
    ap (λ test. if test then call_step limit begun site mode frames sort at
    else value_step_of limit begun site mode frames sort at) value

kept_takes : (limit number : ℕ) (state : State) (sort : Sort) (at : Span) → IsKept sort →
    module_sort_step limit number state sort at ≡ state_step limit number state sort at
kept_takes limit number state (left_out text) at kept = absurd kept
kept_takes limit number state sort at kept = refl

-- a token that is kept, in front
pub led_kept : {strict : Bool} {limit : ℕ} {state later : State} (token : Token) →
    IsKept (sort_of token.kind) →
    ((number : ℕ) → state_step limit number state (sort_of token.kind) (place token) ≡ on later) →
    (strict ≡ true → permitted_state later ≡ on later) → ModuleViable strict limit later →
    ModuleViable strict limit state
led_kept {strict} {limit} {state} {later} token kept same allowed rest =
    led_if token (λ number. kept_takes limit number state (sort_of token.kind) (place token) kept
    ∙ same number) allowed rest

value_on : (strict : Bool) (limit : ℕ) (begun : Begun) (site : Site) (mode later : Mode)
    (frames below : List Frame) (token : Token) → is_call_site site ≡ false →
    (strict ≡ true → IsBodyPlain site) → IsUnfinished (finish limit mode frames) →
    taken strict limit mode frames token ≡ goes later below →
    ModuleViable strict limit (within begun (expression site later below)) →
    ModuleViable strict limit (within begun (expression site mode frames))
value_on strict limit begun site mode later frames below token value body un is rest =
    let one = stepped strict limit mode frames token later below is in
    led_kept token one.kept
    (λ number. value_takes limit number begun site mode frames (sort_of token.kind) (place token)
    value ∙ value_goes limit begun site mode frames (sort_of token.kind) (place token) later
    below un one.steps)
    (λ strictly. site_permitted begun site later below (body strictly) (one.plain strictly))
    rest

-- whatever ends the whole expression leads on
abbrev ValueEnds : Bool → ℕ → Begun → Site → Type 0
ValueEnds strict limit begun site = (mode : Mode) (frames : List Frame) (tree : Tree) →
    finish limit mode frames ≡ finished tree →
    ModuleViable strict limit (within begun (expression site mode frames))

value_walk : (strict : Bool) (limit : ℕ) (begun : Begun) (site : Site) → is_call_site site ≡ false →
    (strict ≡ true → IsBodyPlain site) → ValueEnds strict limit begun site →
    (mode last : Mode) (frames last_frames : List Frame) (tokens : List Token) (tree : Tree) →
    finish limit last last_frames ≡ finished tree →
    Leads strict limit mode frames tokens last last_frames →
    ModuleViable strict limit (within begun (expression site mode frames))
value_walk strict limit begun site value body ends mode last frames last_frames tokens tree end
    (here _ _) = ends mode frames tree end
value_walk strict limit begun site value body ends mode last frames last_frames tokens tree end
    (next _ _ token more later _ below _ is leads) =
    by (value_walk strict limit begun site value body ends later last below last_frames more
    tree end leads) (finish limit mode frames) refl
  where
    by : ModuleViable strict limit (within begun (expression site later below)) →
        (now : Finish) → finish limit mode frames ≡ now →
        ModuleViable strict limit (within begun (expression site mode frames))
    by rest (finished whole_tree) same = ends mode frames whole_tree same
    by rest ends_badly same =
        value_on strict limit begun site mode later frames below token value body
        (subst IsUnfinished (sym same) tt) is rest
    by rest ends_deep same =
        value_on strict limit begun site mode later frames below token value body
        (subst IsUnfinished (sym same) tt) is rest

-- behind a whole body, default or field
body_ends : (strict : Bool) (limit : ℕ) (begun : Begun) (fronted : Fronted)
    (parameters : List Parameter) (frequency : Option Freq)
    (annotations : Option (List Annotation)) →
    ValueEnds strict limit begun (in_function_body fronted parameters frequency annotations)
body_ends strict limit begun fronted parameters frequency annotations mode frames tree end =
    let site = in_function_body fronted parameters frequency annotations in
    led semicolon_mark
    (λ number. ap (by_finish limit begun site mode frames semicolon (place semicolon_mark)) end)
    refl whole_end

default_ends : (strict : Bool) (limit : ℕ) (begun : Begun) (owner : Owner)
    (parameters : List Parameter) (front : Front) →
    ValueEnds strict limit begun (in_default owner parameters front)
default_ends strict limit begun owner parameters front mode frames tree end =
    let site = in_default owner parameters front in
    let all = parameters ++ plain_parameter front (Some tree) ∷ [] in
    led (mark (codes ")"))
    (λ number. ap (by_finish limit begun site mode frames closing (place (mark (codes ")")))) end)
    (parameters_permitted begun owner all) (parameters_viable strict limit begun owner all)

field_ends : (strict : Bool) (limit : ℕ) (begun : Begun) (held : Struct) (front : Front) →
    ValueEnds strict limit begun (in_field_default held front)
field_ends strict limit begun held front mode frames tree end =
    let site = in_field_default held front in
    led semicolon_mark
    (λ number. ap (by_finish limit begun site mode frames semicolon (place semicolon_mark)) end)
    refl (fields_viable strict limit begun _)

-- an expression that isn't a call by itself
pub value_site_viable : (strict : Bool) (limit : ℕ) (begun : Begun) (site : Site) (mode : Mode)
    (frames : List Frame) → is_call_site site ≡ false → (strict ≡ true → IsBodyPlain site) →
    Fits limit mode frames → ModuleViable strict limit (within begun (expression site mode frames))
value_site_viable strict limit begun (in_function_body fronted parameters frequency annotations)
    mode frames value body fits =
    let (rest, tree, ends) = viable_strictly strict limit mode frames fits in
    value_walk strict limit begun (in_function_body fronted parameters frequency annotations) value
    body (body_ends strict limit begun fronted parameters frequency annotations) mode ends.last
    frames ends.last_frames rest tree ends.ends ends.leads
value_site_viable strict limit begun (in_default owner parameters front) mode frames value body
    fits =
    let (rest, tree, ends) = viable_strictly strict limit mode frames fits in
    value_walk strict limit begun (in_default owner parameters front) value body
    (default_ends strict limit begun owner parameters front) mode ends.last frames ends.last_frames
    rest tree ends.ends ends.leads
value_site_viable strict limit begun (in_field_default held front) mode frames value body fits =
    let (rest, tree, ends) = viable_strictly strict limit mode frames fits in
    value_walk strict limit begun (in_field_default held front) value body
    (field_ends strict limit begun held front) mode ends.last frames ends.last_frames rest tree
    ends.ends ends.leads
value_site_viable strict limit begun (in_annotation holder annotations) mode frames value body
    fits = absurd (false≢true (sym value))
value_site_viable strict limit begun (in_base fronted annotations) mode frames value body fits =
    absurd (false≢true (sym value))
