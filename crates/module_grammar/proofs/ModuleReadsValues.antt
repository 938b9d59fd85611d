-- The machine of modules reads bodies, and defaults of parameters and fields, where they stand.
use Rattle.std.proofs.Common.{◌≡◌, ◌∙◌, sym, ap, subst, refl, ℕ, suc, ◌≤◌, Bool, true, false}
use Rattle.std.proofs.Common.{List, [], ◌∷◌, codes, None, if◌then◌else◌}
use Rattle.std.proofs.lemmas.Bool.{false≢true, cond-true}
use Rattle.mdl_lexer.specs.declared.token.Token.{Token}
use Rattle.mdl_syntax.specs.declared.names.Span.{Span}
use Rattle.mdl_syntax.specs.Trees.{Tree}
use Rattle.mdl_syntax.specs.Heights.{height}
use Rattle.expression_grammar.specs.inside.Machine.{Sort, sort_of, Mode, Frame, Step, Finish, goes, bad}
use Rattle.expression_grammar.specs.inside.Machine.{finished, ends_badly, ends_deep, left_out, closing}
use Rattle.expression_grammar.specs.inside.Machine.{opening_bracket, comma, semicolon, wanted, finish}
use Rattle.expression_grammar.specs.inside.Machine.{mode_step, sort_step, is_deferred, step, taken}
use Rattle.expression_grammar.specs.inside.Machine.{allowed}
use Rattle.expression_grammar.specs.inside.Machine.{is_left_out, deep}
use Rattle.module_grammar.specs.inside.ModuleStates.{State, Outcome, on, within, Begun, Site}
use Rattle.module_grammar.specs.inside.ModuleStates.{in_function_body, in_default, in_field_default}
use Rattle.module_grammar.specs.inside.ModuleMachine.{is_call_site, closes}
use Rattle.module_grammar.specs.inside.ModuleStates.{in_annotation, in_base}
use Rattle.module_grammar.specs.inside.ModuleMachine.{by_finish, value_step_of}
use Rattle.module_grammar.specs.inside.ModuleStates.{expression, opened}
use Rattle.module_grammar.specs.inside.ModuleMachine.{expression_outcome, opened_step, index_outcome}
use Rattle.module_grammar.specs.inside.ModuleMachine.{expression_step, module_sort_step}
use Rattle.module_grammar.specs.inside.ModuleMachine.{permitted, permitted_state}
use Rattle.module_grammar.specs.inside.ModuleMachine.{judged, passes}
use Rattle.module_grammar.specs.inside.ModuleMachine.{if_deferred, behind_parameter, deferred_of_site}
use Rattle.module_grammar.specs.inside.ModuleMachine.{before_body}
use Rattle.module_grammar.specs.inside.ModuleLeads.{ModuleLeads, here, next}
use Rattle.expression_grammar.specs.inside.Leads.{Leads}
use Rattle.expression_grammar.specs.inside.Leads as plain
use Rattle.expression_grammar.specs.inside.Sound.{IsMark, place}
use Rattle.expression_grammar.specs.inside.Wrote.{Wrote}
use Rattle.module_grammar.specs.inside.ModuleMachine.{holder_of}
use Rattle.module_grammar.specs.inside.ModuleStates.{with_declaration, function_from}
use Rattle.module_grammar.specs.inside.ModuleMachine.{annotations_behind}
use Rattle.module_grammar.specs.inside.ModuleStates.{first_annotation}
use Rattle.expression_grammar.proofs.TakenLaws.{taken_goes}
use Rattle.expression_grammar.proofs.ReadsLaws.{reads_wrote}
use Rattle.module_grammar.proofs.ModuleReadsParts.{Way, way_on, stay, by_sort}
use Rattle.module_grammar.proofs.ModuleReadsFields.{FieldValueLaw}
use Rattle.module_grammar.proofs.ModuleReadsSites.{DefaultLaw, BodyLaw}
use Rattle.module_grammar.proofs.ModuleReadsShut.{IsGoing, IsFinished, IsDeep, IsClose, IsStuck}
use Rattle.module_grammar.proofs.ModuleReadsShut.{finished_shut, deep_shut, bracket_stuck}

-- the state of the machine of modules stands where the one of expressions does
pub data Stands (limit : ℕ) (begun : Begun) (site : Site) : Mode → List Frame → State → Type 0 where
  as_is : (mode : Mode) (frames : List Frame) →
      Stands limit begun site mode frames (within begun (expression site mode frames))
  -- `[` waits for the next token
  behind_bracket : (mode : Mode) (frames : List Frame) (last : Mode) (last_frames : List Frame)
      (bracket : Span) →
      mode_step limit last last_frames opening_bracket bracket ≡ goes mode frames →
      IsStuck limit (goes mode frames) →
      Stands limit begun site mode frames (within begun (opened site last last_frames bracket))

pub record Goes (limit : ℕ) (begun : Begun) (site : Site) (made : Outcome) (mode : Mode)
    (frames : List Frame) : Type 0 where
  after : State
  is : made ≡ on after
  stands : Stands limit begun site mode frames after

plain_goes : (limit : ℕ) (begun : Begun) (site : Site) (made : Step) (mode : Mode)
    (frames : List Frame) → made ≡ goes mode frames →
    Goes limit begun site (expression_outcome begun site made) mode frames
plain_goes limit begun site made mode frames is = record {
  after = within begun (expression site mode frames);
  is = ap (expression_outcome begun site) is;
  stands = as_is mode frames;
}

going : (made : Step) (mode : Mode) (frames : List Frame) → made ≡ goes mode frames → IsGoing made
going made mode frames is = subst IsGoing (sym is) tt

never_bad : (made : Step) (mode : Mode) (frames : List Frame) → made ≡ goes mode frames →
    made ≡ bad → ⊥
never_bad made mode frames is also = subst IsGoing (sym is ∙ also) tt

finish_goes : (limit : ℕ) (begun : Begun) (site : Site) (mode : Mode) (frames : List Frame)
    (sort : Sort) (own : Span) (coming : Mode) (below : List Frame) → IsClose sort →
    mode_step limit mode frames sort own ≡ goes coming below → (found : Finish) →
    finish limit mode frames ≡ found →
    Goes limit begun site (by_finish limit begun site mode frames sort own found) coming below
finish_goes limit begun site mode frames sort own coming below close is ends_badly found_is =
    plain_goes limit begun site (mode_step limit mode frames sort own) coming below is
finish_goes limit begun site mode frames sort own coming below close is ends_deep found_is =
    absurd (deep_shut limit mode frames sort own close (subst IsDeep (sym found_is) tt)
    (going (mode_step limit mode frames sort own) coming below is))
finish_goes limit begun site mode frames opening_bracket own coming below close is (finished tree)
    found_is = record {
      after = within begun (opened site mode frames own);
      is = refl;
      stands = behind_bracket coming below mode frames own is
          (subst (IsStuck limit) is (bracket_stuck limit mode frames own
          (subst IsFinished (sym found_is) tt)));
    }
finish_goes limit begun site mode frames closing own coming below close is (finished tree)
    found_is =
    absurd (never_bad (mode_step limit mode frames closing own) coming below is
    (finished_shut limit mode frames closing own tt (subst IsFinished (sym found_is) tt)))
finish_goes limit begun site mode frames comma own coming below close is (finished tree) found_is =
    absurd (never_bad (mode_step limit mode frames comma own) coming below is
    (finished_shut limit mode frames comma own tt (subst IsFinished (sym found_is) tt)))
finish_goes limit begun site mode frames semicolon own coming below close is (finished tree)
    found_is =
    absurd (never_bad (mode_step limit mode frames semicolon own) coming below is
    (finished_shut limit mode frames semicolon own tt (subst IsFinished (sym found_is) tt)))
finish_goes limit begun site mode frames sort own coming below close is (finished tree) found_is =
    absurd close

few_close : (site : Site) (sort : Sort) → closes site sort ≡ true → IsClose sort
few_close (in_function_body fronted parameters frequency annotations) semicolon is = tt
few_close (in_function_body fronted parameters frequency annotations) sort is =
    absurd (false≢true is)
few_close (in_default owner parameters front) comma is = tt
few_close (in_default owner parameters front) closing is = tt
few_close (in_default owner parameters front) opening_bracket is = tt
few_close (in_default owner parameters front) sort is = absurd (false≢true is)
few_close (in_field_default held front) semicolon is = tt
few_close (in_field_default held front) opening_bracket is = tt
few_close (in_field_default held front) sort is = absurd (false≢true is)
few_close site sort is = absurd (false≢true is)

value_goes : (limit : ℕ) (begun : Begun) (site : Site) (mode : Mode) (frames : List Frame)
    (sort : Sort) (own : Span) (coming : Mode) (below : List Frame) →
    mode_step limit mode frames sort own ≡ goes coming below →
    Goes limit begun site (value_step_of limit begun site mode frames sort own) coming below
value_goes limit begun site mode frames sort own coming below is = by (closes site sort) refl
  where
    by : (test : Bool) → closes site sort ≡ test →
        Goes limit begun site (if test
        then by_finish limit begun site mode frames sort own (finish limit mode frames)
        else expression_outcome begun site (mode_step limit mode frames sort own)) coming below
    by true shuts =
        finish_goes limit begun site mode frames sort own coming below (few_close site sort shuts)
        is (finish limit mode frames) refl
    by false open_still =
        plain_goes limit begun site (mode_step limit mode frames sort own) coming below is

site_goes : (limit : ℕ) (begun : Begun) (site : Site) → is_call_site site ≡ false → (mode : Mode)
    (frames : List Frame) (sort : Sort) (own : Span) (coming : Mode) (below : List Frame) →
    mode_step limit mode frames sort own ≡ goes coming below →
    Goes limit begun site (expression_step limit begun site mode frames sort own) coming below
site_goes limit begun (in_annotation holder annotations) of mode frames sort own coming below
    is = cc
site_goes limit begun (in_base fronted annotations) of mode frames sort own coming below is = cc
site_goes limit begun site of mode frames sort own coming below is =
    value_goes limit begun site mode frames sort own coming below is

opened_goes : (limit : ℕ) (begun : Begun) (site : Site) (mode : Mode) (frames : List Frame)
    (last : Mode) (last_frames : List Frame) (bracket : Span) (sort : Sort) (own : Span)
    (coming : Mode) (below : List Frame) →
    mode_step limit last last_frames opening_bracket bracket ≡ goes mode frames →
    IsStuck limit (goes mode frames) → mode_step limit mode frames sort own ≡ goes coming below →
    Goes limit begun site (opened_step limit begun site last last_frames bracket sort own) coming
    below
opened_goes limit begun site mode frames last last_frames bracket opening_bracket own coming below
    before stuck is =
    absurd (never_bad (mode_step limit mode frames opening_bracket own) coming below is
    (stuck.0 own))
opened_goes limit begun site mode frames last last_frames bracket sort own coming below before stuck
    is =
    subst (λ made. Goes limit begun site (index_outcome limit begun site sort own made)
    coming below)
    (sym before)
    (plain_goes limit begun site (mode_step limit mode frames sort own) coming below is)

abbrev IsLeft : Step → Type 0
IsLeft (is_left_out text) = Unit {0}
IsLeft _ = ⊥

pub sort_goes : (limit number : ℕ) (begun : Begun) (site : Site) → is_call_site site ≡ false →
    (mode : Mode) (frames : List Frame) (state : State) →
    Stands limit begun site mode frames state →
    (sort : Sort) (own : Span) (coming : Mode) (below : List Frame) →
    sort_step limit mode frames sort own ≡ goes coming below →
    Goes limit begun site (module_sort_step limit number state sort own) coming below
sort_goes limit number begun site of mode frames state stands (left_out text) own coming below is =
    absurd (subst IsLeft is tt)
sort_goes limit number begun site of mode frames state (as_is _ _) sort own coming below is =
    site_goes limit begun site of mode frames sort own coming below is
sort_goes limit number begun site of mode frames state
    (behind_bracket _ _ last last_frames bracket before stuck) sort own coming below is =
    opened_goes limit begun site mode frames last last_frames bracket sort own coming below before
    stuck is

-- What a strict machine permits.

abbrev pub MayBegin : Bool → Site → Type 0
MayBegin strict (in_function_body fronted parameters frequency annotations) =
    strict ≡ true → fronted.deferred ≡ None
MayBegin strict site = Unit {0}

passing : (site : Site) (mode : Mode) → is_deferred mode ≡ false →
    if_deferred mode (behind_parameter (deferred_of_site site)) ≡ passes
passing site mode is =
    ap (λ test. if test then behind_parameter (deferred_of_site site) else passes) is

pub site_permits : (begun : Begun) (site : Site) (mode : Mode) (frames : List Frame) →
    MayBegin true site → is_deferred mode ≡ false →
    permitted_state (within begun (expression site mode frames))
    ≡ on (within begun (expression site mode frames))
site_permits begun (in_function_body fronted parameters frequency annotations) wanted [] may is =
    ap (λ first. judged (within begun (expression
    (in_function_body fronted parameters frequency annotations) wanted [])) (before_body first))
    (may refl)
site_permits begun (in_function_body fronted parameters frequency annotations) wanted
    (frame ∷ frames) may is = refl
site_permits begun (in_function_body fronted parameters frequency annotations) mode frames may is =
    ap (judged (within begun (expression
    (in_function_body fronted parameters frequency annotations) mode frames)))
    (passing (in_function_body fronted parameters frequency annotations) mode is)
site_permits begun site mode frames may is =
    ap (judged (within begun (expression site mode frames))) (passing site mode is)

pub permits : (strict : Bool) (limit : ℕ) (begun : Begun) (site : Site) (mode : Mode)
    (frames : List Frame) (state : State) → MayBegin strict site →
    (strict ≡ true → is_deferred mode ≡ false) → Stands limit begun site mode frames state →
    permitted strict (on state) ≡ on state
permits false limit begun site mode frames state may plain_mode stands = refl
permits true limit begun site mode frames state may plain_mode (as_is _ _) =
    site_permits begun site mode frames may (plain_mode refl)
permits true limit begun site mode frames state may plain_mode
    (behind_bracket _ _ last last_frames bracket before stuck) = refl

abbrev mode_of : Mode → Step → Mode
mode_of other (goes mode frames) = mode
mode_of other _ = other

strictly : (deferred : Bool) (coming mode : Mode) (below frames : List Frame) →
    is_deferred coming ≡ deferred →
    (if deferred then is_left_out (codes "deferred-size") else goes coming below)
    ≡ goes mode frames → is_deferred mode ≡ false
strictly true coming mode below frames found is = absurd (subst IsGoing (sym is) tt)
strictly false coming mode below frames found is =
    subst (λ m. is_deferred m ≡ false) (ap (mode_of mode) is) found

pub not_deferred : (made : Step) (mode : Mode) (frames : List Frame) →
    allowed true made ≡ goes mode frames → is_deferred mode ≡ false
not_deferred (goes coming below) mode frames is =
    strictly (is_deferred coming) coming mode below frames refl is
not_deferred bad mode frames is = absurd (subst IsGoing (sym is) tt)
not_deferred deep mode frames is = absurd (subst IsGoing (sym is) tt)
not_deferred (is_left_out text) mode frames is = absurd (subst IsGoing (sym is) tt)

-- The whole way.

pub taken_not_deferred : (strict : Bool) (limit : ℕ) (mode : Mode) (frames : List Frame)
    (token : Token) (coming : Mode) (below : List Frame) →
    taken strict limit mode frames token ≡ goes coming below → strict ≡ true →
    is_deferred coming ≡ false
taken_not_deferred true limit mode frames token coming below is same =
    not_deferred (step limit mode frames token) coming below is
taken_not_deferred false limit mode frames token coming below is same = absurd (false≢true same)

-- the state of the machine of modules behind the tokens
pub record Arrives (strict : Bool) (limit number : ℕ) (begun : Begun) (site : Site) (state : State)
    (tokens : List Token) (mode : Mode) (frames : List Frame) : Type 0 where
  pub last : State
  pub leads : ModuleLeads strict limit number state tokens last
  pub stands : Stands limit begun site mode frames last

pub arrives : (strict : Bool) (limit number : ℕ) (begun : Begun) (site : Site) →
    is_call_site site ≡ false → MayBegin strict site → (mode : Mode) (frames : List Frame)
    (state : State) → Stands limit begun site mode frames state → (tokens : List Token)
    (end_mode : Mode) (end_frames : List Frame) →
    Leads strict limit mode frames tokens end_mode end_frames →
    Arrives strict limit number begun site state tokens end_mode end_frames
arrives strict limit number begun site of may mode frames state stands tokens end_mode end_frames
    (plain.here _ _) = record { last = state; leads = here number state; stands = stands }
arrives strict limit number begun site of may mode frames state stands tokens end_mode end_frames
    (plain.next _ _ token rest coming _ below _ is more) =
    let went = sort_goes limit number begun site of mode frames state stands (sort_of token.kind)
    (place token) coming below (taken_goes strict limit mode frames token coming below is) in
    let allowed_is = permits strict limit begun site coming below went.after may
    (taken_not_deferred strict limit mode frames token coming below is) went.stands in
    let behind = arrives strict limit (suc number) begun site of may coming below went.after
    went.stands rest end_mode end_frames more in record {
      last = behind.last;
      leads = next number state went.after behind.last token rest
          (ap (permitted strict) went.is ∙ allowed_is) behind.leads;
      stands = behind.stands;
    }

abbrev IsBadEnd : Finish → Type 0
IsBadEnd ends_badly = Unit {0}
IsBadEnd _ = ⊥

-- behind a whole expression no `[` waits
stands_whole : (limit : ℕ) (begun : Begun) (site : Site) (mode : Mode) (frames : List Frame)
    (tree : Tree) (state : State) → finish limit mode frames ≡ finished tree →
    Stands limit begun site mode frames state → state ≡ within begun (expression site mode frames)
stands_whole limit begun site mode frames tree state ends (as_is _ _) = refl
stands_whole limit begun site mode frames tree state ends
    (behind_bracket _ _ last last_frames bracket before stuck) =
    absurd (subst IsBadEnd (sym stuck.1 ∙ ends) tt)

-- an expression is read where it stands
pub record ValueRead (strict : Bool) (limit : ℕ) (begun : Begun) (site : Site) (tree : Tree)
    (tokens : List Token) : Type 0 where
  pub last : Mode
  pub last_frames : List Frame
  pub leads : Way strict limit (within begun (expression site wanted [])) tokens
      (within begun (expression site last last_frames))
  pub ends : finish limit last last_frames ≡ finished tree

pub value_read : (strict : Bool) (limit : ℕ) (begun : Begun) (site : Site) →
    is_call_site site ≡ false → MayBegin strict site → (tree : Tree) (tokens : List Token) →
    Wrote strict tree tokens → height tree ≤ limit →
    ValueRead strict limit begun site tree tokens
value_read strict limit begun site of may tree tokens wrote low =
    let read = reads_wrote strict limit tree tokens wrote low in record {
      last = read.last;
      last_frames = read.last_frames;
      leads = λ number.
          let came = arrives strict limit number begun site of may wanted []
          (within begun (expression site wanted [])) (as_is wanted []) tokens read.last
          read.last_frames read.leads in
          subst (λ state. ModuleLeads strict limit number
          (within begun (expression site wanted [])) tokens state)
          (stands_whole limit begun site read.last read.last_frames tree came.last read.ends
          came.stands) came.leads;
      ends = read.ends;
    }

-- The laws of the sites.

pub body_law : (strict : Bool) (limit : ℕ) → BodyLaw strict limit
body_law strict limit begun fronted parameters frequency annotations tree tokens mark may wrote low
    m =
    let site = in_function_body fronted parameters frequency annotations in
    let read = value_read strict limit begun site refl may tree tokens wrote low in
    way_on (within begun (expression site read.last read.last_frames)) read.leads
    (by_sort (with_declaration begun (function_from fronted parameters frequency annotations tree
    mark.end) mark.end) semicolon (ap sort_of m.is) tt
    (λ number. ap (by_finish limit begun site read.last read.last_frames semicolon (place mark))
    read.ends) refl stay)

-- `[[` behind a default
brackets_read : (strict : Bool) (limit : ℕ) (begun : Begun) (site : Site) →
    is_call_site site ≡ false → closes site opening_bracket ≡ true → (mode : Mode)
    (frames : List Frame) (tree : Tree) → finish limit mode frames ≡ finished tree →
    (one two : Token) → IsMark one (codes "[") → IsMark two (codes "[") →
    Way strict limit (within begun (expression site mode frames)) (one ∷ two ∷ [])
    (within begun (first_annotation (holder_of site tree)))
brackets_read strict limit begun (in_annotation holder annotations) of may mode frames tree ends one
    two o t = cc
brackets_read strict limit begun (in_base fronted annotations) of may mode frames tree ends one two
    o t = cc
brackets_read strict limit begun site of may mode frames tree ends one two o t =
    by_sort (within begun (opened site mode frames (place one))) opening_bracket (ap sort_of o.is)
    tt (λ number. cond-true (closes site opening_bracket)
    (by_finish limit begun site mode frames opening_bracket (place one) (finish limit mode frames))
    (expression_outcome begun site (mode_step limit mode frames opening_bracket (place one))) may
    ∙ ap (by_finish limit begun site mode frames opening_bracket (place one)) ends) refl
    (by_sort (within begun (first_annotation (holder_of site tree))) opening_bracket
    (ap sort_of t.is) tt (λ number. ap (annotations_behind begun site) ends) refl stay)

pub default_law : (strict : Bool) (limit : ℕ) → DefaultLaw strict limit
default_law strict limit begun owner parameters front tree tokens wrote low =
    let site = in_default owner parameters front in
    let read = value_read strict limit begun site refl tt tree tokens wrote low in record {
      last = within begun (expression site read.last read.last_frames);
      leads = read.leads;
      at_comma = λ number own.
          ap (by_finish limit begun site read.last read.last_frames comma own) read.ends;
      at_closing = λ number own.
          ap (by_finish limit begun site read.last read.last_frames closing own) read.ends;
      at_brackets = brackets_read strict limit begun site refl refl read.last read.last_frames tree
          read.ends;
    }

pub field_value_law : (strict : Bool) (limit : ℕ) → FieldValueLaw strict limit
field_value_law strict limit begun held front tree tokens wrote low =
    let site = in_field_default held front in
    let read = value_read strict limit begun site refl tt tree tokens wrote low in record {
      last = within begun (expression site read.last read.last_frames);
      leads = read.leads;
      at_semicolon = λ number own.
          ap (by_finish limit begun site read.last read.last_frames semicolon own) read.ends;
      at_brackets = brackets_read strict limit begun site refl refl read.last read.last_frames tree
          read.ends;
    }
