-- How runs are put together, and what a run comes to.
use Rattle.std.proofs.Common.{◌≡◌, ◌∙◌, sym, ap, subst, refl, ℕ, suc, Bool, false, List, []}
use Rattle.std.proofs.Common.{◌∷◌}
use Rattle.std.proofs.Common.{◌++◌, ◌≤◌, length, arith, ◌+◌}
use Rattle.std.specs.Prelude.{nat_le}
use Rattle.std.proofs.lemmas.Bool.{false≢true, cond-true, le-leb}
use Rattle.std.proofs.lemmas.List.{append_assoc, append-nil, length_push}
use Rattle.mdl_lexer.specs.declared.token.Token.{Token}
use Rattle.mdl_syntax.specs.Trees.{Tree}
use Rattle.expression_grammar.specs.inside.Machine.{Mode, Frame, Step, Finish, Run, step, taken, finish}
use Rattle.expression_grammar.specs.inside.Machine.{run_from, run_end, wanted, goes, bad, deep}
use Rattle.expression_grammar.specs.inside.Machine.{is_left_out}
use Rattle.expression_grammar.specs.inside.Machine.{finished, ends_badly, ends_deep, read_as, bad_at}
use Rattle.expression_grammar.specs.inside.Machine.{deep_at}
use Rattle.expression_grammar.specs.inside.Machine.{left_out_at, place_after, allowed}
use Rattle.expression_grammar.specs.inside.Leads.{Leads, here, next, Ends, Outcome, reads, is_bad, is_deep}
use Rattle.expression_grammar.specs.inside.Leads.{leaves_out, is_cut_off, is_deep_whole}
use Rattle.expression_grammar.proofs.TakenLaws.{allowed_same, taken_goes, taken_generous}
use Rattle.expression_grammar.proofs.RoomLaws.{more_room, deep_goes, Ending, ends}
use Rattle.expression_grammar.proofs.RoomLaws.{high, is_ended, finish_ending}

-- Ways.

pub leads_on : {strict : Bool} {limit : ℕ} {mode then last : Mode}
    {frames then_frames last_frames : List Frame} {one other : List Token} →
    Leads strict limit mode frames one then then_frames →
    Leads strict limit then then_frames other last last_frames →
    Leads strict limit mode frames (one ++ other) last last_frames
leads_on (here _ _) second = second
leads_on {strict} {limit} {mode} {then} {last} {frames} {then_frames} {last_frames} {one} {other}
    (next _ _ token tokens mid _ mid_frames _ is rest) second =
    next mode frames token (tokens ++ other) mid last mid_frames last_frames is
    (leads_on rest second)

-- one token, and others behind it
pub step_on : {strict : Bool} {limit : ℕ} {mode then last : Mode}
    {frames then_frames last_frames : List Frame} {token : Token} {tokens : List Token} →
    taken strict limit mode frames token ≡ goes then then_frames →
    Leads strict limit then then_frames tokens last last_frames →
    Leads strict limit mode frames (token ∷ tokens) last last_frames
step_on {strict} {limit} {mode} {then} {last} {frames} {then_frames} {last_frames} {token} {tokens}
    is rest =
    next mode frames token tokens then last then_frames last_frames is rest

pub one_step : {strict : Bool} {limit : ℕ} {mode then : Mode} {frames then_frames : List Frame}
    {token : Token} → taken strict limit mode frames token ≡ goes then then_frames →
    Leads strict limit mode frames (token ∷ []) then then_frames
one_step {strict} {limit} {mode} {then} {frames} {then_frames} is = step_on is
    (here then then_frames)

pub leads_past : {strict : Bool} {limit : ℕ} {mode between then last : Mode}
    {frames between_frames then_frames last_frames : List Frame} {tokens others : List Token}
    (token : Token) → Leads strict limit mode frames tokens between between_frames →
    taken strict limit between between_frames token ≡ goes then then_frames →
    Leads strict limit then then_frames others last last_frames →
    Leads strict limit mode frames (tokens ++ token ∷ others) last last_frames
leads_past token leads is more = leads_on leads (step_on is more)

pub leads_split : (strict : Bool) (limit : ℕ) (mode last : Mode) (frames last_frames : List Frame)
    (one other : List Token) → Leads strict limit mode frames (one ++ other) last last_frames →
    (then : Mode) × (then_frames : List Frame) × Leads strict limit mode frames one then then_frames
    × Leads strict limit then then_frames other last last_frames
leads_split strict limit mode last frames last_frames [] other leads =
    (mode, frames, here mode frames, leads)
leads_split strict limit mode last frames last_frames (token ∷ tokens) other
    (next _ _ _ _ mid _ mid_frames _ is rest) =
    let (then, then_frames, first, second) =
    leads_split strict limit mid last mid_frames last_frames tokens other rest in (
      then,
      then_frames,
      next mode frames token tokens mid then mid_frames then_frames is first,
      second,
    )

abbrev mode_in : Mode → Step → Mode
mode_in other (goes mode frames) = mode
mode_in other _ = other

abbrev frames_in : List Frame → Step → List Frame
frames_in other (goes mode frames) = frames
frames_in other _ = other

-- from one state the same tokens lead to one state
pub leads_same : (strict : Bool) (limit : ℕ) (mode a b : Mode)
    (frames a_frames b_frames : List Frame) (tokens : List Token) →
    Leads strict limit mode frames tokens a a_frames →
    Leads strict limit mode frames tokens b b_frames → (a ≡ b) × (a_frames ≡ b_frames)
leads_same strict limit mode a b frames a_frames b_frames tokens (here _ _) (here _ _) =
    (refl, refl)
leads_same strict limit mode a b frames a_frames b_frames tokens
    (next _ _ token more one _ one_frames _ is first) (next _ _ _ _ other _ other_frames _ also
    second) =
    leads_same strict limit other a b other_frames a_frames b_frames more
    (subst (λ (f : List Frame). Leads strict limit other f more a a_frames)
    (ap (frames_in one_frames) (sym is ∙ also))
    (subst (λ (m : Mode). Leads strict limit m one_frames more a a_frames)
    (ap (mode_in one) (sym is ∙ also)) first)) second

-- what is read strictly is read as well where deferred sizes are
pub generous : {strict : Bool} {limit : ℕ} {mode last : Mode} {frames last_frames : List Frame}
    {tokens : List Token} → Leads strict limit mode frames tokens last last_frames →
    Leads false limit mode frames tokens last last_frames
generous {mode = mode} {frames = frames} (here _ _) = here mode frames
generous {strict} {limit} {mode} {last} {frames} (next _ _ token more mid _ mid_frames _ is rest) =
    step_on (taken_generous strict limit mode frames token mid mid_frames is) (generous rest)

-- More room, for one token and for many.

taken_more : (strict : Bool) (less more : ℕ) → less ≤ more → (mode : Mode) (frames : List Frame)
    (token : Token) (then : Mode) (then_frames : List Frame) →
    taken strict less mode frames token ≡ goes then then_frames →
    taken strict more mode frames token ≡ goes then then_frames
taken_more strict less more within_more mode frames token then then_frames is =
    let went = taken_goes strict less mode frames token then then_frames is in
    ap (allowed strict) (more_room less more within_more mode frames token then then_frames went)
    ∙ (ap (allowed strict) (sym went) ∙ is)

-- with room enough the machine goes on from where it is too high
pub taken_deep : (strict : Bool) (limit : ℕ) (mode : Mode) (frames : List Frame) (token : Token) →
    taken strict limit mode frames token ≡ deep →
    (more : ℕ) × (limit ≤ more) × (then : Mode) × (then_frames : List Frame)
    × (step more mode frames token ≡ goes then then_frames)
taken_deep strict limit mode frames token is =
    deep_goes limit mode frames token (allowed_same strict (step limit mode frames token) deep refl
    is)

pub leads_more : {strict : Bool} {less more : ℕ} {mode last : Mode}
    {frames last_frames : List Frame} {tokens : List Token} → less ≤ more →
    Leads strict less mode frames tokens last last_frames →
    Leads strict more mode frames tokens last last_frames
leads_more {mode = mode} {frames = frames} within_more (here _ _) = here mode frames
leads_more {strict} {less} {more} {mode} {last} {frames} within_more
    (next _ _ token others mid _ mid_frames _ is rest) =
    step_on (taken_more strict less more within_more mode frames token mid mid_frames is)
    (leads_more within_more rest)

-- with room enough an end that is too high is a tree
pub deep_whole : (limit : ℕ) (mode : Mode) (frames : List Frame) →
    finish limit mode frames ≡ ends_deep →
    (more : ℕ) × (limit ≤ more) × (tree : Tree) × (finish more mode frames ≡ finished tree)
deep_whole limit mode frames is = by (finish_ending mode frames)
  where
    by : Ending (λ limit. finish limit mode frames) →
        (more : ℕ) × (limit ≤ more) × (tree : Tree) × (finish more mode frames ≡ finished tree)
    by (ends what ok same) = absurd (false≢true (ap is_ended (sym is ∙ same limit) ∙ ok))
    by (high need tree same) = (
      limit + need,
      omega (arith),
      tree,
      same (limit + need)
          ∙ cond-true (nat_le need (limit + need)) (finished tree) ends_deep
          (le-leb need (limit + need) (omega (arith))),
    )

-- What a run comes to.

abbrev IsRead : Run → Type 0
IsRead (read_as tree) = Unit {0}
IsRead _ = ⊥

unread : (made : Run) (tree : Tree) → made ≡ read_as tree → IsRead made
unread made tree is = subst IsRead (sym is) tt

abbrev pub tree_in : Tree → Run → Tree
tree_in other (read_as tree) = tree
tree_in other _ = other

end_read : (at : ℕ) (made : Finish) (tree : Tree) → run_end at made ≡ read_as tree →
    made ≡ finished tree
end_read at (finished own) tree is = ap (λ r. finished (tree_in tree r)) is
end_read at ends_badly tree is = absurd (unread (bad_at at) tree is)
end_read at ends_deep tree is = absurd (unread (deep_at at) tree is)

-- one token more in front
ends_longer : (strict : Bool) (limit : ℕ) (mode then : Mode) (frames then_frames : List Frame)
    (token : Token) (tokens : List Token) (tree : Tree) → taken strict limit mode frames token
    ≡ goes then then_frames → Ends strict limit then then_frames tokens tree →
    Ends strict limit mode frames (token ∷ tokens) tree
ends_longer strict limit mode then frames then_frames token tokens tree is led = record {
  last = led.last;
  last_frames = led.last_frames;
  leads = next mode frames token tokens then led.last then_frames led.last_frames is led.leads;
  ends = led.ends;
}

step_ends : (strict : Bool) (limit : ℕ) (mode : Mode) (frames : List Frame) (token : Token)
    (tokens : List Token) (tree : Tree) →
    ((at : ℕ) (then : Mode) (then_frames : List Frame) → run_from strict limit at
    (goes then then_frames) tokens ≡ read_as tree → Ends strict limit then then_frames tokens
    tree) → (at : ℕ) (what : Step) → taken strict limit mode frames token ≡ what →
    run_from strict limit at what tokens ≡ read_as tree →
    Ends strict limit mode frames (token ∷ tokens) tree
step_ends strict limit mode frames token tokens tree rest at (goes then then_frames) is same =
    ends_longer strict limit mode then frames then_frames token tokens tree is
    (rest at then then_frames same)
step_ends strict limit mode frames token tokens tree rest at bad is same =
    absurd (unread (bad_at at) tree same)
step_ends strict limit mode frames token tokens tree rest at deep is same =
    absurd (unread (deep_at at) tree same)
step_ends strict limit mode frames token tokens tree rest at (is_left_out text) is same =
    absurd (unread (left_out_at at text) tree same)

pub read_ends : (strict : Bool) (limit : ℕ) (tokens : List Token) (tree : Tree) (at : ℕ)
    (mode : Mode) (frames : List Frame) → run_from strict limit at (goes mode frames) tokens
    ≡ read_as tree → Ends strict limit mode frames tokens tree
read_ends strict limit [] tree at mode frames same = record {
  last = mode;
  last_frames = frames;
  leads = here mode frames;
  ends = end_read at (finish limit mode frames) tree same;
}
read_ends strict limit (token ∷ tokens) tree at mode frames same =
    let made = taken strict limit mode frames token in
    step_ends strict limit mode frames token tokens tree (read_ends strict limit tokens tree)
    (place_after at made) made refl same

leads_read : (strict : Bool) (limit : ℕ) (mode last : Mode) (frames last_frames : List Frame)
    (tokens : List Token) (tree : Tree) (at : ℕ) →
    Leads strict limit mode frames tokens last last_frames →
    finish limit last last_frames ≡ finished tree →
    run_from strict limit at (goes mode frames) tokens ≡ read_as tree
leads_read strict limit mode last frames last_frames tokens tree at (here _ _) whole = ap
    (run_end at) whole
leads_read strict limit mode last frames last_frames tokens tree at
    (next _ _ token more then _ then_frames _ is rest) whole =
    ap (λ s. run_from strict limit (place_after at s) s more) is ∙ leads_read strict limit then last
    then_frames last_frames more tree (suc at) rest whole

pub run_reads : (strict : Bool) (limit : ℕ) (tokens : List Token) (tree : Tree) →
    Ends strict limit wanted [] tokens tree → run_from strict limit 0 (goes wanted []) tokens
    ≡ read_as tree
run_reads strict limit tokens tree led =
    leads_read strict limit wanted led.last [] led.last_frames tokens tree 0 led.leads led.ends

end_outcome : (strict : Bool) (limit : ℕ) (before : List Token) (mode : Mode)
    (frames : List Frame) → Leads strict limit wanted [] before mode frames → (what : Finish) →
    finish limit mode frames ≡ what → Outcome strict limit before (run_end (length before) what)
end_outcome strict limit before mode frames leads (finished tree) is =
    reads before tree (record { last = mode; last_frames = frames; leads = leads; ends = is })
end_outcome strict limit before mode frames leads ends_badly is = is_cut_off before mode frames
    leads is
end_outcome strict limit before mode frames leads ends_deep is = is_deep_whole before mode frames
    leads is

-- what comes of the tokens behind these
abbrev GoesOut : Bool → ℕ → List Token → Type 0
GoesOut strict limit tokens = (before : List Token) (mode : Mode) (frames : List Frame) →
    Leads strict limit wanted [] before mode frames →
    Outcome strict limit (before ++ tokens) (run_from strict limit (length before)
    (goes mode frames) tokens)

step_outcome : (strict : Bool) (limit : ℕ) (token : Token) (tokens : List Token) →
    GoesOut strict limit tokens → (before : List Token) (mode : Mode) (frames : List Frame) →
    Leads strict limit wanted [] before mode frames → (what : Step) →
    taken strict limit mode frames token ≡ what → Outcome strict limit (before ++ token ∷ tokens)
    (run_from strict limit (place_after (length before) what) what tokens)
step_outcome strict limit token tokens rest before mode frames leads (goes then then_frames) is =
    subst (λ (n : ℕ). Outcome strict limit (before ++ token ∷ tokens)
    (run_from strict limit n (goes then then_frames) tokens)) same_place
    (subst (λ (all : List Token). Outcome strict limit all (run_from strict limit
    (length (before ++ token ∷ [])) (goes then then_frames) tokens))
    (append_assoc before (token ∷ []) tokens) (rest (before ++ token ∷ []) then then_frames
    (leads_on leads (one_step is))))
  where
    same_place : length (before ++ token ∷ []) ≡ suc (length before)
    same_place = omega (arith, length_push before token)
step_outcome strict limit token tokens rest before mode frames leads bad is =
    is_bad before tokens token mode frames leads is
step_outcome strict limit token tokens rest before mode frames leads deep is =
    is_deep before tokens token mode frames leads is
step_outcome strict limit token tokens rest before mode frames leads (is_left_out text) is =
    leaves_out before tokens token mode frames text leads is

goes_out : (strict : Bool) (limit : ℕ) (tokens : List Token) → GoesOut strict limit tokens
goes_out strict limit [] before mode frames leads =
    subst (λ (all : List Token). Outcome strict limit all
    (run_end (length before) (finish limit mode frames))) (sym (append-nil before))
    (end_outcome strict limit before mode frames leads (finish limit mode frames) refl)
goes_out strict limit (token ∷ tokens) before mode frames leads =
    step_outcome strict limit token tokens (goes_out strict limit tokens) before mode frames leads
    (taken strict limit mode frames token) refl

pub outcome : (strict : Bool) (limit : ℕ) (tokens : List Token) →
    Outcome strict limit tokens (run_from strict limit 0 (goes wanted []) tokens)
outcome strict limit tokens = goes_out strict limit tokens [] wanted [] (here wanted [])
