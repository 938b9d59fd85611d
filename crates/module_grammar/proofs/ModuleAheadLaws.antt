-- Heads that tokens come to behind others, and which states don't come to one.
use Rattle.std.proofs.Common.{◌≡◌, ◌⊎◌, inl, inr, ◌∙◌, sym, ap, subst, refl, arith, ℕ, zero, suc}
use Rattle.std.proofs.Common.{◌+◌}
use Rattle.std.proofs.Common.{◌≤◌, ◌<◌, Bool, false, List, [], ◌∷◌, ◌++◌, length, take}
use Rattle.std.proofs.Common.{slice_get, Some, codes}
use Rattle.std.proofs.lemmas.Bool.{false≢true}
use Rattle.std.proofs.lemmas.Option.{same_Some, none-some}
use Rattle.mdl_lexer.specs.declared.token.Kind.{Kind}
use Rattle.mdl_lexer.specs.declared.token.Token.{Token}
use Rattle.mdl_lexer.specs.Kinds.{mark_word}
use Rattle.mdl_syntax.specs.PlacedModules.{placed_module}
use Rattle.mdl_syntax.specs.AcceptedModules.{module_height}
use Rattle.module_grammar.specs.ModuleFaults.{EndsHead, IsWhole, ModuleOpensTo}
use Rattle.expression_grammar.specs.Readings.{kinds}
use Rattle.module_grammar.specs.inside.ModuleMachine.{module_step}
use Rattle.module_grammar.specs.inside.ModuleStates.{State, on, mdl_wanted}
use Rattle.module_grammar.specs.inside.ModuleLeads.{ModuleLeads, ModuleEnds}
use Rattle.module_grammar.specs.inside.ModuleHeads.{IsHead, IsItem}
use Rattle.expression_grammar.proofs.KindLaws.{kinds_append, same_head, same_tail}
use Rattle.expression_grammar.proofs.FaultLaws.{words_front, inside_length}
use Rattle.module_grammar.proofs.ModuleLeadsLaws.{module_leads_split, renumbered}
use Rattle.module_grammar.proofs.ModuleHeadKinds.{MayStand}
use Rattle.module_grammar.proofs.ModuleHeadEnds.{head_body}
use Rattle.module_grammar.proofs.ModuleHeadKept.{kept_way, WholeBehind}
use Rattle.module_grammar.proofs.ModuleHeadWays.{reached_last}
use Rattle.module_grammar.proofs.ModuleReadingLaws.{module_written_reads}
use Rattle.module_grammar.proofs.ModuleFaultLaws.{step_opens, same_way, whole_stands}
use Rattle.module_grammar.proofs.ModuleHeadWords.{head_reached, last_mark}

-- Tokens at a place.

pub token_at : (tokens : List Token) (place : ℕ) (word : Kind) →
    slice_get (kinds tokens) place ≡ Some word →
    (front : List Token) × (token : Token) × (more : List Token)
    × (tokens ≡ front ++ token ∷ more) × (length front ≡ place) × (token.kind ≡ word)
token_at [] place word is = absurd (none-some word is)
token_at (token ∷ tokens) zero word is =
    ([], token, tokens, refl, refl, same_Some token.kind word is)
token_at (first ∷ tokens) (suc place) word is =
    let (front, token, more, are, long, kind_is) = token_at tokens place word is in
    (first ∷ front, token, more, ap (λ l. first ∷ l) are, ap suc long, kind_is)

-- a longer front of the same tokens
pub split_longer : (before rest front behind : List Token) → length before ≤ length front →
    before ++ rest ≡ front ++ behind →
    (middle : List Token) × (front ≡ before ++ middle) × (rest ≡ middle ++ behind)
split_longer [] rest front behind fits same = (front, refl, same)
split_longer (one ∷ before) rest [] behind fits same = absurd (omega (arith, fits))
split_longer (one ∷ before) rest (other ∷ front) behind fits same =
    let (middle, are, rests) = split_longer before rest front behind (omega (arith, fits))
    (same_tail one other (before ++ rest) (front ++ behind) same) in (
      middle,
      ap (λ (t : Token). t ∷ front) (sym (same_head one other (before ++ rest) (front ++ behind)
          same)) ∙ ap (λ l. one ∷ l) are,
      rests,
    )

-- A head.

-- a way to the head that tokens end, with as much room as is wanted
pub head_way : (least : ℕ) (front : List Token) → EndsHead (kinds front) →
    (higher : ℕ) × (least ≤ higher) × (mid : State)
    × ModuleLeads false higher 0 mdl_wanted front mid × IsHead mid
head_way least front head =
    by (module_written_reads false higher head.tree (front ++ last_mark ∷ []) head.is
    (λ is. absurd (false≢true is)) (λ is. absurd (false≢true is)) (omega arith)
    (head.writes ∙ sym (kinds_append front (last_mark ∷ []))))
  where
    higher : ℕ
    higher = module_height head.tree + least

    by : ModuleEnds false higher 0 mdl_wanted (front ++ last_mark ∷ [])
        (placed_module head.tree (front ++ last_mark ∷ [])) →
        (more : ℕ) × (least ≤ more) × (mid : State)
        × ModuleLeads false more 0 mdl_wanted front mid × IsHead mid
    by ends =
        let (mid, first, is) = reached_last false higher ends.last front last_mark ends.leads in
        (higher, omega arith, mid, first, head_reached false higher front mid first head)

-- behind these tokens a head ends at a `=`
pub record HeadAhead (before rest : List Token) (equals : ℕ) : Type 0 where
  pub middle : List Token
  pub mark : Token
  pub more : List Token
  pub are : before ++ rest ≡ (before ++ middle) ++ mark ∷ more
  pub rests : rest ≡ middle ++ mark ∷ more
  pub long : length (before ++ middle) ≡ equals
  pub is : mark.kind ≡ mark_word (codes "=")
  pub head : EndsHead (kinds (before ++ middle))

pub head_ahead : (before rest : List Token) (equals : ℕ) → length before ≤ equals →
    slice_get (kinds (before ++ rest)) equals ≡ Some (mark_word (codes "=")) →
    EndsHead (take equals (kinds (before ++ rest))) → HeadAhead before rest equals
head_ahead before rest equals later there head =
    let (front, mark, more, are, long, is) = token_at (before ++ rest) equals
    (mark_word (codes "=")) there in
    by front mark more are long is
    (split_longer before rest front (mark ∷ more) (omega (arith, later, long)) are)
  where
    by : (front : List Token) (mark : Token) (more : List Token) →
        before ++ rest ≡ front ++ mark ∷ more → length front ≡ equals →
        mark.kind ≡ mark_word (codes "=") →
        (middle : List Token) × (front ≡ before ++ middle) × (rest ≡ middle ++ mark ∷ more) →
        HeadAhead before rest equals
    by front mark more are long is (middle, same, rests) = record {
      middle = middle;
      mark = mark;
      more = more;
      are = are ∙ ap (λ l. l ++ mark ∷ more) same;
      rests = rests;
      long = sym (ap length same) ∙ long;
      is = is;
      head = subst EndsHead (ap (λ (l : List Token). take equals (kinds l)) are
          ∙ (ap (λ (n : ℕ). take n (kinds (front ++ mark ∷ more))) (sym long)
          ∙ (words_front front (mark ∷ more) ∙ ap kinds same))) head;
    }

-- so the words open through it
pub ahead_opens : (before rest : List Token) (equals : ℕ) → HeadAhead before rest equals →
    (higher : ℕ) × ModuleOpensTo (kinds (before ++ rest)) equals higher
ahead_opens before rest equals ahead =
    let (higher, room, mid, leads, head) = head_way 1 (before ++ ahead.middle) ahead.head in
    let (begun, fronted, parameters, frequency, annotations, same, is) =
    head_body higher (length (before ++ ahead.middle)) mid ahead.mark head
    (record { is = ahead.is }) in (
      higher,
      subst (λ (n : ℕ). ModuleOpensTo (kinds (before ++ rest)) n higher) ahead.long
          (subst (λ (l : List Token). ModuleOpensTo (kinds l) (length (before ++ ahead.middle))
          higher) (sym ahead.are)
          (inl (
            inside_length (before ++ ahead.middle) ahead.more ahead.mark,
            step_opens false higher room (before ++ ahead.middle) ahead.more ahead.mark mid _ leads
                is,
          ))),
    )

-- what a declaration keeps, and no head has, isn't there before a head of the same declaration
pub no_head_behind : (Keep : State → Type 0) → ((limit number : ℕ) (state after : State)
    (token : Token) → MayStand state → Keep state → module_step limit number state token ≡ on after
    →
    Keep after ⊎ IsItem after) → ((state : State) → Keep state → IsHead state → ⊥) →
    (strict : Bool) (most : ℕ) (before rest : List Token) (state : State) →
    ModuleLeads strict most 0 mdl_wanted before state → Keep state → (equals : ℕ) →
    HeadAhead before rest equals → ((whole : ℕ) → length before < whole → whole ≤ equals →
    IsWhole (kinds (before ++ rest)) whole → ⊥) → ⊥
no_head_behind Keep step apart strict most before rest state leads keep equals ahead none =
    let (higher, room, mid, way, head) = head_way (suc most) (before ++ ahead.middle) ahead.head in
    let (own, first, second) = module_leads_split false higher 0 mdl_wanted mid before ahead.middle
    way in
    by higher room mid head (kept_way Keep step false higher (length before) before ahead.middle own
    mid refl first
    (subst Keep (sym (same_way strict most higher 0 mdl_wanted state own before (omega (
      arith,
      room,
    ))
    leads first)) keep)
    (renumbered false higher (0 + length before) (length before) own mid ahead.middle (omega arith)
    second))
  where
    by : (higher : ℕ) → suc most ≤ higher → (mid : State) → IsHead mid →
        Keep mid ⊎ WholeBehind false higher (length before) (before ++ ahead.middle) → ⊥
    by higher room mid head (inl kept) = apart mid kept head
    by higher room mid head (inr (whole, less, is)) =
        none whole less (omega (arith, is.within_them, ahead.long))
        (subst (λ (l : List Token). IsWhole (kinds l) whole) (sym ahead.are)
        (whole_stands false higher (omega (arith, room)) (before ++ ahead.middle)
        (ahead.mark ∷ ahead.more) whole is))
