-- Distances, round by round.
use Rattle.std.proofs.Common.{◌≡◌, ◌≢◌, ◌⊎◌, inl, inr, ℕ, suc, zero, ◌+◌, ◌≤◌, ◌<◌, ◌==◌, ◌&&◌, ◌||◌, Bool, true, false}
use Rattle.std.proofs.Common.{List, [], ◌∷◌, length, drop, slice_get, Some, replicate, refl, sym, ap, ◌∙◌, subst, arith}
use Rattle.std.proofs.Common.{if◌then◌else◌}
use Rattle.std.specs.List.{list_any, slice_index_or}
use Rattle.std.proofs.lemmas.Bool.{true≢false, false≢true, or_right, cases_lt}
use Rattle.std.proofs.lemmas.List.{get_or_past, length-replicate}
use Rattle.std.specs.Cmp.Lexicographic.{pointwise, bytes_decides}
use Rattle.std.proofs.lemmas.Option.{same_Some, none-some}
use Rattle.module_set.specs.Cycles.{leads}
use Rattle.module_loader.specs.inside.Distances.{away, is_step, near, reached_at, reached, out, IsNext}
use Rattle.module_loader.specs.inside.Distances.{Measured, Round}

pub same-number : (a b : ℕ) → (a == b) ≡ true → a ≡ b
same-number a b h = grind arith

pub other-number : (a b : ℕ) → (a == b) ≡ false → a ≢ b
other-number a b h = grind arith

pub itself : (a : ℕ) → (a == a) ≡ true
itself a = grind arith

-- some target is a step
record Step (far to : ℕ) (distances : List ℕ) (between : ℕ) (targets : List ℕ) : Type 0 where
  target : ℕ
  among : list_any (λ k. k == target) targets ≡ true
  is : is_step far to distances between target ≡ true

step-of : (far to : ℕ) (distances : List ℕ) (between : ℕ) (targets : List ℕ) →
    near far to distances between targets ≡ true → Step far to distances between targets
step-of far to distances between [] h = absurd (false≢true h)
step-of far to distances between (target ∷ targets) h =
    by (is_step far to distances between target) refl h (λ rest. step-of far to distances between targets rest)
  where
    by : (b : Bool) → is_step far to distances between target ≡ b →
        (b || near far to distances between targets) ≡ true →
        (near far to distances between targets ≡ true → Step far to distances between targets) →
        Step far to distances between (target ∷ targets)
    by true is h later = record {
      target = target;
      among = ap (λ b. b || list_any (λ k. k == target) targets) (itself target);
      is = is;
    }
    by false is h later =
        let rest = later h in
        record {
          target = rest.target;
          among = or_right (target == rest.target) (list_any (λ k. k == rest.target) targets) rest.among;
          is = rest.is;
        }

near-of : (far to : ℕ) (distances : List ℕ) (between : ℕ) (targets : List ℕ) (target : ℕ) →
    list_any (λ k. k == target) targets ≡ true → is_step far to distances between target ≡ true →
    near far to distances between targets ≡ true
near-of far to distances between [] target among is = absurd (false≢true among)
near-of far to distances between (own ∷ targets) target among is =
    by (own == target) refl among (λ rest. near-of far to distances between targets target rest is)
  where
    by : (b : Bool) → (own == target) ≡ b → (b || list_any (λ k. k == target) targets) ≡ true →
        (list_any (λ k. k == target) targets ≡ true → near far to distances between targets ≡ true) →
        near far to distances between (own ∷ targets) ≡ true
    by true same among later =
        ap (λ b. b || near far to distances between targets)
        (subst (λ k. is_step far to distances between k ≡ true) (sym (same-number own target same)) is)
    by false same among later =
        or_right (is_step far to distances between own) (near far to distances between targets) (later among)

-- one more distance of a round
pub reached-drop : (far to : ℕ) (distances : List ℕ) (between : ℕ) (links : List (List ℕ)) (owns : List ℕ) (i : ℕ)
    (targets : List ℕ) (own : ℕ) → slice_get links i ≡ Some targets → slice_get owns i ≡ Some own →
    reached far to distances between (drop i links) (drop i owns)
    ≡ reached_at far to distances between targets own
    ∷ reached far to distances between (drop (i + 1) links) (drop (i + 1) owns)
reached-drop far to distances between [] owns i targets own at at_own = absurd (none-some targets at)
reached-drop far to distances between (first ∷ links) [] i targets own at at_own = absurd (none-some own at_own)
reached-drop far to distances between (first ∷ links) (owner ∷ owns) zero targets own at at_own =
    ap (λ value. value ∷ reached far to distances between links owns)
    (λ i. reached_at far to distances between (same_Some first targets at i) (same_Some owner own at_own i))
reached-drop far to distances between (first ∷ links) (owner ∷ owns) (suc i) targets own at at_own =
    let e : suc i + 1 ≡ suc (i + 1) = omega arith in
    reached-drop far to distances between links owns i targets own at at_own
    ∙ ap (λ n. reached_at far to distances between targets own
    ∷ reached far to distances between (drop n (first ∷ links)) (drop n (owner ∷ owns))) (sym e)

-- what one round makes of a distance
at-reached : (far to : ℕ) (distances : List ℕ) (between : ℕ) (links : List (List ℕ)) (owns : List ℕ) (index : ℕ) →
    length owns ≡ length links → away far (reached far to distances between links owns) index
    ≡ reached_at far to distances between (slice_index_or links index []) (away far owns index)
at-reached far to distances between [] [] index same = sym (none (far == far))
  where
    none : (b : Bool) → (if b && false then between else far) ≡ far
    none true = refl
    none false = refl
at-reached far to distances between [] (own ∷ owns) index same = absurd (omega (arith, same))
at-reached far to distances between (targets ∷ links) [] index same = absurd (omega (arith, same))
at-reached far to distances between (targets ∷ links) (own ∷ owns) zero same = refl
at-reached far to distances between (targets ∷ links) (own ∷ owns) (suc index) same =
    at-reached far to distances between links owns index (omega (arith, same))

-- a distance is reached, or stays
record Reaches (far to : ℕ) (distances : List ℕ) (between : ℕ) (targets : List ℕ) (own new : ℕ) : Type 0 where
  was : own ≡ far
  step : near far to distances between targets ≡ true
  is : new ≡ between

record Stays (far to : ℕ) (distances : List ℕ) (between : ℕ) (targets : List ℕ) (own new : ℕ) : Type 0 where
  is : new ≡ own
  none : own ≡ far → near far to distances between targets ≡ false

reached-cases : (far to : ℕ) (distances : List ℕ) (between : ℕ) (targets : List ℕ) (own : ℕ) →
    Reaches far to distances between targets own (reached_at far to distances between targets own)
    ⊎ Stays far to distances between targets own (reached_at far to distances between targets own)
reached-cases far to distances between targets own =
    by (own == far) refl (near far to distances between targets) refl
  where
    by : (a : Bool) → (own == far) ≡ a → (b : Bool) → near far to distances between targets ≡ b →
        Reaches far to distances between targets own (if a && b then between else own)
        ⊎ Stays far to distances between targets own (if a && b then between else own)
    by true is true step = inl (record { was = same-number own far is; step = step; is = refl })
    by true is false step = inr (record { is = refl; none = λ _. step })
    by false is true step = inr (record { is = refl; none = λ same. absurd (other-number own far is same) })
    by false is false step = inr (record { is = refl; none = λ _. step })

out-head : (far own : ℕ) (owns : List ℕ) → own ≡ far → out far (own ∷ owns) ≡ suc (out far owns)
out-head far own owns is = ap (λ b. if b then suc (out far owns) else out far owns) (ap (λ k. k == far) is ∙ itself far)

out-tail : (far own : ℕ) (owns : List ℕ) → out far owns ≤ out far (own ∷ owns)
out-tail far own owns = by (own == far)
  where
    by : (b : Bool) → out far owns ≤ (if b then suc (out far owns) else out far owns)
    by true = omega arith
    by false = omega arith

out-some : (far : ℕ) (distances : List ℕ) (index : ℕ) → index < length distances →
    slice_index_or distances index far ≡ far → 1 ≤ out far distances
out-some far [] index within is = absurd (omega (arith, within))
out-some far (own ∷ owns) zero within is = omega (arith, out-head far own owns is)
out-some far (own ∷ owns) (suc index) within is =
    let later = out-some far owns index (omega (arith, within)) is in
    omega (arith, later, out-tail far own owns)

-- a round that reaches some leaves fewer out of reach
reached-fewer : (far to : ℕ) (distances : List ℕ) (between : ℕ) (links : List (List ℕ)) (owns : List ℕ) →
    length owns ≡ length links → between + out far owns ≤ far →
    (reached far to distances between links owns ≡ owns)
    ⊎ (suc (out far (reached far to distances between links owns)) ≤ out far owns)
reached-fewer far to distances between [] [] same few = inl refl
reached-fewer far to distances between [] (own ∷ owns) same few = absurd (omega (arith, same))
reached-fewer far to distances between (targets ∷ links) [] same few = absurd (omega (arith, same))
reached-fewer far to distances between (targets ∷ links) (own ∷ owns) same few =
    let tail = out-tail far own owns in
    by (reached-cases far to distances between targets own)
    (reached-fewer far to distances between links owns (omega (arith, same)) (omega (arith, few, tail)))
  where
    by : Reaches far to distances between targets own (reached_at far to distances between targets own)
        ⊎ Stays far to distances between targets own (reached_at far to distances between targets own) →
        (reached far to distances between links owns ≡ owns)
        ⊎ (suc (out far (reached far to distances between links owns)) ≤ out far owns) →
        (reached far to distances between (targets ∷ links) (own ∷ owns) ≡ own ∷ owns)
        ⊎ (suc (out far (reached far to distances between (targets ∷ links) (own ∷ owns))) ≤ out far (own ∷ owns))
    by (inr stays) (inl none) = inl (λ i. stays.is i ∷ none i)
    by (inr stays) (inr fewer) = inr (subst (λ value.
        suc (out far (value ∷ reached far to distances between links owns)) ≤ out far (own ∷ owns)) (sym stays.is)
        (more (own == far)))
      where
        more : (b : Bool) →
            suc (if b then suc (out far (reached far to distances between links owns))
            else out far (reached far to distances between links owns))
            ≤ (if b then suc (out far owns) else out far owns)
        more true = omega (arith, fewer)
        more false = fewer
    by (inl reaches) rest = inr (omega (arith, out-head far own owns reaches.was, head, at_most rest))
      where
        head : out far (reached_at far to distances between targets own ∷ reached far to distances between links owns)
            ≡ out far (reached far to distances between links owns)
        head = ap (λ b. if b then suc (out far (reached far to distances between links owns))
            else out far (reached far to distances between links owns))
            (not-far (reached_at far to distances between targets own == far) refl)
          where
            not-far : (b : Bool) → (reached_at far to distances between targets own == far) ≡ b → b ≡ false
            not-far false is = refl
            not-far true is =
                let all = same-number (reached_at far to distances between targets own) far is in
                absurd (omega (arith, all, reaches.is, few, out-head far own owns reaches.was))

        at_most : (reached far to distances between links owns ≡ owns)
            ⊎ (suc (out far (reached far to distances between links owns)) ≤ out far owns) →
            out far (reached far to distances between links owns) ≤ out far owns
        at_most (inl none) = omega (arith, ap (out far) none)
        at_most (inr fewer) = omega (arith, fewer)

same-reached : (far to : ℕ) (distances : List ℕ) (between : ℕ) (links : List (List ℕ)) (owns : List ℕ) →
    length owns ≡ length links → length (reached far to distances between links owns) ≡ length links
same-reached far to distances between [] owns same = refl
same-reached far to distances between (targets ∷ links) [] same = absurd (omega (arith, same))
same-reached far to distances between (targets ∷ links) (own ∷ owns) same =
    ap suc (same-reached far to distances between links owns (omega (arith, same)))

module _ (links : List (List ℕ)) (to between : ℕ) (distances : List ℕ) (round : Round links to between distances) where
  abbrev far : ℕ
  far = length links

  abbrev new : List ℕ
  new = reached far to distances between links distances

  at : (index : ℕ) → away far new index
      ≡ reached_at far to distances between (slice_index_or links index []) (away far distances index)
  at index = at-reached far to distances between links distances index round.same

  reached-or : (index : ℕ) →
      Reaches far to distances between (slice_index_or links index []) (away far distances index) (away far new index)
      ⊎ Stays far to distances between (slice_index_or links index []) (away far distances index) (away far new index)
  reached-or index =
      subst (λ value. Reaches far to distances between (slice_index_or links index []) (away far distances index) value
      ⊎ Stays far to distances between (slice_index_or links index []) (away far distances index) value)
      (sym (at index)) (reached-cases far to distances between (slice_index_or links index [])
      (away far distances index))

  -- what is known stays
  kept : (index : ℕ) → away far distances index < far → away far new index ≡ away far distances index
  kept index within = by (reached-or index)
    where
      by : Reaches far to distances between (slice_index_or links index []) (away far distances index)
          (away far new index)
          ⊎ Stays far to distances between (slice_index_or links index []) (away far distances index)
          (away far new index) → away far new index ≡ away far distances index
      by (inl reaches) = absurd (omega (arith, within, reaches.was))
      by (inr stays) = stays.is

  -- a round makes the next one, where some distance is reached
  below-more : (index : ℕ) → away far new index < far → away far new index < suc between
  below-more index within = by (reached-or index)
    where
      by : Reaches far to distances between (slice_index_or links index []) (away far distances index)
          (away far new index)
          ⊎ Stays far to distances between (slice_index_or links index []) (away far distances index)
          (away far new index) → away far new index < suc between
      by (inl reaches) = omega (arith, ap suc reaches.is)
      by (inr stays) =
          let old = round.below index (omega (arith, within, stays.is)) in
          omega (arith, old, stays.is)

  in_reach-or : (index : ℕ) → (away far distances index < far) ⊎ (away far distances index ≡ far)
  in_reach-or index = by (cases_lt (away far distances index) far)
    where
      by : (away far distances index < far) ⊎ (far ≤ away far distances index) →
          (away far distances index < far) ⊎ (away far distances index ≡ far)
      by (inl within) = inl within
      by (inr past) = inr (omega (arith, past, round.bounded index))

  there-more : (index : ℕ) → leads links index to ≡ true → 1 ≤ suc between → away far new index ≡ 0
  there-more index leads some = by between refl (reached-or index)
    where
      by : (n : ℕ) → between ≡ n →
          Reaches far to distances between (slice_index_or links index []) (away far distances index)
          (away far new index)
          ⊎ Stays far to distances between (slice_index_or links index []) (away far distances index)
          (away far new index) → away far new index ≡ 0
      by zero none (inl reaches) = reaches.is ∙ none
      by zero none (inr stays) = last (in_reach-or index)
        where
          last : (away far distances index < far) ⊎ (away far distances index ≡ far) → away far new index ≡ 0
          last (inl within) =
              let old = round.below index within in
              absurd (omega (arith, old, none))
          last (inr out) =
              absurd (true≢false (sym leads
              ∙ (ap (λ n. near far to distances n (slice_index_or links index [])) (sym none) ∙ stays.none out)))
      by (suc n) more _ =
          let old = round.there index leads (omega (arith, more)) in
          kept index (omega (arith, old, round.few, more)) ∙ old

  -- where some import leads, there are modules
  importer-within : (index target : ℕ) → leads links index target ≡ true → index < length distances
  importer-within index target leads = by (cases_lt index (length distances))
    where
      by : (index < length distances) ⊎ (length distances ≤ index) → index < length distances
      by (inl within) = within
      by (inr past) =
          absurd (false≢true (ap (λ targets. list_any (λ k. k == target) targets)
          (sym (get_or_past links index [] (omega (arith, past, round.same)))) ∙ leads))

  reaches-within : (index target : ℕ) → leads links index target ≡ true → away far distances index ≡ far →
      between < far
  reaches-within index target leads is =
      let some = out-some far distances index (importer-within index target leads) is in
      omega (arith, some, round.few)

  closed-more : (index target : ℕ) → leads links index target ≡ true → away far new target + 1 < suc between →
      (away far new index < far) × (away far new index ≤ away far new target + 1)
  closed-more index target leads few = by (reached-or target)
    where
      near-index : (n : ℕ) → between ≡ suc n → away far distances target ≡ n →
          near far to distances between (slice_index_or links index []) ≡ true
      near-index n is at =
          ap (λ m. near far to distances m (slice_index_or links index [])) is
          ∙ near-of far to distances (suc n) (slice_index_or links index []) target leads
          (ap (λ m. m == n) at ∙ itself n)

      last : away far new target ≡ away far distances target → (n : ℕ) → between ≡ suc n →
          away far distances target ≡ n →
          Reaches far to distances between (slice_index_or links index []) (away far distances index)
          (away far new index)
          ⊎ Stays far to distances between (slice_index_or links index []) (away far distances index)
          (away far new index) →
          (away far distances index < far) ⊎ (away far distances index ≡ far) →
          (away far new index < far) × (away far new index ≤ away far new target + 1)
      last same n is at (inl reaches) _ = (
        omega (arith, reaches-within index target leads reaches.was, reaches.is),
        omega
            (arith, reaches.is, same, is, at),
      )
      last same n is at (inr stays) (inl within) =
          let old = round.below index within in
          (omega (arith, within, stays.is), omega (arith, old, stays.is, same, is, at))
      last same n is at (inr stays) (inr none) =
          absurd (true≢false (sym (near-index n is at) ∙ stays.none none))

      nearer : away far new target ≡ away far distances target →
          (away far distances target + 1 < between) ⊎ (between ≤ away far distances target + 1) →
          (away far new index < far) × (away far new index ≤ away far new target + 1)
      nearer same (inl less) =
          let old = round.closed index target leads less in
          let stays = kept index old.0 in
          (omega (arith, old.0, stays), omega (arith, old.1, stays, same))
      nearer same (inr last_round) =
          last same (away far distances target) (omega (arith, last_round, few, same)) refl (reached-or index)
          (in_reach-or index)

      by : Reaches far to distances between (slice_index_or links target []) (away far distances target)
          (away far new target)
          ⊎ Stays far to distances between (slice_index_or links target []) (away far distances target)
          (away far new target) →
          (away far new index < far) × (away far new index ≤ away far new target + 1)
      by (inl reaches) = absurd (omega (arith, few, reaches.is))
      by (inr stays) = nearer stays.is (cases_lt (away far distances target + 1) between)

  next-more : (index own : ℕ) → away far new index ≡ own → own < far → IsNext links to new own index
  next-more index own is within = by (reached-or index)
    where
      stepped : (n : ℕ) → between ≡ n → own ≡ n →
          Step far to distances between (slice_index_or links index []) → IsNext links to new n index
      stepped zero round_is own_is step =
          let same = same-number step.target to
          (ap (λ m. is_step far to distances m step.target) (sym round_is) ∙ step.is) in
          subst (λ target. leads links index target ≡ true) same step.among
      stepped (suc n) round_is own_is step =
          let same = same-number (away far distances step.target) n
          (ap (λ m. is_step far to distances m step.target) (sym round_is) ∙ step.is) in
          (step.target, step.among, kept step.target (omega (arith, same, own_is, within)) ∙ same)

      stayed : (n : ℕ) → n < far → IsNext links to distances n index → IsNext links to new n index
      stayed zero small next = next
      stayed (suc n) small next = (next.0, next.1, kept next.0 (omega (arith, next.2, small)) ∙ next.2)

      by : Reaches far to distances between (slice_index_or links index []) (away far distances index)
          (away far new index)
          ⊎ Stays far to distances between (slice_index_or links index []) (away far distances index)
          (away far new index) → IsNext links to new own index
      by (inl reaches) =
          let is_round = sym is ∙ reaches.is in
          subst (λ n. IsNext links to new n index) refl
          (stepped own (sym is_round) refl (step-of far to distances between (slice_index_or links index [])
          reaches.step))
      by (inr stays) = stayed own within (round.next index own (sym stays.is ∙ is) within)

  bounded-more : (index : ℕ) → away far new index ≤ far
  bounded-more index = by (reached-or index)
    where
      by : Reaches far to distances between (slice_index_or links index []) (away far distances index)
          (away far new index)
          ⊎ Stays far to distances between (slice_index_or links index []) (away far distances index)
          (away far new index) → away far new index ≤ far
      by (inl reaches) = omega (arith, reaches.is, round.few)
      by (inr stays) = omega (arith, stays.is, round.bounded index)

  -- a round in which some are reached makes the next
  pub round-more : suc (out far new) ≤ out far distances → Round links to (suc between) new
  round-more fewer = record {
    same = same-reached far to distances between links distances round.same;
    bounded = bounded-more;
    below = below-more;
    there = there-more;
    closed = closed-more;
    next = next-more;
    few = omega (arith, fewer, round.few);
  }

  -- a round in which none is reached is the last
  pub measured-last : new ≡ distances → Measured links to distances
  measured-last none = record {
    same = round.same;
    closed = λ index target leads. record {
      there = λ same. ap (λ all. away far all index) (sym none)
          ∙ there-more index (subst (λ k. leads_to index k) same leads) (omega arith);
      in_reach = λ within.
          let few = round.below target within in
          subst (λ all. (away far all index < far) × (away far all index ≤ away far all target + 1)) none
          (closed-more index target leads (omega (arith, few, ap (λ all. away far all target) none)));
    };
    next = round.next;
  }
    where
      leads_to : ℕ → ℕ → Type 0
      leads_to index target = leads links index target ≡ true

-- before the first round all are out of reach
pub round-none : (links : List (List ℕ)) (to : ℕ) (distances : List ℕ) →
    distances ≡ replicate (length links) (length links) → Round links to 0 distances
round-none links to distances is = record {
  same = ap length is ∙ length-replicate (length links) (length links);
  bounded = λ index. omega (arith, all index);
  below = λ index within. absurd (omega (arith, within, all index));
  there = λ index leads some. absurd (omega (arith, some));
  closed = λ index target leads few. absurd (omega (arith, few));
  next = λ index own same within. absurd (omega (arith, same, within, all index));
  few = out-within (length links) distances (ap length is ∙ length-replicate (length links) (length links));
}
  where
    repeated : (n far index : ℕ) → slice_index_or (replicate n far) index far ≡ far
    repeated zero far index = refl
    repeated (suc n) far zero = refl
    repeated (suc n) far (suc index) = repeated n far index

    all : (index : ℕ) → away (length links) distances index ≡ length links
    all index = ap (λ all. slice_index_or all index (length links)) is ∙ repeated (length links) (length links) index

    out-at-most : (far : ℕ) (owns : List ℕ) → out far owns ≤ length owns
    out-at-most far [] = omega arith
    out-at-most far (own ∷ owns) = by (own == far) (out-at-most far owns)
      where
        by : (b : Bool) → out far owns ≤ length owns →
            (if b then suc (out far owns) else out far owns) ≤ suc (length owns)
        by true h = omega (arith, h)
        by false h = omega (arith, h)

    out-within : (far : ℕ) (owns : List ℕ) → length owns ≡ far → 0 + out far owns ≤ far
    out-within far owns same = omega (arith, same, out-at-most far owns)

-- a round whose distances differ from those before makes the next, and leaves fewer out of reach
pub round-next : (links : List (List ℕ)) (to between : ℕ) (distances next : List ℕ) →
    Round links to between distances → next ≡ reached (length links) to distances between links distances →
    pointwise ◌==◌ next distances ≡ false →
    (out (length links) next < out (length links) distances) × Round links to (between + 1) next
round-next links to between distances next round is differ =
    by (reached-fewer (length links) to distances between links distances round.same round.few)
  where
    by : (reached (length links) to distances between links distances ≡ distances)
        ⊎ (suc (out (length links) (reached (length links) to distances between links distances))
        ≤ out (length links) distances) →
        (out (length links) next < out (length links) distances) × Round links to (between + 1) next
    by (inl none) = absurd (true≢false (sym ((bytes_decides next distances).1 (is ∙ none)) ∙ differ))
    by (inr fewer) =
        let e : suc between ≡ between + 1 = omega arith in
        subst (λ value. (out (length links) value < out (length links) distances) × Round links to (between + 1) value)
        (sym is) (
          fewer,
          subst (λ n. Round links to n (reached (length links) to distances between links distances)) e
              (round-more links to between distances round fewer),
        )

-- a round whose distances are those before is the last
pub round-last : (links : List (List ℕ)) (to between : ℕ) (distances next : List ℕ) →
    Round links to between distances → next ≡ reached (length links) to distances between links distances →
    pointwise ◌==◌ next distances ≡ true → Measured links to distances
round-last links to between distances next round is same =
    measured-last links to between distances round (sym is ∙ (bytes_decides next distances).0 same)
