-- The least of the shortest ways.
use Rattle.std.proofs.Common.{◌≡◌, ◌≢◌, ◌⊎◌, inl, inr, ℕ, suc, zero, ◌+◌, ◌-◌, ◌≤◌, ◌<◌, ◌==◌, ◌&&◌, ◌||◌, Bool, true}
use Rattle.std.proofs.Common.{false}
use Rattle.std.proofs.Common.{List, [], ◌∷◌, length, ltb, Some, None, refl, sym, ap, ◌∙◌, subst, arith, if◌then◌else◌}
use Rattle.std.specs.List.{list_any, slice_index_or}
use Rattle.std.proofs.lemmas.Bool.{false≢true, or_right, cases_lt, ltb-false, ltb-true, lt-ltb, false_from_ne_true}
use Rattle.std.proofs.lemmas.List.{get_or_past}
use Rattle.module_set.specs.Cycles.{leads, leads_over, is_at_most, is_cycle, rank, IsFirstCycle, HasNoCycle}
use Rattle.module_loader.specs.inside.Distances.{away, IsNext, Measured, lesser, least_next, way_from, way_over}
use Rattle.module_loader.proofs.DistanceLaws.{same-number, other-number, itself}

record Least (far : ℕ) (distances : List ℕ) (between : ℕ) (targets : List ℕ) (target : ℕ) : Type 0 where
  is : least_next far distances between targets ≡ Some target
  leads_to : list_any (λ k. k == target) targets ≡ true
  at : away far distances target ≡ between
  least : (other : ℕ) → list_any (λ k. k == other) targets ≡ true → away far distances other ≡ between → target ≤ other

record NoNext (far : ℕ) (distances : List ℕ) (between : ℕ) (targets : List ℕ) : Type 0 where
  is : least_next far distances between targets ≡ None
  none : (other : ℕ) → list_any (λ k. k == other) targets ≡ true → away far distances other ≡ between → ⊥

module _ (far : ℕ) (distances : List ℕ) (between : ℕ) where
  Outcome : List ℕ → Type 0
  Outcome targets = NoNext far distances between targets ⊎ ((target : ℕ) × Least far distances between targets target)

  first-or : (one other : ℕ) (targets : List ℕ) → (b : Bool) → (one == other) ≡ b →
      (b || list_any (λ k. k == other) targets) ≡ true → (one ≡ other) ⊎ (list_any (λ k. k == other) targets ≡ true)
  first-or one other targets true same h = inl (same-number one other same)
  first-or one other targets false same h = inr h

  least-cases : (targets : List ℕ) → Outcome targets
  unfolding Outcome
  least-cases [] = inl (record { is = refl; none = λ other h. absurd (false≢true h) })
  least-cases (target ∷ targets) = by (away far distances target == between) refl (least-cases targets)
    where
      among-head : list_any (λ k. k == target) (target ∷ targets) ≡ true
      among-head = ap (λ b. b || list_any (λ k. k == target) targets) (itself target)

      by : (b : Bool) → (away far distances target == between) ≡ b →
          NoNext far distances between targets ⊎ ((next : ℕ) × Least far distances between targets next) →
          NoNext far distances between (target ∷ targets)
          ⊎ ((next : ℕ) × Least far distances between (target ∷ targets) next)
      by false apart (inl nothing) = inl (record {
        is = ap (λ b. if b then Some (lesser target (least_next far distances between targets))
            else least_next far distances between targets) apart ∙ nothing.is;
        none = λ other h at. no_head other at (first-or target other targets (target == other) refl h);
      })
        where
          no_head : (other : ℕ) → away far distances other ≡ between →
              (target ≡ other) ⊎ (list_any (λ k. k == other) targets ≡ true) → ⊥
          no_head other at (inl same) =
              other-number (away far distances target) between apart (ap (away far distances) same ∙ at)
          no_head other at (inr later) = nothing.none other later at
      by false apart (inr found) = inr (
        found.0,
        record {
          is = ap (λ b. if b then Some (lesser target (least_next far distances between targets))
              else least_next far distances between targets) apart ∙ found.1.is;
          leads_to = or_right (target == found.0) (list_any (λ k. k == found.0) targets) found.1.leads_to;
          at = found.1.at;
          least = λ other h at. head other at (first-or target other targets (target == other) refl h);
        },
      )
        where
          head : (other : ℕ) → away far distances other ≡ between →
              (target ≡ other) ⊎ (list_any (λ k. k == other) targets ≡ true) → found.0 ≤ other
          head other at (inl same) =
              absurd (other-number (away far distances target) between apart (ap (away far distances) same ∙ at))
          head other at (inr later) = found.1.least other later at
      by true here (inl nothing) = inr (
        target,
        record {
          is = ap (λ b. if b then Some (lesser target (least_next far distances between targets))
              else least_next far distances between targets) here ∙ ap (λ other. Some (lesser target other)) nothing.is;
          leads_to = among-head;
          at = same-number (away far distances target) between here;
          least = λ other h at. head other at (first-or target other targets (target == other) refl h);
        },
      )
        where
          head : (other : ℕ) → away far distances other ≡ between →
              (target ≡ other) ⊎ (list_any (λ k. k == other) targets ≡ true) → target ≤ other
          head other at (inl same) = omega (arith, same)
          head other at (inr later) = absurd (nothing.none other later at)
      by true here (inr found) = pick (ltb found.0 target) refl
        where
          whole : least_next far distances between (target ∷ targets) ≡ Some
              (if ltb found.0 target then found.0 else target)
          whole = ap (λ b. if b then Some (lesser target (least_next far distances between targets))
              else least_next far distances between targets) here ∙ ap (λ other. Some (lesser target other)) found.1.is

          pick : (b : Bool) → ltb found.0 target ≡ b → NoNext far distances between (target ∷ targets)
              ⊎ ((next : ℕ) × Least far distances between (target ∷ targets) next)
          pick true less = inr (
            found.0,
            record {
              is = whole ∙ ap (λ b. Some (if b then found.0 else target)) less;
              leads_to = or_right (target == found.0) (list_any (λ k. k == found.0) targets) found.1.leads_to;
              at = found.1.at;
              least = λ other h at. head other at (first-or target other targets (target == other) refl h);
            },
          )
            where
              head : (other : ℕ) → away far distances other ≡ between →
                  (target ≡ other) ⊎ (list_any (λ k. k == other) targets ≡ true) → found.0 ≤ other
              head other at (inl same) = omega (arith, ltb-true found.0 target less, same)
              head other at (inr later) = found.1.least other later at
          pick false not_less = inr (
            target,
            record {
              is = whole ∙ ap (λ b. Some (if b then found.0 else target)) not_less;
              leads_to = among-head;
              at = same-number (away far distances target) between here;
              least = λ other h at. head other at (first-or target other targets (target == other) refl h);
            },
          )
            where
              head : (other : ℕ) → away far distances other ≡ between →
                  (target ≡ other) ⊎ (list_any (λ k. k == other) targets ≡ true) → target ≤ other
              head other at (inl same) = omega (arith, same)
              head other at (inr later) =
                  let more = found.1.least other later at in
                  omega (arith, more, ltb-false found.0 target not_less)

pub and-left : (a b : Bool) → (a && b) ≡ true → a ≡ true
and-left true b h = refl
and-left false b h = absurd (false≢true h)

pub and-right : (a b : Bool) → (a && b) ≡ true → b ≡ true
and-right true b h = h
and-right false b h = absurd (false≢true h)

and-both : (a b : Bool) → a ≡ true → b ≡ true → (a && b) ≡ true
and-both a b h k = ap (λ c. c && b) h ∙ k

module _ (links : List (List ℕ)) (to : ℕ) (distances : List ℕ) (measured : Measured links to distances) where
  abbrev far : ℕ
  far = length links

  -- no way is shorter than the distance
  pub way-shortest : (index : ℕ) (other : List ℕ) → leads_over links index other to ≡ true →
      (away far distances index < far) × (away far distances index ≤ length other)
  way-shortest index [] leads_there =
      let at = (measured.closed index to leads_there).there refl in
      (omega (arith, at, within), omega (arith, at))
    where
      within : 0 < far
      within = by (cases_lt index far)
        where
          by : (index < far) ⊎ (far ≤ index) → 0 < far
          by (inl inside) = omega (arith, inside)
          by (inr past) = absurd (false≢true (ap (λ targets. list_any (λ k. k == to) targets)
              (sym (get_or_past links index [] past)) ∙ leads_there))
  way-shortest index (next ∷ other) over =
      let step = and-left (leads links index next) (leads_over links next other to) over in
      let later = way-shortest next other (and-right (leads links index next) (leads_over links next other to) over) in
      let near = (measured.closed index next step).in_reach later.0 in
      (near.0, omega (arith, near.1, later.1))

  next-of : (index between : ℕ) → away far distances index ≡ suc between → suc between < far →
      (next : ℕ) × Least far distances between (slice_index_or links index []) next
  unfolding Outcome
  next-of index between at within = by (least-cases far distances between (slice_index_or links index []))
    where
      step : IsNext links to distances (suc between) index
      step = measured.next index (suc between) at within

      by : NoNext far distances between (slice_index_or links index [])
          ⊎ ((next : ℕ) × Least far distances between (slice_index_or links index []) next) →
          (next : ℕ) × Least far distances between (slice_index_or links index []) next
      by (inl nothing) = absurd (nothing.none step.0 step.1 step.2)
      by (inr found) = found

  way-next : (index between next : ℕ) →
      least_next far distances between (slice_index_or links index []) ≡ Some next →
      way_from links distances (suc between) index ≡ next ∷ way_from links distances between next
  way-next index between next is = ap (way_over (λ next. way_from links distances between next)) is

  -- the way leads there
  pub way-leads : (between index : ℕ) → away far distances index ≡ between → between < far →
      leads_over links index (way_from links distances between index) to ≡ true
  way-leads zero index at within = measured.next index zero at within
  way-leads (suc between) index at within =
      let next = next-of index between at within in
      let later = way-leads between next.0 next.1.at (omega (arith, within)) in
      subst (λ way. leads_over links index way to ≡ true) (sym (way-next index between next.0 next.1.is))
      (and-both (leads links index next.0) (leads_over links next.0 (way_from links distances between next.0) to)
      next.1.leads_to later)

  -- it is as long as the distance
  pub way-long : (between index : ℕ) → away far distances index ≡ between → between < far →
      length (way_from links distances between index) ≡ between
  way-long zero index at within = refl
  way-long (suc between) index at within =
      let next = next-of index between at within in
      ap length (way-next index between next.0 next.1.is)
      ∙ ap suc (way-long between next.0 next.1.at (omega (arith, within)))

  -- it is the least of those
  pub way-least : (between index : ℕ) (other : List ℕ) → away far distances index ≡ between → between < far →
      leads_over links index other to ≡ true → length other ≡ between →
      is_at_most (way_from links distances between index) other ≡ true
  way-least zero index other at within over long = refl
  way-least (suc between) index [] at within over long = absurd (omega (arith, long))
  way-least (suc between) index (own ∷ other) at within over long =
      let next = next-of index between at within in
      let step = and-left (leads links index own) (leads_over links own other to) over in
      let rest = and-right (leads links index own) (leads_over links own other to) over in
      let short = way-shortest own other rest in
      let near = (measured.closed index own step).in_reach short.0 in
      let own_at : away far distances own ≡ between = omega (arith, near.1, short.1, at, long) in
      let less = next.1.least own step own_at in
      subst (λ way. is_at_most way (own ∷ other) ≡ true) (sym (way-next index between next.0 next.1.is))
      (by next.0 next.1.at less own_at rest (next.0 == own) refl
      (way-least between own other own_at (omega (arith, within)) rest (omega (arith, long))))
    where
      by : (next : ℕ) → away far distances next ≡ between → next ≤ own → away far distances own ≡ between →
          leads_over links own other to ≡ true → (b : Bool) → (next == own) ≡ b →
          is_at_most (way_from links distances between own) other ≡ true →
          (if b then is_at_most (way_from links distances between next) other else ltb next own) ≡ true
      by next at less own_at rest true same h =
          subst (λ k. is_at_most (way_from links distances between k) other ≡ true) (sym (same-number next own same)) h
      by next at less own_at rest false apart h = lt-ltb next own (omega (arith, less, other-number next own apart))

-- no cycle begins below a number
abbrev pub NoneBelow : List (List ℕ) → ℕ → Type 0
NoneBelow links start = (first : ℕ) (way : List ℕ) → leads_over links first way first ≡ true → start ≤ first

-- where none begins below, the least of the shortest ways is the first cycle
pub first-found : (links : List (List ℕ)) (start : ℕ) (distances : List ℕ) → Measured links start distances →
    NoneBelow links start → away (length links) distances start < length links →
    IsFirstCycle links (start ∷ way_from links distances (away (length links) distances start) start)
first-found links start distances measured none within = record {
  is = way-leads links start distances measured long start refl within;
  first = λ other is. before other is;
}
  where
    long : ℕ
    long = away (length links) distances start

    before : (other : List ℕ) → is_cycle links other ≡ true →
        is_at_most (rank (start ∷ way_from links distances (away (length links) distances start) start)) (rank other)
        ≡ true
    before [] is = absurd (false≢true is)
    before (first ∷ way) is = by (start == first) refl
      where
        mine : List ℕ
        mine = way_from links distances (away (length links) distances start) start

        by : (b : Bool) → (start == first) ≡ b →
            (if b then is_at_most (length (way_from links distances (away (length links) distances start) start)
            ∷ way_from links distances (away (length links) distances start) start) (length way ∷ way)
            else ltb start first) ≡ true
        by false apart =
            lt-ltb start first (omega (arith, none first way is, other-number start first apart))
        by true same = longer (own_long == length way) refl
          where
            own_long : ℕ
            own_long = length (way_from links distances (away (length links) distances start) start)

            over : leads_over links start way start ≡ true
            over = subst (λ k. leads_over links k way k ≡ true) (sym (same-number start first same)) is

            longer : (b : Bool) →
                (length (way_from links distances (away (length links) distances start) start) == length way) ≡ b →
                (if b then is_at_most (way_from links distances (away (length links) distances start) start) way
                else ltb (length (way_from links distances (away (length links) distances start) start)) (length way))
                ≡ true
            longer true equal =
                way-least links start distances measured (away (length links) distances start) start way refl within
                over
                (sym (same-number (length (way_from links distances (away (length links) distances start) start))
                (length way) equal)
                ∙ way-long links start distances measured (away (length links) distances start) start refl within)
            longer false apart =
                let mine_long = way-long links start distances measured (away (length links) distances start) start
                refl within in
                let short = way-shortest links start distances measured start way over in
                lt-ltb (length (way_from links distances (away (length links) distances start) start)) (length way)
                (omega (
                  arith,
                  mine_long,
                  short.1,
                  other-number (length (way_from links distances (away (length links) distances start) start))
                      (length way) apart,
                ))

-- where a module is out of its own reach, no cycle begins at it
pub none-here : (links : List (List ℕ)) (start : ℕ) (distances : List ℕ) → Measured links start distances →
    NoneBelow links start → length links ≤ away (length links) distances start → NoneBelow links (start + 1)
none-here links start distances measured none past first way over = by (start == first) refl
  where
    by : (b : Bool) → (start == first) ≡ b → start + 1 ≤ first
    by true same =
        let here = subst (λ k. leads_over links k way k ≡ true) (sym (same-number start first same)) over in
        let reach = way-shortest links start distances measured start way here in
        absurd (omega (arith, reach.0, past))
    by false apart = omega (arith, none first way over, other-number start first apart)

-- a step of the way
pub way-more : (links : List (List ℕ)) (distances : List ℕ) (between index next : ℕ) → 0 < between →
    least_next (length links) distances (between - 1) (slice_index_or links index []) ≡ Some next →
    way_from links distances between index ≡ next ∷ way_from links distances (between - 1) next
way-more links distances zero index next some is = absurd (omega (arith, some))
way-more links distances (suc between) index next some is =
    let e : suc between - 1 ≡ between = omega arith in
    ap (way_over (λ next. way_from links distances between next))
    (ap (λ n. least_next (length links) distances n (slice_index_or links index [])) (sym e) ∙ is)
    ∙ ap (λ n. next ∷ way_from links distances n next) (sym e)

first-within : (links : List (List ℕ)) (first : ℕ) (way : List ℕ) (to : ℕ) → leads_over links first way to ≡ true →
    first < length links
first-within links first way to over = by (cases_lt first (length links))
  where
    none : length links ≤ first → (way : List ℕ) → leads_over links first way to ≡ true → first < length links
    none past [] over = absurd (false≢true (ap (λ targets. list_any (λ k. k == to) targets)
        (sym (get_or_past links first [] past)) ∙ over))
    none past (next ∷ way) over = absurd (false≢true (ap (λ targets. list_any (λ k. k == next) targets)
        (sym (get_or_past links first [] past))
        ∙ and-left (leads links first next) (leads_over links next way to) over))

    by : (first < length links) ⊎ (length links ≤ first) → first < length links
    by (inl within) = within
    by (inr past) = none past way over

-- where none begins below the number of modules, there is none
pub none-left : (links : List (List ℕ)) (end : ℕ) → NoneBelow links end → length links ≤ end → HasNoCycle links
none-left links end none whole [] = refl
none-left links end none whole (first ∷ way) =
    false_from_ne_true (leads_over links first way first) (λ over.
    let least = none first way over in
    let within = first-within links first way first over in
    omega (arith, least, within, whole))

-- the same for distances that are lent
pub first-found-in : (links : List (List ℕ)) (start : ℕ) (distances lent lent_again cycle : List ℕ) (value count : ℕ) →
    Measured links start distances → NoneBelow links start → lent ≡ distances → lent_again ≡ distances →
    value ≡ away (length lent) lent start → value < count → count ≡ length links →
    cycle ≡ start ∷ way_from links lent_again (away (length lent_again) lent_again start) start →
    IsFirstCycle links cycle
first-found-in links start distances lent lent_again cycle value count measured none same same_again is less whole
    made =
    let long : value ≡ away (length links) distances start =
    is ∙ (ap (λ all. away (length all) all start) same ∙ ap (λ far. away far distances start) measured.same) in
    let own : cycle ≡ start ∷ way_from links distances (away (length links) distances start) start =
    made ∙ (ap (λ all. start ∷ way_from links all (away (length all) all start) start) same_again
    ∙ ap (λ far. start ∷ way_from links distances (away far distances start) start) measured.same) in
    subst (IsFirstCycle links) (sym own)
    (first-found links start distances measured none (omega (arith, long, less, whole)))

pub none-here-in : (links : List (List ℕ)) (start : ℕ) (distances lent : List ℕ) (value count : ℕ) →
    Measured links start distances → NoneBelow links start → lent ≡ distances →
    value ≡ away (length lent) lent start → count ≤ value → count ≡ length links → NoneBelow links (start + 1)
none-here-in links start distances lent value count measured none same is past whole =
    let long : value ≡ away (length links) distances start =
    is ∙ (ap (λ all. away (length all) all start) same ∙ ap (λ far. away far distances start) measured.same) in
    none-here links start distances measured none (omega (arith, long, past, whole))

-- the end of the way
pub way-none : (links : List (List ℕ)) (distances : List ℕ) (between index : ℕ) → 0 < between →
    least_next (length links) distances (between - 1) (slice_index_or links index []) ≡ None →
    way_from links distances between index ≡ []
way-none links distances zero index some is = refl
way-none links distances (suc between) index some is =
    let e : suc between - 1 ≡ between = omega arith in
    ap (way_over (λ next. way_from links distances between next))
    (ap (λ n. least_next (length links) distances n (slice_index_or links index [])) (sym e) ∙ is)
