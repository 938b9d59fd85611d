-- Modules are closed one behind those that they import, and in the end all are.
use Rattle.std.proofs.Common.{◌≡◌, ◌∙◌, ◌++◌, ◌∷◌, [], ◌<◌, ◌≤◌, ◌+◌, ◌==◌, ◌&&◌, ◌||◌, ℕ, zero, suc, Bool, true}
use Rattle.std.proofs.Common.{false, not, List, Option, Some, None, map, ltb, refl, sym, ap, subst, arith}
use Rattle.std.proofs.Common.{slice_get, slice_index_or, length, take, take-suc, get_or, replicate}
use Rattle.std.specs.List.{list_any, list_all}
use Rattle.std.specs.declared.vec.Vec.{Vec}
use Rattle.std.specs.declared.alloc.Global.{Global}
use Rattle.std.proofs.lemmas.Bool.{and_parts, or_from, ltb-true, eqb-true, eqb-false, eq-eqb, ne_eqb}
use Rattle.std.proofs.lemmas.Bool.{false≢true, false_from_ne_true}
use Rattle.std.proofs.lemmas.List.{length-map, length-append, length-replicate, take_all}
use Rattle.std.proofs.lemmas.Option.{same_Some, none-some, slice_get_within, slice_get-get_or}
use Rattle.std.proofs.Math.Bool.{not-not}
use Rattle.case_table.specs.Lists.{firsts}
use Rattle.case_table.specs.ListLaws.{slice_get-once}
use Rattle.scope_tables.specs.declared.declared.Takes as held_takes
use Rattle.scope_tables.specs.declared.declared.Written.{Written}
use Rattle.scope_core.specs.declared.settled.Settled.{Settled}
use Rattle.scope_core.specs.declared.settled.Scene.{Scene}
use Rattle.scope_tables.specs.declared.tables.Table.{Table}
use Rattle.scope_tables.specs.declared.tables.Place.{Place}
use Rattle.scope_tables.specs.Entities.{Declared, Takes}
use Rattle.scope_tables.specs.Brought.{Bringing}
use Rattle.scope_tables.specs.Visible.{World, brought_at}
use Rattle.scope_tables.specs.inside.Order.{is_among, are_below, IsOrder}
use Rattle.scope_tables.specs.inside.Finding.{placed}
use Rattle.scope_core.specs.inside.Holding.{Hold}
use Rattle.scope_tables.specs.inside.Pieces.{takes_of}
use Rattle.scope_tables.specs.inside.Reaching.{froms}
use Rattle.scope_core.specs.inside.Scoping.{AreWritten, NoneHidden}
use Rattle.scope_core.specs.inside.Settling.{taken_at}
use Rattle.scope_core.specs.inside.Rounds.{declared_in, declared_at, entities_in, settled_in, settled_count}
use Rattle.scope_core.specs.inside.Rounds.{is_settled, is_known_number, is_based, Settles, Describes, IsReady}
use Rattle.scope_core.specs.inside.Rounds.{Stays, AreClosed, last_types, WrittenAreSettled, BegunAreSettled}
use Rattle.scope_core.specs.inside.Rounds.{SettlesWritten, SettlesVariant, SettlesListed, SettlesVariants, Closes}
use Rattle.scope_core.specs.inside.Rounds.{SettlesModule}
use Rattle.scope_core.specs.inside.Closing.{VariantsSome, OrderSome}
use Rattle.scope_tables.proofs.MemberLaws.{numbers, there-is, all-at}
use Rattle.scope_core.proofs.VisibleLaws.{tables-long}
use Rattle.scope_core.proofs.WalkLaws.{still-settled}

-- what was settled stays settled
abbrev first_takes : Takes → List Takes → Takes
first_takes d [] = d
first_takes d (x ∷ xs) = x

abbrev rest_takes : List Takes → List Takes
rest_takes [] = []
rest_takes (x ∷ xs) = xs

-- what stands beside in two lists that agree
beside : (takes : List held_takes.Takes) (piece : List Declared) (i : ℕ) (x : held_takes.Takes)
    → map takes_of takes ≡ map (λ (one : Declared). one.takes) piece → i < length takes → x ≡ get_or takes i x
    → (one : Declared) × (slice_get piece i ≡ Some one) × (takes_of x ≡ one.takes)
beside [] piece i x same within is = absurd (omega (arith, within))
beside (a ∷ takes) [] i x same within is = absurd (let long = ap length same in omega (arith, long))
beside (a ∷ takes) (b ∷ piece) zero x same within is =
    (b, refl, ap takes_of is ∙ ap (first_takes (takes_of a)) same)
beside (a ∷ takes) (b ∷ piece) (suc i) x same within is =
    beside takes piece i x (ap rest_takes same) (omega (arith, within)) is

-- before the first
pub listed-start : (scene : Scene) (m : ℕ) (takes : List held_takes.Takes) (old : Settled)
    → SettlesListed scene m takes 0 old old
listed-start scene m takes old = record {
  settles = λ world pieces closed piece describes settles ready at same.
      (settles, λ i one less there based. absurd (omega (arith, less)));
}

-- one more
pub listed-more : (scene : Scene) (m : ℕ) (takes : List held_takes.Takes) (i : ℕ) (one : held_takes.Takes)
    (old now after : Settled) → i < length takes → one ≡ get_or takes i one → SettlesListed scene m takes i old now
    → SettlesWritten scene (placed m i) one now after → SettlesListed scene m takes (i + 1) old after
listed-more scene m takes i one old now after within is before step = record { settles = settles }
  where
    settles : (world : World) (pieces : List (List Declared)) (closed : List ℕ) (piece : List Declared)
        → Describes world pieces scene → Settles world pieces closed old → IsReady world closed m
        → slice_get pieces m ≡ Some piece → map takes_of takes ≡ map (λ (one : Declared). one.takes) piece
        → Settles world pieces closed after
        × ((j : ℕ) (one : Declared) → j < i + 1 → slice_get piece j ≡ Some one → is_based one.takes ≡ false
        → is_settled after.taken.items (placed m j) ≡ true)
    settles world pieces closed piece describes begun ready at same =
        let front = before.settles world pieces closed piece describes begun ready at same in
        let there = beside takes piece i one same within is in
        let here : declared_at pieces (placed m i) ≡ Some there.0 = ap (λ p. declared_in p i) at ∙ there.1 in
        let made = step.settles world pieces closed there.0 describes front.0 ready here there.2 in
        (made.0, λ j other less found based. by j other found based (j == i) refl less front.1 there.0 there.1 made.1)
      where
        by : (j : ℕ) (other : Declared) → slice_get piece j ≡ Some other → is_based other.takes ≡ false
            → (b : Bool) → (j == i) ≡ b → j < i + 1
            → ((j : ℕ) (one : Declared) → j < i → slice_get piece j ≡ Some one → is_based one.takes ≡ false
            → is_settled now.taken.items (placed m j) ≡ true)
            → (last : Declared) → slice_get piece i ≡ Some last
            → (is_based last.takes ≡ false → is_settled after.taken.items (placed m i) ≡ true)
            → is_settled after.taken.items (placed m j) ≡ true
        by j other found based true e less front last there new =
            let same = eqb-true j i e in
            let one = same_Some last other (sym there ∙ ap (slice_get piece) (sym same) ∙ found) in
            ap (λ n. is_settled after.taken.items (placed m n)) same
            ∙ new (ap (λ (d : Declared). is_based d.takes) one ∙ based)
        by j other found based false e less front last there new =
            let apart = eqb-false j i e in
            still-settled now after (placed m j) step.stays
            (front j other (omega (arith, less, apart)) found based)

written-stays : (pieces : List (List Declared)) (m : ℕ) (old new : Settled) → Stays old new
    → WrittenAreSettled pieces m old.taken.items → WrittenAreSettled pieces m new.taken.items
written-stays pieces m old new stays written = record {
  settled = λ i one at based. still-settled old new (placed m i) stays (written.settled i one at based);
}

none-begun : (count i : ℕ) → slice_index_or (replicate count false) i false ≡ true → ⊥
none-begun zero i is = false≢true is
none-begun (suc count) zero is = false≢true is
none-begun (suc count) (suc i) is = none-begun count i is

pub variants-start : (scene : Scene) (m count : ℕ) (old : Settled) (begun : List Bool) → begun ≡ replicate count false
    → VariantsSome scene m count 0 begun old old
variants-start scene m count old begun is = record {
  long = ap length is ∙ length-replicate count false;
  tables = refl;
  settles = λ world pieces closed piece describes settles ready at long written. (
    settles,
    written,
    record { settled = λ i here. absurd (none-begun count i (ap (λ l. slice_index_or l i false) (sym is) ∙ here)) },
    λ i one less there. absurd (omega (arith, less)),
  );
}

pub variants-more : (scene : Scene) (m count i : ℕ) (begun after_begun : List Bool) (old now after : Settled)
    → i < count → VariantsSome scene m count i begun old now
    → SettlesVariant scene begun (placed m i) now after_begun after
    → VariantsSome scene m count (i + 1) after_begun old after
variants-more scene m count i begun after_begun old now after within before step = record {
  long = step.long ∙ before.long;
  tables = step.stays.tables ∙ before.tables;
  settles = settles;
}
  where
    settles : (world : World) (pieces : List (List Declared)) (closed : List ℕ) (piece : List Declared)
        → Describes world pieces scene → Settles world pieces closed old → IsReady world closed m
        → slice_get pieces m ≡ Some piece → length piece ≡ count → WrittenAreSettled pieces m old.taken.items
        → Settles world pieces closed after × WrittenAreSettled pieces m after.taken.items
        × BegunAreSettled m after_begun after.taken.items
        × ((j : ℕ) (one : Declared) → j < i + 1 → slice_get piece j ≡ Some one
        → is_settled after.taken.items (placed m j) ≡ true)
    settles world pieces closed piece describes start ready at long written =
        let front = before.settles world pieces closed piece describes start ready at long written in
        let there = there-is piece i (omega (arith, within, long)) in
        let here : declared_at pieces (placed m i) ≡ Some there.0 = ap (λ p. declared_in p i) at ∙ there.1 in
        let made = step.settles world pieces closed there.0 describes front.0 ready here front.1 front.2
        (λ other found. before.long ∙ sym long ∙ ap length (same_Some piece other (sym at ∙ found))) in (
          made.0,
          written-stays pieces m now after step.stays front.1,
          made.1,
          λ j other less found. by j other found (j == i) refl less front.3 made.2,
        )
      where
        by : (j : ℕ) (other : Declared) → slice_get piece j ≡ Some other
            → (b : Bool) → (j == i) ≡ b → j < i + 1
            → ((j : ℕ) (one : Declared) → j < i → slice_get piece j ≡ Some one
            → is_settled now.taken.items (placed m j) ≡ true)
            → is_settled after.taken.items (placed m i) ≡ true
            → is_settled after.taken.items (placed m j) ≡ true
        by j other found true e less front new =
            ap (λ n. is_settled after.taken.items (placed m n)) (eqb-true j i e) ∙ new
        by j other found false e less front new =
            let apart = eqb-false j i e in
            still-settled now after (placed m j) step.stays (front j other (omega (arith, less, apart)) found)

pub variants-end : (scene : Scene) (m count i : ℕ) (begun : List Bool) (old now : Settled) → count ≤ i
    → VariantsSome scene m count i begun old now → SettlesVariants scene m count old now
variants-end scene m count i begun old now past some = record {
  settles = λ world pieces closed piece describes settles ready at long written.
      let all = some.settles world pieces closed piece describes settles ready at long written in (
        all.0,
        λ j one there.
            let less = slice_get_within piece j one there in
            all.3 j one (omega (arith, less, long, past)) there,
      );
}

-- what is written of a module, and its piece
written-at : (pieces : List (List Declared)) (all : List Written) (m : ℕ) (written : Written) → AreWritten pieces all
    → m < length all → written ≡ get_or all m written
    → (piece : List Declared) × (slice_get pieces m ≡ Some piece)
    × (map takes_of written.takes.items ≡ map (λ (one : Declared). one.takes) piece)
written-at [] [] m written are within is = absurd (omega (arith, within))
written-at [] (w ∷ all) m written are within is = absurd are
written-at (p ∷ pieces) [] m written are within is = absurd are
written-at (p ∷ pieces) (w ∷ all) zero written are within is =
    (p, refl, ap (λ (w : Written). map takes_of w.takes.items) is ∙ are.0.takes)
written-at (p ∷ pieces) (w ∷ all) (suc m) written are within is =
    written-at pieces all m written are.1 (omega (arith, within)) is

written-past : (pieces : List (List Declared)) (all : List Written) (m : ℕ) → AreWritten pieces all → length all ≤ m
    → slice_get pieces m ≡ None
written-past [] [] m are past = refl
written-past [] (w ∷ all) m are past = absurd are
written-past (p ∷ pieces) [] m are past = absurd are
written-past (p ∷ pieces) (w ∷ all) zero are past = absurd (omega (arith, past))
written-past (p ∷ pieces) (w ∷ all) (suc m) are past = written-past pieces all m are.1 (omega (arith, past))

-- a module that there is
pub module-settled : (scene : Scene) (m : ℕ) (written : Written) (old listed varied new : Settled)
    → m < length scene.written.now → written ≡ get_or scene.written.now m written
    → SettlesListed scene m written.takes.items (length written.takes.items) old listed
    → SettlesVariants scene m (length written.takes.items) listed varied → Closes m varied new
    → SettlesModule scene m old new
module-settled scene m written old listed varied new within is first second last = record { settles = settles }
  where
    settles : (world : World) (pieces : List (List Declared)) (closed : List ℕ) → Describes world pieces scene
        → Settles world pieces closed old → IsReady world closed m → Settles world pieces (closed ++ m ∷ []) new
    settles world pieces closed describes start ready =
        let there = written-at pieces scene.written.now m written describes.written within is in
        let piece = there.0 in
        let at = there.1 in
        let long : length piece ≡ length written.takes.items =
        sym (length-map piece (λ (one : Declared). one.takes)) ∙ ap length (sym there.2)
        ∙ length-map written.takes.items takes_of in
        let front = first.settles world pieces closed piece describes start ready at there.2 in
        let all = second.settles world pieces closed piece describes front.0 ready at long
        (record {
          settled = λ i one here based.
              let found : slice_get piece i ≡ Some one = ap (λ p. declared_in p i) (sym at) ∙ here in
              let less = slice_get_within piece i one found in
              front.1 i one (omega (arith, less, long)) found based;
        }) in
        last.settles world pieces closed all.0
        (λ i one here. all.1 i one (ap (λ p. declared_in p i) (sym at) ∙ here))

-- one that isn't there
pub module-none : (scene : Scene) (m : ℕ) (old new : Settled) → length scene.written.now ≤ m → Closes m old new
    → SettlesModule scene m old new
module-none scene m old new past last = record {
  settles = λ world pieces closed describes start ready.
      last.settles world pieces closed start
      (λ i one here. absurd (none-some one
      (ap (λ p. declared_in p i) (sym (written-past pieces scene.written.now m describes.written past)) ∙ here)));
}

among-place : (ms : List ℕ) (i m : ℕ) → is_among (take i ms) m ≡ true → (j : ℕ) × (j < i) × (slice_get ms j ≡ Some m)
among-place ms zero m among = absurd (false≢true among)
among-place [] (suc i) m among = absurd (false≢true among)
among-place (x ∷ ms) (suc i) m among = by (x == m) refl among (λ later. among-place ms i m later)
  where
    by : (b : Bool) → (x == m) ≡ b → (b || is_among (take i ms) m) ≡ true
        → (is_among (take i ms) m ≡ true → (j : ℕ) × (j < i) × (slice_get ms j ≡ Some m))
        → (j : ℕ) × (j < suc i) × (slice_get (x ∷ ms) j ≡ Some m)
    by true same among rest = (0, omega arith, ap Some (eqb-true x m same))
    by false same among rest =
        let later = rest among in
        let less = later.1 in
        (suc later.0, omega (arith, less), later.2)

-- in a list without repeats a member doesn't stand before itself
fresh-at : (ms : List ℕ) (i m : ℕ) → firsts ◌==◌ ms ≡ ms → slice_get ms i ≡ Some m → is_among (take i ms) m ≡ false
fresh-at ms i m apart at =
    false_from_ne_true (is_among (take i ms) m)
    (λ among.
    let there = among-place ms i m among in
    let less = there.1 in
    let same = slice_get-once ◌==◌ numbers ms m there.0 i apart there.2 at in
    omega (arith, less, same))

below-at : (count : ℕ) (ms : List ℕ) (i m : ℕ) → are_below count ms ≡ true → slice_get ms i ≡ Some m → m < count
below-at count ms i m all at = ltb-true m count (all-at (λ k. ltb k count) ms i m all at)

froms-at : (brings : List (List Bringing)) (m : ℕ)
    → slice_index_or (map froms brings) m [] ≡ froms (slice_index_or brings m [])
froms-at [] m = refl
froms-at (one ∷ brings) zero = refl
froms-at (one ∷ brings) (suc m) = froms-at brings m

-- what stands among others stands among these with one more before
all-wider : (n : ℕ) (ms : List ℕ) (bringings : List Bringing) → list_all (is_among ms) (froms bringings) ≡ true
    → list_all (λ (bringing : Bringing). is_among (n ∷ ms) bringing.from) bringings ≡ true
all-wider n ms [] all = refl
all-wider n ms (bringing ∷ bringings) all =
    let apart = and_parts (is_among ms bringing.from) (list_all (is_among ms) (froms bringings)) all in
    ap (λ b. b && list_all (λ (bringing : Bringing). is_among (n ∷ ms) bringing.from) bringings)
    (wider (n == bringing.from) apart.0)
    ∙ all-wider n ms bringings apart.1
  where
    wider : (b : Bool) {c : Bool} → c ≡ true → (b || c) ≡ true
    wider true is = refl
    wider false is = is

-- each module of an order comes when all that it imports are closed
ready-at : (world : World) (order : List ℕ) (i m : ℕ) → length world.brings ≡ length world.names
    → IsOrder (map froms world.brings) order → slice_get order i ≡ Some m
    → IsReady world (length world.names ∷ take i order) m
ready-at world order i m long is at =
    let count = length-map world.brings froms in
    let less : m < length world.names = (
    let below = below-at (length (map froms world.brings)) order i m is.within at in
    omega (arith, below, count, long)) in
    record {
      can = λ other. record {
        within = less;
        fresh = or_from (length world.names == m) (is_among (take i order) m)
            (ne_eqb (length world.names) m (λ same. omega (arith, same, less)))
            (fresh-at order i m is.apart at);
        given = ap (λ b. b || is_among (take i order) (length world.names))
            (eq-eqb (length world.names) (length world.names) refl);
        imports = all-wider (length world.names) (take i order) (brought_at world m)
            (ap (list_all (is_among (take i order))) (sym (froms-at world.brings m)) ∙ is.behind i m at);
      };
    }

-- after the prelude
pub order-start : (scene : Scene) (order : List ℕ) (first now : Settled) (n : ℕ) → n ≡ length scene.names.now
    → SettlesModule scene n first now → OrderSome scene order 0 first now
order-start scene order first now n is step = record {
  settles = λ world pieces describes settles long ordered.
      let same : n ≡ length world.names = is ∙ ap length describes.names in
      subst (λ k. Settles world pieces (k ∷ []) now) same
      (step.settles world pieces [] describes settles
      (record { can = λ other. absurd (false≢true (sym other ∙ eq-eqb n (length world.names) same)) }));
}

pub order-more : (scene : Scene) (order : List ℕ) (i m d : ℕ) (first now after : Settled) → i < length order
    → m ≡ get_or order i d → OrderSome scene order i first now → SettlesModule scene m now after
    → OrderSome scene order (i + 1) first after
order-more scene order i m d first now after within is before step = record {
  settles = λ world pieces describes settles long ordered.
      let e : i + 1 ≡ suc i = omega arith in
      subst (λ l. Settles world pieces (length world.names ∷ l) after)
      (sym (ap (λ n. take n order) e ∙ take-suc order i d within ∙ ap (λ v. take i order ++ v ∷ []) (sym is)))
      (step.settles world pieces (length world.names ∷ take i order) describes
      (before.settles world pieces describes settles long ordered)
      (ready-at world order i m long ordered (slice_get-get_or order i d within ∙ ap Some (sym is))));
}

settled_in-le : (row : List (Option ℕ)) → settled_in row ≤ length row
settled_in-le [] = omega arith
settled_in-le (None ∷ row) = omega (arith, settled_in-le row)
settled_in-le (Some number ∷ row) = omega (arith, settled_in-le row)

count-within : (taken : List (Vec (Option ℕ) Global)) (pieces : List (List Declared))
    → map (λ (row : Vec (Option ℕ) Global). length row.items) taken ≡ map length pieces
    → settled_count taken ≤ length (entities_in pieces)
count-within [] pieces same = omega arith
count-within (row ∷ taken) [] same = absurd (let long = ap length same in omega (arith, long))
count-within (row ∷ taken) (p ∷ pieces) same =
    let head : length row.items ≡ length p = ap (first 0) same in
    let later = count-within taken pieces (ap rest same) in
    let own = settled_in-le row.items in
    let all = length-append p (entities_in pieces) in
    omega (arith, head, later, own, all)
  where
    first : ℕ → List ℕ → ℕ
    first d [] = d
    first d (x ∷ xs) = x

    rest : List ℕ → List ℕ
    rest [] = []
    rest (x ∷ xs) = xs

declared-within : (pieces : List (List Declared)) (m i : ℕ) (one : Declared)
    → declared_in (slice_get pieces m) i ≡ Some one → m < length pieces
declared-within [] m i one at = absurd (none-some one at)
declared-within (p ∷ pieces) zero i one at = omega arith
declared-within (p ∷ pieces) (suc m) i one at = omega (arith, declared-within pieces m i one at)

-- where all modules are closed, all is settled
pub all-settled : (world : World) (pieces : List (List Declared)) (closed : List ℕ) (settled : Settled)
    → Settles world pieces closed settled → length pieces ≡ suc (length world.names)
    → ((m : ℕ) → m ≤ length world.names → is_among closed m ≡ true) → AreClosed world pieces settled
all-settled world pieces closed settled settles count all = record {
  hold = settles.hold;
  apart = settles.known.apart;
  taken = λ place one at.
      by place one at (taken_at settled.taken.items place) refl
      ((settles.closed_are place.«module» (closed-at place.«module» place.index one at)).settled place.index one at);
  hidden = λ m i one table there at.
      (settles.closed_are m (closed-at m i one at)).hidden i (length (entities_in pieces)) one table there at enough;
}
  where
    enough : settled_count settled.taken.items ≤ length (entities_in pieces)
    enough = count-within settled.taken.items pieces settles.long

    closed-at : (m i : ℕ) (one : Declared) → declared_in (slice_get pieces m) i ≡ Some one → is_among closed m ≡ true
    closed-at m i one at =
        let less = declared-within pieces m i one at in
        all m (omega (arith, less, count))

    by : (place : Place) (one : Declared) → declared_at pieces place ≡ Some one → (taken : Option ℕ)
        → taken_at settled.taken.items place ≡ taken → is_known_number taken ≡ true
        → (number : ℕ) × (taken_at settled.taken.items place ≡ Some number)
        × (slice_get settled.lists.keys number ≡ Some (last_types world pieces one))
    by place one at None same is = absurd (false≢true is)
    by place one at (Some number) same is = (
      number,
      same,
      slice_get-get_or settled.lists.keys number [] (settles.known.within place number same)
          ∙ ap Some (sym (settles.known.known place one number (length (entities_in pieces)) at same enough)),
    )

-- the order holds all modules
pub order-end : (scene : Scene) (order : List ℕ) (i : ℕ) (first now : Settled) → length order ≤ i
    → OrderSome scene order i first now → (world : World) (pieces : List (List Declared))
    → Describes world pieces scene → Settles world pieces [] first → length world.brings ≡ length world.names
    → IsOrder (map froms world.brings) order → AreClosed world pieces now
order-end scene order i first now past some world pieces describes settles long ordered =
    all-settled world pieces (length world.names ∷ take i order) now
    (some.settles world pieces describes settles long ordered) count all
  where
    count : length pieces ≡ suc (length world.names)
    count = sym (tables-long world 0 first.tables.items pieces settles.hold.are) ∙ settles.hold.count

    all : (m : ℕ) → m ≤ length world.names → is_among (length world.names ∷ take i order) m ≡ true
    all m less = by (length world.names == m) refl
      where
        by : (b : Bool) → (length world.names == m) ≡ b → (b || is_among (take i order) m) ≡ true
        by true same = refl
        by false same =
            let apart = eqb-false (length world.names) m same in
            let modules = length-map world.brings froms in
            ap (λ l. is_among l m) (take_all i order past)
            ∙ ordered.whole m (omega (arith, less, apart, modules, long))

none-taken : (world : World) (pieces : List (List Declared)) (all : List Written)
    (taken : List (Vec (Option ℕ) Global)) → AreWritten pieces all
    → map (λ (row : Vec (Option ℕ) Global). row.items) taken
    ≡ map (λ (one : Written). replicate (length one.takes.items) None) all
    → (map (λ (row : Vec (Option ℕ) Global). length row.items) taken ≡ map length pieces)
    × ((place : Place) → taken_at taken place ≡ None)
none-taken world pieces all taken are is =
    (long pieces all taken are is, λ place. by taken all is place.«module» place.index)
  where
    first : List (List (Option ℕ)) → List (Option ℕ)
    first [] = []
    first (x ∷ xs) = x

    rest : List (List (Option ℕ)) → List (List (Option ℕ))
    rest [] = []
    rest (x ∷ xs) = xs

    long : (pieces : List (List Declared)) (all : List Written) (taken : List (Vec (Option ℕ) Global))
        → AreWritten pieces all
        → map (λ (row : Vec (Option ℕ) Global). row.items) taken
        ≡ map (λ (one : Written). replicate (length one.takes.items) None) all
        → map (λ (row : Vec (Option ℕ) Global). length row.items) taken ≡ map length pieces
    long [] [] [] are is = refl
    long [] [] (row ∷ taken) are is = absurd (let e = ap length is in omega (arith, e))
    long [] (w ∷ all) taken are is = absurd are
    long (p ∷ pieces) [] taken are is = absurd are
    long (p ∷ pieces) (w ∷ all) [] are is = absurd (let e = ap length is in omega (arith, e))
    long (p ∷ pieces) (w ∷ all) (row ∷ taken) are is =
        let head : length row.items ≡ length p =
        ap length (ap first is) ∙ length-replicate (length w.takes.items) None
        ∙ sym (length-map w.takes.items takes_of) ∙ ap length are.0.takes
        ∙ length-map p (λ (one : Declared). one.takes) in
        λ k. head k ∷ long pieces all taken are.1 (ap rest is) k

    nothing : Option ℕ
    nothing = None

    none-in : (count i : ℕ) → slice_index_or (replicate count nothing) i nothing ≡ nothing
    none-in zero i = refl
    none-in (suc count) zero = refl
    none-in (suc count) (suc i) = none-in count i

    by : (taken : List (Vec (Option ℕ) Global)) (all : List Written)
        → map (λ (row : Vec (Option ℕ) Global). row.items) taken
        ≡ map (λ (one : Written). replicate (length one.takes.items) None) all
        → (m i : ℕ) → taken_at taken (placed m i) ≡ None
    by [] all is m i = refl
    by (row ∷ taken) [] is m i = absurd (let e = ap length is in omega (arith, e))
    by (row ∷ taken) (w ∷ all) is zero i =
        ap (λ l. slice_index_or l i None) (ap first is) ∙ none-in (length w.takes.items) i
    by (row ∷ taken) (w ∷ all) is (suc m) i = by taken all (ap rest is) m i

-- at the start nothing is settled and nothing is hidden
pub none-settled : (world : World) (pieces : List (List Declared)) (scene : Scene) (first : Settled)
    → Describes world pieces scene → Hold world first.tables.items pieces → NoneHidden first.tables.items
    → first.lists.keys ≡ []
    → map (λ (row : Vec (Option ℕ) Global). row.items) first.taken.items
    ≡ map (λ (one : Written). replicate (length one.takes.items) None) scene.written.now
    → Settles world pieces [] first
none-settled world pieces scene first describes hold none empty is =
    let taken = none-taken world pieces scene.written.now first.taken.items describes.written is in
    record {
      hold = hold;
      long = taken.0;
      known = record {
        apart = λ i j less other same.
            absurd (subst (λ l. i < length l → ⊥) (sym empty) (λ past. omega (arith, past)) less);
        within = λ place number at. absurd (none-some number (sym (taken.1 place) ∙ at));
        known = λ place one number k at here enough. absurd (none-some number (sym (taken.1 place) ∙ here));
      };
      closed_are = λ m among. absurd (false≢true among);
      open_are = λ m table among at. open-at first.tables.items m table none at;
    }
  where
    open-at : (tables : List Table) (m : ℕ) (table : Table) → NoneHidden tables → slice_get tables m ≡ Some table
        → list_any (λ hidden. hidden) table.hidden.items ≡ false
    open-at tables m table none at =
        sym (not-not (list_any (λ hidden. hidden) table.hidden.items))
        ∙ ap not (all-at (λ (table : Table). not (list_any (λ hidden. hidden) table.hidden.items)) tables m table none
        at)
