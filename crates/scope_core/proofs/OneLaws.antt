-- Of the faults of a set one is the least.
use Rattle.std.proofs.Common.{◌≡◌, ◌∙◌, ◌∷◌, [], ◌==◌, ◌&&◌, ℕ, suc, Bool, true, false, List}
use Rattle.std.proofs.Common.{Option, Some, None, ltb, refl, sym, ap, arith, slice_get, inl, inr}
use Rattle.std.specs.Prelude.{◌⊎◌}
use Rattle.std.specs.List.{list_all}
use Rattle.std.proofs.lemmas.Bool.{or_parts, ltb-false, eq-eqb, false≢true}
use Rattle.std.proofs.lemmas.Option.{none-some}
use Rattle.type_rules.specs.declared.ty.Ty.{Ty}
use Rattle.module_set.specs.declared.module_name.ModuleName.{ModuleName}
use Rattle.module_set.specs.Members.{Member}
use Rattle.scope_core.specs.declared.fault.ScopeFault.{ScopeFault}
use Rattle.scope_core.specs.declared.fault.ScopeFault.TheVariants as fault
use Rattle.scope_tables.specs.Entities.{Declared}
use Rattle.scope_tables.specs.Brought.{brought}
use Rattle.scope_core.specs.Standing.{pieces_of, types_of, standing}
use Rattle.scope_core.specs.ScopeFaults.{twice, faults_from, module_faults, scope_faults, fault_key, key_less, is_less}
use Rattle.scope_core.specs.ScopeFaults.{IsLeast}
use Rattle.scope_core.specs.OneScopeFault.{OneScopeFault}
use Rattle.scope_core.specs.inside.Lessening.{least_onto}
use Rattle.scope_core.proofs.LeastLaws.{least_onto-least, least_onto-none}
use Rattle.scope_core.proofs.CheckLaws.{Accepts, module-pass, fails-least}
use Rattle.scope_tables.proofs.MemberLaws.{both-all, all-at, any-at-false}
use Rattle.scope_core.proofs.PlaceLaws.{fails-placed}

abbrev is_told : ScopeFault → Bool
is_told fault.OutOfMemory = false
is_told _ = true

told-accepts : (m : ℕ) → Accepts is_told m
told-accepts m = record {
  twice_is = λ at. refl;
  unknown_is = λ at. refl;
  not_exported_is = λ at. refl;
  clash_is = λ at. refl;
}

all-true : (own : List Declared) → list_all (λ (one : Declared). is_told (twice one.entity.id.module one.at)) own ≡ true
all-true [] = refl
all-true (one ∷ own) = all-true own

from-told : (names : List ModuleName) (types : Declared → List Ty) (standing : List Declared) (m : ℕ)
    (members : List Member) (pieces : List (List Declared))
    → list_all is_told (faults_from names types standing m members pieces) ≡ true
from-told names types standing m [] pieces = refl
from-told names types standing m (member ∷ members) [] = refl
from-told names types standing m (member ∷ members) (own ∷ pieces) =
    both-all is_told (module_faults names types standing m member own)
    (faults_from names types standing (suc m) members pieces)
    (module-pass is_told types standing own m (brought names member) member.tree.declarations (told-accepts m)
    (all-true own))
    (from-told names types standing (suc m) members pieces)

-- neither of two numbers is less
equal : (a b : ℕ) → ltb a b ≡ false → ltb b a ≡ false → a ≡ b
equal a b one other =
    let up = ltb-false a b one in
    let down = ltb-false b a other in
    omega (arith, up, down)

behind : (b : Bool) {c : Bool} → b ≡ true → (b && c) ≡ false → c ≡ false
behind true is none = none
behind false is none = absurd (false≢true is)

-- keys of which neither is less are equal
same-keys : (one other : ℕ × ℕ × ℕ) → key_less one other ≡ false → key_less other one ≡ false
    → (one.0 ≡ other.0) × (one.1 ≡ other.1) × (one.2 ≡ other.2)
same-keys one other first second =
    let a = or_parts (ltb one.0 other.0) _ first in
    let b = or_parts (ltb other.0 one.0) _ second in
    let front = equal one.0 other.0 a.0 b.0 in
    let a_rest = or_parts (ltb one.1 other.1) _ (behind (one.0 == other.0) (eq-eqb one.0 other.0 front) a.1) in
    let b_rest = or_parts (ltb other.1 one.1) _ (behind (other.0 == one.0) (eq-eqb other.0 one.0 (sym front)) b.1) in
    let place = equal one.1 other.1 a_rest.0 b_rest.0 in (
      front,
      place,
      equal one.2 other.2 (behind (one.1 == other.1) (eq-eqb one.1 other.1 place) a_rest.1)
          (behind (other.1 == one.1) (eq-eqb other.1 one.1 (sym place)) b_rest.1),
    )

-- faults of equal keys are equal
same-faults : (one other : ScopeFault) → is_told one ≡ true → is_told other ≡ true
    → (fault_key one).0 ≡ (fault_key other).0 → (fault_key one).1 ≡ (fault_key other).1
    → (fault_key one).2 ≡ (fault_key other).2 → one ≡ other
same-faults (fault.Twice m at) (fault.Twice n to) a b front place kind = λ k. fault.Twice (front k) (place k)
same-faults (fault.Unknown m at) (fault.Unknown n to) a b front place kind = λ k. fault.Unknown (front k) (place k)
same-faults (fault.NotExported m at) (fault.NotExported n to) a b front place kind =
    λ k. fault.NotExported (front k) (place k)
same-faults (fault.Clash m at) (fault.Clash n to) a b front place kind = λ k. fault.Clash (front k) (place k)
same-faults fault.OutOfMemory other a b front place kind = absurd (false≢true a)
same-faults one fault.OutOfMemory a b front place kind = absurd (false≢true b)
same-faults (fault.Twice m at) (fault.Unknown n to) a b front place kind = absurd (omega (arith, kind))
same-faults (fault.Twice m at) (fault.NotExported n to) a b front place kind = absurd (omega (arith, kind))
same-faults (fault.Twice m at) (fault.Clash n to) a b front place kind = absurd (omega (arith, kind))
same-faults (fault.Unknown m at) (fault.Twice n to) a b front place kind = absurd (omega (arith, kind))
same-faults (fault.Unknown m at) (fault.NotExported n to) a b front place kind = absurd (omega (arith, kind))
same-faults (fault.Unknown m at) (fault.Clash n to) a b front place kind = absurd (omega (arith, kind))
same-faults (fault.NotExported m at) (fault.Twice n to) a b front place kind = absurd (omega (arith, kind))
same-faults (fault.NotExported m at) (fault.Unknown n to) a b front place kind = absurd (omega (arith, kind))
same-faults (fault.NotExported m at) (fault.Clash n to) a b front place kind = absurd (omega (arith, kind))
same-faults (fault.Clash m at) (fault.Twice n to) a b front place kind = absurd (omega (arith, kind))
same-faults (fault.Clash m at) (fault.Unknown n to) a b front place kind = absurd (omega (arith, kind))
same-faults (fault.Clash m at) (fault.NotExported n to) a b front place kind = absurd (omega (arith, kind))

-- two that are the least are one
pub least-once : (faults : List ScopeFault) (one other : ScopeFault) → list_all is_told faults ≡ true
    → IsLeast faults one → IsLeast faults other → one ≡ other
least-once faults one other told a b =
    let keys = same-keys (fault_key one) (fault_key other)
    (any-at-false (λ (f : ScopeFault). is_less f other) faults a.place one b.least a.among)
    (any-at-false (λ (f : ScopeFault). is_less f one) faults b.place other a.least b.among) in
    same-faults one other (all-at is_told faults a.place one told a.among)
    (all-at is_told faults b.place other told b.among) keys.0 keys.1 keys.2

empty-or-least : (faults : List ScopeFault) → (faults ≡ []) ⊎ ((one : ScopeFault) × IsLeast faults one)
empty-or-least faults = by (least_onto None faults) refl
  where
    by : (least : Option ScopeFault) → least_onto None faults ≡ least
        → (faults ≡ []) ⊎ ((one : ScopeFault) × IsLeast faults one)
    by None is = inl (least_onto-none faults is)
    by (Some one) is = inr (one, least_onto-least faults one is)

pub one-fault : (names : List ModuleName) (members : List Member) → OneScopeFault names members
one-fault names members = record {
  stands = empty-or-least (scope_faults names members);
  one_fault = λ a b first second. least-once (scope_faults names members) a b all first second;
  not_both = λ one none least. none-some one (ap (λ faults. slice_get faults least.place) (sym none) ∙ least.among);
  no_memory = λ least. false≢true
      (all-at is_told (scope_faults names members) least.place fault.OutOfMemory all least.among);
  placed = λ one least. fails-placed names members one (fails-least (scope_faults names members) one least);
}
  where
    all : list_all is_told (scope_faults names members) ≡ true
    all = from-told names (types_of names members) (standing names members) 0 members (pieces_of members)
