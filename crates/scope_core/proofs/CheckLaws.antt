-- The first fault is that of the least module.
use Rattle.std.proofs.Common.{◌≡◌, ◌∙◌, ◌++◌, ◌∷◌, [], ◌<◌, ◌≤◌, ◌+◌, ◌==◌, ◌&&◌, ◌||◌, ℕ, zero, suc, Bool, true}
use Rattle.std.proofs.Common.{false, not, List, Some, None, map, ltb, leb, if◌then◌else◌, refl, sym, ap, subst}
use Rattle.std.proofs.Common.{arith, slice_get, slice_index_or, length, drop, drop-cons, get_or, flat_map}
use Rattle.std.specs.List.{list_any, list_all}
use Rattle.std.specs.Str.{bytes_eq}
use Rattle.std.proofs.lemmas.Bool.{and_parts, eq-eqb, eqb-true, or_from, le-ltb, le-leb, leb-true, ne_eqb}
use Rattle.std.proofs.lemmas.Option.{slice_get-get_or}
use Rattle.mdl_syntax.specs.declared.names.Ident.{Ident}
use Rattle.mdl_syntax.specs.declared.modules.Module.{Module}
use Rattle.mdl_syntax.specs.Modules.{module_of, Declaration, Parameter}
use Rattle.type_rules.specs.declared.ty.Ty.{Ty}
use Rattle.case_table.specs.ListLaws.{slice_get-append}
use Rattle.scope_core.specs.declared.fault.ScopeFault.{ScopeFault}
use Rattle.scope_core.specs.declared.fault.ScopeFault.TheVariants as fault
use Rattle.scope_tables.specs.declared.tables.Table.{Table}
use Rattle.scope_tables.specs.declared.declared.Written.{Written}
use Rattle.scope_tables.specs.Entities.{Declared}
use Rattle.scope_tables.specs.Brought.{Bringing}
use Rattle.scope_tables.specs.Visible.{World}
use Rattle.scope_core.specs.ScopeFaults.{twice, unknown, not_exported, clash, twice_among, twice_listed}
use Rattle.scope_core.specs.ScopeFaults.{parameter_faults, parameters_of, missing_name, clash_of, name_faults}
use Rattle.scope_core.specs.ScopeFaults.{import_faults, listed_by, of_name, exported_of, fault_key, is_less}
use Rattle.scope_core.specs.ScopeFaults.{IsLeast, Fails, may_stand}
use Rattle.scope_core.specs.Standing.{share_name}
use Rattle.scope_core.specs.inside.Holding.{AreTables}
use Rattle.scope_core.specs.inside.Rounds.{last_types, last_standing}
use Rattle.scope_core.specs.inside.Checking.{faults_of, faults_in, places_in}
use Rattle.scope_core.specs.inside.Scoping.{AreWritten}
use Rattle.scope_core.specs.inside.Lessening.{least_onto}
use Rattle.scope_core.proofs.LeastLaws.{least_onto-least, least_onto-none}
use Rattle.scope_tables.proofs.MemberLaws.{both-all, any-both, all-at}

abbrev pub is_from : ℕ → ScopeFault → Bool
is_from m fault = (fault_key fault).0 == m

abbrev is_past : ℕ → ScopeFault → Bool
is_past m fault = leb m (fault_key fault).0

abbrev AreFrom : ℕ → List ScopeFault → Type 0
AreFrom m faults = list_all (is_from m) faults ≡ true

-- a test that the faults of a module pass
pub record Accepts (test : ScopeFault → Bool) (m : ℕ) : Type 0 where
  pub twice_is : (at : ℕ) → test (twice m at) ≡ true
  pub unknown_is : (at : ℕ) → test (unknown m at) ≡ true
  pub not_exported_is : (at : ℕ) → test (not_exported m at) ≡ true
  pub clash_is : (at : ℕ) → test (clash m at) ≡ true

-- the same for faults at good places alone
pub record AcceptsAt (good : ℕ → Bool) (test : ScopeFault → Bool) (m : ℕ) : Type 0 where
  pub twice_is : (at : ℕ) → good at ≡ true → test (twice m at) ≡ true
  pub unknown_is : (at : ℕ) → good at ≡ true → test (unknown m at) ≡ true
  pub not_exported_is : (at : ℕ) → good at ≡ true → test (not_exported m at) ≡ true
  pub clash_is : (at : ℕ) → good at ≡ true → test (clash m at) ≡ true

-- names at good places
abbrev pub is_good : (ℕ → Bool) → Ident → Bool
is_good good name = good name.span.at

abbrev pub are_good : (ℕ → Bool) → List Ident → Bool
are_good good names = list_all (is_good good) names

abbrev pub brings_good : (ℕ → Bool) → Bringing → Bool
brings_good good bringing = are_good good (listed_by bringing.names)

abbrev pub parameter_names : Declaration → List Ident
parameter_names declaration = map (λ (parameter : Parameter). parameter.name) (parameters_of declaration)

abbrev pub takes_good : (ℕ → Bool) → Declaration → Bool
takes_good good declaration = are_good good (parameter_names declaration)

one-or-none : (test : ScopeFault → Bool) (b : Bool) (one : ScopeFault) → test one ≡ true
    → list_all test (if b then one ∷ [] else []) ≡ true
one-or-none test true one is = ap (λ c. c && true) is
one-or-none test false one is = refl

flat-pass : {A : Type 0} (here : A → Bool) (test : ScopeFault → Bool) (f : A → List ScopeFault) (xs : List A)
    → ((x : A) → here x ≡ true → list_all test (f x) ≡ true) → list_all here xs ≡ true
    → list_all test (flat_map f xs) ≡ true
flat-pass here test f [] each all = refl
flat-pass here test f (x ∷ xs) each all =
    let apart = and_parts (here x) (list_all here xs) all in
    both-all test (f x) (flat_map f xs) (each x apart.0) (flat-pass here test f xs each apart.1)

listed-pass : (good : ℕ → Bool) (test : ScopeFault → Bool) (m : ℕ) (before names : List Ident)
    → AcceptsAt good test m → are_good good names ≡ true → list_all test (twice_listed m before names) ≡ true
listed-pass good test m before [] accepts all = refl
listed-pass good test m before (name ∷ names) accepts all =
    let apart = and_parts (is_good good name) (are_good good names) all in
    both-all test
    (if list_any (λ (earlier : Ident). bytes_eq earlier.text name.text) before then twice m name.span.at ∷ [] else [])
    (twice_listed m (before ++ name ∷ []) names)
    (one-or-none test _ (twice m name.span.at) (accepts.twice_is name.span.at apart.0))
    (listed-pass good test m (before ++ name ∷ []) names accepts apart.1)

abbrev pub accepts_place : (ScopeFault → Bool) → Declared → Bool
accepts_place test one = test (twice one.entity.id.module one.at)

among-pass : (test : ScopeFault → Bool) (types : Declared → List Ty) (before own : List Declared)
    → list_all (accepts_place test) own ≡ true → list_all test (twice_among types before own) ≡ true
among-pass test types before [] inside = refl
among-pass test types before (one ∷ own) inside =
    let apart = and_parts (accepts_place test one) (list_all (accepts_place test) own) inside in
    both-all test
    (if list_any (λ earlier. share_name earlier one && not (may_stand types earlier one)) before
    then twice one.entity.id.module one.at ∷ [] else [])
    (twice_among types (before ++ one ∷ []) own)
    (one-or-none test _ (twice one.entity.id.module one.at) apart.0)
    (among-pass test types (before ++ one ∷ []) own apart.1)

missing-pass : (good : ℕ → Bool) (test : ScopeFault → Bool) (m at : ℕ) (all exported : List Declared)
    → AcceptsAt good test m → good at ≡ true → list_all test (missing_name m at all exported) ≡ true
missing-pass good test m at [] exported accepts here = ap (λ b. b && true) (accepts.unknown_is at here)
missing-pass good test m at (one ∷ more) [] accepts here = ap (λ b. b && true) (accepts.not_exported_is at here)
missing-pass good test m at (one ∷ more) (other ∷ others) accepts here = refl

imports-pass : (good : ℕ → Bool) (test : ScopeFault → Bool) (entities : List Declared) (m : ℕ)
    (earlier bringings : List Bringing) → AcceptsAt good test m → list_all (brings_good good) bringings ≡ true
    → list_all test (import_faults entities m earlier bringings) ≡ true
imports-pass good test entities m earlier [] accepts all = refl
imports-pass good test entities m earlier (bringing ∷ bringings) accepts all =
    let apart = and_parts (brings_good good bringing) (list_all (brings_good good) bringings) all in
    both-all test (flat_map (name_faults entities m earlier bringing) (listed_by bringing.names))
    (import_faults entities m (earlier ++ bringing ∷ []) bringings)
    (flat-pass (is_good good) test (name_faults entities m earlier bringing) (listed_by bringing.names)
    (λ name here. both-all test
    (missing_name m name.span.at (of_name entities bringing.from name.text)
    (exported_of entities bringing.from name.text))
    (clash_of entities m earlier bringing name)
    (missing-pass good test m name.span.at (of_name entities bringing.from name.text)
    (exported_of entities bringing.from name.text) accepts here)
    (one-or-none test _ (clash m name.span.at) (accepts.clash_is name.span.at here)))
    apart.0)
    (imports-pass good test entities m (earlier ++ bringing ∷ []) bringings accepts apart.1)

-- the faults of a module whose names stand at good places pass
pub places-pass : (good : ℕ → Bool) (test : ScopeFault → Bool) (types : Declared → List Ty)
    (standing own : List Declared) (m : ℕ) (bringings : List Bringing) (declarations : List Declaration)
    → AcceptsAt good test m → list_all (accepts_place test) own ≡ true
    → list_all (brings_good good) bringings ≡ true → list_all (takes_good good) declarations ≡ true
    → list_all test (import_faults standing m [] bringings
    ++ (twice_among types [] own ++ flat_map (parameter_faults m) declarations)) ≡ true
places-pass good test types standing own m bringings declarations accepts inside brings takes =
    both-all test (import_faults standing m [] bringings)
    (twice_among types [] own ++ flat_map (parameter_faults m) declarations)
    (imports-pass good test standing m [] bringings accepts brings)
    (both-all test (twice_among types [] own) (flat_map (parameter_faults m) declarations)
    (among-pass test types [] own inside)
    (flat-pass (takes_good good) test (parameter_faults m) declarations
    (λ declaration here. listed-pass good test m [] (parameter_names declaration) accepts here) takes))

all-true : {A : Type 0} (test : A → Bool) (xs : List A) → ((x : A) → test x ≡ true) → list_all test xs ≡ true
all-true test [] each = refl
all-true test (x ∷ xs) each = ap (λ b. b && list_all test xs) (each x) ∙ all-true test xs each

-- the faults of a module pass
pub module-pass : (test : ScopeFault → Bool) (types : Declared → List Ty) (standing own : List Declared) (m : ℕ)
    (bringings : List Bringing) (declarations : List Declaration) → Accepts test m
    → list_all (accepts_place test) own ≡ true
    → list_all test (import_faults standing m [] bringings
    ++ (twice_among types [] own ++ flat_map (parameter_faults m) declarations)) ≡ true
module-pass test types standing own m bringings declarations accepts inside =
    places-pass (λ at. true) test types standing own m bringings declarations
    (record {
      twice_is = λ at good. accepts.twice_is at;
      unknown_is = λ at good. accepts.unknown_is at;
      not_exported_is = λ at good. accepts.not_exported_is at;
      clash_is = λ at good. accepts.clash_is at;
    })
    inside
    (all-true (brings_good (λ at. true)) bringings
    (λ bringing. all-true (is_good (λ at. true)) (listed_by bringing.names) (λ name. refl)))
    (all-true (takes_good (λ at. true)) declarations
    (λ declaration. all-true (is_good (λ at. true)) (parameter_names declaration) (λ name. refl)))

piece-inside : (world : World) (k m : ℕ) (tables : List Table) (pieces : List (List Declared))
    → AreTables world k tables pieces
    → list_all (λ (one : Declared). one.entity.id.module == k + m) (slice_index_or pieces m []) ≡ true
piece-inside world k m [] [] are = refl
piece-inside world k m [] (p ∷ pieces) are = absurd are
piece-inside world k m (t ∷ tables) [] are = absurd are
piece-inside world k zero (t ∷ tables) (p ∷ pieces) are =
    let e : k ≡ k + 0 = omega arith in
    subst (λ n. list_all (λ (one : Declared). one.entity.id.module == n) p ≡ true) e are.0.inside
piece-inside world k (suc m) (t ∷ tables) (p ∷ pieces) are =
    let e : suc k + m ≡ k + suc m = omega arith in
    subst (λ n. list_all (λ (one : Declared). one.entity.id.module == n) (slice_index_or pieces m []) ≡ true) e
    (piece-inside world (suc k) m tables pieces are.1)

pub own-accepts : (m : ℕ) → Accepts (is_from m) m
own-accepts m =
    let same : (m == m) ≡ true = eq-eqb m m refl in
    record {
      twice_is = λ at. same;
      unknown_is = λ at. same;
      not_exported_is = λ at. same;
      clash_is = λ at. same;
    }

-- the faults of a module are its own
of-from : (world : World) (pieces : List (List Declared)) (tables : List Table) (brought : List Bringing) (m : ℕ)
    (one : Module) → AreTables world 0 tables pieces → AreFrom m (faults_of world pieces brought m one)
of-from world pieces tables brought m one are =
    let e : 0 + m ≡ m = omega arith in
    module-pass (is_from m) (last_types world pieces) (last_standing world pieces)
    (slice_index_or pieces m []) m brought
    (module_of one).declarations (own-accepts m)
    (subst (λ n. list_all (λ (one : Declared). one.entity.id.module == n) (slice_index_or pieces m []) ≡ true) e
    (piece-inside world 0 m tables pieces are))

-- a fault of a module is not more than those of later ones
past-less : (m : ℕ) (one : ScopeFault) (faults : List ScopeFault) → (fault_key one).0 < m
    → list_all (is_past m) faults ≡ true → list_any (λ other. is_less other one) faults ≡ false
past-less m one [] less past = refl
past-less m one (fault ∷ faults) less past =
    let apart = and_parts (is_past m fault) (list_all (is_past m) faults) past in
    let above = leb-true m (fault_key fault).0 apart.0 in
    or_from (is_less fault one) (list_any (λ other. is_less other one) faults)
    (or_from (ltb (fault_key fault).0 (fault_key one).0) _
    (le-ltb (fault_key fault).0 (fault_key one).0 (omega (arith, above, less)))
    (ap (λ b. b && (ltb (fault_key fault).1 (fault_key one).1
    || (((fault_key fault).1 == (fault_key one).1) && ltb (fault_key fault).2 (fault_key one).2)))
    (ne_eqb (fault_key fault).0 (fault_key one).0 (λ same. omega (arith, same, above, less)))))
    (past-less m one faults less apart.1)

from-past : (m n : ℕ) (faults : List ScopeFault) → n ≤ m → AreFrom m faults → list_all (is_past n) faults ≡ true
from-past m n [] less from = refl
from-past m n (fault ∷ faults) less from =
    let apart = and_parts (is_from m fault) (list_all (is_from m) faults) from in
    let e = eqb-true (fault_key fault).0 m apart.0 in
    ap (λ b. b && list_all (is_past n) faults) (le-leb n (fault_key fault).0 (omega (arith, e, less)))
    ∙ from-past m n faults less apart.1

in-past : (world : World) (pieces : List (List Declared)) (tables : List Table) (brought : List (List Bringing))
    (m n : ℕ)
    (modules : List Module) → AreTables world 0 tables pieces → n ≤ m
    → list_all (is_past n) (faults_in world pieces brought m modules) ≡ true
in-past world pieces tables brought m n [] are less = refl
in-past world pieces tables brought m n (one ∷ modules) are less =
    both-all (is_past n) (faults_of world pieces (slice_index_or brought m []) m one)
    (faults_in world pieces brought (suc m) modules)
    (from-past m n (faults_of world pieces (slice_index_or brought m []) m one) less
    (of-from world pieces tables (slice_index_or brought m []) m one are))
    (in-past world pieces tables brought (suc m) n modules are (omega (arith, less)))

-- the least fault of a module that has one is the least of it and of all later ones
least-first : (m : ℕ) (one : ScopeFault) (faults others : List ScopeFault) → AreFrom m faults
    → list_all (is_past (suc m)) others ≡ true → IsLeast faults one → IsLeast (faults ++ others) one
least-first m one faults others from past least = record {
  place = least.place;
  among = slice_get-append faults others least.place one least.among;
  least =
      let e = eqb-true (fault_key one).0 m (all-at (is_from m) faults least.place one from least.among) in
      any-both (λ other. is_less other one) faults others least.least
      (past-less (suc m) one others (omega (arith, e)) past);
}

pub fails-least : (faults : List ScopeFault) (one : ScopeFault) → IsLeast faults one → Fails faults one
fails-least faults (fault.Twice m at) least = least
fails-least faults (fault.Unknown m at) least = least
fails-least faults (fault.NotExported m at) least = least
fails-least faults (fault.Clash m at) least = least
fails-least faults fault.OutOfMemory least = tt

in-next : (world : World) (pieces : List (List Declared)) (brought : List (List Bringing)) (i : ℕ)
    (modules : List Module) (one : Module) → i < length modules → one ≡ get_or modules i one
    → faults_in world pieces brought i (drop i modules)
    ≡ faults_of world pieces (slice_index_or brought i []) i one
    ++ faults_in world pieces brought (i + 1) (drop (i + 1) modules)
in-next world pieces brought i modules one within is =
    let e : suc i ≡ i + 1 = omega arith in
    ap (faults_in world pieces brought i)
    (drop-cons modules i one within ∙ ap (λ v. v ∷ drop (suc i) modules) (sym is))
    ∙ ap (λ n. faults_of world pieces (slice_index_or brought i []) i one
    ++ faults_in world pieces brought n (drop n modules)) e

-- a module without a fault
pub none-here : (world : World) (pieces : List (List Declared)) (brought : List (List Bringing)) (i : ℕ)
    (modules : List Module) (one : Module) → i < length modules → one ≡ get_or modules i one
    → least_onto None (faults_of world pieces (slice_index_or brought i []) i one) ≡ None
    → faults_in world pieces brought 0 modules ≡ faults_in world pieces brought i (drop i modules)
    → faults_in world pieces brought 0 modules ≡ faults_in world pieces brought (i + 1) (drop (i + 1) modules)
none-here world pieces brought i modules one within is none before =
    before ∙ in-next world pieces brought i modules one within is
    ∙ ap (λ l. l ++ faults_in world pieces brought (i + 1) (drop (i + 1) modules)) (least_onto-none _ none)

-- a module with one
pub some-here : (world : World) (pieces : List (List Declared)) (tables : List Table) (brought : List (List Bringing))
    (i : ℕ) (modules : List Module) (one : Module) (fault : ScopeFault) → AreTables world 0 tables pieces
    → i < length modules → one ≡ get_or modules i one
    → least_onto None (faults_of world pieces (slice_index_or brought i []) i one) ≡ Some fault
    → faults_in world pieces brought 0 modules ≡ faults_in world pieces brought i (drop i modules)
    → Fails (faults_in world pieces brought 0 modules) fault
some-here world pieces tables brought i modules one fault are within is some before =
    fails-least (faults_in world pieces brought 0 modules) fault
    (subst (λ faults. IsLeast faults fault)
    (sym (before ∙ in-next world pieces brought i modules one within is))
    (least-first i fault (faults_of world pieces (slice_index_or brought i []) i one)
    (faults_in world pieces brought (i + 1) (drop (i + 1) modules))
    (of-from world pieces tables (slice_index_or brought i []) i one are)
    (in-past world pieces tables brought (i + 1) (suc i) (drop (i + 1) modules) are (omega arith))
    (least_onto-least _ fault some)))

-- a piece that there is
pub piece-there : (pieces : List (List Declared)) (i : ℕ) → i < length pieces
    → slice_get pieces i ≡ Some (slice_index_or pieces i [])
piece-there pieces i within = slice_get-get_or pieces i [] within

-- the places of its entities
pub places-there : (pieces : List (List Declared)) (written : List Written) (i : ℕ) → AreWritten pieces written
    → places_in (slice_get written i) ≡ map (λ (one : Declared). one.at) (slice_index_or pieces i [])
places-there [] [] i are = refl
places-there [] (w ∷ written) i are = absurd are
places-there (p ∷ pieces) [] i are = absurd are
places-there (p ∷ pieces) (w ∷ written) zero are = are.0.places
places-there (p ∷ pieces) (w ∷ written) (suc i) are = places-there pieces written i are.1

pub mapped-at : {A B : Type 0} (f : A → List B) (xs : List A) (i : ℕ) (x : A) → i < length xs → x ≡ get_or xs i x
    → slice_index_or (map f xs) i [] ≡ f x
mapped-at f [] i x within is = absurd (omega (arith, within))
mapped-at f (y ∷ xs) zero x within is = ap f (sym is)
mapped-at f (y ∷ xs) (suc i) x within is = mapped-at f xs i x (omega (arith, within)) is

pub mapped-past : {A B : Type 0} (f : A → List B) (xs : List A) (i : ℕ) → length xs ≤ i
    → slice_index_or (map f xs) i [] ≡ []
mapped-past f [] i past = refl
mapped-past f (x ∷ xs) zero past = absurd (omega (arith, past))
mapped-past f (x ∷ xs) (suc i) past = mapped-past f xs i (omega (arith, past))
