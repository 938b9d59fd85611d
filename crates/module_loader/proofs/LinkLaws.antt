-- The links of a closure that is loaded, and its set.
use Rattle.std.proofs.Common.{◌≡◌, ℕ, List, [], ◌∷◌, ◌++◌, length, map, slice_get, flat_map}
use Rattle.std.proofs.Common.{refl, sym, ap, ◌∙◌, subst, arith}
use Rattle.std.specs.List.{AllByRecursion}
use Rattle.std.proofs.lemmas.List.{length-map, take_all}
use Rattle.std.proofs.lemmas.Option.{slice_get_past}
use Rattle.case_table.specs.Lists.{firsts, place_of}
use Rattle.case_table.specs.ListLaws.{firsts-firsts, place_of-slice_get}
use Rattle.module_set.specs.declared.module_name.ModuleName.{ModuleName}
use Rattle.module_set.specs.declared.set.ModuleSet.{ModuleSet}
use Rattle.module_set.specs.Names.{same_name}
use Rattle.module_set.specs.NameLaws.{same_name-tells}
use Rattle.module_set.specs.Cycles.{IsFirstCycle, HasNoCycle}
use Rattle.module_loader.specs.declared.fault.LoadFault.TheVariants as fault
use Rattle.module_loader.specs.declared.linked.Linked.{Linked}
use Rattle.module_loader.specs.Files.{Packages}
use Rattle.module_loader.specs.Members.{imports}
use Rattle.module_set.specs.Members.{Member}
use Rattle.module_loader.specs.Closure.{known}
use Rattle.module_loader.specs.LoadFaults.{HasLoadFault, links, name_at}
use Rattle.module_loader.specs.Loads.{AreLoaded, IsLoaded}
use Rattle.module_set.specs.Members.{members_of, members_from}
use Rattle.module_loader.specs.inside.Importing.{PointTo}
use Rattle.module_loader.specs.inside.Linking.{IsClosed, IsLinked, linked_member, linked_members}
use Rattle.module_loader.specs.inside.Distances.{links_of}
use Rattle.module_loader.proofs.FrontLaws.{OneReading, front-names, front-members, front-closed, member_names}

-- indices that are those of names are their places
places-are : (names : List ModuleName) → firsts same_name names ≡ names → (wanted : List ModuleName)
    (indices : List ℕ) → PointTo names wanted indices → map (λ name. place_of same_name name names) wanted ≡ indices
places-are names once [] [] h = refl
places-are names once [] (index ∷ indices) h = absurd h
places-are names once (name ∷ wanted) [] h = absurd h
places-are names once (name ∷ wanted) (index ∷ indices) h =
    let here = place_of-slice_get same_name same_name-tells names name index once h.0 in
    let rest = places-are names once wanted indices h.1 in
    λ i. here i ∷ rest i

links-each : (packages : Packages) (names : List ModuleName) → firsts same_name names ≡ names → (all : List Linked) →
    AllByRecursion (IsLinked packages names) all →
    map (λ (member : Member). map (λ name. place_of same_name name names) (imports packages member))
    (linked_members all)
    ≡ links_of all
links-each packages names once [] h = refl
links-each packages names once (one ∷ all) h =
    let here = places-are names once (imports packages (linked_member one)) one.imports.items h.0.0 in
    let rest = links-each packages names once all h.1 in
    λ i. here i ∷ rest i

-- the names of a closure are those that are known
closed-names : (packages : Packages) (first : List ModuleName) (all : List Linked) →
    (closed : IsClosed packages first all) →
    closed.names ≡ member_names (linked_members all)
closed-names packages first all closed =
    let holds = closed.holds in
    let whole = ap length holds.names_are in
    holds.names_are
    ∙ sym (front-names packages first (linked_members all) holds.front
    ∙ take_all (length (linked_members all)) (known packages first (linked_members all))
    (omega (arith, whole, closed.whole, length-map all linked_member)))

pub links-are : (packages : Packages) (first : List ModuleName) (all : List Linked) → IsClosed packages first all →
    links packages (linked_members all) ≡ links_of all
links-are packages first all closed =
    let names = closed-names packages first all closed in
    let once = ap (firsts same_name) closed.holds.names_are
    ∙ (firsts-firsts same_name (first ++ flat_map (imports packages) (linked_members all)) ∙ sym
    closed.holds.names_are) in
    ap (λ names. map (λ (member : Member). map (λ name. place_of same_name name names) (imports packages member))
    (linked_members all)) (sym names)
    ∙ links-each packages closed.names once all closed.holds.links

-- the first cycle of a closure is its fault
pub cycle-fault : (packages : Packages) (first : List ModuleName) (all : List Linked) (cycle : List ℕ)
    (path : List ModuleName) → IsClosed packages first all → IsFirstCycle (links_of all) cycle →
    path ≡ map (name_at (linked_members all)) cycle → HasLoadFault packages first (fault.Cycle path)
cycle-fault packages first all cycle path closed is path_is = record {
  members = linked_members all;
  front = closed.holds.front;
  stands = (
    omega (arith, closed.few, length-map all linked_member),
    ap (λ known. slice_get known (length (linked_members all))) (sym closed.holds.names_are)
        ∙ slice_get_past closed.names (length (linked_members all))
        (omega (arith, closed.whole, length-map all linked_member)),
    record {
      cycle = cycle;
      is = subst (λ links. IsFirstCycle links cycle) (sym (links-are packages first all closed)) is;
      path_is = path_is;
    },
  );
}

members-are : (all : List Linked) →
    members_from (map (λ (one : Linked). one.name) all) (map (λ (one : Linked). one.loaded.module) all)
    (map (λ (one : Linked). one.loaded.text) all) ≡ linked_members all
members-are [] = refl
members-are (one ∷ all) = ap (λ more. linked_member one ∷ more) (members-are all)

-- a closure without cycles is loaded
pub loaded-set : OneReading → (packages : Packages) (first : List ModuleName) (all : List Linked) (set : ModuleSet) →
    IsClosed packages first all → HasNoCycle (links_of all) →
    set.names ≡ map (λ (one : Linked). one.name) all →
    set.modules ≡ map (λ (one : Linked). one.loaded.module) all →
    set.texts ≡ map (λ (one : Linked). one.loaded.text) all → IsLoaded packages first set
loaded-set once packages first all set closed none names modules texts =
    let holds = closed.holds in
    let members : members_of set ≡ linked_members all =
    (λ i. members_from (names i) (modules i) (texts i)) ∙ members-are all in
    let good = front-members packages first (linked_members all) holds.front in
    let whole = ap length holds.names_are in
    let all_named = length-map all (λ (one : Linked). one.name) in
    record {
      whole = (
        omega (
          arith,
          ap length names,
          ap length modules,
          all_named,
          length-map all
              (λ (one : Linked). one.loaded.module),
        ),
        omega (arith, ap length names, ap length texts, all_named, length-map all (λ (one : Linked). one.loaded.text)),
      );
      are = subst (AreLoaded packages first) (sym members) (record {
        closure = front-closed once packages first (linked_members all) holds.front
            (omega (arith, whole, closed.whole, length-map all linked_member));
        few = omega (arith, closed.few, length-map all linked_member);
        each = good.0;
        inside = good.1;
        acyclic = subst HasNoCycle (sym (links-are packages first all closed)) none;
      });
    }
