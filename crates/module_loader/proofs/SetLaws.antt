-- What is loaded is a module set.
use Rattle.std.proofs.Common.{◌≡◌, ◌≢◌, ℕ, ◌+◌, ◌≤◌, Bool, true, false, ◌||◌, List, [], ◌∷◌, ◌++◌, length}
use Rattle.std.proofs.Common.{map, flat_map, filter_map, find, refl, sym, ap, ◌∙◌, subst, arith, Option, Some, None}
use Rattle.std.proofs.Common.{is_some, is_none, if◌then◌else◌}
use Rattle.std.specs.List.{AllByRecursion, AllZip, list_any, cons_option}
use Rattle.std.specs.Option.{option_or}
use Rattle.std.proofs.lemmas.Bool.{true≢false, false≢true, cond_both}
use Rattle.std.proofs.lemmas.List.{length-append, length-map}
use Rattle.std.proofs.lemmas.Option.{same_Some, none-some}
use Rattle.case_table.specs.Lists.{with_first, firsts_onto, firsts, place_of}
use Rattle.case_table.specs.ListLaws.{firsts-firsts}
use Rattle.mdl_syntax.specs.declared.imports.Lead.{Lead}
use Rattle.mdl_syntax.specs.declared.imports.Lead.TheVariants as lead
use Rattle.mdl_syntax.specs.declared.imports.ModuleRef.{ModuleRef}
use Rattle.mdl_syntax.specs.declared.imports.Qualified.{Qualified}
use Rattle.mdl_syntax.specs.declared.imports.Import.{Import}
use Rattle.mdl_syntax.specs.declared.imports.Import.TheVariants as import_form
use Rattle.mdl_syntax.specs.declared.modules.Module.{Module}
use Rattle.mdl_syntax.specs.LevelledModules.{IsImport, IsModuleName}
use Rattle.module_set.specs.declared.module_name.ModuleName.{ModuleName}
use Rattle.module_set.specs.declared.set.ModuleSet.{ModuleSet}
use Rattle.module_set.specs.Names.{same_name, named, package_of}
use Rattle.module_set.specs.NameLaws.{same_name-tells}
use Rattle.module_set.specs.Imports.{references_in, references, components, bare, meant, meant_in}
use Rattle.module_set.specs.Cycles.{HasNoCycle}
use Rattle.module_set.specs.Members.{Member, members_from, members_of}
use Rattle.module_set.specs.ModuleSets.{IsRead, is_among, NamesMember, import_links, IsModuleSet}
use Rattle.module_loader.specs.Embedded.{embedded, embedded_of}
use Rattle.module_loader.specs.Files.{Packages, file_under, text_of, has_file}
use Rattle.module_loader.specs.Members.{IsMember, imports, past_top}
use Rattle.module_loader.specs.Closure.{Imports, joined}
use Rattle.module_loader.specs.Loads.{AreLoaded, IsLoaded}
use Rattle.module_loader.proofs.ContentLaws.{all-front, all-append}
use Rattle.module_loader.proofs.FrontLaws.{OneReading, imports-one, joined-map, member_names}
use Rattle.module_loader.proofs.OneFaultLaws.{no-elements}

-- Each that comes onto a list is among it.

abbrev Among : List ModuleName → ModuleName → Type 0
Among names name = is_among names name ≡ true

or-left : (a b : Bool) → a ≡ true → (a || b) ≡ true
or-left true b h = refl
or-left false b h = absurd (false≢true h)

or-right : (a b : Bool) → b ≡ true → (a || b) ≡ true
or-right true b h = refl
or-right false b h = h

among-front : (names more : List ModuleName) (name : ModuleName) → Among names name → Among (names ++ more) name
among-front [] more name h = absurd (false≢true h)
among-front (own ∷ names) more name h = by (same_name name own) h (among-front names more name)
  where
    by : (b : Bool) → (b || list_any (same_name name) names) ≡ true →
        (list_any (same_name name) names ≡ true → list_any (same_name name) (names ++ more) ≡ true) →
        (b || list_any (same_name name) (names ++ more)) ≡ true
    by true h later = refl
    by false h later = later h

among-last : (names : List ModuleName) (name : ModuleName) → Among (names ++ name ∷ []) name
among-last [] name = or-left (same_name name name) false (same_name-tells.itself name)
among-last (own ∷ names) name = or-right (same_name name own) (is_among (names ++ name ∷ []) name)
    (among-last names name)

among-with : (seen : List ModuleName) (own name : ModuleName) → Among seen name →
    Among (with_first same_name seen own) name
among-with seen own name h =
    cond_both (list_any (same_name own) seen) seen (seen ++ own ∷ []) (λ all. Among all name) (λ _. h)
    (λ _. among-front seen (own ∷ []) name h)

among-itself : (seen : List ModuleName) (name : ModuleName) → Among (with_first same_name seen name) name
among-itself seen name =
    cond_both (list_any (same_name name) seen) seen (seen ++ name ∷ []) (λ all. Among all name) (λ there. there)
    (λ _. among-last seen name)

among-onto : (seen names : List ModuleName) (name : ModuleName) → Among seen name →
    Among (firsts_onto same_name seen names) name
among-onto seen [] name h = h
among-onto seen (own ∷ names) name h =
    among-onto (with_first same_name seen own) names name (among-with seen own name h)

each-onto : (seen names : List ModuleName) → AllByRecursion (Among (firsts_onto same_name seen names)) names
each-onto seen [] = tt
each-onto seen (own ∷ names) = (
  among-onto (with_first same_name seen own) names own (among-itself seen own),
  each-onto (with_first same_name seen own) names,
)

all-behind : {A : Type 0} (P : A → Type 0) (xs ys : List A) → AllByRecursion P (xs ++ ys) → AllByRecursion P ys
all-behind P [] ys h = h
all-behind P (x ∷ xs) ys h = all-behind P xs ys h.1

all-each : {A : Type 0} (P : ModuleName → Type 0) (brought : A → List ModuleName) (all : List A) →
    AllByRecursion P (flat_map brought all) → AllByRecursion (λ one. AllByRecursion P (brought one)) all
all-each P brought [] h = tt
all-each P brought (one ∷ all) h = (
  all-front P (brought one) (flat_map brought all) h,
  all-each P brought all (all-behind P (brought one) (flat_map brought all) h),
)

imported-are : OneReading → (packages : Packages) (members : List Member) (imported : List (List ModuleName)) →
    AllByRecursion (IsMember packages) members → AllZip (Imports packages) (member_names members) imported →
    imported ≡ map (imports packages) members
imported-are once packages [] [] is each = refl
imported-are once packages [] (own ∷ imported) is each = absurd each
imported-are once packages (member ∷ members) [] is each = absurd each
imported-are once packages (member ∷ members) (own ∷ imported) is each =
    let here = imports-one once packages member own is.0 each.0 in
    let rest = imported-are once packages members imported is.1 each.1 in
    λ i. here i ∷ rest i

-- what loaded modules import is among their names
imports-among : OneReading → (packages : Packages) (first : List ModuleName) (members : List Member) →
    AreLoaded packages first members →
    AllByRecursion (λ member. AllByRecursion (Among (member_names members)) (imports packages member)) members
imports-among once packages first members loaded =
    let solves = loaded.closure.solves in
    let names = member_names members in
    let are = imported-are once packages members solves.imported loaded.each solves.each in
    let brought : joined solves.imported ≡ flat_map (imports packages) members =
    ap joined are ∙ joined-map packages members in
    let all : AllByRecursion (Among names) (first ++ joined solves.imported) =
    subst (λ names. AllByRecursion (Among names) (first ++ joined solves.imported)) (sym solves.same)
    (each-onto [] (first ++ joined solves.imported)) in
    all-each (Among names) (imports packages) members
    (subst (AllByRecursion (Among names)) brought (all-behind (Among names) first (joined solves.imported) all))

-- Siblings.

embedded-one : (parts : List (List ℕ)) (text : List ℕ) → embedded_of parts ≡ Some text → length parts ≡ 1
embedded-one [] text h = absurd (none-some text h)
embedded-one (part ∷ []) text h = refl
embedded-one (part ∷ next ∷ parts) text h = absurd (none-some text h)

not-some : {A : Type 0} (found : Option A) → is_some found ≡ false → found ≡ None
not-some None h = refl
not-some (Some x) h = absurd (true≢false h)

some-length : {A : Type 0} (xs : List A) → xs ≢ [] → 1 ≤ length xs
some-length [] some = absurd (some refl)
some-length (x ∷ xs) some = omega arith

-- a member's name has a text
among-text : (packages : Packages) (members : List Member) (name : ModuleName) →
    AllByRecursion (IsMember packages) members → Among (member_names members) name →
    (text : List ℕ) × (text_of packages name ≡ Some text)
among-text packages [] name is h = absurd (false≢true h)
among-text packages (member ∷ members) name is h =
    by (same_name name member.name) refl h (among-text packages members name is.1)
  where
    by : (b : Bool) → same_name name member.name ≡ b → (b || list_any (same_name name) (member_names members)) ≡ true →
        (Among (member_names members) name → (text : List ℕ) × (text_of packages name ≡ Some text)) →
        (text : List ℕ) × (text_of packages name ≡ Some text)
    by true same h later =
        (member.text, ap (text_of packages) (same_name-tells.only name member.name same) ∙ is.0.found)
    by false apart h later = later h

-- what a set knows of a name: one without a file that is among it has one component
abbrev Knows : Packages → List ModuleName → Type 0
Knows packages names =
    (name : ModuleName) → Among names name → has_file packages name ≡ false → length name.parts ≡ 1

knows : (packages : Packages) (members : List Member) → AllByRecursion (IsMember packages) members →
    Knows packages (member_names members)
knows packages members each name there none =
    let found = among-text packages members name each there in
    let file : file_under packages.files packages.roots name ≡ None =
    not-some (file_under packages.files packages.roots name) none in
    embedded-one name.parts found.0
    (sym (ap (λ file. option_or file (embedded name)) file) ∙ found.1)

bare-same : (packages : Packages) (names : List ModuleName) (folder parts : List (List ℕ)) → Knows packages names →
    parts ≢ [] → Among names (bare (has_file packages) folder parts) →
    bare (is_among names) folder parts ≡ bare (has_file packages) folder parts
bare-same packages names folder parts knows some there =
    by (has_file packages (named (folder ++ parts))) (is_among names (named (folder ++ parts))) refl refl there
  where
    by : (has among : Bool) → has_file packages (named (folder ++ parts)) ≡ has →
        is_among names (named (folder ++ parts)) ≡ among →
        Among names (if has then named (folder ++ parts) else named parts) →
        (if among then named (folder ++ parts) else named parts)
        ≡ (if has then named (folder ++ parts) else named parts)
    by true true is is_there there = refl
    by true false is is_there there = absurd (false≢true (sym is_there ∙ there))
    by false false is is_there there = refl
    by false true is is_there there =
        let one = knows (named (folder ++ parts)) is_there is in
        let none = no-elements folder (omega (arith, one, length-append folder parts, some-length parts some)) in
        ap (λ folder. named (folder ++ parts)) none

-- a name means the same by files and by members
record SameMeaning (packages : Packages) (names : List ModuleName) (importer : ModuleName) (reference : ModuleRef)
    : Type 0 where
  name : ModuleName
  there : Among names name
  by_files : meant (has_file packages) importer reference ≡ Some name
  by_members : meant (is_among names) importer reference ≡ Some name

same-meaning : (packages : Packages) (names : List ModuleName) (importer : ModuleName) (reference : ModuleRef)
    (name : ModuleName) → Knows packages names → components reference ≢ [] →
    meant (has_file packages) importer reference ≡ Some name → Among names name →
    SameMeaning packages names importer reference
same-meaning packages names importer reference name known some is there = record {
  name = name;
  there = there;
  by_files = is;
  by_members = by reference.lead is;
}
  where
    by : (own : Lead) →
        meant_in (has_file packages) (package_of importer) own (components reference) ≡ Some name →
        meant_in (is_among names) (package_of importer) own (components reference) ≡ Some name
    by lead.Bare is =
        let means = same_Some (bare (has_file packages) (package_of importer) (components reference)) name is in
        ap Some (bare-same packages names (package_of importer) (components reference) known some
        (subst (Among names) (sym means) there)) ∙ is
    by lead.Absolute is = is
    by lead.Here is = is
    by (lead.Up steps) is = is

abbrev HasParts : ModuleRef → Type 0
HasParts reference = components reference ≢ []

meanings : (packages : Packages) (names : List ModuleName) (importer : ModuleName) (all : List ModuleRef) →
    Knows packages names → AllByRecursion HasParts all →
    find (λ reference. is_none (meant (has_file packages) importer reference)) all ≡ None →
    AllByRecursion (Among names) (filter_map (meant (has_file packages) importer) all) →
    AllByRecursion (SameMeaning packages names importer) all
meanings packages names importer [] known some top there = tt
meanings packages names importer (reference ∷ all) known some top there =
    by (meant (has_file packages) importer reference) refl top there (meanings packages names importer all known some.1)
  where
    by : (found : Option ModuleName) → meant (has_file packages) importer reference ≡ found →
        (if is_none found then Some reference
        else find (λ reference. is_none (meant (has_file packages) importer reference)) all) ≡ None →
        AllByRecursion (Among names) (cons_option found (filter_map (meant (has_file packages) importer) all)) →
        (find (λ reference. is_none (meant (has_file packages) importer reference)) all ≡ None →
        AllByRecursion (Among names) (filter_map (meant (has_file packages) importer) all) →
        AllByRecursion (SameMeaning packages names importer) all) →
        AllByRecursion (SameMeaning packages names importer) (reference ∷ all)
    by None is top there later = absurd (none-some reference (sym top))
    by (Some name) is top there later =
        (same-meaning packages names importer reference name known some.0 is there.0, later top there.1)

-- names of modules that stand in an accepted module have parts
no-parts : (reference : ModuleRef) → IsModuleName reference → HasParts reference
no-parts reference is none = is.1 (no-elements reference.parts
    (omega (arith, ap length none, length-map reference.parts (λ part. part.text))))

items-parts : (items : List Qualified) → AllByRecursion (λ (item : Qualified). IsModuleName item.«module») items →
    AllByRecursion HasParts (map (λ (item : Qualified). item.«module») items)
items-parts [] is = tt
items-parts (item ∷ items) is = (no-parts item.«module» is.0, items-parts items is.1)

import-parts : (one : Import) → IsImport one → AllByRecursion HasParts (references_in one)
import-parts (import_form.Import items span) is = items-parts items is.1
import-parts (import_form.Using name None span) is = (no-parts name is, tt)
import-parts (import_form.Using name (Some names) span) is = (no-parts name is.0, tt)

imports-parts : (all : List Import) → AllByRecursion IsImport all →
    AllByRecursion HasParts (flat_map references_in all)
imports-parts [] is = tt
imports-parts (one ∷ all) is =
    all-append HasParts (references_in one) (flat_map references_in all) (import-parts one is.0)
    (imports-parts all is.1)

member-meanings : (packages : Packages) (names : List ModuleName) (member : Member) → Knows packages names →
    IsMember packages member → past_top packages member ≡ None →
    AllByRecursion (Among names) (imports packages member) →
    AllByRecursion (SameMeaning packages names member.name) (references member.tree)
member-meanings packages names member known is top there =
    meanings packages names member.name (references member.tree) known
    (imports-parts member.tree.imports is.accepted.reads.accepted.is.imports) top there

all-meanings : (packages : Packages) (names : List ModuleName) (members : List Member) → Knows packages names →
    AllByRecursion (IsMember packages) members →
    AllByRecursion (λ (member : Member). past_top packages member ≡ None) members →
    AllByRecursion (λ member. AllByRecursion (Among names) (imports packages member)) members →
    AllByRecursion (λ (member : Member).
    AllByRecursion (SameMeaning packages names member.name) (references member.tree)) members
all-meanings packages names [] known is top there = tt
all-meanings packages names (member ∷ members) known is top there = (
  member-meanings packages names member known is.0 top.0 there.0,
  all-meanings packages names members known is.1
      top.1 there.1,
)

name-members : (packages : Packages) (names : List ModuleName) (importer : ModuleName) (all : List ModuleRef) →
    AllByRecursion (SameMeaning packages names importer) all → AllByRecursion (NamesMember names importer) all
name-members packages names importer [] each = tt
name-members packages names importer (reference ∷ all) each =
    ((each.0.name, each.0.by_members, each.0.there), name-members packages names importer all each.1)

all-name-members : (packages : Packages) (names : List ModuleName) (members : List Member) →
    AllByRecursion (λ (member : Member).
    AllByRecursion (SameMeaning packages names member.name) (references member.tree)) members →
    AllByRecursion (λ (member : Member). AllByRecursion (NamesMember names member.name) (references member.tree))
    members
all-name-members packages names [] each = tt
all-name-members packages names (member ∷ members) each = (
  name-members packages names member.name (references member.tree) each.0,
  all-name-members packages names members each.1,
)

filter-same : (packages : Packages) (names : List ModuleName) (importer : ModuleName) (all : List ModuleRef) →
    AllByRecursion (SameMeaning packages names importer) all →
    filter_map (meant (is_among names) importer) all ≡ filter_map (meant (has_file packages) importer) all
filter-same packages names importer [] each = refl
filter-same packages names importer (reference ∷ all) each =
    let here : meant (is_among names) importer reference ≡ meant (has_file packages) importer reference =
    each.0.by_members ∙ sym each.0.by_files in
    let rest = filter-same packages names importer all each.1 in
    λ i. cons_option (here i) (rest i)

links-same : (packages : Packages) (names : List ModuleName) (members : List Member) →
    AllByRecursion (λ (member : Member).
    AllByRecursion (SameMeaning packages names member.name) (references member.tree)) members →
    import_links names members
    ≡ map (λ (member : Member). map (λ name. place_of same_name name names) (imports packages member)) members
links-same packages names [] each = refl
links-same packages names (member ∷ members) each =
    let here = ap (map (λ name. place_of same_name name names))
    (filter-same packages names member.name (references member.tree) each.0) in
    let rest = links-same packages names members each.1 in
    λ i. here i ∷ rest i

all-read : (packages : Packages) (members : List Member) → AllByRecursion (IsMember packages) members →
    AllByRecursion (λ (member : Member). IsRead member.text member.tree) members
all-read packages [] is = tt
all-read packages (member ∷ members) is = (
  record {
    tokens = is.0.accepted.tokens;
    has = is.0.accepted.has;
    writes = is.0.accepted.reads.writes;
    places = is.0.accepted.reads.places;
    accepted = is.0.accepted.reads.accepted;
  },
  all-read packages members is.1,
)

names-from : (names : List ModuleName) (modules : List Module) (texts : List (List ℕ)) →
    length modules ≡ length names → length texts ≡ length names →
    member_names (members_from names modules texts) ≡ names
names-from [] modules texts all each = refl
names-from (name ∷ names) [] texts all each = absurd (omega (arith, all))
names-from (name ∷ names) (one ∷ modules) [] all each = absurd (omega (arith, each))
names-from (name ∷ names) (one ∷ modules) (text ∷ texts) all each =
    ap (λ more. name ∷ more) (names-from names modules texts (omega (arith, all)) (omega (arith, each)))

pub loaded-is-set : OneReading → (packages : Packages) (first : List ModuleName) (set : ModuleSet) →
    IsLoaded packages first set → IsModuleSet set
loaded-is-set once packages first set loaded =
    let members = members_of set in
    let names = member_names members in
    let same : names ≡ set.names = names-from set.names set.modules set.texts loaded.whole.0 loaded.whole.1 in
    let are = loaded.are in
    let solves = are.closure.solves in
    let each = all-meanings packages names members (knows packages members are.each) are.each are.inside
    (imports-among once packages first members are) in
    record {
      whole = loaded.whole;
      apart = subst (λ names. firsts same_name names ≡ names) same
          (ap (firsts same_name) solves.same
          ∙ (firsts-firsts same_name (first ++ joined solves.imported) ∙ sym solves.same));
      read = all-read packages members are.each;
      inside = subst (λ names. AllByRecursion (λ (member : Member).
          AllByRecursion (NamesMember names member.name) (references member.tree)) members) same
          (all-name-members packages names members each);
      acyclic = subst (λ names. HasNoCycle (import_links names members)) same
          (subst HasNoCycle (sym (links-same packages names members each)) are.acyclic);
    }
