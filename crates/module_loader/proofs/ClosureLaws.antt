-- The closure, module by module.
use Rattle.std.proofs.Common.{◌≡◌, inl, inr, ℕ, ◌≤◌, ◌<◌, List, [], ◌∷◌, ◌++◌, length}
use Rattle.std.proofs.Common.{slice_get, filter_map, flat_map, find, cond, refl, sym, ap, ◌∙◌, subst, arith}
use Rattle.std.proofs.Common.{Option, Some, None, is_none, is_some, if◌then◌else◌, Result, Ok, Err, IfErr}
use Rattle.std.specs.List.{AllByRecursion, list_any, cons_option}
use Rattle.std.specs.Result.{IsErrAnd}
use Rattle.std.proofs.lemmas.Grind.{flat_map-append}
use Rattle.std.proofs.lemmas.List.{append_assoc, append-nil, length-map, length_push, map-append}
use Rattle.std.proofs.lemmas.Option.{none-some}
use Rattle.case_table.specs.Lists.{with_first, firsts_onto, firsts}
use Rattle.case_table.specs.ListLaws.{firsts_onto-append}
use Rattle.io_edge.specs.Source.{SourceState}
use Rattle.mdl_syntax.specs.declared.imports.ModuleRef.{ModuleRef}
use Rattle.mdl_syntax.specs.Modules.{module_of}
use Rattle.module_set.specs.declared.module_name.ModuleName.{ModuleName}
use Rattle.module_set.specs.Names.{same_name}
use Rattle.module_set.specs.Imports.{references, meant}
use Rattle.module_loader.specs.declared.fault.LoadFault.{LoadFault}
use Rattle.module_loader.specs.declared.fault.LoadFault.TheVariants as fault
use Rattle.module_loader.specs.declared.linked.Linked.{Linked}
use Rattle.module_loader.specs.Files.{Packages, has_file, text_of}
use Rattle.module_loader.specs.Members.{IsMember, imports}
use Rattle.module_set.specs.Members.{Member}
use Rattle.module_loader.specs.Closure.{Front, known, next}
use Rattle.module_loader.specs.Closure as closure
use Rattle.module_loader.specs.LoadFaults.{HasLoadFault, means, asked_at, importer_in, importer, import_of, nowhere}
use Rattle.module_loader.specs.LoadFaults.{most_modules, HasBytes}
use Rattle.module_loader.specs.inside.Contents.{Entry, Reading, Fails}
use Rattle.module_loader.specs.inside.Loading.{Surely, HasMemberFault, over}
use Rattle.module_loader.specs.inside.Importing.{PointTo, Imported, HasImportFault}
use Rattle.module_loader.specs.inside.Linking.{Holds, IsLinked, linked_member, linked_members, pointing, pointing_in}
use Rattle.module_loader.specs.inside.Linking.{asked_among, asked, HasClosureFault}
use Rattle.module_loader.proofs.ContentLaws.{all-append}
use Rattle.module_loader.proofs.ImportLaws.{point-kept}

-- indices stay those of their names when more come behind
point-onto : (known : List ModuleName) (more : List ModuleName) (names : List ModuleName) (indices : List ℕ) →
    PointTo known names indices → PointTo (firsts_onto same_name known more) names indices
point-onto known [] names indices h = h
point-onto known (name ∷ more) names indices h =
    point-onto (with_first same_name known name) more names indices (point-kept known name names indices h)

linked-onto : (packages : Packages) (known more new : List ModuleName) (all : List Linked) →
    new ≡ firsts_onto same_name known more → AllByRecursion (IsLinked packages known) all →
    AllByRecursion (IsLinked packages new) all
linked-onto packages known more new [] made h = tt
linked-onto packages known more new (one ∷ all) made h = (
  (
    subst (λ names. PointTo names (imports packages (linked_member one)) one.imports.items) (sym made)
        (point-onto known more (imports packages (linked_member one)) one.imports.items h.0.0),
    h.0.1,
  ),
  linked-onto packages known more new all made h.1,
)

known-more : (packages : Packages) (first : List ModuleName) (members : List Member) (member : Member) →
    known packages first (members ++ member ∷ [])
    ≡ firsts_onto same_name (known packages first members) (imports packages member)
known-more packages first members member =
    let brought = flat_map (imports packages) in
    ap (λ more. firsts same_name (first ++ more))
    (flat_map-append (imports packages) members (member ∷ [])
    ∙ ap (λ last. brought members ++ last) (append-nil (imports packages member)))
    ∙ (ap (firsts same_name) (sym (append_assoc first (brought members) (imports packages member)))
    ∙ firsts_onto-append same_name [] (first ++ brought members) (imports packages member))

-- what is known before any module is loaded
pub holds-none : (packages : Packages) (first names : List ModuleName) (all : List Linked) → all ≡ [] →
    names ≡ firsts same_name first → Holds packages first names all
holds-none packages first names all none is = subst (Holds packages first names) (sym none) (record {
  front = closure.none;
  names_are = is ∙ ap (firsts same_name) (sym (append-nil first));
  links = tt;
})

-- the name that comes is known
pub name-at : (names : List ModuleName) (all : List Linked) (index : ℕ) (found name : ModuleName) →
    index ≡ length all → Some found ≡ slice_get names index → name ≡ found → slice_get names (length all) ≡ Some name
name-at names all index found name last at same =
    ap (slice_get names) (sym last) ∙ (sym at ∙ ap Some (sym same))

-- the name behind those that are loaded
pub holds-next : (packages : Packages) (first names : List ModuleName) (all : List Linked) (name : ModuleName) →
    Holds packages first names all → slice_get names (length all) ≡ Some name →
    next packages first (linked_members all) ≡ Some name
holds-next packages first names all name holds at =
    ap (λ known. slice_get known (length (linked_members all))) (sym holds.names_are)
    ∙ (ap (slice_get names) (length-map all linked_member) ∙ at)

-- one more module is loaded
pub holds-more : (packages : Packages) (first mid new : List ModuleName) (all : List Linked) (one : Linked) →
    Holds packages first mid all → slice_get mid (length all) ≡ Some one.name →
    IsMember packages (linked_member one) →
    Imported packages one.name (references (module_of one.loaded.module)) mid new one.imports.items →
    Holds packages first new (all ++ one ∷ [])
holds-more packages first mid new all one holds at member imported =
    let members = linked_members all in
    let more : linked_members (all ++ one ∷ []) ≡ members ++ linked_member one ∷ [] =
    map-append linked_member all (one ∷ []) in
    record {
      front = subst (Front packages first) (sym more)
          (closure.more members (linked_member one) holds.front (holds-next packages first mid all one.name holds at)
          member imported.top);
      names_are = imported.names
          ∙ (ap (λ known. firsts_onto same_name known (imports packages (linked_member one))) holds.names_are
          ∙ (sym (known-more packages first members (linked_member one))
          ∙ ap (known packages first) (sym more)));
      links = all-append (IsLinked packages new) all (one ∷ [])
          (linked-onto packages mid (imports packages (linked_member one)) new all imported.names holds.links)
          ((imported.each, imported.top), tt);
    }

-- the first reference that points to a name is the first that means it
pointing-is : (names : List ModuleName) (meaning : ModuleRef → Option ModuleName) (all : List ModuleRef)
    (indices : List ℕ) (name : ModuleName) → PointTo names (filter_map meaning all) indices →
    find (λ reference. is_none (meaning reference)) all ≡ None →
    pointing names all indices name ≡ find (λ reference. means (meaning reference) name) all
pointing-is names meaning [] indices name h top = refl
pointing-is names meaning (reference ∷ all) indices name h top =
    by (meaning reference) indices h top (λ more. pointing-is names meaning all more name)
  where
    by : (found : Option ModuleName) (indices : List ℕ) →
        PointTo names (cons_option found (filter_map meaning all)) indices →
        cond (is_none found) (Some reference) (find (λ reference. is_none (meaning reference)) all) ≡ None →
        ((more : List ℕ) → PointTo names (filter_map meaning all) more →
        find (λ reference. is_none (meaning reference)) all ≡ None →
        pointing names all more name ≡ find (λ reference. means (meaning reference) name) all) →
        pointing names (reference ∷ all) indices name
        ≡ cond (means found name) (Some reference) (find (λ reference. means (meaning reference) name) all)
    by None indices h top later = absurd (none-some reference (sym top))
    by (Some found) [] h top later = absurd h
    by (Some found) (index ∷ indices) h top later =
        ap (λ at. cond (means at name) (Some reference) (pointing names all indices name)) h.0
        ∙ ap (λ rest. cond (means (Some found) name) (Some reference) rest) (later indices h.1 top)

asked-among-is : (packages : Packages) (names : List ModuleName) (all : List Linked) (name : ModuleName) →
    AllByRecursion (IsLinked packages names) all →
    asked_among names all name ≡ importer_in packages (linked_members all) name
asked-among-is packages names [] name h = refl
asked-among-is packages names (one ∷ all) name h =
    let own : pointing_in names one name ≡ import_of packages (linked_member one) name =
    pointing-is names (meant (has_file packages) one.name) (references (module_of one.loaded.module))
    one.imports.items name h.0.0 h.0.1 in
    ap (λ reference. asked_at (linked_member one) reference (asked_among names all name)) own
    ∙ ap (asked_at (linked_member one) (import_of packages (linked_member one) name))
    (asked-among-is packages names all name h.1)

asked-is : (packages : Packages) (first names : List ModuleName) (all : List Linked) (name : ModuleName) →
    Holds packages first names all →
    asked first names all name ≡ importer packages first (linked_members all) name
asked-is packages first names all name holds =
    ap (λ others. if list_any (same_name name) first then (None, nowhere) else others)
    (asked-among-is packages names all name holds.links)

-- the module behind those that are loaded has no text
pub absent-fault : (packages : Packages) (first names : List ModuleName) (all : List Linked) (name : ModuleName) →
    Holds packages first names all → length all < most_modules → slice_get names (length all) ≡ Some name →
    text_of packages name ≡ None →
    HasLoadFault packages first (fault.Absent (asked first names all name).0 (asked first names all name).1 name)
absent-fault packages first names all name holds few at none = record {
  members = linked_members all;
  front = holds.front;
  stands = (
    subst (λ n. n < most_modules) (sym (length-map all linked_member)) few,
    inl (holds-next packages first names all name holds at, none, asked-is packages first names all name holds),
  );
}

-- more modules are needed than may be
pub many-fault : (packages : Packages) (first names : List ModuleName) (all : List Linked) (name : ModuleName) →
    Holds packages first names all → length all ≡ most_modules → slice_get names (length all) ≡ Some name →
    HasLoadFault packages first fault.TooMany
many-fault packages first names all name holds many at = record {
  members = linked_members all;
  front = holds.front;
  stands = (
    length-map all linked_member ∙ many,
    ap is_some (holds-next packages first names all name holds at),
  );
}

-- reads fail after others
pub fails-later : (a b c : SourceState) (old mid : List Entry) (found : LoadFault) → Reading a b old mid →
    Fails b c found → Fails a c found
fails-later a b c old mid fault.ReadFault reads fails =
    (omega (arith, fails.0, reads.counted), λ steady. fails.1 (reads.steady steady).0)
fails-later a b c old mid fault.OutOfMemory reads fails = tt
fails-later a b c old mid (fault.Absent asker place name) reads fails = absurd fails
fails-later a b c old mid (fault.TooLong name) reads fails = absurd fails
fails-later a b c old mid (fault.Lex name found place) reads fails = absurd fails
fails-later a b c old mid (fault.Parse name found place) reads fails = absurd fails
fails-later a b c old mid fault.TooMany reads fails = absurd fails
fails-later a b c old mid (fault.Cycle path) reads fails = absurd fails

-- what is known when a module is to be loaded
pub record Comes (packages : Packages) (first names : List ModuleName) (all : List Linked) (name : ModuleName) : Type 0
  where
    pub holds : Holds packages first names all
    pub few : length all < most_modules
    pub at : slice_get names (length all) ≡ Some name

few-members : (all : List Linked) → length all < most_modules → length (linked_members all) < most_modules
few-members all few = subst (λ n. n < most_modules) (sym (length-map all linked_member)) few

reached : (packages : Packages) (first names : List ModuleName) (all : List Linked) (own name : ModuleName)
    (bytes : List ℕ) → Comes packages first names all name → own ≡ name → text_of packages name ≡ Some bytes →
    HasBytes packages first (linked_members all) own bytes
reached packages first names all own name bytes comes same is = record {
  reached = holds-next packages first names all name comes.holds comes.at ∙ ap Some (sym same);
  found = ap (text_of packages) same ∙ is;
}

module _ (a b c : SourceState) (roots : List (List ℕ)) (first names : List ModuleName) (all : List Linked)
    (old mid entries : List Entry) where
  -- the module that is to be loaded has a fault
  pub member-fault : (name : ModuleName) (found : LoadFault) → Reading a b old mid →
      Surely roots entries (λ packages. Comes packages first names all name) →
      HasMemberFault b c roots name entries found → HasClosureFault a c roots first entries found
  member-fault name (fault.TooLong own) reads comes h = λ files agree.
      let here = comes files agree in
      let long = h.1 files agree in
      record {
        members = linked_members all;
        front = here.holds.front;
        stands = (
          few-members all here.few,
          (long.0, reached (over roots files) first names all own name long.0 here h.0 long.1, long.2),
        );
      }
  member-fault name (fault.Lex own found place) reads comes h = λ files agree.
      let here = comes files agree in
      record {
        members = linked_members all;
        front = here.holds.front;
        stands = (
          few-members all here.few,
          (
            h.1.0,
            reached (over roots files) first names all own name h.1.0 here h.0 (h.1.1 files agree),
            h.1.2,
            h.1.3,
          ),
        );
      }
  member-fault name (fault.Parse own found place) reads comes h = λ files agree.
      let here = comes files agree in
      record {
        members = linked_members all;
        front = here.holds.front;
        stands = (
          few-members all here.few,
          (
            h.1.0,
            reached (over roots files) first names all own name h.1.0 here h.0 (h.1.1 files agree),
            h.1.2,
            h.1.3,
          ),
        );
      }
  member-fault name fault.ReadFault reads comes h = fails-later a b c old mid fault.ReadFault reads h
  member-fault name fault.OutOfMemory reads comes h = tt
  member-fault name (fault.Absent asker place own) reads comes h = absurd h
  member-fault name fault.TooMany reads comes h = absurd h
  member-fault name (fault.Cycle path) reads comes h = absurd h

  -- the module that is to be loaded imports another past the top
  pub import-fault : (member : Member) (found : LoadFault) → Reading a b old mid →
      Surely roots entries (λ packages. Comes packages first names all member.name) →
      Surely roots entries (λ packages. IsMember packages member) →
      HasImportFault b c roots member entries found → HasClosureFault a c roots first entries found
  import-fault member (fault.Absent asker place own) reads comes is h = λ files agree.
      let here = comes files agree in
      record {
        members = linked_members all;
        front = here.holds.front;
        stands = (
          few-members all here.few,
          inr (record {
            member = member;
            is = is files agree;
            reached = holds-next (over roots files) first names all member.name here.holds here.at;
            past = h files agree;
          }),
        );
      }
  import-fault member fault.ReadFault reads comes is h = fails-later a b c old mid fault.ReadFault reads h
  import-fault member fault.OutOfMemory reads comes is h = tt
  import-fault member (fault.TooLong own) reads comes is h = absurd h
  import-fault member (fault.Lex own found place) reads comes is h = absurd h
  import-fault member (fault.Parse own found place) reads comes is h = absurd h
  import-fault member fault.TooMany reads comes is h = absurd h
  import-fault member (fault.Cycle path) reads comes is h = absurd h

-- a fault that is handed on
pub handed-on : {A : Type 0} (P : LoadFault → Type 0) (answer : Result A LoadFault) (own : LoadFault) →
    IsErrAnd answer (λ found. found ≡ own) → P own → IfErr answer P
handed-on P (Ok one) own is h = absurd is
handed-on P (Err found) own is h = subst P (sym is) h

-- one more module isn't too many
pub few-more : (all : List Linked) (one : Linked) → length all < most_modules →
    length (all ++ one ∷ []) ≤ most_modules
few-more all one few = omega (arith, few, length_push all one)

-- the same for lists that are lent
pub absent-fault-in : (packages : Packages) (first names lent : List ModuleName) (all lent_all : List Linked)
    (name : ModuleName) → lent ≡ names → lent_all ≡ all → Holds packages first names all → length all < most_modules →
    slice_get names (length all) ≡ Some name → text_of packages name ≡ None →
    HasLoadFault packages first
    (fault.Absent (asked first lent lent_all name).0 (asked first lent lent_all name).1 name)
absent-fault-in packages first names lent all lent_all name same same_all holds few at none =
    subst (λ lent. HasLoadFault packages first
    (fault.Absent (asked first lent lent_all name).0 (asked first lent lent_all name).1 name)) (sym same)
    (subst (λ lent_all. HasLoadFault packages first
    (fault.Absent (asked first names lent_all name).0 (asked first names lent_all name).1 name)) (sym same_all)
    (absent-fault packages first names all name holds few at none))
