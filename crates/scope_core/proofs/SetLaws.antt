-- Laws of a module set as the scopes read it.
use Rattle.std.proofs.Common.{◌≡◌, ◌∙◌, ◌++◌, ◌∷◌, [], ◌<◌, ◌&&◌, ◌||◌, ℕ, suc, Bool, true, false, List, Option}
use Rattle.std.proofs.Common.{Some, None, map}
use Rattle.std.proofs.Common.{if◌then◌else◌, refl, sym, ap, arith, length, flat_map, option_map}
use Rattle.std.specs.List.{list_any, list_all, filter_map, cons_option, AllByRecursion}
use Rattle.std.proofs.lemmas.Bool.{false≢true, lt-ltb}
use Rattle.std.proofs.lemmas.List.{map-append, length-map}
use Rattle.std.proofs.lemmas.List.Elements.{filter_map-append}
use Rattle.case_table.specs.Lists.{firsts, place_of}
use Rattle.mdl_syntax.specs.declared.names.Ident.{Ident}
use Rattle.mdl_syntax.specs.declared.imports.ModuleRef.{ModuleRef}
use Rattle.mdl_syntax.specs.declared.imports.Qualified.{Qualified}
use Rattle.mdl_syntax.specs.declared.imports.Import.{Import}
use Rattle.mdl_syntax.specs.declared.imports.Import.TheVariants as import_form
use Rattle.mdl_syntax.specs.declared.modules.Module.{Module}
use Rattle.mdl_syntax.specs.Modules.{module_of}
use Rattle.module_set.specs.declared.module_name.ModuleName.{ModuleName}
use Rattle.module_set.specs.declared.set.ModuleSet.{ModuleSet}
use Rattle.module_set.specs.Names.{same_name}
use Rattle.module_set.specs.Imports.{references_in, references, meant, imports_of}
use Rattle.module_set.specs.Members.{Member, members_from, members_of}
use Rattle.module_set.specs.ModuleSets.{is_among, NamesMember, import_links, IsModuleSet}
use Rattle.scope_tables.specs.Entities.{entities_from}
use Rattle.scope_tables.specs.PreludeEntities.{prelude}
use Rattle.scope_tables.specs.Brought.{Bringing, bringing, named_alone, as_list, brought_item, brought_by, brought}
use Rattle.scope_core.specs.Standing.{pieces_of, world_of}
use Rattle.scope_tables.specs.inside.Order.{are_below, AreWithin}
use Rattle.scope_tables.specs.inside.Reaching.{froms}
use Rattle.scope_core.specs.inside.Scoping.{brought_all}

-- what a name brings is of the module that it means
item-from : (names : List ModuleName) (listed : Option (List Ident)) (used : Bool) (name : Option ModuleName)
    (rest : List Bringing) (others : List ModuleName)
    → froms rest ≡ map (λ name. place_of same_name name names) others
    → froms (cons_option (option_map (bringing listed used)
    (option_map (λ name. place_of same_name name names) name)) rest)
    ≡ map (λ name. place_of same_name name names) (cons_option name others)
item-from names listed used None rest others later = later
item-from names listed used (Some name) rest others later = ap (λ l. place_of same_name name names ∷ l) later

items-from : (names : List ModuleName) (importer : ModuleName) (items : List Qualified)
    → froms (filter_map (brought_item names importer) items)
    ≡ map (λ name. place_of same_name name names)
    (filter_map (meant (is_among names) importer) (map (λ (item : Qualified). item.module) items))
items-from names importer [] = refl
items-from names importer (item ∷ items) =
    item-from names (named_alone item.name) false (meant (is_among names) importer item.module)
    (filter_map (brought_item names importer) items)
    (filter_map (meant (is_among names) importer) (map (λ (item : Qualified). item.module) items))
    (items-from names importer items)

import-from : (names : List ModuleName) (importer : ModuleName) (one : Import)
    → froms (brought_by names importer one)
    ≡ map (λ name. place_of same_name name names) (filter_map (meant (is_among names) importer) (references_in one))
import-from names importer (import_form.Import items span) = items-from names importer items
import-from names importer (import_form.Using reference listed span) = by (meant (is_among names) importer reference)
  where
    by : (name : Option ModuleName)
        → froms (as_list (option_map (bringing listed true) (option_map (λ name. place_of same_name name names) name)))
        ≡ map (λ name. place_of same_name name names) (cons_option name [])
    by None = refl
    by (Some name) = refl

-- a module brings from those that it imports
imports-from : (names : List ModuleName) (importer : ModuleName) (imports : List Import)
    → froms (flat_map (brought_by names importer) imports)
    ≡ map (λ name. place_of same_name name names)
    (filter_map (meant (is_among names) importer) (flat_map references_in imports))
imports-from names importer [] = refl
imports-from names importer (one ∷ imports) =
    map-append (λ (b : Bringing). b.from) (brought_by names importer one) (flat_map (brought_by names importer) imports)
    ∙ (λ k. import-from names importer one k ++ imports-from names importer imports k)
    ∙ sym (map-append (λ name. place_of same_name name names)
    (filter_map (meant (is_among names) importer) (references_in one))
    (filter_map (meant (is_among names) importer) (flat_map references_in imports)))
    ∙ sym (ap (map (λ name. place_of same_name name names))
    (filter_map-append (meant (is_among names) importer) (references_in one) (flat_map references_in imports)))

pub links-are : (names : List ModuleName) (members : List Member)
    → map froms (map (brought names) members) ≡ import_links names members
links-are names [] = refl
links-are names (member ∷ members) =
    λ k. imports-from names member.name member.tree.imports k ∷ links-are names members k

-- what each module brings
brought-are : (known names : List ModuleName) (modules : List Module) (texts : List (List ℕ))
    → length modules ≡ length names → length texts ≡ length names
    → brought_all known names modules ≡ map (brought known) (members_from names modules texts)
brought-are known [] [] texts same long = refl
brought-are known [] (one ∷ modules) texts same long = absurd (omega (arith, same))
brought-are known (name ∷ names) [] texts same long = refl
brought-are known (name ∷ names) (one ∷ modules) [] same long = absurd (omega (arith, long))
brought-are known (name ∷ names) (one ∷ modules) (text ∷ texts) same long =
    ap (λ l. flat_map (brought_by known name) one.imports ∷ l)
    (brought-are known names modules texts (omega (arith, same)) (omega (arith, long)))

pub brings-are : (set : ModuleSet) → IsModuleSet set
    → brought_all (firsts same_name set.names) set.names set.modules
    ≡ (world_of set.names (members_of set)).brings
brings-are set is =
    ap (λ known. brought_all known set.names set.modules) is.apart
    ∙ brought-are set.names set.names set.modules set.texts is.whole.0 is.whole.1

members-long : (names : List ModuleName) (modules : List Module) (texts : List (List ℕ))
    → length modules ≡ length names → length texts ≡ length names
    → length (members_from names modules texts) ≡ length names
members-long [] modules texts same long = refl
members-long (name ∷ names) [] texts same long = absurd (omega (arith, same))
members-long (name ∷ names) (one ∷ modules) [] same long = absurd (omega (arith, long))
members-long (name ∷ names) (one ∷ modules) (text ∷ texts) same long =
    ap suc (members-long names modules texts (omega (arith, same)) (omega (arith, long)))

-- as many members as names
pub members-count : (set : ModuleSet) → IsModuleSet set → length (members_of set) ≡ length set.names
members-count set is = members-long set.names set.modules set.texts is.whole.0 is.whole.1

declarations-are : (names : List ModuleName) (modules : List Module) (texts : List (List ℕ))
    → length modules ≡ length names → length texts ≡ length names
    → map (λ (one : Module). (module_of one).declarations) modules
    ≡ map (λ (member : Member). member.tree.declarations) (members_from names modules texts)
declarations-are [] [] texts same long = refl
declarations-are [] (one ∷ modules) texts same long = absurd (omega (arith, same))
declarations-are (name ∷ names) [] texts same long = refl
declarations-are (name ∷ names) (one ∷ modules) [] same long = absurd (omega (arith, long))
declarations-are (name ∷ names) (one ∷ modules) (text ∷ texts) same long =
    ap (λ l. (module_of one).declarations ∷ l)
    (declarations-are names modules texts (omega (arith, same)) (omega (arith, long)))

-- the pieces of a set
pub pieces-are : (set : ModuleSet) → IsModuleSet set
    → entities_from 0 (map (λ (one : Module). (module_of one).declarations) set.modules)
    ++ prelude (length set.modules) ∷ []
    ≡ pieces_of (members_of set)
pieces-are set is =
    let count = members-count set is in
    let same = is.whole.0 in
    let long : length set.modules ≡ length (members_of set) = omega (arith, count, same) in
    λ k. entities_from 0 (declarations-are set.names set.modules set.texts is.whole.0 is.whole.1 k)
    ++ prelude (long k) ∷ []

-- a member's name has a place
place-within : (names : List ModuleName) (name : ModuleName) → is_among names name ≡ true
    → place_of same_name name names < length names
place-within [] name among = absurd (false≢true among)
place-within (one ∷ names) name among = by (same_name name one) among (place-within names name)
  where
    by : (b : Bool) → (b || list_any (same_name name) names) ≡ true
        → (list_any (same_name name) names ≡ true → place_of same_name name names < length names)
        → (if b then 0 else suc (place_of same_name name names)) < suc (length names)
    by true among later = omega arith
    by false among later =
        let less = later among in
        omega (arith, less)

row-within : (names : List ModuleName) (importer : ModuleName) (references : List ModuleRef)
    → AllByRecursion (NamesMember names importer) references
    → are_below (length names)
    (map (λ name. place_of same_name name names) (filter_map (meant (is_among names) importer) references)) ≡ true
row-within names importer [] all = refl
row-within names importer (reference ∷ references) all =
    ap (λ (found : Option ModuleName). are_below (length names) (map (λ name. place_of same_name name names)
    (cons_option found (filter_map (meant (is_among names) importer) references)))) all.0.1
    ∙ ap (λ b. b && are_below (length names) (map (λ name. place_of same_name name names)
    (filter_map (meant (is_among names) importer) references)))
    (lt-ltb _ _ (place-within names all.0.0 all.0.2))
    ∙ row-within names importer references all.1

rows-within : (names : List ModuleName) (members : List Member)
    → AllByRecursion (λ (member : Member). AllByRecursion (NamesMember names member.name)
    (references member.tree)) members
    → list_all (are_below (length names)) (import_links names members) ≡ true
rows-within names [] all = refl
rows-within names (member ∷ members) all =
    ap (λ b. b && list_all (are_below (length names)) (import_links names members))
    (row-within names member.name (references member.tree) all.0)
    ∙ rows-within names members all.1

-- modules import modules of the set
pub links-within : (set : ModuleSet) → IsModuleSet set → AreWithin (import_links set.names (members_of set))
links-within set is =
    ap (λ n. list_all (are_below n) (import_links set.names (members_of set)))
    (length-map (members_of set) (λ (member : Member). map (λ name. place_of same_name name set.names)
    (imports_of (is_among set.names) member.name member.tree)) ∙ members-count set is)
    ∙ rows-within set.names (members_of set) is.inside
