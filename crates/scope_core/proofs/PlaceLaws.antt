-- The faults of a module stand at its names, which stand at its words.
use Rattle.std.proofs.Common.{◌≡◌, ◌∙◌, ◌++◌, ◌∷◌, [], ◌+◌, ◌==◌, ◌&&◌, ◌||◌, ℕ, zero, suc, Bool, true, false}
use Rattle.std.proofs.Common.{List, Option, Some, None, map}
use Rattle.std.proofs.Common.{refl, sym, ap, subst, arith, slice_get, length, take, drop, flat_map, option_map}
use Rattle.std.specs.List.{list_any, list_all, filter_map, cons_option, AllByRecursion}
use Rattle.std.proofs.lemmas.Bool.{and_parts, eq-eqb, eqb-true}
use Rattle.std.proofs.lemmas.Option.{same_Some, none-some}
use Rattle.type_rules.specs.declared.ty.Ty.{Ty}
use Rattle.mdl_lexer.specs.declared.token.Kind.{Kind}
use Rattle.mdl_lexer.specs.declared.token.Token.{Token}
use Rattle.mdl_syntax.specs.declared.names.Ident.{Ident}
use Rattle.mdl_syntax.specs.declared.imports.Qualified.{Qualified}
use Rattle.mdl_syntax.specs.declared.imports.Import.{Import}
use Rattle.mdl_syntax.specs.declared.imports.Import.TheVariants as import_form
use Rattle.mdl_syntax.specs.Words.{ident_word, type_words, frequency_words}
use Rattle.mdl_syntax.specs.Modules.{Parameter, EnumValue, Declaration, ModuleTree}
use Rattle.mdl_syntax.specs.Modules.{material, variant, function, structure, enumeration, annotation}
use Rattle.mdl_syntax.specs.WrittenModules.{write_each, module_words, qualified_words, write_import, write_annotations}
use Rattle.mdl_syntax.specs.WrittenModules.{write_parameter, write_field, write_enum_value}
use Rattle.mdl_syntax.specs.WrittenModules.{export_words, write_declaration, write_own}
use Rattle.mdl_syntax.specs.Placed.{tokens_of, behind, placed_ident}
use Rattle.mdl_syntax.specs.PlacedModules.{placed_each, placed_last, placed_qualified, placed_used, placed_import}
use Rattle.mdl_syntax.specs.PlacedModules.{placed_parameter, placed_enum_value, placed_declaration}
use Rattle.mdl_syntax.specs.PlacedModules.{placed_module}
use Rattle.module_set.specs.declared.module_name.ModuleName.{ModuleName}
use Rattle.module_set.specs.Members.{Member}
use Rattle.scope_core.specs.declared.fault.ScopeFault.{ScopeFault}
use Rattle.scope_core.specs.declared.fault.ScopeFault.TheVariants as fault
use Rattle.scope_tables.specs.Entities.{Declared, values_from, declared, declared_from, entities_from}
use Rattle.scope_tables.specs.PreludeEntities.{prelude}
use Rattle.scope_tables.specs.Brought.{Bringing, index_meant, bringing, named_alone, as_list, brought_item, brought_by}
use Rattle.scope_tables.specs.Brought.{brought}
use Rattle.scope_core.specs.Standing.{types_of, standing}
use Rattle.scope_core.specs.ScopeFaults.{listed_by, module_faults, faults_from, scope_faults, fault_key, Fails}
use Rattle.scope_core.specs.Places.{is_place_of, HasPlace, HasPlaces}
use Rattle.scope_core.proofs.CheckLaws.{is_good, are_good, brings_good, takes_good}
use Rattle.scope_core.proofs.CheckLaws.{module-pass, places-pass, own-accepts, is_from}
use Rattle.scope_tables.proofs.MemberLaws.{both-all}
use Rattle.scope_core.proofs.ScopingLaws.{declared_from-inside}

-- all tokens stand at good places
abbrev pub start_good : (ℕ → Bool) → List Token → Bool
start_good good tokens = list_all (λ (token : Token). good token.at) tokens

take-all : {A : Type 0} (test : A → Bool) (n : ℕ) (xs : List A) → list_all test xs ≡ true
    → list_all test (take n xs) ≡ true
take-all test zero xs all = refl
take-all test (suc n) [] all = refl
take-all test (suc n) (x ∷ xs) all =
    let apart = and_parts (test x) (list_all test xs) all in
    ap (λ b. b && list_all test (take n xs)) apart.0 ∙ take-all test n xs apart.1

drop-all : {A : Type 0} (test : A → Bool) (n : ℕ) (xs : List A) → list_all test xs ≡ true
    → list_all test (drop n xs) ≡ true
drop-all test zero xs all = all
drop-all test (suc n) [] all = refl
drop-all test (suc n) (x ∷ xs) all = drop-all test n xs (and_parts (test x) (list_all test xs) all).1

-- a place that is good at the start, and at tokens
record Starts (good : ℕ → Bool) (tokens : List Token) : Type 0 where
  start : good 0 ≡ true
  all : start_good good tokens ≡ true

taken : (good : ℕ → Bool) (n : ℕ) (tokens : List Token) → Starts good tokens → Starts good (take n tokens)
taken good n tokens starts = record {
  start = starts.start;
  all = take-all (λ (token : Token). good token.at) n tokens starts.all;
}

dropped : (good : ℕ → Bool) (n : ℕ) (tokens : List Token) → Starts good tokens → Starts good (drop n tokens)
dropped good n tokens starts = record {
  start = starts.start;
  all = drop-all (λ (token : Token). good token.at) n tokens starts.all;
}

ident-good : (good : ℕ → Bool) (name : Ident) (tokens : List Token) → Starts good tokens
    → is_good good (placed_ident name tokens) ≡ true
ident-good good name [] starts = starts.start
ident-good good name (token ∷ tokens) starts =
    (and_parts (good token.at) (start_good good tokens) starts.all).0

-- what each of several gives at the tokens that it writes
each-all : {A B : Type 0} (good : ℕ → Bool) (test : B → Bool) (f : A → List B) (write_one : A → List Kind)
    (place_one : A → List Token → A) (between : ℕ) (xs : List A) (tokens : List Token)
    → ((x : A) (tokens : List Token) → Starts good tokens → list_all test (f (place_one x tokens)) ≡ true)
    → Starts good tokens → list_all test (flat_map f (placed_each write_one place_one between xs tokens)) ≡ true
each-all good test f write_one place_one between [] tokens each starts = refl
each-all good test f write_one place_one between (x ∷ xs) tokens each starts =
    both-all test (f (place_one x (tokens_of (write_one x) tokens)))
    (flat_map f (placed_each write_one place_one between xs (behind (write_one x) between tokens)))
    (each x (tokens_of (write_one x) tokens) (taken good (length (write_one x)) tokens starts))
    (each-all good test f write_one place_one between xs (behind (write_one x) between tokens) each
    (dropped good (length (write_one x) + between) tokens starts))

-- the same for one of each
each-one : {A : Type 0} (good : ℕ → Bool) (test : A → Bool) (write_one : A → List Kind)
    (place_one : A → List Token → A) (between : ℕ) (xs : List A) (tokens : List Token)
    → ((x : A) (tokens : List Token) → Starts good tokens → test (place_one x tokens) ≡ true)
    → Starts good tokens → list_all test (placed_each write_one place_one between xs tokens) ≡ true
each-one good test write_one place_one between [] tokens each starts = refl
each-one good test write_one place_one between (x ∷ xs) tokens each starts =
    ap (λ b. b && list_all test (placed_each write_one place_one between xs (behind (write_one x) between tokens)))
    (each x (tokens_of (write_one x) tokens) (taken good (length (write_one x)) tokens starts))
    ∙ each-one good test write_one place_one between xs (behind (write_one x) between tokens) each
    (dropped good (length (write_one x) + between) tokens starts)

-- What is imported.

last-good : (good : ℕ → Bool) (name : Option Ident) (tokens : List Token) → Starts good tokens
    → are_good good (listed_by (named_alone (placed_last name tokens))) ≡ true
last-good good None tokens starts = refl
last-good good (Some name) tokens starts = ap (λ b. b && true) (ident-good good name tokens starts)

used-good : (good : ℕ → Bool) (names : Option (List Ident)) (tokens : List Token) → Starts good tokens
    → are_good good (listed_by (placed_used names tokens)) ≡ true
used-good good None tokens starts = refl
used-good good (Some names) tokens starts =
    each-one good (is_good good) (λ name. ident_word name ∷ []) placed_ident 1 names tokens
    (λ name tokens starts. ident-good good name tokens starts) starts

-- an item brings what it names, if anything
item-good : (good : ℕ → Bool) (name : Option Ident) (rest : List Bringing) (from : Option ℕ)
    → are_good good (listed_by (named_alone name)) ≡ true → list_all (brings_good good) rest ≡ true
    → list_all (brings_good good) (cons_option (option_map (bringing (named_alone name) false) from) rest) ≡ true
item-good good name rest None here later = later
item-good good name rest (Some from) here later = ap (λ b. b && list_all (brings_good good) rest) here ∙ later

items-good : (good : ℕ → Bool) (names : List ModuleName) (importer : ModuleName) (items : List Qualified)
    (tokens : List Token) → Starts good tokens
    → list_all (brings_good good) (filter_map (brought_item names importer)
    (placed_each qualified_words placed_qualified 1 items tokens)) ≡ true
items-good good names importer [] tokens starts = refl
items-good good names importer (item ∷ items) tokens starts =
    let own = tokens_of (qualified_words item) tokens in
    let placed = placed_qualified item own in
    item-good good placed.name
    (filter_map (brought_item names importer)
    (placed_each qualified_words placed_qualified 1 items (behind (qualified_words item) 1 tokens)))
    (index_meant names importer placed.module)
    (last-good good item.name (behind (module_words item.module) 1 own)
    (dropped good (length (module_words item.module) + 1) own
    (taken good (length (qualified_words item)) tokens starts)))
    (items-good good names importer items (behind (qualified_words item) 1 tokens)
    (dropped good (length (qualified_words item) + 1) tokens starts))

using-good : (good : ℕ → Bool) (names : Option (List Ident)) (from : Option ℕ)
    → are_good good (listed_by names) ≡ true
    → list_all (brings_good good) (as_list (option_map (bringing names true) from)) ≡ true
using-good good names None here = refl
using-good good names (Some from) here = ap (λ b. b && true) here

import-good : (good : ℕ → Bool) (names : List ModuleName) (importer : ModuleName) (one : Import) (tokens : List Token)
    → Starts good tokens → list_all (brings_good good) (brought_by names importer (placed_import one tokens)) ≡ true
import-good good names importer (import_form.Import items span) tokens starts =
    items-good good names importer items (drop 1 tokens) (dropped good 1 tokens starts)
import-good good names importer (import_form.Using reference listed span) tokens starts =
    using-good good (placed_used listed (behind (module_words reference) 2 tokens)) _
    (used-good good listed (behind (module_words reference) 2 tokens)
    (dropped good (length (module_words reference) + 2) tokens starts))

-- What is declared.

-- a test that takes entities at good places
abbrev stands_good : (ℕ → Bool) → Declared → Bool
stands_good good one = good one.at

parameters-good : (good : ℕ → Bool) (write_one : Parameter → List Kind) (between : ℕ) (parameters : List Parameter)
    (tokens : List Token) → Starts good tokens
    → are_good good (map (λ (parameter : Parameter). parameter.name)
    (placed_each write_one placed_parameter between parameters tokens)) ≡ true
parameters-good good write_one between [] tokens starts = refl
parameters-good good write_one between (one ∷ parameters) tokens starts =
    let own = tokens_of (write_one one) tokens in
    let at_type = behind (frequency_words one.frequency) 0 own in
    ap (λ b. b && are_good good (map (λ (parameter : Parameter). parameter.name)
    (placed_each write_one placed_parameter between parameters (behind (write_one one) between tokens))))
    (ident-good good one.name (behind (type_words one.ty) 0 at_type)
    (dropped good (length (type_words one.ty) + 0) at_type
    (dropped good (length (frequency_words one.frequency) + 0) own
    (taken good (length (write_one one)) tokens starts))))
    ∙ parameters-good good write_one between parameters (behind (write_one one) between tokens)
    (dropped good (length (write_one one) + between) tokens starts)

values-good : (good : ℕ → Bool) (m d p : ℕ) (exported : Bool) (group : List ℕ) (values : List EnumValue)
    (tokens : List Token) → Starts good tokens
    → list_all (stands_good good) (values_from m d p exported group
    (placed_each write_enum_value placed_enum_value 1 values tokens)) ≡ true
values-good good m d p exported group [] tokens starts = refl
values-good good m d p exported group (value ∷ values) tokens starts =
    ap (λ b. b && list_all (stands_good good) (values_from m d (suc p) exported group
    (placed_each write_enum_value placed_enum_value 1 values (behind (write_enum_value value) 1 tokens))))
    (ident-good good value.name (tokens_of (write_enum_value value) tokens)
    (taken good (length (write_enum_value value)) tokens starts))
    ∙ values-good good m d (suc p) exported group values (behind (write_enum_value value) 1 tokens)
    (dropped good (length (write_enum_value value) + 1) tokens starts)

one-good : (b : Bool) → b ≡ true → (b && true) ≡ true
one-good b is = ap (λ c. c && true) is

declaration-good : (good : ℕ → Bool) (m d : ℕ) (one : Declaration) (tokens : List Token) → Starts good tokens
    → list_all (stands_good good) (declared m d (placed_declaration one tokens)) ≡ true
declaration-good good m d (material exported name parameters annotations body span) tokens starts =
    one-good _ (ident-good good name (behind (export_words exported) 1 tokens)
    (dropped good (length (export_words exported) + 1) tokens starts))
declaration-good good m d (variant exported ty name annotations base given span) tokens starts =
    let at_type = behind (export_words exported) 0 tokens in
    one-good _ (ident-good good name (behind (type_words ty) 0 at_type)
    (dropped good (length (type_words ty) + 0) at_type
    (dropped good (length (export_words exported) + 0) tokens starts)))
declaration-good good m d (function exported ty name parameters frequency annotations body span) tokens starts =
    let at_type = behind (export_words exported) 0 tokens in
    one-good _ (ident-good good name (behind (type_words ty) 0 at_type)
    (dropped good (length (type_words ty) + 0) at_type
    (dropped good (length (export_words exported) + 0) tokens starts)))
declaration-good good m d (structure exported name annotations fields span) tokens starts =
    one-good _ (ident-good good name (behind (export_words exported) 1 tokens)
    (dropped good (length (export_words exported) + 1) tokens starts))
declaration-good good m d (enumeration exported name annotations values span) tokens starts =
    let at_name = behind (export_words exported) 1 tokens in
    let starts_name = dropped good (length (export_words exported) + 1) tokens starts in
    let at_values = behind (write_annotations annotations) 1 (drop 1 at_name) in
    ap (λ b. b && list_all (stands_good good) (values_from m d 1 exported name.text
    (placed_each write_enum_value placed_enum_value 1 values at_values)))
    (ident-good good name at_name starts_name)
    ∙ values-good good m d 1 exported name.text values at_values
    (dropped good (length (write_annotations annotations) + 1) (drop 1 at_name) (dropped good 1 at_name starts_name))
declaration-good good m d (annotation exported name parameters annotations span) tokens starts =
    one-good _ (ident-good good name (behind (export_words exported) 1 tokens)
    (dropped good (length (export_words exported) + 1) tokens starts))

declarations-good : (good : ℕ → Bool) (m d : ℕ) (declarations : List Declaration) (tokens : List Token)
    → Starts good tokens
    → list_all (stands_good good) (declared_from m d
    (placed_each write_declaration placed_declaration 0 declarations tokens)) ≡ true
declarations-good good m d [] tokens starts = refl
declarations-good good m d (one ∷ declarations) tokens starts =
    both-all (stands_good good) (declared m d (placed_declaration one (tokens_of (write_declaration one) tokens)))
    (declared_from m (suc d) (placed_each write_declaration placed_declaration 0 declarations
    (behind (write_declaration one) 0 tokens)))
    (declaration-good good m d one (tokens_of (write_declaration one) tokens)
    (taken good (length (write_declaration one)) tokens starts))
    (declarations-good good m (suc d) declarations (behind (write_declaration one) 0 tokens)
    (dropped good (length (write_declaration one) + 0) tokens starts))

takes-good : (good : ℕ → Bool) (one : Declaration) (tokens : List Token) → Starts good tokens
    → takes_good good (placed_declaration one tokens) ≡ true
takes-good good (material exported name parameters annotations body span) tokens starts =
    let at_name = behind (export_words exported) 1 tokens in
    parameters-good good write_parameter 1 parameters (drop 1 (drop 1 at_name))
    (dropped good 1 (drop 1 at_name) (dropped good 1 at_name
    (dropped good (length (export_words exported) + 1) tokens starts)))
takes-good good (variant exported ty name annotations base given span) tokens starts = refl
takes-good good (function exported ty name parameters frequency annotations body span) tokens starts =
    let at_type = behind (export_words exported) 0 tokens in
    let at_name = behind (type_words ty) 0 at_type in
    parameters-good good write_parameter 1 parameters (drop 1 (drop 1 at_name))
    (dropped good 1 (drop 1 at_name) (dropped good 1 at_name
    (dropped good (length (type_words ty) + 0) at_type
    (dropped good (length (export_words exported) + 0) tokens starts))))
takes-good good (structure exported name annotations fields span) tokens starts =
    let at_name = behind (export_words exported) 1 tokens in
    parameters-good good write_field 0 fields (behind (write_annotations annotations) 1 (drop 1 at_name))
    (dropped good (length (write_annotations annotations) + 1) (drop 1 at_name) (dropped good 1 at_name
    (dropped good (length (export_words exported) + 1) tokens starts)))
takes-good good (enumeration exported name annotations values span) tokens starts = refl
takes-good good (annotation exported name parameters annotations span) tokens starts =
    let at_name = behind (export_words exported) 1 tokens in
    parameters-good good write_parameter 1 parameters (drop 1 (drop 1 at_name))
    (dropped good 1 (drop 1 at_name) (dropped good 1 at_name
    (dropped good (length (export_words exported) + 1) tokens starts)))

-- The names of a module whose places are those of tokens.

record AreGood (good : ℕ → Bool) (names : List ModuleName) (importer : ModuleName) (tree : ModuleTree) : Type 0 where
  brings : list_all (brings_good good) (flat_map (brought_by names importer) tree.imports) ≡ true
  own : (m : ℕ) → list_all (stands_good good) (declared_from m 0 tree.declarations) ≡ true
  takes : list_all (takes_good good) tree.declarations ≡ true

module-good : (good : ℕ → Bool) (names : List ModuleName) (importer : ModuleName) (tree : ModuleTree)
    (tokens : List Token) → Starts good tokens → AreGood good names importer (placed_module tree tokens)
module-good good names importer tree tokens starts =
    let at_imports = drop 3 tokens in
    let starts_imports = dropped good 3 tokens starts in
    let at_own = behind (write_each write_import tree.imports) 0 at_imports in
    let starts_own = dropped good (length (write_each write_import tree.imports) + 0) at_imports starts_imports in
    let at_declarations = behind (write_own tree.annotations) 0 at_own in
    let starts_declarations = dropped good (length (write_own tree.annotations) + 0) at_own starts_own in
    record {
      brings = each-all good (brings_good good) (brought_by names importer) write_import placed_import 0 tree.imports
          at_imports (λ one tokens starts. import-good good names importer one tokens starts) starts_imports;
      own = λ m. declarations-good good m 0 tree.declarations at_declarations starts_declarations;
      takes = each-one good (takes_good good) write_declaration placed_declaration 0 tree.declarations at_declarations
          (λ one tokens starts. takes-good good one tokens starts) starts_declarations;
    }

-- each token starts where a token starts
among-all : (all some : List Token)
    → ((at : ℕ) → list_any (λ (token : Token). token.at == at) some ≡ true
    → list_any (λ (token : Token). token.at == at) all ≡ true)
    → start_good (is_place_of all) some ≡ true
among-all all [] within = refl
among-all all (token ∷ some) within =
    ap (λ b. b && start_good (is_place_of all) some)
    (behind-or (token.at == 0) (list_any (λ (other : Token). other.at == token.at) all)
    (within token.at (front-or (token.at == token.at) (list_any (λ (other : Token). other.at == token.at) some)
    (eq-eqb token.at token.at refl))))
    ∙ among-all all some (λ at is. within at (behind-or (token.at == at) _ is))
  where
    front-or : (b c : Bool) → b ≡ true → (b || c) ≡ true
    front-or true c is = refl
    front-or false c is = absurd cc

    behind-or : (b c : Bool) → c ≡ true → (b || c) ≡ true
    behind-or true c is = refl
    behind-or false c is = is

starts-all : (tokens : List Token) → Starts (is_place_of tokens) tokens
starts-all tokens = record { start = refl; all = among-all tokens tokens (λ at is. is) }

-- a fault at a good place
abbrev fault_good : (ℕ → Bool) → ScopeFault → Bool
fault_good good one = good (fault_key one).1

-- the faults of a module whose places are those of tokens
faults-good : (tokens : List Token) (names : List ModuleName) (types : Declared → List Ty) (standing : List Declared)
    (m : ℕ) (member : Member) → placed_module member.tree tokens ≡ member.tree
    → list_all (fault_good (is_place_of tokens))
    (module_faults names types standing m member (declared_from m 0 member.tree.declarations)) ≡ true
faults-good tokens names types standing m member is =
    let good = is_place_of tokens in
    let are : AreGood good names member.name member.tree =
    subst (AreGood good names member.name) is
    (module-good good names member.name member.tree tokens (starts-all tokens)) in
    places-pass good (fault_good good) types standing (declared_from m 0 member.tree.declarations) m
    (brought names member) member.tree.declarations
    (record {
      twice_is = λ at here. here;
      unknown_is = λ at here. here;
      not_exported_is = λ at here. here;
      clash_is = λ at here. here;
    })
    (are.own m) are.brings are.takes

-- Each fault of a set.

each-both : {A : Type 0} (P : A → Type 0) (one other : List A) → AllByRecursion P one → AllByRecursion P other
    → AllByRecursion P (one ++ other)
each-both P [] other first second = second
each-both P (a ∷ one) other first second = (first.0, each-both P one other first.1 second)

each-at : {A : Type 0} (P : A → Type 0) (xs : List A) (i : ℕ) (a : A) → AllByRecursion P xs → slice_get xs i ≡ Some a
    → P a
each-at P [] i a all at = absurd (none-some a at)
each-at P (x ∷ xs) zero a all at = subst P (same_Some x a at) all.0
each-at P (x ∷ xs) (suc i) a all at = each-at P xs i a all.1 at

-- whatever tokens the places of a member's tree are from, it stands at one of them
abbrev IsAtWord : Member → ℕ → Type 0
IsAtWord member at = (tokens : List Token) → placed_module member.tree tokens ≡ member.tree
    → is_place_of tokens at ≡ true

has-place : (members : List Member) (m n at : ℕ) (member : Member) → slice_get members m ≡ Some member
    → (n == m) ≡ true → IsAtWord member at → HasPlace members n at
has-place members m n at member is same places =
    subst (λ k. HasPlace members k at) (sym (eqb-true n m same))
    (record { member = member; is = is; places = places })

one-placed : (members : List Member) (m : ℕ) (member : Member) (one : ScopeFault) → slice_get members m ≡ Some member
    → is_from m one ≡ true → IsAtWord member (fault_key one).1 → HasPlaces members one
one-placed members m member (fault.Twice n at) is same places = has-place members m n at member is same places
one-placed members m member (fault.Unknown n at) is same places = has-place members m n at member is same places
one-placed members m member (fault.NotExported n at) is same places = has-place members m n at member is same places
one-placed members m member (fault.Clash n at) is same places = has-place members m n at member is same places
one-placed members m member fault.OutOfMemory is same places = tt

all-placed : (members : List Member) (m : ℕ) (member : Member) (faults : List ScopeFault)
    → slice_get members m ≡ Some member → list_all (is_from m) faults ≡ true
    → ((tokens : List Token) → placed_module member.tree tokens ≡ member.tree
    → list_all (fault_good (is_place_of tokens)) faults ≡ true)
    → AllByRecursion (HasPlaces members) faults
all-placed members m member [] is from good = tt
all-placed members m member (one ∷ faults) is from good =
    let apart = and_parts (is_from m one) (list_all (is_from m) faults) from in (
      one-placed members m member one is apart.0
          (λ tokens placed. (and_parts (fault_good (is_place_of tokens) one)
          (list_all (fault_good (is_place_of tokens)) faults) (good tokens placed)).0),
      all-placed members m member faults is apart.1
          (λ tokens placed. (and_parts (fault_good (is_place_of tokens) one)
          (list_all (fault_good (is_place_of tokens)) faults) (good tokens placed)).1),
    )

from-placed : (names : List ModuleName) (types : Declared → List Ty) (standing : List Declared)
    (members : List Member) (m : ℕ) (some : List Member) (behind : List (List Declared))
    → ((j : ℕ) → slice_get members (m + j) ≡ slice_get some j)
    → AllByRecursion (HasPlaces members) (faults_from names types standing m some
    (entities_from m (map (λ (member : Member). member.tree.declarations) some) ++ behind))
from-placed names types standing members m [] behind are = tt
from-placed names types standing members m (member ∷ some) behind are =
    let own = declared_from m 0 member.tree.declarations in
    let start : m ≡ m + 0 = omega arith in
    each-both (HasPlaces members) (module_faults names types standing m member own)
    (faults_from names types standing (suc m) some
    (entities_from (suc m) (map (λ (member : Member). member.tree.declarations) some) ++ behind))
    (all-placed members m member (module_faults names types standing m member own)
    (ap (slice_get members) start ∙ are 0)
    (module-pass (is_from m) types standing own m (brought names member) member.tree.declarations (own-accepts m)
    (declared_from-inside m 0 member.tree.declarations))
    (λ tokens placed. faults-good tokens names types standing m member placed))
    (from-placed names types standing members (suc m) some behind (λ j. next j))
  where
    next : (j : ℕ) → slice_get members (suc m + j) ≡ slice_get some j
    next j =
        let e : suc m + j ≡ m + suc j = omega arith in
        ap (slice_get members) e ∙ are (suc j)

-- a fault that fails a set stands at a name
pub fails-placed : (names : List ModuleName) (members : List Member) (one : ScopeFault)
    → Fails (scope_faults names members) one → HasPlaces members one
fails-placed names members one fails = by one fails
  where
    start : (j : ℕ) → slice_get members (0 + j) ≡ slice_get members j
    start j =
        let e : 0 + j ≡ j = omega arith in
        ap (slice_get members) e

    all : AllByRecursion (HasPlaces members) (scope_faults names members)
    all = from-placed names (types_of names members) (standing names members) members 0 members
        (prelude (length members) ∷ []) start

    by : (one : ScopeFault) → Fails (scope_faults names members) one → HasPlaces members one
    by (fault.Twice m at) least =
        each-at (HasPlaces members) (scope_faults names members) least.place (fault.Twice m at) all least.among
    by (fault.Unknown m at) least =
        each-at (HasPlaces members) (scope_faults names members) least.place (fault.Unknown m at) all least.among
    by (fault.NotExported m at) least =
        each-at (HasPlaces members) (scope_faults names members) least.place (fault.NotExported m at) all least.among
    by (fault.Clash m at) least =
        each-at (HasPlaces members) (scope_faults names members) least.place (fault.Clash m at) all least.among
    by fault.OutOfMemory least = tt
