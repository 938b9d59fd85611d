-- A front of the closure that is whole is the closure.
use Rattle.std.proofs.Common.{◌≡◌, inl, inr, ℕ, suc, zero, ◌+◌, ◌≤◌, List, [], ◌∷◌, ◌++◌, length}
use Rattle.std.proofs.Common.{map, slice_get, flat_map, take, drop, refl, sym, ap, ◌∙◌, subst, arith, Some, None}
use Rattle.std.specs.List.{AllByRecursion, AllZip, list_any}
use Rattle.std.proofs.lemmas.Bool.{cond_both}
use Rattle.std.proofs.lemmas.List.{append_assoc, append-nil, map-append, length_push, take_all, take-append-drop}
use Rattle.std.proofs.lemmas.List.{take-append-le}
use Rattle.std.proofs.lemmas.Grind.{flat_map-append}
use Rattle.std.proofs.lemmas.Option.{same_Some, none-some, slice_get_within}
use Rattle.case_table.specs.Lists.{with_first, firsts_onto, firsts}
use Rattle.case_table.specs.ListLaws.{firsts_onto-append, slice_get-append}
use Rattle.mdl_lexer.specs.declared.token.Token.{Token}
use Rattle.mdl_lexer.specs.Lexes.{HasTokens}
use Rattle.mdl_lexer.proofs.LexLaws.{lexing_is_one}
use Rattle.mdl_syntax.specs.Heights.{most_height}
use Rattle.mdl_syntax.specs.Modules.{ModuleTree}
use Rattle.module_grammar.specs.ModuleReadings.{OneModuleReading, ModuleReading, IsModuleTree, a_module}
use Rattle.module_set.specs.declared.module_name.ModuleName.{ModuleName}
use Rattle.module_set.specs.Names.{same_name}
use Rattle.module_loader.specs.Files.{Packages, text_of}
use Rattle.module_loader.specs.Members.{IsMember, imports, past_top}
use Rattle.module_set.specs.Members.{Member}
use Rattle.module_loader.specs.Closure.{Imports, joined, Solves, IsClosure, known, Front}
use Rattle.module_loader.specs.Closure as closure
use Rattle.module_loader.proofs.ContentLaws.{all-append}
use Rattle.module_loader.proofs.ImportLaws.{take-next}

-- names that come onto others come behind them
pub record Behind (seen all : List ModuleName) : Type 0 where
  pub more : List ModuleName
  pub is : all ≡ seen ++ more

with-behind : (seen : List ModuleName) (name : ModuleName) → Behind seen (with_first same_name seen name)
with-behind seen name =
    cond_both (list_any (same_name name) seen) seen (seen ++ name ∷ []) (Behind seen)
    (λ _. record { more = []; is = sym (append-nil seen) }) (λ _. record { more = name ∷ []; is = refl })

onto-behind : (seen names : List ModuleName) → Behind seen (firsts_onto same_name seen names)
onto-behind seen [] = record { more = []; is = sym (append-nil seen) }
onto-behind seen (name ∷ names) =
    let one = with-behind seen name in
    let rest = onto-behind (with_first same_name seen name) names in
    record {
      more = one.more ++ rest.more;
      is = rest.is ∙ (ap (λ front. front ++ rest.more) one.is ∙ append_assoc seen one.more rest.more);
    }

-- what is known from more modules begins with what is known from fewer
known-behind : (packages : Packages) (first : List ModuleName) (members : List Member) (more : List ModuleName) →
    Behind (known packages first members)
    (firsts same_name ((first ++ flat_map (imports packages) members) ++ more))
known-behind packages first members more =
    let behind = onto-behind (known packages first members) more in
    record {
      more = behind.more;
      is = firsts_onto-append same_name [] (first ++ flat_map (imports packages) members) more ∙ behind.is;
    }

abbrev pub member_names : List Member → List ModuleName
member_names members = map (λ (member : Member). member.name) members

known-push : (packages : Packages) (first : List ModuleName) (members : List Member) (member : Member) →
    Behind (known packages first members) (known packages first (members ++ member ∷ []))
known-push packages first members member =
    let brought = flat_map (imports packages) in
    let behind = known-behind packages first members (imports packages member) in
    record {
      more = behind.more;
      is = ap (λ all. firsts same_name (first ++ all))
          (flat_map-append (imports packages) members (member ∷ [])
          ∙ ap (λ last. brought members ++ last) (append-nil (imports packages member)))
          ∙ (ap (firsts same_name) (sym (append_assoc first (brought members) (imports packages member))) ∙ behind.is);
    }

-- the names of a front are the first that are known from it
pub front-names : (packages : Packages) (first : List ModuleName) (members : List Member) →
    Front packages first members → member_names members ≡ take (length members) (known packages first members)
front-names packages first _ closure.none = refl
front-names packages first _ (closure.more members member front reached is top) =
    let before = front-names packages first members front in
    let n = length members in
    let behind = known-push packages first members member in
    let all = known packages first (members ++ member ∷ []) in
    let at : slice_get all n ≡ Some member.name =
    ap (λ all. slice_get all n) behind.is
    ∙ slice_get-append (known packages first members) behind.more n member.name reached in
    let within = slice_get_within (known packages first members) n member.name reached in
    map-append (λ (member : Member). member.name) members (member ∷ [])
    ∙ (ap (λ names. names ++ member.name ∷ []) (before
    ∙ (sym (take-append-le n (known packages first members) behind.more (omega (arith, within)))
    ∙ ap (take n) (sym behind.is)))
    ∙ (sym (take-next all n member.name at) ∙ ap (λ m. take m all) (omega (arith, length_push members member))))

pub front-members : (packages : Packages) (first : List ModuleName) (members : List Member) →
    Front packages first members →
    AllByRecursion (IsMember packages) members
    × AllByRecursion (λ (member : Member). past_top packages member ≡ None) members
front-members packages first _ closure.none = (tt, tt)
front-members packages first _ (closure.more members member front reached is top) =
    let before = front-members packages first members front in (
      all-append (IsMember packages) members (member ∷ []) before.0 (is, tt),
      all-append (λ (member : Member). past_top packages member ≡ None) members (member ∷ []) before.1 (top, tt),
    )

imports-are : (packages : Packages) (members : List Member) → AllByRecursion (IsMember packages) members →
    AllZip (Imports packages) (member_names members) (map (imports packages) members)
imports-are packages [] h = tt
imports-are packages (member ∷ members) h = (inl (member, h.0, refl, refl), imports-are packages members h.1)

pub joined-map : (packages : Packages) (members : List Member) →
    joined (map (imports packages) members) ≡ flat_map (imports packages) members
joined-map packages [] = refl
joined-map packages (member ∷ members) = ap (λ more. imports packages member ++ more) (joined-map packages members)

-- a front that is whole solves the equation
pub front-solves : (packages : Packages) (first : List ModuleName) (members : List Member) →
    Front packages first members → length (known packages first members) ≤ length members →
    Solves packages first (map (λ (member : Member). member.name) members)
front-solves packages first members front whole = record {
  imported = map (imports packages) members;
  each = imports-are packages members (front-members packages first members front).0;
  same = front-names packages first members front
      ∙ (take_all (length members) (known packages first members) whole
      ∙ ap (λ all. firsts same_name (first ++ all)) (sym (joined-map packages members)));
}

-- tokens have one reading, at each height
abbrev pub OneReading : Type 0
OneReading = (most : ℕ) → 1 ≤ most → (tokens : List Token) → OneModuleReading most tokens

abbrev tree_in : ModuleTree → ModuleReading → ModuleTree
tree_in other (a_module tree) = tree
tree_in other _ = other

trees-agree : OneReading → (tokens : List Token) (one other : ModuleTree) → IsModuleTree most_height tokens one →
    IsModuleTree most_height tokens other → one ≡ other
trees-agree once tokens one other has too =
    let readings = once most_height (omega arith) tokens in
    ap (tree_in one) (readings.only (a_module one) has ∙ sym (readings.only (a_module other) too))

-- a name has one module at most
pub member-one : OneReading → (packages : Packages) (one other : Member) → IsMember packages one →
    IsMember packages other → one.name ≡ other.name → one ≡ other
member-one once packages one other is too same =
    let text : one.text ≡ other.text =
    same_Some one.text other.text (sym is.found ∙ (ap (text_of packages) same ∙ too.found)) in
    let tokens : too.accepted.tokens ≡ is.accepted.tokens =
    (lexing_is_one other.text).one_list too.accepted.tokens is.accepted.tokens too.accepted.has
    (subst (λ bytes. HasTokens bytes is.accepted.tokens) text is.accepted.has) in
    let tree : one.tree ≡ other.tree =
    trees-agree once is.accepted.tokens one.tree other.tree is.accepted.reads
    (subst (λ tokens. IsModuleTree most_height tokens other.tree) tokens too.accepted.reads) in
    λ i. record { name = same i; text = text i; tree = tree i }

-- what a module imports is determined
pub imports-one : OneReading → (packages : Packages) (member : Member) (names : List ModuleName) →
    IsMember packages member → Imports packages member.name names → names ≡ imports packages member
imports-one once packages member names is (inl (other, other_is, same, imported)) =
    imported ∙ ap (imports packages) (member-one once packages other member other_is is same)
imports-one once packages member names is (inr (none, nothing)) = absurd (none member is refl)

record ZipAt {A B : Type 0} (R : A → B → Type 0) (x : A) (ys : List B) (n : ℕ) : Type 0 where
  y : B
  at : slice_get ys n ≡ Some y
  holds : R x y

zip-at : {A B : Type 0} (R : A → B → Type 0) (xs : List A) (ys : List B) (n : ℕ) (x : A) → AllZip R xs ys →
    slice_get xs n ≡ Some x → ZipAt R x ys n
zip-at R [] ys n x h at = absurd (none-some x at)
zip-at R (own ∷ xs) [] n x h at = absurd h
zip-at R (own ∷ xs) (y ∷ ys) zero x h at =
    record { y = y; at = refl; holds = subst (λ x. R x y) (same_Some own x at) h.0 }
zip-at R (own ∷ xs) (y ∷ ys) (suc n) x h at =
    let later = zip-at R xs ys n x h.1 at in
    record { y = later.y; at = later.at; holds = later.holds }

joined-append : (one other : List (List ModuleName)) → joined (one ++ other) ≡ joined one ++ joined other
joined-append one other = flat_map-append (λ names. names) one other

-- a front comes first in each list that solves the equation
pub record Begins (packages : Packages) (names : List ModuleName) (imported : List (List ModuleName))
    (members : List Member) : Type 0 where
  pub names_are : take (length members) names ≡ member_names members
  pub imported_are : take (length members) imported ≡ map (imports packages) members

-- what is known from a front comes first in it too
pub begins-known : (packages : Packages) (first names : List ModuleName) (imported : List (List ModuleName))
    (members : List Member) → names ≡ firsts same_name (first ++ joined imported) →
    take (length members) imported ≡ map (imports packages) members → Behind (known packages first members) names
begins-known packages first names imported members same front =
    let n = length members in
    let parts : joined imported ≡ flat_map (imports packages) members ++ joined (drop n imported) =
    ap joined (sym (take-append-drop n imported))
    ∙ (joined-append (take n imported) (drop n imported)
    ∙ ap (λ front. front ++ joined (drop n imported)) (ap joined front ∙ joined-map packages members)) in
    let behind = known-behind packages first members (joined (drop n imported)) in
    record {
      more = behind.more;
      is = same ∙ (ap (λ all. firsts same_name (first ++ all)) parts
          ∙ (ap (firsts same_name)
          (sym (append_assoc first (flat_map (imports packages) members) (joined (drop n imported))))
          ∙ behind.is));
    }

pub front-begins : OneReading → (packages : Packages) (first names : List ModuleName)
    (imported : List (List ModuleName)) →
    AllZip (Imports packages) names imported → names ≡ firsts same_name (first ++ joined imported) →
    (members : List Member) → Front packages first members → Begins packages names imported members
front-begins once packages first names imported each same _ closure.none =
    record { names_are = refl; imported_are = refl }
front-begins once packages first names imported each same _ (closure.more members member front reached is top) =
    let before = front-begins once packages first names imported each same members front in
    let n = length members in
    let behind = begins-known packages first names imported members same before.imported_are in
    let at : slice_get names n ≡ Some member.name =
    ap (λ all. slice_get all n) behind.is
    ∙ slice_get-append (known packages first members) behind.more n member.name reached in
    let own = zip-at (Imports packages) names imported n member.name each at in
    let own_is = imports-one once packages member own.y is own.holds in
    let long : length (members ++ member ∷ []) ≡ n + 1 = omega (arith, length_push members member) in
    record {
      names_are = ap (λ m. take m names) long
          ∙ (take-next names n member.name at
          ∙ (ap (λ front. front ++ member.name ∷ []) before.names_are
          ∙ sym (map-append (λ (member : Member). member.name) members (member ∷ []))));
      imported_are = ap (λ m. take m imported) long
          ∙ (take-next imported n own.y own.at
          ∙ (λ i. before.imported_are i ++ own_is i ∷ [])
          ∙ sym (map-append (imports packages) members (member ∷ [])));
    }

-- a front that is whole is the closure
pub front-closed : OneReading → (packages : Packages) (first : List ModuleName) (members : List Member) →
    Front packages first members → length (known packages first members) ≤ length members →
    IsClosure packages first (map (λ (member : Member). member.name) members)
front-closed once packages first members front whole = record {
  solves = front-solves packages first members front whole;
  shortest = λ other solves.
      let begins = front-begins once packages first other solves.imported solves.each solves.same members front in (
        drop (length members) other,
        sym (take-append-drop (length members) other)
            ∙ ap (λ front. front ++ drop (length members) other) begins.names_are,
      );
}
