-- Faults of names in a set that is loaded.
use Rattle.std.proofs.Common.{◌≡◌, ◌≤◌, ◌<◌, ◌∙◌, ℕ, zero, suc, Bool, true, false, ◌==◌, ◌||◌, List, [], ◌∷◌, Some}
use Rattle.std.proofs.Common.{length, map, take, chars, slice_get, get_or, refl, sym, ap, subst, arith, rules}
use Rattle.std.specs.Prelude.{IfOk, Result, Ok, Err}
use Rattle.std.specs.List.{AllByRecursion, list_any}
use Rattle.std.specs.declared.vec.Vec.{Vec}
use Rattle.std.specs.declared.alloc.Global.{Global}
use Rattle.std.specs.declared.alloc.AllocError.{AllocError}
use Rattle.std.proofs.lemmas.Bool.{eqb-true, false≢true}
use Rattle.std.proofs.lemmas.Option.{same_Some, none-some}
use Rattle.io_edge.specs.Places.{line_behind, column_behind}
use Rattle.io_edge.specs.declared.place.Place.{Place}
use Rattle.mdl_lexer.specs.declared.token.Token.{Token}
use Rattle.mdl_lexer.specs.Places.{IsPlace}
use Rattle.mdl_lexer.proofs.PlaceLaws.{token_places}
use Rattle.mdl_syntax.specs.declared.modules.Module.{Module}
use Rattle.module_set.specs.declared.module_name.ModuleName.{ModuleName}
use Rattle.module_set.specs.declared.set.ModuleSet.{ModuleSet}
use Rattle.module_set.specs.Members.{Member, members_from, members_of}
use Rattle.module_set.specs.ModuleSets.{IsRead, IsModuleSet}
use Rattle.scope_core.specs.declared.fault.ScopeFault.{ScopeFault}
use Rattle.scope_core.specs.declared.fault.ScopeFault.TheVariants as scoping
use Rattle.scope_core.specs.ScopeFaults.{scope_faults, fault_key, IsLeast, Fails}
use Rattle.scope_core.specs.Places.{is_place_of, HasPlace}
use Rattle.module_loader.specs.Files.{most_module}
use Rattle.module_loader.specs.TextFaults.{place_in}
use Rattle.mdl_cli.specs.declared.answer.Answer.{Answer}
use Rattle.mdl_cli.specs.declared.answer.Answer.TheVariants as answer
use Rattle.mdl_cli.specs.Lines.{scope_line}
use Rattle.mdl_cli.specs.Outcome.{names_in, HasLineAt}
use Rattle.mdl_cli.specs.inside.Delivery.{AreShort, Told, TellsAt, TellsScope, TellsScopes}

names-from : (names : List ModuleName) (modules : List Module) (texts : List (List ℕ)) →
    length modules ≡ length names → length texts ≡ length names →
    map (λ (member : Member). member.name) (members_from names modules texts) ≡ names
names-from [] modules texts all each = refl
names-from (name ∷ names) [] texts all each = absurd (omega (arith, all))
names-from (name ∷ names) (one ∷ modules) [] all each = absurd (omega (arith, each))
names-from (name ∷ names) (one ∷ modules) (text ∷ texts) all each =
    ap (λ more. name ∷ more) (names-from names modules texts (omega (arith, all)) (omega (arith, each)))

-- the names of a set's modules are its names
pub names-are : (set : ModuleSet) → IsModuleSet set → names_in (members_of set) ≡ set.names
names-are set is = names-from set.names set.modules set.texts is.whole.0 is.whole.1

-- a module of a set has its name and its text at its index
pub member-at : (names : List ModuleName) (modules : List Module) (texts : List (List ℕ)) (m : ℕ) (member : Member) →
    slice_get (members_from names modules texts) m ≡ Some member →
    (slice_get names m ≡ Some member.name) × (slice_get texts m ≡ Some member.text)
member-at [] modules texts m member at = absurd (none-some member at)
member-at (name ∷ names) [] texts m member at = absurd (none-some member at)
member-at (name ∷ names) (one ∷ modules) [] m member at = absurd (none-some member at)
member-at (name ∷ names) (one ∷ modules) (text ∷ texts) zero member at = (
  ap (λ (member : Member). Some member.name) (same_Some _ member at),
  ap (λ (member : Member). Some member.text) (same_Some _ member at),
)
member-at (name ∷ names) (one ∷ modules) (text ∷ texts) (suc m) member at =
    member-at names modules texts m member at

pub at-within : {A : Type 0} (xs : List A) (i : ℕ) (a : A) → slice_get xs i ≡ Some a → i < length xs
at-within [] i a at = absurd (none-some a at)
at-within (x ∷ xs) zero a at = omega arith
at-within (x ∷ xs) (suc i) a at =
    let less = at-within xs i a at in
    omega (arith, less)

-- what an index reads is what stands there
pub at-read : {A : Type 0} (xs : List A) (i : ℕ) (a read : A) → slice_get xs i ≡ Some a → read ≡ get_or xs i read →
    read ≡ a
at-read [] i a read at is = absurd (none-some a at)
at-read (x ∷ xs) zero a read at is = is ∙ same_Some x a at
at-read (x ∷ xs) (suc i) a read at is = at-read xs i a read at is

pub each-at : {A : Type 0} (P : A → Type 0) (xs : List A) (i : ℕ) (a : A) → AllByRecursion P xs →
    slice_get xs i ≡ Some a → P a
each-at P [] i a all at = absurd (none-some a at)
each-at P (x ∷ xs) zero a all at = subst P (same_Some x a at) all.0
each-at P (x ∷ xs) (suc i) a all at = each-at P xs i a all.1 at

-- a place of tokens is a place of the text
token-place : (bytes : List ℕ) (tokens : List Token) (at : ℕ) →
    AllByRecursion (λ (token : Token). IsPlace bytes token.at) tokens →
    list_any (λ (token : Token). token.at == at) tokens ≡ true → IsPlace bytes at
token-place bytes [] at all is = absurd (false≢true is)
token-place bytes (token ∷ tokens) at all is = by (token-place bytes tokens at all.1) (token.at == at) refl is
  where
    by : (list_any (λ (token : Token). token.at == at) tokens ≡ true → IsPlace bytes at) → (b : Bool) →
        (token.at == at) ≡ b → (b || list_any (λ (token : Token). token.at == at) tokens) ≡ true → IsPlace bytes at
    by later true same is = subst (IsPlace bytes) (eqb-true token.at at same) all.0
    by later false same is = later is

start-place : (bytes : List ℕ) → IsPlace bytes 0
start-place bytes = record { within = omega arith; front = search rules }

place-of : (bytes : List ℕ) (tokens : List Token) (at : ℕ) →
    AllByRecursion (λ (token : Token). IsPlace bytes token.at) tokens → is_place_of tokens at ≡ true →
    IsPlace bytes at
place-of bytes tokens at all is = by (at == 0) refl is
  where
    by : (b : Bool) → (at == 0) ≡ b → (b || list_any (λ (token : Token). token.at == at) tokens) ≡ true →
        IsPlace bytes at
    by true same is = subst (IsPlace bytes) (sym (eqb-true at 0 same)) (start-place bytes)
    by false same is = token-place bytes tokens at all is

-- what a fault's place says of the set
pub record Stands (set : ModuleSet) (m at : ℕ) (member : Member) : Type 0 where
  pub is : slice_get (members_of set) m ≡ Some member
  pub name : slice_get set.names m ≡ Some member.name
  pub text : slice_get set.texts m ≡ Some member.text
  pub place : IsPlace member.text at
  pub short : length member.text ≤ most_module

pub stands-at : (set : ModuleSet) (m at : ℕ) → AreShort set → IsModuleSet set →
    (place : HasPlace (members_of set) m at) → Stands set m at place.member
stands-at set m at short is place =
    let member = place.member in
    let lists = member-at set.names set.modules set.texts m member place.is in
    let read : IsRead member.text member.tree =
    each-at (λ (member : Member). IsRead member.text member.tree) (members_of set) m member is.read place.is in
    record {
      is = place.is;
      name = lists.0;
      text = lists.1;
      place = place-of member.text read.tokens at (token_places member.text read.tokens read.has)
          (place.places read.tokens read.places);
      short = each-at (λ text. length text ≤ most_module) set.texts m member.text short lists.1;
    }

place-is : (bytes : List ℕ) (at : ℕ) (place : Place) → place.line ≡ line_behind (chars (take at bytes)) →
    place.column ≡ column_behind (chars (take at bytes)) → place ≡ place_in bytes at
place-is bytes at place line column = λ k. record { line = line k; column = column k }

line-at : (members : List Member) (fault : ScopeFault) (m at : ℕ) (member : Member) (name : ModuleName) (place : Place)
    (result : Result (Vec ℕ Global) AllocError) → slice_get members m ≡ Some member → name ≡ member.name →
    place ≡ place_in member.text at → IfOk result (λ line. line.items ≡ scope_line name fault place) →
    IfOk result (λ line. HasLineAt members fault m at line.items)
line-at members fault m at member name place (Ok line) is name_is place_is told = record {
  member = member;
  is = is;
  line_is = told ∙ (λ k. scope_line (name_is k) fault (place_is k));
}
line-at members fault m at member name place (Err error) is name_is place_is told = told

-- the line of a fault that stands in the set
pub stands-line : (set : ModuleSet) (fault : ScopeFault) (m at : ℕ) (member : Member) (name : ModuleName)
    (bytes : List ℕ) (place : Place) (result : Result (Vec ℕ Global) AllocError) → Stands set m at member →
    name ≡ member.name → bytes ≡ member.text → place.line ≡ line_behind (chars (take at bytes)) →
    place.column ≡ column_behind (chars (take at bytes)) →
    IfOk result (λ line. line.items ≡ scope_line name fault place) →
    IfOk result (λ line. HasLineAt (members_of set) fault m at line.items)
stands-line set fault m at member name bytes place result stands name_is text_is line column told =
    line-at (members_of set) fault m at member name place result stands.is name_is
    (place-is bytes at place line column ∙ ap (λ text. place_in text at) text_is) told

-- the line of a fault is told, if there was memory for it
pub told-at : (members : List Member) (fault : ScopeFault) (m at : ℕ) (result : Result (Vec ℕ Global) AllocError)
    (found : Answer) → IfOk result (λ line. HasLineAt members fault m at line.items) → Told result found →
    TellsAt members fault m at found
told-at members fault m at (Ok line) found is told = subst (TellsAt members fault m at) (sym told) is
told-at members fault m at (Err error) found is told = subst (TellsAt members fault m at) (sym told) tt

scopes-told : (members : List Member) (fault : ScopeFault) (found : Answer) →
    IsLeast (scope_faults (names_in members) members) fault →
    TellsAt members fault (fault_key fault).0 (fault_key fault).1 found → TellsScopes members found
scopes-told members fault (answer.Refused line) least told = record { fault = fault; least = least; told = told }
scopes-told members fault answer.OutOfMemory least told = tt
scopes-told members fault (answer.Text text) least told = told
scopes-told members fault answer.NotBuilt least told = told
scopes-told members fault answer.Usage least told = told
scopes-told members fault answer.ReadFault least told = told

-- the first fault of names is told
pub scope-told : (members : List Member) (fault : ScopeFault) (found : Answer) →
    Fails (scope_faults (names_in members) members) fault → TellsScope members fault found →
    TellsScopes members found
scope-told members (scoping.Twice m at) found fails told = scopes-told members (scoping.Twice m at) found fails told
scope-told members (scoping.Unknown m at) found fails told =
    scopes-told members (scoping.Unknown m at) found fails told
scope-told members (scoping.NotExported m at) found fails told =
    scopes-told members (scoping.NotExported m at) found fails told
scope-told members (scoping.Clash m at) found fails told = scopes-told members (scoping.Clash m at) found fails told
scope-told members scoping.OutOfMemory found fails told = subst (TellsScopes members) (sym told) tt
