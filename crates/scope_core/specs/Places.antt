-- The places of faults among the words of their modules.
use Rattle.std.specs.Prelude.{◌≡◌, ⊤, ℕ, ◌==◌, ◌||◌, Bool, true, List, Some, slice_get}
use Rattle.std.specs.List.{list_any}
use Rattle.mdl_lexer.specs.declared.token.Token.{Token}
use Rattle.mdl_syntax.specs.PlacedModules.{placed_module}
use Rattle.module_set.specs.declared.set.ModuleSet.{ModuleSet}
use Rattle.module_set.specs.Members.{Member, members_of}
use Rattle.scope_core.specs.declared.fault.ScopeFault.{ScopeFault}
use Rattle.scope_core.specs.declared.fault.ScopeFault.TheVariants as fault

-- the start of a text, or of one of its tokens
abbrev pub is_place_of : List Token → ℕ → Bool
is_place_of tokens at = (at == 0) || list_any (λ (token : Token). token.at == at) tokens

-- there is such a module, and it has a word at this place, whatever the words are from which its tree has its places
pub record HasPlace (members : List Member) (m at : ℕ) : Type 0 where
  pub member : Member
  pub is : slice_get members m ≡ Some member
  pub places : (tokens : List Token) → placed_module member.tree tokens ≡ member.tree → is_place_of tokens at ≡ true

abbrev pub HasPlaces : List Member → ScopeFault → Type 0
HasPlaces members (fault.Twice m at) = HasPlace members m at
HasPlaces members (fault.Unknown m at) = HasPlace members m at
HasPlaces members (fault.NotExported m at) = HasPlace members m at
HasPlaces members (fault.Clash m at) = HasPlace members m at
HasPlaces members fault.OutOfMemory = ⊤

-- the fault of a name stands where the name does, in a module of the set
abbrev pub IsAtName : ModuleSet → ScopeFault → Type 0
IsAtName set one = HasPlaces (members_of set) one
