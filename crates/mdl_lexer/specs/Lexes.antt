-- The tokens of a module's bytes, and why there are none.
use Rattle.std.specs.Prelude.{◌≡◌, ◌≢◌, ℕ, ◌≤◌, ◌<◌, ◌==◌, if◌then◌else◌}
use Rattle.std.specs.Prelude.{List, [], ◌∷◌, length, take, drop, chars, IsUtf8}
use Rattle.std.specs.List.{AllByRecursion}
use Rattle.std.specs.Str.{StartsWithNoChar}
use Rattle.mdl_lexer.specs.declared.token.Kind.{Kind}
use Rattle.mdl_lexer.specs.declared.token.Kind.TheVariants as kind
use Rattle.mdl_lexer.specs.declared.token.Token.{Token}
use Rattle.mdl_lexer.specs.declared.token.LexFault.{LexFault}
use Rattle.mdl_lexer.specs.declared.token.LexFault.TheVariants as fault
use Rattle.mdl_lexer.specs.Characters.{byte_order_mark}
use Rattle.mdl_lexer.specs.Steps.{StepsOver, Reads, Chain, place_in}

-- a byte order mark at the start is a separator
abbrev pub behind_mark : List ℕ → List ℕ
behind_mark [] = []
behind_mark (char ∷ text) = if char == byte_order_mark then text else char ∷ text

-- the bytes are text, and a chain leads over these tokens to a rest
pub record Lexes (bytes : List ℕ) (tokens : List Token) (rest : List ℕ) : Type 0 where
  pub is_text : IsUtf8 bytes
  pub chain : Chain StepsOver Reads (length bytes) (behind_mark (chars bytes)) tokens rest

-- the largest integer
abbrev pub most_integer : ℕ
most_integer = 4294967295

-- a word that isn't an integer past it
abbrev pub IsSmall : Kind → Type 0
IsSmall (kind.Int value) = value ≤ most_integer
IsSmall _ = Unit {0}

abbrev pub AreSmall : List Token → Type 0
AreSmall tokens = AllByRecursion (λ (token : Token). IsSmall token.kind) tokens

-- the tokens are those of the bytes
pub record HasTokens (bytes : List ℕ) (tokens : List Token) : Type 0 where
  pub lexes : Lexes bytes tokens []
  pub small : AreSmall tokens

-- the chain of small words ends before this rest
pub record EndsBefore (bytes rest : List ℕ) (at : ℕ) : Type 0 where
  pub tokens : List Token
  pub lexes : Lexes bytes tokens rest
  pub small : AreSmall tokens
  pub place : at ≡ place_in (length bytes) rest

-- the first byte that starts no character
pub record StartsNone (bytes : List ℕ) (at : ℕ) : Type 0 where
  pub within : at < length bytes
  pub front : IsUtf8 (take at bytes)
  pub none : StartsWithNoChar (drop at bytes)

-- nothing begins this text
pub record NothingBegins (text : List ℕ) : Type 0 where
  pub some : text ≢ []
  pub no_separator : (rest : List ℕ) → StepsOver text rest → ⊥
  pub no_word : (what : Kind) (rest : List ℕ) → Reads text what rest → ⊥

-- an integer that is too large begins this text
pub record LargeBegins (text : List ℕ) : Type 0 where
  pub value : ℕ
  pub rest : List ℕ
  pub reads : Reads text (kind.Int value) rest
  pub large : most_integer < value

-- the fault stands in the bytes
abbrev pub HasFault : List ℕ → LexFault → Type 0
HasFault bytes (fault.NotUtf8 at) = StartsNone bytes at
HasFault bytes (fault.BadToken at) = (rest : List ℕ) × EndsBefore bytes rest at × NothingBegins rest
HasFault bytes (fault.IntRange at) = (rest : List ℕ) × EndsBefore bytes rest at × LargeBegins rest
HasFault bytes fault.OutOfMemory = Unit {0}
