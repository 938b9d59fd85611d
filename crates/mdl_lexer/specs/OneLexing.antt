-- From each place there is one step at most, and so the definitions of tokens and of faults fit together.
use Rattle.std.specs.Prelude.{◌≡◌, ◌≢◌, ◌⊎◌, ℕ, List}
use Rattle.mdl_lexer.specs.declared.token.Token.{Token}
use Rattle.mdl_lexer.specs.declared.token.LexFault.{LexFault}
use Rattle.mdl_lexer.specs.declared.token.LexFault.TheVariants as fault
use Rattle.mdl_lexer.specs.declared.token.Kind.{Kind}
use Rattle.mdl_lexer.specs.Steps.{StepsOver, Reads}
use Rattle.mdl_lexer.specs.Lexes.{HasTokens, HasFault}

-- a text begins with one separator at most, or with one word
pub record OneStep (text : List ℕ) : Type 0 where
  pub one_separator : (rest other : List ℕ) → StepsOver text rest → StepsOver text other → rest ≡ other
  pub one_word : (what other : Kind) (rest behind : List ℕ) → Reads text what rest → Reads text other behind →
      (what ≡ other) × (rest ≡ behind)
  pub not_both : (what : Kind) (rest behind : List ℕ) → StepsOver text rest → Reads text what behind → ⊥

-- a fault that stands in the bytes, and not a want of memory
abbrev pub IsFault : List ℕ → LexFault → Type 0
IsFault bytes found = (found ≢ fault.OutOfMemory) × HasFault bytes found

-- bytes have one list of tokens and no fault, or one fault and no tokens
pub record OneLexing (bytes : List ℕ) : Type 0 where
  pub stands : ((tokens : List Token) × HasTokens bytes tokens) ⊎ ((found : LexFault) × IsFault bytes found)
  pub one_list : (a b : List Token) → HasTokens bytes a → HasTokens bytes b → a ≡ b
  pub one_fault : (a b : LexFault) → IsFault bytes a → IsFault bytes b → a ≡ b
  pub not_both : (tokens : List Token) (found : LexFault) → HasTokens bytes tokens → IsFault bytes found → ⊥
