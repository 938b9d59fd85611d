-- Chains by the functions that read separators and words.
use Rattle.std.specs.Prelude.{◌≡◌, ◌≢◌, ℕ, List, [], Some, None, length, chars}
use Rattle.mdl_lexer.specs.declared.token.Kind.{Kind}
use Rattle.mdl_lexer.specs.declared.token.Token.{Token}
use Rattle.mdl_lexer.specs.declared.token.LexFault.{LexFault}
use Rattle.mdl_lexer.specs.declared.token.LexFault.TheVariants as fault
use Rattle.mdl_lexer.specs.Steps.{Chain, place_in}
use Rattle.mdl_lexer.specs.Lexes.{behind_mark}
use Rattle.mdl_lexer.specs.inside.Separators.{behind_separator}
use Rattle.mdl_lexer.specs.inside.Tokens.{word_in, Read, NoWord, PastRange, Found}

abbrev pub SkipsTo : List ℕ → List ℕ → Type 0
SkipsTo text rest = behind_separator text ≡ Some rest

-- a word is read where no separator stands
pub record FindsWord (text : List ℕ) (what : Kind) (rest : List ℕ) : Type 0 where
  pub no_separator : behind_separator text ≡ None
  pub found : word_in text ≡ Found what rest

abbrev pub Reaches : List ℕ → List Token → List ℕ → Type 0
Reaches bytes tokens rest = Chain SkipsTo FindsWord (length bytes) (behind_mark (chars bytes)) tokens rest

-- reading stops at a place, for this cause
pub record StopsFor (bytes : List ℕ) (at : ℕ) (cause : Read) : Type 0 where
  pub tokens : List Token
  pub rest : List ℕ
  pub reaches : Reaches bytes tokens rest
  pub place : at ≡ place_in (length bytes) rest
  pub some : rest ≢ []
  pub no_separator : behind_separator rest ≡ None
  pub read : word_in rest ≡ cause

abbrev pub Stopped : List ℕ → LexFault → Type 0
Stopped bytes (fault.NotUtf8 at) = ⊥
Stopped bytes (fault.BadToken at) = StopsFor bytes at NoWord
Stopped bytes (fault.IntRange at) = StopsFor bytes at PastRange
Stopped bytes fault.OutOfMemory = Unit {0}
