-- Which tokens are left out of modules, behind which others, with the texts of the forms.
use Rattle.std.specs.Prelude.{◌≡◌, ◌⊎◌, ℕ, List, [], ◌∷◌, ◌++◌, Some, codes, length}
use Rattle.mdl_lexer.specs.declared.token.Token.{Token}
use Rattle.mdl_lexer.specs.declared.token.Kind.TheVariants as kind
use Rattle.expression_grammar.specs.Languages.{left_out_text, OpensIn}
use Rattle.module_grammar.specs.ModuleFaults.{WritesModule}
use Rattle.expression_grammar.specs.Readings.{kinds}
use Rattle.expression_grammar.specs.inside.Sound.{IsMark, IsReserved}

-- behind the tokens before, the token is left out
pub data LeftOutBy (before : List Token) (token : Token) : List ℕ → Type 0 where
  by_word : (text : List ℕ) → left_out_text token.kind ≡ Some text → LeftOutBy before token text
  by_string : (front : List Token) (word : Token) (text : List ℕ) → before ≡ front ++ word ∷ [] →
      (IsReserved word (codes "import")) ⊎ (IsReserved word (codes "using")) →
      token.kind ≡ kind.Str text → LeftOutBy before token (codes "string-name")
  by_re_export : (front : List Token) (word : Token) → before ≡ front ++ word ∷ [] →
      IsReserved word (codes "export") → IsReserved token (codes "using") →
      LeftOutBy before token (codes "re-export")
  by_alias : (front : List Token) (word name : Token) (text : List ℕ) →
      before ≡ front ++ word ∷ name ∷ [] → IsReserved word (codes "using") →
      name.kind ≡ kind.Word text → IsMark token (codes "=") → LeftOutBy before token (codes "alias")

-- a token of these that is left out, at this place
pub record FormStands (tokens : List Token) (at : ℕ) (text : List ℕ) : Type 0 where
  pub before : List Token
  pub token : Token
  pub rest : List Token
  pub are : tokens ≡ before ++ token ∷ rest
  pub long : length before ≡ at
  pub form : LeftOutBy before token text
  pub opens : (most : ℕ) × OpensIn WritesModule (kinds before) most
