-- What values of the code stand for in the definitions of first texts.
use Rattle.std.specs.Prelude.{ℕ, List}
use Rattle.std.specs.Borrow.{Bor}
use Rattle.type_rules.specs.Terms.{Term}
use Rattle.mdl_lexer.specs.declared.token.Kind.{Kind}
use Rattle.mdl_lexer.specs.declared.token.Kind.TheVariants as kind
use Rattle.mdl_lexer.specs.declared.token.Token.{Token}
use Rattle.mdl_cli.specs.declared.words.Fixed.{Fixed}
use Rattle.mdl_cli.specs.declared.words.Fixed.TheVariants as fixed
use Rattle.mdl_cli.specs.declared.first_text.FirstText.{FirstText}
use Rattle.mdl_cli.specs.Words.{kinds_of}
use Rattle.mdl_cli.specs.inside.Trees.{term_of}

abbrev pub fixed_word : Fixed → Kind
fixed_word (fixed.Reserved number) = kind.Reserved number
fixed_word (fixed.Mark number) = kind.Mark number

-- the words that are left
abbrev pub words_left : Bor (List Token) → List Kind
words_left tokens = kinds_of tokens.now

-- a name and the words that are left
abbrev pub name_found : Bor (List ℕ) × Bor (List Token) → List ℕ × List Kind
name_found found = (found.0.now, kinds_of found.1.now)

abbrev pub first_found : FirstText → List ℕ × Term
first_found first = (first.name.now, term_of first.tree)
