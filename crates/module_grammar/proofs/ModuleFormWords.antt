-- By its word, a token that is left out of modules is left out for one reason.
use Rattle.std.proofs.Common.{◌≡◌, ◌∙◌, sym, ap, refl, ℕ, ◌==◌, List, Option, Some, None}
use Rattle.std.proofs.Common.{codes, if◌then◌else◌}
use Rattle.std.proofs.lemmas.Option.{same_Some, none-some}
use Rattle.mdl_lexer.specs.Kinds.{mark_word}
use Rattle.mdl_lexer.specs.declared.token.Kind.{Kind}
use Rattle.mdl_lexer.specs.declared.token.Kind.TheVariants as kind
use Rattle.mdl_lexer.specs.declared.token.Token.{Token}
use Rattle.mdl_syntax.specs.Levels.{mark_number, reserved_number}
use Rattle.expression_grammar.specs.Languages.{left_out_text}
use Rattle.expression_grammar.specs.inside.Sound.{IsMark}
use Rattle.module_grammar.specs.inside.ModuleForms.{LeftOutBy, by_word, by_string, by_re_export}
use Rattle.module_grammar.specs.inside.ModuleForms.{by_alias}

-- the text of the form that the word may end, or none
abbrev text_or : Option (List ℕ) → Kind → Option (List ℕ)
text_or (Some text) word = Some text
text_or None (kind.Str text) = Some (codes "string-name")
text_or None (kind.Reserved number) =
    if number == reserved_number (codes "using") then Some (codes "re-export") else None
text_or None (kind.Mark number) =
    if number == mark_number (codes "=") then Some (codes "alias") else None
text_or None word = None

abbrev form_text : Kind → Option (List ℕ)
form_text word = text_or (left_out_text word) word

form_text_is : (before : List Token) (token : Token) (text : List ℕ) →
    LeftOutBy before token text → form_text token.kind ≡ Some text
form_text_is before token text (by_word _ is) = ap (λ found. text_or found token.kind) is
form_text_is before token text (by_string front word own are one is) = ap form_text is
form_text_is before token text (by_re_export front word are one is) = ap form_text is.is
form_text_is before token text (by_alias front word name own are one named is) =
    ap form_text is.is

-- a token is left out for one reason
pub forms_once : (before : List Token) (token : Token) (one other : List ℕ) →
    LeftOutBy before token one → LeftOutBy before token other → one ≡ other
forms_once before token one other is also =
    same_Some one other (sym (form_text_is before token one is)
    ∙ form_text_is before token other also)

no_form : (before : List Token) (token : Token) (text : List ℕ) → LeftOutBy before token text →
    (word : Kind) → token.kind ≡ word → form_text word ≡ None → ⊥
no_form before token text form word is none =
    none-some text (sym none ∙ (ap form_text (sym is) ∙ form_text_is before token text form))

-- `<`, `{` and real numbers are no such tokens
pub form_no_less : (before : List Token) (token : Token) (text : List ℕ) →
    LeftOutBy before token text → IsMark token (codes "<") → ⊥
form_no_less before token text form less =
    no_form before token text form (mark_word (codes "<")) less.is refl

pub form_no_brace : (before : List Token) (token : Token) (text : List ℕ) →
    LeftOutBy before token text → IsMark token (codes "{") → ⊥
form_no_brace before token text form brace =
    no_form before token text form (mark_word (codes "{")) brace.is refl
