-- What a word of each sort is.
use Rattle.std.specs.Prelude.{◌≡◌, true, [], ◌∷◌, Some, codes}
use Rattle.mdl_lexer.specs.declared.token.Kind.{Kind}
use Rattle.mdl_lexer.specs.declared.token.Kind.TheVariants as kind
use Rattle.mdl_lexer.specs.Kinds.{mark_word, name_word}
use Rattle.mdl_syntax.specs.Words.{literal_word, frequency_words}
use Rattle.mdl_syntax.specs.Levels.{is_unary, binary_level, is_type_word}
use Rattle.expression_grammar.specs.Languages.{left_out_text}
use Rattle.expression_grammar.specs.inside.Machine.{Sort}
use Rattle.expression_grammar.specs.inside.Machine.{identifier, integer, other_literal, type_word, unary_operator}
use Rattle.expression_grammar.specs.inside.Machine.{either_operator, binary_operator, question, colon, double_colon}
use Rattle.expression_grammar.specs.inside.Machine.{opening, closing, opening_bracket, closing_bracket}
use Rattle.expression_grammar.specs.inside.Machine.{opening_brace, closing_brace, comma, semicolon, dot, equals}
use Rattle.expression_grammar.specs.inside.Machine.{let_word, in_word, frequency_word, left_out, unused}
use Rattle.expression_grammar.specs.inside.Machine.{mdl_word, import_word, using_word, module_word, export_word}
use Rattle.expression_grammar.specs.inside.Machine.{struct_word, enum_word, annotation_word}

-- the word is one of this sort
abbrev pub IsOf : Sort → Kind → Type 0
IsOf (identifier text) word = word ≡ kind.Word text
IsOf (integer value) word = word ≡ kind.Int value
IsOf (other_literal lit) word = word ≡ literal_word lit
IsOf (type_word number) word = (word ≡ kind.Reserved number) × (is_type_word number ≡ true)
IsOf (unary_operator op) word = (word ≡ kind.Mark op) × (is_unary op ≡ true)
IsOf (either_operator op level) word =
    (word ≡ kind.Mark op) × (is_unary op ≡ true) × (binary_level op ≡ Some level)
IsOf (binary_operator op level) word = (word ≡ kind.Mark op) × (binary_level op ≡ Some level)
IsOf question word = word ≡ mark_word (codes "?")
IsOf colon word = word ≡ mark_word (codes ":")
IsOf double_colon word = word ≡ mark_word (codes "::")
IsOf opening word = word ≡ mark_word (codes "(")
IsOf closing word = word ≡ mark_word (codes ")")
IsOf opening_bracket word = word ≡ mark_word (codes "[")
IsOf closing_bracket word = word ≡ mark_word (codes "]")
IsOf opening_brace word = word ≡ mark_word (codes "{")
IsOf closing_brace word = word ≡ mark_word (codes "}")
IsOf comma word = word ≡ mark_word (codes ",")
IsOf semicolon word = word ≡ mark_word (codes ";")
IsOf dot word = word ≡ mark_word (codes ".")
IsOf equals word = word ≡ mark_word (codes "=")
IsOf let_word word = word ≡ name_word (codes "let")
IsOf in_word word = word ≡ name_word (codes "in")
IsOf (frequency_word freq) word = frequency_words (Some freq) ≡ word ∷ []
IsOf mdl_word word = word ≡ name_word (codes "mdl")
IsOf import_word word = word ≡ name_word (codes "import")
IsOf using_word word = word ≡ name_word (codes "using")
IsOf module_word word = word ≡ name_word (codes "module")
IsOf export_word word = word ≡ name_word (codes "export")
IsOf struct_word word = word ≡ name_word (codes "struct")
IsOf enum_word word = word ≡ name_word (codes "enum")
IsOf annotation_word word = word ≡ name_word (codes "annotation")
IsOf (left_out text) word = left_out_text word ≡ Some text
IsOf unused word = Unit {0}
