-- The reader's sorts of words as the machine's.
use Rattle.std.specs.Prelude.{Option, Some, None}
use Rattle.mdl_syntax.specs.declared.expressions.Lit.TheVariants as lit
use Rattle.expression_grammar.specs.declared.sort.Sort as held
use Rattle.expression_grammar.specs.declared.sort.Sort.TheVariants as sort
use Rattle.expression_grammar.specs.inside.Machine.{Sort}
use Rattle.expression_grammar.specs.inside.Machine.{identifier, integer, other_literal, type_word, unary_operator}
use Rattle.expression_grammar.specs.inside.Machine.{either_operator, binary_operator, question, colon, double_colon}
use Rattle.expression_grammar.specs.inside.Machine.{opening, closing, opening_bracket, closing_bracket}
use Rattle.expression_grammar.specs.inside.Machine.{opening_brace, closing_brace, comma, semicolon, dot, equals}
use Rattle.expression_grammar.specs.inside.Machine.{let_word, in_word, frequency_word, left_out, unused}
use Rattle.expression_grammar.specs.inside.Machine.{mdl_word, import_word, using_word, module_word, export_word}
use Rattle.expression_grammar.specs.inside.Machine.{struct_word, enum_word, annotation_word}

abbrev pub sort_view : held.Sort → Sort
sort_view (sort.Identifier text) = identifier text.now
sort_view (sort.Integer value) = integer value
sort_view (sort.Bool value) = other_literal (lit.Bool value)
sort_view (sort.Real text double) = other_literal (lit.Real text.now double)
sort_view (sort.Str text) = other_literal (lit.Str text.now)
sort_view (sort.TypeWord number) = type_word number
sort_view (sort.UnaryOperator op) = unary_operator op
sort_view (sort.EitherOperator op level) = either_operator op level
sort_view (sort.BinaryOperator op level) = binary_operator op level
sort_view sort.Question = question
sort_view sort.Colon = colon
sort_view sort.DoubleColon = double_colon
sort_view sort.Opening = opening
sort_view sort.Closing = closing
sort_view sort.OpeningBracket = opening_bracket
sort_view sort.ClosingBracket = closing_bracket
sort_view sort.OpeningBrace = opening_brace
sort_view sort.ClosingBrace = closing_brace
sort_view sort.Comma = comma
sort_view sort.Semicolon = semicolon
sort_view sort.Dot = dot
sort_view sort.Equals = equals
sort_view sort.Let = let_word
sort_view sort.In = in_word
sort_view (sort.Frequency freq) = frequency_word freq
sort_view sort.Mdl = mdl_word
sort_view sort.Import = import_word
sort_view sort.Using = using_word
sort_view sort.Module = module_word
sort_view sort.Export = export_word
sort_view sort.Struct = struct_word
sort_view sort.Enum = enum_word
sort_view sort.Annotation = annotation_word
sort_view (sort.LeftOut text) = left_out text.now
sort_view sort.Unused = unused

abbrev pub known_view : Option held.Sort → Option Sort
known_view None = None
known_view (Some known) = Some (sort_view known)
