-- The lines of diagnostics.
use Rattle.std.specs.Prelude.{ℕ, List, ◌++◌, Option, Some, None, codes, decimal}
use Rattle.std.specs.List.{flat_map}
use Rattle.io_edge.specs.declared.place.Place.{Place}
use Rattle.mdl_lexer.specs.declared.token.LexFault.{LexFault}
use Rattle.mdl_lexer.specs.declared.token.LexFault.TheVariants as lexical
use Rattle.expression_grammar.specs.declared.fault.ParseFault.{ParseFault}
use Rattle.expression_grammar.specs.declared.fault.ParseFault.TheVariants as grammar
use Rattle.module_set.specs.declared.module_name.ModuleName.{ModuleName}
use Rattle.module_set.specs.Names.{written_name}
use Rattle.scope_core.specs.declared.fault.ScopeFault.{ScopeFault}
use Rattle.scope_core.specs.declared.fault.ScopeFault.TheVariants as scoping
use Rattle.module_loader.specs.declared.fault.LoadFault.{LoadFault}
use Rattle.module_loader.specs.declared.fault.LoadFault.TheVariants as fault

abbrev pub usage_line : List ℕ
usage_line = codes "error 1 Usage\n"

abbrev pub read_fault_line : List ℕ
read_fault_line = codes "error 2 ReadFault\n"

abbrev pub write_fault_line : List ℕ
write_fault_line = codes "error 3 WriteFault\n"

abbrev pub out_of_memory_line : List ℕ
out_of_memory_line = codes "error 4 OutOfMemory\n"

abbrev pub not_built_line : List ℕ
not_built_line = codes "error 9 NotBuilt\n"

abbrev pub too_many_line : List ℕ
too_many_line = codes "error 12 TooMany\n"

-- a module's name at the end of a line
abbrev pub name_end : ModuleName → List ℕ
name_end name = written_name name ++ codes "\n"

-- a place at the end of a line
abbrev pub place_end : Place → List ℕ
place_end place = decimal place.line ++ (codes ":" ++ (decimal place.column ++ codes "\n"))

-- a module and a place in it
abbrev pub site : ModuleName → Place → List ℕ
site name place = written_name name ++ (codes " " ++ place_end place)

-- the same with a word behind
abbrev pub word_end : List ℕ → List ℕ
word_end word = codes " " ++ (word ++ codes "\n")

abbrev pub place_word : Place → List ℕ → List ℕ
place_word place word = decimal place.line ++ (codes ":" ++ (decimal place.column ++ word_end word))

abbrev pub site_word : ModuleName → Place → List ℕ → List ℕ
site_word name place word = written_name name ++ (codes " " ++ place_word place word)

-- a module that isn't there, with the one that imports it, if one does
abbrev pub absent_line : Option ModuleName → Place → ModuleName → List ℕ
absent_line None place name = codes "error 10 Absent " ++ name_end name
absent_line (Some importer) place name =
    codes "error 10 Absent " ++ (written_name name ++ (codes " from " ++ site importer place))

-- a module's bytes that have no words
abbrev pub lexical_line : ModuleName → LexFault → Place → List ℕ
lexical_line name (lexical.NotUtf8 at) place = codes "error 14 NotUtf8 " ++ site name place
lexical_line name (lexical.BadToken at) place = codes "error 15 BadToken " ++ site name place
lexical_line name (lexical.IntRange at) place = codes "error 16 IntRange " ++ site name place
lexical_line name lexical.OutOfMemory place = out_of_memory_line

-- a module's words that aren't accepted
abbrev pub grammar_line : ModuleName → ParseFault → Place → List ℕ
grammar_line name (grammar.BadSyntax declaration at) place = codes "error 17 BadSyntax " ++ site name place
grammar_line name (grammar.TooDeep at) place = codes "error 18 TooDeep " ++ site name place
grammar_line name (grammar.StatementBody at) place = codes "error 19 StatementBody " ++ site name place
grammar_line name (grammar.LeftOut at word) place = codes "error 20 LeftOut " ++ site_word name place word
grammar_line name (grammar.Version at) place = codes "error 21 Version " ++ site name place
grammar_line name grammar.OutOfMemory place = out_of_memory_line

abbrev pub cycle_line : List ModuleName → List ℕ
cycle_line path =
    codes "error 13 Cycle" ++ (flat_map (λ name. codes " " ++ written_name name) path ++ codes "\n")

-- why modules can't be loaded
abbrev pub load_line : LoadFault → List ℕ
load_line (fault.Absent asker place name) = absent_line asker place name
load_line (fault.TooLong name) = codes "error 11 TooLong " ++ name_end name
load_line (fault.Lex name found place) = lexical_line name found place
load_line (fault.Parse name found place) = grammar_line name found place
load_line fault.TooMany = too_many_line
load_line (fault.Cycle path) = cycle_line path
load_line fault.ReadFault = read_fault_line
load_line fault.OutOfMemory = out_of_memory_line

-- what is wrong with a name of a module
abbrev pub scope_line : ModuleName → ScopeFault → Place → List ℕ
scope_line name (scoping.Twice m at) place = codes "error 30 Twice " ++ site name place
scope_line name (scoping.Unknown m at) place = codes "error 31 Unknown " ++ site name place
scope_line name (scoping.NotExported m at) place = codes "error 32 NotExported " ++ site name place
scope_line name (scoping.Clash m at) place = codes "error 33 Clash " ++ site name place
scope_line name scoping.OutOfMemory place = out_of_memory_line

-- a material that its module doesn't have
abbrev pub material_unknown_line : List ℕ
material_unknown_line = codes "error 53 MaterialUnknown request\n"
