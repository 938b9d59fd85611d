-- What a run over the tokens of a module says of them.
use Rattle.module_grammar.specs.ModuleReadings.{ModuleReading, a_module, bad_syntax, too_deep, left_out}
use Rattle.module_grammar.specs.ModuleReadings.{statement_body, other_version}
use Rattle.module_grammar.specs.inside.ModuleMachine.{ModuleRun, module_read, module_bad, module_deep}
use Rattle.module_grammar.specs.inside.ModuleMachine.{module_left_out, module_statement, module_version}

abbrev pub module_reading_of : ModuleRun → ModuleReading
module_reading_of (module_read tree) = a_module tree
module_reading_of (module_bad whole at) = bad_syntax whole at
module_reading_of (module_deep at) = too_deep at
module_reading_of (module_left_out at text) = left_out at text
module_reading_of (module_statement at) = statement_body at
module_reading_of (module_version at) = other_version at
