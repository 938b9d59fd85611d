-- What is read from a text.
use Rattle.std.specs.Prelude.{⊤, ℕ, List}
use Rattle.std.specs.List.{AllByRecursion}
use Rattle.mdl_lexer.specs.Places.{IsPlace}
use Rattle.mdl_syntax.specs.Modules.{ModuleTree}
use Rattle.mdl_syntax.specs.declared.imports.ModuleRef.{ModuleRef}
use Rattle.module_set.specs.Imports.{references}
use Rattle.module_loader.specs.declared.texts.TextFault.{TextFault}
use Rattle.module_loader.specs.declared.texts.TextFault.TheVariants as fault
use Rattle.module_loader.specs.TextFaults.{RefusesBytes, RefusesWords}

-- the fault stands in the text
abbrev pub HasTextFault : List ℕ → TextFault → Type 0
HasTextFault bytes (fault.Lex found place) = RefusesBytes bytes found place
HasTextFault bytes (fault.Parse found place) = RefusesWords bytes found place
HasTextFault bytes fault.OutOfMemory = ⊤

-- the names of imported modules stand behind text
abbrev pub ArePlaces : List ℕ → ModuleTree → Type 0
ArePlaces bytes tree =
    AllByRecursion (λ (reference : ModuleRef). IsPlace bytes reference.span.at) (references tree)
