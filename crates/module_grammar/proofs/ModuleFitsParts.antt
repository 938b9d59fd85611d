-- Lists of parts that grow keep what they keep; names of modules, and fronts, do too.
use Rattle.std.proofs.Common.{◌≢◌, arith, ℕ, ◌≤◌}
use Rattle.std.proofs.Common.{List, [], ◌∷◌, ◌++◌, Option, Some, None}
use Rattle.std.specs.List.{AllByRecursion}
use Rattle.mdl_syntax.specs.declared.names.Span.{Span}
use Rattle.mdl_syntax.specs.declared.names.Ident.{Ident}
use Rattle.mdl_syntax.specs.declared.imports.Lead.{Lead}
use Rattle.mdl_syntax.specs.AcceptedModules.{highest}
use Rattle.expression_grammar.specs.inside.Machine.{Sort, identifier, double_colon, dot, ident_at}
use Rattle.module_grammar.specs.inside.ModuleStates.{Naming, naming_step, qualified_from}
use Rattle.module_grammar.specs.inside.ModuleStates.{unnamed, one_dot, two_dots, up_steps, one_dot_behind, led}
use Rattle.module_grammar.specs.inside.ModuleStates.{parted, open_ended}
use Rattle.module_grammar.specs.inside.ModuleFits.{NamingFits, QualifiedFits}
use Rattle.mdl_syntax.specs.declared.imports.Qualified.{Qualified}
use Rattle.mdl_syntax.specs.LevelledModules.{IsLead}

pub all_and_one : {A : Type 0} (Holds : A → Type 0) (list : List A) (one : A) →
    AllByRecursion Holds list → Holds one → AllByRecursion Holds (list ++ one ∷ [])
all_and_one Holds [] one all holds = (holds, tt)
all_and_one Holds (first ∷ list) one all holds = (all.0, all_and_one Holds list one all.1 holds)

pub all_map : {A : Type 0} (One Other : A → Type 0) → ((one : A) → One one → Other one) →
    (list : List A) → AllByRecursion One list → AllByRecursion Other list
all_map One Other turns [] all = tt
all_map One Other turns (first ∷ list) all = (turns first all.0, all_map One Other turns list all.1)

pub all_low : {A : Type 0} (Holds : A → Type 0) (height_of : A → ℕ) (limit : ℕ) →
    ((one : A) → Holds one → height_of one ≤ limit) → (list : List A) → AllByRecursion Holds list →
    highest height_of list ≤ limit
all_low Holds height_of limit low [] all = omega arith
all_low Holds height_of limit low (first ∷ list) all =
    let one = low first all.0 in
    let others = all_low Holds height_of limit low list all.1 in
    omega (arith, one, others)

pub one_more : {A : Type 0} (list : List A) (one : A) → list ++ one ∷ [] ≢ []
one_more [] one is = cc
one_more (first ∷ list) one is = cc

abbrev pub NamingKept : Option Naming → Type 0
NamingKept None = Unit {0}
NamingKept (Some naming) = NamingFits naming

pub naming_fits : (naming : Naming) (sort : Sort) (place : Span) → NamingFits naming →
    NamingKept (naming_step naming sort place)
naming_fits unnamed dot place fits = tt
naming_fits unnamed double_colon place fits = tt
naming_fits unnamed (identifier text) place fits = (tt, λ e. cc)
naming_fits (one_dot at) dot place fits = tt
naming_fits (one_dot at) double_colon place fits = tt
naming_fits (two_dots steps at) double_colon place fits = omega arith
naming_fits (up_steps steps at) dot place fits = tt
naming_fits (up_steps steps at) (identifier text) place fits = (fits, λ e. cc)
naming_fits (one_dot_behind steps at) dot place fits = tt
naming_fits (led lead at) (identifier text) place fits = (fits, λ e. cc)
naming_fits (parted lead at parts end) double_colon place fits = fits
naming_fits (open_ended lead at parts end) (identifier text) place fits =
    (fits.0, one_more parts (ident_at text place))
naming_fits naming sort place fits = tt

abbrev pub QualifiedKept : Option Qualified → Type 0
QualifiedKept None = Unit {0}
QualifiedKept (Some item) = QualifiedFits item

pub qualified_fits : (lead : Lead) (at : ℕ) (parts : List Ident) (end : ℕ) → IsLead lead →
    QualifiedKept (qualified_from lead at parts end)
qualified_fits lead at [] end is = tt
qualified_fits lead at (first ∷ []) end is = tt
qualified_fits lead at (first ∷ next ∷ more) end is = (is, λ e. cc)
