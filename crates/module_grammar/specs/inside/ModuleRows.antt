-- The machine of modules on short texts.
use Rattle.std.specs.Prelude.{◌≡◌, refl, ℕ, suc, List, [], ◌∷◌, codes, true, false, Some, None}
use Rattle.mdl_lexer.specs.declared.token.Kind.{Kind}
use Rattle.mdl_lexer.specs.declared.token.Kind.TheVariants as kind
use Rattle.mdl_lexer.specs.declared.token.Token.{Token}
use Rattle.mdl_lexer.specs.Kinds.{mark_word, name_word}
use Rattle.module_grammar.specs.inside.ModuleMachine.{run_module, ModuleRun, module_read, module_bad, module_deep}
use Rattle.module_grammar.specs.inside.ModuleMachine.{module_left_out, module_statement, module_version}
use Rattle.expression_grammar.specs.inside.MachineRows.{tokens_from}

abbrev m : List ℕ → Kind
m text = mark_word text

abbrev r : List ℕ → Kind
r text = name_word text

abbrev w : List ℕ → Kind
w text = kind.Word text

abbrev line : List Kind → List Token
line kinds = tokens_from 0 (r (codes "mdl") ∷ kind.Real (codes "1.6") false ∷ m (codes ";") ∷ kinds)

-- `float f(float x) { `
pub statement : run_module 3 (line (r (codes "float") ∷ w (codes "f") ∷ m (codes "(") ∷ r (codes "float")
    ∷ w (codes "x") ∷ m (codes ")") ∷ m (codes "{") ∷ [])) ≡ module_statement 9
statement = refl

-- `export material m( = 1;`
pub no_parameter : run_module 3 (line (r (codes "export") ∷ r (codes "material") ∷ w (codes "m") ∷ m (codes "(")
    ∷ m (codes "=") ∷ [])) ≡ module_bad 3 7
no_parameter = refl

-- `float f(float[<n>] x) = 1`
pub deferred : run_module 3 (line (r (codes "float") ∷ w (codes "f") ∷ m (codes "(") ∷ r (codes "float") ∷ m (codes "[")
    ∷ m (codes "<") ∷ w (codes "n") ∷ m (codes ">") ∷ m (codes "]") ∷ w (codes "x") ∷ m (codes ")") ∷ m (codes "=")
    ∷ [])) ≡ module_left_out 8 (codes "deferred-size")
deferred = refl

-- `float f(float x = a[[ b() ]]);` and `float f(float x = a[[[`
pub annotated_default : run_module 3 (line (r (codes "float") ∷ w (codes "f") ∷ m (codes "(") ∷ r (codes "float")
    ∷ w (codes "x") ∷ m (codes "=") ∷ w (codes "a") ∷ m (codes "[") ∷ m (codes "[") ∷ w (codes "b") ∷ m (codes "(") ∷ m (codes ")")
    ∷ m (codes "]") ∷ m (codes "]") ∷ m (codes ")") ∷ m (codes ";") ∷ m (codes ";") ∷ [])) ≡ module_bad 19 19
annotated_default = refl

pub other : run_module 3 (tokens_from 0 (r (codes "mdl") ∷ kind.Real (codes "1.7") false ∷ [])) ≡ module_version 1
other = refl

-- `import ::a::b, c::*; using .::d import e; module [[ ]]; enum E { a = 1, b };`
pub several : run_module 3 (line (r (codes "import") ∷ m (codes "::") ∷ w (codes "a") ∷ m (codes "::") ∷ w (codes "b")
    ∷ m (codes ",") ∷ w (codes "c") ∷ m (codes "::") ∷ m (codes "*") ∷ m (codes ";") ∷ r (codes "using") ∷ m (codes ".")
    ∷ m (codes "::") ∷ w (codes "d") ∷ r (codes "import") ∷ w (codes "e") ∷ m (codes ";") ∷ r (codes "module")
    ∷ m (codes "[") ∷ m (codes "[") ∷ m (codes "]") ∷ m (codes "]") ∷ m (codes ";") ∷ r (codes "enum") ∷ w (codes "E")
    ∷ m (codes "{") ∷ w (codes "a") ∷ m (codes "=") ∷ kind.Int 1 ∷ m (codes ",") ∷ w (codes "b") ∷ m (codes "}")
    ∷ m (codes ";") ∷ r (codes "import") ∷ [])) ≡ module_bad 36 36
several = refl
