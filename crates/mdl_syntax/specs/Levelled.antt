-- Expressions that the grammar has: each operand has at least the level of its place.
use Rattle.std.specs.Prelude.{◌≡◌, ◌≢◌, ℕ, suc, ◌≤◌, Bool, true, false, [], Some, None}
use Rattle.mdl_syntax.specs.declared.names.Name.{Name}
use Rattle.mdl_syntax.specs.declared.names.NameForm.{NameForm}
use Rattle.mdl_syntax.specs.declared.names.NameForm.TheVariants as form
use Rattle.mdl_syntax.specs.declared.types.Size.{Size}
use Rattle.mdl_syntax.specs.declared.types.Size.TheVariants as size
use Rattle.mdl_syntax.specs.Trees.{Tree, literal, named, parenthesized, unary, binary, conditional, indexed}
use Rattle.mdl_syntax.specs.Trees.{field, call, array, binding, Trees, no_trees, tree_and}
use Rattle.mdl_syntax.specs.Trees.{Arguments, no_arguments, argument_and, Initializers, no_initializers}
use Rattle.mdl_syntax.specs.Trees.{initializer_and}
use Rattle.mdl_syntax.specs.Levels.{is_unary, binary_level, is_type_word, level}
use Rattle.mdl_syntax.specs.Heights.{height}

-- a name has a part at least, or is a word that names a type
abbrev pub IsForm : NameForm → Type 0
IsForm (form.Parts absolute parts) = parts ≢ []
IsForm (form.Word number) = is_type_word number ≡ true

abbrev pub IsName : Name → Type 0
IsName name = IsForm name.form

-- no plain argument stands behind a named one
abbrev pub in_order : Bool → Arguments → Bool
in_order after_named no_arguments = true
in_order after_named (argument_and (Some name) value span others) = in_order true others
in_order true (argument_and None value span others) = false
in_order false (argument_and None value span others) = in_order false others

-- braces hold an initializer or more, and without them there is one
abbrev pub are_initializers : Bool → Initializers → Bool
are_initializers braces no_initializers = false
are_initializers true (initializer_and frequency ty name value span others) = true
are_initializers false (initializer_and frequency ty name value span no_initializers) = true
are_initializers false (initializer_and frequency ty name value span (initializer_and f t n v s more)) = false

abbrev mutual
  pub Levelled : Tree → Type 0
  Levelled (literal lit span) = Unit {0}
  Levelled (named name span) = IsName name
  Levelled (parenthesized inner span) = Levelled inner
  Levelled (unary op operand span) = (is_unary op ≡ true) × (12 ≤ level operand) × Levelled operand
  Levelled (binary op left right span) =
      (own : ℕ) × (binary_level op ≡ Some own) × (own ≤ level left) × (suc own ≤ level right)
      × Levelled left × Levelled right
  Levelled (conditional test one other span) =
      (2 ≤ level test) × (1 ≤ level other) × Levelled test × Levelled one × Levelled other
  Levelled (indexed of at span) = (13 ≤ level of) × Levelled of × Levelled at
  Levelled (field of name span) = (13 ≤ level of) × Levelled of
  Levelled (call name arguments span) =
      IsName name × (in_order false arguments ≡ true) × AreLevelledArguments arguments
  Levelled (array name size elements span) = IsName name × AreLevelled elements
  Levelled (binding braces initializers body span) =
      (are_initializers braces initializers ≡ true) × AreLevelledInitializers initializers × Levelled body

  pub AreLevelled : Trees → Type 0
  AreLevelled no_trees = Unit {0}
  AreLevelled (tree_and tree trees) = Levelled tree × AreLevelled trees

  pub AreLevelledArguments : Arguments → Type 0
  AreLevelledArguments no_arguments = Unit {0}
  AreLevelledArguments (argument_and name value span arguments) =
      Levelled value × AreLevelledArguments arguments

  pub AreLevelledInitializers : Initializers → Type 0
  AreLevelledInitializers no_initializers = Unit {0}
  AreLevelledInitializers (initializer_and frequency ty name value span initializers) =
      IsName ty.name × Levelled value × AreLevelledInitializers initializers

-- no type is an array of a size that is a name
abbrev pub is_deferred : Size → Bool
is_deferred (size.Deferred name) = true
is_deferred _ = false

abbrev mutual
  pub NoneDeferred : Tree → Type 0
  NoneDeferred (literal lit span) = Unit {0}
  NoneDeferred (named name span) = Unit {0}
  NoneDeferred (parenthesized inner span) = NoneDeferred inner
  NoneDeferred (unary op operand span) = NoneDeferred operand
  NoneDeferred (binary op left right span) = NoneDeferred left × NoneDeferred right
  NoneDeferred (conditional test one other span) = NoneDeferred test × NoneDeferred one × NoneDeferred other
  NoneDeferred (indexed of at span) = NoneDeferred of × NoneDeferred at
  NoneDeferred (field of name span) = NoneDeferred of
  NoneDeferred (call name arguments span) = NoArgumentDeferred arguments
  NoneDeferred (array name size elements span) = NoElementDeferred elements
  NoneDeferred (binding braces initializers body span) =
      NoInitializerDeferred initializers × NoneDeferred body

  pub NoElementDeferred : Trees → Type 0
  NoElementDeferred no_trees = Unit {0}
  NoElementDeferred (tree_and tree trees) = NoneDeferred tree × NoElementDeferred trees

  pub NoArgumentDeferred : Arguments → Type 0
  NoArgumentDeferred no_arguments = Unit {0}
  NoArgumentDeferred (argument_and name value span arguments) =
      NoneDeferred value × NoArgumentDeferred arguments

  pub NoInitializerDeferred : Initializers → Type 0
  NoInitializerDeferred no_initializers = Unit {0}
  NoInitializerDeferred (initializer_and frequency ty name value span initializers) =
      (is_deferred ty.size ≡ false) × NoneDeferred value × NoInitializerDeferred initializers

-- an expression that is accepted where this is the greatest height
pub record Accepted (most : ℕ) (tree : Tree) : Type 0 where
  pub levelled : Levelled tree
  pub none_deferred : NoneDeferred tree
  pub low : height tree ≤ most
