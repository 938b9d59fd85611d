-- Lists of parts that grow at their end.
use Rattle.std.proofs.Common.{◌≡◌, sym, refl, arith, max, Bool, true, false, List, [], ◌∷◌, ◌++◌}
use Rattle.std.proofs.Common.{Option, Some, None}
use Rattle.std.proofs.lemmas.Bool.{false≢true}
use Rattle.std.proofs.lemmas.Option.{none-some}
use Rattle.mdl_syntax.specs.declared.names.Span.{Span}
use Rattle.mdl_syntax.specs.declared.names.Ident.{Ident}
use Rattle.mdl_syntax.specs.declared.types.Freq.{Freq}
use Rattle.mdl_syntax.specs.declared.names.Name.{Name}
use Rattle.mdl_syntax.specs.declared.types.TypeTree.{TypeTree}
use Rattle.mdl_syntax.specs.Trees.{Tree, initializers_of, Argument, Initializer, arguments_of}
use Rattle.mdl_syntax.specs.Trees.{trees_of}
use Rattle.mdl_syntax.specs.Heights.{height, initializers_height, arguments_height, trees_height}
use Rattle.mdl_syntax.specs.Levelled.{Levelled, IsName, AreLevelled, AreLevelledArguments, in_order}
use Rattle.mdl_syntax.specs.Levelled.{AreLevelledInitializers, are_initializers}
use Rattle.expression_grammar.specs.inside.Fits.{MayBePlain, ArePlain}
use Rattle.expression_grammar.specs.inside.Machine.{Frame, in_arguments}

pub arguments_higher : (arguments : List Argument) (name : Option Ident)
    (tree : Tree) (span : Span) →
    arguments_height (arguments_of (arguments ++ (name, tree, span) ∷ [])) ≡ max
    (arguments_height (arguments_of arguments)) (height tree)
arguments_higher [] name tree span = omega arith
arguments_higher ((n, value, s) ∷ arguments) name tree span =
    omega (arith, arguments_higher arguments name tree span)

pub trees_higher : (trees : List Tree) (tree : Tree) →
    trees_height (trees_of (trees ++ tree ∷ [])) ≡ max (trees_height (trees_of trees)) (height tree)
trees_higher [] tree = omega arith
trees_higher (one ∷ trees) tree = omega (arith, trees_higher trees tree)

pub initializers_higher : (initializers : List Initializer) (frequency : Option Freq)
    (ty : TypeTree) (name : Ident) (tree : Tree) (span : Span) →
    initializers_height (initializers_of (initializers ++ (frequency, ty, name, tree, span) ∷ []))
    ≡ max (initializers_height (initializers_of initializers)) (height tree)
initializers_higher [] frequency ty name tree span = omega arith
initializers_higher ((f, t, n, value, s) ∷ initializers) frequency ty name tree span =
    omega (arith, initializers_higher initializers frequency ty name tree span)

pub arguments_levelled : (arguments : List Argument) (name : Option Ident)
    (tree : Tree) (span : Span) → AreLevelledArguments (arguments_of arguments) → Levelled tree →
    AreLevelledArguments (arguments_of (arguments ++ (name, tree, span) ∷ []))
arguments_levelled [] name tree span all one = (one, tt)
arguments_levelled ((n, value, s) ∷ arguments) name tree span all one =
    (all.0, arguments_levelled arguments name tree span all.1 one)

pub trees_levelled : (trees : List Tree) (tree : Tree) → AreLevelled (trees_of trees) →
    Levelled tree → AreLevelled (trees_of (trees ++ tree ∷ []))
trees_levelled [] tree all one = (one, tt)
trees_levelled (first ∷ trees) tree all one = (all.0, trees_levelled trees tree all.1 one)

pub initializers_levelled : (initializers : List Initializer) (frequency : Option Freq)
    (ty : TypeTree) (name : Ident) (tree : Tree) (span : Span) →
    AreLevelledInitializers (initializers_of initializers) → IsName ty.name → Levelled tree →
    AreLevelledInitializers (initializers_of (initializers ++ (frequency, ty, name, tree, span)
    ∷ []))
initializers_levelled [] frequency ty name tree span all is one = (is, one, tt)
initializers_levelled ((f, t, n, value, s) ∷ initializers) frequency ty name tree span all is one =
    (all.0, all.1, initializers_levelled initializers frequency ty name tree span all.2 is one)

pub some_initializers : (initializers : List Initializer) (frequency : Option Freq) (ty : TypeTree)
    (name : Ident) (tree : Tree) (span : Span) →
    are_initializers true (initializers_of (initializers ++ (frequency, ty, name, tree, span) ∷ []))
    ≡ true
some_initializers [] frequency ty name tree span = refl
some_initializers ((f, t, n, value, s) ∷ initializers) frequency ty name tree span = refl

named_in_order : (after : Bool) (arguments : List Argument) (name : Ident)
    (tree : Tree) (span : Span) → in_order after (arguments_of arguments) ≡ true →
    in_order after (arguments_of (arguments ++ (Some name, tree, span) ∷ [])) ≡ true
named_in_order after [] name tree span is = refl
named_in_order after ((Some n, value, s) ∷ arguments) name tree span is =
    named_in_order true arguments name tree span is
named_in_order true ((None, value, s) ∷ arguments) name tree span is = absurd (false≢true is)
named_in_order false ((None, value, s) ∷ arguments) name tree span is =
    named_in_order false arguments name tree span is

plain_in_order : (arguments : List Argument) (tree : Tree) (span : Span) → ArePlain arguments →
    in_order false (arguments_of (arguments ++ (None, tree, span) ∷ [])) ≡ true
plain_in_order [] tree span plain = refl
plain_in_order ((Some n, value, s) ∷ arguments) tree span plain = absurd (none-some n (sym plain.0))
plain_in_order ((None, value, s) ∷ arguments) tree span plain = plain_in_order arguments
    tree span plain.1

plain_longer : (arguments : List Argument) (tree : Tree) (span : Span) → ArePlain arguments →
    ArePlain (arguments ++ (None, tree, span) ∷ [])
plain_longer [] tree span plain = (refl, tt)
plain_longer (one ∷ arguments) tree span plain = (plain.0, plain_longer arguments tree span plain.1)

pub longer_in_order : (frames : List Frame) (call_name : Name) (arguments : List Argument)
    (with_name : Bool) (label : Option Ident) (tree : Tree) (span : Span) →
    in_order false (arguments_of arguments) ≡ true →
    (with_name ≡ false → ArePlain arguments × (label ≡ None)) →
    MayBePlain (in_arguments call_name arguments with_name label ∷ frames) →
    in_order false (arguments_of (arguments ++ (label, tree, span) ∷ [])) ≡ true
longer_in_order frames call_name arguments with_name None tree span order plain may =
    plain_in_order arguments tree span (plain may).0
longer_in_order frames call_name arguments with_name (Some name) tree span order plain may =
    named_in_order false arguments name tree span order

pub longer_plain : (arguments : List Argument) (with_name : Bool)
    (label : Option Ident) (tree : Tree) (span : Span) →
    (with_name ≡ false → ArePlain arguments × (label ≡ None)) → with_name ≡ false →
    ArePlain (arguments ++ (label, tree, span) ∷ [])
longer_plain arguments with_name None tree span plain is = plain_longer arguments tree
    span (plain is).0
longer_plain arguments with_name (Some name) tree span plain is =
    absurd (none-some name (sym (plain is).1))
