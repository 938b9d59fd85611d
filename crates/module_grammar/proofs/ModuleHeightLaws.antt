-- Places don't change the height of a module.
use Rattle.std.proofs.Common.{◌≡◌, refl, ℕ, List, [], ◌∷◌, drop, Option, Some, None}
use Rattle.mdl_lexer.specs.declared.token.Kind.{Kind}
use Rattle.mdl_lexer.specs.declared.token.Token.{Token}
use Rattle.mdl_syntax.specs.Trees.{Tree}
use Rattle.mdl_syntax.specs.Placed.{tokens_of, behind}
use Rattle.mdl_syntax.specs.Modules.{Annotation, Parameter, EnumValue, Declaration, ModuleTree}
use Rattle.mdl_syntax.specs.Modules.{material, variant, function, structure, enumeration}
use Rattle.mdl_syntax.specs.Modules.{annotation}
use Rattle.mdl_syntax.specs.WrittenModules.{write_annotation, write_parameter, write_field}
use Rattle.mdl_syntax.specs.WrittenModules.{write_enum_value, write_declaration}
use Rattle.mdl_syntax.specs.PlacedModules.{placed_each, placed_annotation, placed_annotations}
use Rattle.mdl_syntax.specs.PlacedModules.{placed_value, placed_parameter, placed_enum_value}
use Rattle.mdl_syntax.specs.PlacedModules.{placed_declaration, placed_module}
use Rattle.mdl_syntax.specs.AcceptedModules.{highest, annotation_height, annotations_height}
use Rattle.mdl_syntax.specs.AcceptedModules.{value_height, parameter_height, enum_value_height}
use Rattle.mdl_syntax.specs.AcceptedModules.{declaration_height, module_height}
use Rattle.expression_grammar.proofs.HeightLaws.{max_same, placed_height, placed_arguments_height}

each_height : {A : Type 0} (write_one : A → List Kind) (place_one : A → List Token → A) (height_of :
    A → ℕ) → ((one : A) (tokens : List Token) → height_of (place_one one tokens) ≡ height_of one) →
    (between : ℕ) (list : List A) (tokens : List Token) → highest height_of (placed_each write_one
    place_one between list tokens) ≡ highest height_of list
each_height write_one place_one height_of same between [] tokens = refl
each_height write_one place_one height_of same between (one ∷ list) tokens =
    max_same (same one (tokens_of (write_one one) tokens)) (each_height write_one place_one
    height_of same between list (behind (write_one one) between tokens))

pub placed_annotations_height : (annotations : Option (List Annotation)) (tokens : List Token) →
    annotations_height (placed_annotations annotations tokens) ≡ annotations_height annotations
placed_annotations_height None tokens = refl
placed_annotations_height (Some annotations) tokens =
    each_height write_annotation placed_annotation annotation_height
    (λ one tokens. placed_arguments_height one.arguments _) 1 annotations (drop 2 tokens)

pub placed_value_height : (default : Option Tree) (tokens : List Token) →
    value_height (placed_value default tokens) ≡ value_height default
placed_value_height None tokens = refl
placed_value_height (Some tree) tokens = placed_height tree _

pub placed_parameter_height : (one : Parameter) (tokens : List Token) →
    parameter_height (placed_parameter one tokens) ≡ parameter_height one
placed_parameter_height one tokens =
    max_same (placed_value_height one.default _) (placed_annotations_height one.annotations _)

placed_parameters_height : (write_one : Parameter → List Kind) (between : ℕ) (parameters : List
    Parameter) (tokens : List Token) → highest parameter_height (placed_each write_one
    placed_parameter between parameters tokens) ≡ highest parameter_height parameters
placed_parameters_height write_one = each_height write_one placed_parameter parameter_height
    placed_parameter_height

pub placed_enum_value_height : (one : EnumValue) (tokens : List Token) →
    enum_value_height (placed_enum_value one tokens) ≡ enum_value_height one
placed_enum_value_height one tokens = placed_annotations_height one.annotations _

pub placed_declaration_height : (one : Declaration) (tokens : List Token) →
    declaration_height (placed_declaration one tokens) ≡ declaration_height one
placed_declaration_height (material exported name parameters annotations body span) tokens =
    max_same (placed_parameters_height write_parameter 1 parameters _)
    (max_same (placed_annotations_height annotations _) (placed_height body _))
placed_declaration_height (variant exported ty name annotations base arguments span) tokens =
    max_same (placed_annotations_height annotations _) (placed_arguments_height arguments _)
placed_declaration_height (function exported ty name parameters frequency annotations body span)
    tokens =
    max_same (placed_parameters_height write_parameter 1 parameters _)
    (max_same (placed_annotations_height annotations _) (placed_value_height body _))
placed_declaration_height (structure exported name annotations fields span) tokens =
    max_same (placed_annotations_height annotations _) (placed_parameters_height write_field 0
    fields _)
placed_declaration_height (enumeration exported name annotations values span) tokens =
    max_same (placed_annotations_height annotations _) (each_height write_enum_value
    placed_enum_value enum_value_height placed_enum_value_height 1 values _)
placed_declaration_height (annotation exported name parameters annotations span) tokens =
    max_same (placed_parameters_height write_parameter 1 parameters _) (placed_annotations_height
    annotations _)

pub placed_module_height : (tree : ModuleTree) (tokens : List Token) →
    module_height (placed_module tree tokens) ≡ module_height tree
placed_module_height tree tokens =
    max_same (placed_annotations_height tree.annotations _) (each_height write_declaration
    placed_declaration declaration_height placed_declaration_height 0 tree.declarations _)
