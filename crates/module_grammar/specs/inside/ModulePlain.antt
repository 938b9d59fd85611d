-- What the machine of modules keeps where it is strict: what has been read is plain.
use Rattle.std.specs.Prelude.{◌≡◌, ℕ, true, false, List, [], None}
use Rattle.std.specs.List.{AllByRecursion}
use Rattle.mdl_lexer.specs.declared.token.Token.{Token}
use Rattle.mdl_syntax.specs.declared.names.Span.{Span}
use Rattle.mdl_syntax.specs.declared.types.TypeTree.{TypeTree}
use Rattle.mdl_syntax.specs.Trees.{Tree}
use Rattle.mdl_syntax.specs.Levelled.{is_deferred, NoArgumentDeferred}
use Rattle.mdl_syntax.specs.Modules.{Annotation, Parameter, EnumValue}
use Rattle.mdl_syntax.specs.AcceptedModules.{PlainAnnotations, PlainValue, LooseParameter}
use Rattle.mdl_syntax.specs.AcceptedModules.{PlainParameter, PlainDeclaration, is_version}
use Rattle.expression_grammar.specs.inside.Machine.{Sort, Mode, Frame, finish, finished, in_type, step}
use Rattle.expression_grammar.specs.inside.Machine.{mode_step, part_wanted, part_read, word_read}
use Rattle.expression_grammar.specs.inside.Machine.{type_wanted, type_bracketed, type_sized}
use Rattle.expression_grammar.specs.inside.Machine.{deferred_wanted, name_wanted, equals_wanted, wanted}
use Rattle.expression_grammar.specs.inside.Machine.{opening_bracket}
use Rattle.expression_grammar.specs.inside.Leads.{Leads}
use Rattle.module_grammar.specs.inside.ModuleStates.{Begun, Fronted, Owner, Struct, Enum, Holder}
use Rattle.module_grammar.specs.inside.ModuleMachine.{room_of}
use Rattle.module_grammar.specs.inside.ModuleStates.{Site, Fronting, Position, State}
use Rattle.module_grammar.specs.inside.ModuleMachine.{is_call_site}
use Rattle.module_grammar.specs.inside.ModuleStates.{of_function, of_annotation}
use Rattle.module_grammar.specs.inside.ModuleMachine.{verdict_in, passes, if_deferred}
use Rattle.module_grammar.specs.inside.ModuleStates.{the_module}
use Rattle.module_grammar.specs.inside.ModuleMachine.{refused_here}
use Rattle.module_grammar.specs.inside.ModuleStates.{a_parameter, a_function}
use Rattle.module_grammar.specs.inside.ModuleStates.{an_annotation, a_variant, a_struct, a_field}
use Rattle.module_grammar.specs.inside.ModuleStates.{an_enum, an_enum_value, in_function_body}
use Rattle.module_grammar.specs.inside.ModuleStates.{in_default, in_field_default, in_annotation}
use Rattle.module_grammar.specs.inside.ModuleStates.{in_base, of_declaration, of_parameter, of_field}
use Rattle.module_grammar.specs.inside.ModuleStates.{annotations_begun, first_annotation}
use Rattle.module_grammar.specs.inside.ModuleStates.{annotation_read, annotations_closing, annotated}
use Rattle.module_grammar.specs.inside.ModuleStates.{fronting, declared, parameters_begun, star_read}
use Rattle.module_grammar.specs.inside.ModuleStates.{variant_read, base_read, parameter_read}
use Rattle.module_grammar.specs.inside.ModuleStates.{parameter_next, function_read}
use Rattle.module_grammar.specs.inside.ModuleStates.{annotation_declared, fields_read, field_read}
use Rattle.module_grammar.specs.inside.ModuleStates.{value_wanted, value_read, number_wanted}
use Rattle.module_grammar.specs.inside.ModuleStates.{number_read, struct_closed, enum_closed}
use Rattle.module_grammar.specs.inside.ModuleStates.{expression, opened, version_read, within}

-- Parts that are whole.

abbrev pub SizePlain : TypeTree → Type 0
SizePlain ty = is_deferred ty.size ≡ false

abbrev pub AnnotationPlain : Annotation → Type 0
AnnotationPlain one = NoArgumentDeferred one.arguments

abbrev pub EnumValuePlain : EnumValue → Type 0
EnumValuePlain one = PlainAnnotations one.annotations

pub record BegunPlain (begun : Begun) : Type 0 where
  pub version : is_version begun.version.text begun.version.double ≡ true
  pub annotations : PlainAnnotations begun.annotations
  pub declarations : AllByRecursion PlainDeclaration begun.declarations

-- Parts so far.

abbrev pub FrontedPlain : Fronted → Type 0
FrontedPlain fronted = SizePlain fronted.ty

abbrev pub OwnerPlain : Owner → Type 0
OwnerPlain (of_function fronted) = FrontedPlain fronted
OwnerPlain (of_annotation named) = Unit {0}

-- sizes of parameters may be deferred, but where a function's head says that none is
abbrev pub OwnedPlain : Owner → List Parameter → Type 0
OwnedPlain (of_function fronted) parameters =
    AllByRecursion LooseParameter parameters
    × (fronted.deferred ≡ None → AllByRecursion PlainParameter parameters)
OwnedPlain (of_annotation named) parameters = AllByRecursion LooseParameter parameters

abbrev pub OwnedSize : Owner → TypeTree → Type 0
OwnedSize (of_function fronted) ty = fronted.deferred ≡ None → SizePlain ty
OwnedSize (of_annotation named) ty = Unit {0}

abbrev pub StructPlain : Struct → Type 0
StructPlain held = PlainAnnotations held.annotations × AllByRecursion PlainParameter held.fields

abbrev pub EnumPlain : Enum → Type 0
EnumPlain held = PlainAnnotations held.annotations × AllByRecursion EnumValuePlain held.values

abbrev pub HolderPlain : Holder → Type 0
HolderPlain the_module = Unit {0}
HolderPlain (a_parameter owner parameters front default) =
    OwnerPlain owner × OwnedPlain owner parameters × OwnedSize owner front.ty × PlainValue default
HolderPlain (a_function fronted parameters frequency) =
    FrontedPlain fronted × OwnedPlain (of_function fronted) parameters
HolderPlain (an_annotation named parameters) = AllByRecursion LooseParameter parameters
HolderPlain (a_variant fronted) = FrontedPlain fronted
HolderPlain (a_struct named) = Unit {0}
HolderPlain (a_field held front default) =
    StructPlain held × SizePlain front.ty × PlainValue default
HolderPlain (an_enum named) = Unit {0}
HolderPlain (an_enum_value held name number) = EnumPlain held

abbrev pub SitePlain : Site → Type 0
SitePlain (in_function_body fronted parameters frequency annotations) =
    FrontedPlain fronted × OwnedPlain (of_function fronted) parameters
    × PlainAnnotations annotations
SitePlain (in_default owner parameters front) =
    OwnerPlain owner × OwnedPlain owner parameters × OwnedSize owner front.ty
SitePlain (in_field_default held front) = StructPlain held × SizePlain front.ty
SitePlain (in_annotation holder annotations) =
    HolderPlain holder × AllByRecursion AnnotationPlain annotations
SitePlain (in_base fronted annotations) = FrontedPlain fronted × PlainAnnotations annotations

-- a body stands where no parameter's size is deferred
abbrev pub SitePassed : Site → Type 0
SitePassed (in_function_body fronted parameters frequency annotations) = fronted.deferred ≡ None
SitePassed site = Unit {0}

abbrev pub FrontingPlain : Fronting → Type 0
FrontingPlain (of_declaration at exported) = Unit {0}
FrontingPlain (of_parameter owner parameters) = OwnerPlain owner × OwnedPlain owner parameters
FrontingPlain (of_field held) = StructPlain held

-- only a type and a name behind it, with a size that isn't deferred, save that one may begin here
abbrev pub TypePlain : Mode → Type 0
TypePlain (part_wanted (in_type head) path) = Unit {0}
TypePlain (part_read (in_type head) path) = Unit {0}
TypePlain (word_read (in_type head) name) = Unit {0}
TypePlain (type_wanted head) = Unit {0}
TypePlain (type_bracketed head name) = Unit {0}
TypePlain (type_sized head name value) = Unit {0}
TypePlain (deferred_wanted head name) = Unit {0}
TypePlain (name_wanted head ty) = SizePlain ty
TypePlain (equals_wanted head ty name) = SizePlain ty
TypePlain mode = ⊥

abbrev pub ModePlain : Fronting → Mode → Type 0
ModePlain (of_declaration at exported) mode = TypePlain mode
ModePlain (of_parameter (of_function fronted) parameters) mode =
    fronted.deferred ≡ None → TypePlain mode × (if_deferred mode refused_here ≡ passes)
ModePlain (of_parameter (of_annotation named) parameters) mode = Unit {0}
ModePlain (of_field held) mode = TypePlain mode

-- tokens lead here from the start of an expression
abbrev pub Led : ℕ → Mode → List Frame → Type 0
Led limit mode frames = (own : List Token) × Leads true limit wanted [] own mode frames

-- a token that the machine of expressions takes as one of this sort at this place
pub record Takes (token : Token) (sort : Sort) (place : Span) : Type 0 where
  pub is : (limit : ℕ) (mode : Mode) (frames : List Frame) →
      step limit mode frames token ≡ mode_step limit mode frames sort place

abbrev pub PositionPlain : ℕ → Position → Type 0
PositionPlain limit (annotations_begun holder) = HolderPlain holder
PositionPlain limit (first_annotation holder) = HolderPlain holder
PositionPlain limit (annotation_read holder annotations) =
    HolderPlain holder × AllByRecursion AnnotationPlain annotations
PositionPlain limit (annotations_closing holder annotations) =
    HolderPlain holder × AllByRecursion AnnotationPlain annotations
PositionPlain limit (annotated holder annotations end) =
    HolderPlain holder × AllByRecursion AnnotationPlain annotations
PositionPlain limit (fronting of mode) = FrontingPlain of × ModePlain of mode
PositionPlain limit (declared fronted) = FrontedPlain fronted
PositionPlain limit (parameters_begun owner) = OwnerPlain owner
PositionPlain limit (star_read fronted) = FrontedPlain fronted
PositionPlain limit (variant_read fronted) = FrontedPlain fronted
PositionPlain limit (base_read fronted annotations one) =
    FrontedPlain fronted × PlainAnnotations annotations × AnnotationPlain one
PositionPlain limit (parameter_read owner parameters front) =
    OwnerPlain owner × OwnedPlain owner parameters × OwnedSize owner front.ty
PositionPlain limit (parameter_next owner parameters) =
    OwnerPlain owner × OwnedPlain owner parameters
PositionPlain limit (function_read fronted parameters frequency) =
    FrontedPlain fronted × OwnedPlain (of_function fronted) parameters
PositionPlain limit (annotation_declared named parameters) =
    AllByRecursion LooseParameter parameters
PositionPlain limit (fields_read held) = StructPlain held
PositionPlain limit (field_read held front) = StructPlain held × SizePlain front.ty
PositionPlain limit (value_wanted held) = EnumPlain held
PositionPlain limit (value_read held name) = EnumPlain held
PositionPlain limit (number_wanted held name) = EnumPlain held
PositionPlain limit (number_read held name value end) = EnumPlain held
PositionPlain limit (struct_closed held) = StructPlain held
PositionPlain limit (enum_closed held) = EnumPlain held
PositionPlain limit (expression site mode frames) =
    SitePlain site
    × (verdict_in (expression site mode frames) ≡ passes →
    SitePassed site × Led (room_of limit site) mode frames)
PositionPlain limit (opened site mode frames bracket) =
    SitePlain site × SitePassed site × (is_call_site site ≡ false) × Led limit mode frames
    × ((token : Token) × Takes token opening_bracket bracket)
    × ((tree : Tree) × (finish limit mode frames ≡ finished tree))
PositionPlain limit position = Unit {0}

-- before it is known that the state is permitted
abbrev pub ModulePlain : ℕ → State → Type 0
ModulePlain limit (within begun position) = BegunPlain begun × PositionPlain limit position
ModulePlain limit state = Unit {0}

-- the state is permitted
abbrev pub StatePasses : State → Type 0
StatePasses (version_read at version) = is_version version.text version.double ≡ true
StatePasses (within begun position) = verdict_in position ≡ passes
StatePasses state = Unit {0}

abbrev pub IsPlainState : ℕ → State → Type 0
IsPlainState limit state = ModulePlain limit state × StatePasses state
