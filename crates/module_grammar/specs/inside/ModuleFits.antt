-- What the machine of modules keeps: what has been read is levelled, and no higher than the limit.
use Rattle.std.specs.Prelude.{◌≡◌, ◌≢◌, ℕ, ◌≤◌, false, List, [], ◌∷◌, Option, Some, None}
use Rattle.std.specs.List.{AllByRecursion}
use Rattle.mdl_syntax.specs.declared.names.Ident.{Ident}
use Rattle.mdl_syntax.specs.declared.imports.Lead.{Lead}
use Rattle.mdl_syntax.specs.declared.imports.Qualified.{Qualified}
use Rattle.mdl_syntax.specs.Trees.{Tree}
use Rattle.mdl_syntax.specs.Heights.{height}
use Rattle.mdl_syntax.specs.Levelled.{IsName, Levelled}
use Rattle.mdl_syntax.specs.LevelledModules.{IsLead, IsModuleName, IsImport, IsAnnotation, IsDeclaration}
use Rattle.mdl_syntax.specs.AcceptedModules.{annotation_height, declaration_height}
use Rattle.mdl_syntax.specs.Modules.{Annotation, Parameter, EnumValue, Declaration}
use Rattle.expression_grammar.specs.inside.Fits.{Fits}
use Rattle.expression_grammar.specs.inside.Machine.{Mode, Frame, finish, finished, in_expression, in_type}
use Rattle.expression_grammar.specs.inside.Machine.{part_wanted, part_read, word_read, type_wanted, type_bracketed}
use Rattle.expression_grammar.specs.inside.Machine.{type_sized, deferred_wanted, deferred_read, deferred_closed}
use Rattle.expression_grammar.specs.inside.Machine.{name_wanted, equals_wanted, wanted, in_arguments}
use Rattle.module_grammar.specs.inside.ModuleStates.{Naming, Begun, Fronted, Front, Owner, Struct, Enum, Holder}
use Rattle.module_grammar.specs.inside.ModuleMachine.{room_of, is_call_site}
use Rattle.module_grammar.specs.inside.ModuleStates.{Site, Fronting, Position, State}
use Rattle.module_grammar.specs.inside.ModuleStates.{up_steps, led}
use Rattle.module_grammar.specs.inside.ModuleStates.{parted, open_ended, of_function, of_annotation, the_module}
use Rattle.module_grammar.specs.inside.ModuleStates.{a_parameter, a_function, an_annotation, a_variant, a_struct}
use Rattle.module_grammar.specs.inside.ModuleStates.{a_field, an_enum, an_enum_value, in_function_body}
use Rattle.module_grammar.specs.inside.ModuleStates.{in_default, in_field_default, in_annotation, in_base}
use Rattle.module_grammar.specs.inside.ModuleStates.{of_declaration, of_parameter, of_field, item_wanted}
use Rattle.module_grammar.specs.inside.ModuleStates.{importing, imported, using, used_wanted, used_read}
use Rattle.module_grammar.specs.inside.ModuleStates.{used_next, used_all, own_wanted, annotations_begun}
use Rattle.module_grammar.specs.inside.ModuleStates.{first_annotation, annotation_read, annotations_closing}
use Rattle.module_grammar.specs.inside.ModuleStates.{annotated, exported_read, kin_named, annotation_named}
use Rattle.module_grammar.specs.inside.ModuleStates.{fronting, declared, parameters_begun, star_read}
use Rattle.module_grammar.specs.inside.ModuleStates.{variant_read, base_read, parameter_read, parameter_next}
use Rattle.module_grammar.specs.inside.ModuleStates.{function_read, annotation_declared, struct_named}
use Rattle.module_grammar.specs.inside.ModuleStates.{fields_read, field_read, enum_named, value_wanted}
use Rattle.module_grammar.specs.inside.ModuleStates.{value_read, number_wanted, number_read, struct_closed}
use Rattle.module_grammar.specs.inside.ModuleStates.{enum_closed, expression, opened, mdl_wanted}
use Rattle.module_grammar.specs.inside.ModuleStates.{version_wanted, version_read, within}

-- Parts that are whole.

abbrev pub AnnotationFits : ℕ → Annotation → Type 0
AnnotationFits limit one = IsAnnotation one × (annotation_height one ≤ limit)

abbrev pub AnnotationsFit : ℕ → Option (List Annotation) → Type 0
AnnotationsFit limit None = Unit {0}
AnnotationsFit limit (Some annotations) = AllByRecursion (AnnotationFits limit) annotations

abbrev pub ValueFits : ℕ → Option Tree → Type 0
ValueFits limit None = Unit {0}
ValueFits limit (Some tree) = Levelled tree × (height tree ≤ limit)

abbrev pub ParameterFits : ℕ → Parameter → Type 0
ParameterFits limit one =
    IsName one.ty.name × ValueFits limit one.default × AnnotationsFit limit one.annotations

abbrev pub ParametersFit : ℕ → List Parameter → Type 0
ParametersFit limit parameters = AllByRecursion (ParameterFits limit) parameters

abbrev pub EnumValueFits : ℕ → EnumValue → Type 0
EnumValueFits limit one = AnnotationsFit limit one.annotations

abbrev pub DeclarationFits : ℕ → Declaration → Type 0
DeclarationFits limit one = IsDeclaration one × (declaration_height one ≤ limit)

abbrev pub QualifiedFits : Qualified → Type 0
QualifiedFits item = IsModuleName item.module

pub record BegunFits (limit : ℕ) (begun : Begun) : Type 0 where
  pub imports : AllByRecursion IsImport begun.imports
  pub annotations : AnnotationsFit limit begun.annotations
  pub declarations : AllByRecursion (DeclarationFits limit) begun.declarations

-- Parts so far.

abbrev pub PartsFit : Lead → List Ident → Type 0
PartsFit lead parts = IsLead lead × (parts ≢ [])

abbrev pub NamingFits : Naming → Type 0
NamingFits (up_steps steps at) = 1 ≤ steps
NamingFits (led lead at) = IsLead lead
NamingFits (parted lead at parts end) = PartsFit lead parts
NamingFits (open_ended lead at parts end) = PartsFit lead parts
NamingFits naming = Unit {0}

abbrev pub FrontedFits : Fronted → Type 0
FrontedFits fronted = IsName fronted.ty.name

abbrev pub OwnerFits : Owner → Type 0
OwnerFits (of_function fronted) = FrontedFits fronted
OwnerFits (of_annotation named) = Unit {0}

abbrev pub FrontFits : Front → Type 0
FrontFits front = IsName front.ty.name

abbrev pub StructFits : ℕ → Struct → Type 0
StructFits limit held = AnnotationsFit limit held.annotations × ParametersFit limit held.fields

abbrev pub EnumFits : ℕ → Enum → Type 0
EnumFits limit held =
    AnnotationsFit limit held.annotations × AllByRecursion (EnumValueFits limit) held.values

abbrev pub HolderFits : ℕ → Holder → Type 0
HolderFits limit the_module = Unit {0}
HolderFits limit (a_parameter owner parameters front default) =
    OwnerFits owner × ParametersFit limit parameters × FrontFits front × ValueFits limit default
HolderFits limit (a_function fronted parameters frequency) =
    FrontedFits fronted × ParametersFit limit parameters
HolderFits limit (an_annotation named parameters) = ParametersFit limit parameters
HolderFits limit (a_variant fronted) = FrontedFits fronted
HolderFits limit (a_struct named) = Unit {0}
HolderFits limit (a_field held front default) =
    StructFits limit held × FrontFits front × ValueFits limit default
HolderFits limit (an_enum named) = Unit {0}
HolderFits limit (an_enum_value held name number) = EnumFits limit held

abbrev pub SiteFits : ℕ → Site → Type 0
SiteFits limit (in_function_body fronted parameters frequency annotations) =
    FrontedFits fronted × ParametersFit limit parameters × AnnotationsFit limit annotations
SiteFits limit (in_default owner parameters front) =
    OwnerFits owner × ParametersFit limit parameters × FrontFits front
SiteFits limit (in_field_default held front) = StructFits limit held × FrontFits front
SiteFits limit (in_annotation holder annotations) =
    HolderFits limit holder × AllByRecursion (AnnotationFits limit) annotations
SiteFits limit (in_base fronted annotations) = FrontedFits fronted × AnnotationsFit limit annotations

abbrev pub FrontingFits : ℕ → Fronting → Type 0
FrontingFits limit (of_declaration at exported) = Unit {0}
FrontingFits limit (of_parameter owner parameters) = OwnerFits owner × ParametersFit limit parameters
FrontingFits limit (of_field held) = StructFits limit held

-- only a type, and a name behind it
abbrev pub IsTypeMode : Mode → Type 0
IsTypeMode (part_wanted (in_type head) path) = Unit {0}
IsTypeMode (part_read (in_type head) path) = path.parts ≡ [] → ⊥
IsTypeMode (word_read (in_type head) name) = IsName name
IsTypeMode (type_wanted head) = Unit {0}
IsTypeMode (type_bracketed head name) = IsName name
IsTypeMode (type_sized head name value) = IsName name
IsTypeMode (deferred_wanted head name) = IsName name
IsTypeMode (deferred_read head name ident) = IsName name
IsTypeMode (deferred_closed head name ident) = IsName name
IsTypeMode (name_wanted head ty) = IsName ty.name
IsTypeMode (equals_wanted head ty name) = IsName ty.name
IsTypeMode mode = ⊥

-- the arguments of a call are below all frames
abbrev pub OnCall : List Frame → Type 0
OnCall [] = ⊥
OnCall (in_arguments name arguments with_name label ∷ []) = Unit {0}
OnCall (frame ∷ frames) = OnCall frames

-- in a call that is no expression: over no frames only its name stands
abbrev pub StandsInCall : Mode → List Frame → Type 0
StandsInCall mode (frame ∷ frames) = OnCall (frame ∷ frames)
StandsInCall wanted [] = Unit {0}
StandsInCall (part_wanted in_expression path) [] = Unit {0}
StandsInCall (part_read in_expression path) [] = Unit {0}
StandsInCall (word_read in_expression name) [] = Unit {0}
StandsInCall mode [] = ⊥

abbrev pub SiteSuits : Site → Mode → List Frame → Type 0
SiteSuits (in_annotation holder annotations) mode frames = StandsInCall mode frames
SiteSuits (in_base fronted annotations) mode frames = StandsInCall mode frames
SiteSuits site mode frames = Unit {0}

abbrev pub PositionFits : ℕ → Position → Type 0
PositionFits limit (item_wanted early) = Unit {0}
PositionFits limit (importing at items naming) = AllByRecursion QualifiedFits items × NamingFits naming
PositionFits limit (imported at items) = AllByRecursion QualifiedFits items × (items ≢ [])
PositionFits limit (using at naming) = NamingFits naming
PositionFits limit (used_wanted at name) = IsModuleName name
PositionFits limit (used_read at name names) = IsModuleName name × (names ≢ [])
PositionFits limit (used_next at name names) = IsModuleName name × (names ≢ [])
PositionFits limit (used_all at name) = IsModuleName name
PositionFits limit own_wanted = Unit {0}
PositionFits limit (annotations_begun holder) = HolderFits limit holder
PositionFits limit (first_annotation holder) = HolderFits limit holder
PositionFits limit (annotation_read holder annotations) =
    HolderFits limit holder × AllByRecursion (AnnotationFits limit) annotations
PositionFits limit (annotations_closing holder annotations) =
    HolderFits limit holder × AllByRecursion (AnnotationFits limit) annotations
PositionFits limit (annotated holder annotations end) =
    HolderFits limit holder × AllByRecursion (AnnotationFits limit) annotations
PositionFits limit (exported_read at) = Unit {0}
PositionFits limit (kin_named at exported kin) = Unit {0}
PositionFits limit (annotation_named named) = Unit {0}
PositionFits limit (fronting of mode) = FrontingFits limit of × IsTypeMode mode
PositionFits limit (declared fronted) = FrontedFits fronted
PositionFits limit (parameters_begun owner) = OwnerFits owner
PositionFits limit (star_read fronted) = FrontedFits fronted
PositionFits limit (variant_read fronted) = FrontedFits fronted
PositionFits limit (base_read fronted annotations one) =
    FrontedFits fronted × AnnotationsFit limit annotations × AnnotationFits limit one
PositionFits limit (parameter_read owner parameters front) =
    OwnerFits owner × ParametersFit limit parameters × FrontFits front
PositionFits limit (parameter_next owner parameters) = OwnerFits owner × ParametersFit limit parameters
PositionFits limit (function_read fronted parameters frequency) =
    FrontedFits fronted × ParametersFit limit parameters
PositionFits limit (annotation_declared named parameters) = ParametersFit limit parameters
PositionFits limit (struct_named named) = Unit {0}
PositionFits limit (fields_read held) = StructFits limit held
PositionFits limit (field_read held front) = StructFits limit held × FrontFits front
PositionFits limit (enum_named named) = Unit {0}
PositionFits limit (value_wanted held) = EnumFits limit held
PositionFits limit (value_read held name) = EnumFits limit held
PositionFits limit (number_wanted held name) = EnumFits limit held
PositionFits limit (number_read held name value end) = EnumFits limit held
PositionFits limit (struct_closed held) = StructFits limit held
PositionFits limit (enum_closed held) = EnumFits limit held × (held.values ≢ [])
PositionFits limit (expression site mode frames) =
    SiteFits limit site × Fits (room_of limit site) mode frames × SiteSuits site mode frames
PositionFits limit (opened site mode frames bracket) =
    SiteFits limit site × (is_call_site site ≡ false) × Fits limit mode frames
    × ((tree : Tree) × (finish limit mode frames ≡ finished tree) × Levelled tree × (height tree ≤ limit))

abbrev pub ModuleFits : ℕ → State → Type 0
ModuleFits limit mdl_wanted = Unit {0}
ModuleFits limit (version_wanted at) = Unit {0}
ModuleFits limit (version_read at version) = Unit {0}
ModuleFits limit (within begun position) = BegunFits limit begun × PositionFits limit position
