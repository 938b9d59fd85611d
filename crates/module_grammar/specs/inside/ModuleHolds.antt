-- Which tokens a state of the reader of modules stands for: those that it has taken.
use Rattle.std.specs.Prelude.{◌≡◌, ℕ, Bool, true, false, List, [], ◌∷◌, ◌++◌, Option, Some, None}
use Rattle.std.specs.Prelude.{codes}
use Rattle.mdl_lexer.specs.declared.token.Kind.{Kind}
use Rattle.mdl_lexer.specs.declared.token.Kind.TheVariants as kind
use Rattle.mdl_lexer.specs.declared.token.Token.{Token}
use Rattle.mdl_lexer.specs.Kinds.{mark_word, name_word}
use Rattle.mdl_syntax.specs.declared.names.Span.{Span}
use Rattle.mdl_syntax.specs.declared.names.Ident.{Ident}
use Rattle.mdl_syntax.specs.declared.types.TypeTree.{TypeTree}
use Rattle.mdl_syntax.specs.declared.types.Freq.{Freq}
use Rattle.mdl_syntax.specs.declared.imports.Lead.{Lead}
use Rattle.mdl_syntax.specs.declared.imports.ModuleRef.{ModuleRef}
use Rattle.mdl_syntax.specs.declared.imports.Qualified.{Qualified}
use Rattle.mdl_syntax.specs.declared.modules.VersionLit.{VersionLit}
use Rattle.mdl_syntax.specs.Trees.{Tree, call}
use Rattle.mdl_syntax.specs.Words.{ident_word, frequency_words}
use Rattle.mdl_syntax.specs.Placed.{last_end, placed_ident}
use Rattle.mdl_syntax.specs.Modules.{Annotation, Parameter, EnumValue}
use Rattle.mdl_syntax.specs.WrittenModules.{lead_words, up_words, module_words, qualified_words}
use Rattle.mdl_syntax.specs.WrittenModules.{write_import}
use Rattle.mdl_syntax.specs.WrittenModules.{write_annotation, write_annotations, write_parameter}
use Rattle.mdl_syntax.specs.WrittenModules.{write_parameters, write_field, write_enum_value}
use Rattle.mdl_syntax.specs.WrittenModules.{export_words}
use Rattle.mdl_syntax.specs.WrittenModules.{write_declaration, write_own}
use Rattle.mdl_syntax.specs.PlacedModules.{placed_module_name, placed_qualified, placed_import}
use Rattle.mdl_syntax.specs.PlacedModules.{placed_annotation, placed_annotations, placed_parameter}
use Rattle.mdl_syntax.specs.PlacedModules.{placed_parameters, placed_enum_value}
use Rattle.mdl_syntax.specs.PlacedModules.{placed_declaration, placed_own}
use Rattle.expression_grammar.specs.Readings.{kinds}
use Rattle.expression_grammar.specs.inside.Machine.{Mode, Frame, ident_at, wanted, complete, part_wanted}
use Rattle.expression_grammar.specs.inside.Machine.{part_read}
use Rattle.expression_grammar.specs.inside.Machine.{word_read, in_expression, in_arguments, Head}
use Rattle.expression_grammar.specs.inside.Machine.{in_type, type_wanted}
use Rattle.expression_grammar.specs.inside.Machine.{type_bracketed, type_sized, deferred_wanted}
use Rattle.expression_grammar.specs.inside.Machine.{deferred_read}
use Rattle.expression_grammar.specs.inside.Machine.{deferred_closed, name_wanted, equals_wanted}
use Rattle.expression_grammar.specs.inside.Stands.{Stands, TypeStands}
use Rattle.expression_grammar.specs.inside.Sound.{Holds, place}
use Rattle.module_grammar.specs.inside.ModuleParts.{Part, Each, Several, First}
use Rattle.module_grammar.specs.inside.ModuleStates.{Naming, unnamed, one_dot, two_dots, up_steps}
use Rattle.module_grammar.specs.inside.ModuleStates.{one_dot_behind}
use Rattle.module_grammar.specs.inside.ModuleStates.{led, parted, open_ended, Begun, Named, Fronted}
use Rattle.module_grammar.specs.inside.ModuleStates.{Front, Owner}
use Rattle.module_grammar.specs.inside.ModuleStates.{of_function, of_annotation, Struct, Enum}
use Rattle.module_grammar.specs.inside.ModuleStates.{Holder, the_module}
use Rattle.module_grammar.specs.inside.ModuleStates.{a_parameter, a_function, an_annotation}
use Rattle.module_grammar.specs.inside.ModuleStates.{a_variant, a_struct}
use Rattle.module_grammar.specs.inside.ModuleStates.{a_field, an_enum, an_enum_value, Site}
use Rattle.module_grammar.specs.inside.ModuleStates.{in_function_body}
use Rattle.module_grammar.specs.inside.ModuleStates.{in_default, in_field_default, in_annotation}
use Rattle.module_grammar.specs.inside.ModuleStates.{in_base, Fronting}
use Rattle.module_grammar.specs.inside.ModuleStates.{of_declaration, of_parameter, of_field, Kin}
use Rattle.module_grammar.specs.inside.ModuleStates.{struct_kin}
use Rattle.module_grammar.specs.inside.ModuleStates.{enum_kin, annotation_kin, Position}
use Rattle.module_grammar.specs.inside.ModuleStates.{item_wanted, importing}
use Rattle.module_grammar.specs.inside.ModuleStates.{imported, using, used_wanted, used_read}
use Rattle.module_grammar.specs.inside.ModuleStates.{used_next, used_all}
use Rattle.module_grammar.specs.inside.ModuleStates.{own_wanted, annotations_begun, first_annotation}
use Rattle.module_grammar.specs.inside.ModuleStates.{annotation_read, annotations_closing}
use Rattle.module_grammar.specs.inside.ModuleStates.{annotated, exported_read}
use Rattle.module_grammar.specs.inside.ModuleStates.{kin_named, annotation_named, fronting, declared}
use Rattle.module_grammar.specs.inside.ModuleStates.{parameters_begun, star_read, variant_read}
use Rattle.module_grammar.specs.inside.ModuleStates.{base_read}
use Rattle.module_grammar.specs.inside.ModuleStates.{parameter_read, parameter_next, function_read}
use Rattle.module_grammar.specs.inside.ModuleStates.{annotation_declared, struct_named, fields_read}
use Rattle.module_grammar.specs.inside.ModuleStates.{field_read}
use Rattle.module_grammar.specs.inside.ModuleStates.{enum_named, value_wanted, value_read}
use Rattle.module_grammar.specs.inside.ModuleStates.{number_wanted}
use Rattle.module_grammar.specs.inside.ModuleStates.{number_read, struct_closed, enum_closed}
use Rattle.module_grammar.specs.inside.ModuleStates.{expression, opened}
use Rattle.module_grammar.specs.inside.ModuleStates.{State, mdl_wanted, version_wanted}
use Rattle.module_grammar.specs.inside.ModuleStates.{version_read, within}

-- Tokens beside each other.

-- tokens of the one, and tokens of the other behind them
pub record Then (One Other : List Token → Type 0) (tokens : List Token) : Type 0 where
  pub front : List Token
  pub back : List Token
  pub one : One front
  pub other : Other back
  pub are : front ++ back ≡ tokens

-- tokens, and one of this word behind them
pub record Behind (One : List Token → Type 0) (word : Kind) (tokens : List Token) : Type 0 where
  pub front : List Token
  pub last : Token
  pub one : One front
  pub is : last.kind ≡ word
  pub are : front ++ last ∷ [] ≡ tokens

-- one token of this word, which stands here
pub record At (word : Kind) (at : ℕ) (tokens : List Token) : Type 0 where
  pub token : Token
  pub is : token.kind ≡ word
  pub here : at ≡ token.at
  pub are : token ∷ [] ≡ tokens

-- one token of this word
pub record Only (word : Kind) (tokens : List Token) : Type 0 where
  pub token : Token
  pub is : token.kind ≡ word
  pub are : token ∷ [] ≡ tokens

-- one identifier
pub record Word (name : Ident) (tokens : List Token) : Type 0 where
  pub token : Token
  pub text : List ℕ
  pub is : token.kind ≡ kind.Word text
  pub names : name ≡ ident_at text (place token)
  pub are : token ∷ [] ≡ tokens

abbrev pub Nothing : List Token → Type 0
Nothing tokens = tokens ≡ []

-- these words, and the first token stands here
pub record Words (words : List Kind) (at : ℕ) (tokens : List Token) : Type 0 where
  pub are : words ≡ kinds tokens
  pub first : First at tokens

-- `,` behind several, or nothing before the first
abbrev pub Open : {A : Type 0} → (List A → List Token → Type 0) → List A → List Token → Type 0
Open Stand [] tokens = Nothing tokens
Open Stand (one ∷ list) tokens = Behind (Stand (one ∷ list)) (mark_word (codes ",")) tokens

-- at least one
pub record AtLeastOne {A : Type 0} (Stand : List A → List Token → Type 0) (list : List A) (tokens : List Token) :
    Type 0 where
  pub stand : Stand list tokens
  pub some : list ≡ [] → ⊥

-- Names of modules.

-- identifiers with `::` between them
pub data PartsStand : List Ident → List Token → Type 0 where
  one_part : (text : List ℕ) (word : Token) → word.kind ≡ kind.Word text →
      PartsStand (ident_at text (place word) ∷ []) (word ∷ [])
  next_part : (parts : List Ident) (tokens : List Token) (text : List ℕ) (colon word : Token) →
      PartsStand parts tokens → colon.kind ≡ mark_word (codes "::") → word.kind ≡ kind.Word text →
      PartsStand (parts ++ ident_at text (place word) ∷ []) (tokens ++ colon ∷ word ∷ [])

pub record Parted (lead : Lead) (at : ℕ) (parts : List Ident) (end : ℕ) (tokens : List Token) : Type 0 where
  pub leads : List Token
  pub own : List Token
  pub leading : lead_words lead ≡ kinds leads
  pub stand : PartsStand parts own
  pub first : First at (leads ++ own)
  pub ends : last_end 0 own ≡ end
  pub are : leads ++ own ≡ tokens

abbrev pub one_dot_words : List Kind
one_dot_words = mark_word (codes ".") ∷ []

abbrev pub two_dot_words : List Kind
two_dot_words = mark_word (codes ".") ∷ mark_word (codes ".") ∷ []

abbrev pub NamingStands : Naming → List Token → Type 0
NamingStands unnamed tokens = Nothing tokens
NamingStands (one_dot at) tokens = Words one_dot_words at tokens
NamingStands (two_dots steps at) tokens = Words (up_words steps ++ two_dot_words) at tokens
NamingStands (up_steps steps at) tokens = Words (up_words steps) at tokens
NamingStands (one_dot_behind steps at) tokens = Words (up_words steps ++ one_dot_words) at tokens
NamingStands (led lead at) tokens = Words (lead_words lead) at tokens
NamingStands (parted lead at parts end) tokens = Parted lead at parts end tokens
NamingStands (open_ended lead at parts end) tokens =
    Behind (Parted lead at parts end) (mark_word (codes "::")) tokens

abbrev pub ModuleNamed : ModuleRef → List Token → Type 0
ModuleNamed name tokens = Part module_words placed_module_name name tokens

-- Imports.

abbrev pub ItemsStand : List Qualified → List Token → Type 0
ItemsStand items tokens = Several qualified_words placed_qualified items tokens

abbrev pub NamesStand : List Ident → List Token → Type 0
NamesStand names tokens = Several (λ name. ident_word name ∷ []) placed_ident names tokens

abbrev pub ImportBegun : ℕ → List Token → Type 0
ImportBegun at tokens = At (name_word (codes "import")) at tokens

abbrev pub UsingBegun : ℕ → List Token → Type 0
UsingBegun at tokens = At (name_word (codes "using")) at tokens

-- `using`, a name and `import`
abbrev pub UsedBegun : ℕ → ModuleRef → List Token → Type 0
UsedBegun at name tokens =
    Behind (Then (UsingBegun at) (ModuleNamed name)) (name_word (codes "import")) tokens

-- Annotations.

abbrev pub AnnotationsStand : List Annotation → List Token → Type 0
AnnotationsStand annotations tokens = Several write_annotation placed_annotation annotations tokens

abbrev pub Annotated : Option (List Annotation) → List Token → Type 0
Annotated annotations tokens = Part write_annotations placed_annotations annotations tokens

abbrev pub BracketsOpen : List Token → Type 0
BracketsOpen tokens = Behind (Only (mark_word (codes "["))) (mark_word (codes "[")) tokens

-- Values.

pub record ValueBehind (tree : Tree) (tokens : List Token) : Type 0 where
  pub equals : Token
  pub own : List Token
  pub is : equals.kind ≡ mark_word (codes "=")
  pub stands : Stands tree own
  pub are : equals ∷ own ≡ tokens

abbrev pub ValueStands : Option Tree → List Token → Type 0
ValueStands None tokens = Nothing tokens
ValueStands (Some tree) tokens = ValueBehind tree tokens

pub record NumberBehind (value : ℕ) (tokens : List Token) : Type 0 where
  pub equals : Token
  pub number : Token
  pub is : equals.kind ≡ mark_word (codes "=")
  pub number_is : number.kind ≡ kind.Int value
  pub are : equals ∷ number ∷ [] ≡ tokens

abbrev pub NumberStands : Option ℕ → List Token → Type 0
NumberStands None tokens = Nothing tokens
NumberStands (Some value) tokens = NumberBehind value tokens

-- Fronts.

-- `struct`, `enum` or `annotation`, be it exported
pub record KinBegun (word : Kind) (at : ℕ) (exported : Bool) (tokens : List Token) : Type 0 where
  pub exports : List Token
  pub begin : Token
  pub exporting : export_words exported ≡ kinds exports
  pub is : begin.kind ≡ word
  pub first : First at (exports ++ begin ∷ [])
  pub are : exports ++ begin ∷ [] ≡ tokens

abbrev pub kin_word : Kin → Kind
kin_word struct_kin = name_word (codes "struct")
kin_word enum_kin = name_word (codes "enum")
kin_word annotation_kin = name_word (codes "annotation")

abbrev pub NamedStands : Kind → Named → List Token → Type 0
NamedStands word named tokens = Then (KinBegun word named.at named.exported) (Word named.name) tokens

pub record Typed (named : Named) (ty : TypeTree) (tokens : List Token) : Type 0 where
  pub exports : List Token
  pub types : List Token
  pub names : List Token
  pub exporting : export_words named.exported ≡ kinds exports
  pub typed : TypeStands ty types
  pub name : Word named.name names
  pub first : First named.at (exports ++ types)
  pub are : exports ++ (types ++ names) ≡ tokens

abbrev pub FrontedStands : Fronted → List Token → Type 0
FrontedStands fronted tokens = Typed fronted.named fronted.ty tokens

pub record FrontStands (front : Front) (tokens : List Token) : Type 0 where
  pub frequencies : List Token
  pub types : List Token
  pub names : List Token
  pub often : frequency_words front.frequency ≡ kinds frequencies
  pub typed : TypeStands front.ty types
  pub name : Word front.name names
  pub first : First front.at (frequencies ++ types)
  pub are : frequencies ++ (types ++ names) ≡ tokens

-- Parameters.

abbrev pub OwnerStands : Owner → List Token → Type 0
OwnerStands (of_function fronted) tokens = FrontedStands fronted tokens
OwnerStands (of_annotation named) tokens = NamedStands (name_word (codes "annotation")) named tokens

abbrev pub ParameterStands : List Parameter → List Token → Type 0
ParameterStands parameters tokens = Several write_parameter placed_parameter parameters tokens

abbrev pub ParametersOpen : Owner → List Parameter → List Token → Type 0
ParametersOpen owner parameters tokens =
    Then (Behind (OwnerStands owner) (mark_word (codes "("))) (Open ParameterStands parameters) tokens

abbrev pub ParametersStand : List Parameter → List Token → Type 0
ParametersStand parameters tokens = Part write_parameters placed_parameters parameters tokens

abbrev pub OwnedStands : Owner → List Parameter → List Token → Type 0
OwnedStands owner parameters tokens = Then (OwnerStands owner) (ParametersStand parameters) tokens

abbrev pub FrequencyStands : Option Freq → List Token → Type 0
FrequencyStands frequency tokens = frequency_words frequency ≡ kinds tokens

abbrev pub FunctionStands : Fronted → List Parameter → Option Freq → List Token → Type 0
FunctionStands fronted parameters frequency tokens =
    Then (OwnedStands (of_function fronted) parameters) (FrequencyStands frequency) tokens

abbrev pub AnnotatedFunction : Fronted → List Parameter → Option Freq → Option (List Annotation) → List Token → Type 0
AnnotatedFunction fronted parameters frequency annotations tokens =
    Then (FunctionStands fronted parameters frequency) (Annotated annotations) tokens

abbrev pub StarStands : Fronted → List Token → Type 0
StarStands fronted tokens =
    Behind (Behind (FrontedStands fronted) (mark_word (codes "("))) (mark_word (codes "*")) tokens

abbrev pub VariantStands : Fronted → List Token → Type 0
VariantStands fronted tokens = Behind (StarStands fronted) (mark_word (codes ")")) tokens

abbrev pub AnnotatedVariant : Fronted → Option (List Annotation) → List Token → Type 0
AnnotatedVariant fronted annotations tokens = Then (VariantStands fronted) (Annotated annotations) tokens

-- Structs and enums.

abbrev pub BracesBegun : Kind → Named → Option (List Annotation) → List Token → Type 0
BracesBegun word named annotations tokens =
    Behind (Then (NamedStands word named) (Annotated annotations)) (mark_word (codes "{")) tokens

abbrev pub StructStands : Struct → List Token → Type 0
StructStands held tokens =
    Then (BracesBegun (name_word (codes "struct")) held.named held.annotations)
    (Each write_field placed_parameter held.fields) tokens

abbrev pub ValuesStand : List EnumValue → List Token → Type 0
ValuesStand values tokens = Several write_enum_value placed_enum_value values tokens

abbrev pub EnumOpen : Enum → List Token → Type 0
EnumOpen held tokens =
    Then (BracesBegun (name_word (codes "enum")) held.named held.annotations) (Open ValuesStand held.values) tokens

-- What annotations and expressions stand behind.

abbrev pub HolderStands : Holder → List Token → Type 0
HolderStands the_module tokens = Only (name_word (codes "module")) tokens
HolderStands (a_parameter owner parameters front default) tokens =
    Then (ParametersOpen owner parameters) (Then (FrontStands front) (ValueStands default)) tokens
HolderStands (a_function fronted parameters frequency) tokens = FunctionStands fronted parameters frequency tokens
HolderStands (an_annotation named parameters) tokens = OwnedStands (of_annotation named) parameters tokens
HolderStands (a_variant fronted) tokens = VariantStands fronted tokens
HolderStands (a_struct named) tokens = NamedStands (name_word (codes "struct")) named tokens
HolderStands (a_field held front default) tokens =
    Then (StructStands held) (Then (FrontStands front) (ValueStands default)) tokens
HolderStands (an_enum named) tokens = NamedStands (name_word (codes "enum")) named tokens
HolderStands (an_enum_value held name number) tokens =
    Then (EnumOpen held) (Then (Word name) (NumberStands number)) tokens

-- `[[` and annotations with `,` behind them
abbrev pub AnnotationsOpen : Holder → List Annotation → List Token → Type 0
AnnotationsOpen holder annotations tokens =
    Then (Then (HolderStands holder) BracketsOpen) (Open AnnotationsStand annotations) tokens

abbrev pub AnnotationsRead : Holder → List Annotation → List Token → Type 0
AnnotationsRead holder annotations tokens =
    Then (Then (HolderStands holder) BracketsOpen) (AnnotationsStand annotations) tokens

-- `]]` ends here
pub record AnnotationsEnd (annotations : List Annotation) (end : ℕ) (tokens : List Token) : Type 0 where
  pub stand : Annotated (Some annotations) tokens
  pub ends : (at : ℕ) → last_end at tokens ≡ end

-- behind its `=`
pub record HoldsBehind (mode : Mode) (frames : List Frame) (tokens : List Token) : Type 0 where
  pub equals : Token
  pub own : List Token
  pub is : equals.kind ≡ mark_word (codes "=")
  pub holds : Holds mode frames own
  pub are : equals ∷ own ≡ tokens

-- the outermost form is a call
abbrev pub IsCall : Tree → Type 0
IsCall (call _ _ _) = Unit {0}
IsCall _ = ⊥

abbrev pub IsArguments : Frame → Type 0
IsArguments (in_arguments name arguments with_name label) = Unit {0}
IsArguments frame = ⊥

abbrev pub Outermost : Frame → List Frame → Type 0
Outermost frame [] = IsArguments frame
Outermost frame (next ∷ frames) = Outermost next frames

-- a name, or the whole call, outside of all frames
abbrev pub NamesCall : Mode → Type 0
NamesCall wanted = Unit {0}
NamesCall (part_wanted in_expression path) = Unit {0}
NamesCall (part_read in_expression path) = Unit {0}
NamesCall (word_read in_expression name) = Unit {0}
NamesCall (complete tree) = IsCall tree
NamesCall mode = ⊥

abbrev pub OfCall : Mode → List Frame → Type 0
OfCall mode [] = NamesCall mode
OfCall mode (frame ∷ frames) = Outermost frame frames

pub record CallHolds (mode : Mode) (frames : List Frame) (tokens : List Token) : Type 0 where
  pub holds : Holds mode frames tokens
  pub form : OfCall mode frames

pub record BaseHolds (mode : Mode) (frames : List Frame) (tokens : List Token) : Type 0 where
  pub behind : HoldsBehind mode frames tokens
  pub form : OfCall mode frames

-- the whole call, behind its `=`
pub record BaseStands (base : Annotation) (tokens : List Token) : Type 0 where
  pub equals : Token
  pub own : List Token
  pub is : equals.kind ≡ mark_word (codes "=")
  pub stands : Part write_annotation placed_annotation base own
  pub are : equals ∷ own ≡ tokens

abbrev pub SiteHolds : Site → Mode → List Frame → List Token → Type 0
SiteHolds (in_function_body fronted parameters frequency annotations) mode frames tokens =
    Then (AnnotatedFunction fronted parameters frequency annotations) (HoldsBehind mode frames) tokens
SiteHolds (in_default owner parameters front) mode frames tokens =
    Then (ParametersOpen owner parameters) (Then (FrontStands front) (HoldsBehind mode frames)) tokens
SiteHolds (in_field_default held front) mode frames tokens =
    Then (StructStands held) (Then (FrontStands front) (HoldsBehind mode frames)) tokens
SiteHolds (in_annotation holder annotations) mode frames tokens =
    Then (AnnotationsOpen holder annotations) (CallHolds mode frames) tokens
SiteHolds (in_base fronted annotations) mode frames tokens =
    Then (AnnotatedVariant fronted annotations) (BaseHolds mode frames) tokens

-- where annotations or an index may follow
abbrev pub IsDefault : Site → Type 0
IsDefault (in_default owner parameters front) = Unit {0}
IsDefault (in_field_default held front) = Unit {0}
IsDefault site = ⊥

pub record SiteOpened (site : Site) (mode : Mode) (frames : List Frame) (bracket : Span) (tokens : List Token) :
    Type 0 where
  pub front : List Token
  pub last : Token
  pub one : SiteHolds site mode frames front
  pub form : IsDefault site
  pub is : last.kind ≡ mark_word (codes "[")
  pub here : bracket ≡ place last
  pub are : front ++ last ∷ [] ≡ tokens

pub record NumberRead (name : Ident) (value end : ℕ) (tokens : List Token) : Type 0 where
  pub holds : Then (Word name) (NumberBehind value) tokens
  pub ends : last_end 0 tokens ≡ end

-- a mode within a type and the name behind it, where the head is one of these
abbrev pub HeadIn : (Head → Type 0) → Mode → Type 0
HeadIn Is (part_wanted (in_type head) path) = Is head
HeadIn Is (part_read (in_type head) path) = Is head
HeadIn Is (word_read (in_type head) name) = Is head
HeadIn Is (type_wanted head) = Is head
HeadIn Is (type_bracketed head name) = Is head
HeadIn Is (type_sized head name value) = Is head
HeadIn Is (deferred_wanted head name) = Is head
HeadIn Is (deferred_read head name ident) = Is head
HeadIn Is (deferred_closed head name ident) = Is head
HeadIn Is (name_wanted head ty) = Is head
HeadIn Is (equals_wanted head ty name) = Is head
HeadIn Is mode = ⊥

-- declarations have no frequency before their type
abbrev pub HeadOf : Fronting → Head → Type 0
HeadOf (of_declaration at exported) head = head.frequency ≡ None
HeadOf of head = Unit {0}

-- the tokens before a type, where these follow
abbrev pub FrontBase : Fronting → List Token → List Token → Type 0
FrontBase (of_declaration at exported) front back =
    (export_words exported ≡ kinds front) × First at (front ++ back)
FrontBase (of_parameter owner parameters) front back = ParametersOpen owner parameters front
FrontBase (of_field held) front back = StructStands held front

pub record FrontingHolds (of : Fronting) (mode : Mode) (tokens : List Token) : Type 0 where
  pub front : List Token
  pub back : List Token
  pub base : FrontBase of front back
  pub holds : Holds mode [] back
  pub form : HeadIn (HeadOf of) mode
  pub are : front ++ back ≡ tokens

-- All positions: the tokens behind the last whole item.

abbrev pub PositionHolds : Position → List Token → Type 0
PositionHolds (item_wanted early) tokens = Nothing tokens
PositionHolds (importing at items naming) tokens =
    Then (Then (ImportBegun at) (Open ItemsStand items)) (NamingStands naming) tokens
PositionHolds (imported at items) tokens = Then (ImportBegun at) (AtLeastOne ItemsStand items) tokens
PositionHolds (using at naming) tokens = Then (UsingBegun at) (NamingStands naming) tokens
PositionHolds (used_wanted at name) tokens = UsedBegun at name tokens
PositionHolds (used_read at name names) tokens = Then (UsedBegun at name) (AtLeastOne NamesStand names) tokens
PositionHolds (used_next at name names) tokens =
    Behind (Then (UsedBegun at name) (AtLeastOne NamesStand names)) (mark_word (codes ",")) tokens
PositionHolds (used_all at name) tokens = Behind (UsedBegun at name) (mark_word (codes "*")) tokens
PositionHolds own_wanted tokens = Only (name_word (codes "module")) tokens
PositionHolds (annotations_begun holder) tokens = Then (HolderStands holder) (Only (mark_word (codes "["))) tokens
PositionHolds (first_annotation holder) tokens = Then (HolderStands holder) BracketsOpen tokens
PositionHolds (annotation_read holder annotations) tokens =
    Then (Then (HolderStands holder) BracketsOpen) (AtLeastOne AnnotationsStand annotations) tokens
PositionHolds (annotations_closing holder annotations) tokens =
    Behind (AnnotationsRead holder annotations) (mark_word (codes "]")) tokens
PositionHolds (annotated holder annotations end) tokens =
    Then (HolderStands holder) (AnnotationsEnd annotations end) tokens
PositionHolds (exported_read at) tokens = At (name_word (codes "export")) at tokens
PositionHolds (kin_named at exported kin) tokens = KinBegun (kin_word kin) at exported tokens
PositionHolds (annotation_named named) tokens = NamedStands (name_word (codes "annotation")) named tokens
PositionHolds (fronting of mode) tokens = FrontingHolds of mode tokens
PositionHolds (declared fronted) tokens = FrontedStands fronted tokens
PositionHolds (parameters_begun owner) tokens = Behind (OwnerStands owner) (mark_word (codes "(")) tokens
PositionHolds (star_read fronted) tokens = StarStands fronted tokens
PositionHolds (variant_read fronted) tokens = VariantStands fronted tokens
PositionHolds (base_read fronted annotations base) tokens =
    Then (AnnotatedVariant fronted annotations) (BaseStands base) tokens
PositionHolds (parameter_read owner parameters front) tokens =
    Then (ParametersOpen owner parameters) (FrontStands front) tokens
PositionHolds (parameter_next owner parameters) tokens = ParametersOpen owner parameters tokens
PositionHolds (function_read fronted parameters frequency) tokens = FunctionStands fronted parameters frequency tokens
PositionHolds (annotation_declared named parameters) tokens = OwnedStands (of_annotation named) parameters tokens
PositionHolds (struct_named named) tokens = NamedStands (name_word (codes "struct")) named tokens
PositionHolds (fields_read held) tokens = StructStands held tokens
PositionHolds (field_read held front) tokens = Then (StructStands held) (FrontStands front) tokens
PositionHolds (enum_named named) tokens = NamedStands (name_word (codes "enum")) named tokens
PositionHolds (value_wanted held) tokens = EnumOpen held tokens
PositionHolds (value_read held name) tokens = Then (EnumOpen held) (Word name) tokens
PositionHolds (number_wanted held name) tokens =
    Then (EnumOpen held) (Behind (Word name) (mark_word (codes "="))) tokens
PositionHolds (number_read held name value end) tokens = Then (EnumOpen held) (NumberRead name value end) tokens
PositionHolds (struct_closed held) tokens = Behind (StructStands held) (mark_word (codes "}")) tokens
PositionHolds (enum_closed held) tokens =
    Behind (Then (BracesBegun (name_word (codes "enum")) held.named held.annotations) (ValuesStand held.values))
    (mark_word (codes "}")) tokens
PositionHolds (expression site mode frames) tokens = SiteHolds site mode frames tokens
PositionHolds (opened site mode frames bracket) tokens = SiteOpened site mode frames bracket tokens

-- The module.

-- neither annotations of the module nor declarations yet
pub record Early (begun : Begun) : Type 0 where
  pub annotations : begun.annotations ≡ None
  pub declarations : begun.declarations ≡ []

abbrev pub EarlyIf : Bool → Begun → Type 0
EarlyIf true begun = Early begun
EarlyIf false begun = Unit {0}

abbrev pub EarlyHolder : Holder → Begun → Type 0
EarlyHolder the_module begun = Early begun
EarlyHolder _ begun = Unit {0}

abbrev pub EarlySite : Site → Begun → Type 0
EarlySite (in_annotation holder annotations) begun = EarlyHolder holder begun
EarlySite _ begun = Unit {0}

abbrev pub EarlyAt : Position → Begun → Type 0
EarlyAt (item_wanted early) begun = EarlyIf early begun
EarlyAt (importing at items naming) begun = Early begun
EarlyAt (imported at items) begun = Early begun
EarlyAt (using at naming) begun = Early begun
EarlyAt (used_wanted at name) begun = Early begun
EarlyAt (used_read at name names) begun = Early begun
EarlyAt (used_next at name names) begun = Early begun
EarlyAt (used_all at name) begun = Early begun
EarlyAt own_wanted begun = Early begun
EarlyAt (annotations_begun holder) begun = EarlyHolder holder begun
EarlyAt (first_annotation holder) begun = EarlyHolder holder begun
EarlyAt (annotation_read holder annotations) begun = EarlyHolder holder begun
EarlyAt (annotations_closing holder annotations) begun = EarlyHolder holder begun
EarlyAt (annotated holder annotations end) begun = EarlyHolder holder begun
EarlyAt (expression site mode frames) begun = EarlySite site begun
EarlyAt _ begun = Unit {0}

pub record VersionStands (at : ℕ) (version : VersionLit) (tokens : List Token) : Type 0 where
  pub word : Token
  pub number : Token
  pub is : word.kind ≡ name_word (codes "mdl")
  pub here : at ≡ word.at
  pub number_is : number.kind ≡ kind.Real version.text version.double
  pub number_here : version.span ≡ place number
  pub are : word ∷ number ∷ [] ≡ tokens

pub record BegunStands (begun : Begun) (tokens : List Token) : Type 0 where
  pub front : List Token
  pub imports : List Token
  pub owns : List Token
  pub declarations : List Token
  pub version : Behind (VersionStands begun.at begun.version) (mark_word (codes ";")) front
  pub imports_stand : Each write_import placed_import begun.imports imports
  pub owns_stand : Part write_own placed_own begun.annotations owns
  pub declarations_stand : Each write_declaration placed_declaration begun.declarations declarations
  pub ends : last_end 0 (front ++ (imports ++ (owns ++ declarations))) ≡ begun.end
  pub are : front ++ (imports ++ (owns ++ declarations)) ≡ tokens

pub record WithinHolds (begun : Begun) (position : Position) (tokens : List Token) : Type 0 where
  pub before : List Token
  pub own : List Token
  pub stands : BegunStands begun before
  pub early : EarlyAt position begun
  pub holds : PositionHolds position own
  pub are : before ++ own ≡ tokens

-- all states
abbrev pub ModuleHolds : State → List Token → Type 0
ModuleHolds mdl_wanted tokens = Nothing tokens
ModuleHolds (version_wanted at) tokens = At (name_word (codes "mdl")) at tokens
ModuleHolds (version_read at version) tokens = VersionStands at version tokens
ModuleHolds (within begun position) tokens = WithinHolds begun position tokens
