-- Tokens of a module, form by form, as the machine takes them. Where it is strict, no size is deferred, save those of
-- the parameters of prototypes and annotations.
use Rattle.std.specs.Prelude.{◌≡◌, ℕ, suc, Bool, true, false, List, [], ◌∷◌, ◌++◌, Option, Some, None, codes}
use Rattle.mdl_lexer.specs.declared.token.Token.{Token}
use Rattle.mdl_lexer.specs.declared.token.Kind.TheVariants as kind
use Rattle.mdl_syntax.specs.declared.names.Span.{Span}
use Rattle.mdl_syntax.specs.declared.names.Ident.{Ident}
use Rattle.mdl_syntax.specs.declared.names.Name.{Name}
use Rattle.mdl_syntax.specs.declared.types.TypeTree.{TypeTree}
use Rattle.mdl_syntax.specs.declared.types.Freq.{Freq}
use Rattle.mdl_syntax.specs.declared.imports.Lead.{Lead}
use Rattle.mdl_syntax.specs.declared.imports.Lead.TheVariants as lead
use Rattle.mdl_syntax.specs.declared.imports.Qualified.{Qualified}
use Rattle.mdl_syntax.specs.declared.imports.Import.{Import}
use Rattle.mdl_syntax.specs.declared.imports.Import.TheVariants as import_form
use Rattle.mdl_syntax.specs.Trees.{Tree, Arguments, call}
use Rattle.mdl_syntax.specs.Words.{frequency_words}
use Rattle.mdl_syntax.specs.Placed.{last_end}
use Rattle.mdl_syntax.specs.Modules.{Annotation, Parameter, EnumValue, Declaration, ModuleTree}
use Rattle.mdl_syntax.specs.Modules.{material, variant, function, structure, enumeration, annotation}
use Rattle.expression_grammar.specs.inside.Machine.{span_of, from_to, ident_at}
use Rattle.module_grammar.specs.inside.ModuleMachine.{all_of}
use Rattle.module_grammar.specs.inside.ModuleStates.{module_name, is_material}
use Rattle.expression_grammar.specs.inside.Sound.{IsMark, IsReserved, place}
use Rattle.expression_grammar.specs.inside.Wrote.{Wrote, TypeWrote}

-- Lists.

-- several behind others, with commas before them
pub data MoreWrote {A : Type 0} (One : A → List Token → Type 0) : List A → List Token → Type 0 where
  no_more : MoreWrote One [] []
  one_more : (comma : Token) (first : A) (more : List A) (tokens others : List Token) → IsMark comma (codes ",") →
      One first tokens → MoreWrote One more others → MoreWrote One (first ∷ more) (comma ∷ (tokens ++ others))

pub data SeveralWrote {A : Type 0} (One : A → List Token → Type 0) : List A → List Token → Type 0 where
  not_any : SeveralWrote One [] []
  several : (first : A) (more : List A) (tokens others : List Token) → One first tokens →
      MoreWrote One more others → SeveralWrote One (first ∷ more) (tokens ++ others)

-- one behind the other, with nothing between them
pub data EachWrote {A : Type 0} (One : A → List Token → Type 0) : List A → List Token → Type 0 where
  no_other : EachWrote One [] []
  another : (first : A) (more : List A) (tokens others : List Token) → One first tokens → EachWrote One more others →
      EachWrote One (first ∷ more) (tokens ++ others)

-- Names of modules, and imports.

pub data IdentWrote : Ident → List Token → Type 0 where
  an_ident : (word : Token) (text : List ℕ) → word.kind ≡ kind.Word text →
      IdentWrote (ident_at text (place word)) (word ∷ [])

-- so many `..::`, from the first place
pub data UpWrote : ℕ → ℕ → List Token → Type 0 where
  one_up : (dot other colon : Token) → IsMark dot (codes ".") → IsMark other (codes ".") → IsMark colon (codes "::") →
      UpWrote 1 dot.at (dot ∷ other ∷ colon ∷ [])
  more_up : (steps at : ℕ) (tokens : List Token) (dot other colon : Token) → UpWrote steps at tokens →
      IsMark dot (codes ".") → IsMark other (codes ".") → IsMark colon (codes "::") →
      UpWrote (suc steps) at (tokens ++ dot ∷ other ∷ colon ∷ [])

-- the lead of a name whose first part begins at this place, and where the name begins
pub data LeadWrote (behind : ℕ) : Lead → ℕ → List Token → Type 0 where
  bare_lead : LeadWrote behind lead.Bare behind []
  absolute_lead : (colon : Token) → IsMark colon (codes "::") → LeadWrote behind lead.Absolute colon.at (colon ∷ [])
  here_lead : (dot colon : Token) → IsMark dot (codes ".") → IsMark colon (codes "::") →
      LeadWrote behind lead.Here dot.at (dot ∷ colon ∷ [])
  up_lead : (steps at : ℕ) (tokens : List Token) → UpWrote steps at tokens →
      LeadWrote behind (lead.Up steps) at tokens

-- a lead and parts, from one place to another
pub data NamingWrote : Lead → ℕ → List Ident → ℕ → List Token → Type 0 where
  first_named : (led : Lead) (at : ℕ) (leads : List Token) (word : Token) (text : List ℕ) →
      LeadWrote word.at led at leads → word.kind ≡ kind.Word text →
      NamingWrote led at (ident_at text (place word) ∷ []) word.end (leads ++ word ∷ [])
  longer_name : (led : Lead) (at : ℕ) (parts : List Ident) (end : ℕ) (tokens : List Token) (colon word : Token)
      (text : List ℕ) → NamingWrote led at parts end tokens → IsMark colon (codes "::") →
      word.kind ≡ kind.Word text →
      NamingWrote led at (parts ++ ident_at text (place word) ∷ []) word.end (tokens ++ colon ∷ word ∷ [])

pub data QualifiedWrote : Qualified → List Token → Type 0 where
  all_names : (led : Lead) (at : ℕ) (parts : List Ident) (end : ℕ) (tokens : List Token) (colon star : Token) →
      NamingWrote led at parts end tokens → IsMark colon (codes "::") → IsMark star (codes "*") →
      QualifiedWrote (all_of led at parts end star.end) (tokens ++ colon ∷ star ∷ [])
  one_name : (led : Lead) (at : ℕ) (parts : List Ident) (end : ℕ) (tokens : List Token) (colon word : Token)
      (text : List ℕ) → NamingWrote led at parts end tokens → IsMark colon (codes "::") →
      word.kind ≡ kind.Word text →
      QualifiedWrote (record {
        «module» = module_name led at parts end;
        name = Some (ident_at text (place word));
        span = from_to at word.end;
      }) (tokens ++ colon ∷ word ∷ [])

-- what is used: all, or some
pub data UsedWrote : Option (List Ident) → List Token → Type 0 where
  all_used : (star : Token) → IsMark star (codes "*") → UsedWrote None (star ∷ [])
  some_used : (names : List Ident) (tokens : List Token) → (names ≡ [] → ⊥) → SeveralWrote IdentWrote names tokens →
      UsedWrote (Some names) tokens

pub data ImportWrote : Import → List Token → Type 0 where
  import_tokens : (word semicolon : Token) (items : List Qualified) (tokens : List Token) →
      IsReserved word (codes "import") → (items ≡ [] → ⊥) → SeveralWrote QualifiedWrote items tokens →
      IsMark semicolon (codes ";") →
      ImportWrote (import_form.Import items (from_to word.at semicolon.end)) (word ∷ (tokens ++ semicolon ∷ []))
  using_tokens : (word import_token semicolon : Token) (led : Lead) (at : ℕ) (parts : List Ident) (end : ℕ)
      (names : Option (List Ident)) (tokens used : List Token) →
      IsReserved word (codes "using") → NamingWrote led at parts end tokens →
      IsReserved import_token (codes "import") → UsedWrote names used → IsMark semicolon (codes ";") →
      ImportWrote (import_form.Using (module_name led at parts end) names (from_to word.at semicolon.end))
      (word ∷ (tokens ++ import_token ∷ (used ++ semicolon ∷ [])))

-- Annotations and values. What is behind a place ends where the last number tells.

-- a call that is no expression
pub data AnnotationWrote (strict : Bool) : Annotation → List Token → Type 0 where
  annotation_tokens : (name : Name) (arguments : Arguments) (span : Span) (tokens : List Token) →
      Wrote strict (call name arguments span) tokens →
      AnnotationWrote strict (record { name = name; arguments = arguments; span = span }) tokens

pub data AnnotationsWrote (strict : Bool) (before : ℕ) : Option (List Annotation) → ℕ → List Token → Type 0 where
  not_annotated : AnnotationsWrote strict before None before []
  annotations_tokens : (one two : Token) (annotations : List Annotation) (tokens : List Token) (three four : Token) →
      IsMark one (codes "[") → IsMark two (codes "[") → SeveralWrote (AnnotationWrote strict) annotations tokens →
      IsMark three (codes "]") → IsMark four (codes "]") →
      AnnotationsWrote strict before (Some annotations) four.end (one ∷ two ∷ (tokens ++ three ∷ four ∷ []))

pub data ValueWrote (strict : Bool) (before : ℕ) : Option Tree → ℕ → List Token → Type 0 where
  no_value : ValueWrote strict before None before []
  a_value : (equals : Token) (tree : Tree) (tokens : List Token) → IsMark equals (codes "=") →
      Wrote strict tree tokens → ValueWrote strict before (Some tree) (span_of tree).end (equals ∷ tokens)

pub data NumberWrote (before : ℕ) : Option ℕ → ℕ → List Token → Type 0 where
  no_number : NumberWrote before None before []
  a_number : (equals number : Token) (value : ℕ) → IsMark equals (codes "=") → number.kind ≡ kind.Int value →
      NumberWrote before (Some value) number.end (equals ∷ number ∷ [])

-- what is before a place begins where the number tells

pub data FrequencyWrote (behind : ℕ) : Option Freq → ℕ → List Token → Type 0 where
  no_front : FrequencyWrote behind None behind []
  a_front : (word : Token) (frequency : Freq) → frequency_words (Some frequency) ≡ word.kind ∷ [] →
      FrequencyWrote behind (Some frequency) word.at (word ∷ [])

pub data ExportWrote (behind : ℕ) : Bool → ℕ → List Token → Type 0 where
  not_exported : ExportWrote behind false behind []
  export_tokens : (word : Token) → IsReserved word (codes "export") → ExportWrote behind true word.at (word ∷ [])

-- Parameters, fields and values of enums. Whether a parameter's own size may be deferred is told apart.

pub data ParameterWrote (sized strict : Bool) : Parameter → List Token → Type 0 where
  parameter_tokens : (frequency : Option Freq) (at : ℕ) (ty : TypeTree) (word : Token) (text : List ℕ)
      (default : Option Tree) (behind : ℕ) (annotations : Option (List Annotation)) (end : ℕ)
      (fronts types values notes : List Token) → FrequencyWrote ty.span.at frequency at fronts →
      TypeWrote sized ty types → word.kind ≡ kind.Word text → ValueWrote strict word.end default behind values →
      AnnotationsWrote strict behind annotations end notes →
      ParameterWrote sized strict (record {
        frequency = frequency;
        ty = ty;
        name = ident_at text (place word);
        default = default;
        annotations = annotations;
        span = from_to at end;
      }) (fronts ++ (types ++ word ∷ (values ++ notes)))

pub data ParametersWrote (sized strict : Bool) : List Parameter → List Token → Type 0 where
  parameters_in : (start close : Token) (parameters : List Parameter) (tokens : List Token) →
      IsMark start (codes "(") → SeveralWrote (ParameterWrote sized strict) parameters tokens →
      IsMark close (codes ")") → ParametersWrote sized strict parameters (start ∷ (tokens ++ close ∷ []))

pub data FieldWrote (strict : Bool) : Parameter → List Token → Type 0 where
  field_tokens : (one : Parameter) (tokens : List Token) (semicolon : Token) → ParameterWrote strict strict one tokens →
      IsMark semicolon (codes ";") → FieldWrote strict one (tokens ++ semicolon ∷ [])

pub data EnumValueWrote (strict : Bool) : EnumValue → List Token → Type 0 where
  enum_value_tokens : (word : Token) (text : List ℕ) (number : Option ℕ) (behind : ℕ)
      (annotations : Option (List Annotation)) (end : ℕ) (numbers notes : List Token) →
      word.kind ≡ kind.Word text → NumberWrote word.end number behind numbers →
      AnnotationsWrote strict behind annotations end notes →
      EnumValueWrote strict (record {
        name = ident_at text (place word);
        number = number;
        annotations = annotations;
        span = from_to word.at end;
      }) (word ∷ (numbers ++ notes))

-- Declarations.

-- whether a function by its body is a material
abbrev pub makes_material : Option Freq → TypeTree → Bool
makes_material None ty = is_material ty
makes_material (Some frequency) ty = false

pub data DeclarationWrote (strict : Bool) : Declaration → List Token → Type 0 where
  material_tokens : (exported : Bool) (at : ℕ) (word named equals semicolon : Token) (text : List ℕ)
      (parameters : List Parameter) (annotations : Option (List Annotation)) (end : ℕ) (body : Tree)
      (exports owns notes bodies : List Token) → ExportWrote word.at exported at exports →
      IsReserved word (codes "material") → named.kind ≡ kind.Word text →
      ParametersWrote strict strict parameters owns → AnnotationsWrote strict 0 annotations end notes →
      IsMark equals (codes "=") → Wrote strict body bodies → IsMark semicolon (codes ";") →
      DeclarationWrote strict (material exported (ident_at text (place named)) parameters annotations body
      (from_to at semicolon.end))
      (exports ++ word ∷ named ∷ (owns ++ (notes ++ equals ∷ (bodies ++ semicolon ∷ []))))
  variant_tokens : (exported : Bool) (at : ℕ) (ty : TypeTree) (named start star close equals semicolon : Token)
      (text : List ℕ) (annotations : Option (List Annotation)) (end : ℕ) (base : Name) (arguments : Arguments)
      (own : Span) (exports types notes bases : List Token) → ExportWrote ty.span.at exported at exports →
      TypeWrote strict ty types → named.kind ≡ kind.Word text → IsMark start (codes "(") →
      IsMark star (codes "*") → IsMark close (codes ")") → AnnotationsWrote strict 0 annotations end notes →
      IsMark equals (codes "=") → Wrote strict (call base arguments own) bases → IsMark semicolon (codes ";") →
      DeclarationWrote strict (variant exported ty (ident_at text (place named)) annotations base arguments
      (from_to at semicolon.end))
      (exports ++ (types ++ named ∷ start ∷ star ∷ close ∷ (notes ++ equals ∷ (bases ++ semicolon ∷ []))))
  function_tokens : (exported : Bool) (at : ℕ) (ty : TypeTree) (named equals semicolon : Token) (text : List ℕ)
      (parameters : List Parameter) (frequency : Option Freq) (from : ℕ) (annotations : Option (List Annotation))
      (end : ℕ) (body : Tree) (exports types owns fronts notes bodies : List Token) →
      makes_material frequency ty ≡ false → ExportWrote ty.span.at exported at exports → TypeWrote strict ty types →
      named.kind ≡ kind.Word text → ParametersWrote strict strict parameters owns →
      FrequencyWrote 0 frequency from fronts → AnnotationsWrote strict 0 annotations end notes →
      IsMark equals (codes "=") → Wrote strict body bodies → IsMark semicolon (codes ";") →
      DeclarationWrote strict (function exported ty (ident_at text (place named)) parameters frequency annotations
      (Some body) (from_to at semicolon.end))
      (exports ++ (types ++ named ∷ (owns ++ (fronts ++ (notes ++ equals ∷ (bodies ++ semicolon ∷ []))))))
  prototype_tokens : (exported : Bool) (at : ℕ) (ty : TypeTree) (named semicolon : Token) (text : List ℕ)
      (parameters : List Parameter) (frequency : Option Freq) (from : ℕ) (annotations : Option (List Annotation))
      (end : ℕ) (exports types owns fronts notes : List Token) → ExportWrote ty.span.at exported at exports →
      TypeWrote strict ty types → named.kind ≡ kind.Word text → ParametersWrote false strict parameters owns →
      FrequencyWrote 0 frequency from fronts → AnnotationsWrote strict 0 annotations end notes →
      IsMark semicolon (codes ";") →
      DeclarationWrote strict (function exported ty (ident_at text (place named)) parameters frequency annotations
      None (from_to at semicolon.end))
      (exports ++ (types ++ named ∷ (owns ++ (fronts ++ (notes ++ semicolon ∷ [])))))
  structure_tokens : (exported : Bool) (at : ℕ) (word named brace close semicolon : Token) (text : List ℕ)
      (annotations : Option (List Annotation)) (end : ℕ) (fields : List Parameter)
      (exports notes tokens : List Token) → ExportWrote word.at exported at exports →
      IsReserved word (codes "struct") → named.kind ≡ kind.Word text →
      AnnotationsWrote strict 0 annotations end notes → IsMark brace (codes "{") →
      EachWrote (FieldWrote strict) fields tokens → IsMark close (codes "}") → IsMark semicolon (codes ";") →
      DeclarationWrote strict (structure exported (ident_at text (place named)) annotations fields
      (from_to at semicolon.end))
      (exports ++ word ∷ named ∷ (notes ++ brace ∷ (tokens ++ close ∷ semicolon ∷ [])))
  enumeration_tokens : (exported : Bool) (at : ℕ) (word named brace close semicolon : Token) (text : List ℕ)
      (annotations : Option (List Annotation)) (end : ℕ) (values : List EnumValue)
      (exports notes tokens : List Token) → ExportWrote word.at exported at exports →
      IsReserved word (codes "enum") → named.kind ≡ kind.Word text →
      AnnotationsWrote strict 0 annotations end notes → IsMark brace (codes "{") → (values ≡ [] → ⊥) →
      SeveralWrote (EnumValueWrote strict) values tokens → IsMark close (codes "}") → IsMark semicolon (codes ";") →
      DeclarationWrote strict (enumeration exported (ident_at text (place named)) annotations values
      (from_to at semicolon.end))
      (exports ++ word ∷ named ∷ (notes ++ brace ∷ (tokens ++ close ∷ semicolon ∷ [])))
  declared_annotation_tokens : (exported : Bool) (at : ℕ) (word named semicolon : Token) (text : List ℕ)
      (parameters : List Parameter) (annotations : Option (List Annotation)) (end : ℕ)
      (exports owns notes : List Token) → ExportWrote word.at exported at exports →
      IsReserved word (codes "annotation") → named.kind ≡ kind.Word text →
      ParametersWrote false strict parameters owns → AnnotationsWrote strict 0 annotations end notes →
      IsMark semicolon (codes ";") →
      DeclarationWrote strict (annotation exported (ident_at text (place named)) parameters annotations
      (from_to at semicolon.end)) (exports ++ word ∷ named ∷ (owns ++ (notes ++ semicolon ∷ [])))

-- Modules.

-- the annotations of the module itself
pub data OwnWrote (strict : Bool) : Option (List Annotation) → List Token → Type 0 where
  no_own : OwnWrote strict None []
  own_tokens : (word semicolon : Token) (annotations : List Annotation) (end : ℕ) (notes : List Token) →
      IsReserved word (codes "module") → AnnotationsWrote strict 0 (Some annotations) end notes →
      IsMark semicolon (codes ";") → OwnWrote strict (Some annotations) (word ∷ (notes ++ semicolon ∷ []))

pub data WroteModule (strict : Bool) : ModuleTree → List Token → Type 0 where
  module_tokens : (word number semicolon : Token) (text : List ℕ) (double : Bool) (imports : List Import)
      (annotations : Option (List Annotation)) (declarations : List Declaration)
      (imported owns declared : List Token) → IsReserved word (codes "mdl") → number.kind ≡ kind.Real text double →
      IsMark semicolon (codes ";") → EachWrote ImportWrote imports imported → OwnWrote strict annotations owns →
      EachWrote (DeclarationWrote strict) declarations declared →
      WroteModule strict (record {
        version = record { text = text; double = double; span = place number };
        imports = imports;
        annotations = annotations;
        declarations = declarations;
        span = from_to word.at (last_end (last_end (last_end semicolon.end imported) owns) declared);
      }) (word ∷ number ∷ semicolon ∷ (imported ++ (owns ++ declared)))
