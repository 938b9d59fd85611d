-- What is wrong with the names of a set.
use Rattle.std.specs.Prelude.{◌≡◌, ⊤, ℕ, suc, ◌==◌, ◌&&◌, ◌||◌, not, ltb, Bool, false}
use Rattle.std.specs.Prelude.{List, [], ◌∷◌, ◌++◌}
use Rattle.std.specs.Prelude.{Option, Some, None, map, filter, slice_get, if◌then◌else◌}
use Rattle.std.specs.List.{list_any, flat_map}
use Rattle.std.specs.Str.{bytes_eq}
use Rattle.std.specs.Cmp.Lexicographic.{pointwise}
use Rattle.type_rules.specs.declared.ty.Ty.{Ty}
use Rattle.type_rules.specs.Same.{same_type}
use Rattle.mdl_syntax.specs.declared.names.Ident.{Ident}
use Rattle.mdl_syntax.specs.Modules.{Parameter, Declaration, material, variant, function}
use Rattle.mdl_syntax.specs.Modules.{structure, enumeration, annotation}
use Rattle.module_set.specs.declared.module_name.ModuleName.{ModuleName}
use Rattle.module_set.specs.Members.{Member}
use Rattle.scope_core.specs.declared.fault.ScopeFault.{ScopeFault}
use Rattle.scope_core.specs.declared.fault.ScopeFault.TheVariants as fault
use Rattle.scope_tables.specs.Entities.{Declared}
use Rattle.scope_tables.specs.Brought.{Bringing, brought}
use Rattle.scope_tables.specs.Visible.{is_function, is_annotation, are_overloads}
use Rattle.scope_core.specs.Standing.{is_prototype, share_name, pieces_of, standing, types_of}

-- two declarations, or values, that share a name in a module may stand together: functions of other types,
-- a prototype and a definition, and annotations of other types
abbrev pub may_stand : (Declared → List Ty) → Declared → Declared → Bool
may_stand types one other =
    (is_function one.entity.sort && is_function other.entity.sort
    && (not (pointwise same_type (types one) (types other))
    || not (if is_prototype one.entity.sort then is_prototype other.entity.sort else not
    (is_prototype other.entity.sort))))
    || (is_annotation one.entity.sort && is_annotation other.entity.sort
    && not (pointwise same_type (types one) (types other)))

abbrev pub twice : ℕ → ℕ → ScopeFault
twice m at = fault.Twice m at

abbrev pub unknown : ℕ → ℕ → ScopeFault
unknown m at = fault.Unknown m at

abbrev pub not_exported : ℕ → ℕ → ScopeFault
not_exported m at = fault.NotExported m at

abbrev pub clash : ℕ → ℕ → ScopeFault
clash m at = fault.Clash m at

-- entities that stand behind another with which they may not stand together
abbrev pub twice_among : (Declared → List Ty) → List Declared → List Declared → List ScopeFault
twice_among types before [] = []
twice_among types before (one ∷ others) =
    (if list_any (λ earlier. share_name earlier one && not (may_stand types earlier one)) before
    then twice one.entity.id.module one.at ∷ [] else [])
    ++ twice_among types (before ++ one ∷ []) others

-- names that stand behind an equal one
abbrev pub twice_listed : ℕ → List Ident → List Ident → List ScopeFault
twice_listed m before [] = []
twice_listed m before (name ∷ names) =
    (if list_any (λ (earlier : Ident). bytes_eq earlier.text name.text) before then twice m name.span.at ∷ [] else [])
    ++ twice_listed m (before ++ name ∷ []) names

-- the parameters, or fields, of a declaration
abbrev pub parameters_of : Declaration → List Parameter
parameters_of (material _ _ parameters _ _ _) = parameters
parameters_of (variant _ _ _ _ _ _ _) = []
parameters_of (function _ _ _ parameters _ _ _ _) = parameters
parameters_of (structure _ _ _ fields _) = fields
parameters_of (enumeration _ _ _ _ _) = []
parameters_of (annotation _ _ parameters _ _) = parameters

abbrev pub parameter_faults : ℕ → Declaration → List ScopeFault
parameter_faults m declaration =
    twice_listed m [] (map (λ (parameter : Parameter). parameter.name) (parameters_of declaration))

-- what stands under a name in a module
abbrev pub of_name : List Declared → ℕ → List ℕ → List Declared
of_name entities m name =
    filter (λ (one : Declared). (one.entity.id.module == m) && bytes_eq name one.entity.name) entities

abbrev pub exported_of : List Declared → ℕ → List ℕ → List Declared
exported_of entities m name = filter (λ (one : Declared). one.entity.exported) (of_name entities m name)

-- a name of an import that names nothing, or nothing that is exported
abbrev pub missing_name : ℕ → ℕ → List Declared → List Declared → List ScopeFault
missing_name m at [] exported = unknown m at ∷ []
missing_name m at (one ∷ more) [] = not_exported m at ∷ []
missing_name m at (one ∷ more) (other ∷ others) = []

abbrev pub listed_by : Option (List Ident) → List Ident
listed_by None = []
listed_by (Some names) = names

-- what else the name of a `using` names: what is declared in the module, and what earlier ones list of other modules
abbrev pub listed_before : List Declared → ℕ → List ℕ → List Bringing → List Declared
listed_before entities from name earlier =
    flat_map (λ (bringing : Bringing).
    if bringing.used && (not (bringing.from == from)
    && list_any (λ (listed : Ident). bytes_eq listed.text name) (listed_by bringing.names))
    then exported_of entities bringing.from name else [])
    earlier

-- a name that names nothing clashes with nothing
abbrev pub clashes : List Declared → List Declared → Bool
clashes [] others = false
clashes (one ∷ more) [] = false
clashes (one ∷ more) (other ∷ others) = not (are_overloads (one ∷ (more ++ other ∷ others)))

abbrev pub clash_of : List Declared → ℕ → List Bringing → Bringing → Ident → List ScopeFault
clash_of entities m earlier bringing name =
    if bringing.used
    && clashes (exported_of entities bringing.from name.text)
    (of_name entities m name.text ++ listed_before entities bringing.from name.text earlier)
    then clash m name.span.at ∷ [] else []

abbrev pub name_faults : List Declared → ℕ → List Bringing → Bringing → Ident → List ScopeFault
name_faults entities m earlier bringing name =
    missing_name m name.span.at (of_name entities bringing.from name.text)
    (exported_of entities bringing.from name.text)
    ++ clash_of entities m earlier bringing name

abbrev pub import_faults : List Declared → ℕ → List Bringing → List Bringing → List ScopeFault
import_faults entities m earlier [] = []
import_faults entities m earlier (bringing ∷ bringings) =
    flat_map (name_faults entities m earlier bringing) (listed_by bringing.names)
    ++ import_faults entities m (earlier ++ bringing ∷ []) bringings

-- those of a module, which has these entities; others stand in it and in those that it imports
abbrev pub module_faults : List ModuleName → (Declared → List Ty) → List Declared → ℕ → Member → List Declared
    → List ScopeFault
module_faults names types standing m member own =
    import_faults standing m [] (brought names member)
    ++ (twice_among types [] own ++ flat_map (parameter_faults m) member.tree.declarations)

abbrev pub faults_from : List ModuleName → (Declared → List Ty) → List Declared → ℕ → List Member
    → List (List Declared) → List ScopeFault
faults_from names types standing m [] pieces = []
faults_from names types standing m (member ∷ members) [] = []
faults_from names types standing m (member ∷ members) (own ∷ pieces) =
    module_faults names types standing m member own ++ faults_from names types standing (suc m) members pieces

-- all of them
abbrev pub scope_faults : List ModuleName → List Member → List ScopeFault
scope_faults names members =
    faults_from names (types_of names members) (standing names members) 0 members (pieces_of members)

-- by module, then by place, then by kind. Want of memory is none of them
abbrev pub fault_key : ScopeFault → ℕ × ℕ × ℕ
fault_key (fault.Twice m at) = (m, at, 0)
fault_key (fault.Unknown m at) = (m, at, 1)
fault_key (fault.NotExported m at) = (m, at, 2)
fault_key (fault.Clash m at) = (m, at, 3)
fault_key fault.OutOfMemory = (0, 0, 0)

abbrev pub key_less : ℕ × ℕ × ℕ → ℕ × ℕ × ℕ → Bool
key_less one other =
    ltb one.0 other.0 || ((one.0 == other.0) && (ltb one.1 other.1 || ((one.1 == other.1) && ltb one.2 other.2)))

abbrev pub is_less : ScopeFault → ScopeFault → Bool
is_less one other = key_less (fault_key one) (fault_key other)

-- one of them, and no other is less
pub record IsLeast (faults : List ScopeFault) (one : ScopeFault) : Type 0 where
  pub place : ℕ
  pub among : slice_get faults place ≡ Some one
  pub least : list_any (λ other. is_less other one) faults ≡ false

-- what is answered is the least of the faults, or want of memory
abbrev pub Fails : List ScopeFault → ScopeFault → Type 0
Fails faults fault.OutOfMemory = ⊤
Fails faults one = IsLeast faults one
