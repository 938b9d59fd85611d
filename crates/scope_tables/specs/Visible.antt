-- Which entities a name finds in a module.
use Rattle.std.specs.Prelude.{ℕ, ◌-◌, ◌==◌, ◌&&◌, ◌||◌, not, Bool, true, false, List, []}
use Rattle.std.specs.Prelude.{◌∷◌, length, drop}
use Rattle.std.specs.Prelude.{Option, Some, None, map, take, filter, slice_index_or, if◌then◌else◌}
use Rattle.std.specs.List.{list_any, list_all}
use Rattle.std.specs.Str.{bytes_eq}
use Rattle.std.specs.Cmp.Lexicographic.{pointwise}
use Rattle.case_table.specs.Tables.{names_of}
use Rattle.mdl_lexer.specs.WordTables.{reserved_in_use}
use Rattle.mdl_syntax.specs.declared.names.Ident.{Ident}
use Rattle.mdl_syntax.specs.declared.names.NameForm.{NameForm}
use Rattle.mdl_syntax.specs.declared.names.NameForm.TheVariants as form
use Rattle.module_set.specs.declared.module_name.ModuleName.{ModuleName}
use Rattle.scope_tables.specs.declared.entity.Entity.{Entity}
use Rattle.scope_tables.specs.declared.entity.EntityId.{EntityId}
use Rattle.scope_tables.specs.declared.entity.Sort.{Sort}
use Rattle.scope_tables.specs.declared.entity.Sort.TheVariants as sort
use Rattle.scope_tables.specs.declared.looked.Looked.{Looked}
use Rattle.scope_tables.specs.declared.looked.Looked.TheVariants as looked
use Rattle.scope_tables.specs.Entities.{Declared}
use Rattle.scope_tables.specs.Brought.{Bringing}

-- the names of the modules, and what each of them brings
pub record World : Type 0 where
  pub names : List ModuleName
  pub brings : List (List Bringing)

abbrev pub no_name : ModuleName
no_name = record { parts = [] }

abbrev pub name_at : World → ℕ → ModuleName
name_at world m = slice_index_or world.names m no_name

abbrev pub brought_at : World → ℕ → List Bringing
brought_at world m = slice_index_or world.brings m []

-- an entity is listed by its own name, or by that of its enum
abbrev pub lists : Option (List Ident) → Entity → Bool
lists None entity = true
lists (Some names) entity =
    list_any (λ (name : Ident). bytes_eq name.text entity.name || bytes_eq name.text entity.group) names

abbrev pub brings : Entity → Bringing → Bool
brings entity bringing = (bringing.from == entity.id.module) && lists bringing.names entity

abbrev pub uses : Entity → Bringing → Bool
uses entity bringing = bringing.used && brings entity bringing

-- the module's own, or brought in this way. What isn't exported is not brought, unless all is taken for exported
abbrev pub is_within : Bool → (Entity → Bringing → Bool) → World → ℕ → Entity → Bool
is_within all way world m entity =
    (entity.id.module == m) || ((all || entity.exported) && list_any (way entity) (brought_at world m))

-- by a name alone: what is the module's own, or used
abbrev pub is_near : Bool → World → ℕ → List ℕ → Entity → Bool
is_near all world m name entity = bytes_eq name entity.name && is_within all uses world m entity

-- the components that stand before a name are those of its module, or the last of them
abbrev pub fits : Bool → List (List ℕ) → List (List ℕ) → Bool
fits true front parts = pointwise bytes_eq front parts
fits false front parts = pointwise bytes_eq front (drop (length parts - length front) parts)

-- by a name with components before it: what is the module's own, or brought
abbrev pub is_far : Bool → World → ℕ → Bool → List (List ℕ) → List ℕ → Entity → Bool
is_far all world m absolute front name entity =
    bytes_eq name entity.name
    && (fits absolute front (name_at world entity.id.module).parts && is_within all brings world m entity)

abbrev pub is_given : World → List ℕ → Entity → Bool
is_given world name entity = bytes_eq name entity.name && (entity.id.module == length world.names)

-- how a reserved word is written
abbrev pub word_text : ℕ → List ℕ
word_text word = slice_index_or (names_of reserved_in_use) word []

abbrev pub those : (Entity → Bool) → List Declared → List Declared
those test entities = filter (λ (one : Declared). test one.entity) entities

-- of two lists the first that has a member
abbrev pub or_else : List Declared → List Declared → List Declared
or_else [] others = others
or_else (one ∷ more) others = one ∷ more

abbrev pub last_part : List (List ℕ) → List ℕ
last_part parts = slice_index_or parts (length parts - 1) []

abbrev pub front_parts : List (List ℕ) → List (List ℕ)
front_parts parts = take (length parts - 1) parts

abbrev pub found_near : Bool → World → List Declared → ℕ → List ℕ → List Declared
found_near all world entities m name =
    or_else (those (is_near all world m name) entities) (those (is_given world name) entities)

abbrev pub found_far : Bool → World → List Declared → ℕ → Bool → List (List ℕ) → List Declared
found_far all world entities m absolute parts =
    those (is_far all world m absolute (front_parts parts) (last_part parts)) entities

-- a name without a part finds nothing
abbrev pub found_parts : Bool → World → List Declared → ℕ → Bool → List (List ℕ) → List Declared
found_parts all world entities m absolute [] = []
found_parts all world entities m absolute (part ∷ parts) =
    if not absolute && (length (part ∷ parts) == 1)
    then found_near all world entities m (last_part (part ∷ parts))
    else found_far all world entities m absolute (part ∷ parts)

abbrev pub texts : List Ident → List (List ℕ)
texts parts = map (λ (part : Ident). part.text) parts

-- all that a name finds, in order. A reserved word finds what the prelude has of that name
abbrev pub found : Bool → World → List Declared → ℕ → NameForm → List Declared
found all world entities m (form.Parts absolute parts) = found_parts all world entities m absolute (texts parts)
found all world entities m (form.Word word) = those (is_given world (word_text word)) entities

-- functions may share a name, and annotations may
abbrev pub is_function : Sort → Bool
is_function sort.Function = true
is_function sort.Intrinsic = true
is_function _ = false

abbrev pub is_annotation : Sort → Bool
is_annotation sort.Annotation = true
is_annotation _ = false

abbrev pub are_overloads : List Declared → Bool
are_overloads entities =
    list_all (λ (one : Declared). is_function one.entity.sort) entities
    || list_all (λ (one : Declared). is_annotation one.entity.sort) entities

abbrev pub ids : List Declared → List EntityId
ids entities = map (λ (one : Declared). one.entity.id) entities

-- where nothing is found, it makes a difference whether something would be if all were exported
abbrev pub missing : List Declared → Looked
missing [] = looked.Unknown
missing (one ∷ more) = looked.NotExported

abbrev pub judged : List Declared → List Declared → Looked
judged [] hidden = missing hidden
judged (one ∷ []) hidden = looked.Found (one.entity.id ∷ [])
judged (one ∷ other ∷ more) hidden =
    if are_overloads (one ∷ other ∷ more)
    then looked.Found (ids (one ∷ other ∷ more))
    else looked.Clash one.entity.id other.entity.id

abbrev pub look : World → List Declared → ℕ → NameForm → Looked
look world entities m name = judged (found false world entities m name) (found true world entities m name)
