-- Which sorts of entities there are among some.
use Rattle.std.specs.Prelude.{◌||◌, ◌&&◌, not, Bool, false, List, [], ◌∷◌, map}
use Rattle.scope_tables.specs.declared.entity.Sort.{Sort}
use Rattle.scope_tables.specs.declared.kinds.Kinds.{Kinds}
use Rattle.scope_tables.specs.declared.entity.Entity.{Entity}
use Rattle.scope_tables.specs.declared.entity.EntityId.{EntityId}
use Rattle.scope_tables.specs.declared.looked.Looked.{Looked}
use Rattle.scope_tables.specs.declared.looked.Looked.TheVariants as looked
use Rattle.scope_tables.specs.Visible.{is_function, is_annotation}

abbrev pub no_kinds : Kinds
no_kinds = record { functions = false; annotations = false; others = false }

abbrev pub kinds_of : Sort → Kinds
kinds_of sort = record {
  functions = is_function sort;
  annotations = is_annotation sort;
  others = not (is_function sort || is_annotation sort);
}

abbrev pub both : Kinds → Kinds → Kinds
both one other = record {
  functions = one.functions || other.functions;
  annotations = one.annotations || other.annotations;
  others = one.others || other.others;
}

abbrev pub kinds_among : List Entity → Kinds
kinds_among [] = no_kinds
kinds_among (one ∷ others) = both (kinds_of one.sort) (kinds_among others)

abbrev pub has_none : Kinds → Bool
has_none kinds = not kinds.functions && (not kinds.annotations && not kinds.others)

abbrev pub go_together : Kinds → Bool
go_together kinds = not kinds.others && not (kinds.functions && kinds.annotations)

-- what is found of entities that go together or don't
abbrev pub answer : Bool → List EntityId → Looked
answer false (one ∷ other ∷ more) = looked.Clash one other
answer _ ids = looked.Found ids

abbrev pub ids_among : List Entity → List EntityId
ids_among entities = map (λ (entity : Entity). entity.id) entities

abbrev pub judged_among : List Entity → Looked
judged_among entities = answer (go_together (kinds_among entities)) (ids_among entities)

abbrev pub missing_among : List Entity → Looked
missing_among [] = looked.Unknown
missing_among (one ∷ more) = looked.NotExported

-- what is found, by what is found if everything is exported
abbrev pub looked_among : List Entity → List Entity → Looked
looked_among [] hidden = missing_among hidden
looked_among (one ∷ more) hidden = judged_among (one ∷ more)
