-- The bases of the variants of a module, by what their names find.
use Rattle.std.specs.Prelude.{◌≡◌, ℕ, ◌==◌, ◌&&◌, Bool, false, List, Option, Some, None}
use Rattle.std.specs.Prelude.{if◌then◌else◌, length, slice_get, slice_index_or}
use Rattle.std.specs.Bool.{beq}
use Rattle.std.specs.Cmp.Lexicographic.{pointwise}
use Rattle.mdl_syntax.specs.declared.names.NameForm.{NameForm}
use Rattle.mdl_syntax.specs.declared.names.NameForm.TheVariants as form
use Rattle.module_set.specs.declared.module_name.ModuleName.{ModuleName}
use Rattle.scope_core.specs.declared.bases.Base.{Base}
use Rattle.scope_core.specs.declared.bases.Bases.{Bases}
use Rattle.scope_tables.specs.declared.declared.Takes as held_takes
use Rattle.scope_tables.specs.declared.declared.Takes.TheVariants as held
use Rattle.scope_core.specs.declared.settled.Scene.{Scene}
use Rattle.scope_tables.specs.declared.tables.Table.{Table}
use Rattle.scope_tables.specs.declared.tables.Place.{Place}
use Rattle.scope_tables.specs.Visible.{texts}
use Rattle.scope_tables.specs.inside.Finding.{found_places, parts_places}
use Rattle.scope_core.specs.inside.Settling.{takes_at, likely_base}

abbrev pub base_in : List Base → Option ℕ → Option Base
base_in bases None = None
base_in bases (Some n) = slice_get bases n

-- the base that is kept for the entity at a place
abbrev pub base_at : Bases → Place → Option Base
base_at bases place =
    if place.«module» == bases.«module»
    then base_in bases.bases.items (slice_index_or bases.indices.items place.index None) else None

-- this is what a base's name finds, and which of it the base may be
pub record IsBase (tables : List Table) (m : ℕ) (found : List Place) (base : Base) : Type 0 where
  pub found_is : base.found.items ≡ found
  pub likely_is : base.likely ≡ likely_base tables m found

abbrev pub IsBaseOf : List ModuleName → List Table → ℕ → held_takes.Takes → Base → Type 0
IsBaseOf names tables m (held.Based name) base =
    IsBase tables m (found_places names tables m name.now.form false) base
IsBaseOf names tables m _ base = Unit {0}

-- so is what is kept for the entity of an index of a module
pub record AreBasesOf (names : List ModuleName) (tables : List Table) (m : ℕ) (takes : List held_takes.Takes)
    (bases : Bases) : Type 0 where
  pub module_is : bases.«module» ≡ m
  pub are : (i : ℕ) (base : Base) (one : held_takes.Takes)
      → base_in bases.bases.items (slice_index_or bases.indices.items i None) ≡ Some base
      → slice_get takes i ≡ Some one → IsBaseOf names tables m one base

-- and at each place
pub record AreBases (scene : Scene) (tables : List Table) (bases : Bases) : Type 0 where
  pub are : (place : Place) (base : Base) (one : held_takes.Takes) → base_at bases place ≡ Some base
      → takes_at scene.written.now place ≡ Some one → IsBaseOf scene.names.now tables place.«module» one base

-- a name by its components, and whether it is absolute
abbrev pub Form : Type 0
Form = Bool × List (List ℕ)

abbrev pub same_form : Form → Form → Bool
same_form one other = beq one.0 other.0 && pointwise (pointwise ◌==◌) one.1 other.1

abbrev pub form_in : NameForm → Option Form
form_in (form.Word word) = None
form_in (form.Parts absolute parts) = Some (absolute, texts parts)

abbrev pub form_of : held_takes.Takes → Option Form
form_of (held.Based name) = form_in name.now.form
form_of _ = None

-- each base is that of the form with the same number
pub record AreForms (names : List ModuleName) (tables : List Table) (m : ℕ) (forms : List Form) (bases : List Base)
    : Type 0 where
  pub long : length bases ≡ length forms
  pub are : (n : ℕ) (one : Form) (base : Base) → slice_get forms n ≡ Some one → slice_get bases n ≡ Some base
      → IsBase tables m (parts_places names tables m one.0 one.1 false) base

-- an entity is noted, with the number of its base's form
pub record NotesBase (names : List ModuleName) (tables : List Table) (m : ℕ) (takes : held_takes.Takes)
    (old : List Form) (bases : List Base) (number : Option ℕ) (new : List Form) (after : List Base) : Type 0 where
  pub notes : AreForms names tables m old bases → AreForms names tables m new after
  pub kept : (n : ℕ) (one : Form) → slice_get old n ≡ Some one → slice_get new n ≡ Some one
  pub number_is : (n : ℕ) → number ≡ Some n → (one : Form) × (form_of takes ≡ Some one) × (slice_get new n ≡ Some one)

-- so many entities are noted
pub record AreNotedBases (names : List ModuleName) (tables : List Table) (m : ℕ) (takes : List held_takes.Takes)
    (count : ℕ) (forms : List Form) (bases : List Base) (numbers : List (Option ℕ)) : Type 0 where
  pub forms_are : AreForms names tables m forms bases
  pub long : length numbers ≡ count
  pub numbers_are : (i n : ℕ) (one : held_takes.Takes) → slice_index_or numbers i None ≡ Some n
      → slice_get takes i ≡ Some one → (form : Form) × (form_of one ≡ Some form) × (slice_get forms n ≡ Some form)
