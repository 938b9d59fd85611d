-- What is noted of the entities and imported names of a module, as its faults are found.
use Rattle.std.specs.Prelude.{◌≡◌, ◌<◌, ℕ, ◌==◌, ◌&&◌, ◌||◌, not, Bool, true, false, List, [], ◌∷◌, ◌++◌, map}
use Rattle.std.specs.Prelude.{Option, Some, None}
use Rattle.std.specs.Prelude.{if◌then◌else◌, length, slice_set, slice_index_or}
use Rattle.std.specs.List.{list_any, flat_map}
use Rattle.std.specs.Map.{lookup}
use Rattle.case_table.specs.Lists.{with_first}
use Rattle.std.specs.Bool.{beq}
use Rattle.mdl_syntax.specs.declared.names.Ident.{Ident}
use Rattle.scope_core.specs.declared.faults.Earlier.{Earlier}
use Rattle.scope_core.specs.declared.settled.Settled.{Settled}
use Rattle.scope_tables.specs.declared.entity.Sort.{Sort}
use Rattle.scope_tables.specs.declared.kinds.Kinds.{Kinds}
use Rattle.scope_core.specs.declared.fault.ScopeFault.{ScopeFault}
use Rattle.scope_tables.specs.Entities.{Declared}
use Rattle.scope_tables.specs.Brought.{Bringing, bringing}
use Rattle.scope_tables.specs.Visible.{World}
use Rattle.scope_core.specs.Standing.{is_prototype}
use Rattle.scope_core.specs.ScopeFaults.{unknown, not_exported, name_faults, listed_by, listed_before, exported_of}
use Rattle.scope_tables.specs.inside.Kinds.{no_kinds, kinds_of, both, kinds_among, has_none, go_together}
use Rattle.scope_core.specs.inside.Lessening.{lesser, least_onto}
use Rattle.scope_tables.specs.inside.Owning.{same_text}
use Rattle.scope_core.specs.inside.Rounds.{AreSettled, last_standing}

-- what is known of an entity: the numbers of its name and of what it takes, and whether it is a prototype
abbrev pub Mark : Type 0
Mark = ℕ × ℕ × Bool

abbrev pub same_mark : Mark → Mark → Bool
same_mark one other = ((one.0 == other.0) && (one.1 == other.1)) && beq one.2 other.2

abbrev pub is_twice : Kinds → Kinds → Bool → Bool
is_twice before together fresh = not (has_none before) && (not (go_together together) || not fresh)

abbrev pub kinds_at : List Kinds → ℕ → Kinds
kinds_at kinds name = slice_index_or kinds name no_kinds

-- an entity comes behind those before it
pub record NotesDeclared (name taken : ℕ) (sort : Sort) (fault : ScopeFault) (least : Option ScopeFault)
    (kinds : List Kinds) (seen : List Mark) (after : Option ScopeFault) (now : List Kinds)
    (keys : List Mark) : Type 0 where
  pub seen_is : keys ≡ with_first same_mark seen (name, taken, is_prototype sort)
  pub kinds_are : name < length kinds → now ≡ slice_set kinds name (both (kinds_at kinds name) (kinds_of sort))
  pub least_is : name < length kinds
      → after ≡ (if is_twice (kinds_at kinds name) (both (kinds_at kinds name) (kinds_of sort))
      (not (list_any (same_mark (name, taken, is_prototype sort)) seen))
      then lesser least fault else least)

-- a name that names nothing, or nothing that is exported
abbrev pub missing_by : ℕ → ℕ → Bool → Bool → List ScopeFault
missing_by m at true hidden = unknown m at ∷ []
missing_by m at false true = not_exported m at ∷ []
missing_by m at false false = []

-- what is listed under names
abbrev pub Listings : Type 0
Listings = List (List ℕ × Earlier)

abbrev pub listed_under : Listings → List ℕ → Option Earlier
listed_under listings name = lookup (same_text name) listings

-- a name of a module is listed
abbrev pub joined : Option Earlier → Kinds → ℕ → Earlier
joined None kinds m = record { «module» = m; more = false; kinds = kinds }
joined (Some known) kinds m = record {
  «module» = known.«module»;
  more = known.more || not (known.«module» == m);
  kinds = both known.kinds kinds;
}

pub record NotesListed (name : List ℕ) (kinds : Kinds) (m : ℕ) (old new : Listings) : Type 0 where
  pub own : listed_under new name ≡ Some (joined (listed_under old name) kinds m)
  pub others : (other : List ℕ) → same_text name other ≡ false → listed_under new other ≡ listed_under old other

-- whether it is listed of another module
abbrev pub is_elsewhere : Option Earlier → ℕ → Bool
is_elsewhere None from = false
is_elsewhere (Some earlier) from = earlier.more || not (earlier.«module» == from)

abbrev pub kinds_listed : Option Earlier → Kinds
kinds_listed None = no_kinds
kinds_listed (Some earlier) = earlier.kinds

abbrev pub is_clash : Kinds → Kinds → Option Earlier → ℕ → Bool
is_clash own exported listed from =
    if is_elsewhere listed from then not (go_together (both (both own exported) (kinds_listed listed)))
    else not (has_none own) && not (go_together (both own exported))

pub record NotesUsed (own exported : Kinds) (from : ℕ) (name : List ℕ) (fault : ScopeFault) (old : Listings)
    (least : Option ScopeFault) (new : Listings) (after : Option ScopeFault) : Type 0 where
  pub listed : NotesListed name exported from old new
  pub least_is : after ≡ (if is_clash own exported (listed_under old name) from then lesser least fault else least)

-- the sorts of what is exported under a name of a module
abbrev pub exported_kinds : List Declared → ℕ → List ℕ → Kinds
exported_kinds entities m name =
    kinds_among (map (λ (one : Declared). one.entity) (exported_of entities m name))

-- the sorts of what some bring by `using` under a name from other modules
abbrev pub kinds_before : List Declared → ℕ → List ℕ → List Bringing → Kinds
kinds_before entities from name bringings =
    kinds_among (map (λ (one : Declared). one.entity) (listed_before entities from name bringings))

-- the listings tell what these bring
pub record Remembers (entities : List Declared) (bringings : List Bringing) (listings : Listings) : Type 0 where
  pub elsewhere : (from : ℕ) (name : List ℕ)
      → is_elsewhere (listed_under listings name) from ≡ not (has_none (kinds_before entities from name bringings))
  pub kinds_are : (from : ℕ) (name : List ℕ)
      → both (exported_kinds entities from name) (kinds_listed (listed_under listings name))
      ≡ both (exported_kinds entities from name) (kinds_before entities from name bringings)

-- a bringing as far as these of its names
abbrev pub partly : ℕ → Bool → List Ident → Bringing
partly from used names = bringing (Some names) used from

-- what is wrong with a name of a bringing, behind others of it
pub record NotesName (settled : Settled) (m number from : ℕ) (used : Bool) (name : Ident) (old : Listings)
    (least : Option ScopeFault) (new : Listings) (after : Option ScopeFault) : Type 0 where
  pub notes : (world : World) (pieces : List (List Declared)) (before : List Bringing) (names : List Ident)
      (listed : Option (List Ident)) → AreSettled world pieces settled → number ≡ m
      → Remembers (last_standing world pieces) (before ++ partly from used names ∷ []) old
      → Remembers (last_standing world pieces) (before ++ partly from used (names ++ name ∷ []) ∷ []) new
      × (after ≡ least_onto least
      (name_faults (last_standing world pieces) number before (bringing listed used from) name))

-- what is wrong with the names of a bringing that are listed
pub record NotesNames (settled : Settled) (m number from : ℕ) (used : Bool) (names : List Ident) (old : Listings)
    (least : Option ScopeFault) (new : Listings) (after : Option ScopeFault) : Type 0 where
  pub notes : (world : World) (pieces : List (List Declared)) (before : List Bringing) (listed : Option (List Ident))
      → AreSettled world pieces settled → number ≡ m
      → Remembers (last_standing world pieces) (before ++ partly from used [] ∷ []) old
      → Remembers (last_standing world pieces) (before ++ partly from used names ∷ []) new
      × (after ≡ least_onto least
      (flat_map (name_faults (last_standing world pieces) number before (bringing listed used from)) names))

-- what is wrong with a bringing, behind others
pub record NotesBringing (settled : Settled) (m number : ℕ) (last : Bringing) (old : Listings)
    (least : Option ScopeFault) (new : Listings) (after : Option ScopeFault) : Type 0 where
  pub notes : (world : World) (pieces : List (List Declared)) (before : List Bringing)
      → AreSettled world pieces settled → number ≡ m → Remembers (last_standing world pieces) before old
      → Remembers (last_standing world pieces) (before ++ last ∷ []) new
      × (after ≡ least_onto least
      (flat_map (name_faults (last_standing world pieces) number before last) (listed_by last.names)))
