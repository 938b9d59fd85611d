-- The scopes of a set hold what its names mean.
use Rattle.std.proofs.Common.{◌≡◌, ◌∙◌, ◌++◌, ◌∷◌, [], ◌<◌, ◌≤◌, ◌+◌, ◌&&◌, ℕ, zero, suc, Bool, true, false, not}
use Rattle.std.proofs.Common.{List, Some, map, ltb, refl, sym, ap, subst, arith, slice_get, slice_index_or, length}
use Rattle.std.proofs.Common.{flat_map, Result, Ok, Err, IfErr}
use Rattle.std.specs.List.{list_any, list_all}
use Rattle.std.specs.Result.{IsErrAnd}
use Rattle.std.proofs.lemmas.Bool.{and_parts, or_parts, or_from, lt-ltb}
use Rattle.std.proofs.lemmas.List.{length-map, length-append}
use Rattle.std.proofs.lemmas.Simd.{map-map}
use Rattle.std.specs.declared.vec.Vec.{Vec}
use Rattle.std.specs.declared.alloc.Global.{Global}
use Rattle.mdl_syntax.specs.declared.modules.Module.{Module}
use Rattle.mdl_syntax.specs.Modules.{module_of, Declaration}
use Rattle.module_set.specs.declared.module_name.ModuleName.{ModuleName}
use Rattle.module_set.specs.declared.set.ModuleSet.{ModuleSet}
use Rattle.module_set.specs.Members.{Member, members_from, members_of}
use Rattle.module_set.specs.ModuleSets.{IsModuleSet, import_links}
use Rattle.case_table.specs.Lists.{firsts}
use Rattle.module_set.specs.Names.{same_name}
use Rattle.case_table.specs.ListLaws.{slice_get-push}
use Rattle.scope_tables.specs.declared.brought.Bringing as held
use Rattle.scope_core.specs.declared.fault.ScopeFault.{ScopeFault}
use Rattle.scope_tables.specs.declared.declared.Piece.{Piece}
use Rattle.scope_tables.specs.declared.declared.Written.{Written}
use Rattle.scope_tables.specs.declared.reach.Reach.{Reach}
use Rattle.scope_core.specs.declared.settled.Scene.{Scene}
use Rattle.scope_core.specs.declared.settled.Settled.{Settled}
use Rattle.scope_tables.specs.declared.tables.Table.{Table}
use Rattle.scope_tables.specs.Entities.{Declared, entities_from}
use Rattle.scope_tables.specs.PreludeEntities.{prelude}
use Rattle.scope_tables.specs.Brought.{Bringing, brought}
use Rattle.scope_tables.specs.Visible.{World, brought_at}
use Rattle.scope_core.specs.Standing.{pieces_of, world_of, stands}
use Rattle.scope_core.specs.ScopeFaults.{faults_from, module_faults, scope_faults, import_faults, twice_among}
use Rattle.scope_core.specs.ScopeFaults.{parameter_faults}
use Rattle.scope_tables.specs.inside.Order.{are_below}
use Rattle.scope_core.specs.inside.Holding.{Hold, AreTables, open_pieces}
use Rattle.scope_tables.specs.inside.Reaching.{bringing_of, froms, modules_of, AreReaches}
use Rattle.scope_core.specs.inside.Rounds.{Describes, AreSettled, last_types, last_standing, entities_in}
use Rattle.scope_core.specs.inside.Scoping.{ArePieces, AreInside, AreMade, AreWritten, NoneHidden, brought_all}
use Rattle.scope_core.specs.inside.Checking.{faults_of, faults_in}
use Rattle.scope_core.proofs.FoundIsLaws.{reaches-at}
use Rattle.scope_core.proofs.VisibleLaws.{open-are, tables-long}
use Rattle.scope_core.proofs.ScopingLaws.{entities-inside}
use Rattle.scope_core.proofs.VariantLaws.{prototypes-are}
use Rattle.scope_core.proofs.SetLaws.{members-count, links-are, links-within, pieces-are, brings-are}

none-past : (brings : List (List Bringing)) (n : ℕ) → length brings ≤ n → slice_index_or brings n [] ≡ []
none-past [] n past = refl
none-past (one ∷ brings) zero past = absurd (omega (arith, past))
none-past (one ∷ brings) (suc n) past = none-past brings n (omega (arith, past))

row-below : (count : ℕ) (brings : List (List Bringing)) (m : ℕ) → list_all (are_below count) (map froms brings) ≡ true
    → are_below count (froms (slice_index_or brings m [])) ≡ true
row-below count [] m all = refl
row-below count (one ∷ brings) zero all =
    (and_parts (are_below count (froms one)) (list_all (are_below count) (map froms brings)) all).0
row-below count (one ∷ brings) (suc m) all =
    row-below count brings m
    (and_parts (are_below count (froms one)) (list_all (are_below count) (map froms brings)) all).1

none-above : (count : ℕ) (ms : List ℕ) → are_below count ms ≡ true → list_any (λ n. not (ltb n count)) ms ≡ false
none-above count [] all = refl
none-above count (m ∷ ms) all =
    let apart = and_parts (ltb m count) (are_below count ms) all in
    or_from (not (ltb m count)) (list_any (λ n. not (ltb n count)) ms) (ap not apart.0) (none-above count ms apart.1)

all-below : (count : ℕ) (reaches : List Reach) → list_any (λ n. not (ltb n count)) (modules_of reaches) ≡ false
    → list_all (λ (reach : Reach). ltb reach.module count) reaches ≡ true
all-below count [] none = refl
all-below count (reach ∷ reaches) none =
    let apart = or_parts (not (ltb reach.module count)) (list_any (λ n. not (ltb n count)) (modules_of reaches)) none in
    ap (λ b. b && list_all (λ (reach : Reach). ltb reach.module count) reaches) (by (ltb reach.module count) apart.0)
    ∙ all-below count reaches apart.1
  where
    by : (b : Bool) → not b ≡ false → b ≡ true
    by true is = refl
    by false is = sym is

-- tables of a world in which modules import modules of the set hold its entities
pub tables-hold : (world : World) (tables : List Table) (pieces : List (List Declared))
    → AreTables world 0 tables pieces
    → length pieces ≡ suc (length world.names) → length world.brings ≡ length world.names
    → list_all (are_below (length world.names)) (map froms world.brings) ≡ true → Hold world tables pieces
tables-hold world tables pieces are count long below = record {
  are = are;
  count = tables-long world 0 tables pieces are ∙ count;
  alone = none-past world.brings (length world.names) (omega (arith, long));
  within = within;
}
  where
    within : (m : ℕ) (table : Table) → m < length world.names → slice_get tables m ≡ Some table
        → list_all (λ (reach : Reach). ltb reach.module (length world.names)) table.reaches.items ≡ true
    within m table less at =
        let reaches : AreReaches m (brought_at world m) table.reaches.items =
        reaches-at world tables pieces m table are at in
        all-below (length world.names) table.reaches.items
        (reaches.same (λ n. not (ltb n (length world.names)))
        ∙ or_from (not (ltb m (length world.names)))
        (list_any (λ n. not (ltb n (length world.names))) (froms (brought_at world m)))
        (ap not (lt-ltb m (length world.names) less))
        (none-above (length world.names) (froms (brought_at world m))
        (row-below (length world.names) world.brings m below)))

-- what isn't hidden stands
pub opens-stand : (world : World) (pieces : List (List Declared)) (settled : Settled) → AreSettled world pieces settled
    → open_pieces settled.tables.items pieces ≡ last_standing world pieces
opens-stand world pieces settled are =
    open-are world (stands (last_types world pieces) (entities_in pieces)) 0 settled.tables.items pieces
    are.closed.hold.are (λ n i one table at there. are.closed.hidden n i one table at there)

-- modules and members tell the same faults
faults-same : (names : List ModuleName) (world : World) (pieces : List (List Declared)) (brings : List (List Bringing))
    (m : ℕ) (ns : List ModuleName) (modules : List Module) (texts : List (List ℕ)) (ps : List (List Declared))
    → length modules ≡ length ns → length texts ≡ length ns → length modules ≤ length ps
    → ((j : ℕ) → slice_index_or pieces (m + j) [] ≡ slice_index_or ps j [])
    → ((j : ℕ) → slice_index_or brings (m + j) []
    ≡ slice_index_or (map (brought names) (members_from ns modules texts)) j [])
    → faults_in world pieces brings m modules
    ≡ faults_from names (last_types world pieces) (last_standing world pieces) m (members_from ns modules texts) ps
faults-same names world pieces brings m [] [] texts ps same long within own bring = refl
faults-same names world pieces brings m [] (one ∷ modules) texts ps same long within own bring =
    absurd (omega (arith, same))
faults-same names world pieces brings m (name ∷ ns) [] texts ps same long within own bring = absurd
    (omega (arith, same))
faults-same names world pieces brings m (name ∷ ns) (one ∷ modules) [] ps same long within own bring =
    absurd (omega (arith, long))
faults-same names world pieces brings m (name ∷ ns) (one ∷ modules) (text ∷ texts) [] same long within own bring =
    absurd (omega (arith, within))
faults-same names world pieces brings m (name ∷ ns) (one ∷ modules) (text ∷ texts) (p ∷ ps) same long within own bring =
    λ k. head k ++ faults-same names world pieces brings (suc m) ns modules texts ps (omega (arith, same))
    (omega (arith, long)) (omega (arith, within))
    (λ j. ap (λ n. slice_index_or pieces n []) (next j) ∙ own (suc j))
    (λ j. ap (λ n. slice_index_or brings n []) (next j) ∙ bring (suc j)) k
  where
    start : m ≡ m + 0
    start = omega arith

    next : (j : ℕ) → suc m + j ≡ m + suc j
    next j = omega arith

    member : Member
    member = record { name = name; text = text; tree = module_of one }

    here : slice_index_or brings m [] ≡ brought names member
    here = ap (λ n. slice_index_or brings n []) start ∙ bring 0

    piece : slice_index_or pieces m [] ≡ p
    piece = ap (λ n. slice_index_or pieces n []) start ∙ own 0

    head : faults_of world pieces (slice_index_or brings m []) m one
        ≡ module_faults names (last_types world pieces) (last_standing world pieces) m member p
    head =
        ap (λ b. faults_of world pieces b m one) here
        ∙ ap (λ own. import_faults (last_standing world pieces) m [] (brought names member)
        ++ (twice_among (last_types world pieces) [] own
        ++ flat_map (parameter_faults m) (module_of one).declarations)) piece

entities-long : (m : ℕ) (all : List (List Declaration)) → length (entities_from m all) ≡ length all
entities-long m [] = refl
entities-long m (one ∷ all) = ap suc (entities-long (suc m) all)

pub pieces-count : (members : List Member) → length (pieces_of members) ≡ suc (length members)
pieces-count members =
    let own = entities-long 0 (map (λ (member : Member). member.tree.declarations) members) in
    let same = length-map members (λ (member : Member). member.tree.declarations) in
    let all = length-append (entities_from 0 (map (λ (member : Member). member.tree.declarations) members))
    (prelude (length members) ∷ []) in
    omega (arith, own, same, all)

pub faults-are : (set : ModuleSet) → IsModuleSet set
    → faults_in (world_of set.names (members_of set)) (pieces_of (members_of set))
    (world_of set.names (members_of set)).brings 0 set.modules
    ≡ scope_faults set.names (members_of set)
faults-are set is =
    faults-same set.names (world_of set.names (members_of set)) (pieces_of (members_of set))
    (world_of set.names (members_of set)).brings 0 set.names set.modules set.texts (pieces_of (members_of set))
    is.whole.0 is.whole.1 fits (λ j. ap (λ n. slice_index_or (pieces_of (members_of set)) n []) (start j))
    (λ j. ap (λ n. slice_index_or (world_of set.names (members_of set)).brings n []) (start j))
  where
    start : (j : ℕ) → 0 + j ≡ j
    start j = omega arith

    fits : length set.modules ≤ length (pieces_of (members_of set))
    fits =
        let count = members-count set is in
        let same = is.whole.0 in
        let long = pieces-count (members_of set) in
        omega (arith, count, same, long)

-- behind the pieces of the modules stands that of the prelude
pub prelude-last : (members : List Member) (n : ℕ) → n ≡ length members
    → slice_get (pieces_of members) n ≡ Some (prelude n)
prelude-last members n is =
    let own = entities-long 0 (map (λ (member : Member). member.tree.declarations) members) in
    let same = length-map members (λ (member : Member). member.tree.declarations) in
    let pieces = entities_from 0 (map (λ (member : Member). member.tree.declarations) members) in
    let last : n ≡ length pieces = omega (arith, is, own, same) in
    ap (slice_get (pieces ++ prelude (length members) ∷ [])) last ∙ slice_get-push pieces (prelude (length members))
    ∙ ap (λ k. Some (prelude k)) (sym is)

-- what is brought comes from the same modules however it is held
pub sources-are : (brought : List (Vec held.Bringing Global))
    → map froms (map (λ (one : Vec held.Bringing Global). map bringing_of one.items) brought)
    ≡ map (λ (one : Vec held.Bringing Global). map (λ (bringing : held.Bringing). bringing.from) one.items) brought
sources-are [] = refl
sources-are (one ∷ brought) =
    λ k. map-map (λ (bringing : Bringing). bringing.from) bringing_of one.items k ∷ sources-are brought k

pub handed-on : {A : Type 0} (P : ScopeFault → Type 0) (answer : Result A ScopeFault) (own : ScopeFault)
    → IsErrAnd answer (λ found. found ≡ own) → P own → IfErr answer P
handed-on P (Ok one) own is h = absurd is
handed-on P (Err found) own is h = subst P (sym is) h

-- what is held of what modules bring
abbrev pub held_all : List (Vec held.Bringing Global) → List (List Bringing)
held_all brought = map (λ (one : Vec held.Bringing Global). map bringing_of one.items) brought

pub links-read : (set : ModuleSet) (brought : List (Vec held.Bringing Global)) → IsModuleSet set
    → held_all brought ≡ (world_of set.names (members_of set)).brings
    → map (λ (one : Vec held.Bringing Global). map (λ (bringing : held.Bringing). bringing.from) one.items) brought
    ≡ import_links set.names (members_of set)
links-read set brought is brings =
    sym (sources-are brought) ∙ ap (map froms) brings ∙ links-are set.names (members_of set)

-- the tables of a set
pub made-of : (set : ModuleSet) (brought : List (Vec held.Bringing Global)) (pieces : List Piece) (tables : List Table)
    (written : List Written) → IsModuleSet set
    → held_all brought ≡ (world_of set.names (members_of set)).brings
    → ArePieces (entities_from 0 (map (λ (one : Module). (module_of one).declarations) set.modules)
    ++ prelude (length set.modules) ∷ []) pieces
    → ((world : World) (all : List (List Declared)) → world.brings ≡ held_all brought → ArePieces all pieces
    → AreInside 0 all → AreMade world all tables written)
    → AreMade (world_of set.names (members_of set)) (pieces_of (members_of set)) tables written
made-of set brought pieces tables written is brings are made =
    subst (λ all. AreMade (world_of set.names (members_of set)) all tables written) (pieces-are set is)
    (made (world_of set.names (members_of set))
    (entities_from 0 (map (λ (one : Module). (module_of one).declarations) set.modules)
    ++ prelude (length set.modules) ∷ []) (sym brings) are
    (entities-inside (map (λ (one : Module). (module_of one).declarations) set.modules) (length set.modules)
    (sym (length-map set.modules (λ (one : Module). (module_of one).declarations)))))

brings-long : (set : ModuleSet) → IsModuleSet set
    → length (world_of set.names (members_of set)).brings ≡ length set.names
brings-long set is = length-map (members_of set) (brought set.names) ∙ members-count set is

-- they hold its entities
pub set-holds : (set : ModuleSet) (tables : List Table) (written : List Written) → IsModuleSet set
    → AreMade (world_of set.names (members_of set)) (pieces_of (members_of set)) tables written
    → Hold (world_of set.names (members_of set)) tables (pieces_of (members_of set))
set-holds set tables written is made =
    tables-hold (world_of set.names (members_of set)) tables (pieces_of (members_of set)) made.tables_are
    (pieces-count (members_of set) ∙ ap suc (members-count set is)) (brings-long set is)
    (ap (list_all (are_below (length set.names))) (links-are set.names (members_of set))
    ∙ ap (λ n. list_all (are_below n) (import_links set.names (members_of set))) (sym (links-long set is))
    ∙ links-within set is)
  where
    links-long : (set : ModuleSet) → IsModuleSet set
        → length (import_links set.names (members_of set)) ≡ length set.names
    links-long set is =
        ap length (sym (links-are set.names (members_of set)))
        ∙ length-map (map (brought set.names) (members_of set)) froms ∙ brings-long set is

-- what is written of them
pub set-describes : (set : ModuleSet) (scene : Scene) → IsModuleSet set → scene.names.now ≡ set.names
    → AreWritten (pieces_of (members_of set)) scene.written.now
    → Describes (world_of set.names (members_of set)) (pieces_of (members_of set)) scene
set-describes set scene is names written = record {
  names = names;
  written = written;
  given = prelude-last (members_of set) (length set.names) (sym (members-count set is));
  prototypes = prototypes-are (members_of set);
}

-- so all are settled
pub modules-settle : (set : ModuleSet) (brought : List (Vec held.Bringing Global)) (scene : Scene) (tables : List Table)
    (settled : Settled) → IsModuleSet set → held_all brought ≡ (world_of set.names (members_of set)).brings
    → scene.names.now ≡ set.names
    → AreMade (world_of set.names (members_of set)) (pieces_of (members_of set)) tables scene.written.now
    → ((world : World) (pieces : List (List Declared)) → Describes world pieces scene → Hold world tables pieces
    → NoneHidden tables → world.brings ≡ held_all brought → length world.brings ≡ length world.names
    → AreSettled world pieces settled)
    → AreSettled (world_of set.names (members_of set)) (pieces_of (members_of set)) settled
modules-settle set brought scene tables settled is brings names made settles =
    settles (world_of set.names (members_of set)) (pieces_of (members_of set))
    (set-describes set scene is names made.written_are)
    (set-holds set tables scene.written.now is made) made.none_hidden
    (sym brings) (brings-long set is)

pub modules-few : (set : ModuleSet) → IsModuleSet set → length set.modules < length (pieces_of (members_of set))
modules-few set is =
    let count = members-count set is in
    let same = is.whole.0 in
    let long = pieces-count (members_of set) in
    omega (arith, count, same, long)

-- what is read of a set, and settled
pub all-settled-of : (set : ModuleSet) (brought : List (Vec held.Bringing Global)) (pieces : List Piece)
    (tables : List Table) (scene : Scene) (settled : Settled) (names : List ModuleName) (modules : List Module)
    → IsModuleSet set → names ≡ set.names → modules ≡ set.modules
    → held_all brought ≡ brought_all (firsts same_name names) names modules
    → ArePieces (entities_from 0 (map (λ (one : Module). (module_of one).declarations) modules)
    ++ prelude (length modules) ∷ []) pieces
    → ((world : World) (all : List (List Declared)) → world.brings ≡ held_all brought → ArePieces all pieces
    → AreInside 0 all → AreMade world all tables scene.written.now)
    → scene.names.now ≡ names
    → ((world : World) (pieces : List (List Declared)) → Describes world pieces scene → Hold world tables pieces
    → NoneHidden tables → world.brings ≡ held_all brought → length world.brings ≡ length world.names
    → AreSettled world pieces settled)
    → (held_all brought ≡ (world_of set.names (members_of set)).brings)
    × AreWritten (pieces_of (members_of set)) scene.written.now
    × AreSettled (world_of set.names (members_of set)) (pieces_of (members_of set)) settled
all-settled-of set brought pieces tables scene settled names modules is names_are modules_are held are made shown
    settles =
    let brings : held_all brought ≡ (world_of set.names (members_of set)).brings =
    held ∙ (λ k. brought_all (firsts same_name (names_are k)) (names_are k) (modules_are k)) ∙ brings-are set is in
    let tabled : AreMade (world_of set.names (members_of set)) (pieces_of (members_of set)) tables scene.written.now =
    made-of set brought pieces tables scene.written.now is brings
    (subst (λ modules. ArePieces (entities_from 0 (map (λ (one : Module). (module_of one).declarations) modules)
    ++ prelude (length modules) ∷ []) pieces) modules_are are) made in (
      brings,
      tabled.written_are,
      modules-settle set brought scene tables settled is brings (shown ∙ names_are) tabled settles,
    )
