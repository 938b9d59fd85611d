-- Laws of the faults of imports, one behind another.
use Rattle.std.proofs.Common.{◌≡◌, ◌∙◌, ◌++◌, ◌∷◌, ◌==◌, ◌&&◌, not, [], ℕ, Bool, List}
use Rattle.std.proofs.Common.{Option, Some, refl, sym, ap}
use Rattle.std.specs.Prelude.{if◌then◌else◌}
use Rattle.std.specs.List.{list_any, flat_map}
use Rattle.std.specs.Str.{bytes_eq}
use Rattle.std.proofs.lemmas.List.{append-nil, append_assoc}
use Rattle.std.proofs.Math.Bool.{and-false}
use Rattle.mdl_syntax.specs.declared.names.Ident.{Ident}
use Rattle.scope_core.specs.declared.fault.ScopeFault.{ScopeFault}
use Rattle.scope_core.specs.declared.settled.Settled.{Settled}
use Rattle.scope_tables.specs.Entities.{Declared}
use Rattle.scope_tables.specs.Brought.{Bringing, bringing}
use Rattle.scope_tables.specs.Visible.{World}
use Rattle.scope_core.specs.ScopeFaults.{exported_of, listed_by, name_faults, import_faults}
use Rattle.scope_tables.specs.inside.Kinds.{both, kinds_among, has_none}
use Rattle.scope_core.specs.inside.Lessening.{least_onto}
use Rattle.scope_core.specs.inside.Noting.{Listings, exported_kinds, kinds_before, Remembers, partly}
use Rattle.scope_core.specs.inside.Noting.{NotesName, NotesNames, NotesBringing}
use Rattle.scope_core.specs.inside.Rounds.{AreSettled, last_standing}
use Rattle.scope_tables.proofs.KindLaws.{names_of}
use Rattle.scope_core.proofs.ListedLaws.{least_onto-append}
use Rattle.scope_core.proofs.ClashLaws.{before-push}
use Rattle.scope_core.proofs.UnderLaws.{both-none}

flat-push : (f : Ident → List ScopeFault) (names : List Ident) (name : Ident)
    → flat_map f (names ++ name ∷ []) ≡ flat_map f names ++ f name
flat-push f [] name = append-nil (f name)
flat-push f (one ∷ names) name =
    ap (λ l. f one ++ l) (flat-push f names name) ∙ sym (append_assoc (f one) (flat_map f names) (f name))

-- nothing is listed at first
pub names-start : (settled : Settled) (m number from : ℕ) (used : Bool) (listings : Listings)
    (least : Option ScopeFault)
    → NotesNames settled m number from used [] listings least listings least
names-start settled m number from used listings least = record {
  notes = λ world pieces before listed are same old. (old, refl);
}

-- one more name of a bringing
pub names-push : (settled : Settled) (m number from : ℕ) (used : Bool) (names : List Ident) (name : Ident)
    (old mid new : Listings) (least between after : Option ScopeFault)
    → NotesNames settled m number from used names old least mid between
    → NotesName settled m number from used name mid between new after
    → NotesNames settled m number from used (names ++ name ∷ []) old least new after
names-push settled m number from used names name old mid new least between after first next = record {
  notes = λ world pieces before listed are same was.
      let one = first.notes world pieces before listed are same was in
      let two = next.notes world pieces before names listed are same one.0 in
      let faults = name_faults (last_standing world pieces) number before (bringing listed used from) in (
        two.0,
        two.1 ∙ ap (λ l. least_onto l (faults name)) one.1
            ∙ sym (least_onto-append least (flat_map faults names) (faults name))
            ∙ ap (least_onto least) (sym (flat-push faults names name)),
      );
}

same-kinds : (entities : List Declared) (before more : List Bringing) (listings : Listings)
    → ((from : ℕ) (name : List ℕ) → kinds_before entities from name more ≡ kinds_before entities from name before)
    → Remembers entities before listings → Remembers entities more listings
same-kinds entities before more listings same old = record {
  elsewhere = λ from name. old.elsewhere from name ∙ ap (λ k. not (has_none k)) (sym (same from name));
  kinds_are = λ from name. old.kinds_are from name
      ∙ ap (both (exported_kinds entities from name)) (sym (same from name));
}

-- a bringing of which no name was listed yet, or that lists none
pub lists-none : (entities : List Declared) (before : List Bringing) (last : Bringing) (listings : Listings)
    → listed_by last.names ≡ [] → Remembers entities before listings → Remembers entities (before ++ last ∷ []) listings
lists-none entities before last listings none =
    same-kinds entities before (before ++ last ∷ []) listings
    (λ from name.
    before-push entities from name before last
    ∙ ap (λ l. both (kinds_before entities from name before)
    (kinds_among (names_of (if last.used
    && (not (last.from == from) && list_any (λ (listed : Ident). listed_is listed name) l)
    then exported last.from name else [])))) none
    ∙ ap (λ b. both (kinds_before entities from name before)
    (kinds_among (names_of (if last.used && b then exported last.from name else []))))
    (and-false (not (last.from == from)))
    ∙ ap (λ b. both (kinds_before entities from name before)
    (kinds_among (names_of (if b then exported last.from name else [])))) (and-false last.used)
    ∙ both-none (kinds_before entities from name before))
  where
    listed_is : Ident → List ℕ → Bool
    listed_is listed name = bytes_eq listed.text name

    exported : ℕ → List ℕ → List Declared
    exported m name = exported_of entities m name

-- a bringing of some names
pub brings-names : (settled : Settled) (m number from : ℕ) (used : Bool) (names : List Ident) (old new : Listings)
    (least after : Option ScopeFault) → NotesNames settled m number from used names old least new after
    → NotesBringing settled m number (bringing (Some names) used from) old least new after
brings-names settled m number from used names old new least after notes = record {
  notes = λ world pieces before are same was.
      notes.notes world pieces before (Some names) are same
      (lists-none (last_standing world pieces) before (partly from used []) old refl was);
}

pub brings-name : (settled : Settled) (m number from : ℕ) (used : Bool) (name : Ident) (old new : Listings)
    (least after : Option ScopeFault) → NotesName settled m number from used name old least new after
    → NotesBringing settled m number (bringing (Some (name ∷ [])) used from) old least new after
brings-name settled m number from used name old new least after notes =
    brings-names settled m number from used (name ∷ []) old new least after
    (names-push settled m number from used [] name old old new least least after
    (names-start settled m number from used old least) notes)

-- what was noted of some bringings
pub record AreBrought (settled : Settled) (m number : ℕ) (bringings : List Bringing) (least : Option ScopeFault)
    (listings : Listings) (after : Option ScopeFault) : Type 0 where
  pub noted : (world : World) (pieces : List (List Declared)) → AreSettled world pieces settled → number ≡ m
      → Remembers (last_standing world pieces) bringings listings
      × (after ≡ least_onto least (import_faults (last_standing world pieces) number [] bringings))

imports-push : (entities : List Declared) (m : ℕ) (before bringings : List Bringing) (last : Bringing)
    → import_faults entities m before (bringings ++ last ∷ [])
    ≡ import_faults entities m before bringings
    ++ flat_map (name_faults entities m (before ++ bringings) last) (listed_by last.names)
imports-push entities m before [] last =
    append-nil (flat_map (name_faults entities m before last) (listed_by last.names))
    ∙ ap (λ l. flat_map (name_faults entities m l last) (listed_by last.names)) (sym (append-nil before))
imports-push entities m before (first ∷ bringings) last =
    ap (λ l. flat_map (name_faults entities m before first) (listed_by first.names) ++ l)
    (imports-push entities m (before ++ first ∷ []) bringings last
    ∙ ap (λ l. import_faults entities m (before ++ first ∷ []) bringings
    ++ flat_map (name_faults entities m l last) (listed_by last.names)) (append_assoc before (first ∷ []) bringings))
    ∙ sym (append_assoc (flat_map (name_faults entities m before first) (listed_by first.names))
    (import_faults entities m (before ++ first ∷ []) bringings)
    (flat_map (name_faults entities m (before ++ first ∷ bringings) last) (listed_by last.names)))

pub brought-push : (settled : Settled) (m number : ℕ) (bringings : List Bringing) (last : Bringing) (old new : Listings)
    (start least after : Option ScopeFault) → AreBrought settled m number bringings start old least
    → NotesBringing settled m number last old least new after
    → AreBrought settled m number (bringings ++ last ∷ []) start new after
brought-push settled m number bringings last old new start least after brought notes = record {
  noted = λ world pieces are same.
      let one = brought.noted world pieces are same in
      let two = notes.notes world pieces bringings are same one.0 in
      let faults = flat_map (name_faults (last_standing world pieces) number bringings last) (listed_by last.names) in (
        two.0,
        two.1 ∙ ap (λ l. least_onto l faults) one.1
            ∙ sym (least_onto-append start (import_faults (last_standing world pieces) number [] bringings) faults)
            ∙ ap (least_onto start) (sym (imports-push (last_standing world pieces) number [] bringings last)),
      );
}
