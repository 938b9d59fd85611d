-- Laws of imported names that stand for nothing, or for something else too.
use Rattle.std.proofs.Common.{◌≡◌, ◌∙◌, ◌++◌, ◌∷◌, ◌==◌, ◌&&◌, ◌||◌, not, [], ℕ, Bool, true, false, List}
use Rattle.std.proofs.Common.{Option, Some, None, refl, sym, ap, subst}
use Rattle.std.specs.Prelude.{if◌then◌else◌}
use Rattle.std.specs.List.{list_any}
use Rattle.std.specs.Str.{bytes_eq}
use Rattle.std.proofs.Math.Bool.{or-false, or-true, and-false, not-not}
use Rattle.std.proofs.lemmas.Bool.{false≢true, eqb-true, eqb-false, eq-eqb, ne_eqb, not-true}
use Rattle.std.proofs.lemmas.List.{map-append, append-nil}
use Rattle.std.proofs.lemmas.List.Folds.{list_any-append}
use Rattle.mdl_syntax.specs.declared.names.Ident.{Ident}
use Rattle.scope_core.specs.declared.faults.Earlier.{Earlier}
use Rattle.scope_tables.specs.declared.kinds.Kinds.{Kinds}
use Rattle.scope_core.specs.declared.fault.ScopeFault.{ScopeFault}
use Rattle.scope_core.specs.declared.settled.Settled.{Settled}
use Rattle.scope_tables.specs.declared.tables.Table.{Table}
use Rattle.scope_tables.specs.Entities.{Declared}
use Rattle.scope_tables.specs.Brought.{Bringing, bringing}
use Rattle.scope_tables.specs.Visible.{World}
use Rattle.scope_core.specs.ScopeFaults.{of_name, exported_of, missing_name, listed_by, listed_before, clashes}
use Rattle.scope_core.specs.ScopeFaults.{clash, clash_of, name_faults}
use Rattle.scope_tables.specs.inside.Kinds.{no_kinds, both, kinds_among, has_none, go_together}
use Rattle.scope_core.specs.inside.Lessening.{lesser, least_onto}
use Rattle.scope_core.specs.inside.Noting.{Listings, listed_under, joined, NotesListed, NotesUsed, is_elsewhere}
use Rattle.scope_core.specs.inside.Noting.{kinds_listed, is_clash}
use Rattle.scope_core.specs.inside.Noting.{exported_kinds, kinds_before, Remembers, partly, missing_by}
use Rattle.scope_core.specs.inside.Sums.{kinds_under}
use Rattle.scope_tables.specs.inside.Owning.{same_text}
use Rattle.scope_core.specs.inside.Rounds.{AreSettled, last_standing}
use Rattle.scope_tables.proofs.KindLaws.{names_of, overloads-are}
use Rattle.scope_core.proofs.ListedLaws.{least_onto-append}
use Rattle.scope_tables.proofs.OwnLaws.{same_text-tells}
use Rattle.scope_core.proofs.TwiceLaws.{some-sort, lessened}
use Rattle.scope_core.proofs.UnderLaws.{both-assoc, both-none, among-append, under-is}

or-flips : (a b : Bool) → (a || b) ≡ (b || a)
or-flips true true = refl
or-flips true false = refl
or-flips false true = refl
or-flips false false = refl

or-twice : (a b : Bool) → (a || (b || a)) ≡ (a || b)
or-twice true b = refl
or-twice false b = or-false b

or-again : (a b : Bool) → ((a || b) || b) ≡ (a || b)
or-again true b = refl
or-again false true = refl
or-again false false = refl

both-flips : (one other : Kinds) → both one other ≡ both other one
both-flips one other = λ k. record {
  functions = or-flips one.functions other.functions k;
  annotations = or-flips one.annotations other.annotations k;
  others = or-flips one.others other.others k;
}

both-twice : (one other : Kinds) → both one (both other one) ≡ both one other
both-twice one other = λ k. record {
  functions = or-twice one.functions other.functions k;
  annotations = or-twice one.annotations other.annotations k;
  others = or-twice one.others other.others k;
}

both-again : (one other : Kinds) → both (both one other) other ≡ both one other
both-again one other = λ k. record {
  functions = or-again one.functions other.functions k;
  annotations = or-again one.annotations other.annotations k;
  others = or-again one.others other.others k;
}

-- what has no sorts
none-is : (kinds : Kinds) → has_none kinds ≡ true → kinds ≡ no_kinds
none-is kinds none = λ k. record {
  functions = (parts kinds.functions kinds.annotations kinds.others none).0 k;
  annotations = (parts kinds.functions kinds.annotations kinds.others none).1 k;
  others = (parts kinds.functions kinds.annotations kinds.others none).2 k;
}
  where
    parts : (f a o : Bool) → (not f && (not a && not o)) ≡ true → (f ≡ false) × (a ≡ false) × (o ≡ false)
    parts false false false none = (refl, refl, refl)
    parts true a o none = absurd (false≢true none)
    parts false true o none = absurd (false≢true none)
    parts false false true none = absurd (false≢true none)

-- sorts beside some
none-beside : (one other : Kinds) → has_none other ≡ false → has_none (both one other) ≡ false
none-beside one other some =
    by one.functions one.annotations one.others other.functions other.annotations other.others some
  where
    by : (f a o g b p : Bool) → (not g && (not b && not p)) ≡ false
        → (not (f || g) && (not (a || b) && not (o || p))) ≡ false
    by true a o g b p some = refl
    by false true o true b p some = refl
    by false true o false b p some = refl
    by false false true true b p some = refl
    by false false true false true p some = refl
    by false false true false false p some = refl
    by false false false g b p some = some

some-kinds : (one : Declared) (more : List Declared) → has_none (kinds_among (names_of (one ∷ more))) ≡ false
some-kinds one more =
    not-true (has_none (kinds_among (names_of (one ∷ more)))) (some-sort one.entity.sort (kinds_among (names_of more)))

-- entities clash by their sorts
clashes-by : (exported others : List Declared)
    → clashes exported others
    ≡ (not (has_none (kinds_among (names_of exported))) && (not (has_none (kinds_among (names_of others)))
    && not (go_together (both (kinds_among (names_of exported)) (kinds_among (names_of others))))))
clashes-by [] others = refl
clashes-by (one ∷ more) [] = sym (and-false (not (has_none (kinds_among (names_of (one ∷ more))))))
clashes-by (one ∷ more) (other ∷ others) =
    ap not (sym (overloads-are (one ∷ (more ++ other ∷ others)))
    ∙ ap (λ l. go_together (kinds_among l)) (map-append (λ (one : Declared). one.entity) (one ∷ more) (other ∷ others))
    ∙ ap go_together (among-append (names_of (one ∷ more)) (names_of (other ∷ others))))
    ∙ (λ k. not (sym (some-kinds one more) k) && (not (sym (some-kinds other others) k)
    && not (go_together (both (kinds_among (names_of (one ∷ more))) (kinds_among (names_of (other ∷ others)))))))

-- what is noted of a name that is listed is what clashes
pub clash-by : (own exported kept : Kinds) (listed : Option Earlier) (from : ℕ)
    → is_elsewhere listed from ≡ not (has_none kept)
    → both exported (kinds_listed listed) ≡ both exported kept
    → is_clash own exported listed from
    ≡ (not (has_none (both own kept)) && not (go_together (both exported (both own kept))))
clash-by own exported kept listed from elsewhere kinds = by (has_none kept) refl
  where
    order : both (both own exported) (kinds_listed listed) ≡ both exported (both own kept)
    order =
        both-assoc own exported (kinds_listed listed)
        ∙ ap (both own) kinds
        ∙ sym (both-assoc own exported kept)
        ∙ ap (λ k. both k kept) (both-flips own exported)
        ∙ both-assoc exported own kept

    by : (b : Bool) → has_none kept ≡ b → is_clash own exported listed from
        ≡ (not (has_none (both own kept)) && not (go_together (both exported (both own kept))))
    by true none =
        ap (λ b. if b then not (go_together (both (both own exported) (kinds_listed listed)))
        else not (has_none own) && not (go_together (both own exported))) (elsewhere ∙ ap not none)
        ∙ (λ k. not (has_none (sym (both-none own) k)) && not (go_together ((both-flips own exported
        ∙ ap (both exported) (sym (both-none own))) k)))
        ∙ ap (λ k. not (has_none (both own k)) && not (go_together (both exported (both own k))))
        (sym (none-is kept none))
    by false some =
        ap (λ b. if b then not (go_together (both (both own exported) (kinds_listed listed)))
        else not (has_none own) && not (go_together (both own exported))) (elsewhere ∙ ap not some)
        ∙ ap (λ k. not (go_together k)) order
        ∙ ap (λ b. not b && not (go_together (both exported (both own kept)))) (sym (none-beside own kept some))

-- what one bringing lists under a name, of another module
abbrev pub brings_of : List Declared → ℕ → List ℕ → Bringing → List Declared
brings_of entities from name bringing =
    if bringing.used && (not (bringing.from == from)
    && list_any (λ (listed : Ident). bytes_eq listed.text name) (listed_by bringing.names))
    then exported_of entities bringing.from name else []

pub before-push : (entities : List Declared) (from : ℕ) (name : List ℕ) (before : List Bringing) (last : Bringing)
    → kinds_before entities from name (before ++ last ∷ [])
    ≡ both (kinds_before entities from name before) (kinds_among (names_of (brings_of entities from name last)))
before-push entities from name [] last =
    ap (λ l. kinds_among (names_of l)) (append-nil (brings_of entities from name last))
before-push entities from name (first ∷ before) last =
    split (brings_of entities from name first) (listed_before entities from name (before ++ last ∷ []))
    ∙ ap (both (kinds_among (names_of (brings_of entities from name first))))
    (before-push entities from name before last)
    ∙ sym (both-assoc (kinds_among (names_of (brings_of entities from name first)))
    (kinds_before entities from name before)
    (kinds_among (names_of (brings_of entities from name last))))
    ∙ ap (λ k. both k (kinds_among (names_of (brings_of entities from name last))))
    (sym (split (brings_of entities from name first) (listed_before entities from name before)))
  where
    split : (one other : List Declared)
        → kinds_among (names_of (one ++ other)) ≡ both (kinds_among (names_of one)) (kinds_among (names_of other))
    split one other =
        ap kinds_among (map-append (λ (one : Declared). one.entity) one other)
        ∙ among-append (names_of one) (names_of other)

chosen : (b : Bool) (all : List Declared)
    → kinds_among (names_of (if b then all else [])) ≡ (if b then kinds_among (names_of all) else no_kinds)
chosen true all = refl
chosen false all = refl

-- what a bringing lists, as far as some of its names
abbrev part : List Declared → ℕ → Bool → ℕ → List ℕ → List Ident → Kinds
part entities from used f name names =
    if used && (not (from == f) && list_any (λ (listed : Ident). bytes_eq listed.text name) names)
    then exported_kinds entities from name else no_kinds

partly-push : (entities : List Declared) (from : ℕ) (used : Bool) (f : ℕ) (name : List ℕ)
    (before : List Bringing) (names : List Ident)
    → kinds_before entities f name (before ++ partly from used names ∷ [])
    ≡ both (kinds_before entities f name before) (part entities from used f name names)
partly-push entities from used f name before names =
    before-push entities f name before (partly from used names)
    ∙ ap (both (kinds_before entities f name before))
    (chosen (used && (not (from == f) && list_any (λ (listed : Ident). bytes_eq listed.text name) names))
    (exported_of entities from name))

-- a bringing lists nothing for its own module
own-part : (entities : List Declared) (from : ℕ) (used : Bool) (name : List ℕ) (before : List Bringing)
    (names : List Ident)
    → kinds_before entities from name (before ++ partly from used names ∷ []) ≡ kinds_before entities from name before
own-part entities from used name before names =
    partly-push entities from used from name before names
    ∙ ap (λ b. both (kinds_before entities from name before)
    (if used && (not b && list_any (λ (listed : Ident). bytes_eq listed.text name) names)
    then exported_kinds entities from name else no_kinds)) (eq-eqb from from refl)
    ∙ ap (λ b. both (kinds_before entities from name before)
    (if b then exported_kinds entities from name else no_kinds))
    (and-false used)
    ∙ both-none (kinds_before entities from name before)

-- one more name
one-more : (entities : List Declared) (from : ℕ) (used : Bool) (f : ℕ) (text : List ℕ) (before : List Bringing)
    (names : List Ident) (name : Ident)
    → kinds_before entities f text (before ++ partly from used (names ++ name ∷ []) ∷ [])
    ≡ (if used && (not (from == f) && same_text name.text text)
    then both (kinds_before entities f text (before ++ partly from used names ∷ []))
    (exported_kinds entities from text)
    else kinds_before entities f text (before ++ partly from used names ∷ []))
one-more entities from used f text before names name =
    partly-push entities from used f text before (names ++ name ∷ [])
    ∙ ap (λ b. both (kinds_before entities f text before)
    (if used && (not (from == f) && b) then exported_kinds entities from text else no_kinds))
    (list_any-append (λ (listed : Ident). bytes_eq listed.text text) names (name ∷ []))
    ∙ by used (not (from == f)) (list_any (λ (listed : Ident). bytes_eq listed.text text) names)
    (same_text name.text text)
    ∙ ap (λ k. if used && (not (from == f) && same_text name.text text)
    then both k (exported_kinds entities from text) else k) (sym (partly-push entities from used f text before names))
  where
    kept : Kinds
    kept = kinds_before entities f text before

    more : Kinds
    more = exported_kinds entities from text

    by : (u d a s : Bool)
        → both kept (if u && (d && (a || (s || false))) then more else no_kinds)
        ≡ (if u && (d && s) then both (both kept (if u && (d && a) then more else no_kinds)) more
        else both kept (if u && (d && a) then more else no_kinds))
    by false d a s = refl
    by true false a s = refl
    by true true true true = sym (both-again kept more)
    by true true true false = refl
    by true true false true = ap (λ k. both k more) (sym (both-none kept))
    by true true false false = refl

-- a name that isn't noted
pub skips-name : (entities : List Declared) (from : ℕ) (used : Bool) (before : List Bringing)
    (names : List Ident) (name : Ident) (listings : Listings)
    → (used && not (has_none (exported_kinds entities from name.text))) ≡ false
    → Remembers entities (before ++ partly from used names ∷ []) listings
    → Remembers entities (before ++ partly from used (names ++ name ∷ []) ∷ []) listings
skips-name entities from used before names name listings skipped old = record {
  elsewhere = λ f text. old.elsewhere f text ∙ ap (λ k. not (has_none k)) (sym (same f text));
  kinds_are = λ f text. old.kinds_are f text ∙ ap (both (exported_kinds entities f text)) (sym (same f text));
}
  where
    same : (f : ℕ) (text : List ℕ) → kinds_before entities f text (before ++ partly from used (names ++ name ∷ []) ∷ [])
        ≡ kinds_before entities f text (before ++ partly from used names ∷ [])
    same f text =
        one-more entities from used f text before names name
        ∙ by used refl (not (from == f)) (same_text name.text text) refl
      where
        kept : Kinds
        kept = kinds_before entities f text (before ++ partly from used names ∷ [])

        by : (u : Bool) → used ≡ u → (d s : Bool) → same_text name.text text ≡ s
            → (if u && (d && s) then both kept (exported_kinds entities from text) else kept) ≡ kept
        by false is d s this = refl
        by true is false s this = refl
        by true is true false this = refl
        by true is true true this =
            let none : has_none (exported_kinds entities from name.text) ≡ true =
            sym (not-not (has_none (exported_kinds entities from name.text)))
            ∙ ap not (ap (λ b. b && not (has_none (exported_kinds entities from name.text))) (sym is) ∙ skipped) in
            ap (both kept)
            (ap (exported_kinds entities from) (sym (same_text-tells.only name.text text this))
            ∙ none-is (exported_kinds entities from name.text) none)
            ∙ both-none kept

-- a name that is noted
pub notes-name : (entities : List Declared) (from : ℕ) (before : List Bringing)
    (names : List Ident) (name : Ident) (listings now : Listings)
    → has_none (exported_kinds entities from name.text) ≡ false
    → NotesListed name.text (exported_kinds entities from name.text) from listings now
    → Remembers entities (before ++ partly from true names ∷ []) listings
    → Remembers entities (before ++ partly from true (names ++ name ∷ []) ∷ []) now
notes-name entities from before names name listings now some notes old = record {
  elsewhere = λ f text. elsewhere_of f text (same_text name.text text) refl;
  kinds_are = λ f text. kinds_of_it f text (same_text name.text text) refl;
}
  where
    kept : ℕ → List ℕ → Kinds
    kept f text = kinds_before entities f text (before ++ partly from true names ∷ [])

    later : ℕ → List ℕ → Kinds
    later f text = kinds_before entities f text (before ++ partly from true (names ++ name ∷ []) ∷ [])

    own : Kinds
    own = exported_kinds entities from name.text

    still : (f : ℕ) (text : List ℕ) → same_text name.text text ≡ false → later f text ≡ kept f text
    still f text differ =
        one-more entities from true f text before names name
        ∙ ap (λ b. if not (from == f) && b then both (kept f text) (exported_kinds entities from text)
        else kept f text) differ
        ∙ ap (λ b. if b then both (kept f text) (exported_kinds entities from text) else kept f text)
        (and-false (not (from == f)))

    grown : (f : ℕ) → later f name.text ≡ (if not (from == f) then both (kept f name.text) own else kept f name.text)
    grown f =
        one-more entities from true f name.text before names name
        ∙ ap (λ b. if not (from == f) && b then both (kept f name.text) own else kept f name.text)
        (same_text-tells.itself name.text)
        ∙ ap (λ b. if b then both (kept f name.text) own else kept f name.text) (and-true (not (from == f)))
      where
        and-true : (b : Bool) → (b && true) ≡ b
        and-true true = refl
        and-true false = refl

    listed : Option Earlier
    listed = listed_under listings name.text

    elsewhere_then : (f : ℕ) (known : Option Earlier) → is_elsewhere known f ≡ not (has_none (kept f name.text))
        → (b : Bool) → (from == f) ≡ b
        → is_elsewhere (Some (joined known own from)) f
        ≡ not (has_none (if not b then both (kept f name.text) own else kept f name.text))
    elsewhere_then f None was true is = ap not is ∙ was
    elsewhere_then f None was false is =
        ap not is ∙ ap not (sym (none-beside (kept f name.text) own some))
    elsewhere_then f (Some known) was true is =
        ap (λ n. (known.more || not (known.module == n)) || not (known.module == f)) (eqb-true from f is)
        ∙ or-again known.more (not (known.module == f)) ∙ was
    elsewhere_then f (Some known) was false is =
        by (known.module == f) refl ∙ ap not (sym (none-beside (kept f name.text) own some))
      where
        by : (b : Bool) → (known.module == f) ≡ b
            → ((known.more || not (known.module == from)) || not (known.module == f)) ≡ true
        by true same =
            ap (λ b. (known.more || not b) || not (known.module == f))
            (ne_eqb known.module from (λ e. eqb-false from f is (sym e ∙ eqb-true known.module f same)))
            ∙ ap (λ b. b || not (known.module == f)) (or-true known.more)
        by false apart =
            ap (λ b. (known.more || not (known.module == from)) || not b) apart
            ∙ or-true (known.more || not (known.module == from))

    elsewhere_of : (f : ℕ) (text : List ℕ) (b : Bool) → same_text name.text text ≡ b
        → is_elsewhere (listed_under now text) f ≡ not (has_none (later f text))
    elsewhere_of f text false differ =
        ap (λ l. is_elsewhere l f) (notes.others text differ) ∙ old.elsewhere f text
        ∙ ap (λ k. not (has_none k)) (sym (still f text differ))
    elsewhere_of f text true same =
        subst (λ t. is_elsewhere (listed_under now t) f ≡ not (has_none (later f t)))
        (same_text-tells.only name.text text same)
        (ap (λ l. is_elsewhere l f) notes.own
        ∙ elsewhere_then f listed (old.elsewhere f name.text) (from == f) refl
        ∙ ap (λ k. not (has_none k)) (sym (grown f)))

    joins : (known : Option Earlier) → kinds_listed (Some (joined known own from)) ≡ both (kinds_listed known) own
    joins None = refl
    joins (Some known) = refl

    kinds_then : (f : ℕ) (b : Bool) → (from == f) ≡ b
        → both (exported_kinds entities f name.text) (both (kept f name.text) own)
        ≡ both (exported_kinds entities f name.text) (if not b then both (kept f name.text) own else kept f name.text)
    kinds_then f false is = refl
    kinds_then f true is =
        ap (λ n. both (exported_kinds entities n name.text) (both (kept f name.text) own)) (sym (eqb-true from f is))
        ∙ both-twice own (kept f name.text)
        ∙ ap (λ n. both (exported_kinds entities n name.text) (kept f name.text)) (eqb-true from f is)

    kinds_of_it : (f : ℕ) (text : List ℕ) (b : Bool) → same_text name.text text ≡ b
        → both (exported_kinds entities f text) (kinds_listed (listed_under now text))
        ≡ both (exported_kinds entities f text) (later f text)
    kinds_of_it f text false differ =
        ap (λ l. both (exported_kinds entities f text) (kinds_listed l)) (notes.others text differ)
        ∙ old.kinds_are f text
        ∙ ap (both (exported_kinds entities f text)) (sym (still f text differ))
    kinds_of_it f text true same =
        subst (λ t. both (exported_kinds entities f t) (kinds_listed (listed_under now t))
        ≡ both (exported_kinds entities f t) (later f t))
        (same_text-tells.only name.text text same)
        (ap (λ l. both (exported_kinds entities f name.text) (kinds_listed l)) notes.own
        ∙ ap (both (exported_kinds entities f name.text)) (joins listed)
        ∙ sym (both-assoc (exported_kinds entities f name.text) (kinds_listed listed) own)
        ∙ ap (λ k. both k own) (old.kinds_are f name.text)
        ∙ both-assoc (exported_kinds entities f name.text) (kept f name.text) own
        ∙ kinds_then f (from == f) refl
        ∙ ap (both (exported_kinds entities f name.text)) (sym (grown f)))

missing-is : (m at : ℕ) (all exported : List Declared)
    → missing_by m at (has_none (kinds_among (names_of all))) (has_none (kinds_among (names_of exported)))
    ≡ missing_name m at all exported
missing-is m at [] exported = refl
missing-is m at (one ∷ more) [] = ap (λ b. missing_by m at b true) (some-kinds one more)
missing-is m at (one ∷ more) (other ∷ others) = λ k. missing_by m at (some-kinds one more k) (some-kinds other others k)

-- what is missing by the tables
abbrev pub missed : List Table → ℕ → ℕ → Ident → List ScopeFault
missed tables number from name =
    missing_by number name.span.at (has_none (kinds_under tables from name.text false))
    (has_none (kinds_under tables from name.text true))

missed-is : (world : World) (pieces : List (List Declared)) (settled : Settled) (number from : ℕ) (name : Ident)
    → AreSettled world pieces settled
    → missed settled.tables.items number from name
    ≡ missing_name number name.span.at (of_name (last_standing world pieces) from name.text)
    (exported_of (last_standing world pieces) from name.text)
missed-is world pieces settled number from name are =
    (λ k. missing_by number name.span.at (has_none (under-is world pieces settled from name.text false are k))
    (has_none (under-is world pieces settled from name.text true are k)))
    ∙ missing-is number name.span.at (of_name (last_standing world pieces) from name.text)
    (exported_of (last_standing world pieces) from name.text)

-- a name that is listed clashes by its sorts
clash-is : (entities : List Declared) (number from : ℕ) (used : Bool) (listed : Option (List Ident))
    (before : List Bringing) (name : Ident)
    → has_none (exported_kinds entities from name.text) ≡ false
    → clash_of entities number before (bringing listed used from) name
    ≡ (if used && (not (has_none (both (kinds_among (names_of (of_name entities number name.text)))
    (kinds_before entities from name.text before)))
    && not (go_together (both (exported_kinds entities from name.text)
    (both (kinds_among (names_of (of_name entities number name.text)))
    (kinds_before entities from name.text before)))))
    then clash number name.span.at ∷ [] else [])
clash-is entities number from used listed before name some =
    ap (λ b. if used && b then clash number name.span.at ∷ [] else [])
    (clashes-by (exported_of entities from name.text)
    (of_name entities number name.text ++ listed_before entities from name.text before)
    ∙ ap (λ b. not b && (not (has_none (kinds_among (names_of others)))
    && not (go_together (both (exported_kinds entities from name.text) (kinds_among (names_of others)))))) some
    ∙ ap (λ k. not (has_none k) && not (go_together (both (exported_kinds entities from name.text) k)))
    (ap kinds_among (map-append (λ (one : Declared). one.entity) (of_name entities number name.text)
    (listed_before entities from name.text before))
    ∙ among-append (names_of (of_name entities number name.text))
    (names_of (listed_before entities from name.text before))))
  where
    others : List Declared
    others = of_name entities number name.text ++ listed_before entities from name.text before

-- a name that no `using` brings, or of which nothing is exported, clashes with nothing
no-clash : (entities : List Declared) (number from : ℕ) (used : Bool) (listed : Option (List Ident))
    (before : List Bringing) (name : Ident)
    → (used && not (has_none (exported_kinds entities from name.text))) ≡ false
    → clash_of entities number before (bringing listed used from) name ≡ []
no-clash entities number from false listed before name skipped = refl
no-clash entities number from true listed before name skipped =
    ap (λ b. if b then clash number name.span.at ∷ [] else [])
    (clashes-by (exported_of entities from name.text)
    (of_name entities number name.text ++ listed_before entities from name.text before)
    ∙ ap (λ b. b && (not (has_none (kinds_among (names_of others)))
    && not (go_together (both (exported_kinds entities from name.text) (kinds_among (names_of others)))))) skipped)
  where
    others : List Declared
    others = of_name entities number name.text ++ listed_before entities from name.text before

pub name-skipped : (world : World) (pieces : List (List Declared)) (settled : Settled) (number from : ℕ) (used : Bool)
    (before : List Bringing) (names : List Ident) (listed : Option (List Ident)) (name : Ident) (listings : Listings)
    (least mid : Option ScopeFault) → AreSettled world pieces settled
    → (used && not (has_none (kinds_under settled.tables.items from name.text true))) ≡ false
    → mid ≡ least_onto least (missed settled.tables.items number from name)
    → Remembers (last_standing world pieces) (before ++ partly from used names ∷ []) listings
    → Remembers (last_standing world pieces) (before ++ partly from used (names ++ name ∷ []) ∷ []) listings
    × (mid ≡ least_onto least (name_faults (last_standing world pieces) number before (bringing listed used from) name))
name-skipped world pieces settled number from used before names listed name listings least mid are skipped is old = (
  skips-name entities from used before names name listings none old,
  is ∙ ap (least_onto least)
      (missed-is world pieces settled number from name are
      ∙ sym (append-nil (missing_name number name.span.at (of_name entities from name.text)
      (exported_of entities from name.text)))
      ∙ ap (λ l. missing_name number name.span.at (of_name entities from name.text)
      (exported_of entities from name.text) ++ l)
      (sym (no-clash entities number from used listed before name none))),
)
  where
    entities : List Declared
    entities = last_standing world pieces

    none : (used && not (has_none (exported_kinds entities from name.text))) ≡ false
    none = ap (λ k. used && not (has_none k)) (sym (under-is world pieces settled from name.text true are)) ∙ skipped

listed-used : (world : World) (pieces : List (List Declared)) (settled : Settled) (m number from : ℕ)
    (before : List Bringing) (names : List Ident) (listed : Option (List Ident)) (name : Ident)
    (listings now : Listings)
    (least mid after : Option ScopeFault) → AreSettled world pieces settled → number ≡ m
    → has_none (kinds_under settled.tables.items from name.text true) ≡ false
    → mid ≡ least_onto least (missed settled.tables.items number from name)
    → NotesUsed (kinds_under settled.tables.items m name.text false)
    (kinds_under settled.tables.items from name.text true)
    from name.text (clash number name.span.at) listings mid now after
    → Remembers (last_standing world pieces) (before ++ partly from true names ∷ []) listings
    → Remembers (last_standing world pieces) (before ++ partly from true (names ++ name ∷ []) ∷ []) now
    × (after ≡ least_onto least (name_faults (last_standing world pieces) number before
    (bringing listed true from) name))
listed-used world pieces settled m number from before names listed name listings now least mid after are same
    some is notes old = (
      notes-name entities from before names name listings now some_here
          (subst (λ k. NotesListed name.text k from listings now) exported_is notes.listed) old,
      notes.least_is
          ∙ ap (λ b. if b then lesser mid (clash number name.span.at) else mid) test
          ∙ sym (lessened clashing mid (clash number name.span.at))
          ∙ ap (λ l. least_onto l (if clashing then clash number name.span.at ∷ [] else [])) is
          ∙ sym (least_onto-append least (missed settled.tables.items number from name)
          (if clashing then clash number name.span.at ∷ [] else []))
          ∙ ap (least_onto least)
          (λ k. missed-is world pieces settled number from name are k
          ++ sym (clash-is entities number from true listed before name some_here) k),
    )
  where
    entities : List Declared
    entities = last_standing world pieces

    exported_is : kinds_under settled.tables.items from name.text true ≡ exported_kinds entities from name.text
    exported_is = under-is world pieces settled from name.text true are

    own : Kinds
    own = kinds_among (names_of (of_name entities number name.text))

    own_is : kinds_under settled.tables.items m name.text false ≡ own
    own_is =
        under-is world pieces settled m name.text false are
        ∙ ap (λ n. kinds_among (names_of (of_name entities n name.text))) (sym same)

    some_here : has_none (exported_kinds entities from name.text) ≡ false
    some_here = ap has_none (sym exported_is) ∙ some

    kept : Kinds
    kept = kinds_before entities from name.text before

    clashing : Bool
    clashing = not (has_none (both own kept))
        && not (go_together (both (exported_kinds entities from name.text) (both own kept)))

    test : is_clash (kinds_under settled.tables.items m name.text false)
        (kinds_under settled.tables.items from name.text true)
        (listed_under listings name.text) from ≡ clashing
    test =
        (λ k. is_clash (own_is k) (exported_is k) (listed_under listings name.text) from)
        ∙ clash-by own (exported_kinds entities from name.text) kept (listed_under listings name.text) from
        (old.elsewhere from name.text ∙ ap (λ k. not (has_none k))
        (own-part entities from true name.text before names))
        (old.kinds_are from name.text
        ∙ ap (both (exported_kinds entities from name.text)) (own-part entities from true name.text before names))

pub name-listed : (world : World) (pieces : List (List Declared)) (settled : Settled) (m number from : ℕ) (used : Bool)
    (before : List Bringing) (names : List Ident) (listed : Option (List Ident)) (name : Ident)
    (listings now : Listings)
    (least mid after : Option ScopeFault) → AreSettled world pieces settled → number ≡ m → used ≡ true
    → has_none (kinds_under settled.tables.items from name.text true) ≡ false
    → mid ≡ least_onto least (missed settled.tables.items number from name)
    → NotesUsed (kinds_under settled.tables.items m name.text false)
    (kinds_under settled.tables.items from name.text true)
    from name.text (clash number name.span.at) listings mid now after
    → Remembers (last_standing world pieces) (before ++ partly from used names ∷ []) listings
    → Remembers (last_standing world pieces) (before ++ partly from used (names ++ name ∷ []) ∷ []) now
    × (after ≡ least_onto least (name_faults (last_standing world pieces) number before
    (bringing listed used from) name))
name-listed world pieces settled m number from false before names listed name listings now least mid after are same is =
    absurd (false≢true is)
name-listed world pieces settled m number from true before names listed name listings now least mid after are same is =
    listed-used world pieces settled m number from before names listed name listings now least mid after are same
