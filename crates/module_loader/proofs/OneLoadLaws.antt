-- Files have one list of modules, or one fault.
use Rattle.std.proofs.Common.{◌≡◌, ◌⊎◌, inl, inr, ℕ, suc, zero, ◌+◌, ◌≤◌, ◌<◌, ◌==◌, Bool, true, false, List, [], ◌∷◌}
use Rattle.std.proofs.Common.{◌++◌}
use Rattle.std.proofs.Common.{length, map, slice_get, replicate, refl, sym, ap, ◌∙◌, arith, Option, Some, None}
use Rattle.std.proofs.Common.{is_some}
use Rattle.std.specs.List.{AllByRecursion, slice_index_or}
use Rattle.std.specs.Option.{option_map}
use Rattle.std.specs.Cmp.Lexicographic.{pointwise}
use Rattle.std.proofs.lemmas.Bool.{true≢false, cases_lt}
use Rattle.std.proofs.lemmas.List.{length-append, length_push, length-map}
use Rattle.std.proofs.lemmas.Option.{same_Some, slice_get-map, slice_get_within, slice_get_cases}
use Rattle.case_table.specs.ListLaws.{slice_get-append}
use Rattle.io_edge.specs.declared.place.Place.{Place}
use Rattle.mdl_lexer.specs.declared.token.Token.{Token}
use Rattle.mdl_lexer.specs.declared.token.LexFault.{LexFault}
use Rattle.mdl_lexer.specs.declared.token.LexFault.TheVariants as lexical
use Rattle.mdl_lexer.specs.Lexes.{HasTokens}
use Rattle.mdl_lexer.specs.OneLexing.{IsFault}
use Rattle.mdl_lexer.proofs.LexLaws.{lexing_is_one}
use Rattle.mdl_syntax.specs.Heights.{most_height}
use Rattle.mdl_syntax.specs.declared.imports.ModuleRef.{ModuleRef}
use Rattle.expression_grammar.specs.declared.fault.ParseFault.{ParseFault}
use Rattle.expression_grammar.specs.declared.fault.ParseFault.TheVariants as grammar
use Rattle.module_grammar.specs.ModuleReadings.{ModuleReading, HasModuleReading, a_module}
use Rattle.module_grammar.specs.ModuleReadings as readings
use Rattle.mdl_grammar.specs.Answers.{HasModuleFault}
use Rattle.module_set.specs.declared.module_name.ModuleName.{ModuleName}
use Rattle.module_set.specs.Names.{named}
use Rattle.module_set.specs.Imports.{components}
use Rattle.module_set.specs.Cycles.{IsFirstCycle, HasNoCycle, is_cycle}
use Rattle.module_set.specs.Members.{Member}
use Rattle.module_loader.specs.declared.fault.LoadFault.{LoadFault}
use Rattle.module_loader.specs.declared.fault.LoadFault.TheVariants as fault
use Rattle.module_loader.specs.Files.{Packages, text_of, most_module}
use Rattle.module_loader.specs.Members.{IsMember, past_top}
use Rattle.module_loader.specs.TextFaults.{lexical_place, place_in, byte_of, token_of}
use Rattle.module_loader.specs.Closure.{IsClosure, Front, known, next}
use Rattle.module_loader.specs.Closure as closure
use Rattle.module_loader.specs.LoadFaults.{HasLoadFault, StandsBehind, IsCycleOf, links, importer, name_at}
use Rattle.module_loader.specs.LoadFaults.{most_modules}
use Rattle.module_loader.specs.Loads.{AreLoaded}
use Rattle.module_loader.specs.OneLoad.{OneLoad}
use Rattle.module_loader.specs.inside.Distances.{Measured, Round, reached, out, away, way_from}
use Rattle.module_loader.proofs.ContentLaws.{all-at}
use Rattle.module_loader.proofs.DistanceLaws.{round-none, round-next, round-last}
use Rattle.module_loader.proofs.WayLaws.{NoneBelow, first-found, none-here, none-left}
use Rattle.module_loader.proofs.FrontLaws.{OneReading, member-one, member_names, front-members, front-closed}
use Rattle.module_loader.proofs.FrontLaws.{front-begins}
use Rattle.module_loader.proofs.FrontLaws.{begins-known}
use Rattle.module_loader.proofs.OneFaultLaws.{ahead-whole, Follows, View, view, clean, none-there, none-more}
use Rattle.module_loader.proofs.OneFaultLaws.{missing, present, many, ended, faults-one}

-- Modules that are loaded.

closures-one : (packages : Packages) (first one other : List ModuleName) → IsClosure packages first one →
    IsClosure packages first other → one ≡ other
closures-one packages first one other a b =
    let behind = a.shortest other b.solves in
    let too = b.shortest one a.solves in
    let lengths : length other ≤ length one =
    omega (arith, ap length behind.1, length-append one behind.0, ap length too.1, length-append other too.0) in
    sym (ahead-whole one other (record { more = behind.0; is = behind.1 }) lengths)

abbrev behind-first : List ModuleName → List ModuleName
behind-first [] = []
behind-first (own ∷ names) = names

members-one : OneReading → (packages : Packages) (one other : List Member) →
    AllByRecursion (IsMember packages) one → AllByRecursion (IsMember packages) other →
    member_names one ≡ member_names other → one ≡ other
members-one once packages [] [] a b names = refl
members-one once packages [] (member ∷ other) a b names = absurd (omega (arith, ap length names))
members-one once packages (member ∷ one) [] a b names = absurd (omega (arith, ap length names))
members-one once packages (member ∷ one) (own ∷ other) a b names =
    let here = member-one once packages member own a.0 b.0
    (same_Some member.name own.name (ap (λ names. slice_get names 0) names)) in
    let rest = members-one once packages one other a.1 b.1 (ap behind-first names) in
    λ i. here i ∷ rest i

lists-one : OneReading → (packages : Packages) (first : List ModuleName) (one other : List Member) →
    AreLoaded packages first one → AreLoaded packages first other → one ≡ other
lists-one once packages first one other a b =
    members-one once packages one other a.each b.each
    (closures-one packages first (member_names one) (member_names other) a.closure b.closure)

-- a front that isn't all of the loaded modules is followed
loaded-follows : OneReading → (packages : Packages) (first : List ModuleName) (all members : List Member)
    (name : ModuleName) → AreLoaded packages first all → Front packages first members →
    next packages first members ≡ Some name → Follows packages first members
loaded-follows once packages first all members name loaded front reached =
    let solves = loaded.closure.solves in
    let names = member_names all in
    let begins = front-begins once packages first names solves.imported solves.each solves.same members front in
    let behind = begins-known packages first names solves.imported members solves.same begins.imported_are in
    let at : slice_get names (length members) ≡ Some name =
    ap (λ names. slice_get names (length members)) behind.is
    ∙ slice_get-append (known packages first members) behind.more (length members) name reached in
    let within = slice_get_within names (length members) name at in
    by within (slice_get_cases all (length members)).1 at
  where
    by : length members < length (member_names all) →
        ((member : Member) × (length members < length all) × (slice_get all (length members) ≡ Some member)
        × (slice_index_or all (length members) member ≡ member))
        ⊎ ((length all ≤ length members) × (slice_get all (length members) ≡ None)) →
        slice_get (member_names all) (length members) ≡ Some name → Follows packages first members
    by within (inl (member, _, here, _)) at =
        let named_so : Some member.name ≡ Some name =
        sym (ap (λ found. option_map (λ (one : Member). one.name) found) here)
        ∙ (sym (slice_get-map (λ (one : Member). one.name) all (length members)) ∙ at) in
        record {
          few = omega (arith, within, loaded.few, length-map all (λ (one : Member). one.name));
          member = member;
          reached = reached ∙ sym named_so;
          is = all-at (IsMember packages) all (length members) member loaded.each here;
          top = all-at (λ (one : Member). past_top packages one ≡ None) all (length members) member loaded.inside here;
        }
    by within (inr (past_end, _)) at =
        absurd (omega (arith, past_end, within, length-map all (λ (one : Member). one.name)))

-- behind a front with nothing behind it no more is known
nothing-more : (packages : Packages) (first : List ModuleName) (members : List Member) →
    next packages first members ≡ None → length (known packages first members) ≤ length members
nothing-more packages first members end = by (slice_get_cases (known packages first members) (length members)).1
  where
    by : ((name : ModuleName) × (length members < length (known packages first members))
        × (slice_get (known packages first members) (length members) ≡ Some name)
        × (slice_index_or (known packages first members) (length members) name ≡ name))
        ⊎ ((length (known packages first members) ≤ length members)
        × (slice_get (known packages first members) (length members) ≡ None)) →
        length (known packages first members) ≤ length members
    by (inl (name, _, here, _)) = absurd (none-there packages first members name end here)
    by (inr (whole, _)) = whole

-- such a front is all of the loaded modules
loaded-whole : OneReading → (packages : Packages) (first : List ModuleName) (all members : List Member) →
    AreLoaded packages first all → Front packages first members → next packages first members ≡ None →
    members ≡ all
loaded-whole once packages first all members loaded front end =
    let closed = front-closed once packages first members front (nothing-more packages first members end) in
    members-one once packages members all (front-members packages first members front).0 loaded.each
    (closures-one packages first (member_names members) (member_names all) closed loaded.closure)

no-cycle : (packages : Packages) (first : List ModuleName) (all members : List Member) (path : List ModuleName) →
    AreLoaded packages first all → members ≡ all → IsCycleOf packages members path → ⊥
no-cycle packages first all members path loaded same cycle =
    true≢false (sym cycle.is.is
    ∙ (ap (λ members. is_cycle (links packages members) cycle.cycle) same ∙ loaded.acyclic cycle.cycle))

-- behind a front of loaded modules no fault stands
loaded-clean : OneReading → (packages : Packages) (first : List ModuleName) (all members : List Member)
    (found : LoadFault) → AreLoaded packages first all → Front packages first members →
    View packages first members found → (ahead : Option ModuleName) → next packages first members ≡ ahead → ⊥
loaded-clean once packages first all members found loaded front stands (Some name) reached =
    clean once packages first members found
    (loaded-follows once packages first all members name loaded front reached) stands
loaded-clean once packages first all members found loaded front (missing asker place name is few absent) None end =
    none-there packages first members name end absent.0
loaded-clean once packages first all members found loaded front (present name bytes few has stands) None end =
    none-there packages first members name end has.reached
loaded-clean once packages first all members found loaded front (many is whole more) None end =
    none-more packages first members end more
loaded-clean once packages first all members found loaded front (ended path is _ cycle) None end =
    no-cycle packages first all members path loaded
    (loaded-whole once packages first all members loaded front end) cycle

-- There are loaded modules, or a fault.

measured-step : (all : List (List ℕ)) (to between : ℕ) (distances : List ℕ) → Round all to between distances →
    (out (length all) (reached (length all) to distances between all distances) < out (length all) distances →
    Round all to (between + 1) (reached (length all) to distances between all distances) →
    (found : List ℕ) × Measured all to found) → (found : List ℕ) × Measured all to found
measured-step all to between distances round later =
    by (pointwise ◌==◌ (reached (length all) to distances between all distances) distances) refl
  where
    by : (same : Bool) → pointwise ◌==◌ (reached (length all) to distances between all distances) distances ≡ same →
        (found : List ℕ) × Measured all to found
    by true is = (
      distances,
      round-last all to between distances (reached (length all) to distances between all distances) round refl is,
    )
    by false is =
        let less = round-next all to between distances (reached (length all) to distances between all distances) round
        refl is in
        later less.0 less.1

measured-from : (rounds : ℕ) (all : List (List ℕ)) (to between : ℕ) (distances : List ℕ) →
    Round all to between distances → out (length all) distances ≤ rounds → (found : List ℕ) × Measured all to found
measured-from zero all to between distances round few =
    measured-step all to between distances round (λ less next_round. absurd (omega (arith, few, less)))
measured-from (suc rounds) all to between distances round few =
    measured-step all to between distances round
    (λ less next_round.
    measured-from rounds all to (between + 1) (reached (length all) to distances between all distances) next_round
    (omega (arith, few, less)))

-- the distances of all modules from one
measured : (all : List (List ℕ)) (to : ℕ) → (found : List ℕ) × Measured all to found
measured all to =
    measured-from (out (length all) (replicate (length all) (length all))) all to 0
    (replicate (length all) (length all)) (round-none all to (replicate (length all) (length all)) refl) (omega arith)

abbrev CycleOrNone : List (List ℕ) → Type 0
CycleOrNone all = ((cycle : List ℕ) × IsFirstCycle all cycle) ⊎ HasNoCycle all

cycle-step : (all : List (List ℕ)) (start : ℕ) (distances : List ℕ) → Measured all start distances →
    NoneBelow all start → (NoneBelow all (start + 1) → CycleOrNone all) → CycleOrNone all
cycle-step all start distances is none later = by (cases_lt (away (length all) distances start) (length all))
  where
    by : (away (length all) distances start < length all) ⊎ (length all ≤ away (length all) distances start) →
        CycleOrNone all
    by (inl within) =
        inl (
          start ∷ way_from all distances (away (length all) distances start) start,
          first-found all start distances is none within,
        )
    by (inr past) = later (none-here all start distances is none past)

-- there is a first cycle from a start on, or none
cycle-from : (left : ℕ) (all : List (List ℕ)) (start : ℕ) → NoneBelow all start → length all ≤ start + left →
    CycleOrNone all
cycle-from zero all start none whole = inr (none-left all start none (omega (arith, whole)))
cycle-from (suc left) all start none whole =
    let distances = measured all start in
    cycle-step all start distances.0 distances.1 none
    (λ further. cycle-from left all (start + 1) further (omega (arith, whole)))

cycle-or-none : (all : List (List ℕ)) → CycleOrNone all
cycle-or-none all = cycle-from (length all) all 0 (λ first way over. omega arith) (omega arith)

abbrev Stands : Packages → List ModuleName → Type 0
Stands packages first =
    ((members : List Member) × AreLoaded packages first members)
    ⊎ ((found : LoadFault) × HasLoadFault packages first found)

behind : (packages : Packages) (first : List ModuleName) (members : List Member) (found : LoadFault) →
    Front packages first members → StandsBehind packages first members found → Stands packages first
behind packages first members found front stands =
    inr (found, record { members = members; front = front; stands = stands })

-- a front that is whole is loaded, or has a cycle
end-stands : OneReading → (packages : Packages) (first : List ModuleName) (members : List Member) →
    Front packages first members → length members ≤ most_modules → next packages first members ≡ None →
    CycleOrNone (links packages members) → Stands packages first
end-stands once packages first members front few end (inl (cycle, is)) =
    behind packages first members (fault.Cycle (map (λ index. name_at members index) cycle)) front
    (few, end, record { cycle = cycle; is = is; path_is = refl })
end-stands once packages first members front few end (inr none) =
    let good = front-members packages first members front in
    inl (
      members,
      record {
        closure = front-closed once packages first members front (nothing-more packages first members end);
        few = few;
        each = good.0;
        inside = good.1;
        acyclic = none;
      },
    )

-- a lexical fault has a place
fault-place : (bytes : List ℕ) (found : LexFault) → IsFault bytes found →
    (place : Place) × (lexical_place bytes found ≡ Some place)
fault-place bytes (lexical.NotUtf8 at) is = (_, refl)
fault-place bytes (lexical.BadToken at) is = (_, refl)
fault-place bytes (lexical.IntRange at) is = (_, refl)
fault-place bytes lexical.OutOfMemory is = absurd (is.0 refl)

module _ (once : OneReading) (packages : Packages) (first : List ModuleName) (members : List Member)
    (front : Front packages first members) (few : length members < most_modules) (name : ModuleName)
    (there : next packages first members ≡ Some name)
    (goes_on : (member : Member) → IsMember packages member → member.name ≡ name →
    past_top packages member ≡ None → Stands packages first)
  where
    -- the next module is read: its imports stay inside, or one goes past the top
    member-stands : (member : Member) → IsMember packages member → member.name ≡ name →
        (past : Option ModuleRef) → past_top packages member ≡ past → Stands packages first
    member-stands member is same None top = goes_on member is same top
    member-stands member is same (Some reference) top =
        behind packages first members
        (fault.Absent (Some member.name) (place_in member.text reference.span.at) (named (components reference)))
        front (
          few,
          inr (record {
            member = member;
            is = is;
            reached = there ∙ ap Some (sym same);
            past = record {
              reference = reference;
              goes = top;
              asker_is = refl;
              place_is = refl;
              name_is = refl;
            };
          }),
        )

    -- its words aren't accepted
    words-refused : (bytes : List ℕ) → text_of packages name ≡ Some bytes → length bytes ≤ most_module →
        (tokens : List Token) → HasTokens bytes tokens → (found : ParseFault) (at : ℕ) → token_of found ≡ Some at →
        HasModuleFault most_height tokens found → Stands packages first
    words-refused bytes text short tokens has found at stands is =
        behind packages first members (fault.Parse name found (place_in bytes (byte_of bytes tokens at))) front (
          few,
          (
            bytes,
            record { reached = there; found = text },
            short,
            record { tokens = tokens; has = has; stands = is; at = at; stands_at = stands; place_is = refl },
          ),
        )

    -- it has words
    words-stand : (bytes : List ℕ) → text_of packages name ≡ Some bytes → length bytes ≤ most_module →
        (tokens : List Token) → HasTokens bytes tokens → (reading : ModuleReading) →
        HasModuleReading most_height tokens reading → Stands packages first
    words-stand bytes text short tokens has (a_module tree) is =
        let member : Member = record { name = name; text = bytes; tree = tree } in
        member-stands member
        (record {
          found = text;
          short = short;
          accepted = record { tokens = tokens; has = has; reads = is };
        }) refl (past_top packages member) refl
    words-stand bytes text short tokens has (readings.bad_syntax declaration at) is =
        words-refused bytes text short tokens has (grammar.BadSyntax declaration at) at refl is
    words-stand bytes text short tokens has (readings.too_deep at) is =
        words-refused bytes text short tokens has (grammar.TooDeep at) at refl is
    words-stand bytes text short tokens has (readings.left_out at word) is =
        words-refused bytes text short tokens has (grammar.LeftOut at word) at refl is
    words-stand bytes text short tokens has (readings.statement_body at) is =
        words-refused bytes text short tokens has (grammar.StatementBody at) at refl is
    words-stand bytes text short tokens has (readings.other_version at) is =
        words-refused bytes text short tokens has (grammar.Version at) at refl is

    -- it has a text that isn't too long
    short-stands : (bytes : List ℕ) → text_of packages name ≡ Some bytes → length bytes ≤ most_module →
        ((tokens : List Token) × HasTokens bytes tokens) ⊎ ((found : LexFault) × IsFault bytes found) →
        Stands packages first
    short-stands bytes text short (inl (tokens, has)) =
        let reading = once most_height (omega arith) tokens in
        words-stand bytes text short tokens has reading.reading reading.has
    short-stands bytes text short (inr (found, is)) =
        let place = fault-place bytes found is in
        behind packages first members (fault.Lex name found place.0) front (
          few,
          (
            bytes,
            record { reached = there; found = text },
            short,
            record { stands = is; place_is = place.1 },
          ),
        )

    -- it has a text
    text-stands : (bytes : List ℕ) → text_of packages name ≡ Some bytes →
        (most_module < length bytes) ⊎ (length bytes ≤ most_module) → Stands packages first
    text-stands bytes text (inl long) =
        behind packages first members (fault.TooLong name) front
        (few, (bytes, record { reached = there; found = text }, long))
    text-stands bytes text (inr short) = short-stands bytes text short (lexing_is_one bytes).stands

    -- there is a next module
    next-stands : (text : Option (List ℕ)) → text_of packages name ≡ text → Stands packages first
    next-stands None none =
        behind packages first members
        (fault.Absent (importer packages first members name).0 (importer packages first members name).1 name) front
        (few, inl (there, none, refl))
    next-stands (Some bytes) text = text-stands bytes text (cases_lt most_module (length bytes))

stands-step : OneReading → (packages : Packages) (first : List ModuleName) (members : List Member) →
    Front packages first members → length members ≤ most_modules →
    ((member : Member) → Front packages first (members ++ member ∷ []) → length members < most_modules →
    Stands packages first) → (ahead : Option ModuleName) → next packages first members ≡ ahead →
    Stands packages first
stands-step once packages first members front few later None end =
    end-stands once packages first members front few end (cycle-or-none (links packages members))
stands-step once packages first members front few later (Some name) there =
    by (cases_lt (length members) most_modules)
  where
    by : (length members < most_modules) ⊎ (most_modules ≤ length members) → Stands packages first
    by (inl less) =
        next-stands once packages first members front less name there
        (λ member is same top.
        later member (closure.more members member front (there ∙ ap Some (sym same)) is top) less)
        (text_of packages name) refl
    by (inr whole) =
        behind packages first members fault.TooMany front (omega (arith, few, whole), ap is_some there)

-- behind a front of which so many more modules may come
stands-from : (left : ℕ) → OneReading → (packages : Packages) (first : List ModuleName) (members : List Member) →
    Front packages first members → length members + left ≡ most_modules → Stands packages first
stands-from zero once packages first members front few =
    stands-step once packages first members front (omega (arith, few))
    (λ member more less. absurd (omega (arith, few, less))) (next packages first members) refl
stands-from (suc left) once packages first members front few =
    stands-step once packages first members front (omega (arith, few))
    (λ member more less.
    stands-from left once packages first (members ++ member ∷ []) more
    (omega (arith, few, length_push members member))) (next packages first members) refl

pub one-load : OneReading → (packages : Packages) (first : List ModuleName) → OneLoad packages first
one-load once packages first = record {
  stands = stands-from most_modules once packages first [] closure.none refl;
  one_list = lists-one once packages first;
  one_fault = faults-one once packages first;
  not_both = λ members found loaded stands.
      loaded-clean once packages first members stands.members found loaded stands.front
      (view packages first stands.members found stands.stands) (next packages first stands.members) refl;
}
