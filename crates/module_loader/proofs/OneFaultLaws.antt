-- Behind a front of the closure at most one fault stands, and none where it is followed.
use Rattle.std.proofs.Common.{◌≡◌, ◌⊎◌, inl, inr, ℕ, ◌+◌, ◌≤◌, ◌<◌, Bool, true, false, List, [], ◌∷◌, ◌++◌, length}
use Rattle.std.proofs.Common.{map, refl, sym, ap, ◌∙◌, subst, arith, Option, Some, None, is_some}
use Rattle.std.proofs.lemmas.Bool.{true≢false, cases_lt}
use Rattle.std.proofs.lemmas.List.{append_assoc, append-nil, length-append, length_push}
use Rattle.std.proofs.lemmas.Option.{same_Some, none-some}
use Rattle.io_edge.specs.declared.place.Place.{Place}
use Rattle.mdl_lexer.specs.declared.token.Token.{Token}
use Rattle.mdl_lexer.specs.declared.token.LexFault.{LexFault}
use Rattle.mdl_lexer.specs.Lexes.{HasTokens}
use Rattle.mdl_lexer.proofs.LexLaws.{lexing_is_one}
use Rattle.mdl_syntax.specs.Heights.{most_height}
use Rattle.mdl_syntax.specs.Modules.{ModuleTree}
use Rattle.mdl_syntax.specs.declared.imports.ModuleRef.{ModuleRef}
use Rattle.expression_grammar.specs.declared.fault.ParseFault.{ParseFault}
use Rattle.expression_grammar.specs.declared.fault.ParseFault.TheVariants as grammar
use Rattle.module_grammar.specs.ModuleReadings.{ModuleReading, HasModuleReading, IsModuleTree, a_module}
use Rattle.module_grammar.specs.ModuleReadings as readings
use Rattle.mdl_grammar.specs.Answers.{HasModuleFault}
use Rattle.module_set.specs.declared.module_name.ModuleName.{ModuleName}
use Rattle.module_set.specs.Names.{named}
use Rattle.module_set.specs.Imports.{components}
use Rattle.module_set.proofs.CycleLaws.{first_cycle_is_one}
use Rattle.module_loader.specs.declared.fault.LoadFault.{LoadFault}
use Rattle.module_loader.specs.declared.fault.LoadFault.TheVariants as fault
use Rattle.module_loader.specs.Files.{Packages, text_of, most_module}
use Rattle.module_loader.specs.Members.{IsMember, past_top}
use Rattle.module_set.specs.Members.{Member}
use Rattle.module_loader.specs.TextFaults.{RefusesBytes, RefusesWords, lexical_place, place_in, byte_of, token_of}
use Rattle.module_loader.specs.Closure.{Front, next}
use Rattle.module_loader.specs.Closure as closure
use Rattle.module_loader.specs.LoadFaults.{HasLoadFault, StandsBehind, IsAbsent, PastTop, HasBytes, IsCycleOf, links}
use Rattle.module_loader.specs.LoadFaults.{importer, name_at, most_modules}
use Rattle.module_loader.proofs.FrontLaws.{OneReading, member-one}

-- Fronts of one closure.

pub no-elements : {A : Type 0} (all : List A) → length all ≤ 0 → all ≡ []
no-elements [] short = refl
no-elements (one ∷ all) short = absurd (omega (arith, short))

pub record Ahead {A : Type 0} (front all : List A) : Type 0 where
  pub more : List A
  pub is : all ≡ front ++ more

pub ahead-whole : {A : Type 0} (front all : List A) → Ahead front all → length all ≤ length front → all ≡ front
ahead-whole front all ahead short =
    let none = no-elements ahead.more (omega (arith, short, ap length ahead.is, length-append front ahead.more)) in
    ahead.is ∙ (ap (λ more. front ++ more) none ∙ append-nil front)

-- a front that is one longer than some members is they and the next one
last-same : OneReading → (packages : Packages) (first : List ModuleName) (one members : List Member) (member : Member) →
    Front packages first one → next packages first members ≡ Some member.name → IsMember packages member →
    length members < length one → length one ≤ length (members ++ member ∷ []) →
    ((own : List Member) → Front packages first own → length own ≤ length members → Ahead own members) →
    Ahead one (members ++ member ∷ [])
last-same once packages first _ members member closure.none reached is longer short before =
    absurd (omega (arith, longer))
last-same once packages first _ members member (closure.more own last front own_reached own_is own_top) reached is
    longer
    short before =
    let fits : length own ≤ length members =
    omega (arith, short, length_push members member, length_push own last) in
    let same : members ≡ own =
    ahead-whole own members (before own front fits) (omega (arith, longer, length_push own last)) in
    let names : member.name ≡ last.name =
    same_Some member.name last.name (sym reached ∙ (ap (next packages first) same ∙ own_reached)) in
    let lasts = member-one once packages member last is own_is names in
    record {
      more = [];
      is = (λ i. same i ++ lasts i ∷ []) ∙ sym (append-nil (own ++ last ∷ []));
    }

ahead-more : OneReading → (packages : Packages) (first : List ModuleName) (one members : List Member)
    (member : Member) →
    Front packages first one → next packages first members ≡ Some member.name → IsMember packages member →
    length one ≤ length (members ++ member ∷ []) → (length one ≤ length members → Ahead one members) →
    ((own : List Member) → Front packages first own → length own ≤ length members → Ahead own members) →
    Ahead one (members ++ member ∷ [])
ahead-more once packages first one members member front reached is short now before =
    by (cases_lt (length members) (length one))
  where
    by : (length members < length one) ⊎ (length one ≤ length members) → Ahead one (members ++ member ∷ [])
    by (inl longer) = last-same once packages first one members member front reached is longer short before
    by (inr fits) =
        let ahead = now fits in
        record {
          more = ahead.more ++ member ∷ [];
          is = ap (λ all. all ++ member ∷ []) ahead.is ∙ append_assoc one ahead.more (member ∷ []);
        }

-- of two fronts one comes first in the other
ahead : OneReading → (packages : Packages) (first : List ModuleName) (one other : List Member) →
    Front packages first one → Front packages first other → length one ≤ length other → Ahead one other
ahead once packages first one _ front closure.none short =
    record { more = []; is = sym (append-nil one ∙ no-elements one short) }
ahead once packages first one _ front (closure.more members member before reached is top) short =
    ahead-more once packages first one members member front reached is short
    (λ fits. ahead once packages first one members front before fits)
    (λ own own_front fits. ahead once packages first own members own_front before fits)

fronts-same : OneReading → (packages : Packages) (first : List ModuleName) (one other : List Member) →
    Front packages first one → Front packages first other → length one ≤ length other → length other ≤ length one →
    other ≡ one
fronts-same once packages first one other front behind short long =
    ahead-whole one other (ahead once packages first one other front behind short) long

-- some members, and a module behind them that has no fault
pub record Follows (packages : Packages) (first : List ModuleName) (members : List Member) : Type 0 where
  pub few : length members < most_modules
  pub member : Member
  pub reached : next packages first members ≡ Some member.name
  pub is : IsMember packages member
  pub top : past_top packages member ≡ None

follows-more : OneReading → (packages : Packages) (first : List ModuleName) (one members : List Member)
    (member : Member) → Front packages first one → Front packages first members →
    next packages first members ≡ Some member.name → IsMember packages member → past_top packages member ≡ None →
    length one < length (members ++ member ∷ []) → length (members ++ member ∷ []) ≤ most_modules →
    (length one < length members → Follows packages first one) → Follows packages first one
follows-more once packages first one members member front before reached is top shorter few later =
    by (cases_lt (length one) (length members))
  where
    by : (length one < length members) ⊎ (length members ≤ length one) → Follows packages first one
    by (inl less) = later less
    by (inr least) =
        let fits : length one ≤ length members = omega (arith, shorter, length_push members member) in
        let same = fronts-same once packages first one members front before fits least in
        record {
          few = omega (arith, shorter, few);
          member = member;
          reached = ap (next packages first) (sym same) ∙ reached;
          is = is;
          top = top;
        }

follows : OneReading → (packages : Packages) (first : List ModuleName) (one other : List Member) →
    Front packages first one → Front packages first other → length one < length other →
    length other ≤ most_modules → Follows packages first one
follows once packages first one _ front closure.none shorter few = absurd (omega (arith, shorter))
follows once packages first one _ front (closure.more members member before reached is top) shorter few =
    follows-more once packages first one members member front before reached is top shorter few
    (λ less. follows once packages first one members front before less
    (omega (arith, few, length_push members member)))

-- Faults behind some members.

abbrev is_a_module : ModuleReading → Bool
is_a_module (a_module tree) = true
is_a_module _ = false

-- a reading that is a fault is no module
no-module : OneReading → (tokens : List Token) (tree : ModuleTree) (reading : ModuleReading) →
    is_a_module reading ≡ false → IsModuleTree most_height tokens tree →
    HasModuleReading most_height tokens reading → ⊥
no-module once tokens tree reading fault is has =
    let one = once most_height (omega arith) tokens in
    true≢false (ap is_a_module (one.only (a_module tree) is ∙ sym (one.only reading has)) ∙ fault)

not-accepted : OneReading → (tokens : List Token) (tree : ModuleTree) (found : ParseFault) (at : ℕ) →
    token_of found ≡ Some at → HasModuleFault most_height tokens found → IsModuleTree most_height tokens tree → ⊥
not-accepted once tokens tree (grammar.BadSyntax declaration own) at stands has is =
    no-module once tokens tree (readings.bad_syntax declaration own) refl is has
not-accepted once tokens tree (grammar.TooDeep own) at stands has is =
    no-module once tokens tree (readings.too_deep own) refl is has
not-accepted once tokens tree (grammar.StatementBody own) at stands has is =
    no-module once tokens tree (readings.statement_body own) refl is has
not-accepted once tokens tree (grammar.LeftOut own word) at stands has is =
    no-module once tokens tree (readings.left_out own word) refl is has
not-accepted once tokens tree (grammar.Version own) at stands has is =
    no-module once tokens tree (readings.other_version own) refl is has
not-accepted once tokens tree grammar.OutOfMemory at stands has is = none-some at stands

-- the fault that a reading is
abbrev fault_in : ModuleReading → ParseFault
fault_in (a_module tree) = grammar.OutOfMemory
fault_in (readings.bad_syntax declaration at) = grammar.BadSyntax declaration at
fault_in (readings.too_deep at) = grammar.TooDeep at
fault_in (readings.left_out at word) = grammar.LeftOut at word
fault_in (readings.statement_body at) = grammar.StatementBody at
fault_in (readings.other_version at) = grammar.Version at

fault-read : OneReading → (tokens : List Token) (found : ParseFault) (at : ℕ) → token_of found ≡ Some at →
    HasModuleFault most_height tokens found →
    (reading : ModuleReading) × HasModuleReading most_height tokens reading × (found ≡ fault_in reading)
fault-read once tokens (grammar.BadSyntax declaration own) at stands has =
    (readings.bad_syntax declaration own, has, refl)
fault-read once tokens (grammar.TooDeep own) at stands has = (readings.too_deep own, has, refl)
fault-read once tokens (grammar.StatementBody own) at stands has = (readings.statement_body own, has, refl)
fault-read once tokens (grammar.LeftOut own word) at stands has = (readings.left_out own word, has, refl)
fault-read once tokens (grammar.Version own) at stands has = (readings.other_version own, has, refl)
fault-read once tokens grammar.OutOfMemory at stands has = absurd (none-some at stands)

grammar-one : OneReading → (tokens : List Token) (one other : ParseFault) (at here : ℕ) → token_of one ≡ Some at →
    token_of other ≡ Some here → HasModuleFault most_height tokens one → HasModuleFault most_height tokens other →
    one ≡ other
grammar-one once tokens one other at here stands too has owns =
    let a = fault-read once tokens one at stands has in
    let b = fault-read once tokens other here too owns in
    let readings = once most_height (omega arith) tokens in
    a.2 ∙ (ap fault_in (readings.only a.0 a.1 ∙ sym (readings.only b.0 b.1)) ∙ sym b.2)

words-one : OneReading → (bytes : List ℕ) (one other : ParseFault) (place spot : Place) →
    RefusesWords bytes one place → RefusesWords bytes other spot → (one ≡ other) × (place ≡ spot)
words-one once bytes one other place spot a b =
    let tokens : a.tokens ≡ b.tokens = (lexing_is_one bytes).one_list a.tokens b.tokens a.has b.has in
    let same = grammar-one once b.tokens one other a.at b.at a.stands_at b.stands_at
    (subst (λ tokens. HasModuleFault most_height tokens one) tokens a.stands) b.stands in
    let at : a.at ≡ b.at = same_Some a.at b.at (sym a.stands_at ∙ (ap token_of same ∙ b.stands_at)) in
    (same, a.place_is ∙ ((λ i. place_in bytes (byte_of bytes (tokens i) (at i))) ∙ sym b.place_is))

bytes-one : (bytes : List ℕ) (one other : LexFault) (place spot : Place) → RefusesBytes bytes one place →
    RefusesBytes bytes other spot → (one ≡ other) × (place ≡ spot)
bytes-one bytes one other place spot a b =
    let same = (lexing_is_one bytes).one_fault one other a.stands b.stands in (
      same,
      same_Some place spot
          (sym a.place_is ∙ (ap (λ found. lexical_place bytes found) same ∙ b.place_is)),
    )

-- what stands in a text of a module
pub data InText (packages : Packages) (name : ModuleName) (bytes : List ℕ) (found : LoadFault) : Type 0 where
  long : found ≡ fault.TooLong name → most_module < length bytes → InText packages name bytes found
  lexical : (own : LexFault) (place : Place) → found ≡ fault.Lex name own place → length bytes ≤ most_module →
      RefusesBytes bytes own place → InText packages name bytes found
  grammatical : (own : ParseFault) (place : Place) → found ≡ fault.Parse name own place →
      length bytes ≤ most_module → RefusesWords bytes own place → InText packages name bytes found
  past : (member : Member) → IsMember packages member → member.name ≡ name → member.text ≡ bytes →
      (asker : Option ModuleName) (place : Place) (own : ModuleName) → found ≡ fault.Absent asker place own →
      PastTop packages member asker place own → InText packages name bytes found

tokens-there : (packages : Packages) (member : Member) (bytes : List ℕ) → (is : IsMember packages member) →
    member.text ≡ bytes → HasTokens bytes is.accepted.tokens
tokens-there packages member bytes is text =
    subst (λ bytes. HasTokens bytes is.accepted.tokens) text is.accepted.has

member-short : (packages : Packages) (member : Member) (bytes : List ℕ) → IsMember packages member →
    member.text ≡ bytes → length bytes ≤ most_module
member-short packages member bytes is text = subst (λ bytes. length bytes ≤ most_module) text is.short

member-lexes : (packages : Packages) (member : Member) (bytes : List ℕ) (own : LexFault) (place : Place) →
    IsMember packages member → member.text ≡ bytes → RefusesBytes bytes own place → ⊥
member-lexes packages member bytes own place is text refuses =
    (lexing_is_one bytes).not_both is.accepted.tokens own (tokens-there packages member bytes is text) refuses.stands

member-parses : OneReading → (packages : Packages) (member : Member) (bytes : List ℕ) (own : ParseFault)
    (place : Place) → IsMember packages member → member.text ≡ bytes → RefusesWords bytes own place → ⊥
member-parses once packages member bytes own place is text refuses =
    let same : is.accepted.tokens ≡ refuses.tokens =
    (lexing_is_one bytes).one_list is.accepted.tokens refuses.tokens (tokens-there packages member bytes is text)
    refuses.has in
    not-accepted once refuses.tokens member.tree own refuses.at refuses.stands_at refuses.stands
    (subst (λ tokens. IsModuleTree most_height tokens member.tree) same is.accepted.reads)

words-lex : (bytes : List ℕ) (own : LexFault) (place : Place) (other : ParseFault) (spot : Place) →
    RefusesBytes bytes own place → RefusesWords bytes other spot → ⊥
words-lex bytes own place other spot a b = (lexing_is_one bytes).not_both b.tokens own b.has a.stands

past-one : (packages : Packages) (member : Member) (one other : Option ModuleName) (place spot : Place)
    (name own : ModuleName) → PastTop packages member one place name → PastTop packages member other spot own →
    fault.Absent one place name ≡ fault.Absent other spot own
past-one packages member one other place spot name own a b =
    let same : a.reference ≡ b.reference = same_Some a.reference b.reference (sym a.goes ∙ b.goes) in
    let asker = a.asker_is ∙ sym b.asker_is in
    let places = a.place_is ∙ (ap (λ (reference : ModuleRef). place_in member.text reference.span.at) same ∙ sym
    b.place_is) in
    let names = a.name_is ∙ (ap (λ reference. named (components reference)) same ∙ sym b.name_is) in
    λ i. fault.Absent (asker i) (places i) (names i)

text-one : OneReading → (packages : Packages) (name : ModuleName) (bytes : List ℕ) (one other : LoadFault) →
    InText packages name bytes one → InText packages name bytes other → one ≡ other
text-one once packages name bytes one other (long is more) (long too _) = is ∙ sym too
text-one once packages name bytes one other (long is more) (lexical own place too short refuses) =
    absurd (omega (arith, more, short))
text-one once packages name bytes one other (long is more) (grammatical own place too short refuses) =
    absurd (omega (arith, more, short))
text-one once packages name bytes one other (long is more) (past member has named_so text asker place own too top) =
    absurd (omega (arith, more, member-short packages member bytes has text))
text-one once packages name bytes one other (lexical fault_is spot is fits stands) (long too more) =
    absurd (omega (arith, more, fits))
text-one once packages name bytes one other (lexical fault_is spot is fits stands)
    (lexical own place too short refuses) =
    let same = bytes-one bytes fault_is own spot place stands refuses in
    is ∙ ((λ i. fault.Lex name (same.0 i) (same.1 i)) ∙ sym too)
text-one once packages name bytes one other (lexical fault_is spot is fits stands)
    (grammatical own place too short refuses) = absurd (words-lex bytes fault_is spot own place stands refuses)
text-one once packages name bytes one other (lexical fault_is spot is fits stands)
    (past member has named_so text asker place own too top) =
    absurd (member-lexes packages member bytes fault_is spot has text stands)
text-one once packages name bytes one other (grammatical fault_is spot is fits stands) (long too more) =
    absurd (omega (arith, more, fits))
text-one once packages name bytes one other (grammatical fault_is spot is fits stands)
    (lexical own place too short refuses) = absurd (words-lex bytes own place fault_is spot refuses stands)
text-one once packages name bytes one other (grammatical fault_is spot is fits stands)
    (grammatical own place too short refuses) =
    let same = words-one once bytes fault_is own spot place stands refuses in
    is ∙ ((λ i. fault.Parse name (same.0 i) (same.1 i)) ∙ sym too)
text-one once packages name bytes one other (grammatical fault_is spot is fits stands)
    (past member has named_so text asker place own too top) =
    absurd (member-parses once packages member bytes fault_is spot has text stands)
text-one once packages name bytes one other (past member has named_so text asker place own is top) (long too more) =
    absurd (omega (arith, more, member-short packages member bytes has text))
text-one once packages name bytes one other (past member has named_so text asker place own is top)
    (lexical fault_is spot too fits stands) = absurd (member-lexes packages member bytes fault_is spot has text stands)
text-one once packages name bytes one other (past member has named_so text asker place own is top)
    (grammatical fault_is spot too fits stands) =
    absurd (member-parses once packages member bytes fault_is spot has text stands)
text-one once packages name bytes one other (past member has named_so text asker place own is top)
    (past member_too has_too named_too text_too asker_too place_too own_too too top_too) =
    let same = member-one once packages member member_too has has_too (named_so ∙ sym named_too) in
    is ∙ (past-one packages member_too asker asker_too place place_too own own_too
    (subst (λ member. PastTop packages member asker place own) same top) top_too ∙ sym too)

-- what stands behind some members
pub data View (packages : Packages) (first : List ModuleName) (members : List Member) (found : LoadFault) : Type 0 where
  missing : (asker : Option ModuleName) (place : Place) (name : ModuleName) → found ≡ fault.Absent asker place name →
      length members < most_modules → IsAbsent packages first members asker place name →
      View packages first members found
  present : (name : ModuleName) (bytes : List ℕ) → length members < most_modules →
      HasBytes packages first members name bytes → InText packages name bytes found →
      View packages first members found
  many : found ≡ fault.TooMany → length members ≡ most_modules → is_some (next packages first members) ≡ true →
      View packages first members found
  ended : (path : List ModuleName) → found ≡ fault.Cycle path → next packages first members ≡ None →
      IsCycleOf packages members path → View packages first members found

pub view : (packages : Packages) (first : List ModuleName) (members : List Member) (found : LoadFault) →
    StandsBehind packages first members found → View packages first members found
view packages first members (fault.Absent asker place name) (few, inl absent) =
    missing asker place name refl few absent
view packages first members (fault.Absent asker place name) (few, inr top) =
    present top.member.name top.member.text few (record { reached = top.reached; found = top.is.found })
    (past top.member top.is refl refl asker place name refl top.past)
view packages first members (fault.TooLong name) (few, (bytes, has, more)) = present name bytes few has (long refl more)
view packages first members (fault.Lex name found place) (few, (bytes, has, short, refuses)) =
    present name bytes few has (lexical found place refl short refuses)
view packages first members (fault.Parse name found place) (few, (bytes, has, short, refuses)) =
    present name bytes few has (grammatical found place refl short refuses)
view packages first members fault.TooMany (all, more) = many refl all more
view packages first members (fault.Cycle path) (few, end, is) = ended path refl end is
view packages first members fault.ReadFault stands = absurd stands
view packages first members fault.OutOfMemory stands = absurd stands

missing-present : (packages : Packages) (first : List ModuleName) (members : List Member) (asker : Option ModuleName)
    (place : Place) (name own : ModuleName) (bytes : List ℕ) → IsAbsent packages first members asker place name →
    HasBytes packages first members own bytes → ⊥
missing-present packages first members asker place name own bytes absent has =
    let same = same_Some own name (sym has.reached ∙ absent.0) in
    none-some bytes (sym absent.1 ∙ (ap (text_of packages) (sym same) ∙ has.found))

pub none-there : (packages : Packages) (first : List ModuleName) (members : List Member) (name : ModuleName) →
    next packages first members ≡ None → next packages first members ≡ Some name → ⊥
none-there packages first members name none there = none-some name (sym none ∙ there)

pub none-more : (packages : Packages) (first : List ModuleName) (members : List Member) →
    next packages first members ≡ None → is_some (next packages first members) ≡ true → ⊥
none-more packages first members none some = true≢false (sym some ∙ ap is_some none)

absent-one : (packages : Packages) (first : List ModuleName) (members : List Member) (one other : Option ModuleName)
    (place spot : Place) (name own : ModuleName) → IsAbsent packages first members one place name →
    IsAbsent packages first members other spot own → fault.Absent one place name ≡ fault.Absent other spot own
absent-one packages first members one other place spot name own a b =
    let names = same_Some name own (sym a.0 ∙ b.0) in
    let askers : (one, place) ≡ (other, spot) =
    a.2 ∙ (ap (importer packages first members) names ∙ sym b.2) in
    λ i. fault.Absent (askers i).0 (askers i).1 (names i)

cycles-one : (packages : Packages) (members : List Member) (path way : List ModuleName) →
    IsCycleOf packages members path → IsCycleOf packages members way → path ≡ way
cycles-one packages members path way a b =
    a.path_is
    ∙ (ap (map (name_at members)) (first_cycle_is_one (links packages members) a.cycle b.cycle a.is b.is)
    ∙ sym b.path_is)

views-one : OneReading → (packages : Packages) (first : List ModuleName) (members : List Member)
    (one other : LoadFault) → View packages first members one → View packages first members other → one ≡ other
views-one once packages first members one other (missing asker place name is few absent)
    (missing asker_too place_too name_too too few_too absent_too) =
    is ∙ (absent-one packages first members asker asker_too place place_too name name_too absent absent_too ∙ sym too)
views-one once packages first members one other (missing asker place name is few absent)
    (present own bytes few_too has stands) =
    absurd (missing-present packages first members asker place name own bytes absent has)
views-one once packages first members one other (missing asker place name is few absent) (many too all more) =
    absurd (omega (arith, few, all))
views-one once packages first members one other (missing asker place name is few absent) (ended path too end cycle) =
    absurd (none-there packages first members name end absent.0)
views-one once packages first members one other (present own bytes few has stands)
    (missing asker place name too few_too absent) =
    absurd (missing-present packages first members asker place name own bytes absent has)
views-one once packages first members one other (present own bytes few has stands)
    (present own_too bytes_too few_too has_too stands_too) =
    let names : own_too ≡ own = same_Some own_too own (sym has_too.reached ∙ has.reached) in
    let texts : bytes_too ≡ bytes =
    same_Some bytes_too bytes (sym has_too.found ∙ (ap (text_of packages) names ∙ has.found)) in
    text-one once packages own bytes one other stands
    (subst (λ bytes. InText packages own bytes other) texts
    (subst (λ name. InText packages name bytes_too other) names stands_too))
views-one once packages first members one other (present own bytes few has stands) (many too all more) =
    absurd (omega (arith, few, all))
views-one once packages first members one other (present own bytes few has stands) (ended path too end cycle) =
    absurd (none-there packages first members own end has.reached)
views-one once packages first members one other (many is all more) (missing asker place name too few absent) =
    absurd (omega (arith, few, all))
views-one once packages first members one other (many is all more) (present own bytes few has stands) =
    absurd (omega (arith, few, all))
views-one once packages first members one other (many is all more) (many too _ _) = is ∙ sym too
views-one once packages first members one other (many is all more) (ended path too end cycle) =
    absurd (none-more packages first members end more)
views-one once packages first members one other (ended path is end cycle)
    (missing asker place name too few absent) = absurd (none-there packages first members name end absent.0)
views-one once packages first members one other (ended path is end cycle) (present own bytes few has stands) =
    absurd (none-there packages first members own end has.reached)
views-one once packages first members one other (ended path is end cycle) (many too all more) =
    absurd (none-more packages first members end more)
views-one once packages first members one other (ended path is end cycle) (ended way too end_too cycle_too) =
    is ∙ (ap fault.Cycle (cycles-one packages members path way cycle cycle_too) ∙ sym too)

-- behind members that are followed nothing stands
text-clean : OneReading → (packages : Packages) (member : Member) (found : LoadFault) → IsMember packages member →
    past_top packages member ≡ None → InText packages member.name member.text found → ⊥
text-clean once packages member found is top (long _ more) = absurd (omega (arith, more, is.short))
text-clean once packages member found is top (lexical own place _ short refuses) =
    member-lexes packages member member.text own place is refl refuses
text-clean once packages member found is top (grammatical own place _ short refuses) =
    member-parses once packages member member.text own place is refl refuses
text-clean once packages member found is top (past other has named_so text asker place own _ goes) =
    let same = member-one once packages member other is has (sym named_so) in
    none-some goes.reference (sym top ∙ (ap (past_top packages) same ∙ goes.goes))

pub clean : OneReading → (packages : Packages) (first : List ModuleName) (members : List Member) (found : LoadFault) →
    Follows packages first members → View packages first members found → ⊥
clean once packages first members found follow (missing asker place name is few absent) =
    missing-present packages first members asker place name follow.member.name follow.member.text absent
    (record { reached = follow.reached; found = follow.is.found })
clean once packages first members found follow (present name bytes few has stands) =
    let names : name ≡ follow.member.name = same_Some name follow.member.name (sym has.reached ∙ follow.reached) in
    let texts : bytes ≡ follow.member.text =
    same_Some bytes follow.member.text (sym has.found ∙ (ap (text_of packages) names ∙ follow.is.found)) in
    text-clean once packages follow.member found follow.is follow.top
    (subst (λ bytes. InText packages follow.member.name bytes found) texts
    (subst (λ name. InText packages name bytes found) names stands))
clean once packages first members found follow (many is all more) = absurd (omega (arith, all, follow.few))
clean once packages first members found follow (ended path is end cycle) =
    none-there packages first members follow.member.name end follow.reached

-- the members behind which a fault stands are few
stands-few : (packages : Packages) (first : List ModuleName) (members : List Member) (found : LoadFault) →
    StandsBehind packages first members found → length members ≤ most_modules
stands-few packages first members (fault.Absent asker place name) stands = omega (arith, stands.0)
stands-few packages first members (fault.TooLong name) stands = omega (arith, stands.0)
stands-few packages first members (fault.Lex name found place) stands = omega (arith, stands.0)
stands-few packages first members (fault.Parse name found place) stands = omega (arith, stands.0)
stands-few packages first members fault.TooMany stands = omega (arith, stands.0)
stands-few packages first members (fault.Cycle path) stands = stands.0
stands-few packages first members fault.ReadFault stands = absurd stands
stands-few packages first members fault.OutOfMemory stands = absurd stands

not-shorter : OneReading → (packages : Packages) (first : List ModuleName) (one other : LoadFault) →
    (a : HasLoadFault packages first one) → (b : HasLoadFault packages first other) →
    length a.members < length b.members → ⊥
not-shorter once packages first one other a b shorter =
    clean once packages first a.members one
    (follows once packages first a.members b.members a.front b.front shorter
    (stands-few packages first b.members other b.stands))
    (view packages first a.members one a.stands)

pub faults-one : OneReading → (packages : Packages) (first : List ModuleName) (one other : LoadFault) →
    HasLoadFault packages first one → HasLoadFault packages first other → one ≡ other
faults-one once packages first one other a b =
    by (cases_lt (length a.members) (length b.members)) (cases_lt (length b.members) (length a.members))
  where
    by : (length a.members < length b.members) ⊎ (length b.members ≤ length a.members) →
        (length b.members < length a.members) ⊎ (length a.members ≤ length b.members) → one ≡ other
    by (inl shorter) _ = absurd (not-shorter once packages first one other a b shorter)
    by (inr _) (inl longer) = absurd (not-shorter once packages first other one b a longer)
    by (inr least) (inr most) =
        let same : b.members ≡ a.members =
        fronts-same once packages first a.members b.members a.front b.front most least in
        views-one once packages first a.members one other (view packages first a.members one a.stands)
        (view packages first a.members other
        (subst (λ members. StandsBehind packages first members other) same b.stands))
