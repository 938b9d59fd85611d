-- Each command line over files has one outcome: an answer or a refusal.
use Rattle.std.proofs.Common.{◌≡◌, ◌⊎◌, ℕ, Bool, true, false, List, [], ◌∷◌, Option, Some, None, length, slice_get}
use Rattle.std.proofs.Common.{refl, sym, ap, ◌∙◌, subst, arith, inl, inr}
use Rattle.std.specs.Str.{bytes_eq}
use Rattle.std.specs.Cmp.Lexicographic.{bytes_decides}
use Rattle.std.proofs.lemmas.Bool.{true≢false}
use Rattle.std.proofs.lemmas.Option.{same_Some, none-some}
use Rattle.io_edge.specs.Source.{File}
use Rattle.type_rules.specs.Terms.{Term}
use Rattle.mdl_lexer.specs.declared.token.Token.{Token}
use Rattle.mdl_lexer.specs.Lexes.{HasTokens}
use Rattle.mdl_lexer.proofs.LexLaws.{lexing_is_one}
use Rattle.module_set.specs.declared.module_name.ModuleName.{ModuleName}
use Rattle.module_set.specs.Members.{Member}
use Rattle.scope_core.specs.declared.fault.ScopeFault.{ScopeFault}
use Rattle.scope_core.specs.declared.fault.ScopeFault.TheVariants as scoping
use Rattle.scope_core.specs.ScopeFaults.{scope_faults, fault_key, IsLeast}
use Rattle.scope_core.specs.Places.{HasPlaces, HasPlace}
use Rattle.scope_core.specs.OneScopeFault.{OneScopeFault}
use Rattle.module_loader.specs.declared.fault.LoadFault.{LoadFault}
use Rattle.module_loader.specs.TextFaults.{place_in}
use Rattle.module_loader.specs.Files.{Packages}
use Rattle.module_loader.specs.LoadFaults.{HasLoadFault}
use Rattle.module_loader.specs.Loads.{packages_of, AreLoaded}
use Rattle.module_loader.specs.OneLoad.{OneLoad}
use Rattle.command_words.specs.declared.request.Request.{Request}
use Rattle.command_words.specs.declared.request.Task.{Task}
use Rattle.command_words.specs.declared.request.Task.TheVariants as task
use Rattle.command_words.specs.Requests.{IsRequest, NoRequest}
use Rattle.command_words.specs.OneRequest.{OneRequest}
use Rattle.mdl_cli.specs.declared.status.Status.{Status}
use Rattle.mdl_cli.specs.declared.status.Status.TheVariants as status
use Rattle.mdl_cli.specs.Words.{kinds_of}
use Rattle.mdl_cli.specs.FirstText.{AreFirstWords, IsFirstText}
use Rattle.mdl_cli.specs.GraphText.{instance_text}
use Rattle.mdl_cli.specs.Lines.{usage_line, not_built_line, load_line, scope_line, material_unknown_line}
use Rattle.mdl_cli.specs.Outcome.{asked, material_name, ok_text, IsInstance, AnswersTask, AnswersRequest, Answer}
use Rattle.mdl_cli.specs.Outcome.{RefusesTask, RefusesRequest, RefusesAsked, Refusal}
use Rattle.mdl_cli.specs.Outcome.{names_in, HasLineAt, RefusesScopes, RefusesMembers}
use Rattle.mdl_cli.specs.inside.Reading.{first_in}
use Rattle.mdl_cli.proofs.FirstLaws.{first_in_sound, first_in_complete, first_words_are_one}

-- words are one request or none, files have one load, and modules have one fault of names or none
abbrev pub OneRequests : Type 0
OneRequests = (words : List (List ℕ)) → OneRequest words

abbrev pub OneLoads : Type 0
OneLoads = (packages : Packages) (first : List ModuleName) → OneLoad packages first

abbrev pub OneScopes : Type 0
OneScopes = (names : List ModuleName) (members : List Member) → OneScopeFault names members

-- bytes are a first text of one material at most, with one term
first_text_is_one : (bytes a b : List ℕ) (t u : Term) → IsFirstText bytes a t → IsFirstText bytes b u →
    (a ≡ b) × (t ≡ u)
first_text_is_one bytes a b t u h k =
    let same : k.tokens ≡ h.tokens = (lexing_is_one bytes).one_list k.tokens h.tokens k.has h.has in
    first_words_are_one (kinds_of h.tokens) a b t u h.first
    (subst (λ (tokens : List Token). AreFirstWords (kinds_of tokens) b u) same k.first)

pub only_one : (members : List Member) (one other : Member) → members ≡ one ∷ [] → members ≡ other ∷ [] →
    one ≡ other
only_one members one other a b = same_Some one other (ap (λ all. slice_get all 0) (sym a ∙ b))

instance_is_one : (own : ModuleName) (material : List ℕ) (members : List Member) (a b : List ℕ) →
    IsInstance own material members a → IsInstance own material members b → a ≡ b
instance_is_one own material members a b h k =
    let same : k.member ≡ h.member = only_one members k.member h.member k.only h.only in
    let first : IsFirstText h.member.text material k.term =
    subst (λ (member : Member). IsFirstText member.text material k.term) same k.first in
    let term : h.term ≡ k.term =
    (first_text_is_one h.member.text material material h.term k.term h.first first).1 in
    h.text_is ∙ (ap (instance_text (material_name own material)) term ∙ sym k.text_is)

task_is_one : (own : Task) (members : List Member) (a b : List ℕ) → AnswersTask own members a →
    AnswersTask own members b → a ≡ b
task_is_one (task.Instance own material) members a b h k = instance_is_one own material members a b h k
task_is_one (task.Check modules) members a b h k = h ∙ sym k

-- a request over files has one answer at most
answers_is_one : OneLoads → (request : Request) (files : List File) (a b : List ℕ) →
    AnswersRequest request files a → AnswersRequest request files b → a ≡ b
answers_is_one loads request files a b h k =
    let one = loads (packages_of request.roots files) (asked request.task) in
    let same : k.members ≡ h.members = one.one_list k.members h.members k.loaded h.loaded in
    task_is_one request.task h.members a b h.answers
    (subst (λ members. AnswersTask request.task members b) same k.answers)

-- a command line over files has one answer at most
pub answer_is_one : OneRequests → OneLoads → (words : List (List ℕ)) (files : List File) (a b : List ℕ) →
    Answer words files a → Answer words files b → a ≡ b
answer_is_one requests loads words files a b h k =
    let same : k.request ≡ h.request = (requests words).one k.request h.request k.is h.is in
    answers_is_one loads h.request files a b h.answers
    (subst (λ request. AnswersRequest request files b) same k.answers)

-- a task that has an answer isn't refused
task_refused : (own : Task) (members : List Member) (text line : List ℕ) → AnswersTask own members text →
    RefusesTask own members line → ⊥
task_refused (task.Instance own material) members text line h (inl form) =
    form.none h.member material h.term h.only h.first
task_refused (task.Instance own material) members text line h (inr other) =
    let same : h.member ≡ other.member = only_one members h.member other.member h.only other.only in
    let first : IsFirstText other.member.text material h.term =
    subst (λ (member : Member). IsFirstText member.text material h.term) same h.first in
    other.other (first_text_is_one other.member.text other.name material other.term h.term other.first first).0
task_refused (task.Check modules) members text line h k = k

-- with whose names nothing is wrong
members_refused : OneScopes → (own : Task) (members : List Member) (text line : List ℕ) →
    scope_faults (names_in members) members ≡ [] → AnswersTask own members text → RefusesMembers own members line → ⊥
members_refused scopes own members text line clean h (inl faulty) =
    (scopes (names_in members) members).not_both faulty.fault clean faulty.least
members_refused scopes own members text line clean h (inr k) = task_refused own members text line h k.refuses

answers_refused : OneLoads → OneScopes → (request : Request) (files : List File) (text line : List ℕ) →
    AnswersRequest request files text → RefusesRequest request files line → ⊥
answers_refused loads scopes request files text line h (inl load) =
    let one = loads (packages_of request.roots files) (asked request.task) in
    one.not_both h.members load.fault h.loaded load.stands
answers_refused loads scopes request files text line h (inr loaded) =
    let one = loads (packages_of request.roots files) (asked request.task) in
    let same : loaded.members ≡ h.members = one.one_list loaded.members h.members loaded.loaded h.loaded in
    members_refused scopes request.task h.members text line h.clean h.answers
    (subst (λ members. RefusesMembers request.task members line) same loaded.refuses)

-- a command line over files that has an answer isn't refused
pub no_refusal : OneRequests → OneLoads → OneScopes → (words : List (List ℕ)) (files : List File) (text : List ℕ)
    (s : Status) (line : List ℕ) → Answer words files text → Refusal words files s line → ⊥
no_refusal requests loads scopes words files text status.Usage line h k = k.0 h.request h.is
no_refusal requests loads scopes words files text status.Refused line h k =
    let same : h.request ≡ k.request = (requests words).one h.request k.request h.is k.is in
    answers_refused loads scopes k.request files text line
    (subst (λ request. AnswersRequest request files text) same h.answers) k.refuses
no_refusal requests loads scopes words files text _ line h k = k

-- a task is refused with one line at most
refused_is_one : (own : Task) (members : List Member) (a b : List ℕ) → RefusesTask own members a →
    RefusesTask own members b → a ≡ b
refused_is_one (task.Instance own material) members a b (inl h) (inl k) = h.line_is ∙ sym k.line_is
refused_is_one (task.Instance own material) members a b (inl h) (inr k) =
    absurd (h.none k.member k.name k.term k.only k.first)
refused_is_one (task.Instance own material) members a b (inr h) (inl k) =
    absurd (k.none h.member h.name h.term h.only h.first)
refused_is_one (task.Instance own material) members a b (inr h) (inr k) = h.line_is ∙ sym k.line_is
refused_is_one (task.Check modules) members a b h k = absurd h

-- a fault has one line
line_at_is_one : (members : List Member) (fault : ScopeFault) (m at : ℕ) (a b : List ℕ) →
    HasLineAt members fault m at a → HasLineAt members fault m at b → a ≡ b
line_at_is_one members fault m at a b h k =
    h.line_is
    ∙ (ap (λ (member : Member). scope_line member.name fault (place_in member.text at))
    (same_Some h.member k.member (sym h.is ∙ k.is)) ∙ sym k.line_is)

-- modules are refused with one line at most
members_is_one : OneScopes → (own : Task) (members : List Member) (a b : List ℕ) → RefusesMembers own members a →
    RefusesMembers own members b → a ≡ b
members_is_one scopes own members a b (inl h) (inl k) =
    let same : k.fault ≡ h.fault =
    (scopes (names_in members) members).one_fault k.fault h.fault k.least h.least in
    line_at_is_one members h.fault (fault_key h.fault).0 (fault_key h.fault).1 a b h.told
    (subst (λ fault. HasLineAt members fault (fault_key fault).0 (fault_key fault).1 b) same k.told)
members_is_one scopes own members a b (inl h) (inr k) =
    absurd ((scopes (names_in members) members).not_both h.fault k.clean h.least)
members_is_one scopes own members a b (inr h) (inl k) =
    absurd ((scopes (names_in members) members).not_both k.fault h.clean k.least)
members_is_one scopes own members a b (inr h) (inr k) = refused_is_one own members a b h.refuses k.refuses

-- a request over files is refused with one line at most
refuses_is_one : OneLoads → OneScopes → (request : Request) (files : List File) (a b : List ℕ) →
    RefusesRequest request files a → RefusesRequest request files b → a ≡ b
refuses_is_one loads scopes request files a b (inl h) (inl k) =
    let one = loads (packages_of request.roots files) (asked request.task) in
    h.line_is ∙ (ap load_line (one.one_fault h.fault k.fault h.stands k.stands) ∙ sym k.line_is)
refuses_is_one loads scopes request files a b (inl h) (inr k) =
    let one = loads (packages_of request.roots files) (asked request.task) in
    absurd (one.not_both k.members h.fault k.loaded h.stands)
refuses_is_one loads scopes request files a b (inr h) (inl k) =
    let one = loads (packages_of request.roots files) (asked request.task) in
    absurd (one.not_both h.members k.fault h.loaded k.stands)
refuses_is_one loads scopes request files a b (inr h) (inr k) =
    let one = loads (packages_of request.roots files) (asked request.task) in
    let same : k.members ≡ h.members = one.one_list k.members h.members k.loaded h.loaded in
    members_is_one scopes request.task h.members a b h.refuses
    (subst (λ members. RefusesMembers request.task members b) same k.refuses)

-- words that are a request are refused with one line at most
asked_is_one : OneRequests → OneLoads → OneScopes → (words : List (List ℕ)) (files : List File) (a b : List ℕ) →
    RefusesAsked words files a → RefusesAsked words files b → a ≡ b
asked_is_one requests loads scopes words files a b h k =
    let same : k.request ≡ h.request = (requests words).one k.request h.request k.is h.is in
    refuses_is_one loads scopes h.request files a b h.refuses
    (subst (λ request. RefusesRequest request files b) same k.refuses)

-- a command line over files is refused with one status and one line at most
pub refusal_is_one : OneRequests → OneLoads → OneScopes → (words : List (List ℕ)) (files : List File) (s t : Status)
    (a b : List ℕ) → Refusal words files s a → Refusal words files t b → (s ≡ t) × (a ≡ b)
refusal_is_one requests loads scopes words files status.Usage status.Usage a b h k = (refl, h.1 ∙ sym k.1)
refusal_is_one requests loads scopes words files status.Usage status.Refused a b h k = absurd (h.0 k.request k.is)
refusal_is_one requests loads scopes words files status.Refused status.Usage a b h k = absurd (k.0 h.request h.is)
refusal_is_one requests loads scopes words files status.Refused status.Refused a b h k =
    (refl, asked_is_one requests loads scopes words files a b h k)
refusal_is_one requests loads scopes words files status.Usage _ a b h k = absurd k
refusal_is_one requests loads scopes words files status.Refused _ a b h k = absurd k
refusal_is_one requests loads scopes words files _ t a b h k = absurd h

-- a task over modules that are loaded has an answer or a refusal
abbrev TaskOutcome : Task → List Member → Type 0
TaskOutcome own members =
    ((text : List ℕ) × AnswersTask own members text) ⊎ ((line : List ℕ) × RefusesTask own members line)

not_one : (own : ModuleName) (material : List ℕ) (members : List Member) →
    ((member : Member) → members ≡ member ∷ [] → ⊥) → TaskOutcome (task.Instance own material) members
not_one own material members several =
    inr (
      not_built_line,
      inl (record { none = λ member name term only first. several member only; line_is = refl }),
    )

-- a first text is answered where the material is its own, and refused else
first_stands : (own : ModuleName) (material name : List ℕ) (member : Member) (term : Term) →
    IsFirstText member.text name term → TaskOutcome (task.Instance own material) (member ∷ [])
first_stands own material name member term first = by (bytes_eq name material) refl
  where
    by : (b : Bool) → bytes_eq name material ≡ b → TaskOutcome (task.Instance own material) (member ∷ [])
    by true is =
        inl (
          instance_text (material_name own material) term,
          record {
            member = member;
            only = refl;
            term = term;
            first = subst (λ (n : List ℕ). IsFirstText member.text n term) ((bytes_decides name material).0 is) first;
            text_is = refl;
          },
        )
    by false is =
        inr (
          material_unknown_line,
          inr (record {
            member = member;
            only = refl;
            name = name;
            term = term;
            first = first;
            other = λ same. true≢false (sym ((bytes_decides name material).1 same) ∙ is);
            line_is = refl;
          }),
        )

-- one module has an outcome, by whether its words are those of a first text
text_stands : (own : ModuleName) (material : List ℕ) (member : Member) (tokens : List Token)
    (read : Option (List ℕ × Term)) → HasTokens member.text tokens → first_in (kinds_of tokens) ≡ read →
    TaskOutcome (task.Instance own material) (member ∷ [])
text_stands own material member tokens (Some (name, term)) has is =
    first_stands own material name member term
    (record { tokens = tokens; has = has; first = first_in_sound (kinds_of tokens) name term is })
text_stands own material member tokens None has is =
    inr (not_built_line, inl (record { none = none; line_is = refl }))
  where
    none : (other : Member) (name : List ℕ) (term : Term) → member ∷ [] ≡ other ∷ [] →
        IsFirstText other.text name term → ⊥
    none other name term only first =
        let own : other ≡ member = only_one (member ∷ []) other member only refl in
        let here : IsFirstText member.text name term =
        subst (λ (member : Member). IsFirstText member.text name term) own first in
        let same : here.tokens ≡ tokens = (lexing_is_one member.text).one_list here.tokens tokens here.has has in
        none-some (name, term)
        (sym is ∙ first_in_complete (kinds_of tokens) name term
        (subst (λ (all : List Token). AreFirstWords (kinds_of all) name term) same here.first))

task_stands : (packages : Packages) (first : List ModuleName) (own : Task) (members : List Member) →
    AreLoaded packages first members → TaskOutcome own members
task_stands packages first (task.Check modules) members loaded = inl (ok_text (length members), refl)
task_stands packages first (task.Instance own material) [] loaded =
    not_one own material [] (λ member only. absurd (omega (arith, ap length only)))
task_stands packages first (task.Instance own material) (member ∷ []) loaded =
    let accepted = loaded.each.0.accepted in
    text_stands own material member accepted.tokens (first_in (kinds_of accepted.tokens)) accepted.has refl
task_stands packages first (task.Instance own material) (member ∷ next ∷ more) loaded =
    not_one own material (member ∷ next ∷ more) (λ other only. absurd (omega (arith, ap length only)))

-- a command line over files has an answer or a refusal
abbrev Outcome : List (List ℕ) → List File → Type 0
Outcome words files =
    ((text : List ℕ) × Answer words files text)
    ⊎ ((s : Status) × ((line : List ℕ) × Refusal words files s line))

members_stand : (words : List (List ℕ)) (files : List File) (request : Request) → IsRequest words request →
    (members : List Member) → AreLoaded (packages_of request.roots files) (asked request.task) members →
    (line : List ℕ) → RefusesMembers request.task members line → Outcome words files
members_stand words files request is members loaded line refuses =
    inr (
      status.Refused,
      (
        line,
        record {
          request = request;
          is = is;
          refuses = inr (record { members = members; loaded = loaded; refuses = refuses });
        },
      ),
    )

clean_stands : (words : List (List ℕ)) (files : List File) (request : Request) → IsRequest words request →
    (members : List Member) → AreLoaded (packages_of request.roots files) (asked request.task) members →
    scope_faults (names_in members) members ≡ [] → TaskOutcome request.task members → Outcome words files
clean_stands words files request is members loaded clean (inl (text, answers)) =
    inl (
      text,
      record {
        request = request;
        is = is;
        answers = record { members = members; loaded = loaded; clean = clean; answers = answers };
      },
    )
clean_stands words files request is members loaded clean (inr (line, refuses)) =
    members_stand words files request is members loaded line (inr (record { clean = clean; refuses = refuses }))

-- a fault that stands in one of the modules has a line
line_stands : (members : List Member) (fault : ScopeFault) (m at : ℕ) → HasPlace members m at →
    (line : List ℕ) × HasLineAt members fault m at line
line_stands members fault m at place = (
  scope_line place.member.name fault (place_in place.member.text at),
  record { member = place.member; is = place.is; line_is = refl },
)

fault_stands : (members : List Member) (fault : ScopeFault) →
    (IsLeast (scope_faults (names_in members) members) scoping.OutOfMemory → ⊥) →
    IsLeast (scope_faults (names_in members) members) fault → HasPlaces members fault →
    (line : List ℕ) × RefusesScopes members line
fault_stands members (scoping.Twice m at) none least place =
    let told = line_stands members (scoping.Twice m at) m at place in
    (told.0, record { fault = scoping.Twice m at; least = least; told = told.1 })
fault_stands members (scoping.Unknown m at) none least place =
    let told = line_stands members (scoping.Unknown m at) m at place in
    (told.0, record { fault = scoping.Unknown m at; least = least; told = told.1 })
fault_stands members (scoping.NotExported m at) none least place =
    let told = line_stands members (scoping.NotExported m at) m at place in
    (told.0, record { fault = scoping.NotExported m at; least = least; told = told.1 })
fault_stands members (scoping.Clash m at) none least place =
    let told = line_stands members (scoping.Clash m at) m at place in
    (told.0, record { fault = scoping.Clash m at; least = least; told = told.1 })
fault_stands members scoping.OutOfMemory none least place = absurd (none least)

loaded_stands : OneScopes → (words : List (List ℕ)) (files : List File) (request : Request) →
    IsRequest words request → (members : List Member) →
    AreLoaded (packages_of request.roots files) (asked request.task) members →
    TaskOutcome request.task members → Outcome words files
loaded_stands scopes words files request is members loaded outcome =
    by (scopes (names_in members) members).stands
  where
    by : (scope_faults (names_in members) members ≡ [])
        ⊎ ((fault : ScopeFault) × IsLeast (scope_faults (names_in members) members) fault) → Outcome words files
    by (inl clean) = clean_stands words files request is members loaded clean outcome
    by (inr (fault, least)) =
        let one = scopes (names_in members) members in
        let told = fault_stands members fault one.no_memory least (one.placed fault least) in
        members_stand words files request is members loaded told.0 (inl told.1)

request_stands : OneScopes → (words : List (List ℕ)) (files : List File) (request : Request) →
    IsRequest words request →
    ((members : List Member) × AreLoaded (packages_of request.roots files) (asked request.task) members)
    ⊎ ((found : LoadFault) × HasLoadFault (packages_of request.roots files) (asked request.task) found) →
    Outcome words files
request_stands scopes words files request is (inl (members, loaded)) =
    loaded_stands scopes words files request is members loaded
    (task_stands (packages_of request.roots files) (asked request.task) request.task members loaded)
request_stands scopes words files request is (inr (found, stands)) =
    inr (
      status.Refused,
      (
        load_line found,
        record {
          request = request;
          is = is;
          refuses = inl (record { fault = found; stands = stands; line_is = refl });
        },
      ),
    )

words_stand : OneLoads → OneScopes → (words : List (List ℕ)) (files : List File) →
    ((request : Request) × IsRequest words request) ⊎ NoRequest words → Outcome words files
words_stand loads scopes words files (inl (request, is)) =
    request_stands scopes words files request is (loads (packages_of request.roots files) (asked request.task)).stands
words_stand loads scopes words files (inr none) = inr (status.Usage, (usage_line, (none, refl)))

-- each command line over files has an answer or a refusal
pub outcome_stands : OneRequests → OneLoads → OneScopes → (words : List (List ℕ)) (files : List File) →
    ((text : List ℕ) × Answer words files text)
    ⊎ ((s : Status) × ((line : List ℕ) × Refusal words files s line))
outcome_stands requests loads scopes words files = words_stand loads scopes words files (requests words).stands
