-- From what is found in modules that are loaded to what is found for the words.
use Rattle.std.proofs.Common.{◌≡◌, ◌≢◌, ◌≤◌, ℕ, true, false, List, [], ◌∷◌, Option, Some, None, length, map}
use Rattle.std.proofs.Common.{refl, sym, ap, ◌∙◌, subst, arith, inl, inr}
use Rattle.std.specs.Prelude.{IfSome, IfOk, Result, Ok, Err}
use Rattle.std.specs.List.{AllByRecursion}
use Rattle.std.specs.declared.vec.Vec.{Vec}
use Rattle.std.specs.declared.alloc.Global.{Global}
use Rattle.std.specs.declared.alloc.AllocError.{AllocError}
use Rattle.std.proofs.lemmas.Bool.{false≢true}
use Rattle.io_edge.specs.Source.{File, SourceState}
use Rattle.mdl_lexer.specs.declared.token.Token.{Token}
use Rattle.mdl_lexer.specs.declared.token.LexFault.{LexFault}
use Rattle.mdl_lexer.specs.declared.token.LexFault.TheVariants as lexical
use Rattle.mdl_lexer.specs.Lexes.{HasTokens, HasFault}
use Rattle.mdl_lexer.specs.OneLexing.{IsFault}
use Rattle.mdl_lexer.proofs.LexLaws.{lexing_is_one}
use Rattle.mdl_syntax.specs.declared.modules.Module.{Module}
use Rattle.module_set.specs.declared.module_name.ModuleName.{ModuleName}
use Rattle.module_set.specs.declared.set.ModuleSet.{ModuleSet}
use Rattle.module_set.specs.Members.{Member, members_from, members_of}
use Rattle.module_loader.specs.declared.fault.LoadFault.{LoadFault}
use Rattle.module_loader.specs.Files.{Packages, most_module}
use Rattle.module_loader.specs.Members.{IsMember}
use Rattle.module_loader.specs.LoadFaults.{HasLoadFault}
use Rattle.module_loader.specs.Loads.{MayHold, packages_of, AreLoaded, Loads}
use Rattle.command_words.specs.declared.request.Request.{Request}
use Rattle.command_words.specs.declared.request.Task.{Task}
use Rattle.command_words.specs.declared.request.Task.TheVariants as task
use Rattle.command_words.specs.Requests.{IsRequest, IsTask, NoRequest, names_command}
use Rattle.mdl_cli.specs.declared.status.Status.TheVariants as status
use Rattle.mdl_cli.specs.declared.answer.Answer.{Answer}
use Rattle.mdl_cli.specs.declared.answer.Answer.TheVariants as answer
use Rattle.mdl_cli.specs.Words.{kinds_of}
use Rattle.mdl_cli.specs.FirstText.{AreFirstWords, IsFirstText}
use Rattle.mdl_cli.specs.Lines.{usage_line, not_built_line, load_line}
use Rattle.scope_core.specs.ScopeFaults.{scope_faults}
use Rattle.mdl_cli.specs.Outcome.{asked, material_name, ok_text, names_in, AnswersTask, RefusesTask}
use Rattle.mdl_cli.specs.Outcome.{RefusesMembers}
use Rattle.mdl_cli.specs.Headline.{RefusalLine}
use Rattle.mdl_cli.specs.inside.Delivery.{HasCause, Finds, FindsIn, FindsInText, FindsInTexts, FindsInWords}
use Rattle.mdl_cli.specs.inside.Delivery.{FindsAt, IsLine, IsText, Told, AreShort}
use Rattle.mdl_cli.specs.inside.Delivery.{WithoutWords, FindsTask, TellsScopes}
use Rattle.mdl_cli.proofs.OutcomeLaws.{only_one}

-- a line or a text that may have failed is told, if there was memory for it
pub told_line : (line : List ℕ) (result : Result (Vec ℕ Global) AllocError) (found : Answer) →
    IfOk result (λ own. own.items ≡ line) → Told result found → IsLine line found
told_line line (Ok own) found is told = subst (IsLine line) (sym told) is
told_line line (Err error) found is told = subst (IsLine line) (sym told) tt

-- what is found in the words of a text is found in it
pub words_found : (whole material bytes : List ℕ) (tokens : List Token) (found : Answer) → HasTokens bytes tokens →
    FindsInWords whole material (kinds_of tokens) found → FindsInText whole material bytes found
words_found whole material bytes tokens (answer.Text text) has is =
    (is.0, record { tokens = tokens; has = has; first = is.1 }, is.2)
words_found whole material bytes tokens (answer.Refused line) has is =
    (is.0, (is.1.0, record { tokens = tokens; has = has; first = is.1.1 }, is.1.2, is.1.3))
words_found whole material bytes tokens answer.NotBuilt has is = λ name term first.
    is name term
    (subst (λ (all : List Token). AreFirstWords (kinds_of all) name term)
    ((lexing_is_one bytes).one_list first.tokens tokens first.has has) first.first)
words_found whole material bytes tokens answer.OutOfMemory has is = tt
words_found whole material bytes tokens answer.Usage has is = is
words_found whole material bytes tokens answer.ReadFault has is = is

-- bytes that have no words are no first text
none_found : (whole material bytes : List ℕ) (stands : LexFault) (found : Answer) → IsFault bytes stands →
    found ≡ answer.NotBuilt → FindsInText whole material bytes found
none_found whole material bytes stands found has is =
    subst (FindsInText whole material bytes) (sym is)
    (λ name term first. (lexing_is_one bytes).not_both first.tokens stands first.has has)

pub wordless_found : (whole material bytes : List ℕ) (stands : LexFault) (found : Answer) → HasFault bytes stands →
    WithoutWords stands found → FindsInText whole material bytes found
wordless_found whole material bytes (lexical.NotUtf8 at) found has is =
    none_found whole material bytes (lexical.NotUtf8 at) found ((λ e. absurd cc), has) is
wordless_found whole material bytes (lexical.BadToken at) found has is =
    none_found whole material bytes (lexical.BadToken at) found ((λ e. absurd cc), has) is
wordless_found whole material bytes (lexical.IntRange at) found has is =
    none_found whole material bytes (lexical.IntRange at) found ((λ e. absurd cc), has) is
wordless_found whole material bytes lexical.OutOfMemory found has is =
    subst (FindsInText whole material bytes) (sym is) tt

-- The lists of a set.

texts-from : (names : List ModuleName) (modules : List Module) (texts : List (List ℕ)) →
    length modules ≡ length names → length texts ≡ length names →
    map (λ (member : Member). member.text) (members_from names modules texts) ≡ texts
texts-from [] modules [] all each = refl
texts-from [] modules (text ∷ texts) all each = absurd (omega (arith, each))
texts-from (name ∷ names) [] texts all each = absurd (omega (arith, all))
texts-from (name ∷ names) (one ∷ modules) [] all each = absurd (omega (arith, each))
texts-from (name ∷ names) (one ∷ modules) (text ∷ texts) all each =
    ap (λ more. text ∷ more) (texts-from names modules texts (omega (arith, all)) (omega (arith, each)))

count-from : (names : List ModuleName) (modules : List Module) (texts : List (List ℕ)) →
    length modules ≡ length names → length texts ≡ length names →
    length (members_from names modules texts) ≡ length names
count-from [] modules texts all each = refl
count-from (name ∷ names) [] texts all each = absurd (omega (arith, all))
count-from (name ∷ names) (one ∷ modules) [] all each = absurd (omega (arith, each))
count-from (name ∷ names) (one ∷ modules) (text ∷ texts) all each =
    omega (arith, count-from names modules texts (omega (arith, all)) (omega (arith, each)))

all-short : (packages : Packages) (members : List Member) → AllByRecursion (IsMember packages) members →
    AllByRecursion (λ text. length text ≤ most_module) (map (λ (member : Member). member.text) members)
all-short packages [] is = tt
all-short packages (member ∷ members) is = (is.0.short, all-short packages members is.1)

-- the texts of a set that is loaded are short
pub short-texts : (roots : List (List ℕ)) (first : List ModuleName) (source : SourceState) (set : ModuleSet) →
    Loads roots first source set → AreShort set
short-texts roots first source set (files, held, loaded) =
    subst (AllByRecursion (λ text. length text ≤ most_module))
    (texts-from set.names set.modules set.texts loaded.whole.0 loaded.whole.1)
    (all-short (packages_of roots files) (members_of set) loaded.are.each)

-- What is found over modules with whose names nothing is wrong.

abbrev FindsOver : Task → List Member → Answer → Type 0
FindsOver own members (answer.Text text) = AnswersTask own members text.items
FindsOver own members (answer.Refused line) = RefusesTask own members line.items
FindsOver own members answer.NotBuilt = RefusesTask own members not_built_line
FindsOver own members answer.OutOfMemory = Unit {0}
FindsOver own members _ = ⊥

several_over : (own : ModuleName) (material : List ℕ) (members : List Member) (found : Answer) →
    ((member : Member) → members ≡ member ∷ [] → ⊥) → found ≡ answer.NotBuilt →
    FindsOver (task.Instance own material) members found
several_over own material members found several is =
    subst (FindsOver (task.Instance own material) members) (sym is)
    (inl (record { none = λ member name term only first. several member only; line_is = refl }))

one_over : (own : ModuleName) (material : List ℕ) (member : Member) (found : Answer) →
    FindsInText (material_name own material) material member.text found →
    FindsOver (task.Instance own material) (member ∷ []) found
one_over own material member (answer.Text text) is = record {
  member = member;
  only = refl;
  term = is.0;
  first = is.1;
  text_is = is.2;
}
one_over own material member (answer.Refused line) is =
    inr (record {
      member = member;
      only = refl;
      name = is.0;
      term = is.1.0;
      first = is.1.1;
      other = is.1.2;
      line_is = is.1.3;
    })
one_over own material member answer.NotBuilt is =
    inl (record {
      none = λ other name term only first.
          is name term
          (subst (λ (one : Member). IsFirstText one.text name term)
          (only_one (member ∷ []) other member only refl) first);
      line_is = refl;
    })
one_over own material member answer.OutOfMemory is = tt
one_over own material member answer.Usage is = is
one_over own material member answer.ReadFault is = is

instance_over : (own : ModuleName) (material : List ℕ) (members : List Member) (found : Answer) →
    FindsInTexts (material_name own material) material (map (λ (member : Member). member.text) members) found →
    FindsOver (task.Instance own material) members found
instance_over own material [] found is =
    several_over own material [] found (λ member only. absurd (omega (arith, ap length only))) is
instance_over own material (member ∷ []) found is = one_over own material member found is
instance_over own material (member ∷ next ∷ more) found is =
    several_over own material (member ∷ next ∷ more) found
    (λ other only. absurd (omega (arith, ap length only))) is

check_over : (modules : List ModuleName) (members : List Member) (count : ℕ) (found : Answer) →
    length members ≡ count → IsText (ok_text count) found → FindsOver (task.Check modules) members found
check_over modules members count (answer.Text text) same is = is ∙ ap ok_text (sym same)
check_over modules members count answer.OutOfMemory same is = tt
check_over modules members count (answer.Refused line) same is = absurd is
check_over modules members count answer.NotBuilt same is = absurd is
check_over modules members count answer.Usage same is = absurd is
check_over modules members count answer.ReadFault same is = absurd is

task_over : (own : Task) (set : ModuleSet) (found : Answer) → length set.modules ≡ length set.names →
    length set.texts ≡ length set.names → FindsTask own set found → FindsOver own (members_of set) found
task_over (task.Instance own material) set found all each is =
    instance_over own material (members_of set) found
    (subst (λ texts. FindsInTexts (material_name own material) material texts found)
    (sym (texts-from set.names set.modules set.texts all each)) is)
task_over (task.Check modules) set found all each is =
    check_over modules (members_of set) (length set.names) found
    (count-from set.names set.modules set.texts all each) is

-- What is found over modules that are loaded.

abbrev FindsLoaded : Task → List Member → Answer → Type 0
FindsLoaded own members (answer.Text text) =
    (scope_faults (names_in members) members ≡ []) × AnswersTask own members text.items
FindsLoaded own members (answer.Refused line) = RefusesMembers own members line.items
FindsLoaded own members answer.NotBuilt = RefusesMembers own members not_built_line
FindsLoaded own members answer.OutOfMemory = Unit {0}
FindsLoaded own members _ = ⊥

clean_loaded : (own : Task) (members : List Member) (found : Answer) → scope_faults (names_in members) members ≡ [] →
    FindsOver own members found → FindsLoaded own members found
clean_loaded own members (answer.Text text) clean is = (clean, is)
clean_loaded own members (answer.Refused line) clean is = inr (record { clean = clean; refuses = is })
clean_loaded own members answer.NotBuilt clean is = inr (record { clean = clean; refuses = is })
clean_loaded own members answer.OutOfMemory clean is = tt
clean_loaded own members answer.Usage clean is = is
clean_loaded own members answer.ReadFault clean is = is

scopes_loaded : (own : Task) (members : List Member) (found : Answer) → TellsScopes members found →
    FindsLoaded own members found
scopes_loaded own members (answer.Text text) told = absurd told
scopes_loaded own members (answer.Refused line) told = inl told
scopes_loaded own members answer.NotBuilt told = absurd told
scopes_loaded own members answer.OutOfMemory told = tt
scopes_loaded own members answer.Usage told = told
scopes_loaded own members answer.ReadFault told = told

set_loaded : (own : Task) (set : ModuleSet) (found : Answer) → length set.modules ≡ length set.names →
    length set.texts ≡ length set.names → FindsIn own set found → FindsLoaded own (members_of set) found
set_loaded own set found all each (inl (clean, is)) =
    clean_loaded own (members_of set) found clean (task_over own set found all each is)
set_loaded own set found all each (inr told) = scopes_loaded own (members_of set) found told

over_found : (request : Request) (source after : SourceState) (files : List File) (members : List Member)
    (found : Answer) → MayHold source files →
    AreLoaded (packages_of request.roots files) (asked request.task) members →
    FindsLoaded request.task members found → FindsAt request source after found
over_found request source after files members (answer.Text text) held loaded is = record {
  files = files;
  held = held;
  answers = record { members = members; loaded = loaded; clean = is.0; answers = is.1 };
}
over_found request source after files members (answer.Refused line) held loaded is = record {
  files = files;
  held = held;
  refuses = inr (record { members = members; loaded = loaded; refuses = is });
}
over_found request source after files members answer.NotBuilt held loaded is = record {
  files = files;
  held = held;
  refuses = inr (record { members = members; loaded = loaded; refuses = is });
}
over_found request source after files members answer.OutOfMemory held loaded is = tt
over_found request source after files members answer.Usage held loaded is = absurd is
over_found request source after files members answer.ReadFault held loaded is = absurd is

-- what is found in a set that is loaded is found for the request
pub loaded_found : (request : Request) (source after : SourceState) (roots : List (List ℕ))
    (first : List ModuleName) (set : ModuleSet) (found : Answer) → roots ≡ request.roots →
    first ≡ asked request.task → Loads roots first source set → FindsIn request.task set found →
    FindsAt request source after found
loaded_found request source after roots first set found same wanted (files, held, loaded) is =
    over_found request source after files (members_of set) found held
    (subst (λ first. AreLoaded (packages_of request.roots files) first (members_of set)) wanted
    (subst (λ roots. AreLoaded (packages_of roots files) first (members_of set)) same loaded.are))
    (set_loaded request.task set found loaded.whole.0 loaded.whole.1 is)

-- What is found where modules can't be loaded.

line_found : (request : Request) (source after : SourceState) (stands : LoadFault) (found : Answer) →
    (files : List File) × MayHold source files
    × HasLoadFault (packages_of request.roots files) (asked request.task) stands →
    IsLine (load_line stands) found → FindsAt request source after found
line_found request source after stands (answer.Refused line) (files, held, has) is = record {
  files = files;
  held = held;
  refuses = inl (record { fault = stands; stands = has; line_is = is });
}
line_found request source after stands answer.OutOfMemory has is = tt
line_found request source after stands (answer.Text text) has is = absurd is
line_found request source after stands answer.NotBuilt has is = absurd is
line_found request source after stands answer.Usage has is = absurd is
line_found request source after stands answer.ReadFault has is = absurd is

-- From a request to the words.

cause_of : (words : List (List ℕ)) (request : Request) (source after : SourceState) (found : Answer) →
    IsRequest words request → names_command words ≡ true → FindsAt request source after found →
    HasCause words source after found
cause_of words request source after (answer.Text text) is named at = record {
  files = at.files;
  held = at.held;
  answer = record { request = request; is = is; answers = at.answers };
}
cause_of words request source after (answer.Refused line) is named at = record {
  files = at.files;
  held = at.held;
  refusal = record { request = request; is = is; refuses = at.refuses };
}
cause_of words request source after answer.NotBuilt is named at = record {
  files = at.files;
  held = at.held;
  refusal = record { request = request; is = is; refuses = at.refuses };
}
cause_of words request source after answer.Usage is named at = absurd at
cause_of words request source after answer.ReadFault is named at = at.0
cause_of words request source after answer.OutOfMemory is named at = named

never_faulty : (request : Request) (source after : SourceState) (found : Answer) →
    FindsAt request source after found → source.steady ≡ true → found ≢ answer.ReadFault
never_faulty request source after found at steady is =
    (subst (FindsAt request source after) is at).1 steady

-- what is found for the request is found for the words
pub finds_asked : (words : List (List ℕ)) (request : Request) (source after : SourceState) (found : Answer) →
    names_command words ≡ true → IsRequest words request → FindsAt request source after found →
    Finds words source after found
finds_asked words request source after found named is at = record {
  cause = cause_of words request source after found is named at;
  steady = never_faulty request source after found at;
  no_command = λ unnamed. absurd (false≢true (sym unnamed ∙ named));
}

any_files : (told : Option (List File)) → (files : List File) × IfSome told (λ held. held ≡ files)
any_files None = ([], tt)
any_files (Some files) = (files, refl)

usage_stands : (words : List (List ℕ)) (source : SourceState) → NoRequest words →
    RefusalLine words source status.Usage usage_line
usage_stands words source none =
    let h = any_files source.files in record { files = h.0; held = h.1; refusal = (none, refl) }

-- words that are no request are found to be none
pub finds_usage : (words : List (List ℕ)) (source after : SourceState) → NoRequest words →
    Finds words source after answer.Usage
finds_usage words source after none = record {
  cause = usage_stands words source none;
  steady = λ steady e. absurd cc;
  no_command = λ unnamed. refl;
}

task_named : (command : List ℕ) (behind others : List (List ℕ)) (own : Task) →
    IsTask command others own → names_command (command ∷ behind) ≡ true
task_named command behind others (task.Instance name material) is =
    ap (λ word. names_command (word ∷ behind)) is.0
task_named command behind others (task.Check modules) is = ap (λ word. names_command (word ∷ behind)) is.0

pub unnamed_none : (words : List (List ℕ)) → names_command words ≡ false → NoRequest words
unnamed_none words unnamed request is =
    absurd (false≢true (sym unnamed
    ∙ (ap names_command is.written ∙ task_named is.command is.behind is.others request.task is.is_task)))
