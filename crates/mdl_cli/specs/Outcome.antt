-- The answer to a command line over files, and the refusal where there is no answer.
use Rattle.std.specs.Prelude.{◌≡◌, ◌≢◌, ◌⊎◌, ℕ, List, [], ◌∷◌, ◌++◌, Some, codes}
use Rattle.std.specs.Prelude.{decimal, length, map, slice_get}
use Rattle.io_edge.specs.Source.{File}
use Rattle.type_rules.specs.Terms.{Term}
use Rattle.module_set.specs.declared.module_name.ModuleName.{ModuleName}
use Rattle.module_set.specs.Names.{named, written_name}
use Rattle.module_set.specs.Members.{Member}
use Rattle.scope_core.specs.declared.fault.ScopeFault.{ScopeFault}
use Rattle.scope_core.specs.ScopeFaults.{scope_faults, fault_key, IsLeast}
use Rattle.module_loader.specs.declared.fault.LoadFault.{LoadFault}
use Rattle.module_loader.specs.TextFaults.{place_in}
use Rattle.module_loader.specs.LoadFaults.{HasLoadFault}
use Rattle.module_loader.specs.Loads.{packages_of, AreLoaded}
use Rattle.command_words.specs.declared.request.Request.{Request}
use Rattle.command_words.specs.declared.request.Task.{Task}
use Rattle.command_words.specs.declared.request.Task.TheVariants as task
use Rattle.command_words.specs.Requests.{IsRequest, NoRequest}
use Rattle.mdl_cli.specs.declared.status.Status.{Status}
use Rattle.mdl_cli.specs.declared.status.Status.TheVariants as status
use Rattle.mdl_cli.specs.FirstText.{IsFirstText}
use Rattle.mdl_cli.specs.GraphText.{instance_text}
use Rattle.mdl_cli.specs.Lines.{usage_line, not_built_line, load_line, scope_line, material_unknown_line}

-- the modules that a task asks for
abbrev pub asked : Task → List ModuleName
asked (task.Instance own material) = own ∷ []
asked (task.Check modules) = modules

-- the absolute name of a material
abbrev pub material_name : ModuleName → List ℕ → List ℕ
material_name own material = written_name (named (own.parts ++ material ∷ []))

-- so many modules are in order
abbrev pub ok_text : ℕ → List ℕ
ok_text count = codes "ok " ++ (decimal count ++ codes "\n")

-- there is one module, its text is a first text of the material, and this is its instance's text
pub record IsInstance (own : ModuleName) (material : List ℕ) (members : List Member) (text : List ℕ) : Type 0 where
  pub member : Member
  pub only : members ≡ member ∷ []
  pub term : Term
  pub first : IsFirstText member.text material term
  pub text_is : text ≡ instance_text (material_name own material) term

-- the text that a task has over modules that are loaded
abbrev pub AnswersTask : Task → List Member → List ℕ → Type 0
AnswersTask (task.Instance own material) members text = IsInstance own material members text
AnswersTask (task.Check modules) members text = text ≡ ok_text (length members)

-- the names of modules
abbrev pub names_in : List Member → List ModuleName
names_in members = map (λ (member : Member). member.name) members

-- the modules that a request asks for are loaded from the files, nothing is wrong with their names, and this is the
-- text of its task
pub record AnswersRequest (request : Request) (files : List File) (text : List ℕ) : Type 0 where
  pub members : List Member
  pub loaded : AreLoaded (packages_of request.roots files) (asked request.task) members
  pub clean : scope_faults (names_in members) members ≡ []
  pub answers : AnswersTask request.task members text

-- the answer: the words are a request, and this is its text
pub record Answer (words : List (List ℕ)) (files : List File) (text : List ℕ) : Type 0 where
  pub request : Request
  pub is : IsRequest words request
  pub answers : AnswersRequest request files text

-- there are several modules, or the one isn't a first text
pub record RefusesForm (members : List Member) (line : List ℕ) : Type 0 where
  pub none : (member : Member) (name : List ℕ) (term : Term) → members ≡ member ∷ [] →
      IsFirstText member.text name term → ⊥
  pub line_is : line ≡ not_built_line

-- there is one module, which is a first text of another material
pub record RefusesMaterial (material : List ℕ) (members : List Member) (line : List ℕ) : Type 0 where
  pub member : Member
  pub only : members ≡ member ∷ []
  pub name : List ℕ
  pub term : Term
  pub first : IsFirstText member.text name term
  pub other : name ≢ material
  pub line_is : line ≡ material_unknown_line

-- the line of a task over modules that are loaded
abbrev pub RefusesTask : Task → List Member → List ℕ → Type 0
RefusesTask (task.Instance own material) members line =
    RefusesForm members line ⊎ RefusesMaterial material members line
RefusesTask (task.Check modules) members line = ⊥

-- the modules that a request asks for can't be loaded
pub record RefusesLoad (request : Request) (files : List File) (line : List ℕ) : Type 0 where
  pub fault : LoadFault
  pub stands : HasLoadFault (packages_of request.roots files) (asked request.task) fault
  pub line_is : line ≡ load_line fault

-- the line of a fault at a byte of a module, by its index
pub record HasLineAt (members : List Member) (fault : ScopeFault) (m at : ℕ) (line : List ℕ) : Type 0 where
  pub member : Member
  pub is : slice_get members m ≡ Some member
  pub line_is : line ≡ scope_line member.name fault (place_in member.text at)

-- something is wrong with the names of modules, and this is the line of the first fault
pub record RefusesScopes (members : List Member) (line : List ℕ) : Type 0 where
  pub fault : ScopeFault
  pub least : IsLeast (scope_faults (names_in members) members) fault
  pub told : HasLineAt members fault (fault_key fault).0 (fault_key fault).1 line

-- nothing is, and the task is refused
pub record RefusesClean (own : Task) (members : List Member) (line : List ℕ) : Type 0 where
  pub clean : scope_faults (names_in members) members ≡ []
  pub refuses : RefusesTask own members line

abbrev pub RefusesMembers : Task → List Member → List ℕ → Type 0
RefusesMembers own members line = RefusesScopes members line ⊎ RefusesClean own members line

-- they are loaded, and refused
pub record RefusesLoaded (request : Request) (files : List File) (line : List ℕ) : Type 0 where
  pub members : List Member
  pub loaded : AreLoaded (packages_of request.roots files) (asked request.task) members
  pub refuses : RefusesMembers request.task members line

abbrev pub RefusesRequest : Request → List File → List ℕ → Type 0
RefusesRequest request files line = RefusesLoad request files line ⊎ RefusesLoaded request files line

-- words that are a request are refused with this line
pub record RefusesAsked (words : List (List ℕ)) (files : List File) (line : List ℕ) : Type 0 where
  pub request : Request
  pub is : IsRequest words request
  pub refuses : RefusesRequest request files line

-- the refusal: its status and its line
abbrev pub Refusal : List (List ℕ) → List File → Status → List ℕ → Type 0
Refusal words files status.Usage line = NoRequest words × (line ≡ usage_line)
Refusal words files status.Refused line = RefusesAsked words files line
Refusal words files _ line = ⊥
