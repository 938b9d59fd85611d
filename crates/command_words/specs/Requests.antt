-- What the words of a command line ask for.
use Rattle.std.specs.Prelude.{◌≡◌, ◌≢◌, ℕ, ◌≤◌, ◌==◌, ◌||◌, Bool, true, false}
use Rattle.std.specs.Prelude.{List, [], ◌∷◌, ◌++◌, Option, Some, None, codes, decimal, length, map}
use Rattle.std.specs.List.{list_any, list_all, AllByRecursion}
use Rattle.std.specs.Str.{bytes_eq}
use Rattle.case_table.specs.Lists.{firsts}
use Rattle.module_set.specs.declared.module_name.ModuleName.{ModuleName}
use Rattle.module_set.specs.Names.{same_name, named, written_name}
use Rattle.command_words.specs.declared.request.Request.{Request}
use Rattle.command_words.specs.declared.request.Task.{Task}
use Rattle.command_words.specs.declared.request.Task.TheVariants as task
use Rattle.command_words.specs.Identifiers.{is_identifier}

-- a word begins with `-` and is longer
abbrev pub is_option : List ℕ → Bool
is_option [] = false
is_option (byte ∷ []) = false
is_option (byte ∷ more ∷ bytes) = byte == 45

abbrev pub workers_word : List ℕ
workers_word = codes "--workers"

-- the words behind the command are options, of which the values are told, and other words, in order. `--` ends the
-- options
pub data Sorted : List (List ℕ) → List (List ℕ) → List (List ℕ) → Type 0 where
  no_words : Sorted [] [] []
  ends : (words : List (List ℕ)) → Sorted (codes "--" ∷ words) [] words
  plain : (word : List ℕ) (words values others : List (List ℕ)) → is_option word ≡ false →
      Sorted words values others → Sorted (word ∷ words) values (word ∷ others)
  apart : (value : List ℕ) (words values others : List (List ℕ)) → Sorted words values others →
      Sorted (workers_word ∷ value ∷ words) (value ∷ values) others
  joined : (value : List ℕ) (words values others : List (List ℕ)) → Sorted words values others →
      Sorted ((workers_word ++ (codes "=" ++ value)) ∷ words) (value ∷ values) others

-- the option stands once at most. Its value is a number from 1 to 64, and 1 where it is left out
abbrev pub AreWorkers : List (List ℕ) → ℕ → Type 0
AreWorkers [] workers = workers ≡ 1
AreWorkers (value ∷ []) workers = (value ≡ decimal workers) × (1 ≤ workers) × (workers ≤ 64)
AreWorkers (value ∷ more ∷ values) workers = ⊥

-- paths with `:` between them
abbrev pub roots_text : List (List ℕ) → List ℕ
roots_text [] = []
roots_text (root ∷ []) = root
roots_text (root ∷ next ∷ roots) = root ++ (codes ":" ++ roots_text (next ∷ roots))

abbrev pub IsRoot : List ℕ → Type 0
IsRoot root = (root ≢ []) × (list_any (λ byte. byte == 58) root ≡ false)

-- the word is 1 to 64 paths
pub record AreRoots (word : List ℕ) (roots : List (List ℕ)) : Type 0 where
  pub written : word ≡ roots_text roots
  pub some : roots ≢ []
  pub few : length roots ≤ 64
  pub each : AllByRecursion IsRoot roots

-- a name of identifiers, at least one
abbrev pub IsName : ModuleName → Type 0
IsName name = (name.parts ≢ []) × (list_all is_identifier name.parts ≡ true)

-- the words behind the roots are those of the task
abbrev pub IsTask : List ℕ → List (List ℕ) → Task → Type 0
IsTask command words (task.Instance own material) =
    (command ≡ codes "instance") × (words ≡ written_name (named (own.parts ++ material ∷ [])) ∷ [])
    × IsName own × (is_identifier material ≡ true)
IsTask command words (task.Check modules) =
    (command ≡ codes "check") × (words ≡ map written_name modules) × (modules ≢ [])
    × AllByRecursion IsName modules × (firsts same_name modules ≡ modules)

-- the longest word
abbrev pub most_word : ℕ
most_word = 4194304

-- **The words are a request**: a command, options and other words, of which the first are the roots
pub record IsRequest (words : List (List ℕ)) (request : Request) : Type 0 where
  pub command : List ℕ
  pub behind : List (List ℕ)
  pub written : words ≡ command ∷ behind
  pub short : AllByRecursion (λ word. length word ≤ most_word) words
  pub values : List (List ℕ)
  pub roots_word : List ℕ
  pub others : List (List ℕ)
  pub sorted : Sorted behind values (roots_word ∷ others)
  pub workers : AreWorkers values request.workers
  pub roots : AreRoots roots_word request.roots
  pub is_task : IsTask command others request.task

-- the words ask for nothing
abbrev pub NoRequest : List (List ℕ) → Type 0
NoRequest words = (request : Request) → IsRequest words request → ⊥

-- the request that the words are, or nothing where they are none
abbrev pub HasRequest : List (List ℕ) → Option Request → Type 0
HasRequest words (Some request) = IsRequest words request
HasRequest words None = NoRequest words

-- the first word names a command
abbrev pub names_command : List (List ℕ) → Bool
names_command [] = false
names_command (word ∷ words) = bytes_eq word (codes "instance") || bytes_eq word (codes "check")
