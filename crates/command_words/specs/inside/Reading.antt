-- Reading the words of a command line, as functions.
use Rattle.std.specs.Prelude.{ℕ, nat_le, Bool, if◌then◌else◌}
use Rattle.std.specs.Prelude.{List, [], ◌∷◌, Option, Some, None, codes, length}
use Rattle.std.specs.List.{list_all}
use Rattle.std.specs.Str.{bytes_eq}
use Rattle.command_words.specs.declared.request.Request.{Request}
use Rattle.command_words.specs.declared.request.Task.{Task}
use Rattle.command_words.specs.declared.request.Task.TheVariants as task
use Rattle.command_words.specs.Requests.{most_word}
use Rattle.command_words.specs.inside.Options.{◌>>=◌, sorted_onto, workers_in}
use Rattle.command_words.specs.inside.Roots.{roots_in}
use Rattle.command_words.specs.inside.Names.{parts_of, instance_of, modules_onto}

abbrev pub is_short : List ℕ → Bool
is_short word = nat_le (length word) most_word

-- the instance that words ask for
unfoldable pub instance_in : List (List ℕ) → Option Task
instance_in [] = None
instance_in (name ∷ []) = parts_of name >>= instance_of
instance_in (name ∷ more ∷ words) = None

-- the check that words ask for
unfoldable pub check_in : List (List ℕ) → Option Task
check_in [] = None
check_in (word ∷ words) = modules_onto [] (word ∷ words) >>= λ modules. Some (task.Check modules)

-- the task that the words behind the roots are for a command
unfoldable pub task_in : List ℕ → List (List ℕ) → Option Task
task_in command words =
    if bytes_eq command (codes "instance") then instance_in words
    else if bytes_eq command (codes "check") then check_in words else None

-- the request that a command is with the values of its options and with other words
unfoldable pub request_of : List ℕ → List (List ℕ) → List (List ℕ) → Option Request
request_of command values [] = None
request_of command values (roots_word ∷ others) = do
  workers ← workers_in values
  roots ← roots_in roots_word
  task ← task_in command others
  Some (record { task = task; roots = roots; workers = workers })

-- the values of options and the other words among words
unfoldable pub sorted_in : List (List ℕ) → Option (List (List ℕ) × List (List ℕ))
sorted_in words = sorted_onto [] [] words

-- the request that the words are
unfoldable pub request_in : List (List ℕ) → Option Request
request_in [] = None
request_in (command ∷ words) =
    if list_all is_short (command ∷ words)
    then (sorted_in words >>= λ sorted. request_of command sorted.0 sorted.1) else None
