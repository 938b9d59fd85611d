-- Reading the words of a command line agrees with what a request is.
use Rattle.std.proofs.Common.{◌≡◌, ◌≢◌, ◌≤◌, ℕ, cond, Bool, true, ◌⊎◌, inl, inr}
use Rattle.std.proofs.Common.{List, [], ◌∷◌, ◌++◌, Option, Some, None, codes, length, map, refl, sym, ap, ◌∙◌, subst}
use Rattle.std.proofs.Common.{arith, option_and_then}
use Rattle.std.specs.List.{list_all, AllByRecursion}
use Rattle.std.specs.Str.{bytes_eq}
use Rattle.std.proofs.lemmas.Bool.{cond-true, and_parts, and_from, leb-true, le-leb}
use Rattle.std.proofs.lemmas.Option.{same_Some, none-some, option_and_then_some}
use Rattle.module_set.specs.declared.module_name.ModuleName.{ModuleName}
use Rattle.module_set.specs.Names.{named, written_name}
use Rattle.command_words.specs.declared.request.Request.{Request}
use Rattle.command_words.specs.declared.request.Task.{Task}
use Rattle.command_words.specs.declared.request.Task.TheVariants as task
use Rattle.command_words.specs.Identifiers.{is_identifier}
use Rattle.command_words.specs.Requests.{IsRequest, NoRequest, HasRequest, IsTask, Sorted, AreRoots, AreWorkers}
use Rattle.command_words.specs.Requests.{most_word}
use Rattle.command_words.specs.OneRequest.{OneRequest}
use Rattle.command_words.specs.inside.Options.{workers_in}
use Rattle.command_words.specs.inside.Roots.{roots_in}
use Rattle.command_words.specs.inside.Names.{parts_of, instance_of, modules_onto}
use Rattle.command_words.specs.inside.Reading.{is_short, instance_in, check_in, task_in, request_of, sorted_in}
use Rattle.command_words.specs.inside.Reading.{request_in}
use Rattle.command_words.proofs.NameLaws.{parts_of_sound, parts_of_complete}
use Rattle.command_words.proofs.PartFronts.{cond_then}
use Rattle.command_words.proofs.OptionLaws.{choice, same_bytes, sorted_sound, sorted_complete}
use Rattle.command_words.proofs.NumberLaws.{workers_sound, workers_complete}
use Rattle.command_words.proofs.RootLaws.{roots_sound, roots_complete}
use Rattle.command_words.proofs.ModuleLaws.{instance_of_sound, instance_of_complete, modules_sound, modules_complete}

-- all pass, and one more
all_front : (p : List ℕ → Bool) (xs : List (List ℕ)) (x : List ℕ) → list_all p (xs ++ x ∷ []) ≡ true →
    (list_all p xs ≡ true) × (p x ≡ true)
all_front p [] x h = (refl, (and_parts (p x) true h).0)
all_front p (y ∷ xs) x h =
    let both = and_parts (p y) (list_all p (xs ++ x ∷ [])) h in
    let rest = all_front p xs x both.1 in
    (and_from (p y) (list_all p xs) both.0 rest.0, rest.1)

all_behind : (p : List ℕ → Bool) (xs : List (List ℕ)) (x : List ℕ) → list_all p xs ≡ true → p x ≡ true →
    list_all p (xs ++ x ∷ []) ≡ true
all_behind p [] x h last = and_from (p x) true last refl
all_behind p (y ∷ xs) x h last =
    let both = and_parts (p y) (list_all p xs) h in
    and_from (p y) (list_all p (xs ++ x ∷ [])) both.0 (all_behind p xs x both.1 last)

-- words are an instance's
instance_sound : (words : List (List ℕ)) (found : Task) → instance_in words ≡ Some found →
    IsTask (codes "instance") words found
unfolding instance_in
instance_sound [] found e = absurd (none-some found e)
instance_sound (name ∷ []) found e =
    option_and_then_some instance_of (parts_of name) found e (λ parts parts_is e1.
    let named_so = parts_of_sound name parts parts_is in
    let made = instance_of_sound parts found e1 in
    let all = all_front is_identifier made.own.parts made.material
    (subst (λ ps. list_all is_identifier ps ≡ true) (sym made.parts_are) named_so.1) in
    let written : name ≡ written_name (named (made.own.parts ++ made.material ∷ [])) =
    sym named_so.0 ∙ ap (λ ps. written_name (named ps)) (sym made.parts_are) in
    subst (IsTask (codes "instance") (name ∷ [])) (sym made.is)
    (refl, ap (λ word. word ∷ []) written, (made.some, all.0), all.1))
instance_sound (name ∷ more ∷ words) found e = absurd (none-some found e)

instance_complete : (own : ModuleName) (material : List ℕ) → own.parts ≢ [] → list_all is_identifier own.parts ≡ true →
    is_identifier material ≡ true →
    instance_in (written_name (named (own.parts ++ material ∷ [])) ∷ []) ≡ Some (task.Instance own material)
unfolding instance_in
instance_complete own material some names last =
    ap (option_and_then instance_of)
    (parts_of_complete (own.parts ++ material ∷ []) (all_behind is_identifier own.parts material names last))
    ∙ instance_of_complete own.parts material some

-- words are a check's
check_sound : (words : List (List ℕ)) (found : Task) → check_in words ≡ Some found → IsTask (codes "check") words found
unfolding check_in
check_sound [] found e = absurd (none-some found e)
check_sound (word ∷ words) found e =
    option_and_then_some (λ (all : List ModuleName). Some (task.Check all)) (modules_onto [] (word ∷ words)) found e
    (λ all all_is e1.
    let r = modules_sound (word ∷ words) [] all all_is in
    let some : r.own ≢ [] =
    λ none.
    let long : length (word ∷ words) ≡ 0 = ap length (r.written ∙ ap (map written_name) none) in
    omega arith in
    subst (IsTask (codes "check") (word ∷ words)) (ap task.Check (sym r.is) ∙ same_Some (task.Check all) found e1)
    (refl, r.written, some, r.names, r.firsts_are))

check_complete : (found : Task) (words : List (List ℕ)) (modules : List ModuleName) → found ≡ task.Check modules →
    words ≡ map written_name modules → IsTask (codes "check") words (task.Check modules) →
    check_in words ≡ Some found
unfolding check_in
check_complete found words [] found_is words_are h = absurd (h.2 refl)
check_complete found words (one ∷ modules) found_is words_are h =
    ap check_in words_are
    ∙ (ap (option_and_then (λ (all : List ModuleName). Some (task.Check all)))
    (modules_complete (one ∷ modules) [] h.3 h.4)
    ∙ ap Some (sym found_is))

-- words are a task's
task_sound : (command : List ℕ) (words : List (List ℕ)) (found : Task) → task_in command words ≡ Some found →
    IsTask command words found
unfolding task_in
task_sound command words found e =
    let other = cond (bytes_eq command (codes "check")) (check_in words) None in
    choice (bytes_eq command (codes "instance")) (instance_in words) other (Some found) e
    (λ is e1.
    subst (λ word. IsTask word words found) (sym (same_bytes command (codes "instance") is))
    (instance_sound words found e1))
    (λ isnt e1.
    choice (bytes_eq command (codes "check")) (check_in words) None (Some found) e1
    (λ is e2.
    subst (λ word. IsTask word words found) (sym (same_bytes command (codes "check") is)) (check_sound words found e2))
    (λ unknown e2. absurd (none-some found e2)))

task_complete : (command : List ℕ) (words : List (List ℕ)) (found : Task) → IsTask command words found →
    task_in command words ≡ Some found
unfolding task_in
task_complete command words (task.Instance own material) h =
    ap (λ word. task_in word words) h.0
    ∙ (ap instance_in h.1 ∙ instance_complete own material h.2.0 h.2.1 h.3)
task_complete command words (task.Check modules) h =
    ap (λ word. task_in word words) h.0
    ∙ check_complete (task.Check modules) words modules refl h.1 (refl, h.1, h.2, h.3, h.4)

-- what stands behind the command is a request's
record IsRest (command : List ℕ) (values words : List (List ℕ)) (request : Request) : Type 0 where
  roots_word : List ℕ
  others : List (List ℕ)
  words_are : words ≡ roots_word ∷ others
  workers : AreWorkers values request.workers
  roots : AreRoots roots_word request.roots
  is_task : IsTask command others request.task

rest_sound : (command : List ℕ) (values words : List (List ℕ)) (request : Request) →
    request_of command values words ≡ Some request → IsRest command values words request
unfolding request_of
rest_sound command values [] request e = absurd (none-some request e)
rest_sound command values (roots_word ∷ others) request e =
    option_and_then_some _ (workers_in values) request e (λ workers workers_are e1.
    option_and_then_some _ (roots_in roots_word) request e1 (λ roots roots_are e2.
    option_and_then_some _ (task_in command others) request e2 (λ found found_is e3.
    subst (IsRest command values (roots_word ∷ others))
    (same_Some (record { task = found; roots = roots; workers = workers }) request e3)
    (record {
      roots_word = roots_word;
      others = others;
      words_are = refl;
      workers = workers_sound values workers workers_are;
      roots = roots_sound roots_word roots roots_are;
      is_task = task_sound command others found found_is;
    }))))

rest_complete : (command roots_word : List ℕ) (values others : List (List ℕ)) (request : Request) →
    AreWorkers values request.workers → AreRoots roots_word request.roots → IsTask command others request.task →
    request_of command values (roots_word ∷ others) ≡ Some request
unfolding request_of
rest_complete command roots_word values others request workers roots is_task =
    ap (option_and_then _) (workers_complete values request.workers workers)
    ∙ (ap (option_and_then _) (roots_complete roots_word request.roots roots)
    ∙ ap (option_and_then _) (task_complete command others request.task is_task))

short_sound : (words : List (List ℕ)) → list_all is_short words ≡ true →
    AllByRecursion (λ (word : List ℕ). length word ≤ most_word) words
short_sound [] h = tt
short_sound (word ∷ words) h =
    let both = and_parts (is_short word) (list_all is_short words) h in
    (leb-true (length word) most_word both.0, short_sound words both.1)

short_complete : (words : List (List ℕ)) → AllByRecursion (λ (word : List ℕ). length word ≤ most_word) words →
    list_all is_short words ≡ true
short_complete [] h = refl
short_complete (word ∷ words) h =
    and_from (is_short word) (list_all is_short words) (le-leb (length word) most_word h.0) (short_complete words h.1)

-- words that are read as a request are that request
pub request_sound : (words : List (List ℕ)) (request : Request) → request_in words ≡ Some request →
    IsRequest words request
unfolding request_in sorted_in
request_sound [] request e = absurd (none-some request e)
request_sound (command ∷ behind) request e =
    let found = option_and_then (λ (sorted : List (List ℕ) × List (List ℕ)). request_of command sorted.0 sorted.1)
    (sorted_in behind) in
    let both = cond_then (list_all is_short (command ∷ behind)) found request e in
    option_and_then_some (λ (sorted : List (List ℕ) × List (List ℕ)). request_of command sorted.0 sorted.1)
    (sorted_in behind) request both.1 (λ sorted sorted_is e1.
    let reads = sorted_sound behind [] [] sorted sorted_is in
    let rest = rest_sound command sorted.0 sorted.1 request e1 in
    record {
      command = command;
      behind = behind;
      written = refl;
      short = short_sound (command ∷ behind) both.0;
      values = reads.own_values;
      roots_word = rest.roots_word;
      others = rest.others;
      sorted = subst (Sorted behind reads.own_values) (sym reads.others_are ∙ rest.words_are) reads.sorted;
      workers = subst (λ values. AreWorkers values request.workers) reads.values_are rest.workers;
      roots = rest.roots;
      is_task = rest.is_task;
    })

-- words that are a request are read as that request
pub request_complete : (words : List (List ℕ)) (request : Request) → IsRequest words request →
    request_in words ≡ Some request
unfolding request_in sorted_in
request_complete words request h =
    let short : list_all is_short (h.command ∷ h.behind) ≡ true =
    ap (list_all is_short) (sym h.written) ∙ short_complete words h.short in
    ap request_in h.written
    ∙ (cond-true (list_all is_short (h.command ∷ h.behind)) _ None short
    ∙ (ap (option_and_then (λ (sorted : List (List ℕ) × List (List ℕ)). request_of h.command sorted.0 sorted.1))
    (sorted_complete [] [] h.behind h.values (h.roots_word ∷ h.others) h.sorted)
    ∙ rest_complete h.command h.roots_word h.values h.others request h.workers h.roots h.is_task))

-- what words are read as is the request that they are
pub request_has : (words : List (List ℕ)) (found : Option Request) → found ≡ request_in words → HasRequest words found
request_has words None e = λ request h. none-some request (e ∙ request_complete words request h)
request_has words (Some request) e = request_sound words request (sym e)

one_or_none : (words : List (List ℕ)) (found : Option Request) → HasRequest words found →
    ((request : Request) × IsRequest words request) ⊎ NoRequest words
one_or_none words None h = inr h
one_or_none words (Some request) h = inl (request, h)

-- words are one request, or none
pub request_is_one : (words : List (List ℕ)) → OneRequest words
request_is_one words = record {
  stands = one_or_none words (request_in words) (request_has words (request_in words) refl);
  one = λ a b is_a is_b. same_Some a b (sym (request_complete words a is_a) ∙ request_complete words b is_b);
}
