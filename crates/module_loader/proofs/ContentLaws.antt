-- Reads, each path once.
use Rattle.std.proofs.Common.{◌≡◌, ℕ, suc, zero, ◌≤◌, ◌<◌, ◌==◌, Bool, true, false, List, [], ◌∷◌, ◌++◌, length}
use Rattle.std.proofs.Common.{slice_get, position, nat_lt, not, ◌+◌, ◌||◌}
use Rattle.std.proofs.Common.{refl, sym, ap, ◌∙◌, subst, arith, Some, None, Result, Ok, Err, is_ok}
use Rattle.std.proofs.Common.{IfSome, IfOk, OnOk, OnErr}
use Rattle.case_table.specs.ListLaws.{slice_get-push}
use Rattle.std.proofs.lemmas.List.{append-nil}
use Rattle.std.specs.List.{AllByRecursion, IsDistinct, list_any, position_or_len, prefix_len}
use Rattle.std.specs.Cmp.Lexicographic.{pointwise, bytes_decides}
use Rattle.std.proofs.lemmas.Bool.{true≢false, false≢true, cond_both, cond-false, or_parts, ltb-false}
use Rattle.std.proofs.lemmas.Option.{same_Some, none-some}
use Rattle.indexmap.specs.IndexMap.{insert_entry}
use Rattle.io_edge.specs.Source.{File, SourceState, Reads, Answers, file_at}
use Rattle.io_edge.specs.declared.source.Read.{Read}
use Rattle.io_edge.specs.declared.source.Read.TheVariants as read
use Rattle.module_loader.specs.declared.contents.Content.{Content}
use Rattle.module_loader.specs.declared.contents.Content.TheVariants as content
use Rattle.module_loader.specs.declared.fault.LoadFault.{LoadFault}
use Rattle.module_loader.specs.Files.{most_module}
use Rattle.module_loader.specs.inside.Contents.{Entry, AreRead, Reading, Fails, paths, content_of, IsShort, Tells}
use Rattle.module_loader.specs.inside.Contents.{Agree, StandsAt, content_at}

-- what holds of each member of two lists holds of each of both
pub all-append : {A : Type 0} (P : A → Type 0) (xs ys : List A) → AllByRecursion P xs → AllByRecursion P ys →
    AllByRecursion P (xs ++ ys)
all-append P [] ys h k = k
all-append P (x ∷ xs) ys h k = (h.0, all-append P xs ys h.1 k)

pub all-front : {A : Type 0} (P : A → Type 0) (xs ys : List A) → AllByRecursion P (xs ++ ys) → AllByRecursion P xs
all-front P [] ys h = tt
all-front P (x ∷ xs) ys h = (h.0, all-front P xs ys h.1)

pub all-at : {A : Type 0} (P : A → Type 0) (xs : List A) (k : ℕ) (x : A) → AllByRecursion P xs →
    slice_get xs k ≡ Some x → P x
all-at P [] k x h at = absurd (none-some x at)
all-at P (y ∷ xs) zero x h at = subst P (same_Some y x at) h.0
all-at P (y ∷ xs) (suc k) x h at = all-at P xs k x h.1 at

not_true : (b : Bool) → not b ≡ true → b ≡ false
not_true true h = absurd (false≢true h)
not_true false h = refl

not_false : (b : Bool) → not b ≡ false → b ≡ true
not_false true h = refl
not_false false h = absurd (true≢false h)

record At (test : List ℕ → Bool) (entries : List Entry) (index : ℕ) : Type 0 where
  entry : Entry
  at : slice_get entries index ≡ Some entry
  passes : test entry.0 ≡ true

at-first : (test : List ℕ → Bool) (entries : List Entry) → position_or_len test (paths entries) < length entries →
    At test entries (position_or_len test (paths entries))
at-first test [] h = absurd (omega (arith, h))
at-first test (entry ∷ entries) h =
    let front = prefix_len (λ path. not (test path)) (paths entries) in
    cond_both (not (test entry.0)) (1 + front) 0
    (λ index. index < length (entry ∷ entries) → At test (entry ∷ entries) index)
    (λ there within.
    let later = at-first test entries (omega (arith, within)) in
    let e : 1 + front ≡ suc front = omega arith in
    subst (At test (entry ∷ entries)) (sym e)
    (record { entry = later.entry; at = later.at; passes = later.passes }))
    (λ here within. record { entry = entry; at = refl; passes = not_false (test entry.0) here })
    h

first-of : (test : List ℕ → Bool) (entries : List Entry) (index : ℕ) →
    position test (paths entries) ≡ Some index → position_or_len test (paths entries) ≡ index
first-of test entries index found =
    let first = position_or_len test (paths entries) in
    cond_both (nat_lt first (length (paths entries))) (Some first) None
    (λ what. what ≡ Some index → first ≡ index) (λ _ e. same_Some first index e) (λ _ e. absurd (none-some index e))
    found

absent-front : (test : List ℕ → Bool) (all : List (List ℕ)) →
    length all ≤ prefix_len (λ path. not (test path)) all → list_any test all ≡ false
absent-front test [] h = refl
absent-front test (path ∷ all) h =
    let front = prefix_len (λ path. not (test path)) all in
    cond_both (not (test path)) (1 + front) 0 (λ n. length (path ∷ all) ≤ n → list_any test (path ∷ all) ≡ false)
    (λ there within.
    ap (λ b. b || list_any test all) (not_true (test path) there)
    ∙ absent-front test all (omega (arith, within)))
    (λ here within. absurd (omega (arith, within)))
    h

absent-of : (test : List ℕ → Bool) (all : List (List ℕ)) → position test all ≡ None → list_any test all ≡ false
absent-of test all none =
    let first = position_or_len test all in
    cond_both (nat_lt first (length all)) (Some first) None (λ what. what ≡ None → list_any test all ≡ false)
    (λ _ e. absurd (none-some first (sym e)))
    (λ past _. absent-front test all (ltb-false first (length all) past))
    none

insert-absent : (path : List ℕ) (what : Content) (entries : List Entry) →
    list_any (pointwise ◌==◌ path) (paths entries) ≡ false →
    insert_entry (pointwise ◌==◌) entries path what ≡ entries ++ (path, what) ∷ []
insert-absent path what [] h = refl
insert-absent path what (entry ∷ entries) h =
    let test = pointwise ◌==◌ path in
    let apart = or_parts (test entry.0) (list_any test (paths entries)) h in
    cond-false (test entry.0) ((entry.0, what) ∷ entries)
    (entry ∷ insert_entry (pointwise ◌==◌) entries path what) apart.0
    ∙ ap (λ more. entry ∷ more) (insert-absent path what entries apart.1)

-- a path that isn't known comes to the end
pub insert-new : (path : List ℕ) (what : Content) (entries : List Entry) →
    position (pointwise ◌==◌ path) (paths entries) ≡ None →
    insert_entry (pointwise ◌==◌) entries path what ≡ entries ++ (path, what) ∷ []
insert-new path what entries none =
    insert-absent path what entries (absent-of (pointwise ◌==◌ path) (paths entries) none)

-- a path that is known stands at its index
pub stands-known : (path : List ℕ) (entries : List Entry) (index : ℕ) → index < length entries →
    position (pointwise ◌==◌ path) (paths entries) ≡ Some index → StandsAt entries path index
stands-known path entries index within found =
    let is = first-of (pointwise ◌==◌ path) entries index found in
    let here = subst (At (pointwise ◌==◌ path) entries) is
    (at-first (pointwise ◌==◌ path) entries (subst (λ k. k < length entries) (sym is) within)) in
    let same = (bytes_decides path here.entry.0).0 here.passes in
    (here.entry.1, here.at ∙ ap (λ p. Some (p, here.entry.1)) (sym same))

abbrev value_of : Content → Result Content LoadFault → Content
value_of other (Ok what) = what
value_of other (Err found) = other

abbrev fault_of : LoadFault → Result Content LoadFault → LoadFault
fault_of other (Ok what) = other
fault_of other (Err found) = found

told-of : (path : List ℕ) (answer : Read) (before after : SourceState) (files : List File) →
    Reads path most_module answer before after → before.files ≡ Some files →
    Answers answer most_module (file_at files path)
told-of path answer before after files reads told =
    subst (λ all. IfSome all (λ files. Answers answer most_module (file_at files path))) told reads.told

tells : (path : List ℕ) (answer : Read) (what : Content) (files : List File) →
    Answers answer most_module (file_at files path) → content_of answer ≡ Ok what → Tells what (file_at files path)
tells path (read.Found bytes) what files told is =
    subst (λ what. Tells what (file_at files path)) (ap (value_of what) is) told
tells path read.Absent what files told is =
    subst (λ what. Tells what (file_at files path)) (ap (value_of what) is) told
tells path read.TooLong what files told is =
    subst (λ what. Tells what (file_at files path)) (ap (value_of what) is) told
tells path read.Failed what files told is = absurd (false≢true (ap is_ok is))
tells path read.OutOfMemory what files told is = absurd (false≢true (ap is_ok is))

-- one more path that was read
read-more : (path : List ℕ) (answer : Read) (what : Content) (before after : SourceState)
    (old new : List Entry) → Reads path most_module answer before after → content_of answer ≡ Ok what →
    new ≡ old ++ (path, what) ∷ [] → Reading before after old new
read-more path answer what before after old new reads is made = record {
  same_files = reads.same_files;
  counted = reads.counted;
  steady = λ steady. let stays = reads.stays_steady steady in (stays.steady, stays.same_faults);
  more = (path, what) ∷ [];
  grows = made;
  agrees = λ files told agree. subst (λ entries. Agree entries files) (sym made)
      (all-append _ old ((path, what) ∷ []) agree
      (tells path answer what files (told-of path answer before after files reads told) is, tt));
}

pub none-read : (before : SourceState) (entries : List Entry) → Reading before before entries entries
none-read before entries = record {
  same_files = refl;
  counted = omega arith;
  steady = λ steady. (steady, refl);
  more = [];
  grows = sym (append-nil entries);
  agrees = λ files told agree. agree;
}

unread : (path : List ℕ) (answer : Read) (before after : SourceState) (entries : List Entry) →
    Reads path most_module answer before after → Reading before after entries entries
unread path answer before after entries reads = record {
  same_files = reads.same_files;
  counted = reads.counted;
  steady = λ steady. let stays = reads.stays_steady steady in (stays.steady, stays.same_faults);
  more = [];
  grows = sym (append-nil entries);
  agrees = λ files told agree. agree;
}

-- a path that was read now, whether there was memory to keep it or not
pub read-learned : (path : List ℕ) (answer : Read) (what : Content) (before after : SourceState)
    (old new : List Entry) (result : Result ℕ LoadFault) → Reads path most_module answer before after →
    content_of answer ≡ Ok what → OnOk result (new ≡ old ++ (path, what) ∷ []) → OnErr result (new ≡ old) →
    Reading before after old new
read-learned path answer what before after old new (Ok index) reads is learned unchanged =
    read-more path answer what before after old new reads is learned
read-learned path answer what before after old new (Err found) reads is learned unchanged =
    subst (Reading before after old) (sym unchanged) (unread path answer before after old reads)

pub stands-learned : (path : List ℕ) (what : Content) (old new : List Entry) (result : Result ℕ LoadFault) →
    OnOk result (new ≡ old ++ (path, what) ∷ []) → IfOk result (λ index. index ≡ length old) →
    IfOk result (StandsAt new path)
stands-learned path what old new (Ok index) learned last = (
  what,
  ap (λ entries. slice_get entries index) learned
      ∙ ap (slice_get (old ++ (path, what) ∷ [])) last ∙ slice_get-push old (path, what),
)
stands-learned path what old new (Err found) learned last = tt

fails : (path : List ℕ) (answer : Read) (found : LoadFault) (before after : SourceState) →
    Reads path most_module answer before after → content_of answer ≡ Err found → Fails before after found
fails path (read.Found bytes) found before after reads is = absurd (true≢false (ap is_ok is))
fails path read.Absent found before after reads is = absurd (true≢false (ap is_ok is))
fails path read.TooLong found before after reads is = absurd (true≢false (ap is_ok is))
fails path read.Failed found before after reads is =
    subst (Fails before after) (ap (fault_of found) is)
    (reads.failed refl, λ steady. (reads.stays_steady steady).succeeds refl)
fails path read.OutOfMemory found before after reads is = subst (Fails before after) (ap (fault_of found) is) tt

pub distinct-short : (path : List ℕ) (what : Content) (old new : List Entry) → AreRead old →
    IsDistinct (pointwise ◌==◌) (paths new) → IsShort (path, what) → new ≡ old ++ (path, what) ∷ [] → AreRead new
distinct-short path what old new read once short made = record {
  short = subst (AllByRecursion IsShort) (sym made)
      (all-append IsShort old ((path, what) ∷ []) read.short (short, tt));
  once = once;
}

-- what was found at an index is short
pub short-at : (entries : List Entry) (index : ℕ) (bytes : List ℕ) → AllByRecursion IsShort entries →
    content_at entries index ≡ Some (content.Found bytes) → length bytes ≤ most_module
short-at [] index bytes short at = absurd (none-some (content.Found bytes) at)
short-at (entry ∷ entries) zero bytes short at =
    subst (λ what. IsShort (entry.0, what)) (same_Some entry.1 (content.Found bytes) at) short.0
short-at (entry ∷ entries) (suc index) bytes short at = short-at entries index bytes short.1 at
