-- A module's file under the roots.
use Rattle.std.proofs.Common.{◌≡◌, ℕ, suc, zero, ◌<◌, ◌+◌, List, [], ◌∷◌, ◌++◌, length, map, drop, slice_get}
use Rattle.std.proofs.Common.{refl, sym, ap, ◌∙◌, subst, arith, Some, option_map, get_or, string_bytes, String, Global}
use Rattle.std.specs.Option.{option_or}
use Rattle.std.proofs.lemmas.List.{append_assoc}
use Rattle.std.proofs.lemmas.Option.{same_Some, none-some, slice_get-map, slice_get_read}
use Rattle.io_edge.specs.Source.{File, SourceState, file_at}
use Rattle.module_set.specs.declared.module_name.ModuleName.{ModuleName}
use Rattle.module_loader.specs.declared.contents.Content.{Content}
use Rattle.module_loader.specs.declared.contents.Content.TheVariants as content
use Rattle.module_loader.specs.Files.{path_of, file_under}
use Rattle.module_loader.specs.inside.Contents.{Entry, Reading, StandsAt, Tells, Agree, content_at}
use Rattle.module_loader.specs.declared.files.Located.TheVariants as located
use Rattle.module_loader.specs.inside.Locating.{IsLocated}
use Rattle.module_loader.proofs.ContentLaws.{all-front, all-at}

-- what holds of all that was read holds of what was read before
pub older : (before after : SourceState) (old new : List Entry) (files : List File) → Reading before after old new →
    Agree new files → Agree old files
older before after old new files reads agree =
    all-front _ old reads.more (subst (λ entries. Agree entries files) reads.grows agree)

-- reads, and then more
pub reads_on : (a b c : SourceState) (old mid new : List Entry) → Reading a b old mid → Reading b c mid new →
    Reading a c old new
reads_on a b c old mid new one two = record {
  same_files = two.same_files ∙ one.same_files;
  counted = omega (arith, one.counted, two.counted);
  steady = λ steady.
      let first = one.steady steady in
      let second = two.steady first.0 in
      (second.0, second.1 ∙ first.1);
  more = one.more ++ two.more;
  grows = two.grows ∙ (ap (λ entries. entries ++ two.more) one.grows ∙ append_assoc old one.more two.more);
  agrees = λ files told agree. two.agrees files (one.same_files ∙ told) (one.agrees files told agree);
}

-- what stands at a path is told of its file
pub told-at : (entries : List Entry) (path : List ℕ) (index : ℕ) (what : Content) (files : List File) →
    StandsAt entries path index → content_at entries index ≡ Some what → Agree entries files →
    Tells what (file_at files path)
told-at entries path index what files stands is agree =
    let own = slice_get-map (λ (entry : Entry). entry.1) entries index
    ∙ ap (λ found. option_map (λ (entry : Entry). entry.1) found) stands.1 in
    let same = same_Some stands.0 what (sym own ∙ is) in
    subst (λ what. Tells what (file_at files path)) same
    (all-at (λ (entry : Entry). Tells entry.1 (file_at files entry.0)) entries index (path, stands.0) agree stands.1)

under-next : (files : List File) (roots : List (List ℕ)) (i : ℕ) (root : List ℕ) (name : ModuleName) →
    slice_get roots i ≡ Some root → file_under files (drop i roots) name
    ≡ option_or (file_at files (path_of root name)) (file_under files (drop (i + 1) roots) name)
under-next files [] i root name at = absurd (none-some root at)
under-next files (own ∷ roots) zero root name at =
    ap (λ (root : List ℕ). option_or (file_at files (path_of root name)) (file_under files roots name))
    (same_Some own root at)
under-next files (own ∷ roots) (suc i) root name at =
    let e : suc i + 1 ≡ suc (i + 1) = omega arith in
    under-next files roots i root name at
    ∙ ap (λ n. option_or (file_at files (path_of root name)) (file_under files (drop n (own ∷ roots)) name)) (sym e)

-- a root of the loop among all
pub root-at : (roots : List (String Global)) (i : ℕ) (root : String Global) → i < length roots →
    root ≡ get_or roots i root → slice_get (map string_bytes roots) i ≡ Some (string_bytes root)
root-at roots i root within is =
    slice_get-map string_bytes roots i ∙ ap (option_map string_bytes)
    (slice_get_read roots (length roots) i root refl within is)

-- the roots up to one, under which a path was read
pub record RootRead (roots : List (List ℕ)) (name : ModuleName) (old new : List Entry) (i index : ℕ) (path : List ℕ)
    (what : Content) : Type 0 where
  pub before : (files : List File) → Agree old files →
      file_under files roots name ≡ file_under files (drop i roots) name
  pub root : List ℕ
  pub at : slice_get roots i ≡ Some root
  pub path_is : path ≡ path_of root name
  pub earlier : (files : List File) → Agree new files → Agree old files
  pub stands : StandsAt new path index
  pub is : content_at new index ≡ Some what

pub read-root : (roots : List (List ℕ)) (name : ModuleName) (old new : List Entry) (i index : ℕ) (path : List ℕ)
    (what : Content) (files : List File) → RootRead roots name old new i index path what → Agree new files →
    (file_under files roots name ≡ option_or (file_at files path) (file_under files (drop (i + 1) roots) name))
    × Tells what (file_at files path)
read-root roots name old new i index path what files read agree =
    let next = under-next files roots i read.root name read.at in (
      read.before files (read.earlier files agree)
          ∙ (next ∙ ap (λ path. option_or (file_at files path) (file_under files (drop (i + 1) roots) name))
          (sym read.path_is)),
      told-at new path index what files read.stands read.is agree,
    )

module _ (roots : List (List ℕ)) (name : ModuleName) (old new : List Entry) (i index : ℕ) (path : List ℕ) where
  pub located-found : (bytes : List ℕ) → RootRead roots name old new i index path (content.Found bytes) →
      IsLocated roots name new (located.At index)
  located-found bytes read = (
    bytes,
    read.is,
    λ files agree.
        let next = read-root roots name old new i index path (content.Found bytes) files read agree in
        next.0 ∙ ap (λ file. option_or file (file_under files (drop (i + 1) roots) name)) next.1,
  )

  pub located-long : RootRead roots name old new i index path content.TooLong →
      IsLocated roots name new located.TooLong
  located-long read files agree =
      let next = read-root roots name old new i index path content.TooLong files read agree in (
        next.1.0,
        next.0 ∙ ap (λ file. option_or file (file_under files (drop (i + 1) roots) name)) next.1.1,
        next.1.2,
      )

  pub located-later : RootRead roots name old new i index path content.Absent → (files : List File) →
      Agree new files → file_under files roots name ≡ file_under files (drop (i + 1) roots) name
  located-later read files agree =
      let next = read-root roots name old new i index path content.Absent files read agree in
      next.0 ∙ ap (λ file. option_or file (file_under files (drop (i + 1) roots) name)) next.1
