-- Files that hold what was read.
use Rattle.std.proofs.Common.{◌≡◌, ℕ, ◌+◌, ◌<◌, ◌==◌, Bool, true, false, List, [], ◌∷◌, length, replicate}
use Rattle.std.proofs.Common.{refl, sym, ap, ◌∙◌, subst, arith, Option, Some, None, IfSome, if◌then◌else◌}
use Rattle.std.specs.List.{AllByRecursion, IsDistinct}
use Rattle.std.specs.Cmp.Lexicographic.{pointwise, bytes_decides}
use Rattle.std.proofs.lemmas.List.{length-replicate}
use Rattle.std.proofs.lemmas.Bool.{true≢false}
use Rattle.io_edge.specs.Source.{File, SourceState, file_at}
use Rattle.module_loader.specs.declared.contents.Content.{Content}
use Rattle.module_loader.specs.declared.contents.Content.TheVariants as content
use Rattle.module_loader.specs.Files.{Packages, most_module}
use Rattle.module_set.specs.declared.module_name.ModuleName.{ModuleName}
use Rattle.module_loader.specs.declared.fault.LoadFault.{LoadFault}
use Rattle.module_loader.specs.declared.fault.LoadFault.TheVariants as fault
use Rattle.module_loader.specs.LoadFaults.{HasLoadFault}
use Rattle.module_loader.specs.inside.Linking.{HasClosureFault}
use Rattle.module_loader.specs.Loads.{MayHold, FailsToLoad}
use Rattle.module_loader.specs.inside.Contents.{Entry, AreRead, Reading, Tells, Agree, paths}
use Rattle.module_loader.specs.inside.Loading.{Surely, over}

-- a file as long as that one is too long
long_file : ℕ → List ℕ
long_file most = replicate (most + 1) 0

file_of : ℕ → List ℕ → Content → List File → List File
file_of most path (content.Found bytes) files = (path, bytes) ∷ files
file_of most path content.Absent files = files
file_of most path content.TooLong files = (path, long_file most) ∷ files

files_of : ℕ → List Entry → List File
files_of most [] = []
files_of most (entry ∷ entries) = file_of most entry.0 entry.1 (files_of most entries)

-- what stands at a path that isn't read
absent-in : (most : ℕ) (entries : List Entry) (path : List ℕ) →
    AllByRecursion (λ other. pointwise ◌==◌ path other ≡ false) (paths entries) →
    file_at (files_of most entries) path ≡ None
unfolding files_of file_of
absent-in most [] path apart = refl
absent-in most ((own, content.Found bytes) ∷ entries) path apart =
    ap (λ b. if b then Some bytes else file_at (files_of most entries) path) apart.0
    ∙ absent-in most entries path apart.1
absent-in most ((own, content.Absent) ∷ entries) path apart = absent-in most entries path apart.1
absent-in most ((own, content.TooLong) ∷ entries) path apart =
    ap (λ b. if b then Some (long_file most) else file_at (files_of most entries) path) apart.0
    ∙ absent-in most entries path apart.1

-- how a content tells of a file, for any longest length
abbrev TellsOf : ℕ → Content → Option (List ℕ) → Type 0
TellsOf most (content.Found bytes) file = file ≡ Some bytes
TellsOf most content.Absent file = file ≡ None
TellsOf most content.TooLong file = (bytes : List ℕ) × (file ≡ Some bytes) × (most < length bytes)

tells-own : (most : ℕ) (path : List ℕ) (what : Content) (entries : List Entry) →
    AllByRecursion (λ other. pointwise ◌==◌ path other ≡ false) (paths entries) →
    TellsOf most what (file_at (file_of most path what (files_of most entries)) path)
unfolding file_of long_file
tells-own most path (content.Found bytes) entries apart =
    ap (λ b. if b then Some bytes else file_at (files_of most entries) path) ((bytes_decides path path).1 refl)
tells-own most path content.Absent entries apart = absent-in most entries path apart
tells-own most path content.TooLong entries apart = (
  long_file most,
  ap (λ b. if b then Some (long_file most) else file_at (files_of most entries) path)
      ((bytes_decides path path).1 refl),
  omega (arith, length-replicate {A = ℕ} (most + 1) 0),
)

file-later : (most : ℕ) (path own : List ℕ) (what : Content) (files : List File) →
    pointwise ◌==◌ path own ≡ false → file_at (file_of most own what files) path ≡ file_at files path
unfolding file_of
file-later most path own (content.Found bytes) files apart =
    ap (λ b. if b then Some bytes else file_at files path) apart
file-later most path own content.Absent files apart = refl
file-later most path own content.TooLong files apart =
    ap (λ b. if b then Some (long_file most) else file_at files path) apart

apart-back : (path own : List ℕ) → pointwise ◌==◌ own path ≡ false → pointwise ◌==◌ path own ≡ false
apart-back path own apart = by (pointwise ◌==◌ path own) refl
  where
    by : (b : Bool) → pointwise ◌==◌ path own ≡ b → b ≡ false
    by false is = refl
    by true is = absurd (true≢false (sym ((bytes_decides own path).1 (sym ((bytes_decides path own).0 is))) ∙ apart))

tells-later : (most : ℕ) (own : List ℕ) (what : Content) (files : List File) (entries : List Entry) →
    AllByRecursion (λ other. pointwise ◌==◌ own other ≡ false) (paths entries) →
    AllByRecursion (λ (entry : Entry). TellsOf most entry.1 (file_at files entry.0)) entries →
    AllByRecursion (λ (entry : Entry). TellsOf most entry.1 (file_at (file_of most own what files) entry.0)) entries
tells-later most own what files [] apart h = tt
tells-later most own what files (entry ∷ entries) apart h = (
  subst (TellsOf most entry.1)
      (sym (file-later most entry.0 own what files (apart-back entry.0 own apart.0))) h.0,
  tells-later most own what files entries apart.1 h.1,
)

tells-all : (most : ℕ) (entries : List Entry) → IsDistinct (pointwise ◌==◌) (paths entries) →
    AllByRecursion (λ (entry : Entry). TellsOf most entry.1 (file_at (files_of most entries) entry.0)) entries
unfolding files_of IsDistinct
tells-all most [] once = tt
tells-all most (entry ∷ entries) once = (
  tells-own most entry.0 entry.1 entries once.0,
  tells-later most entry.0 entry.1 (files_of most entries) entries once.0 (tells-all most entries once.1),
)

told-as : (what : Content) (file : Option (List ℕ)) → TellsOf most_module what file → Tells what file
told-as (content.Found bytes) file h = h
told-as content.Absent file h = h
told-as content.TooLong file h = h

agree-as : (files : List File) (entries : List Entry) →
    AllByRecursion (λ (entry : Entry). TellsOf most_module entry.1 (file_at files entry.0)) entries →
    Agree entries files
agree-as files [] h = tt
agree-as files (entry ∷ entries) h = (told-as entry.1 (file_at files entry.0) h.0, agree-as files entries h.1)

-- there are files that hold what was read, those that the source tells where it tells any
pub some-files : (before after : SourceState) (entries : List Entry) → AreRead entries →
    Reading before after [] entries → (files : List File) × MayHold before files × Agree entries files
some-files before after entries read reads = by before.files refl
  where
    by : (told : Option (List File)) → before.files ≡ told →
        (files : List File) × MayHold before files × Agree entries files
    by None is = (
      files_of most_module entries,
      subst (λ told. IfSome told (λ told. told ≡ files_of most_module entries)) (sym is) tt,
      agree-as (files_of most_module entries) entries (tells-all most_module entries read.once),
    )
    by (Some files) is =
        (files, subst (λ told. IfSome told (λ told. told ≡ files)) (sym is) refl, reads.agrees files is tt)

-- what surely holds holds of some of them
pub surely-some : (before after : SourceState) (roots : List (List ℕ)) (entries : List Entry)
    (Claim : Packages → Type 0) → AreRead entries → Reading before after [] entries → Surely roots entries Claim →
    (files : List File) × MayHold before files × Claim (over roots files)
surely-some before after roots entries Claim read reads surely =
    let some = some-files before after entries read reads in
    (some.0, some.1, surely some.0 some.2)

-- why no closure is loaded is why the load fails
pub fails-to-load : (before after : SourceState) (roots : List (List ℕ)) (first : List ModuleName)
    (entries : List Entry) (found : LoadFault) → AreRead entries → Reading before after [] entries →
    HasClosureFault before after roots first entries found → FailsToLoad roots first before after found
fails-to-load before after roots first entries fault.ReadFault read reads h = h
fails-to-load before after roots first entries fault.OutOfMemory read reads h = tt
fails-to-load before after roots first entries (fault.Absent asker place name) read reads h =
    surely-some before after roots entries (λ packages. HasLoadFault packages first (fault.Absent asker place name))
    read reads h
fails-to-load before after roots first entries (fault.TooLong name) read reads h =
    surely-some before after roots entries (λ packages. HasLoadFault packages first (fault.TooLong name)) read reads h
fails-to-load before after roots first entries (fault.Lex name found place) read reads h =
    surely-some before after roots entries (λ packages. HasLoadFault packages first (fault.Lex name found place))
    read reads h
fails-to-load before after roots first entries (fault.Parse name found place) read reads h =
    surely-some before after roots entries (λ packages. HasLoadFault packages first (fault.Parse name found place))
    read reads h
fails-to-load before after roots first entries fault.TooMany read reads h =
    surely-some before after roots entries (λ packages. HasLoadFault packages first fault.TooMany) read reads h
fails-to-load before after roots first entries (fault.Cycle path) read reads h =
    surely-some before after roots entries (λ packages. HasLoadFault packages first (fault.Cycle path)) read reads h
