-- Reading absolute names, as functions.
use Rattle.std.specs.Prelude.{ℕ, zero, suc, ◌-◌, ◌&&◌, ◌==◌, not, nat_le, nat_eq, if◌then◌else◌}
use Rattle.std.specs.Prelude.{List, [], ◌∷◌, ◌++◌, Option, Some, None, codes, length, take, drop, slice_get}
use Rattle.std.specs.List.{prefix_len, starts_with, flat_map, list_any}
use Rattle.module_set.specs.declared.module_name.ModuleName.{ModuleName}
use Rattle.module_set.specs.Names.{same_name, named}
use Rattle.command_words.specs.declared.request.Task.{Task}
use Rattle.command_words.specs.declared.request.Task.TheVariants as task
use Rattle.command_words.specs.Identifiers.{is_identifier}
use Rattle.command_words.specs.inside.Options.{◌>>=◌}

-- an absolute name: each part behind `::`
abbrev pub absolute : List (List ℕ) → List ℕ
absolute parts = flat_map (λ part. codes "::" ++ part) parts

-- an identifier behind `::`, and the rest
unfoldable pub part_in : List ℕ → Option (List ℕ × List ℕ)
part_in text =
    let name = drop 2 text in
    let end = prefix_len (λ byte. not (byte == 58)) name in
    if starts_with nat_eq text (codes "::") && is_identifier (take end name)
    then Some (take end name, drop end name) else None

-- the parts of an absolute name of at most so many bytes
unfoldable pub parts_in : ℕ → List ℕ → Option (List (List ℕ))
parts_in bytes [] = Some []
parts_in zero (byte ∷ more) = None
parts_in (suc bytes) (byte ∷ more) = do
  part ← part_in (byte ∷ more)
  parts ← parts_in bytes part.1
  Some (part.0 ∷ parts)

-- the parts of an absolute name
unfoldable pub parts_of : List ℕ → Option (List (List ℕ))
parts_of name = parts_in (length name) name

-- the task for the material that the last of two or more parts names
abbrev pub instance_of : List (List ℕ) → Option Task
instance_of parts =
    if nat_le 2 (length parts)
    then (slice_get parts (length parts - 1) >>= λ material.
    Some (task.Instance (named (take (length parts - 1) parts)) material))
    else None

-- the module that has these parts, if there are any
abbrev pub module_of : List (List ℕ) → Option ModuleName
module_of [] = None
module_of (part ∷ parts) = Some (named (part ∷ parts))

-- the module that a word names
unfoldable pub module_in : List ℕ → Option ModuleName
module_in name = parts_of name >>= module_of

-- these modules, and behind them those that the words name, if none is named twice
unfoldable pub modules_onto : List ModuleName → List (List ℕ) → Option (List ModuleName)
modules_onto modules [] = Some modules
modules_onto modules (word ∷ words) =
    module_in word >>= λ found.
    if list_any (same_name found) modules then None else modules_onto (modules ++ found ∷ []) words
