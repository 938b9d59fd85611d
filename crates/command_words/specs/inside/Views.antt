-- What values of the code stand for in the definitions of reading.
use Rattle.std.specs.Prelude.{ℕ, List, ◌++◌, Option, map, string_bytes}
use Rattle.std.specs.Option.{option_map}
use Rattle.std.specs.Borrow.{Bor}
use Rattle.std.specs.declared.vec.Vec.{Vec}
use Rattle.std.specs.declared.alloc.Global.{Global}
use Rattle.std.specs.declared.string.String.{String}
use Rattle.command_words.specs.declared.options.Sorted.{Sorted}

-- the bytes of borrowed words
abbrev pub words_of : List (Bor (List ℕ)) → List (List ℕ)
words_of words = map (λ (word : Bor (List ℕ)). word.now) words

-- a part and the rest
abbrev pub part_found : Bor (List ℕ) × Bor (List ℕ) → List ℕ × List ℕ
part_found found = (found.0.now, found.1.now)

-- the parts of a name
abbrev pub parts_found : Vec (List ℕ) Global → List (List ℕ)
parts_found parts = parts.items

-- the value of an option and the words behind it
abbrev pub option_found : Bor (List ℕ) × Bor (List (String Global)) → List ℕ × List (List ℕ)
option_found found = (found.0.now, map string_bytes found.1.now)

-- the values of options and the other words
abbrev pub sorted_found : Sorted → List (List ℕ) × List (List ℕ)
sorted_found sorted = (words_of sorted.values.items, words_of sorted.others.items)

-- these parts, and behind them those that were read
abbrev pub behind_parts : List (List ℕ) → Option (List (List ℕ)) → Option (List (List ℕ))
behind_parts first found = option_map (λ (others : List (List ℕ)). first ++ others) found
