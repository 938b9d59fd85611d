-- no word so far is too long, so those that are left decide
use Rattle.std.proofs.Common.{◌≡◌, drop, map, string_bytes}
use Rattle.std.specs.List.{list_all}
use Rattle.command_words.specs.inside.Reading.{is_short}
use Rattle.command_words.proofs.words.are_short.Given as goal

abbrev pub invariant-loop-word : goal.invariant-loop-word
invariant-loop-word l =
    list_all is_short (map string_bytes (drop l.word-index l.words)) ≡ list_all is_short (map string_bytes l.words)
