-- what is left comes behind what was sorted
use Rattle.std.proofs.Common.{◌≡◌, length, map, string_bytes}
use Rattle.command_words.specs.inside.Options.{sorted_onto}
use Rattle.command_words.specs.inside.Reading.{sorted_in}
use Rattle.command_words.specs.inside.Views.{words_of}
use Rattle.command_words.proofs.options.sort_words.Given as goal

abbrev pub invariant-loop-word : goal.invariant-loop-word
invariant-loop-word l =
    sorted_onto (words_of l.values.items) (words_of l.others.items) (map string_bytes l.rest)
    ≡ sorted_in (map string_bytes l.words)

abbrev pub decreases-loop-word : goal.decreases-loop-word
decreases-loop-word l = length l.rest
