-- the words so far stand behind those that were there
use Rattle.std.proofs.Common.{◌≡◌, ◌++◌, take, map, string_bytes}
use Rattle.command_words.specs.inside.Views.{words_of}
use Rattle.command_words.proofs.options.push_words.Given as goal

abbrev pub invariant-loop-word : goal.invariant-loop-word
invariant-loop-word l =
    words_of l.others.items ≡ words_of l.initial.others.items ++ map string_bytes (take l.word-index l.words)
