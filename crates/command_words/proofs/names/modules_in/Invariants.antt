-- what is left comes behind the modules so far
use Rattle.std.proofs.Common.{◌≡◌, drop, []}
use Rattle.command_words.specs.inside.Names as reading
use Rattle.command_words.specs.inside.Views.{words_of}
use Rattle.command_words.proofs.names.modules_in.Given as goal

abbrev pub invariant-loop-word : goal.invariant-loop-word
invariant-loop-word l =
    reading.modules_onto l.modules.keys (words_of (drop l.word-index l.words))
    ≡ reading.modules_onto [] (words_of l.words)
