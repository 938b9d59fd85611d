use Rattle.std.proofs.Common.{◌≡◌, ◌∙◌, ap, sym, not, true, false, Some, arith, drop, ◌+◌}
use Rattle.std.proofs.lemmas.Bool.{not-true, not-false}
use Rattle.std.specs.List.{list_any}
use Rattle.module_set.specs.Names.{same_name}
use Rattle.command_words.specs.inside.Names.{modules_onto}
use Rattle.command_words.specs.inside.Views.{words_of}
use Rattle.command_words.proofs.ModuleLaws.{none_at, known_at, new_at, all_words}
use Rattle.command_words.proofs.names.modules_in.Goals as goal

pub returns-in_default : goal.returns-in_default
returns-in_default c =
    none_at c.loop-word.modules.keys c.args.words.now c.loop-word.word-index _ _ (omega arith) c.loop-word.invariant
    (sym c.in_default.is ∙ c.in_ok-module.ensures)

pub returns-then-not-branch : goal.returns-then-not-branch
returns-then-not-branch c =
    let added : not (list_any (same_name c.in-Some.module) c.loop-word.modules.keys) ≡ false =
    sym c.in_ok-insert.ensures.added ∙ c.if-not-branch.true in
    known_at c.loop-word.modules.keys c.args.words.now c.loop-word.word-index _ _ c.in-Some.module (omega arith)
    c.loop-word.invariant (sym c.in-Some.is ∙ c.in_ok-module.ensures) (not-false _ added)

pub loop-word-preserved : goal.loop-word-preserved
loop-word-preserved c =
    let added : not (list_any (same_name c.in-Some.module) c.loop-word.modules.keys) ≡ true =
    sym c.in_ok-insert.ensures.added ∙ c.if-not-branch.false in
    let after = new_at c.loop-word.modules.keys c.args.words.now c.loop-word.word-index _ _ c.in-Some.module
    (omega arith) c.loop-word.invariant (sym c.in-Some.is ∙ c.in_ok-module.ensures) (not-true _ added) in
    ap (λ keys. modules_onto keys (words_of (drop (c.loop-word.word-index + 1) c.args.words.now)))
    c.in_ok-insert.ensures.keys
    ∙ after

pub returns : goal.returns
returns c =
    ap Some (c.of.ensures ∙ c.in_ok-modules.ensures)
    ∙ all_words c.loop-word.modules.keys c.args.words.now c.loop-word.word-index _ (omega arith) c.loop-word.invariant
