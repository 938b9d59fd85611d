use Rattle.std.proofs.Common.{rules, ◌∙◌, ap, sym, arith, true}
use Rattle.expression_grammar.specs.inside.Machine.{run_from, goes, wanted}
use Rattle.expression_grammar.specs.inside.Views.{stack_of, mode_of}
use Rattle.expression_grammar.proofs.StackLaws.{stack_of-none}
use Rattle.expression_grammar.proofs.ParseLaws.{loop_goes}
use Rattle.expression_grammar.proofs.parse.read_tokens.Goals as goal

pub loop-at-init : goal.loop-at-init
loop-at-init c = (
  omega arith,
  ap (λ frames. run_from true c.args.limit 0 (goes wanted frames) c.args.tokens.now)
      (sym (ap stack_of c.new-frames.ensures.items ∙ stack_of-none)),
)

pub loop-at-preserved : goal.loop-at-preserved
loop-at-preserved c = (
  omega (arith, c.loop-at-test.true),
  loop_goes c.args.limit c.loop-at.at c.args.tokens.now (mode_of c.loop-at.mode) (stack_of c.loop-at.frames.items)
      c.index-tokens-at.result (mode_of c.in-Ok.mode) (stack_of c.step.new.frames.items)
      (search (c.loop-at-test.true, rules)) c.index-tokens-at.is c.loop-at.invariant.1 c.in-Ok.ensures,
)
