use Rattle.std.proofs.Common.{arith}
use Rattle.module_grammar.specs.inside.ModuleStates.{within}
use Rattle.mdl_grammar.specs.inside.ModuleViews.{begun_of, position_of}
use Rattle.mdl_grammar.proofs.ModuleParseLaws.{loop_goes}
use Rattle.mdl_grammar.proofs.modules.read_module.Goals as goal

pub loop-token-preserved : goal.loop-token-preserved
loop-token-preserved c = (
  omega (arith, c.in-Some.ensures.cases.1, c.loop-token.invariant.0),
  loop_goes c.args.limit c.loop-token.whole c.loop-token.at c.whole_behind-whole.result
      c.args.tokens.now c.loop-token.rest.now c.in-Some.behind.now
      (within (begun_of c.loop-token.begun) (position_of c.loop-token.position))
      (within (begun_of c.taken.new.begun) (position_of c.in_ok-position.position))
      c.in-Some.token.now c.in-Some.ensures.cases.0 c.loop-token.invariant.1 c.in_ok-position.ensures
      (c.whole_behind-whole.ensures (begun_of c.taken.new.begun)),
)
