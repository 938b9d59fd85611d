use Rattle.std.proofs.Common.{rules}
use Rattle.expression_grammar.specs.inside.Machine.{finish}
use Rattle.expression_grammar.specs.inside.Views.{mode_of, stack_of}
use Rattle.mdl_grammar.proofs.EndLaws.{deep_end, bad_end}
use Rattle.mdl_grammar.proofs.sites.value_step.Goals as goal

pub returns-in-Deep : goal.returns-in-Deep
returns-in-Deep c =
    let deep = deep_end (finish c.args.limit (mode_of c.args.mode) (stack_of c.args.frames.items))
    (search (c.end_of.ensures, rules)) in
    rw deep (search rules)

pub returns-in-Bad : goal.returns-in-Bad
returns-in-Bad c =
    let bad = bad_end (finish c.args.limit (mode_of c.args.mode) (stack_of c.args.frames.items))
    (search (c.end_of.ensures, rules)) in
    rw bad (search rules)
