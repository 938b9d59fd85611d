use Rattle.std.proofs.Common.{◌∙◌, sym, ap}
use Rattle.mdl_grammar.specs.inside.Ends.{all_tight}
use Rattle.mdl_grammar.proofs.SiteStepLaws.{no_frames}
use Rattle.mdl_grammar.proofs.ends.is_all_tight.Goals as goal

pub returns : goal.returns
returns c =
    sym (c.loop-frame.invariant
    ∙ ap all_tight (no_frames c.loop-frame.rest.now c.in_default.ensures.cases))
