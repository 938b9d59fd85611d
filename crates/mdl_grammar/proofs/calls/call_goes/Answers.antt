use Rattle.std.proofs.Common.{rules}
use Rattle.mdl_grammar.proofs.SiteStepLaws.{no_frames}
use Rattle.mdl_grammar.proofs.calls.call_goes.Goals as goal

pub returns-then-is_empty : goal.returns-then-is_empty
returns-then-is_empty c =
    let none = no_frames c.args.frames.items (search (c.if-is_empty.ensures, rules)) in
    rw (c.in-Complete.is, none) (c.whole_call.ensures none)
