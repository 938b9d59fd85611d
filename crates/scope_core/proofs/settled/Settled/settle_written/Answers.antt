use Rattle.std.proofs.Common.{◌∙◌, ap, map}
use Rattle.std.proofs.lemmas.Result.{on_ok_weaker}
use Rattle.type_rules.specs.Types.{plain}
use Rattle.scope_tables.specs.inside.Pieces.{takes_of}
use Rattle.scope_tables.specs.inside.Typing.{types_at}
use Rattle.scope_core.proofs.WrittenLaws.{listed-settles, known-settles}
use Rattle.scope_core.proofs.settled.Settled.settle_written.Goals as goal

pub returns-in_ok-types-in-Listed : goal.returns-in_ok-types-in-Listed
returns-in_ok-types-in-Listed c =
    on_ok_weaker c.take.result
    (listed-settles c.args.scene c.args.place c.args.takes c.in-Listed.params.now c.in_ok-types-in-Listed.types.items
    c.args.self.now c.take.new.self (ap takes_of c.in-Listed.is)
    (c.in_ok-types-in-Listed.ensures
    ∙ (λ k. types_at (c.view.ensures.0 k) (c.view.ensures.1 k) c.args.place.module c.in-Listed.params.now)))
    c.take.ensures

pub returns-in_ok-types-in-Known : goal.returns-in_ok-types-in-Known
returns-in_ok-types-in-Known c =
    on_ok_weaker c.take-in-Known.result
    (known-settles c.args.scene c.args.place c.args.takes (map plain (map (λ name. name.now) c.in-Known.names.now))
    c.in_ok-types-in-Known.types.items c.args.self.now c.take-in-Known.new.self (ap takes_of c.in-Known.is)
    c.in_ok-types-in-Known.ensures) c.take-in-Known.ensures
