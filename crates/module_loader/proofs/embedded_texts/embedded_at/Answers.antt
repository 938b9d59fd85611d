use Rattle.std.proofs.Common.{sym, ap}
use Rattle.module_loader.specs.Embedded.{embedded_at}
use Rattle.module_loader.proofs.embedded_texts.embedded_at.Goals as goal

pub returns-in-math : goal.returns-in-math
returns-in-math c = ap embedded_at (sym c.in-math.is)

pub returns-in-anno : goal.returns-in-anno
returns-in-anno c = ap embedded_at (sym c.in-anno.is)
