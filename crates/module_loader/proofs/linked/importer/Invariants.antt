use Rattle.std.proofs.Common.{◌≡◌, drop}
use Rattle.module_loader.specs.inside.Linking.{asked_among}
use Rattle.module_loader.proofs.linked.importer.Given as goal

abbrev pub invariant-loop-one : goal.invariant-loop-one
invariant-loop-one l = asked_among l.names l.all l.name ≡ asked_among l.names (drop l.one-index l.all) l.name
