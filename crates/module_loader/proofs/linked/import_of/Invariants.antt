use Rattle.std.proofs.Common.{◌≡◌, drop, map}
use Rattle.module_loader.specs.inside.Linking.{pointing, pointing_in}
use Rattle.module_loader.proofs.linked.import_of.Given as goal

abbrev pub invariant-loop-reference : goal.invariant-loop-reference
invariant-loop-reference l =
    pointing_in l.names l.one l.name
    ≡ pointing l.names (map (λ one. one.now) (drop l.reference-index l.reference-items)) l.imports l.name
