use Rattle.std.proofs.Common.{◌≡◌, sym, subst, Some, slice_get, length, ◌-◌}
use Rattle.expression_grammar.specs.inside.Machine.{from_to}
use Rattle.module_grammar.specs.inside.ModuleStates.{qualified_from as machine_qualified}
use Rattle.mdl_grammar.proofs.ImportStepLaws.{qualified_split}
use Rattle.mdl_grammar.proofs.imports.qualified_from.Goals as goal

pub returns : goal.returns
returns c =
    subst (λ list. Some (record {
      «module» = record {
        lead = c.args.lead;
        parts = c.of.result;
        span = from_to c.args.at c.in_ok-front_end.field-0.now.span.end;
      };
      name = Some c.in_ok-name.name;
      span = from_to c.args.at c.args.end;
    }) ≡ machine_qualified c.args.lead c.args.at list c.args.end) (sym c.in_ok-name.ensures.items)
    (rw c.of.ensures
    (sym (qualified_split c.args.lead c.args.at c.pop.new.self.items c.in_ok-name.name
    c.in_ok-front_end.field-0.now c.args.end
    (subst (λ list. slice_get list (length list - 1) ≡ Some c.in_ok-front_end.field-0.now)
    c.deref.ensures.value (sym c.in_ok-front_end.ensures.value)))))
