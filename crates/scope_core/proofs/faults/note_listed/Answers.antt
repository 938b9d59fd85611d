use Rattle.std.proofs.Common.{◌∙◌, Some, IsSome, sym, ap, refl, subst}
use Rattle.std.specs.Map.{lookup}
use Rattle.scope_tables.specs.inside.Owning.{same_text}
use Rattle.scope_core.specs.inside.Noting.{joined}
use Rattle.scope_core.proofs.faults.note_listed.Goals as goal

pub returns-in-Some : goal.returns-in-Some
returns-in-Some c =
    let through = c.get_mut.follows.holds c.joined.result in
    let updates = through.3 (subst IsSome c.in-Some.ensures.value refl) in
    record {
      own =
          updates.1
          ∙ ap Some (c.joined.ensures ∙ ap (λ known. joined known c.args.kinds c.args.module) c.in-Some.ensures.value);
      others = updates.2;
    }

pub returns : goal.returns
returns c =
    let updates = c.in_ok-insert.ensures.updates in
    let is = c.in_ok-clone.ensures.cases in
    record {
      own =
          ap (λ name. lookup (same_text name) c.insert.new.self.entries) (sym is)
          ∙ updates.1
          ∙ ap (λ known. Some (joined known c.args.kinds c.args.module)) c.in_default.ensures.value;
      others = λ other differ.
          updates.2 other (ap (λ name. same_text name other) is ∙ differ)
          ∙ ap (λ map. lookup (same_text other) map.entries) c.get_mut.follows.holds-at-none;
    }
