use Rattle.std.proofs.Common.{◌≡◌, [], sym, subst, inl, inr}
use Rattle.module_set.specs.Members.{members_of}
use Rattle.scope_core.specs.ScopeFaults.{scope_faults, Fails}
use Rattle.mdl_cli.proofs.ScopeLaws.{names-are, scope-told}
use Rattle.mdl_cli.proofs.find.find_in.Goals as goal

pub returns-in-Ok : goal.returns-in-Ok
returns-in-Ok c =
    inl (
      subst (λ names. scope_faults names (members_of c.args.set.now) ≡ [])
          (sym (names-are c.args.set.now c.requires.is_set)) c.in-Ok.ensures.sound,
      c.find_task.ensures,
    )

pub returns-in-Err : goal.returns-in-Err
returns-in-Err c =
    inr (scope-told (members_of c.args.set.now) c.in-Err.fault c.refuse_scope.result
    (subst (λ names. Fails (scope_faults names (members_of c.args.set.now)) c.in-Err.fault)
    (sym (names-are c.args.set.now c.requires.is_set)) c.in-Err.ensures.fault) c.refuse_scope.ensures)
