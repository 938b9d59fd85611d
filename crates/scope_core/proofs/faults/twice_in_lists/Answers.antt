use Rattle.std.proofs.Common.{◌≡◌, ◌∙◌, ◌+◌, ◌++◌, ◌∷◌, [], sym, ap, map, take}
use Rattle.std.specs.List.{flat_map}
use Rattle.std.proofs.lemmas.List.{take_more, map-append}
use Rattle.mdl_syntax.specs.Modules.{declaration_of}
use Rattle.scope_core.specs.ScopeFaults.{parameter_faults}
use Rattle.scope_core.specs.inside.Lessening.{least_onto}
use Rattle.scope_core.proofs.ListedLaws.{least_onto-append, parameter-faults, declarations-push}
use Rattle.scope_core.proofs.faults.twice_in_lists.Goals as goal

pub loop-decl-preserved : goal.loop-decl-preserved
loop-decl-preserved c =
    let decls = c.args.decls.now in
    let i = c.loop-decl.decl-index in
    let m = c.args.module in
    let one = c.decl-item.result in
    let next : map declaration_of (take (i + 1) decls) ≡ map declaration_of (take i decls) ++ declaration_of one ∷ [] =
    ap (map declaration_of)
    (take_more decls i one c.loop-decl-test.true ∙ ap (λ e. take i decls ++ e ∷ []) (sym c.decl-item.is))
    ∙ map-append declaration_of (take i decls) (one ∷ []) in
    c.in_ok-twice_listed.ensures
    ∙ (λ k. least_onto (c.loop-decl.invariant k)
    (parameter-faults m (declaration_of one) c.parameters.result.now c.parameters.ensures k))
    ∙ sym (least_onto-append c.args.least.now (flat_map (parameter_faults m) (map declaration_of (take i decls)))
    (parameter_faults m (declaration_of one)))
    ∙ ap (least_onto c.args.least.now)
    (sym (declarations-push m (map declaration_of (take i decls)) (declaration_of one)))
    ∙ ap (λ l. least_onto c.args.least.now (flat_map (parameter_faults m) l)) (sym next)
