use Rattle.std.proofs.Common.{◌≡◌, ◌∙◌, ◌++◌, [], None, sym, ap, map}
use Rattle.std.specs.List.{flat_map}
use Rattle.std.proofs.lemmas.List.{append_assoc}
use Rattle.mdl_syntax.specs.Modules.{declaration_of}
use Rattle.scope_core.specs.ScopeFaults.{import_faults, twice_among, parameter_faults}
use Rattle.scope_core.specs.inside.Lessening.{least_onto}
use Rattle.scope_tables.specs.inside.Reaching.{bringing_of}
use Rattle.scope_core.specs.inside.Rounds.{last_types, last_standing}
use Rattle.scope_core.proofs.ListedLaws.{least_onto-append}
use Rattle.scope_core.proofs.faults.module_fault.Goals as goal

pub returns : goal.returns
returns c world pieces own are there places =
    let number : c.in_ok-number.number ≡ c.args.index = c.in_ok-number.ensures in
    let decls = map declaration_of c.args.module.now.decls in
    let imports = import_faults (last_standing world pieces) c.args.index [] (map bringing_of c.args.brought.now) in
    let twice = twice_among (last_types world pieces) [] own in
    let lists = flat_map (parameter_faults c.args.index) decls in
    let first : c.import_faults.new.least ≡ least_onto None imports =
    c.in_ok-import_faults.ensures world pieces are number
    ∙ ap (λ n. least_onto None (import_faults (last_standing world pieces) n []
    (map bringing_of c.args.brought.now))) number in
    let second : c.twice_declared.new.least ≡ least_onto c.import_faults.new.least twice =
    c.in_ok-twice_declared.ensures world pieces own are there number places in
    let third : c.twice_in_lists.new.least ≡ least_onto c.twice_declared.new.least lists =
    c.in_ok-twice_in_lists.ensures
    ∙ (λ k. least_onto c.twice_declared.new.least
    (flat_map (parameter_faults (number k)) (map declaration_of (c.list.ensures k)))) in
    third
    ∙ ap (λ l. least_onto l lists) (second ∙ ap (λ l. least_onto l twice) first
    ∙ sym (least_onto-append None imports twice))
    ∙ sym (least_onto-append None (imports ++ twice) lists)
    ∙ ap (least_onto None) (append_assoc imports twice lists)
