use Rattle.std.proofs.Common.{sym, ap, subst}
use Rattle.scope_tables.specs.Brought.{bringing}
use Rattle.scope_core.specs.inside.Noting.{NotesBringing}
use Rattle.scope_tables.specs.inside.Reaching.{names_of}
use Rattle.scope_core.proofs.ImportLaws.{brings-name, brings-names}
use Rattle.scope_core.proofs.faults.bringing_faults.Goals as goal

pub returns-in_ok-name_faults-in-One : goal.returns-in_ok-name_faults-in-One
returns-in_ok-name_faults-in-One c =
    let from = c.args.bringing.now.from in
    let used = c.args.bringing.now.used in
    subst (λ l. NotesBringing c.args.settled.now c.args.module c.args.number (bringing l used from)
    c.args.earlier.now.entries c.args.least.now c.name_faults.new.earlier.entries c.name_faults.new.least)
    (sym (ap names_of c.in-One.is))
    (brings-name c.args.settled.now c.args.module c.args.number from used c.in-One.name.now c.args.earlier.now.entries
    c.name_faults.new.earlier.entries c.args.least.now c.name_faults.new.least c.in_ok-name_faults-in-One.ensures)

pub returns-in_ok-listed_faults-in-Listed : goal.returns-in_ok-listed_faults-in-Listed
returns-in_ok-listed_faults-in-Listed c =
    let from = c.args.bringing.now.from in
    let used = c.args.bringing.now.used in
    subst (λ l. NotesBringing c.args.settled.now c.args.module c.args.number (bringing l used from)
    c.args.earlier.now.entries c.args.least.now c.listed_faults.new.earlier.entries c.listed_faults.new.least)
    (sym (ap names_of c.in-Listed.is))
    (brings-names c.args.settled.now c.args.module c.args.number from used c.in-Listed.names.now
    c.args.earlier.now.entries c.listed_faults.new.earlier.entries c.args.least.now c.listed_faults.new.least
    c.in_ok-listed_faults-in-Listed.ensures)
