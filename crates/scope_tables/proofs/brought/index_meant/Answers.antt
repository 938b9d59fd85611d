use Rattle.std.proofs.Common.{ap, ◌∙◌}
use Rattle.module_set.specs.Imports.{bare}
use Rattle.module_set.specs.Names.{same_name, package_of}
use Rattle.module_set.specs.ModuleSets.{is_among}
use Rattle.case_table.specs.Lists.{place_of}
use Rattle.scope_tables.specs.Visible.{texts}
use Rattle.scope_tables.proofs.BroughtLaws.{bare-meant}
use Rattle.scope_tables.proofs.brought.index_meant.Goals as goal

pub returns-in_ok-index-in-Bare : goal.returns-in_ok-index-in-Bare
returns-in_ok-index-in-Bare c =
    bare-meant c.args.names.now.keys c.args.importer.now c.args.reference.now c.in_ok-index-in-Bare.index c.in-Bare.is
    (c.in_ok-index-in-Bare.ensures
    ∙ ap (λ folder. place_of same_name (bare (is_among c.args.names.now.keys) folder
    (texts c.list-parts.result.now)) c.args.names.now.keys) c.package_of-folder.ensures
    ∙ ap (λ parts. place_of same_name (bare (is_among c.args.names.now.keys) (package_of c.args.importer.now)
    (texts parts)) c.args.names.now.keys) c.list-parts.ensures)
