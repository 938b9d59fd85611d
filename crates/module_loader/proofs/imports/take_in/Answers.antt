use Rattle.module_loader.proofs.ImportLaws.{stored-name}
use Rattle.module_loader.proofs.imports.take_in.Goals as goal

pub returns-clause-index : goal.returns-clause-index
returns-clause-index c = stored-name c.insert_full.new.self.keys c.in_ok-index.index c.args.name
    c.in_ok-index.ensures.stored
