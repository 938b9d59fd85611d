use Rattle.std.proofs.Common.{sym, subst}
use Rattle.io_edge.specs.Source.{Reads}
use Rattle.module_loader.specs.Files.{most_module}
use Rattle.module_loader.proofs.ContentLaws.{stands-known, read-learned, stands-learned}
use Rattle.module_loader.proofs.contents.Contents.read.Goals as goal

pub returns-in-Some-clause-found : goal.returns-in-Some-clause-found
returns-in-Some-clause-found g c =
    rw (← c.self.view_is)
    (stands-known c.args.path _ c.in-Some.index c.in-Some.ensures.within (sym c.in-Some.ensures.index))

pub returns-clause-reads : goal.returns-clause-reads
returns-clause-reads g c =
    let before = g.S.Source.state c.args.source.now in
    let after = g.S.Source.state c.read.new.self in
    read-learned c.args.path c.read.result c.in_ok-content.content before after c.args.self.now c.learn.new.self
    c.learn.result
    (subst (λ path. Reads path most_module c.read.result before after) c.as_str.ensures c.read.ensures)
    (sym c.in_ok-content.ensures) c.learn.ensures.learned c.learn.ensures.unchanged

pub returns-clause-found : goal.returns-clause-found
returns-clause-found g c =
    stands-learned c.args.path c.in_ok-content.content c.args.self.now c.learn.new.self c.learn.result
    c.learn.ensures.learned c.learn.ensures.last
