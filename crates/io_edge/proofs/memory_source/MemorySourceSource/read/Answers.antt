use Rattle.std.proofs.Common.{◌≡◌, false, rules}
use Rattle.io_edge.specs.Memory.{read_fails}
use Rattle.io_edge.proofs.memory_source.MemorySourceSource.read.Goals as goal

pub returns-clause-failed : goal.returns-clause-failed
returns-clause-failed c =
    let unlisted : read_fails c.args.self.now ≡ false = search rules in
    (λ failed. absurd (c.answer.ensures.succeeds failed), λ fails. cc)
