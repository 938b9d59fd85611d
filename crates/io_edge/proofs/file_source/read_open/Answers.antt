use Rattle.std.proofs.Common.{◌<◌, length, arith}
use Rattle.io_edge.proofs.Pieces.{whole_of-short}
use Rattle.io_edge.proofs.file_source.read_open.Goals as goal

pub returns-in-Ok-2-clause-told : goal.returns-in-Ok-2-clause-told
returns-in-Ok-2-clause-told g c =
    let bytes = c.read_to_end.new.buf in
    let told =
    rw (c.take.ensures.limit, c.take.ensures.inner, c.new-bytes.ensures.items) at c.in-Ok-2.ensures.bytes in
    let short : length bytes.items < c.saturating_add-limit.result = omega (arith, bytes.small, bytes.ok) in
    whole_of-short _ c.saturating_add-limit.result bytes.items c.of.result told short c.of.ensures
