use Rattle.std.proofs.Common.{◌<◌, length, arith}
use Rattle.mon_io.proofs.WholeLemmas.{whole_taken}
use Rattle.mon_io.proofs.standard.read_whole.Goals as goal

pub returns-clause-whole : goal.returns-clause-whole
returns-clause-whole g c =
    let taken = rw c.new-bytes.ensures.items at c.in_ok-read_to_end.ensures.bytes in
    let short : length c.read_to_end.new.buf.items < c.take.result.limit =
    omega (arith, c.read_to_end.new.buf.ok.0, c.read_to_end.new.buf.small) in
    rw (← c.take.ensures.inner)
    (whole_taken (g.F.Read.remaining c.take.result.inner) c.take.result.limit c.read_to_end.new.buf.items taken short)
