use Rattle.std.proofs.Common.{◌≤◌, length, arith, length-take}
use Rattle.mon_io.proofs.FrontLemmas.{front_filled}
use Rattle.mon_io.proofs.memory.MemSourceSource.read.Goals as goal

pub returns-clause-buf : goal.returns-clause-buf
returns-clause-buf c =
    let fits : c.min-room.result ≤ length c.args.buf.now = omega arith in
    let given = rw c.read.ensures.count at c.read.ensures.buf in
    rw (c.read.ensures.count, ← c.self.view_is)
    (front_filled c.min-room.result _ c.args.buf.now c.self.inside.bytes c.read.new.buf fits
    (omega (arith, length-take c.min-room.result c.args.buf.now)) given)
