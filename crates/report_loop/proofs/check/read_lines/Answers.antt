use Rattle.std.proofs.Common.{arith}
use Rattle.report_loop.proofs.check.read_lines.Goals as goal

pub returns-in-Err : goal.returns-in-Err
returns-in-Err g c task before i = c.in-Err.ensures.says task c.lines.judged before _ _ (c.lines.invariant task before i)

pub returns-in-Some : goal.returns-in-Some
returns-in-Some g c task before i =
    let flushed = c.in_default.ensures.says task c.lines.judged before _ _ (c.lines.invariant task before i) in
    (c.in-Some.ensures.says task before _ _ flushed, flushed.2.out_faults)

pub lines-smaller : goal.lines-smaller
lines-smaller g c =
    let one = c.in_default-read_line.ensures.given in
    let within = c.in_default.ensures.within in
    omega (arith, one.given, one.most, within)

pub lines-preserved : goal.lines-preserved
lines-preserved g c task before i =
    c.in_default-read_line.ensures.says task before _ _ (c.in_default.ensures.says task c.lines.judged before _ _ (c.lines.invariant task before i))
