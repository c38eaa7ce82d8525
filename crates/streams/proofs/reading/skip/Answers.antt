use Rattle.std.proofs.Common.{rules, arith, ◌++◌, take, length-append, length-take-le}
use Rattle.std.proofs.KnownBytes.{Consumes-trans}
use Rattle.streams.proofs.reading.skip.Goals as goal

pub loop-skipped-preserved : goal.loop-skipped-preserved
loop-skipped-preserved g c =
    let i = c.loop-skipped.invariant.1 in
    let part = take c.in-Ok.n c.read.new.buf in (
      search rules,
      (
        i.0 ++ part,
        omega (arith, length-append i.0 part, i.1, length-take-le c.in-Ok.n c.read.new.buf c.in-Ok.ensures.bound.0),
        Consumes-trans _ _ _ i.0 part i.2 c.in-Ok.ensures.bytes.0,
      ),
    )
