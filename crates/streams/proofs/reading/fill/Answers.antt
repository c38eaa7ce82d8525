use Rattle.std.proofs.Common.{rules, arith, ◌-◌, length, subst, take, length-take-le}
use Rattle.std.specs.Io.KnownBytes.{Consumes}
use Rattle.std.proofs.KnownBytes.{Consumes-trans, Consumes-kept}
use Rattle.streams.proofs.Filling.{filled_on}
use Rattle.streams.proofs.reading.fill.Goals as goal

pub loop-filled-preserved : goal.loop-filled-preserved
loop-filled-preserved g c =
    let i = c.loop-filled.invariant in
    let joined = filled_on c.loop-filled.filled (length c.loop-filled.buffer - c.loop-filled.filled) c.in-Ok.n c.loop-filled.buffer c.read.new.buf
    i.1 c.in-Ok.ensures.bound.0 in
    (search rules, search rules, subst (Consumes _ _) joined (Consumes-trans _ _ _ _ _ i.2 c.in-Ok.ensures.bytes.0))

pub returns-in-Err-clause-err : goal.returns-in-Err-clause-err
returns-in-Err-clause-err g c =
    let i = c.loop-filled.invariant in (
      take c.loop-filled.filled c.loop-filled.buffer,
      omega (arith, length-take-le c.loop-filled.filled c.loop-filled.buffer i.1, i.0, c.loop-filled-test.true),
      Consumes-kept _ _ _ _ i.2 c.in-Err.ensures.bytes,
    )
