use Rattle.std.proofs.Common.{ℕ, ◌+◌, ◌-◌, length, arith}
use Rattle.ship_service.proofs.Written.{even_so, objects_part}
use Rattle.ship_service.proofs.closing_lines.write_objects.Goals as goal

pub returns-in_err-write_object-clause-err : goal.returns-in_err-write_object-clause-err
returns-in_err-write_object-clause-err g c =
    let s = c.args.closed.now in let m : ℕ = length s.lengths in let n : ℕ = c.loop-number.number in
    even_so c.from_residual.result _ (objects_part s _ _ _ (m - (n + 1)) n m (omega (
      arith,
      c.loop-number-test.true,
      c.numbers-number-end.ensures,
    )) c.loop-number.invariant c.in_err-write_object.ensures.err)
