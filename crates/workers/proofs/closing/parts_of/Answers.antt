use Rattle.std.proofs.Common.{arith, ◌∷◌, [], ◌++◌, length, length-append, sym, subst, ap}
use Rattle.workers.specs.Closing.{WereCells}
use Rattle.workers.specs.declared.closing.ClosedCell.{ClosedCell}
use Rattle.workers.proofs.Emptied.{one_more}
use Rattle.workers.proofs.closing.parts_of.Goals as goal

pub loop-cell-preserved : goal.loop-cell-preserved
loop-cell-preserved g c =
    let p = c.into_parts-number.ensures in let v = c.loop-cell.invariant in let a = c.in_ok-push.ensures.items in let b = c.in_ok-push-2.ensures.items in
    let W = WereCells g.K.TableName.table g.K.TableName.opening g.K.TableName.starts in let s = c.into_parts-number.result.1 in
    let d : ClosedCell = record { number = c.into_parts-number.result.0; running = c.into_parts-number.result.2 } in (
      subst (λ l. W l c.push-in-loop-cell.new.self.items) (sym a)
          (subst (W (c.loop-cell.seats.items ++ s ∷ [])) (sym b)
          (one_more g.K.TableName.table g.K.TableName.opening g.K.TableName.starts c.loop-cell.seats.items c.loop-cell.closed.items s d v.0
          (record { seat_of = p.of.0; actor_is = p.of.1; fits = p.fits }))),
      omega (arith, ap length a, length-append c.loop-cell.seats.items (s ∷ []), length-append c.loop-cell.yielded (c.in-Some.cell ∷ []), v.1),
    )
