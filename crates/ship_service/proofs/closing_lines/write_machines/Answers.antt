use Rattle.ship_service.proofs.Written.{even_so, one_machine, machines_part}
use Rattle.ship_service.proofs.closing_lines.write_machines.Goals as goal

pub returns-in_err-write_machine-clause-err : goal.returns-in_err-write_machine-clause-err
returns-in_err-write_machine-clause-err g c =
    even_so c.from_residual.result _ (machines_part _ _ _ c.args.cells.now c.loop-cell.cell-index c.cell-item.result c.loop-cell-test.true c.cell-item.is
    c.loop-cell.invariant c.in_err-write_machine.ensures.err)

pub loop-cell-preserved : goal.loop-cell-preserved
loop-cell-preserved g c = one_machine _ _ _ c.args.cells.now c.loop-cell.cell-index c.cell-item.result c.loop-cell-test.true c.cell-item.is
    c.loop-cell.invariant c.in_ok-write_machine.ensures.ok
