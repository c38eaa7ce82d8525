use Rattle.workers.specs.Cells.{seat_state}
use Rattle.workers.proofs.Replayed.{opened_replayed}
use Rattle.workers.proofs.cell.Locked.opened.Goals as goal

pub invariant_of-result : goal.invariant_of-result
invariant_of-result g c = (
  c.requires.of.0,
  c.requires.of.1,
  opened_replayed g.K.TableName.opening g.K.TableName.starts c.args.number (seat_state c.args.seat) c.opened.result
      c.args.debuggee c.opened.ensures c.requires.fresh c.requires.named,
)
