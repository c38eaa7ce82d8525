use Rattle.workers.proofs.Coming.{opened_seats}
use Rattle.workers.proofs.pool.Pool.new.Goals as goal

pub cells_of-requires-clause-seats : goal.cells_of-requires-clause-seats
cells_of-requires-clause-seats g c = opened_seats c.args.shared.table g.K.TableName.table g.K.TableName.opening g.F.FarStore.RETURNS c.args.seats.items
    c.requires.table c.requires.seats.0 c.requires.seats.1
