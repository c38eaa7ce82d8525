use Rattle.std.proofs.Common.{refl}
use Rattle.workers.proofs.pool.Pool.requeue.Goals as goal

pub returns-in-Over : goal.returns-in-Over
returns-in-Over g c = ((c.args.locked.now.queued, refl), λ _. refl)
