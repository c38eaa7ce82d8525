use Rattle.std.proofs.Common.{refl, None, arith}
use Rattle.ship_service.proofs.turns.take_part.Goals as goal

pub returns-in-Leave : goal.returns-in-Leave
returns-in-Leave g c = record { most = 0; few = omega arith; ran = 0; end = None; mid = c.args.locked.now; runs = (refl, refl); queues = c.put_in_queue.ensures }
