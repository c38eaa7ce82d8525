use Rattle.std.specs.Prelude.{length}
use Rattle.workers.proofs.Turned.{goes_on}
use Rattle.workers.proofs.threads.make_room.Goals as goal

pub loop-preserved : goal.loop-preserved
loop-preserved g c = goes_on g.F.FarStore.RETURNS g.F.FarStore.called g.F.FarStore.faults_of (length g.K.TableName.opening) c.args.mover.now c.loop.mover
    c.evict_next.new.mover c.loop.invariant c.evict_next.ensures.chain
