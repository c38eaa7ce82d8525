use Rattle.std.specs.Prelude.{length}
use Rattle.workers.proofs.Turned.{goes_on}
use Rattle.workers.proofs.threads.serve_moving.Goals as goal

pub loop-preserved-in-Some-next_request : goal.loop-preserved-in-Some-next_request
loop-preserved-in-Some-next_request g c =
    goes_on g.F.FarStore.RETURNS g.F.FarStore.called g.F.FarStore.faults_of (length g.K.TableName.opening) c.args.served.now c.loop.served
    c.serve_within.new.mover c.loop.invariant c.serve_within.ensures.chain

pub loop-preserved : goal.loop-preserved
loop-preserved g c = goes_on g.F.FarStore.RETURNS g.F.FarStore.called g.F.FarStore.faults_of (length g.K.TableName.opening) c.args.served.now c.loop.served
    c.idle.new.mover c.loop.invariant c.idle.ensures.chain
