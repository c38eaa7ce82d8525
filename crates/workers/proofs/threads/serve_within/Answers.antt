use Rattle.std.specs.Prelude.{length}
use Rattle.workers.proofs.Turned.{goes_on}
use Rattle.workers.proofs.threads.serve_within.Goals as goal

pub returns : goal.returns
returns g c = record {
  chain = goes_on g.F.FarStore.RETURNS g.F.FarStore.called g.F.FarStore.faults_of (length g.K.TableName.opening) c.args.mover.now
      c.make_room_for.new.mover c.serve_request-moved.new.mover c.make_room_for.ensures.chain c.serve_request-moved.ensures.chain;
}
