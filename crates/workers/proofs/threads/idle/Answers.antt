use Rattle.std.specs.Prelude.{length}
use Rattle.workers.proofs.Turned.{goes_on}
use Rattle.workers.proofs.threads.idle.Goals as goal

pub returns : goal.returns
returns g c = record {
  chain = goes_on g.F.FarStore.RETURNS g.F.FarStore.called g.F.FarStore.faults_of (length g.K.TableName.opening) c.args.mover.now
      c.stay_within.new.mover c.rest.new.mover c.stay_within.ensures.chain c.rest.ensures.chain;
}
