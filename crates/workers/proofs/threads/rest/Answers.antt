use Rattle.std.specs.Prelude.{length}
use Rattle.workers.proofs.Turned.{looks_on}
use Rattle.workers.proofs.threads.rest.Goals as goal

pub returns : goal.returns
returns g c = record {
  chain = looks_on g.F.FarStore.RETURNS g.F.FarStore.called g.F.FarStore.faults_of (length g.K.TableName.opening) c.args.mover.now
      c.look-looked.new.self (record { looked = c.look-looked.result; looks = c.look-looked.ensures.looks; last = c.look-looked.ensures.last });
}
