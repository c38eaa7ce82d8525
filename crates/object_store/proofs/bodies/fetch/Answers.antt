use Rattle.object_store.proofs.Returning.{fails}
use Rattle.object_store.proofs.bodies.fetch.Goals as goal

pub returns-in-Err-clause-fault : goal.returns-in-Err-clause-fault
returns-in-Err-clause-fault g c = fails g.F.FarStore.RETURNS (g.F.FarStore.faults_of c.args.store.now)
    (g.F.FarStore.faults_of c.get.new.self) c.in-Err.ensures.fault
