use Rattle.object_store.proofs.Returning.{risen}
use Rattle.object_store.proofs.bodies.send.Goals as goal

pub returns-in-Err-clause-fault : goal.returns-in-Err-clause-fault
returns-in-Err-clause-fault g c = risen _ _ _ c.forget_kept.ensures.faults c.in-Err.ensures.fault
