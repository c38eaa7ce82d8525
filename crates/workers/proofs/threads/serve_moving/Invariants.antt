use Rattle.std.specs.Prelude.{length}
use Rattle.workers.specs.Turning.{MovesOn}
use Rattle.workers.proofs.threads.serve_moving.Given as goal

abbrev pub invariant-loop : goal.invariant-loop
invariant-loop g l = MovesOn g.F.FarStore.RETURNS g.F.FarStore.called g.F.FarStore.faults_of (length g.K.TableName.opening) l.fn.served l.served
