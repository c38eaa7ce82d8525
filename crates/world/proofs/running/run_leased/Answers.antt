use Rattle.std.proofs.Common.{rules}
use Rattle.debugger.specs.Running.{RunsUpTo}
use Rattle.object_store.specs.Lending.{within_memory}
use Rattle.object_store.specs.Leases.{filled}
use Rattle.world.proofs.Ran.{lent_run}
use Rattle.world.proofs.running.run_leased.Goals as goal

pub returns : goal.returns
returns g c =
    let k = lent_run (λ m. filled m.store.now m.lease.at m.lease.body) (λ m. m.store.ghost_name) (λ m. m.who) _ _ _ _ _ _ _ c.run-run.ensures.runs in
    let t : RunsUpTo (within_memory c.args.who) c.args.most c.args.debuggee.now c.args.store.now c.run-run.result.ran c.run-run.result.end c.run-run.new.self
    c.end_lease.new.self = rw c.end_lease.ensures (rw c.lease_none-lease.ensures.seen at k.0) in
    let l = k.1.loan_is in search rules
