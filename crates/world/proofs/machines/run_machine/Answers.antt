use Rattle.std.proofs.lemmas.Option.{slice_get-get_or}
use Rattle.world.proofs.Ran.{machine_runs}
use Rattle.world.proofs.machines.run_machine.Goals as goal

pub returns-clause-runs : goal.returns-clause-runs
returns-clause-runs g c =
    let at = slice_get-get_or c.args.machines.now c.in_ok-index.index c.index-machines-index.result c.in_ok-index.ensures.some.1 in
    machine_runs _ c.args.machine c.in_ok-index.index c.args.most c.run_over.result.ran c.run_over.result.end _
    c.run_over.new.debuggee _ c.run_over.new.store.state
    c.in_ok-index.ensures.some.0 at c.run_over.ensures.runs
