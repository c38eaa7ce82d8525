use Rattle.std.proofs.lemmas.Result.{err_from_is_err_and}
use Rattle.agent.proofs.Started.{answered, stops}
use Rattle.agent.proofs.running.do_commands.Goals as goal

-- a stream failed
pub returns-in_err-drive : goal.returns-in_err-drive
returns-in_err-drive g c =
    let p = err_from_is_err_and c.from_residual-in_err-drive.result c.from_residual-in_err-drive.ensures.1 in
    rw (p.1, p.2) (stops _ _ _ _ _ _ _ _ _ _ _ c.in_ok-world.ensures c.in_ok-console.ensures c.in_err-drive.was c.drive.ensures.read c.drive.ensures.write)

pub returns : goal.returns
returns g c = answered _ _ _ _ _ _ c.in_ok-world.ensures c.in_ok-console.ensures _ c.in_ok-drive.ensures.ok
