use Rattle.std.proofs.Common.{None}
use Rattle.std.proofs.lemmas.Result.{err_from_is_err_and}
use Rattle.agent.proofs.Setup.{done, failed, unbound}
use Rattle.agent.proofs.servers.serving.serve_over.Goals as goal

-- the port or the file can't be had
pub returns-in_default : goal.returns-in_default
returns-in_default g c = unbound g.row.F.Denot g.F.FarStore.RETURNS _ None _ _ _ None _ c.in_ok-world.ensures

-- the service ended otherwise than with its connections
pub returns-in_err-listen_at : goal.returns-in_err-listen_at
returns-in_err-listen_at g c =
    let p = err_from_is_err_and c.from_residual-in_err-listen_at.result c.from_residual-in_err-listen_at.ensures.1 in
    rw (p.1, p.2) (failed _ _ _ _ _ _ _ _ _ _ None _ c.in_ok-world.ensures c.in-Ok.ensures
    c.in_err-listen_at.ensures.says c.in_err-listen_at.ensures.here)

-- when all connections have ended nothing is said of what is unread
pub returns : goal.returns
returns g c = done _ _ _ _ _ _ _ tt _ _ None _ c.in_ok-world.ensures c.in-Ok.ensures c.in_ok-listen_at.ensures.says c.in_ok-listen_at.ensures.here
