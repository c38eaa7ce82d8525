use Rattle.std.proofs.lemmas.Result.{err_from_is_err_and}
use Rattle.agent.proofs.servers.serving.connect.Goals as goal

-- this is the server's address, and it isn't reached
pub returns-in_err-store-in-Ok-clause-err : goal.returns-in_err-store-in-Ok-clause-err
returns-in_err-store-in-Ok-clause-err g c =
    let p = err_from_is_err_and c.from_residual-in_err-store-in-Ok.result c.from_residual-in_err-store-in-Ok.ensures.1 in
    rw (p.1, p.2) (c.in_err-store-in-Ok.ensures c.args.far.now (c.in_ok-address.address, c.in_ok-address.ensures.value))
