use Rattle.std.proofs.lemmas.Result.{err_from_is_err_and}
use Rattle.agent.proofs.assembly.assembling.put_code.Goals as goal

-- the writer failed
pub returns-in_err-put_all : goal.returns-in_err-put_all
returns-in_err-put_all g c =
    let p = err_from_is_err_and c.from_residual-in_err-put_all.result c.from_residual-in_err-put_all.ensures.1 in
    rw (p.1, p.2) (c.in_ok-code.code.items, c.in_ok-code.ensures.ok, rw c.deref.ensures.value at c.in_err-put_all.ensures.err)
