use Rattle.std.proofs.Common.{rules}
use Rattle.world.proofs.Ran.{lent_run}
use Rattle.world.proofs.running.run_plain.Goals as goal

pub returns : goal.returns
returns g c = let k = lent_run (λ m. m.store.now) (λ m. m.store.ghost_name) (λ m. m.who) _ _ _ _ _ _ _ c.run-run.ensures.runs in let t = k.0 in
    let l = k.1.loan_is in search rules
