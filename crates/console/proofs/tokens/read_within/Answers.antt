use Rattle.console.proofs.tokens.read_within.Goals as goal

pub returns-in_err-n-clause-none : goal.returns-in_err-n-clause-none
returns-in_err-n-clause-none c = rw c.from_residual.ensures (λ n w. c.in_err-n.ensures.none n w.0)
