use Rattle.console.proofs.tokens.Tokens.grants.Goals as goal

pub returns-then-some-clause-err : goal.returns-then-some-clause-err
returns-then-some-clause-err c = rw c.if-some.true c.some_grants.ensures.err
