use Rattle.std.proofs.Common.{refl}
use Rattle.console.proofs.LineTokens.{no_number_token}
use Rattle.console.proofs.tokens.Tokens.number.Goals as goal

pub returns-in-None-clause-err : goal.returns-in-None-clause-err
returns-in-None-clause-err c = (refl, no_number_token _ _ _ _ c.in_ok-token.ensures.ok (λ n w. c.in-None.ensures.none n w))
