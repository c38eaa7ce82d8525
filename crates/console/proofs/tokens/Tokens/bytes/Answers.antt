use Rattle.std.proofs.Common.{[], refl}
use Rattle.console.proofs.LineTokens.{hex_nothing}
use Rattle.console.proofs.tokens.Tokens.bytes.Goals as goal

pub returns-in-Some-clause-err : goal.returns-in-Some-clause-err
returns-in-Some-clause-err c = rw c.in-Some.is c.hex.ensures.err

pub returns-in-None-clause-ok : goal.returns-in-None-clause-ok
returns-in-None-clause-ok c = ([], rw c.in-None.is (refl, refl), hex_nothing)
