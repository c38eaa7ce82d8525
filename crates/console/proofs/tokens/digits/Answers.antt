use Rattle.std.proofs.lemmas.Str.{IsUtf8-from_ascii}
use Rattle.console.proofs.LineTokens.{ascii_digits}
use Rattle.console.proofs.tokens.digits.Goals as goal

pub returns-in-Err-clause-none : goal.returns-in-Err-clause-none
returns-in-Err-clause-none c = λ n _. c.in-Err.ensures.cases.0 (IsUtf8-from_ascii _ (ascii_digits _ _ c.requires.high n.1))
