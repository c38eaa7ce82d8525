use Rattle.std.proofs.lemmas.List.{take_rest}
use Rattle.console.proofs.GrantWords.{grant_digits}
use Rattle.console.proofs.tokens.read_grant.Goals as goal

pub returns-in_err-number-clause-none : goal.returns-in_err-number-clause-none
returns-in_err-number-clause-none c = rw c.from_residual.ensures
    (λ grant g _. c.in_err-number.ensures.none grant.number (rw take_rest (grant_digits c.args.word.now grant g)))
