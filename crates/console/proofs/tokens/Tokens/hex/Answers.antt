use Rattle.std.proofs.Common.{refl, arith}
use Rattle.console.proofs.LineTokens.{hex_length, bytes_given, bytes_wrong}
use Rattle.console.proofs.tokens.Tokens.hex.Goals as goal

pub returns-then-text-most-clause-err : goal.returns-then-text-most-clause-err
returns-then-text-most-clause-err c = (
  refl,
  bytes_wrong _ _ _ _ c.in_ok-text.ensures.ok (λ bytes h s. let k = hex_length c.in_ok-text.text.now bytes h.1 in omega (arith, k, s, c.if-text-most.true)),
)

pub returns-clause-ok : goal.returns-clause-ok
returns-clause-ok c =
    let h = c.is_hex.ensures.0 c.if-not-is_hex.false in
    let k = hex_length c.in_ok-text.text.now h.0 h.1.1 in
    bytes_given _ _ _ _ h.0 c.in_ok-text.ensures.ok h.1 (omega (arith, k, c.if-text-most.false))
