use Rattle.std.proofs.Common.{arith, rules, ◌≡◌, true, false, length, ◌<◌}
use Rattle.console.proofs.LineTokens.{bytes_from_digits, digits_from_bytes}
use Rattle.console.proofs.tokens.is_hex.Goals as goal

pub returns-then-is_empty : goal.returns-then-is_empty
returns-then-is_empty c = (
  λ t. let f : false ≡ true = t in absurd (cc),
  λ p. let d = digits_from_bytes c.args.token.now p.0 p.1 in absurd (let e : length c.args.token.now ≡ 0 = search (rules, arith) in omega (arith, d.0)),
)

pub returns : goal.returns
returns c =
    let some : 0 < length c.args.token.now = search (rules, arith) in (
      λ t. bytes_from_digits c.args.token.now some (omega arith) (c.are_hex_digits.ensures.0 t),
      λ p. c.are_hex_digits.ensures.1 (digits_from_bytes c.args.token.now p.0 p.1).2,
    )
