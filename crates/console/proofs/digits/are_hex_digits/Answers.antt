use Rattle.std.proofs.Common.{◌≡◌, true, subst, sym, ◌∙◌}
use Rattle.std.proofs.lemmas.Bool.{and_from, and_parts}
use Rattle.std.proofs.lemmas.List.{take_all}
use Rattle.std.proofs.lemmas.List.Elements.{All-more}
use Rattle.std.specs.List.{AllPass}
use Rattle.hex.specs.Hex.{is_hex_digit}
use Rattle.console.proofs.digits.are_hex_digits.Goals as goal

pub loop-b-preserved : goal.loop-b-preserved
loop-b-preserved c = (
  λ t. let p = and_parts _ _ t in
      All-more (λ x. is_hex_digit x ≡ true) c.args.token.now c.loop-b.b-index 0 c.loop-b-test.true (c.loop-b.invariant.0 p.0) (sym c.is_digit-all.ensures
      ∙ p.1),
  λ d. and_from _ _ (c.loop-b.invariant.1 d) (c.is_digit-all.ensures ∙ d c.loop-b.b-index 0 c.loop-b-test.true),
)

pub returns : goal.returns
returns c = (
  λ t. subst (AllPass is_hex_digit) (take_all c.loop-b.b-index c.args.token.now c.loop-b-test.false) (c.loop-b.invariant.0 t),
  λ d. c.loop-b.invariant.1 d,
)
