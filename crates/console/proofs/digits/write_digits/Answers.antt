use Rattle.std.proofs.Common.{sym, arith}
use Rattle.console.proofs.HexPairs.{no_digits, digits_more}
use Rattle.console.proofs.digits.write_digits.Goals as goal

pub loop-i-init : goal.loop-i-init
loop-i-init c = sym no_digits

pub loop-i-preserved : goal.loop-i-preserved
loop-i-preserved c =
    digits_more c.loop-i.text c.args.bytes.now c.loop-i.i _ _ (omega (arith, c.loop-i-test.true, c.loop-i.auto.text, c.requires)) c.loop-i-test.true
    c.digit_of.ensures c.digit_of-in-loop-i.ensures c.loop-i.invariant
