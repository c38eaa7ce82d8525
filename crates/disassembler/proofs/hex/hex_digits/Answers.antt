use Rattle.std.proofs.Common.{◌≡◌, ◌-◌, ℕ, length, arith}
use Rattle.std.proofs.Math.ListN.{length-set}
use Rattle.disassembler.proofs.Hexed.{place, fewer, written_here, first_digit, next_digit, last_digit}
use Rattle.disassembler.proofs.hex.hex_digits.Goals as goal

pub overflow_sub-at : goal.overflow_sub-at
overflow_sub-at c = place c.loop-n.at c.loop-n.n c.loop-n.invariant.small c.loop-n-test.true

pub loop-n-init : goal.loop-n-init
loop-n-init c =
    let long : length c.args.buffer.now ≡ 16 = omega arith in
    record {
      so_far = first_digit c.args.k c.glyph.result c.args.buffer.now long;
      here = written_here c.args.buffer.now 15 c.glyph.result _ (omega arith) c.glyph.ensures;
      at = omega arith;
      small = omega (arith, c.ranges.k.fits);
      long = omega (arith, length-set {A = ℕ});
    }

pub loop-n-preserved : goal.loop-n-preserved
loop-n-preserved c =
    let i = c.loop-n.invariant in
    let p = place c.loop-n.at c.loop-n.n i.small c.loop-n-test.true in
    record {
      so_far = next_digit c.loop-n.at c.loop-n.n c.loop-n.buffer c.glyph-in-loop-n.result _ p c.loop-n-test.true i.here i.so_far;
      here = written_here c.loop-n.buffer (c.loop-n.at - 1) c.glyph-in-loop-n.result _ (omega arith) c.glyph-in-loop-n.ensures;
      at = omega arith;
      small = fewer c.loop-n.at c.loop-n.n p i.small;
      long = omega (arith, length-set {A = ℕ});
    }

pub returns-clause-digits : goal.returns-clause-digits
returns-clause-digits c = last_digit c.loop-n.at c.loop-n.n c.loop-n.buffer _ c.loop-n-test.false c.loop-n.invariant.here c.loop-n.invariant.so_far
