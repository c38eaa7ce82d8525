use Rattle.std.proofs.Common.{arith}
use Rattle.disassembler.proofs.Walked.{none_walked, next_walked, all_walked}
use Rattle.disassembler.proofs.spelling.spelled_lines.Goals as goal

pub loop-i-init : goal.loop-i-init
loop-i-init g c = (rw c.new-out.ensures.items (none_walked g.S.Spelling.spelled c.args.has_slots c.args.program.now c.slots.ensures.valid), omega arith)

pub loop-i-preserved : goal.loop-i-preserved
loop-i-preserved g c =
    let n = next_walked _ _ _ _ _ _ c.loop-i.invariant.0 c.in-Some.ensures.some in
    (rw (c.in_ok-put_line.ensures, c.slots_of-slot.ensures) n.walked, omega (arith, n.bound, c.slots_of-slot.ensures))

pub returns : goal.returns
returns g c = all_walked _ _ _ _ _ c.loop-i.invariant.0 c.in_default.ensures.none
