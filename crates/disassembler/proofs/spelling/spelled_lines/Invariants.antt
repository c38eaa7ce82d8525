use Rattle.std.proofs.Common.{◌-◌, ◌≤◌}
use Rattle.disassembler.proofs.Walked.{Walked}
use Rattle.disassembler.proofs.spelling.spelled_lines.Given as goal

abbrev pub invariant-loop-i : goal.invariant-loop-i
invariant-loop-i g l = Walked g.S.Spelling.spelled l.has_slots l.program l.slot l.out.items × (l.slot ≤ 4096)

abbrev pub decreases-loop-i : goal.decreases-loop-i
decreases-loop-i g l = 4096 - l.slot
