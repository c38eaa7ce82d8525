use Rattle.std.proofs.Common.{◌≡◌, ℕ, ◌+◌, ◌-◌, arith, get_or, List}
use Rattle.isa_table.specs.declared.instr.Instr.{Instr}
use Rattle.bpf_codec.specs.declared.places.TheConstants.{FIRSTS, COUNTS}
use Rattle.bpf_codec.proofs.Standing.{rows_stand, rows_within}
use Rattle.bpf_codec.proofs.places.rows_at.Goals as goal

pub slice_bounds-result-end : goal.slice_bounds-result-end
slice_bounds-result-end c = rw (c.firsts.ensures, c.counts.ensures, c.rows.ensures.now) (rows_within c.args.opcode c.ranges.opcode.fits)

part : (a b n : ℕ) (rows : List Instr) → a + b - a ≡ b
part a b n rows = omega arith

pub returns : goal.returns
returns c =
    rw (
      c.firsts.ensures,
      c.counts.ensures,
      c.rows.ensures.now,
      part (get_or FIRSTS c.args.opcode 0) (get_or COUNTS c.args.opcode 0) c.args.opcode c.rows.result.now,
    ) (rows_stand c.args.opcode c.ranges.opcode.fits)
