use Rattle.std.proofs.Common.{◌∙◌, sym}
use Rattle.bpf_codec.proofs.Taken.{taken_valid}
use Rattle.bpf_codec.proofs.reading.read_valid.Goals as goal

pub returns : goal.returns
returns c = taken_valid c.args.bytes.now c.in-Ok.next_imm c.slot_at-f.result c.rows_at.result.now c.operands_of.result c.take_first.result
    c.if-bytes-lt8.false c.slot_at-f.ensures (sym c.next_imm_at.ensures ∙ c.in-Ok.is) c.rows_at.ensures c.operands_of.ensures c.take_first.ensures
