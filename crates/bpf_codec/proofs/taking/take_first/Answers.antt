use Rattle.std.proofs.Common.{◌∙◌, sym}
use Rattle.bpf_codec.proofs.Taken.{taken_head}
use Rattle.bpf_codec.proofs.taking.take_first.Goals as goal

pub returns : goal.returns
returns c = c.take_row.ensures ∙ taken_head c.args.f c.args.rows.now c.args.o _ (sym c.is_empty.ensures ∙ c.if-is_empty.false)
