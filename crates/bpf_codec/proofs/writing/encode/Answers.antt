use Rattle.std.proofs.Common.{arith}
use Rattle.bpf_codec.proofs.Encodings.{padded_is, registers_fit}
use Rattle.bpf_codec.proofs.writing.encode.Goals as goal

pub overflow_add-registers : goal.overflow_add-registers
overflow_add-registers c = rw (c.number_of.ensures, c.number_of-2.ensures, c.layout_of-layout.ensures) (omega (arith, registers_fit c.args.instr.now))

pub overflow_cast-bytes : goal.overflow_cast-bytes
overflow_cast-bytes c = rw (c.number_of.ensures, c.number_of-2.ensures, c.layout_of-layout.ensures) (omega (arith, registers_fit c.args.instr.now))

pub returns-clause-encoded : goal.returns-clause-encoded
returns-clause-encoded c =
    rw (
      c.to_le_bytes-o.ensures,
      c.to_le_bytes-m.ensures,
      c.to_le_bytes-n.ensures,
      c.number_of.ensures,
      c.number_of-2.ensures,
      c.number_of-3.ensures,
      c.number_of-4.ensures,
      c.next_imm_of.ensures,
      c.layout_of-layout.ensures,
    ) (padded_is c.args.instr.now)
