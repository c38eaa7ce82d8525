-- The first bytes of a padded encoding are the encoding.
use Rattle.std.proofs.Common.{◌≡◌, ◌*◌, take, subst}
use Rattle.std.proofs.Math.Seq.{take-append_seam}
use Rattle.isa_table.specs.declared.instr.Instr.{Instr}
use Rattle.isa_table.specs.Slots.{slots}
use Rattle.bpf_codec.specs.Slots.{encoding, padded, zeros_after}
use Rattle.loader.proofs.Positions.{length_encoding}

pub take_padded : (i : Instr) → take (8 * slots i) (padded i) ≡ encoding i
take_padded i = subst (λ n. take n (padded i) ≡ encoding i) (length_encoding i) (take-append_seam (encoding i) (zeros_after i))
