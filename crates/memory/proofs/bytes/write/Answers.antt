use Rattle.std.proofs.Common.{ℕ, List, ◌∙◌, ap, arith, bit_and}
use Rattle.std.specs.Int.{bytes_low_first}
use Rattle.memory.specs.Access.{replaced}
use Rattle.memory.proofs.Replacing.{one_byte, to_end, low_half, low_word}
use Rattle.memory.proofs.bytes.write.Goals as goal

pub returns-in-Byte : goal.returns-in-Byte
returns-in-Byte c = rw c.in-Byte.is (one_byte _ _ _ (omega (arith, rw c.in-Byte.is at c.requires)))

pub returns-in-Half : goal.returns-in-Half
returns-in-Half c =
    let whole = to_end c.args.bytes.now (bytes_low_first 0 2 (bit_and c.args.value 65535)) c.write_u16.new.buf c.args.offset c.write_u16.ensures in
    rw c.in-Half.is (whole ∙ ap (λ (bs : List ℕ). replaced c.args.offset bs c.args.bytes.now) (low_half c.args.value))

pub returns-in-Word : goal.returns-in-Word
returns-in-Word c =
    let whole = to_end c.args.bytes.now (bytes_low_first 0 4 (bit_and c.args.value 4294967295)) c.write_u32.new.buf c.args.offset c.write_u32.ensures in
    rw c.in-Word.is (whole ∙ ap (λ (bs : List ℕ). replaced c.args.offset bs c.args.bytes.now) (low_word c.args.value))

pub returns-in-Double : goal.returns-in-Double
returns-in-Double c = rw c.in-Double.is (to_end c.args.bytes.now (bytes_low_first 0 8 c.args.value) c.write_u64.new.buf c.args.offset c.write_u64.ensures)
