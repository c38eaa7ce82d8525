-- How long the canonical spelling is.
use Rattle.std.proofs.Common.{◌≡◌, ℕ, ◌+◌, ◌*◌, ◌/◌, ◌%◌, ◌<◌, ◌≤◌, ◌==◌, ◌^◌, nat_le, zero, suc, ℤ, pos, negsuc, Bool, true, false, cond, List, [], ◌∷◌, ◌++◌}
use Rattle.std.proofs.Common.{length, refl, arith, decimal, length-append}
use Rattle.std.proofs.lemmas.Bool.Decides.{nat_tests}
use Rattle.std.proofs.lemmas.Fmt.{length-decimal-le}
use Rattle.std.specs.Fmt.{digits, digits_onto, digit_glyph}
use Rattle.isa_table.specs.declared.instr.Instr.{Instr}
use Rattle.isa_table.specs.declared.instr.Instr.TheVariants.{Exit}
use Rattle.isa_table.specs.declared.instr.Reg.{Reg}
use Rattle.isa_table.specs.declared.instr.Reg.TheVariants.{R10}
use Rattle.asm_table.specs.declared.mnemonic.Mnemonic.{Mnemonic}
use Rattle.asm_table.specs.declared.mnemonic.Mnemonic.TheVariants as mnemonic
use Rattle.asm_table.specs.declared.named.TheConstants.{BY_NAME}
use Rattle.asm_table.specs.declared.operands.AsmOperand.{AsmOperand}
use Rattle.asm_table.specs.declared.operands.AsmOperand.TheVariants as operand
use Rattle.asm_table.specs.Mnemonics.{name, slots_of}
use Rattle.asm_table.specs.Names.{has_two_words, register_name}
use Rattle.asm_table.specs.Parts.{mnemonic_of, operands_of}
use Rattle.asm_table.specs.Canonical.{offset_text, operand_text, more_text, operands_text, line_text, text_of, FitsOperand, AllFitOperands, FitsParts}
use Rattle.asm_table.specs.Canonical.{AllFitParts, parts_slot_count}
use Rattle.asm_table.proofs.Lookups.{all_pass, passing}

-- ---- digits

decimal_short : (n : ℕ) → n < 2 ^ 64 → length (decimal n) ≤ 20
decimal_short n h = length-decimal-le 20 n (omega arith) (omega arith) h

onto_at : (b : Bool) (f d : ℕ) (acc rest : List ℕ) → length rest ≤ f + suc (length acc) → length (cond b (d ∷ acc) rest) ≤ suc f + length acc
onto_at true f d acc rest h = omega arith
onto_at false f d acc rest h = omega arith

onto_short : (f n : ℕ) (acc : List ℕ) → length (digits_onto f 16 false n acc) ≤ f + length acc
onto_short zero n acc = omega arith
onto_short (suc f) n acc = let d = digit_glyph false (n % 16) in
    onto_at (n / 16 == 0) f d acc (digits_onto f 16 false (n / 16) (d ∷ acc)) (onto_short f (n / 16) (d ∷ acc))

hex_short : (k : ℕ) → length (digits 16 false k) ≤ 64
unfolding digits
hex_short k = onto_short 64 k []

-- ---- a line

has_short : Mnemonic → Bool
has_short m = nat_le (length (name m)) 10

all_short : all_pass has_short BY_NAME.now ≡ true
unfolding all_pass has_short
all_short = refl

short_at : (m : Mnemonic) (b : Bool) → has_two_words m ≡ b → length (name m) ≤ 10
unfolding has_short
short_at mnemonic.CallLocal b e = omega arith
short_at m false e = let l : nat_le (length (name m)) 10 ≡ true = passing has_short m all_short e in grind (arith, nat_tests)
short_at m true e = absurd (cc e)

register_short : (r : Reg) → length (register_name r) ≤ 3
register_short R10 = omega arith
register_short _ = omega arith

offset_short : (z : ℤ) → FitsOperand (operand.Offset z) → length (offset_text z) ≤ 21
offset_short (pos zero) f = omega arith
offset_short (pos (suc n)) f = let d = decimal_short (suc n) (omega arith) in omega (arith, d)
offset_short (negsuc n) f = let d = decimal_short (suc n) (omega arith) in omega (arith, d)

operand_short : (o : AsmOperand) → FitsOperand o → length (operand_text o) ≤ 66
operand_short (operand.Register r) f = let s = register_short r in omega (arith, s)
operand_short (operand.Imm (pos n)) f = let d = decimal_short n (omega arith) in omega (arith, d)
operand_short (operand.Imm (negsuc n)) f = let d = decimal_short (suc n) (omega arith) in omega (arith, d)
operand_short (operand.Memory r z) f =
    omega (arith, register_short r, offset_short z f, length-append (register_name r) (offset_text z ++ 93 ∷ []), length-append (offset_text z) (93 ∷ []))
operand_short (operand.Imm64 k) f = let h = hex_short k in omega (arith, h)
operand_short (operand.Offset (pos n)) f = let d = decimal_short n (omega arith) in omega (arith, d)
operand_short (operand.Offset (negsuc n)) f = let d = decimal_short (suc n) (omega arith) in omega (arith, d)
operand_short (operand.LongOffset (pos n)) f = let d = decimal_short n (omega arith) in omega (arith, d)
operand_short (operand.LongOffset (negsuc n)) f = let d = decimal_short (suc n) (omega arith) in omega (arith, d)

more_short : (os : List AsmOperand) → AllFitOperands os → length (more_text os) ≤ 68 * length os
more_short [] f = omega arith
more_short (o ∷ os) f = omega (arith, operand_short o f.0, more_short os f.1, length-append (operand_text o) (more_text os))

operands_short : (os : List AsmOperand) → AllFitOperands os → length (operands_text os) ≤ 68 * length os
operands_short [] f = omega arith
operands_short (o ∷ os) f = omega (arith, operand_short o f.0, more_short os f.1, length-append (operand_text o) (more_text os))

few_operands : (i : Instr) → length (operands_of i) ≤ 3
few_operands Exit = omega arith
few_operands _ = omega arith

line_short : (i : Instr) → FitsParts i → length (line_text i) ≤ 214
line_short i f =
    let m = mnemonic_of i in
    let os = operands_of i in
    omega (arith, short_at m (has_two_words m) refl, operands_short os f, few_operands i, length-append (name m) (operands_text os))

-- ---- a text

lines_short : (code : List Instr) → AllFitParts code → length (text_of code) ≤ 215 * length code
lines_short [] f = omega arith
lines_short (i ∷ is) f = omega (arith, line_short i f.0, lines_short is f.1, length-append (line_text i) (10 ∷ text_of is))

some_slot : (m : Mnemonic) → 1 ≤ slots_of m
some_slot mnemonic.LoadImm64 = omega arith
some_slot _ = omega arith

few_instructions : (code : List Instr) → length code ≤ parts_slot_count code
few_instructions [] = omega arith
few_instructions (i ∷ is) = omega (arith, some_slot (mnemonic_of i), few_instructions is)

-- the text of at most 4096 slots has at most 2^20 bytes
pub text_short : (code : List Instr) → AllFitParts code → parts_slot_count code ≤ 4096 → length (text_of code) ≤ 2 ^ 20
text_short code f h = omega (arith, lines_short code f, few_instructions code)
