-- The canonical spelling holds no control byte.
use Rattle.std.proofs.Common.{◌≡◌, ℕ, ◌<◌, ◌≤◌, ◌^◌, ◌&&◌, nat_lt, zero, suc, ℤ, pos, negsuc, Bool, true, false, List, [], ◌∷◌, ◌++◌, refl, arith, decimal}
use Rattle.std.proofs.lemmas.Bool.Decides.{nat_tests}
use Rattle.std.proofs.lemmas.Fmt.{decimal_is_IsNumeral, digits_is_IsNumeral}
use Rattle.std.specs.Char.{digit_value}
use Rattle.std.specs.Fmt.{digits}
use Rattle.std.specs.Str.Parse.{AllDigits}
use Rattle.isa_table.specs.declared.instr.Instr.{Instr}
use Rattle.isa_table.specs.declared.instr.Reg.{Reg}
use Rattle.isa_table.specs.declared.instr.Reg.TheVariants.{R0, R1, R2, R3, R4, R5, R6, R7, R8, R9, R10}
use Rattle.isa_table.proofs.Listed.{and_true}
use Rattle.asm_table.specs.declared.mnemonic.Mnemonic.{Mnemonic}
use Rattle.asm_table.specs.declared.mnemonic.Mnemonic.TheVariants as mnemonic
use Rattle.asm_table.specs.declared.named.TheConstants.{BY_NAME}
use Rattle.asm_table.specs.declared.operands.AsmOperand.{AsmOperand}
use Rattle.asm_table.specs.declared.operands.AsmOperand.TheVariants as operand
use Rattle.asm_table.specs.Mnemonics.{name}
use Rattle.asm_table.specs.Names.{has_two_words, register_name}
use Rattle.asm_table.specs.Parts.{mnemonic_of, operands_of}
use Rattle.asm_table.specs.Canonical.{offset_text, operand_text, more_text, operands_text, line_text, FitsOperand, AllFitOperands, FitsParts}
use Rattle.asm_table.proofs.Lookups.{all_pass, passing}

-- a byte that is no control byte
unfoldable pub is_plain : ℕ → Bool
is_plain b = nat_lt 31 b && nat_lt b 127

-- all bytes are such
unfoldable pub printable : List ℕ → Bool
printable [] = true
printable (b ∷ bs) = is_plain b && printable bs

pub both : (a b : Bool) → a ≡ true → b ≡ true → (a && b) ≡ true
both a b e f = rw (e, f) refl

pub printable_append : (xs ys : List ℕ) → printable xs ≡ true → printable ys ≡ true → printable (xs ++ ys) ≡ true
unfolding printable is_plain
printable_append [] ys h k = k
printable_append (x ∷ xs) ys h k = let p = and_true (is_plain x) (printable xs) h in both (is_plain x) (printable (xs ++ ys)) p.0 (printable_append xs ys p.1 k)

digit_printable : (radix c : ℕ) → radix ≤ 16 → digit_value c < radix → is_plain c ≡ true
unfolding is_plain
digit_printable radix c h d = both (nat_lt 31 c) (nat_lt c 127) (grind (arith, nat_tests)) (grind (arith, nat_tests))

printable_digits : (radix : ℕ) (ds : List ℕ) → radix ≤ 16 → AllDigits radix ds → printable ds ≡ true
unfolding printable is_plain
printable_digits radix [] h d = refl
printable_digits radix (c ∷ cs) h d = both (is_plain c) (printable cs) (digit_printable radix c h d.0) (printable_digits radix cs h d.1)

printable_decimal : (n : ℕ) → n < 2 ^ 64 → printable (decimal n) ≡ true
printable_decimal n h = printable_digits 10 (decimal n) (omega arith) (decimal_is_IsNumeral n h).0.1

printable_register : (r : Reg) → printable (register_name r) ≡ true
unfolding printable is_plain
printable_register R0 = refl
printable_register R1 = refl
printable_register R2 = refl
printable_register R3 = refl
printable_register R4 = refl
printable_register R5 = refl
printable_register R6 = refl
printable_register R7 = refl
printable_register R8 = refl
printable_register R9 = refl
printable_register R10 = refl

printable_offset : (z : ℤ) → FitsOperand (operand.Offset z) → printable (offset_text z) ≡ true
unfolding printable is_plain
printable_offset (pos zero) f = refl
printable_offset (pos (suc n)) f = printable_decimal (suc n) (omega arith)
printable_offset (negsuc n) f = printable_decimal (suc n) (omega arith)

printable_operand : (o : AsmOperand) → FitsOperand o → printable (operand_text o) ≡ true
unfolding printable is_plain
printable_operand (operand.Register r) f = printable_register r
printable_operand (operand.Imm (pos n)) f = printable_decimal n (omega arith)
printable_operand (operand.Imm (negsuc n)) f = printable_decimal (suc n) (omega arith)
printable_operand (operand.Memory r z) f =
    printable_append (register_name r) (offset_text z
    ++ 93 ∷ []) (printable_register r) (printable_append (offset_text z) (93 ∷ []) (printable_offset z f) refl)
printable_operand (operand.Offset (pos n)) f = printable_decimal n (omega arith)
printable_operand (operand.Offset (negsuc n)) f = printable_decimal (suc n) (omega arith)
printable_operand (operand.LongOffset (pos n)) f = printable_decimal n (omega arith)
printable_operand (operand.LongOffset (negsuc n)) f = printable_decimal (suc n) (omega arith)
printable_operand (operand.Imm64 k) f =
    printable_digits 16 (digits 16 false k) (omega arith) (digits_is_IsNumeral 16 false (omega arith) (omega arith) k (omega arith)).0.1

printable_more : (os : List AsmOperand) → AllFitOperands os → printable (more_text os) ≡ true
unfolding printable is_plain
printable_more [] f = refl
printable_more (o ∷ os) f = printable_append (operand_text o) (more_text os) (printable_operand o f.0) (printable_more os f.1)

printable_operands : (os : List AsmOperand) → AllFitOperands os → printable (operands_text os) ≡ true
unfolding printable is_plain
printable_operands [] f = refl
printable_operands (o ∷ os) f = printable_append (operand_text o) (more_text os) (printable_operand o f.0) (printable_more os f.1)

has_printable : Mnemonic → Bool
has_printable m = printable (name m)

all_printable : all_pass has_printable BY_NAME.now ≡ true
unfolding all_pass has_printable printable is_plain
all_printable = refl

name_at : (m : Mnemonic) (b : Bool) → has_two_words m ≡ b → printable (name m) ≡ true
unfolding has_printable printable is_plain
name_at mnemonic.CallLocal b e = refl
name_at m false e = passing has_printable m all_printable e
name_at m true e = absurd (cc e)

printable_name : (m : Mnemonic) → printable (name m) ≡ true
printable_name m = name_at m (has_two_words m) refl

pub printable_line : (i : Instr) → FitsParts i → printable (line_text i) ≡ true
printable_line i f = printable_append (name (mnemonic_of i)) (operands_text (operands_of i)) (printable_name (mnemonic_of i))
    (printable_operands (operands_of i) f)
