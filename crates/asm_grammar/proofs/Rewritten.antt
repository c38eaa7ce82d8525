-- The canonical line means its instruction.
use Rattle.std.proofs.Common.{◌≡◌, ℕ, ◌<◌, ◌≤◌, ◌^◌, ◌==◌, ◌&&◌, nat_lt, nat_le, zero, suc, ℤ, pos, negsuc, Bool, true, false, cond, List, [], ◌∷◌, ◌++◌, map}
use Rattle.std.proofs.Common.{length, codes, refl, sym, ap, ◌∙◌, subst, arith, append_assoc, Option, Some, None, decimal}
use Rattle.std.proofs.lemmas.Bool.Decides.{nat_tests}
use Rattle.std.proofs.lemmas.Fmt.{decimal_is_IsNumeral, digits_is_IsNumeral}
use Rattle.std.specs.Fmt.{digits}
use Rattle.asm_text.specs.Tokens.{Lexeme, tokens, run, is_letter, is_name_byte}
use Rattle.asm_text.specs.Tokens.Lexeme.{Name, Number, Comma, Open, Close, Plus, Minus}
use Rattle.asm_text.proofs.Digits.{and_both}
use Rattle.asm_text.proofs.Spelled.{name_front, number_front, hex_front, mark_front}
use Rattle.isa_table.specs.declared.instr.Instr.{Instr}
use Rattle.isa_table.specs.declared.instr.Reg.{Reg}
use Rattle.isa_table.specs.declared.instr.Reg.TheVariants.{R0, R1, R2, R3, R4, R5, R6, R7, R8, R9, R10}
use Rattle.asm_table.specs.declared.mnemonic.Mnemonic.{Mnemonic}
use Rattle.asm_table.specs.declared.mnemonic.Mnemonic.TheVariants as mnemonic
use Rattle.asm_table.specs.declared.mnemonic.Sort.{Sort}
use Rattle.asm_table.specs.declared.mnemonic.Sort.TheVariants as sort
use Rattle.asm_table.specs.declared.named.TheConstants.{BY_NAME}
use Rattle.asm_table.specs.declared.operands.AsmOperand.{AsmOperand}
use Rattle.asm_table.specs.declared.operands.AsmOperand.TheVariants as operand
use Rattle.asm_table.specs.Mnemonics.{name, sorts}
use Rattle.asm_table.specs.Names.{has_two_words, register_name}
use Rattle.asm_table.specs.Parts.{mnemonic_of, operands_of}
use Rattle.asm_table.specs.Canonical.{offset_text, operand_text, more_text, operands_text, line_text, IsSignedWithin, FitsOperand, AllFitOperands, FitsParts}
use Rattle.asm_table.proofs.Each.{of_sort, of_sorts, operands_sorted}
use Rattle.asm_table.proofs.Lookups.{all_pass, passing, register_again}
use Rattle.asm_grammar.specs.declared.written.Sign.{Sign}
use Rattle.asm_grammar.specs.declared.written.Sign.TheVariants as sign
use Rattle.asm_grammar.specs.Writing.{lexemes_of, joined, more}
use Rattle.asm_grammar.specs.Writing.Written.{MemoryAt}
use Rattle.asm_grammar.specs.Sorts.{Taken, operand_taken, counted, registered, fitting}
use Rattle.asm_grammar.specs.Sorts.Taken.{Is}
use Rattle.asm_grammar.specs.Grammar.{Look, StandsFor, Stand, Means, head}
use Rattle.asm_grammar.specs.Canonical.{canonical}
use Rattle.asm_grammar.proofs.Meant.{head_one}

-- ---- tokens of the text

register_front : (r : Reg) (rest : List ℕ) → run is_name_byte rest ≡ 0 → tokens (register_name r ++ rest) ≡ Name (register_name r) ∷ tokens rest
register_front R0 rest end = name_front 114 (48 ∷ []) rest refl refl end
register_front R1 rest end = name_front 114 (49 ∷ []) rest refl refl end
register_front R2 rest end = name_front 114 (50 ∷ []) rest refl refl end
register_front R3 rest end = name_front 114 (51 ∷ []) rest refl refl end
register_front R4 rest end = name_front 114 (52 ∷ []) rest refl refl end
register_front R5 rest end = name_front 114 (53 ∷ []) rest refl refl end
register_front R6 rest end = name_front 114 (54 ∷ []) rest refl refl end
register_front R7 rest end = name_front 114 (55 ∷ []) rest refl refl end
register_front R8 rest end = name_front 114 (56 ∷ []) rest refl refl end
register_front R9 rest end = name_front 114 (57 ∷ []) rest refl refl end
register_front R10 rest end = name_front 114 (49 ∷ 48 ∷ []) rest refl refl end

decimal_front : (n : ℕ) (rest : List ℕ) → n < 2 ^ 64 → run is_name_byte rest ≡ 0 → tokens (decimal n ++ rest) ≡ Number (Some n) ∷ tokens rest
decimal_front n rest h end = let d = decimal_is_IsNumeral n h in number_front (decimal n) rest n d.0 d.1 h end

plus_decimal : (n : ℕ) (rest : List ℕ) → n < 2 ^ 64 → run is_name_byte rest ≡ 0 → tokens (43 ∷ (decimal n ++ rest)) ≡ Plus ∷ Number (Some n) ∷ tokens rest
plus_decimal n rest h end = (mark_front (decimal n ++ rest)).plus ∙ ap (λ l. Plus ∷ l) (decimal_front n rest h end)

minus_decimal : (n : ℕ) (rest : List ℕ) → n < 2 ^ 64 → run is_name_byte rest ≡ 0 → tokens (45 ∷ (decimal n ++ rest)) ≡ Minus ∷ Number (Some n) ∷ tokens rest
minus_decimal n rest h end = (mark_front (decimal n ++ rest)).minus ∙ ap (λ l. Minus ∷ l) (decimal_front n rest h end)

memory_shape : (r : Reg) (z : ℤ) (rest : List ℕ) → operand_text (operand.Memory r z) ++ rest ≡ 91 ∷ (register_name r ++ (offset_text z ++ 93 ∷ rest))
memory_shape r z rest = ap (λ l. 91 ∷ l) (append_assoc (register_name r) (offset_text z ++ 93 ∷ []) rest
    ∙ ap (λ l. register_name r ++ l) (append_assoc (offset_text z) (93 ∷ []) rest))

base_front : (r : Reg) (rest : List ℕ) (ts : List Lexeme) → run is_name_byte rest ≡ 0 → tokens rest ≡ ts
    → tokens (91 ∷ (register_name r ++ rest)) ≡ Open ∷ Name (register_name r) ∷ ts
base_front r rest ts end e = (mark_front (register_name r ++ rest)).opening
    ∙ ap (λ l. Open ∷ l) (register_front r rest end ∙ ap (λ l. Name (register_name r) ∷ l) e)

operand_front : (o : AsmOperand) (rest : List ℕ) → FitsOperand o → run is_name_byte rest ≡ 0
    → tokens (operand_text o ++ rest) ≡ lexemes_of (canonical o) ++ tokens rest
operand_front (operand.Register r) rest f end = register_front r rest end
operand_front (operand.Imm (pos n)) rest f end = decimal_front n rest (omega arith) end
operand_front (operand.Imm (negsuc n)) rest f end = minus_decimal (suc n) rest (omega arith) end
operand_front (operand.Memory r (pos zero)) rest f end =
    ap tokens (memory_shape r (pos zero) rest) ∙ base_front r (93 ∷ rest) (Close ∷ tokens rest) refl ((mark_front rest).closing)
operand_front (operand.Memory r (pos (suc n))) rest f end =
    ap tokens (memory_shape r (pos (suc n)) rest)
    ∙ base_front r (43 ∷ (decimal (suc n) ++ 93 ∷ rest)) (Plus ∷ Number (Some (suc n)) ∷ Close
    ∷ tokens rest) refl (plus_decimal (suc n) (93 ∷ rest) (omega arith) refl ∙ ap (λ l. Plus ∷ Number (Some (suc n)) ∷ l) ((mark_front rest).closing))
operand_front (operand.Memory r (negsuc n)) rest f end =
    ap tokens (memory_shape r (negsuc n) rest)
    ∙ base_front r (45 ∷ (decimal (suc n) ++ 93 ∷ rest)) (Minus ∷ Number (Some (suc n)) ∷ Close
    ∷ tokens rest) refl (minus_decimal (suc n) (93 ∷ rest) (omega arith) refl ∙ ap (λ l. Minus ∷ Number (Some (suc n)) ∷ l) ((mark_front rest).closing))
operand_front (operand.Offset (pos n)) rest f end = plus_decimal n rest (omega arith) end
operand_front (operand.Offset (negsuc n)) rest f end = minus_decimal (suc n) rest (omega arith) end
operand_front (operand.LongOffset (pos n)) rest f end = plus_decimal n rest (omega arith) end
operand_front (operand.LongOffset (negsuc n)) rest f end = minus_decimal (suc n) rest (omega arith) end
operand_front (operand.Imm64 k) rest f end =
    let d = digits_is_IsNumeral 16 false (omega arith) (omega arith) k (omega arith) in
    hex_front (digits 16 false k) rest k d.0 d.1 f end

more_ends : (os : List AsmOperand) → run is_name_byte (more_text os) ≡ 0
more_ends [] = refl
more_ends (o ∷ os) = refl

more_tokens : (os : List AsmOperand) → AllFitOperands os → tokens (more_text os) ≡ more (map canonical os)
more_tokens [] f = refl
more_tokens (o ∷ os) f =
    (mark_front (32 ∷ (operand_text o ++ more_text os))).comma
    ∙ ap (λ l. Comma ∷ l) (operand_front o (more_text os) f.0 (more_ends os) ∙ ap (λ l. lexemes_of (canonical o) ++ l) (more_tokens os f.1))

operands_ends : (os : List AsmOperand) → run is_name_byte (operands_text os) ≡ 0
operands_ends [] = refl
operands_ends (o ∷ os) = refl

operands_tokens : (os : List AsmOperand) → AllFitOperands os → tokens (operands_text os) ≡ joined (map canonical os)
operands_tokens [] f = refl
operands_tokens (o ∷ os) f = operand_front o (more_text os) f.0 (more_ends os) ∙ ap (λ l. lexemes_of (canonical o) ++ l) (more_tokens os f.1)

-- the bytes are a name
is_word : List ℕ → Bool
is_word [] = false
is_word (b ∷ bs) = is_letter b && (run is_name_byte bs == length bs)

same_number : (a b : ℕ) → (a == b) ≡ true → a ≡ b
same_number a b e = grind (arith, nat_tests)

word_front : (w rest : List ℕ) → is_word w ≡ true → run is_name_byte rest ≡ 0 → tokens (w ++ rest) ≡ Name w ∷ tokens rest
unfolding is_word
word_front [] rest h end = absurd (cc h)
word_front (b ∷ bs) rest h end =
    let p = and_both (is_letter b) (run is_name_byte bs == length bs) h in
    name_front b bs rest p.0 (same_number (run is_name_byte bs) (length bs) p.1) end

has_word : Mnemonic → Bool
has_word m = is_word (name m)

all_words : all_pass has_word BY_NAME.now ≡ true
unfolding all_pass has_word is_word
all_words = refl

name_is_word : (m : Mnemonic) → has_two_words m ≡ false → is_word (name m) ≡ true
unfolding has_word
name_is_word m h = passing has_word m all_words h

head_at : (m : Mnemonic) (rest : List ℕ) (b : Bool) → has_two_words m ≡ b → run is_name_byte rest ≡ 0 → tokens (name m ++ rest) ≡ head m ++ tokens rest
head_at mnemonic.CallLocal rest b e end =
    name_front 99 (97 ∷ 108 ∷ 108 ∷ []) (32 ∷ 108 ∷ 111 ∷ 99 ∷ 97 ∷ 108 ∷ rest) refl refl refl
    ∙ ap (λ l. Name (codes "call") ∷ l) (name_front 108 (111 ∷ 99 ∷ 97 ∷ 108 ∷ []) rest refl refl end)
head_at m rest false e end = word_front (name m) rest (name_is_word m e) end ∙ ap (λ l. l ++ tokens rest) (sym (head_one m e))
head_at m rest true e end = absurd (cc e)

head_front : (m : Mnemonic) (rest : List ℕ) → run is_name_byte rest ≡ 0 → tokens (name m ++ rest) ≡ head m ++ tokens rest
head_front m rest end = head_at m rest (has_two_words m) refl end

-- the canonical line, token by token
pub line_tokens : (i : Instr) → FitsParts i → tokens (line_text i) ≡ head (mnemonic_of i) ++ joined (map canonical (operands_of i))
line_tokens i f =
    head_front (mnemonic_of i) (operands_text (operands_of i)) (operands_ends (operands_of i))
    ∙ ap (λ l. head (mnemonic_of i) ++ l) (operands_tokens (operands_of i) f)

-- ---- what it stands for

below : (n limit : ℕ) → n < limit → nat_lt n limit ≡ true
below n limit h = grind (arith, nat_tests)

at_most : (n limit : ℕ) → n ≤ limit → nat_le n limit ≡ true
at_most n limit h = grind (arith, nat_tests)

fit_pos : (limit n : ℕ) → n < limit → fitting limit sign.Plus (Some n) ≡ Some (pos n)
fit_pos limit n h = ap (λ b. cond b (Some (pos n)) None) (below n limit h)

fit_neg : (limit n : ℕ) → suc n ≤ limit → fitting limit sign.Minus (Some (suc n)) ≡ Some (negsuc n)
fit_neg limit n h = ap (λ b. cond b (Some (negsuc n)) None) (at_most (suc n) limit h)

taken_register : (r : Reg) → operand_taken sort.Register (canonical (operand.Register r)) ≡ Is (operand.Register r)
taken_register r = ap (registered (λ r. Is (operand.Register r))) (register_again r)

taken_imm : (z : ℤ) → IsSignedWithin (2 ^ 31) z → operand_taken sort.Imm (canonical (operand.Imm z)) ≡ Is (operand.Imm z)
taken_imm (pos n) f = ap (counted (λ z. operand.Imm z)) (fit_pos (2 ^ 31) n f)
taken_imm (negsuc n) f = ap (counted (λ z. operand.Imm z)) (fit_neg (2 ^ 31) n f)

taken_at : (r : Reg) (s : Sign) (n : Option ℕ) (z : ℤ) → fitting (2 ^ 15) s n ≡ Some z
    → operand_taken sort.Memory (MemoryAt (register_name r) s n) ≡ Is (operand.Memory r z)
taken_at r s n z e =
    ap (registered (λ r. counted (λ z. operand.Memory r z) (fitting (2 ^ 15) s n))) (register_again r) ∙ ap (counted (λ z. operand.Memory r z)) e

taken_memory : (r : Reg) (z : ℤ) → IsSignedWithin (2 ^ 15) z → operand_taken sort.Memory (canonical (operand.Memory r z)) ≡ Is (operand.Memory r z)
taken_memory r (pos zero) f = ap (registered (λ r. Is (operand.Memory r (pos 0)))) (register_again r)
taken_memory r (pos (suc n)) f = taken_at r sign.Plus (Some (suc n)) (pos (suc n)) (fit_pos (2 ^ 15) (suc n) f)
taken_memory r (negsuc n) f = taken_at r sign.Minus (Some (suc n)) (negsuc n) (fit_neg (2 ^ 15) n f)

taken_offset : (z : ℤ) → IsSignedWithin (2 ^ 15) z → operand_taken sort.Target (canonical (operand.Offset z)) ≡ Is (operand.Offset z)
taken_offset (pos n) f = ap (counted (λ z. operand.Offset z)) (fit_pos (2 ^ 15) n f)
taken_offset (negsuc n) f = ap (counted (λ z. operand.Offset z)) (fit_neg (2 ^ 15) n f)

taken_long_offset : (z : ℤ) → IsSignedWithin (2 ^ 31) z → operand_taken sort.LongTarget (canonical (operand.LongOffset z)) ≡ Is (operand.LongOffset z)
taken_long_offset (pos n) f = ap (counted (λ z. operand.LongOffset z)) (fit_pos (2 ^ 31) n f)
taken_long_offset (negsuc n) f = ap (counted (λ z. operand.LongOffset z)) (fit_neg (2 ^ 31) n f)

-- a number is taken in the same way where a register may stand
taken_second : (z : ℤ) → IsSignedWithin (2 ^ 31) z → operand_taken sort.RegisterOrImm (canonical (operand.Imm z)) ≡ Is (operand.Imm z)
taken_second (pos n) f = taken_imm (pos n) f
taken_second (negsuc n) f = taken_imm (negsuc n) f

is_stands : (look : Look) (n : ℕ) (t : Taken) (o : AsmOperand) → t ≡ Is o → StandsFor look n t o
is_stands look n t o e = subst (λ x. StandsFor look n x o) (sym e) refl

module _ (look : Look) (n : ℕ) where
  register_stands : (d : Reg) → StandsFor look n (operand_taken sort.Register (canonical (operand.Register d))) (operand.Register d)
  register_stands d = is_stands look n _ _ (taken_register d)

  memory_stands : (r : Reg) (z : ℤ) → IsSignedWithin (2 ^ 15) z
      → StandsFor look n (operand_taken sort.Memory (canonical (operand.Memory r z))) (operand.Memory r z)
  memory_stands r z f = is_stands look n _ _ (taken_memory r z f)

  imm_stands : (z : ℤ) → IsSignedWithin (2 ^ 31) z → StandsFor look n (operand_taken sort.Imm (canonical (operand.Imm z))) (operand.Imm z)
  imm_stands z f = is_stands look n _ _ (taken_imm z f)

  second_stands : (z : ℤ) → IsSignedWithin (2 ^ 31) z → StandsFor look n (operand_taken sort.RegisterOrImm (canonical (operand.Imm z))) (operand.Imm z)
  second_stands z f = is_stands look n _ _ (taken_second z f)

  offset_stands : (z : ℤ) → IsSignedWithin (2 ^ 15) z → StandsFor look n (operand_taken sort.Target (canonical (operand.Offset z))) (operand.Offset z)
  offset_stands z f = is_stands look n _ _ (taken_offset z f)

  long_offset_stands : (z : ℤ) → IsSignedWithin (2 ^ 31) z
      → StandsFor look n (operand_taken sort.LongTarget (canonical (operand.LongOffset z))) (operand.LongOffset z)
  long_offset_stands z f = is_stands look n _ _ (taken_long_offset z f)

  operand_stands : (s : Sort) (o : AsmOperand) → of_sort s o ≡ true → FitsOperand o → StandsFor look n (operand_taken s (canonical o)) o
  unfolding of_sort
  operand_stands sort.Register (operand.Register r) h f = register_stands r
  operand_stands sort.RegisterOrImm (operand.Register r) h f = register_stands r
  operand_stands sort.RegisterOrImm (operand.Imm z) h f = second_stands z f
  operand_stands sort.Imm (operand.Imm z) h f = imm_stands z f
  operand_stands sort.Memory (operand.Memory r z) h f = memory_stands r z f
  operand_stands sort.Imm64 (operand.Imm64 k) h f = refl
  operand_stands sort.Target (operand.Offset z) h f = offset_stands z f
  operand_stands sort.LongTarget (operand.LongOffset z) h f = long_offset_stands z f
  operand_stands _ _ h f = absurd (cc h)

  operands_stand : (ss : List Sort) (os : List AsmOperand) → of_sorts ss os ≡ true → AllFitOperands os → Stand look n ss (map canonical os) os
  unfolding of_sorts
  operands_stand [] [] h f = tt
  operands_stand (s ∷ ss) (o ∷ os) h f = let p = and_both (of_sort s o) (of_sorts ss os) h in (operand_stands s o p.0 f.0, operands_stand ss os p.1 f.1)
  operands_stand _ _ h f = absurd (cc h)

  -- the canonical line of an instruction means it, whatever labels there are
  pub line_means : (i : Instr) → FitsParts i → Means look n (tokens (line_text i)) i
  line_means i f = (map canonical (operands_of i), line_tokens i f, operands_stand (sorts (mnemonic_of i)) (operands_of i) (operands_sorted i) f)
