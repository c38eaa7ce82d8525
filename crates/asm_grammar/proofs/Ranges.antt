-- The numbers of an instruction that is meant are those of its fields.
use Rattle.std.proofs.Common.{◌≡◌, ℕ, ◌+◌, ◌-◌, ◌%◌, ◌<◌, ◌≤◌, ◌^◌, nat_lt, nat_le, zero, suc, ℤ, pos, negsuc, Bool, true, false, cond, List, [], ◌∷◌, refl}
use Rattle.std.proofs.Common.{sym, subst, arith, Option, Some, None}
use Rattle.std.specs.Prelude.{neg_ℤ, ◌-ℤ◌}
use Rattle.std.proofs.lemmas.Bool.Decides.{nat_tests}
use Rattle.asm_text.specs.Tokens.{Lexeme}
use Rattle.asm_text.specs.Tokens.Lexeme.{Name, Number, Colon}
use Rattle.asm_text.proofs.Small.{IsSmall, AllSmall, small_after, small_before}
use Rattle.isa_table.specs.declared.instr.Instr.{Instr}
use Rattle.isa_table.specs.declared.instr.Reg.{Reg}
use Rattle.asm_table.specs.declared.mnemonic.Sort.{Sort}
use Rattle.asm_table.specs.declared.mnemonic.Sort.TheVariants as sort
use Rattle.asm_table.specs.declared.operands.AsmOperand.{AsmOperand}
use Rattle.asm_table.specs.declared.operands.AsmOperand.TheVariants as operand
use Rattle.asm_table.specs.Mnemonics.{sorts}
use Rattle.asm_table.specs.Names.{register_named}
use Rattle.asm_table.specs.Parts.{mnemonic_of, operands_of}
use Rattle.asm_table.specs.Canonical.{IsSignedWithin, FitsOperand, AllFitOperands, FitsParts}
use Rattle.asm_grammar.specs.declared.written.Sign.{Sign}
use Rattle.asm_grammar.specs.declared.written.Sign.TheVariants as sign
use Rattle.asm_grammar.specs.Writing.{Written, lexemes_of, joined, more}
use Rattle.asm_grammar.specs.Writing.Written.{Word, Bare, Signed, Memory, MemoryAt}
use Rattle.asm_grammar.specs.Sorts.{Taken, operand_taken, counted, registered, fitting, imm64_of, distance}
use Rattle.asm_grammar.specs.Sorts.Taken.{No, Out, Is, To, LongTo}
use Rattle.asm_grammar.specs.Grammar.{Look, StandsFor, Stand, Means, head, after_label}

-- ---- numbers as they are taken

fitting_plus : (limit k : ℕ) (b : Bool) (z : ℤ) → nat_lt k limit ≡ b → cond b (Some (pos k)) None ≡ Some z → IsSignedWithin limit z
fitting_plus limit k true z e h = let s : pos k ≡ z = cc h in let l : k < limit = grind (arith, nat_tests) in subst (IsSignedWithin limit) s l
fitting_plus limit k false z e h = absurd (cc h)

negated_within : (limit k : ℕ) → 0 < limit → k ≤ limit → IsSignedWithin limit (neg_ℤ (pos k))
negated_within limit zero p h = p
negated_within limit (suc k) p h = h

fitting_minus : (limit k : ℕ) (b : Bool) (z : ℤ) → 0 < limit → nat_le k limit ≡ b → cond b (Some (neg_ℤ (pos k))) None ≡ Some z → IsSignedWithin limit z
fitting_minus limit k true z p e h = let s : neg_ℤ (pos k) ≡ z = cc h in let l : k ≤ limit = grind (arith, nat_tests) in
    subst (IsSignedWithin limit) s (negated_within limit k p l)
fitting_minus limit k false z p e h = absurd (cc h)

fitting_within : (limit : ℕ) (s : Sign) (n : Option ℕ) (z : ℤ) → 0 < limit → fitting limit s n ≡ Some z → IsSignedWithin limit z
fitting_within limit s None z p h = absurd (cc h)
fitting_within limit sign.Plus (Some k) z p h = fitting_plus limit k (nat_lt k limit) z refl h
fitting_within limit sign.Minus (Some k) z p h = fitting_minus limit k (nat_le k limit) z p refl h

-- an operand that is taken fits
unfoldable Ranged : Taken → Type 0
Ranged (Is o) = FitsOperand o
Ranged _ = Unit {0}

ranged_register : (x : Option Reg) → Ranged (registered (λ r. Is (operand.Register r)) x)
unfolding Ranged
ranged_register None = tt
ranged_register (Some r) = tt

ranged_base : (x : Option Reg) → Ranged (registered (λ r. Is (operand.Memory r (pos 0))) x)
unfolding Ranged
ranged_base None = tt
ranged_base (Some r) = let l : 0 < 2 ^ 15 = omega arith in l

ranged_number : {A : Type 0} (f : A → AsmOperand) (x : Option A) → ((a : A) → x ≡ Some a → FitsOperand (f a)) → Ranged (counted f x)
unfolding Ranged
ranged_number f None h = tt
ranged_number f (Some a) h = h a refl

ranged_memory : (x : Option Reg) (s : Sign) (n : Option ℕ) → Ranged (registered (λ r. counted (λ z. operand.Memory r z) (fitting (2 ^ 15) s n)) x)
unfolding Ranged
ranged_memory None s n = tt
ranged_memory (Some r) s n = ranged_number (λ z. operand.Memory r z) (fitting (2 ^ 15) s n) (λ z e. fitting_within (2 ^ 15) s n z (omega arith) e)

ranged_imm : (s : Sign) (n : Option ℕ) → Ranged (counted (λ z. operand.Imm z) (fitting (2 ^ 31) s n))
ranged_imm s n = ranged_number (λ z. operand.Imm z) (fitting (2 ^ 31) s n) (λ z e. fitting_within (2 ^ 31) s n z (omega arith) e)

ranged_offset : (s : Sign) (n : Option ℕ) → Ranged (counted (λ z. operand.Offset z) (fitting (2 ^ 15) s n))
ranged_offset s n = ranged_number (λ z. operand.Offset z) (fitting (2 ^ 15) s n) (λ z e. fitting_within (2 ^ 15) s n z (omega arith) e)

ranged_long : (s : Sign) (n : Option ℕ) → Ranged (counted (λ z. operand.LongOffset z) (fitting (2 ^ 31) s n))
ranged_long s n = ranged_number (λ z. operand.LongOffset z) (fitting (2 ^ 31) s n) (λ z e. fitting_within (2 ^ 31) s n z (omega arith) e)

negative_small : (b : Bool) (k : ℕ) → Ranged (counted (λ n. operand.Imm64 n) (cond b (Some ((2 ^ 64 - k) % 2 ^ 64)) None))
unfolding Ranged
negative_small true k = let l : (2 ^ 64 - k) % 2 ^ 64 < 2 ^ 64 = omega arith in l
negative_small false k = tt

ranged_bare : (n : Option ℕ) → AllSmall (Number n ∷ []) → Ranged (counted (λ k. operand.Imm64 k) n)
unfolding Ranged AllSmall IsSmall
ranged_bare None h = tt
ranged_bare (Some k) h = h.0

ranged_signed : (s : Sign) (n : Option ℕ) → AllSmall (Number n ∷ []) → Ranged (counted (λ k. operand.Imm64 k) (imm64_of s n))
unfolding Ranged AllSmall IsSmall
ranged_signed s None h = tt
ranged_signed sign.Plus (Some k) h = h.0
ranged_signed sign.Minus (Some k) h = negative_small (nat_le k (2 ^ 63)) k

number_after_sign : (s : Sign) (n : Option ℕ) → AllSmall (lexemes_of (Signed s n)) → AllSmall (Number n ∷ [])
unfolding AllSmall
number_after_sign s n h = h.1

taken_ranged : (s : Sort) (w : Written) → AllSmall (lexemes_of w) → Ranged (operand_taken s w)
unfolding Ranged
taken_ranged sort.Register (Word w) h = ranged_register (register_named w)
taken_ranged sort.RegisterOrImm (Word w) h = ranged_register (register_named w)
taken_ranged sort.RegisterOrImm (Bare n) h = ranged_imm sign.Plus n
taken_ranged sort.RegisterOrImm (Signed s n) h = ranged_imm s n
taken_ranged sort.Imm (Bare n) h = ranged_imm sign.Plus n
taken_ranged sort.Imm (Signed s n) h = ranged_imm s n
taken_ranged sort.Memory (Memory w) h = ranged_base (register_named w)
taken_ranged sort.Memory (MemoryAt w s n) h = ranged_memory (register_named w) s n
taken_ranged sort.Imm64 (Bare n) h = ranged_bare n h
taken_ranged sort.Imm64 (Signed s n) h = ranged_signed s n (number_after_sign s n h)
taken_ranged sort.Target (Word w) h = tt
taken_ranged sort.Target (Signed s n) h = ranged_offset s n
taken_ranged sort.LongTarget (Word w) h = tt
taken_ranged sort.LongTarget (Signed s n) h = ranged_long s n
taken_ranged _ _ h = tt

-- ---- offsets to labels

difference_within : (limit a b : ℕ) (t : Bool) → a ≤ 4096 → b ≤ 4097 → 2 ^ 15 ≤ limit → IsSignedWithin limit (cond t (negsuc (b - suc a)) (pos (a - b)))
difference_within limit a b true h k l = omega arith
difference_within limit a b false h k l = omega arith

distance_within : (limit slot n : ℕ) → slot ≤ 4096 → n ≤ 4096 → 2 ^ 15 ≤ limit → IsSignedWithin limit (distance slot n)
distance_within limit slot n h k l =
    let e : n + 1 ≡ suc n = omega arith in
    subst (λ m. IsSignedWithin limit (pos slot -ℤ pos m)) (sym e) (difference_within limit slot (suc n) (nat_lt slot (suc n)) h (omega arith) l)

-- ---- operands, and the instruction

module _ (look : Look) (n : ℕ) (below : (name : List ℕ) (slot : ℕ) → look name ≡ Some slot → slot ≤ 4096) (short : n ≤ 4096) where
  operand_fits : (t : Taken) (o : AsmOperand) → Ranged t → StandsFor look n t o → FitsOperand o
  unfolding Ranged
  operand_fits No o r h = absurd h
  operand_fits Out o r h = absurd h
  operand_fits (Is p) o r h = subst FitsOperand h r
  operand_fits (To w) o r h = subst FitsOperand h.2 (distance_within (2 ^ 15) h.0 n (below w h.0 h.1) short (omega arith))
  operand_fits (LongTo w) o r h = subst FitsOperand h.2 (distance_within (2 ^ 31) h.0 n (below w h.0 h.1) short (omega arith))

  more_fit : (ss : List Sort) (ws : List Written) (os : List AsmOperand) → AllSmall (more ws) → Stand look n ss ws os → AllFitOperands os
  unfolding AllSmall
  more_fit [] [] [] h s = tt
  more_fit (s ∷ ss) (w ∷ ws) (o ∷ os) h st = (
    operand_fits (operand_taken s w) o (taken_ranged s w (small_before (lexemes_of w) (more ws) h.1)) st.0,
    more_fit ss ws os (small_after (lexemes_of w) (more ws) h.1) st.1,
  )
  more_fit _ _ _ h s = absurd s

  operands_fit : (ss : List Sort) (ws : List Written) (os : List AsmOperand) → AllSmall (joined ws) → Stand look n ss ws os → AllFitOperands os
  operands_fit [] [] [] h s = tt
  operands_fit (s ∷ ss) (w ∷ ws) (o ∷ os) h st = (
    operand_fits (operand_taken s w) o (taken_ranged s w (small_before (lexemes_of w) (more ws) h)) st.0,
    more_fit ss ws os (small_after (lexemes_of w) (more ws) h) st.1,
  )
  operands_fit _ _ _ h s = absurd s

  -- what is meant fits
  pub means_fits : (ts : List Lexeme) (i : Instr) → AllSmall ts → Means look n ts i → FitsParts i
  means_fits ts i h m =
      operands_fit (sorts (mnemonic_of i)) m.0 (operands_of i) (small_after (head (mnemonic_of i)) (joined m.0) (subst AllSmall m.1 h)) m.2

pub small_past_label : (ts : List Lexeme) → AllSmall ts → AllSmall (after_label ts)
unfolding AllSmall
small_past_label (Name w ∷ Colon ∷ ts) h = h.1.1
small_past_label _ h = h
