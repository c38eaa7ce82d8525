-- Operands that have the sorts of a mnemonic are those of an instruction.
use Rattle.std.proofs.Common.{◌≡◌, ℕ, ℤ, pos, ◌&&◌, ◌^◌, Bool, true, false, List, [], ◌∷◌, ◌++◌, append_assoc, append-nil, refl, sym, ap, ◌∙◌, Option, Some}
use Rattle.std.proofs.Common.{None, is_some}
use Rattle.asm_text.specs.Tokens.{Lexeme}
use Rattle.isa_table.specs.declared.instr.Reg.{Reg}
use Rattle.asm_table.specs.declared.mnemonic.Mnemonic.{Mnemonic}
use Rattle.asm_table.specs.declared.mnemonic.Sort.{Sort}
use Rattle.asm_table.specs.declared.mnemonic.Sort.TheVariants as sort
use Rattle.asm_table.specs.declared.operands.AsmOperand.{AsmOperand}
use Rattle.asm_table.specs.declared.operands.AsmOperand.TheVariants as operand
use Rattle.asm_table.specs.Mnemonics.{sorts}
use Rattle.asm_table.specs.Names.{register_named}
use Rattle.asm_table.specs.Parts.{instr_of_parts}
use Rattle.asm_table.proofs.Each.{of_sort, of_sorts, built_exactly}
use Rattle.asm_grammar.specs.declared.written.Sign.TheVariants as sign
use Rattle.asm_grammar.specs.Writing.{Written}
use Rattle.asm_grammar.specs.Writing.Written.{Word, Bare, Signed, Memory, MemoryAt}
use Rattle.asm_grammar.specs.Sorts.{Taken, operand_taken, counted, registered, fitting, imm64_of, distance}
use Rattle.asm_grammar.specs.Sorts.Taken.{No, Out, Is, To, LongTo}
use Rattle.asm_grammar.specs.Grammar.{Look}
use Rattle.asm_grammar.specs.Reading.{Gathered, nothing, gather_operands, step, added, aimed}
use Rattle.asm_grammar.proofs.Meant.{having}
use Rattle.asm_grammar.proofs.Found.{and_then_some, step_is}

-- ---- what is taken has the sort

fits : Sort → Taken → Bool
fits s (Is o) = of_sort s o
fits s (To w) = of_sort s (operand.Offset (pos 0))
fits s (LongTo w) = of_sort s (operand.LongOffset (pos 0))
fits s _ = true

registered_fits : (g : Reg → AsmOperand) (s : Sort) → ((r : Reg) → of_sort s (g r) ≡ true) → (x : Option Reg) → fits s (registered (λ r. Is (g r)) x) ≡ true
unfolding fits
registered_fits g s h None = refl
registered_fits g s h (Some r) = h r

counted_fits : {A : Type 0} (g : A → AsmOperand) (s : Sort) → ((a : A) → of_sort s (g a) ≡ true) → (x : Option A) → fits s (counted g x) ≡ true
unfolding fits
counted_fits g s h None = refl
counted_fits g s h (Some a) = h a

memory_fits : (z : Option ℤ) (x : Option Reg) → fits sort.Memory (registered (λ r. counted (λ z. operand.Memory r z) z) x) ≡ true
unfolding fits of_sort
memory_fits z None = refl
memory_fits z (Some r) = counted_fits (λ z. operand.Memory r z) sort.Memory (λ z. refl) z

taken_fits : (s : Sort) (w : Written) → fits s (operand_taken s w) ≡ true
unfolding fits of_sort
taken_fits sort.Register (Word w) = registered_fits (λ r. operand.Register r) sort.Register (λ r. refl) (register_named w)
taken_fits sort.RegisterOrImm (Word w) = registered_fits (λ r. operand.Register r) sort.RegisterOrImm (λ r. refl) (register_named w)
taken_fits sort.RegisterOrImm (Bare n) = counted_fits (λ z. operand.Imm z) sort.RegisterOrImm (λ z. refl) (fitting (2 ^ 31) sign.Plus n)
taken_fits sort.RegisterOrImm (Signed s n) = counted_fits (λ z. operand.Imm z) sort.RegisterOrImm (λ z. refl) (fitting (2 ^ 31) s n)
taken_fits sort.Imm (Bare n) = counted_fits (λ z. operand.Imm z) sort.Imm (λ z. refl) (fitting (2 ^ 31) sign.Plus n)
taken_fits sort.Imm (Signed s n) = counted_fits (λ z. operand.Imm z) sort.Imm (λ z. refl) (fitting (2 ^ 31) s n)
taken_fits sort.Memory (Memory w) = registered_fits (λ r. operand.Memory r (pos 0)) sort.Memory (λ r. refl) (register_named w)
taken_fits sort.Memory (MemoryAt w s n) = memory_fits (fitting (2 ^ 15) s n) (register_named w)
taken_fits sort.Imm64 (Bare n) = counted_fits (λ k. operand.Imm64 k) sort.Imm64 (λ k. refl) n
taken_fits sort.Imm64 (Signed s n) = counted_fits (λ k. operand.Imm64 k) sort.Imm64 (λ k. refl) (imm64_of s n)
taken_fits sort.Target (Word w) = refl
taken_fits sort.Target (Signed s n) = counted_fits (λ z. operand.Offset z) sort.Target (λ z. refl) (fitting (2 ^ 15) s n)
taken_fits sort.LongTarget (Word w) = refl
taken_fits sort.LongTarget (Signed s n) = counted_fits (λ z. operand.LongOffset z) sort.LongTarget (λ z. refl) (fitting (2 ^ 31) s n)
taken_fits _ _ = refl

-- whether an offset may stand somewhere doesn't depend on where it leads
pub any_offset : (s : Sort) (z : ℤ) → of_sort s (operand.Offset z) ≡ of_sort s (operand.Offset (pos 0))
unfolding of_sort
any_offset sort.Target z = refl
any_offset _ z = refl

pub any_long_offset : (s : Sort) (z : ℤ) → of_sort s (operand.LongOffset z) ≡ of_sort s (operand.LongOffset (pos 0))
unfolding of_sort
any_long_offset sort.LongTarget z = refl
any_long_offset _ z = refl

-- ---- what is gathered has the sorts

-- one operand more, with no number out of its range
record More (g h : Gathered) (s : Sort) : Type 0 where
  o : AsmOperand
  operands : h.operands ≡ g.operands ++ o ∷ []
  sorted : of_sort s o ≡ true
  in_range : g.out ≡ false

aimed_more : (f : ℤ → AsmOperand) (n : ℕ) (g h : Gathered) (s : Sort) (x : Option ℕ) → ((z : ℤ) → of_sort s (f z) ≡ true)
    → aimed f n g x ≡ h → h.out ≡ false → More g h s
aimed_more f n g h s None k e q = record {
  o = f (pos 0);
  operands = sym (ap (λ (x : Gathered). x.operands) e);
  sorted = k (pos 0);
  in_range = ap (λ (x : Gathered). x.out) e ∙ q;
}
aimed_more f n g h s (Some slot) k e q =
    record {
      o = f (distance slot n);
      operands = sym (ap (λ (x : Gathered). x.operands) e);
      sorted = k (distance slot n);
      in_range = ap (λ (x : Gathered). x.out) e ∙ q;
    }

module _ (look : Look) (n : ℕ) where
  added_more : (g h : Gathered) (s : Sort) (t : Taken) → fits s t ≡ true → added look n g t ≡ Some h → h.out ≡ false → More g h s
  unfolding fits
  added_more g h s No f e q = absurd (cc e)
  added_more g h s Out f e q = let j : having g.operands true g.unknown ≡ h = cc e in let k : true ≡ false = ap (λ (x : Gathered). x.out) j ∙ q in absurd (cc k)
  added_more g h s (Is o) f e q =
      let j : having (g.operands ++ o ∷ []) g.out g.unknown ≡ h = cc e in
      record { o = o; operands = sym (ap (λ (x : Gathered). x.operands) j); sorted = f; in_range = ap (λ (x : Gathered). x.out) j ∙ q }
  added_more g h s (To w) f e q =
      let j : aimed (λ z. operand.Offset z) n g (look w) ≡ h = cc e in
      aimed_more (λ z. operand.Offset z) n g h s (look w) (λ z. any_offset s z ∙ f) j q
  added_more g h s (LongTo w) f e q =
      let j : aimed (λ z. operand.LongOffset z) n g (look w) ≡ h = cc e in
      aimed_more (λ z. operand.LongOffset z) n g h s (look w) (λ z. any_long_offset s z ∙ f) j q

  record Sorted (g h : Gathered) (ss : List Sort) : Type 0 where
    os : List AsmOperand
    operands : h.operands ≡ g.operands ++ os
    sorted : of_sorts ss os ≡ true
    in_range : g.out ≡ false

  both : (a b : Bool) → a ≡ true → b ≡ true → (a && b) ≡ true
  both a b e f = rw (e, f) refl

  gathered_sorts : (first : Bool) (g h : Gathered) (ss : List Sort) (ts : List Lexeme) → gather_operands look n first g ss ts ≡ Some h
      → h.out ≡ false → Sorted g h ss
  unfolding of_sorts
  gathered_sorts first g h [] [] e q =
      let j : g ≡ h = cc e in
      record {
        os = [];
        operands = sym (ap (λ (x : Gathered). x.operands) j) ∙ sym (append-nil g.operands);
        sorted = refl;
        in_range = ap (λ (x : Gathered). x.out) j ∙ q;
      }
  gathered_sorts first g h [] (t ∷ ts) e q = absurd (cc e)
  gathered_sorts first g h (s ∷ ss) ts e q =
      let a = and_then_some _ (step look n first g s ts) h e in
      let k = step_is look n first g s ts a.0 a.1 in
      let r = gathered_sorts false a.0.0 h ss a.0.1 a.2 q in
      let d = added_more g a.0.0 s (operand_taken s k.0) (taken_fits s k.0) k.2 r.in_range in
      record {
        os = d.o ∷ r.os;
        operands = r.operands ∙ ap (λ x. x ++ r.os) d.operands ∙ append_assoc g.operands (d.o ∷ []) r.os;
        sorted = both (of_sort s d.o) (of_sorts ss r.os) d.sorted r.sorted;
        in_range = d.in_range;
      }

  -- operands that were gathered, with no number out of its range, are those of an instruction
  pub built_gathered : (m : Mnemonic) (ts : List Lexeme) (g : Gathered) → gather_operands look n true nothing (sorts m) ts ≡ Some g → g.out ≡ false
      → is_some (instr_of_parts m g.operands) ≡ true
  built_gathered m ts g e q =
      let r = gathered_sorts true nothing g (sorts m) ts e q in
      ap (λ os. is_some (instr_of_parts m os)) r.operands ∙ built_exactly m r.os ∙ r.sorted
