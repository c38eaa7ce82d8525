-- What is proved by going through the mnemonics, one after the other. Other proofs go through what is said here, so that a
-- new mnemonic has its lines in this file alone.
use Rattle.std.proofs.Common.{◌≡◌, ◌&&◌, Bool, true, false, List, [], ◌∷◌, refl, sym, ap, ◌∙◌, subst, Some, is_some}
use Rattle.isa_table.specs.declared.instr.AtomicOp.TheVariants as atomic
use Rattle.isa_table.specs.declared.instr.Binary.TheVariants as binary
use Rattle.isa_table.specs.declared.instr.Cond.TheVariants as condition
use Rattle.isa_table.specs.declared.instr.Instr.{Instr}
use Rattle.isa_table.specs.declared.instr.Instr.TheVariants as instr
use Rattle.isa_table.specs.declared.instr.Operand.TheVariants as source
use Rattle.isa_table.specs.declared.instr.Order.TheVariants as order
use Rattle.isa_table.specs.declared.instr.SignedSize.TheVariants as signed_size
use Rattle.isa_table.specs.declared.instr.Size.TheVariants as size
use Rattle.isa_table.specs.declared.instr.SwapWidth.TheVariants as swap
use Rattle.isa_table.specs.declared.instr.Width.TheVariants as width
use Rattle.asm_table.specs.declared.mnemonic.Mnemonic.{Mnemonic}
use Rattle.asm_table.specs.declared.mnemonic.Mnemonic.TheVariants as mnemonic
use Rattle.asm_table.specs.declared.mnemonic.Sort.{Sort}
use Rattle.asm_table.specs.declared.mnemonic.Sort.TheVariants as sort
use Rattle.asm_table.specs.declared.operands.AsmOperand.{AsmOperand}
use Rattle.asm_table.specs.declared.operands.AsmOperand.TheVariants as operand
use Rattle.asm_table.specs.Mnemonics.{name, sorts}
use Rattle.asm_table.specs.Names.{named, has_two_words}
use Rattle.asm_table.specs.Parts.{mnemonic_of, operands_of, instr_of_parts}

-- ---- an instruction is built of operands of its sorts, and of no others

-- the operand may stand where this sort is wanted
unfoldable pub of_sort : Sort → AsmOperand → Bool
of_sort sort.Register (operand.Register r) = true
of_sort sort.RegisterOrImm (operand.Register r) = true
of_sort sort.RegisterOrImm (operand.Imm z) = true
of_sort sort.Imm (operand.Imm z) = true
of_sort sort.Memory (operand.Memory r z) = true
of_sort sort.Imm64 (operand.Imm64 k) = true
of_sort sort.Target (operand.Offset z) = true
of_sort sort.LongTarget (operand.LongOffset z) = true
of_sort _ _ = false

-- the operands may stand where these sorts are wanted
unfoldable pub of_sorts : List Sort → List AsmOperand → Bool
of_sorts [] [] = true
of_sorts (s ∷ ss) (o ∷ os) = of_sort s o && of_sorts ss os
of_sorts _ _ = false

pub built_exactly : (m : Mnemonic) (os : List AsmOperand) → is_some (instr_of_parts m os) ≡ of_sorts (sorts m) os
unfolding of_sorts of_sort
built_exactly (mnemonic.Alu w op) (operand.Register d ∷ operand.Register s ∷ []) = refl
built_exactly (mnemonic.Alu w op) (operand.Register d ∷ operand.Imm z ∷ []) = refl
built_exactly (mnemonic.Neg w) (operand.Register d ∷ []) = refl
built_exactly (mnemonic.MovSx8 w) (operand.Register d ∷ operand.Register s ∷ []) = refl
built_exactly (mnemonic.MovSx16 w) (operand.Register d ∷ operand.Register s ∷ []) = refl
built_exactly mnemonic.MovSx32 (operand.Register d ∷ operand.Register s ∷ []) = refl
built_exactly (mnemonic.End o w) (operand.Register d ∷ []) = refl
built_exactly (mnemonic.Jump w c) (operand.Register d ∷ operand.Register s ∷ operand.Offset o ∷ []) = refl
built_exactly (mnemonic.Jump w c) (operand.Register d ∷ operand.Imm z ∷ operand.Offset o ∷ []) = refl
built_exactly mnemonic.Ja (operand.Offset o ∷ []) = refl
built_exactly mnemonic.JaLong (operand.LongOffset o ∷ []) = refl
built_exactly mnemonic.CallHelper (operand.Imm k ∷ []) = refl
built_exactly mnemonic.CallLocal (operand.LongOffset o ∷ []) = refl
built_exactly mnemonic.Exit [] = refl
built_exactly (mnemonic.Load z) (operand.Register d ∷ operand.Memory s o ∷ []) = refl
built_exactly (mnemonic.LoadSigned z) (operand.Register d ∷ operand.Memory s o ∷ []) = refl
built_exactly (mnemonic.StoreImm z) (operand.Memory d o ∷ operand.Imm k ∷ []) = refl
built_exactly (mnemonic.StoreRegister z) (operand.Memory d o ∷ operand.Register s ∷ []) = refl
built_exactly (mnemonic.Atomic w op) (operand.Memory d o ∷ operand.Register s ∷ []) = refl
built_exactly mnemonic.LoadImm64 (operand.Register d ∷ operand.Imm64 v ∷ []) = refl
built_exactly _ _ = refl

-- ---- what is built has the parts that it is built of

built_from : (m : Mnemonic) (os : List AsmOperand) (i j : Instr) → Some j ≡ Some i → (mnemonic_of j ≡ m) × (operands_of j ≡ os)
    → (mnemonic_of i ≡ m) × (operands_of i ≡ os)
built_from m os i j e h = let k : j ≡ i = cc e in subst (λ (x : Instr). (mnemonic_of x ≡ m) × (operands_of x ≡ os)) k h

pub built_is : (m : Mnemonic) (os : List AsmOperand) (i : Instr) → instr_of_parts m os ≡ Some i → (mnemonic_of i ≡ m) × (operands_of i ≡ os)
built_is (mnemonic.Alu w op) (operand.Register d ∷ operand.Register s ∷ []) i e = built_from _ _ i (instr.Alu w op d (source.Register s)) e (refl, refl)
built_is (mnemonic.Alu w op) (operand.Register d ∷ operand.Imm z ∷ []) i e = built_from _ _ i (instr.Alu w op d (source.Imm z)) e (refl, refl)
built_is (mnemonic.Neg w) (operand.Register d ∷ []) i e = built_from _ _ i (instr.Neg w d) e (refl, refl)
built_is (mnemonic.MovSx8 w) (operand.Register d ∷ operand.Register s ∷ []) i e = built_from _ _ i (instr.MovSx8 w d s) e (refl, refl)
built_is (mnemonic.MovSx16 w) (operand.Register d ∷ operand.Register s ∷ []) i e = built_from _ _ i (instr.MovSx16 w d s) e (refl, refl)
built_is mnemonic.MovSx32 (operand.Register d ∷ operand.Register s ∷ []) i e = built_from _ _ i (instr.MovSx32 d s) e (refl, refl)
built_is (mnemonic.End o w) (operand.Register d ∷ []) i e = built_from _ _ i (instr.End o w d) e (refl, refl)
built_is (mnemonic.Jump w c) (operand.Register d ∷ operand.Register s ∷ operand.Offset o ∷ []) i e =
    built_from _ _ i (instr.Jump w c d (source.Register s) o) e (refl, refl)
built_is (mnemonic.Jump w c) (operand.Register d ∷ operand.Imm z ∷ operand.Offset o ∷ []) i e =
    built_from _ _ i (instr.Jump w c d (source.Imm z) o) e (refl, refl)
built_is mnemonic.Ja (operand.Offset o ∷ []) i e = built_from _ _ i (instr.Ja o) e (refl, refl)
built_is mnemonic.JaLong (operand.LongOffset o ∷ []) i e = built_from _ _ i (instr.JaLong o) e (refl, refl)
built_is mnemonic.CallHelper (operand.Imm k ∷ []) i e = built_from _ _ i (instr.CallHelper k) e (refl, refl)
built_is mnemonic.CallLocal (operand.LongOffset o ∷ []) i e = built_from _ _ i (instr.CallLocal o) e (refl, refl)
built_is mnemonic.Exit [] i e = built_from _ _ i instr.Exit e (refl, refl)
built_is (mnemonic.Load z) (operand.Register d ∷ operand.Memory s o ∷ []) i e = built_from _ _ i (instr.Load z d s o) e (refl, refl)
built_is (mnemonic.LoadSigned z) (operand.Register d ∷ operand.Memory s o ∷ []) i e = built_from _ _ i (instr.LoadSigned z d s o) e (refl, refl)
built_is (mnemonic.StoreImm z) (operand.Memory d o ∷ operand.Imm k ∷ []) i e = built_from _ _ i (instr.Store z d (source.Imm k) o) e (refl, refl)
built_is (mnemonic.StoreRegister z) (operand.Memory d o ∷ operand.Register s ∷ []) i e = built_from _ _ i (instr.Store z d (source.Register s) o) e (refl, refl)
built_is (mnemonic.Atomic w op) (operand.Memory d o ∷ operand.Register s ∷ []) i e = built_from _ _ i (instr.Atomic w op d s o) e (refl, refl)
built_is mnemonic.LoadImm64 (operand.Register d ∷ operand.Imm64 v ∷ []) i e = built_from _ _ i (instr.LoadImm64 d v) e (refl, refl)
built_is _ _ i e = absurd (cc e)

pub built_again : (i : Instr) → instr_of_parts (mnemonic_of i) (operands_of i) ≡ Some i
built_again (instr.Alu w op d (source.Register s)) = refl
built_again (instr.Alu w op d (source.Imm z)) = refl
built_again (instr.Jump w c d (source.Register s) o) = refl
built_again (instr.Jump w c d (source.Imm z) o) = refl
built_again (instr.Store z d (source.Imm k) o) = refl
built_again (instr.Store z d (source.Register s) o) = refl
built_again _ = refl

pub operands_sorted : (i : Instr) → of_sorts (sorts (mnemonic_of i)) (operands_of i) ≡ true
operands_sorted i = sym (built_exactly (mnemonic_of i) (operands_of i)) ∙ ap is_some (built_again i)

-- ---- each mnemonic of one word is found by its name

pub named_name : (m : Mnemonic) → has_two_words m ≡ false → named (name m) ≡ Some m
unfolding named
named_name mnemonic.CallLocal h = absurd (cc h)
named_name (mnemonic.Alu width.W64 binary.Add) h = refl
named_name (mnemonic.Alu width.W32 binary.Add) h = refl
named_name (mnemonic.Alu width.W64 binary.And) h = refl
named_name (mnemonic.Alu width.W32 binary.And) h = refl
named_name (mnemonic.Alu width.W64 binary.Arsh) h = refl
named_name (mnemonic.Alu width.W32 binary.Arsh) h = refl
named_name (mnemonic.Alu width.W64 binary.Div) h = refl
named_name (mnemonic.Alu width.W32 binary.Div) h = refl
named_name (mnemonic.Alu width.W64 binary.Lsh) h = refl
named_name (mnemonic.Alu width.W32 binary.Lsh) h = refl
named_name (mnemonic.Alu width.W64 binary.Mod) h = refl
named_name (mnemonic.Alu width.W32 binary.Mod) h = refl
named_name (mnemonic.Alu width.W64 binary.Mov) h = refl
named_name (mnemonic.Alu width.W32 binary.Mov) h = refl
named_name (mnemonic.Alu width.W64 binary.Mul) h = refl
named_name (mnemonic.Alu width.W32 binary.Mul) h = refl
named_name (mnemonic.Alu width.W64 binary.Or) h = refl
named_name (mnemonic.Alu width.W32 binary.Or) h = refl
named_name (mnemonic.Alu width.W64 binary.Rsh) h = refl
named_name (mnemonic.Alu width.W32 binary.Rsh) h = refl
named_name (mnemonic.Alu width.W64 binary.SDiv) h = refl
named_name (mnemonic.Alu width.W32 binary.SDiv) h = refl
named_name (mnemonic.Alu width.W64 binary.SMod) h = refl
named_name (mnemonic.Alu width.W32 binary.SMod) h = refl
named_name (mnemonic.Alu width.W64 binary.Sub) h = refl
named_name (mnemonic.Alu width.W32 binary.Sub) h = refl
named_name (mnemonic.Alu width.W64 binary.Xor) h = refl
named_name (mnemonic.Alu width.W32 binary.Xor) h = refl
named_name (mnemonic.Neg width.W64) h = refl
named_name (mnemonic.Neg width.W32) h = refl
named_name (mnemonic.MovSx8 width.W64) h = refl
named_name (mnemonic.MovSx8 width.W32) h = refl
named_name (mnemonic.MovSx16 width.W64) h = refl
named_name (mnemonic.MovSx16 width.W32) h = refl
named_name mnemonic.MovSx32 h = refl
named_name (mnemonic.End order.Big swap.W16) h = refl
named_name (mnemonic.End order.Big swap.W32) h = refl
named_name (mnemonic.End order.Big swap.W64) h = refl
named_name (mnemonic.End order.Swapped swap.W16) h = refl
named_name (mnemonic.End order.Swapped swap.W32) h = refl
named_name (mnemonic.End order.Swapped swap.W64) h = refl
named_name (mnemonic.End order.Little swap.W16) h = refl
named_name (mnemonic.End order.Little swap.W32) h = refl
named_name (mnemonic.End order.Little swap.W64) h = refl
named_name (mnemonic.Jump width.W64 condition.Eq) h = refl
named_name (mnemonic.Jump width.W32 condition.Eq) h = refl
named_name (mnemonic.Jump width.W64 condition.Ge) h = refl
named_name (mnemonic.Jump width.W32 condition.Ge) h = refl
named_name (mnemonic.Jump width.W64 condition.Gt) h = refl
named_name (mnemonic.Jump width.W32 condition.Gt) h = refl
named_name (mnemonic.Jump width.W64 condition.Le) h = refl
named_name (mnemonic.Jump width.W32 condition.Le) h = refl
named_name (mnemonic.Jump width.W64 condition.Lt) h = refl
named_name (mnemonic.Jump width.W32 condition.Lt) h = refl
named_name (mnemonic.Jump width.W64 condition.Ne) h = refl
named_name (mnemonic.Jump width.W32 condition.Ne) h = refl
named_name (mnemonic.Jump width.W64 condition.Set) h = refl
named_name (mnemonic.Jump width.W32 condition.Set) h = refl
named_name (mnemonic.Jump width.W64 condition.SGe) h = refl
named_name (mnemonic.Jump width.W32 condition.SGe) h = refl
named_name (mnemonic.Jump width.W64 condition.SGt) h = refl
named_name (mnemonic.Jump width.W32 condition.SGt) h = refl
named_name (mnemonic.Jump width.W64 condition.SLe) h = refl
named_name (mnemonic.Jump width.W32 condition.SLe) h = refl
named_name (mnemonic.Jump width.W64 condition.SLt) h = refl
named_name (mnemonic.Jump width.W32 condition.SLt) h = refl
named_name mnemonic.Ja h = refl
named_name mnemonic.JaLong h = refl
named_name mnemonic.CallHelper h = refl
named_name mnemonic.Exit h = refl
named_name (mnemonic.Load size.Byte) h = refl
named_name (mnemonic.Load size.Double) h = refl
named_name (mnemonic.Load size.Half) h = refl
named_name (mnemonic.Load size.Word) h = refl
named_name (mnemonic.LoadSigned signed_size.Byte) h = refl
named_name (mnemonic.LoadSigned signed_size.Half) h = refl
named_name (mnemonic.LoadSigned signed_size.Word) h = refl
named_name (mnemonic.StoreImm size.Byte) h = refl
named_name (mnemonic.StoreImm size.Double) h = refl
named_name (mnemonic.StoreImm size.Half) h = refl
named_name (mnemonic.StoreImm size.Word) h = refl
named_name (mnemonic.StoreRegister size.Byte) h = refl
named_name (mnemonic.StoreRegister size.Double) h = refl
named_name (mnemonic.StoreRegister size.Half) h = refl
named_name (mnemonic.StoreRegister size.Word) h = refl
named_name (mnemonic.Atomic width.W64 atomic.Add) h = refl
named_name (mnemonic.Atomic width.W32 atomic.Add) h = refl
named_name (mnemonic.Atomic width.W64 atomic.And) h = refl
named_name (mnemonic.Atomic width.W32 atomic.And) h = refl
named_name (mnemonic.Atomic width.W64 atomic.CompareExchange) h = refl
named_name (mnemonic.Atomic width.W32 atomic.CompareExchange) h = refl
named_name (mnemonic.Atomic width.W64 atomic.FetchAdd) h = refl
named_name (mnemonic.Atomic width.W32 atomic.FetchAdd) h = refl
named_name (mnemonic.Atomic width.W64 atomic.FetchAnd) h = refl
named_name (mnemonic.Atomic width.W32 atomic.FetchAnd) h = refl
named_name (mnemonic.Atomic width.W64 atomic.FetchOr) h = refl
named_name (mnemonic.Atomic width.W32 atomic.FetchOr) h = refl
named_name (mnemonic.Atomic width.W64 atomic.FetchXor) h = refl
named_name (mnemonic.Atomic width.W32 atomic.FetchXor) h = refl
named_name (mnemonic.Atomic width.W64 atomic.Or) h = refl
named_name (mnemonic.Atomic width.W32 atomic.Or) h = refl
named_name (mnemonic.Atomic width.W64 atomic.Exchange) h = refl
named_name (mnemonic.Atomic width.W32 atomic.Exchange) h = refl
named_name (mnemonic.Atomic width.W64 atomic.Xor) h = refl
named_name (mnemonic.Atomic width.W32 atomic.Xor) h = refl
named_name mnemonic.LoadImm64 h = refl
