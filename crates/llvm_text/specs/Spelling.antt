-- How llvm-objdump spells an instruction: that of LLVM 19 with `-d --mcpu=v4 --no-print-imm-hex`, without the name of the place to which a jump leads.
use Rattle.std.specs.Prelude.{ℕ, ◌*◌, ℤ, pos, negsuc, suc, List, ◌∷◌, ◌++◌, codes, decimal, unsigned_abs}
use Rattle.std.specs.Fmt.{signed_decimal}
use Rattle.std.specs.Int.{w64, cast_signed}
use Rattle.isa_table.specs.declared.instr.Instr.{Instr}
use Rattle.isa_table.specs.declared.instr.Instr.TheVariants as instr
use Rattle.isa_table.specs.declared.instr.AtomicOp.{AtomicOp}
use Rattle.isa_table.specs.declared.instr.AtomicOp.TheVariants as atomic_op
use Rattle.isa_table.specs.declared.instr.Operand.{Operand}
use Rattle.isa_table.specs.declared.instr.Operand.TheVariants.{Imm, Register}
use Rattle.isa_table.specs.declared.instr.Reg.{Reg}
use Rattle.isa_table.specs.declared.instr.Reg.TheVariants.{R0}
use Rattle.isa_table.specs.declared.instr.Size.{Size}
use Rattle.isa_table.specs.declared.instr.Size.TheVariants as size
use Rattle.isa_table.specs.declared.instr.Width.{Width}
use Rattle.isa_table.specs.declared.instr.Width.TheVariants.{W32, W64}
use Rattle.isa_table.specs.Registers.{register_number}
use Rattle.isa_table.specs.Table.{size_bytes, size_of_signed, size_of_width}
use Rattle.llvm_text.specs.Signs.{binary_sign, cond_sign, order_name, swap_bits, offset_sign, exchange_name, compare_name}

-- ---- operands

-- `r`, or `w` for the low 32 bits
abbrev pub letter : Width → ℕ
letter W64 = 114
letter W32 = 119

-- a register: `r1`, or `w1` for its low 32 bits
abbrev pub register_text : Width → Reg → List ℕ
register_text w r = letter w ∷ decimal (register_number r)

-- the second operand: a number, or a register
abbrev pub second_text : Width → Operand → List ℕ
second_text w (Imm z) = signed_decimal z
second_text w (Register r) = register_text w r

-- where a jump leads, with a sign in any case: `+3`, `-2`
abbrev pub target_text : ℤ → List ℕ
target_text (pos n) = 43 ∷ decimal n
target_text (negsuc n) = 45 ∷ decimal (suc n)

-- a place in memory: `r2 + 6`, `r10 - 4`
abbrev pub place_text : Reg → ℤ → List ℕ
place_text r o = register_text W64 r ++ offset_sign o ++ decimal (unsigned_abs o)

-- a number of that size at a place, `u` or `s` with its sign: `(u16 *)(r2 + 6)`
abbrev pub pointer_text : ℕ → Size → Reg → ℤ → List ℕ
pointer_text kind z r o = 40 ∷ kind ∷ (decimal (8 * size_bytes z) ++ codes " *)(" ++ place_text r o ++ codes ")")

-- whether the register that a load writes or a store reads is named by all its bits: with eight bytes
abbrev pub moved_width : Size → Width
moved_width size.Double = W64
moved_width _ = W32

-- ---- atomic operations

-- `lock *(u64 *)(r1 + 8) += r5`
abbrev pub locked_text : List ℕ → Width → Reg → Reg → ℤ → List ℕ
locked_text sign w d s o = codes "lock *" ++ pointer_text 117 (size_of_width w) d o ++ sign ++ register_text w s

-- a register's new value, up to the first operand that it is made of: `r9 = atomic_fetch_add(`
abbrev pub called_text : Width → Reg → List ℕ → List ℕ
called_text w r name = register_text w r ++ codes " = " ++ name ++ codes "("

-- the last operand: `, r9)`
abbrev pub last_text : Width → Reg → List ℕ
last_text w r = codes ", " ++ register_text w r ++ codes ")"

-- `r9 = atomic_fetch_add((u64 *)(r5 + 16), r9)`
abbrev pub fetched_text : List ℕ → Width → Reg → Reg → ℤ → List ℕ
fetched_text name w d s o = called_text w s name ++ pointer_text 117 (size_of_width w) d o ++ last_text w s

-- `r3 = xchg_64(r0 + 0, r3)`
abbrev pub exchanged_text : Width → Reg → Reg → ℤ → List ℕ
exchanged_text w d s o = called_text w s (exchange_name w) ++ place_text d o ++ last_text w s

-- `r0 = cmpxchg_64(r1 + 8, r0, r4)`
abbrev pub compared_text : Width → Reg → Reg → ℤ → List ℕ
compared_text w d s o = called_text w R0 (compare_name w) ++ place_text d o ++ codes ", " ++ register_text w R0 ++ last_text w s

-- an atomic operation
abbrev pub atomic_text : Width → AtomicOp → Reg → Reg → ℤ → List ℕ
atomic_text w atomic_op.Add d s o = locked_text (codes " += ") w d s o
atomic_text w atomic_op.Or d s o = locked_text (codes " |= ") w d s o
atomic_text w atomic_op.And d s o = locked_text (codes " &= ") w d s o
atomic_text w atomic_op.Xor d s o = locked_text (codes " ^= ") w d s o
atomic_text w atomic_op.FetchAdd d s o = fetched_text (codes "atomic_fetch_add") w d s o
atomic_text w atomic_op.FetchOr d s o = fetched_text (codes "atomic_fetch_or") w d s o
atomic_text w atomic_op.FetchAnd d s o = fetched_text (codes "atomic_fetch_and") w d s o
atomic_text w atomic_op.FetchXor d s o = fetched_text (codes "atomic_fetch_xor") w d s o
atomic_text w atomic_op.Exchange d s o = exchanged_text w d s o
atomic_text w atomic_op.CompareExchange d s o = compared_text w d s o

-- ---- the table: each row with its operands

-- an instruction
abbrev pub llvm_text : Instr → List ℕ
llvm_text (instr.Alu w op d s) = register_text w d ++ binary_sign op ++ second_text w s
llvm_text (instr.Neg w d) = register_text w d ++ codes " = -" ++ register_text w d
llvm_text (instr.MovSx8 w d s) = register_text w d ++ codes " = (s8)" ++ register_text w s
llvm_text (instr.MovSx16 w d s) = register_text w d ++ codes " = (s16)" ++ register_text w s
llvm_text (instr.MovSx32 d s) = register_text W64 d ++ codes " = (s32)" ++ register_text W64 s
llvm_text (instr.End order w d) = register_text W64 d ++ codes " = " ++ order_name order ++ swap_bits w ++ codes " " ++ register_text W64 d
llvm_text (instr.Jump w c d s o) = codes "if " ++ register_text w d ++ cond_sign c ++ second_text w s ++ codes " goto " ++ target_text o
llvm_text (instr.Ja o) = codes "goto " ++ target_text o
llvm_text (instr.JaLong o) = codes "gotol " ++ target_text o
llvm_text (instr.CallHelper k) = codes "call " ++ signed_decimal k
llvm_text (instr.CallLocal o) = codes "call " ++ signed_decimal o
llvm_text instr.Exit = codes "exit"
llvm_text (instr.Load z d s o) = register_text (moved_width z) d ++ codes " = *" ++ pointer_text 117 z s o
llvm_text (instr.LoadSigned z d s o) = register_text W64 d ++ codes " = *" ++ pointer_text 115 (size_of_signed z) s o
llvm_text (instr.Store z d s o) = codes "*" ++ pointer_text 117 z d o ++ codes " = " ++ second_text (moved_width z) s
llvm_text (instr.Atomic w op d s o) = atomic_text w op d s o
llvm_text (instr.LoadImm64 d v) = register_text W64 d ++ codes " = " ++ signed_decimal (cast_signed w64 v) ++ codes " ll"
