-- The first words of instructions: their names, and which operands stand after them.
use Rattle.std.specs.Prelude.{ℕ, List, [], ◌∷◌, ◌++◌, codes}
use Rattle.isa_table.specs.declared.instr.AtomicOp.{AtomicOp}
use Rattle.isa_table.specs.declared.instr.AtomicOp.TheVariants as atomic
use Rattle.isa_table.specs.declared.instr.Binary.{Binary}
use Rattle.isa_table.specs.declared.instr.Binary.TheVariants as binary
use Rattle.isa_table.specs.declared.instr.Cond.{Cond}
use Rattle.isa_table.specs.declared.instr.Cond.TheVariants as condition
use Rattle.isa_table.specs.declared.instr.Order.{Order}
use Rattle.isa_table.specs.declared.instr.Order.TheVariants.{Little, Big, Swapped}
use Rattle.isa_table.specs.declared.instr.SignedSize.{SignedSize}
use Rattle.isa_table.specs.declared.instr.SignedSize.TheVariants as signed_size
use Rattle.isa_table.specs.declared.instr.Size.{Size}
use Rattle.isa_table.specs.declared.instr.Size.TheVariants as size
use Rattle.isa_table.specs.declared.instr.SwapWidth.{SwapWidth}
use Rattle.isa_table.specs.declared.instr.SwapWidth.TheVariants as swap
use Rattle.isa_table.specs.declared.instr.Width.{Width}
use Rattle.isa_table.specs.declared.instr.Width.TheVariants as width
use Rattle.asm_table.specs.declared.mnemonic.Mnemonic.{Mnemonic}
use Rattle.asm_table.specs.declared.mnemonic.Mnemonic.TheVariants as mnemonic
use Rattle.asm_table.specs.declared.mnemonic.Sort.{Sort}
use Rattle.asm_table.specs.declared.mnemonic.Sort.TheVariants as sort

-- ---- parts of names

-- the mnemonic of an arithmetic operation of two operands on 64 bits (RFC 9669, section 4.1)
abbrev pub binary_name : Binary → List ℕ
binary_name binary.Add = codes "add"
binary_name binary.Sub = codes "sub"
binary_name binary.Mul = codes "mul"
binary_name binary.Div = codes "div"
binary_name binary.SDiv = codes "sdiv"
binary_name binary.Or = codes "or"
binary_name binary.And = codes "and"
binary_name binary.Lsh = codes "lsh"
binary_name binary.Rsh = codes "rsh"
binary_name binary.Mod = codes "mod"
binary_name binary.SMod = codes "smod"
binary_name binary.Xor = codes "xor"
binary_name binary.Mov = codes "mov"
binary_name binary.Arsh = codes "arsh"

-- the mnemonic of a conditional jump that compares 64 bits (section 4.3)
abbrev pub condition_name : Cond → List ℕ
condition_name condition.Eq = codes "jeq"
condition_name condition.Gt = codes "jgt"
condition_name condition.Ge = codes "jge"
condition_name condition.Set = codes "jset"
condition_name condition.Ne = codes "jne"
condition_name condition.SGt = codes "jsgt"
condition_name condition.SGe = codes "jsge"
condition_name condition.Lt = codes "jlt"
condition_name condition.Le = codes "jle"
condition_name condition.SLt = codes "jslt"
condition_name condition.SLe = codes "jsle"

-- the mnemonic of an atomic operation on 64 bits (section 5.3)
abbrev pub atomic_name : AtomicOp → List ℕ
atomic_name atomic.Add = codes "aadd"
atomic_name atomic.Or = codes "aor"
atomic_name atomic.And = codes "aand"
atomic_name atomic.Xor = codes "axor"
atomic_name atomic.FetchAdd = codes "afadd"
atomic_name atomic.FetchOr = codes "afor"
atomic_name atomic.FetchAnd = codes "afand"
atomic_name atomic.FetchXor = codes "afxor"
atomic_name atomic.Exchange = codes "axchg"
atomic_name atomic.CompareExchange = codes "acmpxchg"

-- the mnemonic of a byte swap, but for how many bits it swaps (section 4.2)
abbrev pub order_name : Order → List ℕ
order_name Little = codes "le"
order_name Big = codes "be"
order_name Swapped = codes "bswap"

-- how many bits a byte swap swaps, at the end of its mnemonic (section 4.2)
abbrev pub bits_name : SwapWidth → List ℕ
bits_name swap.W16 = codes "16"
bits_name swap.W32 = codes "32"
bits_name swap.W64 = codes "64"

-- the size of a load or a store, at the end of its mnemonic (section 5.1)
abbrev pub size_name : Size → List ℕ
size_name size.Byte = codes "b"
size_name size.Half = codes "h"
size_name size.Word = codes "w"
size_name size.Double = codes "dw"

-- the size of a sign-extension load, at the end of its mnemonic (section 5.2)
abbrev pub signed_size_name : SignedSize → List ℕ
signed_size_name signed_size.Byte = codes "b"
signed_size_name signed_size.Half = codes "h"
signed_size_name signed_size.Word = codes "w"

-- the mnemonic of the operation on 64 bits, and with `32` after it that of the operation on 32
abbrev pub in_width : Width → List ℕ → List ℕ
in_width width.W64 word = word
in_width width.W32 word = word ++ codes "32"

-- ---- the mnemonics

-- the text of a mnemonic
abbrev pub name : Mnemonic → List ℕ
name (mnemonic.Alu w op) = in_width w (binary_name op)
name (mnemonic.Neg w) = in_width w (codes "neg")
name (mnemonic.MovSx8 width.W64) = codes "movs8"
name (mnemonic.MovSx8 width.W32) = codes "movs8_32"
name (mnemonic.MovSx16 width.W64) = codes "movs16"
name (mnemonic.MovSx16 width.W32) = codes "movs16_32"
name mnemonic.MovSx32 = codes "movs32"
name (mnemonic.End o w) = order_name o ++ bits_name w
name (mnemonic.Jump w c) = in_width w (condition_name c)
name mnemonic.Ja = codes "ja"
name mnemonic.JaLong = codes "ja32"
name mnemonic.CallHelper = codes "call"
name mnemonic.CallLocal = codes "call local"
name mnemonic.Exit = codes "exit"
name (mnemonic.Load s) = codes "ldx" ++ size_name s
name (mnemonic.LoadSigned s) = codes "ldxs" ++ signed_size_name s
name (mnemonic.StoreImm s) = codes "st" ++ size_name s
name (mnemonic.StoreRegister s) = codes "stx" ++ size_name s
name (mnemonic.Atomic w op) = in_width w (atomic_name op)
name mnemonic.LoadImm64 = codes "lddw"

-- which operands stand after a mnemonic
abbrev pub sorts : Mnemonic → List Sort
sorts (mnemonic.Alu w op) = sort.Register ∷ sort.RegisterOrImm ∷ []
sorts (mnemonic.Neg w) = sort.Register ∷ []
sorts (mnemonic.MovSx8 w) = sort.Register ∷ sort.Register ∷ []
sorts (mnemonic.MovSx16 w) = sort.Register ∷ sort.Register ∷ []
sorts mnemonic.MovSx32 = sort.Register ∷ sort.Register ∷ []
sorts (mnemonic.End o w) = sort.Register ∷ []
sorts (mnemonic.Jump w c) = sort.Register ∷ sort.RegisterOrImm ∷ sort.Target ∷ []
sorts mnemonic.Ja = sort.Target ∷ []
sorts mnemonic.JaLong = sort.LongTarget ∷ []
sorts mnemonic.CallHelper = sort.Imm ∷ []
sorts mnemonic.CallLocal = sort.LongTarget ∷ []
sorts mnemonic.Exit = []
sorts (mnemonic.Load s) = sort.Register ∷ sort.Memory ∷ []
sorts (mnemonic.LoadSigned s) = sort.Register ∷ sort.Memory ∷ []
sorts (mnemonic.StoreImm s) = sort.Memory ∷ sort.Imm ∷ []
sorts (mnemonic.StoreRegister s) = sort.Memory ∷ sort.Register ∷ []
sorts (mnemonic.Atomic w op) = sort.Memory ∷ sort.Register ∷ []
sorts mnemonic.LoadImm64 = sort.Register ∷ sort.Imm64 ∷ []

-- how many slots the instruction of a mnemonic takes
abbrev pub slots_of : Mnemonic → ℕ
slots_of mnemonic.LoadImm64 = 2
slots_of _ = 1
