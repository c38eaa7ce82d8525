-- What LLVM writes for each operation and each condition.
use Rattle.std.specs.Prelude.{ℕ, ℤ, pos, negsuc, List, codes}
use Rattle.isa_table.specs.declared.instr.Binary.{Binary}
use Rattle.isa_table.specs.declared.instr.Binary.TheVariants.{Add, Sub, Mul, Div, SDiv, Or, And, Lsh, Rsh, Mod, SMod, Xor, Mov, Arsh}
use Rattle.isa_table.specs.declared.instr.Cond.{Cond}
use Rattle.isa_table.specs.declared.instr.Cond.TheVariants.{Eq, Gt, Ge, Set, Ne, SGt, SGe, Lt, Le, SLt, SLe}
use Rattle.isa_table.specs.declared.instr.Order.{Order}
use Rattle.isa_table.specs.declared.instr.Order.TheVariants.{Little, Big, Swapped}
use Rattle.isa_table.specs.declared.instr.SwapWidth.{SwapWidth}
use Rattle.isa_table.specs.declared.instr.SwapWidth.TheVariants as swap_width
use Rattle.isa_table.specs.declared.instr.Width.{Width}
use Rattle.isa_table.specs.declared.instr.Width.TheVariants.{W32, W64}

-- an arithmetic operation, between its operands
abbrev pub binary_sign : Binary → List ℕ
binary_sign Add = codes " += "
binary_sign Sub = codes " -= "
binary_sign Mul = codes " *= "
binary_sign Div = codes " /= "
binary_sign SDiv = codes " s/= "
binary_sign Or = codes " |= "
binary_sign And = codes " &= "
binary_sign Lsh = codes " <<= "
binary_sign Rsh = codes " >>= "
binary_sign Mod = codes " %= "
binary_sign SMod = codes " s%= "
binary_sign Xor = codes " ^= "
binary_sign Mov = codes " = "
binary_sign Arsh = codes " s>>= "

-- a condition, between its operands
abbrev pub cond_sign : Cond → List ℕ
cond_sign Eq = codes " == "
cond_sign Gt = codes " > "
cond_sign Ge = codes " >= "
cond_sign Set = codes " & "
cond_sign Ne = codes " != "
cond_sign SGt = codes " s> "
cond_sign SGe = codes " s>= "
cond_sign Lt = codes " < "
cond_sign Le = codes " <= "
cond_sign SLt = codes " s< "
cond_sign SLe = codes " s<= "

-- a byte swap's order
abbrev pub order_name : Order → List ℕ
order_name Little = codes "le"
order_name Big = codes "be"
order_name Swapped = codes "bswap"

-- how many bits are swapped
abbrev pub swap_bits : SwapWidth → List ℕ
swap_bits swap_width.W16 = codes "16"
swap_bits swap_width.W32 = codes "32"
swap_bits swap_width.W64 = codes "64"

-- an offset's sign, between a register and a number
abbrev pub offset_sign : ℤ → List ℕ
offset_sign (pos n) = codes " + "
offset_sign (negsuc n) = codes " - "

-- an exchange of all bits, or of 32
abbrev pub exchange_name : Width → List ℕ
exchange_name W64 = codes "xchg_64"
exchange_name W32 = codes "xchg32_32"

-- a compare and exchange of all bits, or of 32
abbrev pub compare_name : Width → List ℕ
compare_name W64 = codes "cmpxchg_64"
compare_name W32 = codes "cmpxchg32_32"
