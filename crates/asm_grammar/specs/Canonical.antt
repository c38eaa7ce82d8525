-- For private functions and proofs alone: how the canonical spelling writes an operand.
use Rattle.std.specs.Prelude.{zero, suc, pos, negsuc, Some}
use Rattle.asm_table.specs.declared.operands.AsmOperand.{AsmOperand}
use Rattle.asm_table.specs.declared.operands.AsmOperand.TheVariants as operand
use Rattle.asm_table.specs.Names.{register_name}
use Rattle.asm_grammar.specs.declared.written.Sign.TheVariants as sign
use Rattle.asm_grammar.specs.Writing.{Written}
use Rattle.asm_grammar.specs.Writing.Written.{Word, Bare, Signed, Memory, MemoryAt}

-- an operand as the canonical spelling writes it
abbrev pub canonical : AsmOperand → Written
canonical (operand.Register r) = Word (register_name r)
canonical (operand.Imm (pos n)) = Bare (Some n)
canonical (operand.Imm (negsuc n)) = Signed sign.Minus (Some (suc n))
canonical (operand.Memory r (pos zero)) = Memory (register_name r)
canonical (operand.Memory r (pos (suc n))) = MemoryAt (register_name r) sign.Plus (Some (suc n))
canonical (operand.Memory r (negsuc n)) = MemoryAt (register_name r) sign.Minus (Some (suc n))
canonical (operand.Offset (pos n)) = Signed sign.Plus (Some n)
canonical (operand.Offset (negsuc n)) = Signed sign.Minus (Some (suc n))
canonical (operand.LongOffset (pos n)) = Signed sign.Plus (Some n)
canonical (operand.LongOffset (negsuc n)) = Signed sign.Minus (Some (suc n))
canonical (operand.Imm64 k) = Bare (Some k)
