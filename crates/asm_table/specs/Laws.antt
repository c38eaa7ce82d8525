-- What the table says of itself.
use Rattle.std.specs.Prelude.{◌≡◌, ◌↔◌, ℕ, List, false, Some}
use Rattle.isa_table.specs.declared.instr.Instr.{Instr}
use Rattle.isa_table.specs.declared.instr.Reg.{Reg}
use Rattle.asm_table.specs.declared.mnemonic.Mnemonic.{Mnemonic}
use Rattle.asm_table.specs.declared.operands.AsmOperand.{AsmOperand}
use Rattle.asm_table.specs.Mnemonics.{name}
use Rattle.asm_table.specs.Names.{named, has_two_words, register_name, register_named}
use Rattle.asm_table.specs.Parts.{mnemonic_of, operands_of, instr_of_parts}

-- An instruction is built from its own parts, and what is built of parts has them.
abbrev pub PartsAreExact : Type 0
PartsAreExact = (m : Mnemonic) (os : List AsmOperand) (i : Instr) → (instr_of_parts m os ≡ Some i) ↔ ((mnemonic_of i ≡ m) × (operands_of i ≡ os))

-- A mnemonic of one word is found by its own name alone.
abbrev pub NamesAreExact : Type 0
NamesAreExact = (word : List ℕ) (m : Mnemonic) → has_two_words m ≡ false → (named word ≡ Some m) ↔ (word ≡ name m)

-- A register is found by its own name alone.
abbrev pub RegistersAreExact : Type 0
RegistersAreExact = (word : List ℕ) (r : Reg) → (register_named word ≡ Some r) ↔ (word ≡ register_name r)
