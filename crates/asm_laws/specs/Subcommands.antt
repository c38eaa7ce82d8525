-- The subcommands `asm` and `dis` are each other's inverse on valid code.
use Rattle.std.specs.Prelude.{◌≡◌, ℕ, false, List, Ok, Err}
use Rattle.isa_table.specs.declared.instr.Instr.{Instr}
use Rattle.asm_table.specs.Canonical.{text_of}
use Rattle.assembler.specs.declared.error.AsmError.{AsmError}
use Rattle.assembler.specs.Spelling.{Spells}
use Rattle.disassembler.specs.TextOf.{IsTextOf}
use Rattle.agent.specs.AsmLeaves.{Assembles, text_of_bytes}
use Rattle.agent.specs.DisLeaves.{Disassembles}
use Rattle.agent.specs.Laws.{showing_as}
use Rattle.agent.specs.declared.failure.Failure.TheVariants.{WrongLine, InputTooLong}

-- What `asm` finds about this text are these bytes: it finds no others, no line that is wrong, and not that it is too long.
pub record IsAssembledTo (text bytes : List ℕ) : Type 0 where
  pub assembles : Assembles text (Ok bytes)
  pub only : (code : List ℕ) → Assembles text (Ok code) → code ≡ bytes
  pub right : (e : AsmError) → Assembles text (Err (WrongLine e)) → ⊥
  pub short : Assembles text (Err InputTooLong) → ⊥

-- `asm` makes of the text of valid code that code again.
abbrev pub TextIsAssembled : Type 0
TextIsAssembled = (bytes text : List ℕ) → IsTextOf bytes text → IsAssembledTo text bytes

-- `dis` makes of what `asm` makes of an input the canonical spelling of what the input spells, where that is valid code.
abbrev pub AssembledIsShown : Type 0
AssembledIsShown = (input code shown : List ℕ) → Assembles input (Ok code) → Disassembles (showing_as false false) code (Ok shown)
    → (instrs : List Instr) × Spells (text_of_bytes input) instrs × (shown ≡ text_of instrs)
