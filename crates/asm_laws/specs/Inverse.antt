-- Assembler and disassembler are each other's inverse on valid code.
use Rattle.std.specs.Prelude.{◌≡◌, ◌<◌, ◌≤◌, ◌^◌, ℕ, List, length, All, Ok}
use Rattle.isa_table.specs.declared.instr.Instr.{Instr}
use Rattle.loader.specs.Instructions.{encodings}
use Rattle.loader.specs.ValidCode.{IsCode}
use Rattle.asm_table.specs.Canonical.{text_of}
use Rattle.assembler.specs.Passes.{meaning}
use Rattle.assembler.specs.Spelling.{Spells}
use Rattle.disassembler.specs.TextOf.{IsTextOf}

-- The text of valid code means the instructions that the code is.
abbrev pub TextMeansCode : Type 0
TextMeansCode = (bytes text : List ℕ) (code : List Instr) → IsTextOf bytes text → IsCode bytes code → meaning text ≡ Ok code

-- The text of valid code is ASCII, and at most 2^20 bytes long.
abbrev pub TextFits : Type 0
TextFits = (bytes text : List ℕ) → IsTextOf bytes text → (length text ≤ 2 ^ 20) × All (λ b. b < 128) text

-- Where a text spells instructions whose bytes are valid code, the text of that code is their canonical spelling.
abbrev pub SpelledIsShown : Type 0
SpelledIsShown = (text shown : List ℕ) (code : List Instr) → Spells text code → IsTextOf (encodings code) shown → shown ≡ text_of code
