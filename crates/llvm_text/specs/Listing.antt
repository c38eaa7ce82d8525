-- The lines of valid code.
use Rattle.std.specs.Prelude.{Bool, List, ℕ}
use Rattle.disassembler.specs.TextOf.{HasLines}
use Rattle.llvm_text.specs.Spelling.{llvm_text}

-- the text has a line for each of the instructions that these bytes of valid code are, as llvm-objdump spells it, each after the number of its first slot where slots are asked for
abbrev pub HasLlvmLines : Bool → List ℕ → List ℕ → Type 0
HasLlvmLines has_slots bytes text = HasLines llvm_text has_slots bytes text
