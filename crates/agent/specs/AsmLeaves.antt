-- What is said of a text, and what `asm` leaves in its streams.
use Rattle.std.specs.Prelude.{◌≡◌, ◌<◌, ◌≤◌, ℕ, ◌+◌, nat_lt, if◌then◌else◌, ⊤, List, [], ◌∷◌, ◌++◌, length, Option, Result, Ok, Err}
use Rattle.isa_table.specs.declared.instr.Instr.{Instr}
use Rattle.loader.specs.Instructions.{encodings}
use Rattle.assembler.specs.Passes.{meaning}
use Rattle.agent.specs.Leaves.{Leaves}
use Rattle.agent.specs.declared.failure.Failure.{Failure}
use Rattle.agent.specs.declared.failure.Failure.TheVariants.{Refused, WrongLine, InputTooLong, Read, Write, NoMemory}

-- the greatest text, in bytes
abbrev pub text_limit : ℕ
text_limit = 1048576

-- as much as is read: the longest text, and one byte more, which shows that there is more
abbrev pub asm_limit : ℕ
asm_limit = text_limit + 1

-- the character of a byte, in UTF-8: a byte above 127 stands for U+0080, which begins no token
abbrev pub char_text : ℕ → List ℕ
char_text b = if nat_lt b 128 then b ∷ [] else 0xc2 ∷ 0x80 ∷ []

-- the text that the bytes are
abbrev pub text_of_bytes : List ℕ → List ℕ
text_of_bytes [] = []
text_of_bytes (b ∷ bytes) = char_text b ++ text_of_bytes bytes

-- what is found about this input: the code that it spells, else the line in which something is wrong, or that it is too long
abbrev pub Assembles : List ℕ → Result (List ℕ) Failure → Type 0
Assembles input (Ok code) = (length input ≤ text_limit) × (instrs : List Instr) × (meaning (text_of_bytes input) ≡ Ok instrs) × (code ≡ encodings instrs)
Assembles input (Err (WrongLine error)) = (length input ≤ text_limit) × (meaning (text_of_bytes input) ≡ Err error)
Assembles input (Err InputTooLong) = text_limit < length input
Assembles input (Err NoMemory) = Unit {0}
Assembles input (Err Read) = Unit {0}
Assembles input (Err (Refused error)) = ⊥
Assembles input (Err Write) = ⊥

-- What `asm` leaves in the output: the code that the input spells, or nothing where it spells none.
abbrev pub AsmLeaves : List ℕ → Option (List ℕ) → Option (List ℕ) → Result ⊤ Failure → Type 0
AsmLeaves input before after outcome = Leaves (Assembles input) before after outcome
