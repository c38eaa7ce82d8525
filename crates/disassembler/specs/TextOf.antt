-- The text of valid code, and its lines in any spelling.
use Rattle.std.specs.Prelude.{◌≡◌, ℕ, ◌+◌, Bool, true, false, List, [], ◌∷◌, ◌++◌, codes, decimal}
use Rattle.isa_table.specs.declared.instr.Instr.{Instr}
use Rattle.isa_table.specs.Slots.{slots}
use Rattle.loader.specs.ValidCode.{IsCode}
use Rattle.asm_table.specs.Canonical.{line_text, text_of}

-- the text is the canonical spelling of the instructions that these bytes of valid code are
abbrev pub IsTextOf : List ℕ → List ℕ → Type 0
IsTextOf bytes text = (code : List Instr) × IsCode bytes code × (text ≡ text_of code)

-- what stands before the line of the instruction at this slot, where slots are asked for
abbrev pub slot_mark : Bool → ℕ → List ℕ
slot_mark false slot = []
slot_mark true slot = decimal slot ++ codes ": "

-- the line of the instruction at this slot in this spelling, with its line end
abbrev pub shown_line : (Instr → List ℕ) → Bool → ℕ → Instr → List ℕ
shown_line spelled has_slots slot i = slot_mark has_slots slot ++ spelled i ++ 10 ∷ []

-- the lines of instructions in this spelling, the first of which is at this slot
abbrev pub lines_from : (Instr → List ℕ) → Bool → ℕ → List Instr → List ℕ
lines_from spelled has_slots slot [] = []
lines_from spelled has_slots slot (i ∷ is) = shown_line spelled has_slots slot i ++ lines_from spelled has_slots (slot + slots i) is

-- the text has a line in this spelling for each of the instructions that these bytes of valid code are, each after the number of its first slot where slots are asked for
abbrev pub HasLines : (Instr → List ℕ) → Bool → List ℕ → List ℕ → Type 0
HasLines spelled has_slots bytes text = (code : List Instr) × IsCode bytes code × (text ≡ lines_from spelled has_slots 0 code)

-- the code is shown by this text: the canonical one, or with slots
abbrev pub IsShownAs : Bool → List ℕ → List ℕ → Type 0
IsShownAs false bytes text = IsTextOf bytes text
IsShownAs true bytes text = HasLines line_text true bytes text
