-- The canonical spelling is a text of its instructions.
use Rattle.std.specs.Prelude.{◌≡◌, ◌≤◌, ℕ, List, map, Ok}
use Rattle.std.specs.Str.Lines.{lines}
use Rattle.asm_text.specs.Tokens.{tokens}
use Rattle.isa_table.specs.declared.instr.Instr.{Instr}
use Rattle.asm_table.specs.Canonical.{FitsParts, AllFitParts, parts_slot_count, text_of, line_text}
use Rattle.assembler.specs.Passes.{meaning}
use Rattle.assembler.specs.Spelling.{Spells}

-- The canonical text of instructions spells them, and since a text has one meaning, no others.
abbrev pub CanonicalSpells : Type 0
CanonicalSpells = (code : List Instr) → AllFitParts code → parts_slot_count code ≤ 4096 → meaning (text_of code) ≡ Ok code

-- Instructions with one canonical spelling are equal.
abbrev pub OneSpelling : Type 0
OneSpelling = (i j : Instr) → FitsParts i → FitsParts j → line_text i ≡ line_text j → i ≡ j

-- A text spells one list of instructions at most.
abbrev pub OneMeaning : Type 0
OneMeaning = (text : List ℕ) (code other : List Instr) → Spells text code → Spells text other → code ≡ other

-- Texts whose lines have the same tokens mean the same, or are refused for the same reason.
abbrev pub TokensDecide : Type 0
TokensDecide = (text other : List ℕ) → map tokens (lines text) ≡ map tokens (lines other) → meaning text ≡ meaning other
