-- The grammar of a line: its label, its mnemonic and its operands.
use Rattle.std.specs.Prelude.{◌≡◌, ◌⊎◌, ℕ, Bool, true, false, List, [], ◌∷◌, ◌++◌, codes, Option, Some, None, if◌then◌else◌}
use Rattle.asm_text.specs.Tokens.{Lexeme}
use Rattle.asm_text.specs.Tokens.Lexeme.{Name, Colon, Stray}
use Rattle.isa_table.specs.declared.instr.Instr.{Instr}
use Rattle.asm_table.specs.declared.mnemonic.Mnemonic.{Mnemonic}
use Rattle.asm_table.specs.declared.mnemonic.Mnemonic.TheVariants as mnemonic
use Rattle.asm_table.specs.declared.mnemonic.Sort.{Sort}
use Rattle.asm_table.specs.declared.operands.AsmOperand.{AsmOperand}
use Rattle.asm_table.specs.declared.operands.AsmOperand.TheVariants as operand
use Rattle.asm_table.specs.Mnemonics.{name, sorts}
use Rattle.asm_table.specs.Parts.{mnemonic_of, operands_of}
use Rattle.asm_grammar.specs.Writing.{Written, joined}
use Rattle.asm_grammar.specs.Sorts.{Taken, operand_taken, distance}
use Rattle.asm_grammar.specs.Sorts.Taken.{Is, To, LongTo}

-- ---- a line

-- a line's label, if it has one
abbrev pub label_of : List Lexeme → Option (List ℕ)
label_of (Name w ∷ Colon ∷ ts) = Some w
label_of _ = None

-- what stands after a line's label
abbrev pub after_label : List Lexeme → List Lexeme
after_label (Name w ∷ Colon ∷ ts) = ts
after_label ts = ts

-- a stray byte, which begins no token
abbrev pub is_stray : Lexeme → Bool
is_stray Stray = true
is_stray _ = false

-- one of the tokens is a stray byte
abbrev pub has_stray : List Lexeme → Bool
has_stray [] = false
has_stray (t ∷ ts) = if is_stray t then true else has_stray ts

-- ---- what stands after its label

-- which slot a label stands for
abbrev pub Look : Type 0
Look = List ℕ → Option ℕ

-- what a written operand at slot n is taken as is this operand: itself, or the offset to a label's slot
abbrev pub StandsFor : Look → ℕ → Taken → AsmOperand → Type 0
StandsFor look n (Is p) o = p ≡ o
StandsFor look n (To w) o = (slot : ℕ) × (look w ≡ Some slot) × (operand.Offset (distance slot n) ≡ o)
StandsFor look n (LongTo w) o = (slot : ℕ) × (look w ≡ Some slot) × (operand.LongOffset (distance slot n) ≡ o)
StandsFor look n _ o = ⊥

-- written operands, one for each sort, stand for these operands
abbrev pub Stand : Look → ℕ → List Sort → List Written → List AsmOperand → Type 0
Stand look n [] [] [] = Unit {0}
Stand look n (s ∷ ss) (w ∷ ws) (o ∷ os) = StandsFor look n (operand_taken s w) o × Stand look n ss ws os
Stand look n _ _ _ = ⊥

-- the tokens of a mnemonic
abbrev pub head : Mnemonic → List Lexeme
head mnemonic.CallLocal = Name (codes "call") ∷ Name (codes "local") ∷ []
head m = Name (name m) ∷ []

-- The tokens are the instruction at slot n: its mnemonic, and operands that stand for its own.
abbrev pub Means : Look → ℕ → List Lexeme → Instr → Type 0
Means look n ts i = (ws : List Written) × (ts ≡ head (mnemonic_of i) ++ joined ws) × Stand look n (sorts (mnemonic_of i)) ws (operands_of i)

-- ---- labels that stand nowhere

-- a written operand is taken as the offset to a label, and the label stands nowhere
abbrev pub AimsNowhere : Look → Taken → Type 0
AimsNowhere look (To w) = look w ≡ None
AimsNowhere look (LongTo w) = look w ≡ None
AimsNowhere look _ = ⊥

-- one of the written operands, at its sort, aims at a label that stands nowhere
abbrev pub OneAimsNowhere : Look → List Sort → List Written → Type 0
OneAimsNowhere look (s ∷ ss) (w ∷ ws) = AimsNowhere look (operand_taken s w) ⊎ OneAimsNowhere look ss ws
OneAimsNowhere look _ _ = ⊥

-- The tokens are a mnemonic and operands, one of which aims at a label that stands nowhere.
abbrev pub UsesUnknown : Look → List Lexeme → Type 0
UsesUnknown look ts = (m : Mnemonic) × (ws : List Written) × (ts ≡ head m ++ joined ws) × OneAimsNowhere look (sorts m) ws
