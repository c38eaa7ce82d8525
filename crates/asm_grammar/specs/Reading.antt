-- How a line is read, with the reasons against it: which instruction its tokens are, or the least of what is wrong.
use Rattle.std.specs.Prelude.{ℕ, ℤ, pos, Bool, true, false, List, [], ◌∷◌, ◌++◌, codes, Option, Some, None, option_and_then, if◌then◌else◌, Result, Ok, Err}
use Rattle.std.specs.Str.{bytes_eq}
use Rattle.asm_text.specs.Tokens.{Lexeme}
use Rattle.asm_text.specs.Tokens.Lexeme.{Name, Comma}
use Rattle.isa_table.specs.declared.instr.Instr.{Instr}
use Rattle.asm_table.specs.declared.mnemonic.Mnemonic.{Mnemonic}
use Rattle.asm_table.specs.declared.mnemonic.Mnemonic.TheVariants as mnemonic
use Rattle.asm_table.specs.declared.mnemonic.Sort.{Sort}
use Rattle.asm_table.specs.declared.operands.AsmOperand.{AsmOperand}
use Rattle.asm_table.specs.declared.operands.AsmOperand.TheVariants as operand
use Rattle.asm_table.specs.Mnemonics.{sorts, slots_of}
use Rattle.asm_table.specs.Names.{named}
use Rattle.asm_table.specs.Parts.{instr_of_parts}
use Rattle.asm_grammar.specs.declared.why.Why.{Why}
use Rattle.asm_grammar.specs.declared.why.Why.TheVariants as why
use Rattle.asm_grammar.specs.Writing.{Written, operand_at}
use Rattle.asm_grammar.specs.Sorts.{Taken, operand_taken, distance}
use Rattle.asm_grammar.specs.Sorts.Taken.{No, Out, Is, To, LongTo}
use Rattle.asm_grammar.specs.Grammar.{Look, after_label, has_stray}

-- ---- operands

-- what was read so far: operands, whether a number was out of its range, and whether a label stands nowhere
pub record Gathered : Type 0 where
  pub operands : List AsmOperand
  pub out : Bool
  pub unknown : Bool

-- nothing was read yet
abbrev pub nothing : Gathered
nothing = record { operands = []; out = false; unknown = false }

-- with the offset to a label's slot; the offset is 0 where the label stands nowhere, and that is noted
abbrev pub aimed : (ℤ → AsmOperand) → ℕ → Gathered → Option ℕ → Gathered
aimed f n g None = record { operands = g.operands ++ f (pos 0) ∷ []; out = g.out; unknown = true }
aimed f n g (Some slot) = record { operands = g.operands ++ f (distance slot n) ∷ []; out = g.out; unknown = g.unknown }

-- what was read, with one more operand as it is taken; nothing where it isn't taken at all
abbrev pub added : Look → ℕ → Gathered → Taken → Option Gathered
added look n g No = None
added look n g Out = Some (record { operands = g.operands; out = true; unknown = g.unknown })
added look n g (Is o) = Some (record { operands = g.operands ++ o ∷ []; out = g.out; unknown = g.unknown })
added look n g (To w) = Some (aimed (λ z. operand.Offset z) n g (look w))
added look n g (LongTo w) = Some (aimed (λ z. operand.LongOffset z) n g (look w))

-- the operand at the front, after a comma unless it is the first
abbrev pub next_operand : Bool → List Lexeme → Option (Written × List Lexeme)
next_operand true ts = operand_at ts
next_operand false (Comma ∷ ts) = operand_at ts
next_operand false _ = None

-- what was read, with the operand at the front, and the tokens after it; nothing where it isn't one of the sort
unfoldable pub step : Look → ℕ → Bool → Gathered → Sort → List Lexeme → Option (Gathered × List Lexeme)
step look n first g s ts = option_and_then (λ (x : Written
    × List Lexeme). option_and_then (λ (h : Gathered). Some (h, x.1)) (added look n g (operand_taken s x.0))) (next_operand first ts)

-- What was read once operands of these sorts are read, up to the last token; nothing where one is missing or isn't of
-- its sort, or where something stands after them.
abbrev pub gather_operands : Look → ℕ → Bool → Gathered → List Sort → List Lexeme → Option Gathered
gather_operands look n first g [] [] = Some g
gather_operands look n first g [] (t ∷ ts) = None
gather_operands look n first g (s ∷ ss) ts =
    option_and_then (λ (x : Gathered × List Lexeme). gather_operands look n false x.0 ss x.1) (step look n first g s ts)

-- the instruction; Operand where there is none, and Label where a label stands nowhere
abbrev pub judged : Bool → Option Instr → Result Instr Why
judged unknown None = Err why.Operand
judged true (Some i) = Err why.Label
judged false (Some i) = Ok i

-- the instruction, or the least of the reasons Operand, Range and Label against what was gathered
abbrev pub finished : Mnemonic → Option Gathered → Result Instr Why
finished m None = Err why.Operand
finished m (Some g) = if g.out then Err why.Range else judged g.unknown (instr_of_parts m g.operands)

-- ---- the mnemonic at the front, and the tokens after it

-- after `call`: a program-local function where `local` is next, else a helper function
abbrev pub after_call : List Lexeme → Mnemonic × List Lexeme
after_call (Name w ∷ ts) = if bytes_eq w (codes "local") then (mnemonic.CallLocal, ts) else (mnemonic.CallHelper, Name w ∷ ts)
after_call ts = (mnemonic.CallHelper, ts)

-- the mnemonic that the first word named, and the tokens after it; `local` after `call` belongs to the mnemonic
abbrev pub headed : Option Mnemonic → List Lexeme → Option (Mnemonic × List Lexeme)
headed None ts = None
headed (Some mnemonic.CallHelper) ts = Some (after_call ts)
headed (Some m) ts = Some (m, ts)

-- the mnemonic at the front, and the tokens after it
abbrev pub mnemonic_at : List Lexeme → Option (Mnemonic × List Lexeme)
mnemonic_at (Name w ∷ ts) = headed (named w) ts
mnemonic_at _ = None

-- ---- a line

-- what a line with an instruction says: that instruction, or the reason against it
abbrev pub said : Result Instr Why → Result (Option Instr) Why
said (Ok i) = Ok (Some i)
said (Err w) = Err w

-- what a line says after its mnemonic was looked for: Word where there is none, else what its operands make of it
abbrev pub by_mnemonic : Look → ℕ → Option (Mnemonic × List Lexeme) → Result (Option Instr) Why
by_mnemonic look n None = Err why.Word
by_mnemonic look n (Some x) = said (finished x.0 (gather_operands look n true nothing (sorts x.0) x.1))

-- What the tokens after a line's label say at slot n: an instruction, nothing where there are none, or the least reason
-- against them.
abbrev pub body : Look → ℕ → List Lexeme → Result (Option Instr) Why
body look n [] = Ok None
body look n (t ∷ ts) = by_mnemonic look n (mnemonic_at (t ∷ ts))

-- What the tokens of a line say at slot n, or the least of the reasons Word, Operand, Range and Label against them.
abbrev pub line_says : Look → ℕ → List Lexeme → Result (Option Instr) Why
line_says look n ts = if has_stray ts then Err why.Word else body look n (after_label ts)

-- how many slots the instruction of a mnemonic takes; 0 where there is no mnemonic
abbrev pub mnemonic_slots : Option (Mnemonic × List Lexeme) → ℕ
mnemonic_slots None = 0
mnemonic_slots (Some x) = slots_of x.0

-- how many slots the instruction of these tokens takes
abbrev pub body_slots : List Lexeme → ℕ
body_slots ts = mnemonic_slots (mnemonic_at ts)

-- what is wrong with the line by itself: Word, Operand or Range
abbrev pub fault_of : Result (Option Instr) Why → Option Why
fault_of (Ok i) = None
fault_of (Err why.Label) = None
fault_of (Err w) = Some w
