-- The labels of a text, the instructions of its lines, and the least of what is wrong.
use Rattle.std.specs.Prelude.{◌≡◌, ◌+◌, ℕ, Bool, false, cond, nat_lt, List, [], ◌∷◌, ◌++◌, ◌⊎◌, Option, Some, None, is_some, if◌then◌else◌, Result, Ok, Err}
use Rattle.std.specs.Str.{bytes_eq}
use Rattle.std.specs.Str.Lines.{lines}
use Rattle.asm_text.specs.Tokens.{Lexeme, tokens}
use Rattle.isa_table.specs.declared.instr.Instr.{Instr}
use Rattle.asm_grammar.specs.declared.why.Why.{Why}
use Rattle.asm_grammar.specs.declared.why.Why.TheVariants as why
use Rattle.asm_grammar.specs.Grammar.{Look, label_of, after_label}
use Rattle.asm_grammar.specs.Reading.{line_says, body_slots, fault_of}
use Rattle.assembler.specs.declared.error.AsmError.{AsmError}

-- no label is known
abbrev pub nowhere : Look
nowhere name = None

-- the labels, with this one, if there is one, for slot n
abbrev pub with_label : Look → Option (List ℕ) → ℕ → Look
with_label look None n name = look name
with_label look (Some label) n name = cond (bytes_eq label name) (Some n) (look name)

-- how many slots the instruction of a line takes, 0 where it has none
abbrev pub slots_in : List Lexeme → ℕ
slots_in ts = body_slots (after_label ts)

-- ---- what is wrong with a line: the first of these that holds, in the order of their numbers

-- the line has a label that is among these already
abbrev pub is_twice : Look → Option (List ℕ) → Bool
is_twice look None = false
is_twice look (Some label) = is_some (look label)

-- the first, or the other where there is none
abbrev pub or_else : Option Why → Option Why → Option Why
or_else None w = w
or_else (Some v) w = Some v

-- the least of what is wrong with a line at slot n, before which these labels stand
abbrev pub wrong : Look → ℕ → List Lexeme → Option Why
wrong look n ts = or_else (fault_of (line_says look n ts)) (if is_twice look (label_of ts) then Some why.TwiceLabel
    else (if nat_lt 4096 (n + slots_in ts) then Some why.TooLong else None))

-- ---- the two passes

-- line k is refused for this reason
abbrev pub refused : ℕ → Why → AsmError
refused k w = record { line = k; why = w }

-- the result, unless something is wrong with line k
abbrev pub unless_wrong : {A : Type 0} → Option Why → ℕ → Result A AsmError → Result A AsmError
unless_wrong None k r = r
unless_wrong (Some w) k r = Err (refused k w)

-- Which slot each label of these lines stands for, or the first line in which something is wrong. The first line has
-- number k and stands at slot n; `look` has the labels before it.
abbrev pub outlined : ℕ → Look → ℕ → List (List ℕ) → Result Look AsmError
outlined k look n [] = Ok look
outlined k look n (line ∷ lines) = unless_wrong (wrong look n (tokens line)) k
    (outlined (k + 1) (with_label look (label_of (tokens line)) n) (n + slots_in (tokens line)) lines)

-- the function of a result; what is wrong stays
abbrev pub onto : {A B : Type 0} → (A → B) → Result A AsmError → Result B AsmError
onto f (Ok x) = Ok (f x)
onto f (Err e) = Err e

-- the instruction that line k says, if any, and those of the lines after it; what is wrong with line k comes first
abbrev pub with_said : Result (Option Instr) Why → ℕ → Result (List Instr) AsmError → Result (List Instr) AsmError
with_said (Ok None) k r = r
with_said (Ok (Some i)) k r = onto (λ is. i ∷ is) r
with_said (Err w) k r = Err (refused k w)

-- the instructions, and this one, if there is one, after them
abbrev pub with_instr : Option Instr → List Instr → List Instr
with_instr None code = code
with_instr (Some i) code = code ++ i ∷ []

-- The instructions of these lines under all labels, or the first line in which something is wrong. The first line has
-- number k and stands at slot n.
abbrev pub assembled : ℕ → Look → ℕ → List (List ℕ) → Result (List Instr) AsmError
assembled k look n [] = Ok []
assembled k look n (line ∷ lines) = with_said (line_says look n (tokens line)) k (assembled (k + 1) look (n + slots_in (tokens line)) lines)

-- the instructions of the lines under the labels that the first pass found, or what it found wrong
abbrev pub under : Result Look AsmError → List (List ℕ) → Result (List Instr) AsmError
under (Ok look) lines = assembled 1 look 0 lines
under (Err e) lines = Err e

-- what a text is: its instructions, or what is wrong
abbrev pub meaning : List ℕ → Result (List Instr) AsmError
meaning text = under (outlined 1 nowhere 0 (lines text)) (lines text)

-- what a call may answer
abbrev pub Gives : {A B : Type 0} → (A → B) → Result A AsmError → Result B AsmError → Type 0
Gives view (Ok x) r = r ≡ Ok (view x)
Gives view (Err e) r = (r ≡ Err e) ⊎ (e ≡ refused 0 why.Memory)
