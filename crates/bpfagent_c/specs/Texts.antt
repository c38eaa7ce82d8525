-- What is found about code and about assembly, without an agent.
use Rattle.std.specs.Prelude.{◌≡◌, ◌⊎◌, ℕ, List, length, Option, None, Some, Result, Ok, Err}
use Rattle.isa_table.specs.declared.instr.Instr.{Instr}
use Rattle.asm_grammar.specs.Reasons.{why_number as text_why_number}
use Rattle.asm_grammar.specs.declared.why.Why.{Why as WrongText}
use Rattle.asm_grammar.specs.declared.why.Why.TheVariants as wrong_text
use Rattle.assembler.specs.Passes.{meaning}
use Rattle.assembler.specs.declared.error.AsmError.{AsmError}
use Rattle.loader.specs.Instructions.{encodings}
use Rattle.loader.specs.ValidCode.{ValidCode, IsAt}
use Rattle.loader.specs.Refusals.{Refuses, why_number}
use Rattle.loader.specs.declared.loading.LoadError.{LoadError}
use Rattle.loader.specs.declared.loading.Why.{Why}
use Rattle.loader.specs.declared.loading.Why.TheVariants as why
use Rattle.debugger.specs.Showing.{IsLineAt}
use Rattle.bpfagent_c.specs.declared.shown.Refusal.{Refusal}
use Rattle.bpfagent_c.specs.declared.texts.WrongLine.{WrongLine}
use Rattle.bpfagent_c.specs.declared.texts.LineError.{LineError}
use Rattle.bpfagent_c.specs.declared.texts.LineError.TheVariants as line_error
use Rattle.bpfagent_c.specs.declared.numbers.TheConstants.{NOMEM, NOSLOT, OK, REFUSED}
use Rattle.bpfagent_c.specs.Codes.{code_of_why, code_of_text}
use Rattle.bpfagent_c.specs.Shown.{over}

-- ---- code

-- the code is valid, or this is wrong with it
abbrev pub Checks : List ℕ → Option LoadError → Type 0
Checks code None = ValidCode code
Checks code (Some e) = Refuses code e.slot e.why

-- its number
abbrev pub code_of_check : Option LoadError → ℕ
code_of_check None = OK
code_of_check (Some e) = code_of_why e.why

-- slot and reason, where the code isn't valid
abbrev pub refused_by : Why → ℕ → Refusal → Refusal
refused_by why.Memory slot old = old
refused_by w slot old = record { slot = slot; reason = why_number w }

-- what is written of it
abbrev pub refusal_of_check : Option LoadError → Refusal → Refusal
refusal_of_check None old = old
refusal_of_check (Some e) old = refused_by e.why e.slot old

-- ---- assembly

-- the code that the text spells, or what is wrong with it
abbrev pub Assembles : List ℕ → Result (List ℕ) AsmError → Type 0
Assembles text (Ok code) = (instrs : List Instr) × (meaning text ≡ Ok instrs) × (code ≡ encodings instrs)
Assembles text (Err e) = (meaning text ≡ Err e) ⊎ (e.why ≡ wrong_text.Memory)

-- its number
abbrev pub code_of_assembly : Result (List ℕ) AsmError → ℕ
code_of_assembly (Ok code) = OK
code_of_assembly (Err e) = code_of_text e.why

-- ---- lines

-- the line of the instruction at a slot of the code, or why there is none
abbrev pub Lines : List ℕ → ℕ → Result (List ℕ) LineError → Type 0
Lines code slot (Ok text) = IsLineAt code slot text
Lines code slot (Err line_error.Refused) = ValidCode code → ⊥
Lines code slot (Err line_error.NoSlot) = ValidCode code × (IsAt code slot → ⊥)
Lines code slot (Err line_error.Memory) = Unit {0}

-- its number
abbrev pub code_of_line : Result (List ℕ) LineError → ℕ
code_of_line (Ok text) = OK
code_of_line (Err line_error.Refused) = REFUSED
code_of_line (Err line_error.NoSlot) = NOSLOT
code_of_line (Err line_error.Memory) = NOMEM

-- ---- what is written of either

-- the bytes that were found, over the first ones
abbrev pub found_over : {E : Type 0} → Result (List ℕ) E → List ℕ → List ℕ
found_over (Ok bytes) old = over bytes old
found_over (Err e) old = old

-- how many they are
abbrev pub found_count : {E : Type 0} → Result (List ℕ) E → ℕ → ℕ
found_count (Ok bytes) old = length bytes
found_count (Err e) old = old

-- line and reason, where the text isn't assembly
abbrev pub wrong_by : WrongText → ℕ → WrongLine → WrongLine
wrong_by wrong_text.Memory line old = old
wrong_by w line old = record { line = line; reason = text_why_number w }

-- what is written of it
abbrev pub wrong_of : Result (List ℕ) AsmError → WrongLine → WrongLine
wrong_of (Ok code) old = old
wrong_of (Err e) old = wrong_by e.why e.line old
