-- Which text spells which instructions.
use Rattle.std.specs.Prelude.{◌≡◌, ◌≤◌, ◌+◌, ◌⊎◌, ℕ, false, List, [], ◌∷◌, Ok, Err, ◌↔◌}
use Rattle.std.specs.Str.Lines.{lines}
use Rattle.asm_text.specs.Tokens.{Lexeme, tokens}
use Rattle.isa_table.specs.declared.instr.Instr.{Instr}
use Rattle.asm_grammar.specs.declared.why.Why.TheVariants as why
use Rattle.asm_grammar.specs.Grammar.{Look, Means, label_of, after_label, has_stray, UsesUnknown}
use Rattle.assembler.specs.declared.error.AsmError.{AsmError}
use Rattle.assembler.specs.Passes.{meaning, nowhere, with_label, slots_in, is_twice, outlined}

-- What a line says at slot n under all labels, and what the lines after it say.
abbrev pub SaysThen : Look → ℕ → List Lexeme → List Instr → (List Instr → Type 0) → Type 0
SaysThen look n ts code goes =
    ((after_label ts ≡ []) × goes code) ⊎
    ((i : Instr) × (is : List Instr) × (code ≡ i ∷ is) × Means look n (after_label ts) i × goes is)

-- The lines say the instructions, where the first line stands at slot n. `before` has the labels that stand before it,
-- and `look` all of them; no label stands twice, and no instruction uses a slot past 4095.
abbrev pub LinesSay : Look → Look → ℕ → List (List ℕ) → List Instr → Type 0
LinesSay look before n [] code = (before ≡ look) × (code ≡ [])
LinesSay look before n (line ∷ lines) code =
    (has_stray (tokens line) ≡ false)
    × (is_twice before (label_of (tokens line)) ≡ false)
    × (n + slots_in (tokens line) ≤ 4096)
    × SaysThen look n (tokens line) code (λ is. LinesSay look (with_label before (label_of (tokens line)) n) (n + slots_in (tokens line)) lines is)

-- The text spells the instructions.
abbrev pub Spells : List ℕ → List Instr → Type 0
Spells text code = (look : Look) × LinesSay look nowhere 0 (lines text) code

-- Ok is answered for what is spelled, and for nothing else.
abbrev pub OkExactly : Type 0
OkExactly = (text : List ℕ) (code : List Instr) → (meaning text ≡ Ok code) ↔ Spells text code

-- Line `at` is the first of these lines that uses a label that stands nowhere; the first of them has number k.
abbrev pub IsFirstUnknown : ℕ → Look → List (List ℕ) → ℕ → Type 0
IsFirstUnknown k look [] at = ⊥
IsFirstUnknown k look (line ∷ lines) at =
    ((at ≡ k) × UsesUnknown look (after_label (tokens line))) ⊎
    ((UsesUnknown look (after_label (tokens line)) → ⊥) × IsFirstUnknown (k + 1) look lines at)

-- A label that stands nowhere is told only where nothing else is wrong in any line, and then of the first line that uses
-- one.
abbrev pub LabelLast : Type 0
LabelLast = (text : List ℕ) (e : AsmError)
    → (meaning text ≡ Err e) ↔ ((outlined 1 nowhere 0 (lines text) ≡ Err e)
    ⊎ ((look : Look) × (outlined 1 nowhere 0 (lines text) ≡ Ok look) × (e.why ≡ why.Label) × IsFirstUnknown 1 look (lines text) e.line))
