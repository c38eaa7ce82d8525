-- The numbers of the instructions that a text spells are those of their fields.
use Rattle.std.proofs.Common.{◌≡◌, ◌+◌, ◌≤◌, ℕ, List, [], ◌∷◌, refl, sym, subst, arith, Some, inl, inr}
use Rattle.std.specs.Str.Lines.{lines}
use Rattle.asm_text.specs.Tokens.{tokens}
use Rattle.asm_text.proofs.Small.{tokens_small}
use Rattle.isa_table.specs.declared.instr.Instr.{Instr}
use Rattle.asm_table.specs.Canonical.{AllFitParts}
use Rattle.asm_grammar.specs.Grammar.{Look, label_of, after_label}
use Rattle.asm_grammar.proofs.Ranges.{means_fits, small_past_label}
use Rattle.assembler.specs.Passes.{with_label, slots_in, nowhere}
use Rattle.assembler.specs.Spelling.{SaysThen, LinesSay, Spells}
use Rattle.assembler.proofs.Steps.{below_after}

-- each label stands for a slot, or for the place after the last one
abbrev IsBelow : Look → Type 0
IsBelow look = (name : List ℕ) (slot : ℕ) → look name ≡ Some slot → slot ≤ 4096

-- what the lines after one go on with
rest_of : (look : Look) (n : ℕ) (line : List ℕ) (code : List Instr) (goes : List Instr → Type 0) (P : Type 0) → SaysThen look n (tokens line) code goes
    → ((is : List Instr) → goes is → P) → P
rest_of look n line code goes P (inl h) f = f code h.1
rest_of look n line code goes P (inr h) f = f h.1 h.4

below_line : (before : Look) (n : ℕ) (line : List ℕ) → n + slots_in (tokens line) ≤ 4096 → IsBelow before
    → IsBelow (with_label before (label_of (tokens line)) n)
below_line before n line h b = below_after before (with_label before (label_of (tokens line)) n) (label_of (tokens line)) n refl (omega arith) b

lines_below : (look before : Look) (n : ℕ) (lines : List (List ℕ)) (code : List Instr) → LinesSay look before n lines code → IsBelow before → IsBelow look
lines_below look before n [] code h b = subst IsBelow h.0 b
lines_below look before n (line ∷ rest) code h b =
    rest_of look n line code (λ is. LinesSay look (with_label before (label_of (tokens line)) n) (n + slots_in (tokens line)) rest is) (IsBelow look) h.3
    (λ is g. lines_below look (with_label before (label_of (tokens line)) n) (n + slots_in (tokens line)) rest is g (below_line before n line h.2 b))

line_fits : (look : Look) (n : ℕ) (line : List ℕ) (code : List Instr) (goes : List Instr → Type 0) → IsBelow look → n ≤ 4096
    → SaysThen look n (tokens line) code goes → ((is : List Instr) → goes is → AllFitParts is) → AllFitParts code
line_fits look n line code goes b s (inl h) f = f code h.1
line_fits look n line code goes b s (inr h) f =
    subst AllFitParts (sym h.2) (means_fits look n b s (after_label (tokens line)) h.0 (small_past_label (tokens line) (tokens_small line)) h.3, f h.1 h.4)

lines_fit : (look before : Look) (n : ℕ) (lines : List (List ℕ)) (code : List Instr) → LinesSay look before n lines code → IsBelow look → AllFitParts code
lines_fit look before n [] code h b = subst AllFitParts (sym h.1) tt
lines_fit look before n (line ∷ rest) code h b =
    line_fits look n line code (λ is. LinesSay look (with_label before (label_of (tokens line)) n) (n + slots_in (tokens line)) rest is) b (omega (
      arith,
      h.2,
    )) h.3
    (λ is g. lines_fit look (with_label before (label_of (tokens line)) n) (n + slots_in (tokens line)) rest is g b)

nowhere_below : IsBelow nowhere
nowhere_below = λ name slot e. absurd (cc e)

-- what a text spells fits
pub spelled_fits : (text : List ℕ) (code : List Instr) → Spells text code → AllFitParts code
spelled_fits text code h = lines_fit h.0 nowhere 0 (lines text) code h.1 (lines_below h.0 nowhere 0 (lines text) code h.1 nowhere_below)
