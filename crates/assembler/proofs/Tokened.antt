-- What a text means is decided by the tokens of its lines.
use Rattle.std.proofs.Common.{◌≡◌, ◌+◌, ℕ, List, [], ◌∷◌, map, refl, sym, ap, ◌∙◌, Result, Ok, Err}
use Rattle.std.specs.Str.Lines.{lines}
use Rattle.asm_text.specs.Tokens.{Lexeme, tokens}
use Rattle.isa_table.specs.declared.instr.Instr.{Instr}
use Rattle.asm_grammar.specs.Grammar.{Look, label_of}
use Rattle.asm_grammar.specs.Reading.{line_says}
use Rattle.assembler.specs.declared.error.AsmError.{AsmError}
use Rattle.assembler.specs.Passes.{with_label, slots_in, wrong, unless_wrong, outlined, with_said, assembled, meaning, under, nowhere}
use Rattle.assembler.specs.Spelling.{Spells}
use Rattle.assembler.proofs.Exact.{answered}

-- the two passes over tokens
outlined_by : ℕ → Look → ℕ → List (List Lexeme) → Result Look AsmError
outlined_by k look n [] = Ok look
outlined_by k look n (ts ∷ rest) = unless_wrong (wrong look n ts) k (outlined_by (k + 1) (with_label look (label_of ts) n) (n + slots_in ts) rest)

assembled_by : ℕ → Look → ℕ → List (List Lexeme) → Result (List Instr) AsmError
assembled_by k look n [] = Ok []
assembled_by k look n (ts ∷ rest) = with_said (line_says look n ts) k (assembled_by (k + 1) look (n + slots_in ts) rest)

outlined_is : (k : ℕ) (look : Look) (n : ℕ) (ls : List (List ℕ)) → outlined k look n ls ≡ outlined_by k look n (map tokens ls)
unfolding outlined_by
outlined_is k look n [] = refl
outlined_is k look n (l ∷ ls) = ap (unless_wrong (wrong look n (tokens l)) k)
    (outlined_is (k + 1) (with_label look (label_of (tokens l)) n) (n + slots_in (tokens l)) ls)

assembled_is : (k : ℕ) (look : Look) (n : ℕ) (ls : List (List ℕ)) → assembled k look n ls ≡ assembled_by k look n (map tokens ls)
unfolding assembled_by
assembled_is k look n [] = refl
assembled_is k look n (l ∷ ls) = ap (with_said (line_says look n (tokens l)) k) (assembled_is (k + 1) look (n + slots_in (tokens l)) ls)

under_same : (o : Result Look AsmError) (ls ms : List (List ℕ)) → map tokens ls ≡ map tokens ms → under o ls ≡ under o ms
under_same (Ok look) ls ms e = assembled_is 1 look 0 ls ∙ ap (assembled_by 1 look 0) e ∙ sym (assembled_is 1 look 0 ms)
under_same (Err f) ls ms e = refl

pub tokens_decide : (text other : List ℕ) → map tokens (lines text) ≡ map tokens (lines other) → meaning text ≡ meaning other
tokens_decide text other e =
    under_same (outlined 1 nowhere 0 (lines text)) (lines text) (lines other) e
    ∙ ap (λ o. under o (lines other)) (outlined_is 1 nowhere 0 (lines text) ∙ ap (outlined_by 1 nowhere 0) e ∙ sym (outlined_is 1 nowhere 0 (lines other)))

same_ok : (a b : List Instr) → ◌≡◌ {A = Result (List Instr) AsmError} (Ok a) (Ok b) → a ≡ b
same_ok a b e = cc e

pub one_meaning : (text : List ℕ) (code other : List Instr) → Spells text code → Spells text other → code ≡ other
one_meaning text code other s t = same_ok code other (sym (answered text code s) ∙ answered text other t)
