-- What may be wrong with a line, each condition by itself, and the least of them.
use Rattle.std.specs.Prelude.{◌≡◌, ◌+◌, ◌⊎◌, ◌||◌, ℕ, nat_lt, not, Bool, true, false, List, [], ◌∷◌, Option, Some, None, is_some, Err, if◌then◌else◌, ◌↔◌}
use Rattle.std.specs.Str.Lines.{lines}
use Rattle.asm_text.specs.Tokens.{Lexeme, tokens}
use Rattle.asm_table.specs.declared.mnemonic.Mnemonic.{Mnemonic}
use Rattle.asm_grammar.specs.declared.why.Why.{Why}
use Rattle.asm_grammar.specs.declared.why.Why.TheVariants as why
use Rattle.asm_table.specs.Mnemonics.{sorts}
use Rattle.asm_grammar.specs.Grammar.{Look, label_of, after_label, has_stray}
use Rattle.asm_grammar.specs.Reading.{Gathered, gather_operands, nothing, mnemonic_at}
use Rattle.assembler.specs.declared.error.AsmError.{AsmError}
use Rattle.assembler.specs.Passes.{nowhere, with_label, slots_in, is_twice, outlined}

-- no mnemonic is at the front of what stands after the label
abbrev pub is_unnamed : List Lexeme → Bool
is_unnamed [] = false
is_unnamed (t ∷ ts) = not (is_some (mnemonic_at (t ∷ ts)))

-- the operands have no form of the mnemonic, or something stands after them
abbrev pub has_no_form : Option Gathered → Bool
has_no_form None = true
has_no_form (Some g) = false

-- a number is out of its range
abbrev pub is_out : Option Gathered → Bool
is_out None = false
is_out (Some g) = g.out

-- the test holds of the operands that are read after a mnemonic, where there is one
abbrev pub of_operands : (Option Gathered → Bool) → Option (Mnemonic × List Lexeme) → Bool
of_operands test None = false
of_operands test (Some x) = test (gather_operands nowhere 0 true nothing (sorts x.0) x.1)

-- the test holds of the operands that are read after the mnemonic at the front
abbrev pub of_body : (Option Gathered → Bool) → List Lexeme → Bool
of_body test ts = of_operands test (mnemonic_at ts)

-- the reason holds against a line at slot n, before which these labels stand
abbrev pub reason_holds : Look → ℕ → List Lexeme → Why → Bool
reason_holds before n ts why.Word = has_stray ts || is_unnamed (after_label ts)
reason_holds before n ts why.Operand = of_body has_no_form (after_label ts)
reason_holds before n ts why.Range = of_body is_out (after_label ts)
reason_holds before n ts why.TwiceLabel = is_twice before (label_of ts)
reason_holds before n ts why.TooLong = nat_lt 4096 (n + slots_in ts)
reason_holds before n ts _ = false

-- the reasons against a line by itself, in the order of their numbers
abbrev pub reasons : List Why
reasons = why.Word ∷ why.Operand ∷ why.Range ∷ why.TwiceLabel ∷ why.TooLong ∷ []

-- the first of the reasons of which the test holds
abbrev pub first_that : (Why → Bool) → List Why → Option Why
first_that test [] = None
first_that test (w ∷ ws) = if test w then Some w else first_that test ws

-- Line k is the first with something wrong, and this is the least of what is wrong there.
abbrev pub IsFirstWrongLine : ℕ → Look → ℕ → List (List ℕ) → AsmError → Type 0
IsFirstWrongLine k before n [] e = ⊥
IsFirstWrongLine k before n (line ∷ lines) e =
    ((e.line ≡ k) × (first_that (reason_holds before n (tokens line)) reasons ≡ Some e.why)) ⊎
    ((first_that (reason_holds before n (tokens line)) reasons ≡ None)
    × IsFirstWrongLine (k + 1) (with_label before (label_of (tokens line)) n) (n + slots_in (tokens line)) lines e)

-- The first pass refuses the first wrong line, for the least reason.
abbrev pub LeastFirst : Type 0
LeastFirst = (text : List ℕ) (e : AsmError) → (outlined 1 nowhere 0 (lines text) ≡ Err e) ↔ IsFirstWrongLine 1 nowhere 0 (lines text) e
