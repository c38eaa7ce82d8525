-- What `asm` and `dis` make of each other's output.
use Rattle.std.proofs.Common.{◌≡◌, ◌<◌, ℕ, nat_lt, suc, Bool, true, false, cond, List, [], ◌∷◌, ◌++◌, All, refl, sym, ap, ◌∙◌, subst, arith, Result, Ok, Err}
use Rattle.std.proofs.lemmas.Bool.Decides.{nat_tests}
use Rattle.isa_table.specs.declared.instr.Instr.{Instr}
use Rattle.loader.specs.Instructions.{encodings}
use Rattle.asm_table.specs.Canonical.{text_of}
use Rattle.assembler.specs.declared.error.AsmError.{AsmError}
use Rattle.assembler.specs.Passes.{meaning}
use Rattle.assembler.specs.Spelling.{Spells}
use Rattle.assembler.proofs.Again.{canonical_spells}
use Rattle.assembler.proofs.Exact.{spelled}
use Rattle.disassembler.specs.TextOf.{IsTextOf}
use Rattle.disassembler.proofs.Fitting.{all_fit_parts}
use Rattle.agent.specs.AsmLeaves.{Assembles, text_of_bytes}
use Rattle.asm_laws.specs.Subcommands.{IsAssembledTo}
use Rattle.asm_laws.proofs.Fitted.{few_slots, text_fits, is_shown}

-- ---- ASCII is read as it is

char_at : (b : ℕ) (t : Bool) → nat_lt b 128 ≡ t → b < 128 → cond t (b ∷ []) (0xc2 ∷ 0x80 ∷ []) ≡ b ∷ []
char_at b true e h = refl
char_at b false e h = absurd (let k : nat_lt b 128 ≡ true = grind (arith, nat_tests) in cc)

same_text : (bs : List ℕ) → All (λ b. b < 128) bs → text_of_bytes bs ≡ bs
same_text [] h = refl
same_text (b ∷ bs) h =
    let first : b < 128 = h 0 0 (omega arith) in
    ap (λ l. l ++ text_of_bytes bs) (char_at b (nat_lt b 128) refl first) ∙ ap (λ l. b ∷ l) (same_text bs (λ k d l. h (suc k) d (omega (arith, l))))

-- ---- the text of a program

same_ok : (a b : List Instr) → ◌≡◌ {A = Result (List Instr) AsmError} (Ok a) (Ok b) → a ≡ b
same_ok a b e = cc e

module _ (bytes text : List ℕ) (t : IsTextOf bytes text) where
  read_again : meaning (text_of_bytes text) ≡ Ok t.0
  read_again =
      ap meaning (same_text text (text_fits bytes text t).1 ∙ t.2) ∙ canonical_spells t.0 (all_fit_parts t.0 t.1.fits) (few_slots bytes t.0 t.1)

  pub is_assembled : IsAssembledTo text bytes
  is_assembled = record {
    assembles = ((text_fits bytes text t).0, t.0, read_again, t.1.encoded);
    only = λ code h. h.3 ∙ ap encodings (same_ok h.1 t.0 (sym h.2 ∙ read_again)) ∙ sym t.1.encoded;
    right = λ e h. let k : Ok t.0 ≡ Err e = sym read_again ∙ h.1 in cc k;
    short = λ h. omega (arith, h, (text_fits bytes text t).0);
  }

-- ---- what is shown of what was assembled

pub shown_of : (input code shown : List ℕ) → Assembles input (Ok code) → IsTextOf code shown
    → (instrs : List Instr) × Spells (text_of_bytes input) instrs × (shown ≡ text_of instrs)
shown_of input code shown a t =
    let s = spelled (text_of_bytes input) a.1 a.2 in
    (a.1, s, is_shown (text_of_bytes input) shown a.1 s (subst (λ bytes. IsTextOf bytes shown) a.3 t))
