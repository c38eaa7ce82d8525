-- A label that stands nowhere is told last, of the first line that uses one.
use Rattle.std.proofs.Common.{◌≡◌, ◌+◌, ◌⊎◌, inl, inr, ℕ, Bool, true, false, cond, List, [], ◌∷◌, refl, sym, ap, ◌∙◌, Option, Some, None, Result, Ok, Err}
use Rattle.std.specs.Str.Lines.{lines}
use Rattle.asm_text.specs.Tokens.{Lexeme, tokens}
use Rattle.isa_table.specs.declared.instr.Instr.{Instr}
use Rattle.asm_grammar.specs.declared.why.Why.{Why}
use Rattle.asm_grammar.specs.declared.why.Why.TheVariants as why
use Rattle.asm_grammar.specs.Grammar.{Look, label_of, after_label, has_stray, UsesUnknown}
use Rattle.asm_grammar.specs.Reading.{body, line_says, fault_of}
use Rattle.asm_grammar.proofs.Alike.{line_alike}
use Rattle.asm_grammar.proofs.Unknown.{label_used, used_label}
use Rattle.assembler.specs.declared.error.AsmError.{AsmError}
use Rattle.assembler.specs.Passes.{with_label, slots_in, refused, outlined, onto, with_said, assembled, meaning, under, nowhere}
use Rattle.assembler.specs.Spelling.{IsFirstUnknown, LabelLast}
use Rattle.assembler.proofs.Exact.{none_wrong, onto_err, next}

-- ---- one line

stray_label : (b : Bool) (r : Result (Option Instr) Why) → cond b (Err why.Word) r ≡ Err why.Label → r ≡ Err why.Label
stray_label true r e = absurd (cc e)
stray_label false r e = e

stray_fault : (b : Bool) (r : Result (Option Instr) Why) → fault_of (cond b (Err why.Word) r) ≡ None → cond b (Err why.Word) r ≡ r
stray_fault true r e = absurd (cc e)
stray_fault false r e = refl

module _ (look : Look) (n : ℕ) (ts : List Lexeme) where
  line_used : line_says look n ts ≡ Err why.Label → UsesUnknown look (after_label ts)
  line_used e = label_used look n (after_label ts) (stray_label (has_stray ts) (body look n (after_label ts)) e)

  used_line : fault_of (line_says look n ts) ≡ None → UsesUnknown look (after_label ts) → line_says look n ts ≡ Err why.Label
  used_line f u =
      let s = stray_fault (has_stray ts) (body look n (after_label ts)) f in
      s ∙ used_label look n (after_label ts) u (sym (ap fault_of s) ∙ f)

  unused : (x : Option Instr) → line_says look n ts ≡ Ok x → UsesUnknown look (after_label ts) → ⊥
  unused x e u = let k : Ok x ≡ Err why.Label = sym e ∙ used_line (ap fault_of e) u in cc k

-- ---- all lines

-- what is refused for its label is refused for the first line that uses one
Told : ℕ → Look → List (List ℕ) → AsmError → Type 0
Told j look lines e = (e.why ≡ why.Label) × IsFirstUnknown j look lines e.line

told_at : (j : ℕ) (look before : Look) (n : ℕ) (line : List ℕ) (rest : List (List ℕ)) (e : AsmError) (r : Result (Option Instr) Why)
    → line_says look n (tokens line) ≡ r → fault_of (line_says look n (tokens line)) ≡ None
    → with_said r j (assembled (j + 1) look (n + slots_in (tokens line)) rest) ≡ Err e
    → (assembled (j + 1) look (n + slots_in (tokens line)) rest ≡ Err e → Told (j + 1) look rest e) → Told j look (line ∷ rest) e
unfolding Told
told_at j look before n line rest e (Ok None) l w h f = let t = f h in (t.0, inr (unused look n (tokens line) None l, t.1))
told_at j look before n line rest e (Ok (Some i)) l w h f = let t = f (onto_err i (assembled (j + 1) look (n + slots_in (tokens line)) rest) e h) in
    (t.0, inr (unused look n (tokens line) (Some i) l, t.1))
told_at j look before n line rest e (Err v) l w h f =
    let k : refused j v ≡ e = cc h in
    let x : v ≡ why.Label = none_wrong v (sym (ap fault_of l) ∙ w) in
    (sym (ap (λ (y : AsmError). y.why) k) ∙ x, inl (sym (ap (λ (y : AsmError). y.line) k), line_used look n (tokens line) (l ∙ ap (λ y. Err y) x)))

right_under : (look before : Look) (n : ℕ) (ts : List Lexeme) → fault_of (line_says before n ts) ≡ None → fault_of (line_says look n ts) ≡ None
right_under look before n ts f = line_alike look before n n ts ∙ f

told : (k j : ℕ) (look before : Look) (n : ℕ) (lines : List (List ℕ)) (e : AsmError) → outlined k before n lines ≡ Ok look
    → assembled j look n lines ≡ Err e → Told j look lines e
told k j look before n [] e o h = absurd (cc h)
told k j look before n (line ∷ rest) e o h =
    let x = next k look before n line rest o in
    told_at j look before n line rest e (line_says look n (tokens line)) refl (right_under look before n (tokens line) x.right.says) h
    (λ g. told (k + 1) (j + 1) look (with_label before (label_of (tokens line)) n) (n + slots_in (tokens line)) rest e x.outlined g)

-- the first line that uses one is refused for it
refused_at : (j : ℕ) (look : Look) (n : ℕ) (line : List ℕ) (rest : List (List ℕ)) (e : AsmError) (r : Result (Option Instr) Why)
    → line_says look n (tokens line) ≡ r → fault_of (line_says look n (tokens line)) ≡ None
    → (UsesUnknown look (after_label (tokens line)) → ⊥) → assembled (j + 1) look (n + slots_in (tokens line)) rest ≡ Err e
    → with_said r j (assembled (j + 1) look (n + slots_in (tokens line)) rest) ≡ Err e
refused_at j look n line rest e (Ok None) l w u h = h
refused_at j look n line rest e (Ok (Some i)) l w u h = ap (onto (λ is. i ∷ is)) h
refused_at j look n line rest e (Err v) l w u h =
    let x : v ≡ why.Label = none_wrong v (sym (ap fault_of l) ∙ w) in
    absurd (u (line_used look n (tokens line) (l ∙ ap (λ y. Err y) x)))

refuses : (k j : ℕ) (look before : Look) (n : ℕ) (lines : List (List ℕ)) (e : AsmError) → outlined k before n lines ≡ Ok look → e.why ≡ why.Label
    → IsFirstUnknown j look lines e.line → assembled j look n lines ≡ Err e
refuses k j look before n [] e o w h = absurd h
refuses k j look before n (line ∷ rest) e o w (inl h) =
    let x = next k look before n line rest o in
    let l = used_line look n (tokens line) (right_under look before n (tokens line) x.right.says) h.1 in
    ap (λ r. with_said r j (assembled (j + 1) look (n + slots_in (tokens line)) rest)) l ∙ ap (λ y. Err (refused j y)) (sym w)
    ∙ ap (λ m. Err (refused m e.why)) (sym h.0)
refuses k j look before n (line ∷ rest) e o w (inr h) =
    let x = next k look before n line rest o in
    refused_at j look n line rest e (line_says look n (tokens line)) refl (right_under look before n (tokens line) x.right.says) h.0
    (refuses (k + 1) (j + 1) look (with_label before (label_of (tokens line)) n) (n + slots_in (tokens line)) rest e x.outlined w h.1)

-- ---- whole texts

Last : Result Look AsmError → List (List ℕ) → AsmError → Type 0
Last o lines e = (o ≡ Err e) ⊎ ((look : Look) × (o ≡ Ok look) × Told 1 look lines e)

last : (o : Result Look AsmError) (ls : List (List ℕ)) (e : AsmError) → outlined 1 nowhere 0 ls ≡ o → under o ls ≡ Err e → Last o ls e
unfolding Last
last (Ok look) ls e f h = inr (look, refl, told 1 1 look nowhere 0 ls e f h)
last (Err g) ls e f h = let k : g ≡ e = cc h in inl (ap (λ x. Err x) k)

pub label_last : LabelLast
unfolding Last Told
label_last text e = (
  λ h. elim (last (outlined 1 nowhere 0 (lines text)) (lines text) e refl h) as (λ _. (outlined 1 nowhere 0 (lines text) ≡ Err e)
      ⊎ ((look : Look) × (outlined 1 nowhere 0 (lines text) ≡ Ok look) × (e.why ≡ why.Label) × IsFirstUnknown 1 look (lines text) e.line))
      [ inl k ↦ inl k | inr k ↦ inr (k.0, k.1, k.2.0, k.2.1) ],
  λ h. elim h as (λ _. meaning text ≡ Err e)
      [ inl k ↦ ap (λ o. under o (lines text)) k | inr k ↦ ap (λ o. under o (lines text)) k.1 ∙ refuses 1 1 k.0 nowhere 0 (lines text) e k.1 k.2 k.3 ],
)
