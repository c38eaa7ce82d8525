-- The first pass answers the first wrong line and the least reason.
use Rattle.std.proofs.Common.{◌≡◌, ◌+◌, ◌⊎◌, ◌||◌, inl, inr, ℕ, nat_lt, not, Bool, true, false, cond, List, [], ◌∷◌, refl, sym, ap, ◌∙◌, Option, Some, None}
use Rattle.std.proofs.Common.{is_some, Result, Err}
use Rattle.std.specs.Str.Lines.{lines}
use Rattle.asm_text.specs.Tokens.{Lexeme, tokens}
use Rattle.isa_table.specs.declared.instr.Instr.{Instr}
use Rattle.asm_table.specs.declared.mnemonic.Mnemonic.{Mnemonic}
use Rattle.asm_grammar.specs.declared.why.Why.{Why}
use Rattle.asm_grammar.specs.declared.why.Why.TheVariants as why
use Rattle.asm_table.specs.Mnemonics.{sorts}
use Rattle.asm_table.specs.Parts.{instr_of_parts}
use Rattle.asm_grammar.specs.Grammar.{Look, label_of, after_label, has_stray}
use Rattle.asm_grammar.specs.Reading.{Gathered, gather_operands, nothing, mnemonic_at, judged, finished, said, by_mnemonic, body, fault_of}
use Rattle.asm_grammar.proofs.Alike.{line_alike}
use Rattle.asm_grammar.proofs.Formed.{built_gathered}
use Rattle.assembler.specs.declared.error.AsmError.{AsmError}
use Rattle.assembler.specs.Passes.{nowhere, with_label, slots_in, is_twice, or_else, wrong, refused, unless_wrong, outlined}
use Rattle.assembler.specs.Conditions.{is_unnamed, has_no_form, is_out, of_operands, of_body, reason_holds, reasons, first_that, IsFirstWrongLine}

-- the first of three reasons
abbrev three : Bool → Bool → Bool → Option Why → Option Why
three a b c rest = cond a (Some why.Word) (cond b (Some why.Operand) (cond c (Some why.Range) rest))

judged_first : (t u : Bool) (o : Option Instr) (rest : Option Why) → (t ≡ false → is_some o ≡ true)
    → or_else (fault_of (said (cond t (Err why.Range) (judged u o)))) rest ≡ three false false t rest
judged_first true u o rest h = refl
judged_first false u None rest h = absurd (let k : false ≡ true = h refl in cc k)
judged_first false true (Some i) rest h = refl
judged_first false false (Some i) rest h = refl

finished_first : (m : Mnemonic) (ts : List Lexeme) (o : Option Gathered) (rest : Option Why) → gather_operands nowhere 0 true nothing (sorts m) ts ≡ o
    → or_else (fault_of (said (finished m o))) rest ≡ three false (has_no_form o) (is_out o) rest
finished_first m ts None rest e = refl
finished_first m ts (Some g) rest e = judged_first g.out g.unknown (instr_of_parts m g.operands) rest (λ f. built_gathered nowhere 0 m ts g e f)

named_first : (o : Option (Mnemonic × List Lexeme)) (rest : Option Why)
    → or_else (fault_of (by_mnemonic nowhere 0 o)) rest ≡ three (not (is_some o)) (of_operands has_no_form o) (of_operands is_out o) rest
named_first None rest = refl
named_first (Some x) rest = finished_first x.0 x.1 (gather_operands nowhere 0 true nothing (sorts x.0) x.1) rest refl

body_first : (ts : List Lexeme) (rest : Option Why)
    → or_else (fault_of (body nowhere 0 ts)) rest ≡ three (is_unnamed ts) (of_body has_no_form ts) (of_body is_out ts) rest
body_first [] rest = refl
body_first (t ∷ ts) rest = named_first (mnemonic_at (t ∷ ts)) rest

line_first : (b : Bool) (ts : List Lexeme) (rest : Option Why)
    → or_else (fault_of (cond b (Err why.Word) (body nowhere 0 ts))) rest ≡ three (b || is_unnamed ts) (of_body has_no_form ts) (of_body is_out ts) rest
line_first true ts rest = refl
line_first false ts rest = body_first ts rest

-- what is wrong is the least reason that holds
pub wrong_first : (before : Look) (n : ℕ) (ts : List Lexeme) → wrong before n ts ≡ first_that (reason_holds before n ts) reasons
wrong_first before n ts =
    let rest = cond (is_twice before (label_of ts)) (Some why.TwiceLabel) (cond (nat_lt 4096 (n + slots_in ts)) (Some why.TooLong) None) in
    ap (λ o. or_else o rest) (line_alike before nowhere n 0 ts) ∙ line_first (has_stray ts) (after_label ts) rest

first_at : (k n : ℕ) (before : Look) (line : List ℕ) (rest : List (List ℕ)) (e : AsmError) (o : Option Why) (r : Result Look AsmError) (P : Type 0)
    → first_that (reason_holds before n (tokens line)) reasons ≡ o → (r ≡ Err e → P) → unless_wrong o k r ≡ Err e
    → ((e.line ≡ k) × (first_that (reason_holds before n (tokens line)) reasons ≡ Some e.why))
    ⊎ ((first_that (reason_holds before n (tokens line)) reasons ≡ None) × P)
first_at k n before line rest e None r P w f h = inr (w, f h)
first_at k n before line rest e (Some v) r P w f h =
    let j : refused k v ≡ e = cc h in
    inl (sym (ap (λ (x : AsmError). x.line) j), w ∙ ap (λ (x : AsmError). Some x.why) j)

first_wrong : (k n : ℕ) (before : Look) (lines : List (List ℕ)) (e : AsmError) → outlined k before n lines ≡ Err e → IsFirstWrongLine k before n lines e
first_wrong k n before [] e h = cc h
first_wrong k n before (line ∷ rest) e h =
    let ts = tokens line in
    first_at k n before line rest e (wrong before n ts) (outlined (k + 1) (with_label before (label_of ts) n) (n + slots_in ts) rest) _
    (sym (wrong_first before n ts))
    (λ g. first_wrong (k + 1) (n + slots_in ts) (with_label before (label_of ts) n) rest e g) h

refused_first : (k n : ℕ) (before : Look) (lines : List (List ℕ)) (e : AsmError) → IsFirstWrongLine k before n lines e → outlined k before n lines ≡ Err e
refused_first k n before [] e h = absurd h
refused_first k n before (line ∷ rest) e (inl h) =
    let ts = tokens line in
    let j : refused k e.why ≡ e = ap (λ l. refused l e.why) (sym h.0) in
    ap (λ o. unless_wrong o k (outlined (k + 1) (with_label before (label_of ts) n) (n + slots_in ts) rest)) (wrong_first before n ts ∙ h.1) ∙ ap (λ x. Err x) j
refused_first k n before (line ∷ rest) e (inr h) =
    let ts = tokens line in
    ap (λ o. unless_wrong o k (outlined (k + 1) (with_label before (label_of ts) n) (n + slots_in ts) rest)) (wrong_first before n ts ∙ h.0)
    ∙ refused_first (k + 1) (n + slots_in ts) (with_label before (label_of ts) n) rest e h.1

pub least_first : (text : List ℕ) (e : AsmError)
    → ((outlined 1 nowhere 0 (lines text) ≡ Err e) → IsFirstWrongLine 1 nowhere 0 (lines text) e)
    × (IsFirstWrongLine 1 nowhere 0 (lines text) e → outlined 1 nowhere 0 (lines text) ≡ Err e)
least_first text e = (first_wrong 1 0 nowhere (lines text) e, refused_first 1 0 nowhere (lines text) e)
