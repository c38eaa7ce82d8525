-- Ok is answered for what is spelled, and for nothing else.
use Rattle.std.proofs.Common.{◌≡◌, ◌≤◌, ◌+◌, inl, inr, ℕ, nat_lt, Bool, true, false, cond, List, [], ◌∷◌, refl, sym, ap, ◌∙◌, arith, Option, Some, None, Result}
use Rattle.std.proofs.Common.{Ok, Err}
use Rattle.std.proofs.lemmas.Bool.Decides.{nat_tests}
use Rattle.std.specs.Str.Lines.{lines}
use Rattle.asm_text.specs.Tokens.{Lexeme, tokens}
use Rattle.isa_table.specs.declared.instr.Instr.{Instr}
use Rattle.asm_table.specs.declared.mnemonic.Mnemonic.{Mnemonic}
use Rattle.asm_grammar.specs.declared.why.Why.{Why}
use Rattle.asm_grammar.specs.declared.why.Why.TheVariants as why
use Rattle.asm_table.specs.Mnemonics.{sorts}
use Rattle.asm_grammar.specs.Grammar.{Look, label_of, after_label, has_stray}
use Rattle.asm_grammar.specs.Reading.{mnemonic_at, body, by_mnemonic, said, finished, gather_operands, nothing, line_says, fault_of}
use Rattle.asm_grammar.proofs.Meant.{means_says}
use Rattle.asm_grammar.proofs.Found.{says_means}
use Rattle.asm_grammar.proofs.Alike.{line_alike}
use Rattle.assembler.specs.declared.error.AsmError.{AsmError}
use Rattle.assembler.specs.Passes.{with_label, slots_in, is_twice, or_else, wrong, unless_wrong, outlined, onto, with_said, assembled, meaning, under, nowhere}
use Rattle.assembler.specs.Spelling.{SaysThen, LinesSay, Spells}
use Rattle.assembler.proofs.Steps.{IsRight, right}

-- ---- one line

stray_ok : (b : Bool) (x : Option Instr) (r : Result (Option Instr) Why) → cond b (Err why.Word) r ≡ Ok x → (b ≡ false) × (r ≡ Ok x)
stray_ok true x r e = absurd (cc e)
stray_ok false x r e = (refl, e)

said_some : (r : Result Instr Why) → said r ≡ Ok None → ⊥
said_some (Ok i) e = cc e
said_some (Err w) e = cc e

named_some : (look : Look) (n : ℕ) (o : Option (Mnemonic × List Lexeme)) → by_mnemonic look n o ≡ Ok None → ⊥
named_some look n None e = cc e
named_some look n (Some x) e = said_some (finished x.0 (gather_operands look n true nothing (sorts x.0) x.1)) e

body_none : (look : Look) (n : ℕ) (ts : List Lexeme) → body look n ts ≡ Ok None → ts ≡ []
body_none look n [] e = refl
body_none look n (t ∷ ts) e = absurd (named_some look n (mnemonic_at (t ∷ ts)) e)

pub none_wrong : (w : Why) → fault_of (Err w) ≡ None → w ≡ why.Label
none_wrong why.Label e = refl
none_wrong _ e = absurd (cc e)

onto_ok : (i : Instr) (r : Result (List Instr) AsmError) (code : List Instr) → onto (λ is. i ∷ is) r ≡ Ok code
    → (is : List Instr) × (r ≡ Ok is) × (code ≡ i ∷ is)
onto_ok i (Ok is) code e = let k : i ∷ is ≡ code = cc e in (is, refl, sym k)
onto_ok i (Err f) code e = absurd (cc e)

pub onto_err : (i : Instr) (r : Result (List Instr) AsmError) (f : AsmError) → onto (λ is. i ∷ is) r ≡ Err f → r ≡ Err f
onto_err i (Ok is) f e = absurd (cc e)
onto_err i (Err g) f e = let k : g ≡ f = cc e in ap (λ x. Err x) k

-- a line with nothing wrong in the first pass, and what is after it
pub record Next (k : ℕ) (look before : Look) (n : ℕ) (line : List ℕ) (rest : List (List ℕ)) : Type 0 where
  pub right : IsRight before n (tokens line)
  pub outlined : outlined (k + 1) (with_label before (label_of (tokens line)) n) (n + slots_in (tokens line)) rest ≡ Ok look

next_at : (k : ℕ) (look before : Look) (n : ℕ) (line : List ℕ) (rest : List (List ℕ)) (o : Option Why) → wrong before n (tokens line) ≡ o
    → unless_wrong o k (outlined (k + 1) (with_label before (label_of (tokens line)) n) (n + slots_in (tokens line)) rest) ≡ Ok look
    → Next k look before n line rest
next_at k look before n line rest None w h = record { right = right before n (tokens line) w; outlined = h }
next_at k look before n line rest (Some v) w h = absurd (cc h)

pub next : (k : ℕ) (look before : Look) (n : ℕ) (line : List ℕ) (rest : List (List ℕ)) → outlined k before n (line ∷ rest) ≡ Ok look
    → Next k look before n line rest
next k look before n line rest h = next_at k look before n line rest (wrong before n (tokens line)) refl h

-- ---- what is answered is spelled

says_at : (j : ℕ) (look : Look) (n : ℕ) (line : List ℕ) (rest : List (List ℕ)) (code : List Instr) (goes : List Instr
    → Type 0) (r : Result (Option Instr) Why) → line_says look n (tokens line) ≡ r
    → with_said r j (assembled (j + 1) look (n + slots_in (tokens line)) rest) ≡ Ok code
    → ((is : List Instr) → assembled (j + 1) look (n + slots_in (tokens line)) rest ≡ Ok is → goes is)
    → (has_stray (tokens line) ≡ false) × SaysThen look n (tokens line) code goes
says_at j look n line rest code goes (Ok None) e h f =
    let k = stray_ok (has_stray (tokens line)) None (body look n (after_label (tokens line))) e in
    (k.0, inl (body_none look n (after_label (tokens line)) k.1, f code h))
says_at j look n line rest code goes (Ok (Some i)) e h f =
    let k = stray_ok (has_stray (tokens line)) (Some i) (body look n (after_label (tokens line))) e in
    let o = onto_ok i (assembled (j + 1) look (n + slots_in (tokens line)) rest) code h in
    (k.0, inr (i, o.0, o.2, says_means look n (after_label (tokens line)) i k.1, f o.0 o.1))
says_at j look n line rest code goes (Err w) e h f = absurd (cc h)

lines_say : (k j : ℕ) (look before : Look) (n : ℕ) (lines : List (List ℕ)) (code : List Instr) → outlined k before n lines ≡ Ok look
    → assembled j look n lines ≡ Ok code → LinesSay look before n lines code
lines_say k j look before n [] code e h = let a : before ≡ look = cc e in let b : [] ≡ code = cc h in (a, sym b)
lines_say k j look before n (line ∷ rest) code e h =
    let x = next k look before n line rest e in
    let y = says_at j look n line rest code (λ is. LinesSay look (with_label before (label_of (tokens line)) n) (n + slots_in (tokens line)) rest is)
    (line_says look n (tokens line)) refl h
    (λ is g. lines_say (k + 1) (j + 1) look (with_label before (label_of (tokens line)) n) (n + slots_in (tokens line)) rest is x.outlined g) in
    (y.0, x.right.once, x.right.short, y.1)

-- ---- what is spelled is answered

nothing_wrong : (before look : Look) (n : ℕ) (ts : List Lexeme) (x : Option Instr) → line_says look n ts ≡ Ok x → is_twice before (label_of ts) ≡ false
    → n + slots_in ts ≤ 4096 → wrong before n ts ≡ None
nothing_wrong before look n ts x e t s =
    let f : fault_of (line_says before n ts) ≡ None = line_alike before look n n ts ∙ ap fault_of e in
    let l : nat_lt 4096 (n + slots_in ts) ≡ false = grind (arith, nat_tests) in
    ap (λ o. or_else o (cond (is_twice before (label_of ts)) (Some why.TwiceLabel) (cond (nat_lt 4096 (n + slots_in ts)) (Some why.TooLong) None))) f
    ∙ ap (λ b. cond b (Some why.TwiceLabel) (cond (nat_lt 4096 (n + slots_in ts)) (Some why.TooLong) None)) t
    ∙ ap (λ b. cond b (Some why.TooLong) None) l

-- what a line that says something is read as, and what follows
record Said (look : Look) (n : ℕ) (ts : List Lexeme) (code : List Instr) (goes : List Instr → Type 0) : Type 0 where
  said : Option Instr
  is : List Instr
  reads : line_says look n ts ≡ Ok said
  further : goes is
  joined : (j : ℕ) (r : Result (List Instr) AsmError) → r ≡ Ok is → with_said (Ok said) j r ≡ Ok code

says : (look : Look) (n : ℕ) (ts : List Lexeme) (code : List Instr) (goes : List Instr → Type 0) → has_stray ts ≡ false
    → SaysThen look n ts code goes → Said look n ts code goes
says look n ts code goes c (inl h) = record {
  said = None;
  is = code;
  reads = ap (λ b. cond b (Err why.Word) (body look n (after_label ts))) c ∙ ap (body look n) h.0;
  further = h.1;
  joined = λ j r e. e;
}
says look n ts code goes c (inr h) = record {
  said = Some h.0;
  is = h.1;
  reads = ap (λ b. cond b (Err why.Word) (body look n (after_label ts))) c ∙ means_says look n (after_label ts) h.0 h.3;
  further = h.4;
  joined = λ j r e. ap (onto (λ is. h.0 ∷ is)) e ∙ ap (λ l. Ok l) (sym h.2);
}

lines_read : (k j : ℕ) (look before : Look) (n : ℕ) (lines : List (List ℕ)) (code : List Instr) → LinesSay look before n lines code
    → (outlined k before n lines ≡ Ok look) × (assembled j look n lines ≡ Ok code)
lines_read k j look before n [] code h = (ap (λ (l : Look). Ok l) h.0, ap (λ l. Ok l) (sym h.1))
lines_read k j look before n (line ∷ rest) code h =
    let ts = tokens line in
    let s = says look n ts code (λ is. LinesSay look (with_label before (label_of ts) n) (n + slots_in ts) rest is) h.0 h.3 in
    let r = lines_read (k + 1) (j + 1) look (with_label before (label_of ts) n) (n + slots_in ts) rest s.is s.further in (
      ap (λ o. unless_wrong o k (outlined (k + 1) (with_label before (label_of ts) n) (n + slots_in ts) rest))
          (nothing_wrong before look n ts s.said s.reads h.1 h.2) ∙ r.0,
      ap (λ x. with_said x j (assembled (j + 1) look (n + slots_in ts) rest)) s.reads ∙ s.joined j (assembled (j + 1) look (n + slots_in ts) rest) r.1,
    )

under_ok : (o : Result Look AsmError) (lines : List (List ℕ)) (code : List Instr) → under o lines ≡ Ok code
    → (look : Look) × (o ≡ Ok look) × (assembled 1 look 0 lines ≡ Ok code)
under_ok (Ok look) lines code e = (look, refl, e)
under_ok (Err f) lines code e = absurd (cc e)

pub spelled : (text : List ℕ) (code : List Instr) → meaning text ≡ Ok code → Spells text code
spelled text code e = let k = under_ok (outlined 1 nowhere 0 (lines text)) (lines text) code e in (k.0, lines_say 1 1 k.0 nowhere 0 (lines text) code k.1 k.2)

pub answered : (text : List ℕ) (code : List Instr) → Spells text code → meaning text ≡ Ok code
answered text code h = let k = lines_read 1 1 h.0 nowhere 0 (lines text) code h.1 in ap (λ o. under o (lines text)) k.0 ∙ k.1
