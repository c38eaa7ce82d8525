-- The canonical text is read again.
use Rattle.std.proofs.Common.{◌≡◌, ◌≢◌, ℕ, ◌+◌, ◌-◌, ◌<◌, ◌≤◌, ◌==◌, nat_lt, zero, suc, Bool, true, false, cond, List, [], ◌∷◌, ◌++◌, map, length, get_or, All}
use Rattle.std.proofs.Common.{refl, sym, ap, ◌∙◌, arith, Option, Some, None, Result, Ok, Err}
use Rattle.std.proofs.lemmas.Bool.Decides.{nat_tests}
use Rattle.std.proofs.lemmas.List.Elements.{All-cons, All-nil}
use Rattle.std.specs.Str.Lines.{lines, strip_carriage_return}
use Rattle.asm_text.specs.Tokens.{Lexeme, tokens}
use Rattle.asm_text.specs.Tokens.Lexeme.{Name}
use Rattle.isa_table.specs.declared.instr.Instr.{Instr}
use Rattle.asm_table.specs.declared.mnemonic.Mnemonic.{Mnemonic}
use Rattle.asm_table.specs.declared.mnemonic.Mnemonic.TheVariants as mnemonic
use Rattle.asm_table.specs.Mnemonics.{name, slots_of}
use Rattle.asm_table.specs.Names.{has_two_words}
use Rattle.asm_table.specs.Parts.{mnemonic_of, operands_of}
use Rattle.asm_table.specs.Canonical.{line_text, text_of, FitsParts, AllFitParts, parts_slot_count}
use Rattle.isa_table.proofs.Listed.{and_true}
use Rattle.asm_table.proofs.Printable.{is_plain, printable, printable_line}
use Rattle.asm_grammar.specs.declared.written.Sign.TheVariants as sign
use Rattle.asm_grammar.specs.declared.why.Why.{Why}
use Rattle.asm_grammar.specs.declared.why.Why.TheVariants as why
use Rattle.asm_grammar.specs.Writing.{Written, lexemes_of, joined, more}
use Rattle.asm_grammar.specs.Writing.Written.{Word, Bare, Signed, Memory, MemoryAt}
use Rattle.asm_grammar.specs.Grammar.{Look, head, label_of, after_label, has_stray}
use Rattle.asm_grammar.specs.Reading.{fault_of, body, line_says, body_slots}
use Rattle.asm_grammar.specs.Canonical.{canonical}
use Rattle.asm_grammar.proofs.Meant.{head_one, means_says, means_slots}
use Rattle.asm_grammar.proofs.Rewritten.{line_tokens, line_means}
use Rattle.assembler.specs.Passes.{with_label, slots_in, is_twice, or_else, wrong, unless_wrong, outlined, onto, with_said, assembled, meaning, under, nowhere}
use Rattle.assembler.proofs.Parted.{lines_at}

-- ---- canonical lines hold no control bytes

above : (b : ℕ) → is_plain b ≡ true → 31 < b
unfolding is_plain
above b h = let l : nat_lt 31 b ≡ true = (and_true (nat_lt 31 b) (nat_lt b 127) h).0 in grind (arith, nat_tests)

no_lf : (b : ℕ) → is_plain b ≡ true → b ≢ 10
no_lf b h e = absurd (let k = above b h in omega arith)

whole : (bs : List ℕ) → printable bs ≡ true → All (λ b. b ≢ 10) bs
unfolding printable
whole [] h = All-nil (λ b. b ≢ 10)
whole (b ∷ bs) h = let p = and_true (is_plain b) (printable bs) h in All-cons (λ b. b ≢ 10) b bs (no_lf b p.0) (whole bs p.1)

no_cr : (bs : List ℕ) (k : ℕ) → printable bs ≡ true → (get_or bs k 0 == 13) ≡ false
unfolding printable
no_cr [] k h = refl
no_cr (b ∷ bs) zero h = let p = above b (and_true (is_plain b) (printable bs) h).0 in grind (arith, nat_tests)
no_cr (b ∷ bs) (suc k) h = no_cr bs k (and_true (is_plain b) (printable bs) h).1

unstripped : (bs : List ℕ) → printable bs ≡ true → strip_carriage_return bs ≡ bs
unstripped bs h = rw (no_cr bs (length bs - 1) h) refl

canonical_lines : (code : List Instr) → AllFitParts code → lines (text_of code) ≡ map line_text code
canonical_lines [] f = refl
canonical_lines (i ∷ is) f =
    let p = printable_line i f.0 in
    lines_at (text_of (i ∷ is)) (line_text i) (text_of is) refl (whole (line_text i) p) ∙ ap (λ l. l ∷ lines (text_of is)) (unstripped (line_text i) p)
    ∙ ap (λ l. line_text i ∷ l) (canonical_lines is f.1)

-- ---- the tokens of a canonical line have no label and nothing stray

no_label : (w : List ℕ) (ws : List Written) → (label_of (Name w ∷ joined ws) ≡ None) × (after_label (Name w ∷ joined ws) ≡ Name w ∷ joined ws)
no_label w [] = (refl, refl)
no_label w (Word x ∷ ws) = (refl, refl)
no_label w (Bare n ∷ ws) = (refl, refl)
no_label w (Signed sign.Plus n ∷ ws) = (refl, refl)
no_label w (Signed sign.Minus n ∷ ws) = (refl, refl)
no_label w (Memory x ∷ ws) = (refl, refl)
no_label w (MemoryAt x s n ∷ ws) = (refl, refl)

no_label_one : (h : List Lexeme) (w : List ℕ) (ws : List Written) → h ≡ Name w ∷ []
    → (label_of (h ++ joined ws) ≡ None) × (after_label (h ++ joined ws) ≡ h ++ joined ws)
no_label_one h w ws e = rw e (no_label w ws)

no_label_at : (m : Mnemonic) (ws : List Written) (b : Bool) → has_two_words m ≡ b
    → (label_of (head m ++ joined ws) ≡ None) × (after_label (head m ++ joined ws) ≡ head m ++ joined ws)
no_label_at mnemonic.CallLocal ws b e = (refl, refl)
no_label_at m ws false e = no_label_one (head m) (name m) ws (head_one m e)
no_label_at m ws true e = absurd (cc e)

clean_operand : (w : Written) (ts : List Lexeme) → has_stray (lexemes_of w ++ ts) ≡ has_stray ts
clean_operand (Word x) ts = refl
clean_operand (Bare n) ts = refl
clean_operand (Signed sign.Plus n) ts = refl
clean_operand (Signed sign.Minus n) ts = refl
clean_operand (Memory x) ts = refl
clean_operand (MemoryAt x sign.Plus n) ts = refl
clean_operand (MemoryAt x sign.Minus n) ts = refl

clean_more : (ws : List Written) → has_stray (more ws) ≡ false
clean_more [] = refl
clean_more (w ∷ ws) = clean_operand w (more ws) ∙ clean_more ws

clean_joined : (ws : List Written) → has_stray (joined ws) ≡ false
clean_joined [] = refl
clean_joined (v ∷ ws) = clean_operand v (more ws) ∙ clean_more ws

clean_one : (h : List Lexeme) (w : List ℕ) (ws : List Written) → h ≡ Name w ∷ [] → has_stray (h ++ joined ws) ≡ false
clean_one h w ws e = rw e (clean_joined ws)

clean_at : (m : Mnemonic) (ws : List Written) (b : Bool) → has_two_words m ≡ b → has_stray (head m ++ joined ws) ≡ false
clean_at mnemonic.CallLocal ws b e = clean_joined ws
clean_at m ws false e = clean_one (head m) (name m) ws (head_one m e)
clean_at m ws true e = absurd (cc e)

module _ (i : Instr) (f : FitsParts i) where
  spelled : List Lexeme
  spelled = head (mnemonic_of i) ++ joined (map canonical (operands_of i))

  -- the label of the canonical line, what stands after it, and that nothing in it is stray
  parts_of_line : (label_of spelled ≡ None) × (after_label spelled ≡ spelled) × (has_stray spelled ≡ false)
  unfolding spelled
  parts_of_line =
      let n = no_label_at (mnemonic_of i) (map canonical (operands_of i)) (has_two_words (mnemonic_of i)) refl in
      (n.0, n.1, clean_at (mnemonic_of i) (map canonical (operands_of i)) (has_two_words (mnemonic_of i)) refl)

  line_is : tokens (line_text i) ≡ spelled
  unfolding spelled
  line_is = line_tokens i f

  pub line_again : (look : Look) (n : ℕ) → line_says look n (tokens (line_text i)) ≡ Ok (Some i)
  line_again look n =
      let b : body look n spelled ≡ Ok (Some i) = ap (body look n) (sym line_is) ∙ means_says look n (tokens (line_text i)) i (line_means look n i f) in
      ap (line_says look n) line_is ∙ ap (λ t. cond t (Err why.Word) (body look n (after_label spelled))) parts_of_line.2 ∙ ap (body look n) parts_of_line.1 ∙ b

  pub label_none : label_of (tokens (line_text i)) ≡ None
  label_none = ap label_of line_is ∙ parts_of_line.0

  pub slots_again : slots_in (tokens (line_text i)) ≡ slots_of (mnemonic_of i)
  slots_again = ap slots_in line_is ∙ ap body_slots (parts_of_line.1 ∙ sym line_is) ∙ means_slots nowhere 0 (tokens (line_text i)) i (line_means nowhere 0 i f)

  short : (n s : ℕ) → s ≡ slots_of (mnemonic_of i) → n + slots_of (mnemonic_of i) ≤ 4096 → nat_lt 4096 (n + s) ≡ false
  short n s e h = grind (arith, nat_tests)

  pub nothing_wrong : (look : Look) (n : ℕ) → n + slots_of (mnemonic_of i) ≤ 4096 → wrong look n (tokens (line_text i)) ≡ None
  nothing_wrong look n h =
      ap (λ r. or_else (fault_of r) (cond (is_twice look (label_of (tokens (line_text i)))) (Some why.TwiceLabel)
      (cond (nat_lt 4096 (n + slots_in (tokens (line_text i)))) (Some why.TooLong) None))) (line_again look n)
      ∙ ap (λ l. cond (is_twice look l) (Some why.TwiceLabel) (cond (nat_lt 4096 (n + slots_in (tokens (line_text i)))) (Some why.TooLong) None)) label_none
      ∙ ap (λ b. cond b (Some why.TooLong) None) (short n (slots_in (tokens (line_text i))) slots_again h)

-- ---- both passes

outlined_again : (k : ℕ) (look : Look) (n : ℕ) (code : List Instr) → AllFitParts code → n + parts_slot_count code ≤ 4096
    → outlined k look n (map line_text code) ≡ Ok look
outlined_again k look n [] f h = refl
outlined_again k look n (i ∷ is) f h =
    let rest = map line_text is in
    let ts = tokens (line_text i) in
    ap (λ o. unless_wrong o k (outlined (k + 1) (with_label look (label_of ts) n) (n + slots_in ts) rest)) (nothing_wrong i f.0 look n (omega arith))
    ∙ ap (λ l. outlined (k + 1) (with_label look l n) (n + slots_in ts) rest) (label_none i f.0)
    ∙ ap (λ s. outlined (k + 1) look (n + s) rest) (slots_again i f.0)
    ∙ outlined_again (k + 1) look (n + slots_of (mnemonic_of i)) is f.1 (omega arith)

assembled_again : (k : ℕ) (look : Look) (n : ℕ) (code : List Instr) → AllFitParts code → assembled k look n (map line_text code) ≡ Ok code
assembled_again k look n [] f = refl
assembled_again k look n (i ∷ is) f =
    let rest = map line_text is in
    let ts = tokens (line_text i) in
    ap (λ r. with_said r k (assembled (k + 1) look (n + slots_in ts) rest)) (line_again i f.0 look n)
    ∙ ap (onto (λ l. i ∷ l)) (assembled_again (k + 1) look (n + slots_in ts) is f.1)

pub canonical_spells : (code : List Instr) → AllFitParts code → parts_slot_count code ≤ 4096 → meaning (text_of code) ≡ Ok code
canonical_spells code f h =
    ap (λ l. under (outlined 1 nowhere 0 l) l) (canonical_lines code f)
    ∙ ap (λ r. under r (map line_text code)) (outlined_again 1 nowhere 0 code f (omega arith))
    ∙ assembled_again 1 nowhere 0 code f

pub one_spelling : (i j : Instr) → FitsParts i → FitsParts j → line_text i ≡ line_text j → i ≡ j
one_spelling i j f g e =
    let k : ◌≡◌ {A = Result (Option Instr) Why} (Ok (Some i)) (Ok (Some j)) =
    sym (line_again i f nowhere 0) ∙ ap (λ l. line_says nowhere 0 (tokens l)) e ∙ line_again j g nowhere 0 in
    cc k
