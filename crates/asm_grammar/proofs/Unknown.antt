-- A line is refused for its label exactly where it uses one that stands nowhere, and nothing else is wrong with it.
use Rattle.std.proofs.Common.{◌≡◌, ◌⊎◌, inl, inr, ℕ, ℤ, Bool, true, false, cond, List, [], ◌∷◌, ◌++◌, refl, sym, ap, ◌∙◌, subst, Option, Some, None, Err}
use Rattle.asm_text.specs.Tokens.{Lexeme}
use Rattle.isa_table.specs.declared.instr.Instr.{Instr}
use Rattle.asm_table.specs.declared.mnemonic.Mnemonic.{Mnemonic}
use Rattle.asm_table.specs.declared.mnemonic.Sort.{Sort}
use Rattle.asm_table.specs.declared.operands.AsmOperand.{AsmOperand}
use Rattle.asm_table.specs.declared.operands.AsmOperand.TheVariants as operand
use Rattle.asm_table.specs.Mnemonics.{sorts}
use Rattle.asm_table.specs.Parts.{instr_of_parts}
use Rattle.asm_grammar.specs.declared.why.Why.{}
use Rattle.asm_grammar.specs.declared.why.Why.TheVariants as why
use Rattle.asm_grammar.specs.Writing.{Written, more}
use Rattle.asm_grammar.specs.Sorts.{Taken, operand_taken}
use Rattle.asm_grammar.specs.Sorts.Taken.{No, Out, Is, To, LongTo}
use Rattle.asm_grammar.specs.Grammar.{Look, AimsNowhere, OneAimsNowhere, UsesUnknown, head}
use Rattle.asm_grammar.specs.Reading.{Gathered, nothing, gather_operands, step, added, aimed, next_operand, mnemonic_at, finished, judged, said, body}
use Rattle.asm_grammar.specs.Reading.{by_mnemonic, fault_of}
use Rattle.asm_grammar.proofs.Meant.{having, operand_again, same_pair, used_body}
use Rattle.asm_grammar.proofs.Found.{and_then_some, step_is, from, from_none, from_next, mnemonic_found}

judged_unknown : (t u : Bool) (o : Option Instr) → said (cond t (Err why.Range) (judged u o)) ≡ Err why.Label → u ≡ true
judged_unknown true u o e = absurd (cc e)
judged_unknown false u None e = absurd (cc e)
judged_unknown false true (Some i) e = refl
judged_unknown false false (Some i) e = absurd (cc e)

judged_used : (t u : Bool) (o : Option Instr) → u ≡ true → fault_of (said (cond t (Err why.Range) (judged u o))) ≡ None
    → said (cond t (Err why.Range) (judged u o)) ≡ Err why.Label
judged_used true u o h e = absurd (cc e)
judged_used false true None h e = absurd (cc e)
judged_used false true (Some i) h e = refl
judged_used false false o h e = absurd (cc h)

module _ (look : Look) (n : ℕ) where
  next_again : (first : Bool) (w : Written) (ws : List Written) → next_operand first (from first (w ∷ ws)) ≡ Some (w, more ws)
  next_again true w ws = operand_again w (more ws)
  next_again false w ws = operand_again w (more ws)

  -- ---- what was noted was used

  aimed_unknown : (f : ℤ → AsmOperand) (g h : Gathered) (o : Option ℕ) → aimed f n g o ≡ h → h.unknown ≡ true → (g.unknown ≡ true) ⊎ (o ≡ None)
  aimed_unknown f g h None e u = inr refl
  aimed_unknown f g h (Some slot) e u = inl (ap (λ (x : Gathered). x.unknown) e ∙ u)

  added_unknown : (g h : Gathered) (t : Taken) → added look n g t ≡ Some h → h.unknown ≡ true → (g.unknown ≡ true) ⊎ AimsNowhere look t
  added_unknown g h No e u = absurd (cc e)
  added_unknown g h Out e u = let j : having g.operands true g.unknown ≡ h = cc e in inl (ap (λ (x : Gathered). x.unknown) j ∙ u)
  added_unknown g h (Is o) e u = let j : having (g.operands ++ o ∷ []) g.out g.unknown ≡ h = cc e in inl (ap (λ (x : Gathered). x.unknown) j ∙ u)
  added_unknown g h (To w) e u = let j : aimed (λ z. operand.Offset z) n g (look w) ≡ h = cc e in aimed_unknown (λ z. operand.Offset z) g h (look w) j u
  added_unknown g h (LongTo w) e u = let j : aimed (λ z. operand.LongOffset z) n g (look w) ≡ h = cc e in
      aimed_unknown (λ z. operand.LongOffset z) g h (look w) j u

  record Used (first : Bool) (g : Gathered) (ss : List Sort) (ts : List Lexeme) : Type 0 where
    ws : List Written
    tokens : ts ≡ from first ws
    aims : (g.unknown ≡ true) ⊎ OneAimsNowhere look ss ws

  used_first : (g h : Gathered) (s : Sort) (ss : List Sort) (w : Written) (ws : List Written)
      → ((h.unknown ≡ true) → (g.unknown ≡ true) ⊎ AimsNowhere look (operand_taken s w)) → (h.unknown ≡ true) ⊎ OneAimsNowhere look ss ws
      → (g.unknown ≡ true) ⊎ OneAimsNowhere look (s ∷ ss) (w ∷ ws)
  used_first g h s ss w ws f (inr a) = inr (inr a)
  used_first g h s ss w ws f (inl u) = elim (f u) as (λ _. (g.unknown ≡ true) ⊎ OneAimsNowhere look (s ∷ ss) (w ∷ ws)) [ inl k ↦ inl k | inr k ↦ inr (inl k) ]

  gathered_unknown : (first : Bool) (g h : Gathered) (ss : List Sort) (ts : List Lexeme) → gather_operands look n first g ss ts ≡ Some h
      → h.unknown ≡ true → Used first g ss ts
  gathered_unknown first g h [] [] e u = let j : g ≡ h = cc e in
      record { ws = []; tokens = sym (from_none first); aims = inl (ap (λ (x : Gathered). x.unknown) j ∙ u) }
  gathered_unknown first g h [] (t ∷ ts) e u = absurd (cc e)
  gathered_unknown first g h (s ∷ ss) ts e u =
      let a = and_then_some _ (step look n first g s ts) h e in
      let k = step_is look n first g s ts a.0 a.1 in
      let r = gathered_unknown false a.0.0 h ss a.0.1 a.2 u in
      record {
        ws = k.0 ∷ r.ws;
        tokens = from_next first ts k.0 a.0.1 r.ws k.1 r.tokens;
        aims = used_first g a.0.0 s ss k.0 r.ws (added_unknown g a.0.0 (operand_taken s k.0) k.2) r.aims;
      }

  first_aims : (ss : List Sort) (ws : List Written) → (nothing.unknown ≡ true) ⊎ OneAimsNowhere look ss ws → OneAimsNowhere look ss ws
  first_aims ss ws (inl u) = absurd (let k : false ≡ true = u in cc k)
  first_aims ss ws (inr a) = a

  finished_unknown : (ts rest : List Lexeme) (m : Mnemonic) (o : Option Gathered) → ts ≡ head m ++ rest
      → gather_operands look n true nothing (sorts m) rest ≡ o → said (finished m o) ≡ Err why.Label → UsesUnknown look ts
  finished_unknown ts rest m None e f h = absurd (cc h)
  finished_unknown ts rest m (Some g) e f h =
      let r = gathered_unknown true nothing g (sorts m) rest f (judged_unknown g.out g.unknown (instr_of_parts m g.operands) h) in
      (m, r.ws, e ∙ ap (λ l. head m ++ l) r.tokens, first_aims (sorts m) r.ws r.aims)

  named_unknown : (ts : List Lexeme) (o : Option (Mnemonic × List Lexeme)) → mnemonic_at ts ≡ o → by_mnemonic look n o ≡ Err why.Label → UsesUnknown look ts
  named_unknown ts None e h = absurd (cc h)
  named_unknown ts (Some x) e h = finished_unknown ts x.1 x.0 (gather_operands look n true nothing (sorts x.0) x.1) (mnemonic_found ts x.0 x.1 e) refl h

  -- what is refused for its label uses one that stands nowhere
  pub label_used : (ts : List Lexeme) → body look n ts ≡ Err why.Label → UsesUnknown look ts
  label_used [] h = absurd (cc h)
  label_used (t ∷ ts) h = named_unknown (t ∷ ts) (mnemonic_at (t ∷ ts)) refl h

  -- ---- what is used was noted

  aimed_stays : (f : ℤ → AsmOperand) (g h : Gathered) (o : Option ℕ) → aimed f n g o ≡ h → g.unknown ≡ true → h.unknown ≡ true
  aimed_stays f g h None e u = sym (ap (λ (x : Gathered). x.unknown) e)
  aimed_stays f g h (Some slot) e u = sym (ap (λ (x : Gathered). x.unknown) e) ∙ u

  added_stays : (g h : Gathered) (t : Taken) → added look n g t ≡ Some h → g.unknown ≡ true → h.unknown ≡ true
  added_stays g h No e u = absurd (cc e)
  added_stays g h Out e u = let j : having g.operands true g.unknown ≡ h = cc e in sym (ap (λ (x : Gathered). x.unknown) j) ∙ u
  added_stays g h (Is o) e u = let j : having (g.operands ++ o ∷ []) g.out g.unknown ≡ h = cc e in sym (ap (λ (x : Gathered). x.unknown) j) ∙ u
  added_stays g h (To w) e u = let j : aimed (λ z. operand.Offset z) n g (look w) ≡ h = cc e in aimed_stays (λ z. operand.Offset z) g h (look w) j u
  added_stays g h (LongTo w) e u = let j : aimed (λ z. operand.LongOffset z) n g (look w) ≡ h = cc e in aimed_stays (λ z. operand.LongOffset z) g h (look w) j u

  unknown_stays : (first : Bool) (g h : Gathered) (ss : List Sort) (ts : List Lexeme) → gather_operands look n first g ss ts ≡ Some h
      → g.unknown ≡ true → h.unknown ≡ true
  unknown_stays first g h [] [] e u = let j : g ≡ h = cc e in sym (ap (λ (x : Gathered). x.unknown) j) ∙ u
  unknown_stays first g h [] (t ∷ ts) e u = absurd (cc e)
  unknown_stays first g h (s ∷ ss) ts e u =
      let a = and_then_some _ (step look n first g s ts) h e in
      let k = step_is look n first g s ts a.0 a.1 in
      unknown_stays false a.0.0 h ss a.0.1 a.2 (added_stays g a.0.0 (operand_taken s k.0) k.2 u)

  added_aims : (g h : Gathered) (t : Taken) → added look n g t ≡ Some h → AimsNowhere look t → h.unknown ≡ true
  added_aims g h No e a = absurd a
  added_aims g h Out e a = absurd a
  added_aims g h (Is o) e a = absurd a
  added_aims g h (To w) e a = let j : aimed (λ z. operand.Offset z) n g (look w) ≡ h = cc e in
      sym (ap (λ (x : Gathered). x.unknown) j) ∙ ap (λ o. (aimed (λ z. operand.Offset z) n g o).unknown) a
  added_aims g h (LongTo w) e a = let j : aimed (λ z. operand.LongOffset z) n g (look w) ≡ h = cc e in
      sym (ap (λ (x : Gathered). x.unknown) j) ∙ ap (λ o. (aimed (λ z. operand.LongOffset z) n g o).unknown) a

  gathered_aims : (first : Bool) (g h : Gathered) (ss : List Sort) (ws : List Written) (ts : List Lexeme) → ts ≡ from first ws
      → gather_operands look n first g ss ts ≡ Some h → OneAimsNowhere look ss ws → h.unknown ≡ true
  gathered_aims first g h [] ws ts t e o = absurd o
  gathered_aims first g h (s ∷ ss) [] ts t e o = absurd o
  gathered_aims first g h (s ∷ ss) (w ∷ ws) ts t e o =
      let a = and_then_some _ (step look n first g s ts) h e in
      let k = step_is look n first g s ts a.0 a.1 in
      let p = same_pair k.0 w a.0.1 (more ws) (sym k.1 ∙ ap (next_operand first) t ∙ next_again first w ws) in
      elim o as (λ _. h.unknown ≡ true) [
        | inl b ↦ unknown_stays false a.0.0 h ss a.0.1 a.2
            (added_aims g a.0.0 (operand_taken s k.0) k.2 (subst (λ v. AimsNowhere look (operand_taken s v)) (sym p.0) b))
        | inr b ↦ gathered_aims false a.0.0 h ss ws a.0.1 p.1 a.2 b
      ]

  finished_used : (m : Mnemonic) (ws : List Written) (o : Option Gathered) → gather_operands look n true nothing (sorts m) (from true ws) ≡ o
      → OneAimsNowhere look (sorts m) ws → fault_of (said (finished m o)) ≡ None → said (finished m o) ≡ Err why.Label
  finished_used m ws None f a e = absurd (cc e)
  finished_used m ws (Some g) f a e = judged_used g.out g.unknown (instr_of_parts m g.operands)
      (gathered_aims true nothing g (sorts m) ws (from true ws) refl f a) e

  -- what uses a label that stands nowhere is refused for it, unless something else is wrong
  pub used_label : (ts : List Lexeme) → UsesUnknown look ts → fault_of (body look n ts) ≡ None → body look n ts ≡ Err why.Label
  used_label ts u e =
      let b = used_body look n ts u.0 u.1 u.2 u.3 in
      b ∙ finished_used u.0 u.1 (gather_operands look n true nothing (sorts u.0) (from true u.1)) refl u.3 (sym (ap fault_of b) ∙ e)
