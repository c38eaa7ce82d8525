-- What is wrong with a line, but for labels that stand nowhere, doesn't depend on the labels.
use Rattle.std.proofs.Common.{◌≡◌, ℕ, ◌&&◌, Bool, true, false, cond, List, [], ◌∷◌, ◌++◌, refl, sym, ap, ◌∙◌, Option, Some, None, is_some, option_and_then, Err}
use Rattle.std.proofs.Common.{ℤ, pos}
use Rattle.asm_text.specs.Tokens.{Lexeme}
use Rattle.isa_table.specs.declared.instr.Instr.{Instr}
use Rattle.asm_table.specs.declared.mnemonic.Mnemonic.{Mnemonic}
use Rattle.asm_table.specs.declared.mnemonic.Sort.{Sort}
use Rattle.asm_table.specs.declared.operands.AsmOperand.{AsmOperand}
use Rattle.asm_table.specs.declared.operands.AsmOperand.TheVariants as operand
use Rattle.asm_table.specs.Mnemonics.{sorts}
use Rattle.asm_table.specs.Parts.{instr_of_parts}
use Rattle.asm_table.proofs.Each.{of_sort, of_sorts, built_exactly}
use Rattle.asm_grammar.specs.declared.why.Why.TheVariants as why
use Rattle.asm_grammar.specs.Writing.{Written}
use Rattle.asm_grammar.specs.Sorts.{Taken, operand_taken, distance}
use Rattle.asm_grammar.specs.Sorts.Taken.{No, Out, Is, To, LongTo}
use Rattle.asm_grammar.specs.Grammar.{Look, has_stray, after_label}
use Rattle.asm_grammar.specs.Reading.{Gathered, nothing, gather_operands, step, added, aimed, next_operand, mnemonic_at, finished, judged, said, body}
use Rattle.asm_grammar.specs.Reading.{by_mnemonic, line_says, fault_of}
use Rattle.asm_grammar.proofs.Formed.{any_offset, any_long_offset}

-- an operand with no regard to where a label stands
kind : AsmOperand → AsmOperand
kind (operand.Offset z) = operand.Offset (pos 0)
kind (operand.LongOffset z) = operand.LongOffset (pos 0)
kind o = o

kinds : List AsmOperand → List AsmOperand
kinds [] = []
kinds (o ∷ os) = kind o ∷ kinds os

kinds-append : (os ps : List AsmOperand) → kinds (os ++ ps) ≡ kinds os ++ kinds ps
unfolding kinds
kinds-append [] ps = refl
kinds-append (o ∷ os) ps = ap (λ l. kind o ∷ l) (kinds-append os ps)

kind_sort : (s : Sort) (o : AsmOperand) → of_sort s (kind o) ≡ of_sort s o
unfolding kind
kind_sort s (operand.Offset z) = sym (any_offset s z)
kind_sort s (operand.LongOffset z) = sym (any_long_offset s z)
kind_sort s _ = refl

kinds_sorts : (ss : List Sort) (os : List AsmOperand) → of_sorts ss (kinds os) ≡ of_sorts ss os
unfolding kinds of_sorts
kinds_sorts [] [] = refl
kinds_sorts [] (o ∷ os) = refl
kinds_sorts (s ∷ ss) [] = refl
kinds_sorts (s ∷ ss) (o ∷ os) = ap (λ b. b && of_sorts ss (kinds os)) (kind_sort s o) ∙ ap (λ b. of_sort s o && b) (kinds_sorts ss os)

built_kinds : (m : Mnemonic) (os : List AsmOperand) → is_some (instr_of_parts m (kinds os)) ≡ is_some (instr_of_parts m os)
built_kinds m os = built_exactly m (kinds os) ∙ kinds_sorts (sorts m) os ∙ sym (built_exactly m os)

record Alike (g h : Gathered) : Type 0 where
  out : g.out ≡ h.out
  operands : kinds g.operands ≡ kinds h.operands

AreAlike : Option Gathered → Option Gathered → Type 0
AreAlike None None = Unit {0}
AreAlike (Some g) (Some h) = Alike g h
AreAlike _ _ = ⊥

one_more : (g h : Gathered) (o p : AsmOperand) → Alike g h → kind o ≡ kind p → kinds (g.operands ++ o ∷ []) ≡ kinds (h.operands ++ p ∷ [])
unfolding kinds
one_more g h o p a e = kinds-append g.operands (o ∷ []) ∙ ap (λ l. l ++ kinds (o ∷ [])) a.operands ∙ ap (λ x. kinds h.operands ++ x ∷ []) e
    ∙ sym (kinds-append h.operands (p ∷ []))

aimed_alike : (f : ℤ → AsmOperand) → ((y z : ℤ) → kind (f y) ≡ kind (f z)) → (m n : ℕ) (g h : Gathered) (a b : Option ℕ) → Alike g h
    → Alike (aimed f m g a) (aimed f n h b)
aimed_alike f k m n g h None None e = record { out = e.out; operands = one_more g h (f (pos 0)) (f (pos 0)) e refl }
aimed_alike f k m n g h None (Some t) e = record { out = e.out; operands = one_more g h (f (pos 0)) (f (distance t n)) e (k _ _) }
aimed_alike f k m n g h (Some s) None e = record { out = e.out; operands = one_more g h (f (distance s m)) (f (pos 0)) e (k _ _) }
aimed_alike f k m n g h (Some s) (Some t) e = record { out = e.out; operands = one_more g h (f (distance s m)) (f (distance t n)) e (k _ _) }

offsets_alike : (y z : ℤ) → kind (operand.Offset y) ≡ kind (operand.Offset z)
unfolding kind
offsets_alike y z = refl

long_offsets_alike : (y z : ℤ) → kind (operand.LongOffset y) ≡ kind (operand.LongOffset z)
unfolding kind
long_offsets_alike y z = refl

module _ (look look2 : Look) (m n : ℕ) where
  added_alike : (g h : Gathered) (t : Taken) → Alike g h → AreAlike (added look m g t) (added look2 n h t)
  unfolding AreAlike
  added_alike g h No a = tt
  added_alike g h Out a = record { out = refl; operands = a.operands }
  added_alike g h (Is o) a = record { out = a.out; operands = one_more g h o o a refl }
  added_alike g h (To w) a = aimed_alike (λ z. operand.Offset z) offsets_alike m n g h (look w) (look2 w) a
  added_alike g h (LongTo w) a = aimed_alike (λ z. operand.LongOffset z) long_offsets_alike m n g h (look w) (look2 w) a

  then_alike : (x y : Option Gathered) (ss : List Sort) (rest : List Lexeme) → AreAlike x y
      → ((g h : Gathered) → Alike g h → AreAlike (gather_operands look m false g ss rest) (gather_operands look2 n false h ss rest))
      → AreAlike (option_and_then (λ (p : Gathered
      × List Lexeme). gather_operands look m false p.0 ss p.1) (option_and_then (λ (g : Gathered). Some (g, rest)) x))
      (option_and_then (λ (p : Gathered × List Lexeme). gather_operands look2 n false p.0 ss p.1) (option_and_then (λ (g : Gathered). Some (g, rest)) y))
  unfolding AreAlike
  then_alike None None ss rest a f = tt
  then_alike (Some g) (Some h) ss rest a f = f g h a
  then_alike None (Some h) ss rest a f = absurd a
  then_alike (Some g) None ss rest a f = absurd a

  operand_alike : (g h : Gathered) (s : Sort) (ss : List Sort) (o : Option (Written × List Lexeme)) → Alike g h
      → ((rest : List Lexeme) (g h : Gathered) → Alike g h → AreAlike (gather_operands look m false g ss rest) (gather_operands look2 n false h ss rest))
      → AreAlike (option_and_then (λ (p : Gathered
      × List Lexeme). gather_operands look m false p.0 ss p.1)
      (option_and_then (λ (x : Written × List Lexeme). option_and_then (λ (k : Gathered). Some (k, x.1)) (added look m g (operand_taken s x.0))) o))
      (option_and_then (λ (p : Gathered × List Lexeme). gather_operands look2 n false p.0 ss p.1)
      (option_and_then (λ (x : Written × List Lexeme). option_and_then (λ (k : Gathered). Some (k, x.1)) (added look2 n h (operand_taken s x.0))) o))
  unfolding AreAlike
  operand_alike g h s ss None a f = tt
  operand_alike g h s ss (Some p) a f = then_alike (added look m g (operand_taken s p.0)) (added look2 n h (operand_taken s p.0)) ss p.1
      (added_alike g h (operand_taken s p.0) a) (λ g h a. f p.1 g h a)

  gathered_alike : (first : Bool) (g h : Gathered) (ss : List Sort) (ts : List Lexeme) → Alike g h
      → AreAlike (gather_operands look m first g ss ts) (gather_operands look2 n first h ss ts)
  unfolding AreAlike step
  gathered_alike first g h [] [] a = a
  gathered_alike first g h [] (t ∷ ts) a = tt
  gathered_alike first g h (s ∷ ss) ts a = operand_alike g h s ss (next_operand first ts) a (λ rest g h a. gathered_alike false g h ss rest a)

  judged_alike : (t u v : Bool) (a b : Option Instr) → is_some a ≡ is_some b
      → fault_of (said (cond t (Err why.Range) (judged u a))) ≡ fault_of (said (cond t (Err why.Range) (judged v b)))
  judged_alike true u v a b e = refl
  judged_alike false u v None None e = refl
  judged_alike false u v None (Some j) e = absurd (cc e)
  judged_alike false u v (Some i) None e = absurd (cc e)
  judged_alike false true true (Some i) (Some j) e = refl
  judged_alike false true false (Some i) (Some j) e = refl
  judged_alike false false true (Some i) (Some j) e = refl
  judged_alike false false false (Some i) (Some j) e = refl

  finished_alike : (k : Mnemonic) (x y : Option Gathered) → AreAlike x y → fault_of (said (finished k x)) ≡ fault_of (said (finished k y))
  unfolding AreAlike
  finished_alike k None None a = refl
  finished_alike k (Some g) (Some h) a =
      ap (λ t. fault_of (said (cond t (Err why.Range) (judged g.unknown (instr_of_parts k g.operands))))) a.out
      ∙ judged_alike h.out g.unknown h.unknown (instr_of_parts k g.operands) (instr_of_parts k h.operands) (sym (built_kinds k g.operands)
      ∙ ap (λ os. is_some (instr_of_parts k os)) a.operands ∙ built_kinds k h.operands)
  finished_alike k None (Some h) a = absurd a
  finished_alike k (Some g) None a = absurd a

  named_alike : (o : Option (Mnemonic × List Lexeme)) → fault_of (by_mnemonic look m o) ≡ fault_of (by_mnemonic look2 n o)
  named_alike None = refl
  named_alike (Some x) = finished_alike x.0 _ _ (gathered_alike true nothing nothing (sorts x.0) x.1 (record { out = refl; operands = refl }))

  body_alike : (ts : List Lexeme) → fault_of (body look m ts) ≡ fault_of (body look2 n ts)
  body_alike [] = refl
  body_alike (t ∷ ts) = named_alike (mnemonic_at (t ∷ ts))

  stray_alike : (b : Bool) (ts : List Lexeme) → fault_of (cond b (Err why.Word) (body look m ts)) ≡ fault_of (cond b (Err why.Word) (body look2 n ts))
  stray_alike true ts = refl
  stray_alike false ts = body_alike ts

  -- what is wrong with a line by itself is so under any labels, at any slot
  pub line_alike : (ts : List Lexeme) → fault_of (line_says look m ts) ≡ fault_of (line_says look2 n ts)
  line_alike ts = stray_alike (has_stray ts) (after_label ts)
