-- Operands are gathered in turn.
use Rattle.std.proofs.Common.{◌≡◌, ℕ, ◌+◌, ◌<◌, Bool, false, List, length, drop, get_or, refl, ap, ◌∙◌, Some, None, option_and_then}
use Rattle.std.proofs.lemmas.List.{at_drop_more}
use Rattle.asm_text.specs.Tokens.{Lexeme}
use Rattle.asm_table.specs.declared.mnemonic.Sort.{Sort}
use Rattle.asm_grammar.specs.Sorts.{operand_taken}
use Rattle.asm_grammar.specs.Writing.{Written}
use Rattle.asm_grammar.specs.Grammar.{Look}
use Rattle.asm_grammar.specs.Reading.{Gathered, gather_operands, step, added, next_operand}

module _ (look : Look) (n : ℕ) where
  pub step_some : (first : Bool) (g h : Gathered) (s : Sort) (w : Written) (ts rest : List Lexeme) → next_operand first ts ≡ Some (w, rest)
      → added look n g (operand_taken s w) ≡ Some h → step look n first g s ts ≡ Some (h, rest)
  unfolding step
  step_some first g h s w ts rest e f = rw e (rw f refl)

  step_none : (first : Bool) (g : Gathered) (s : Sort) (ts : List Lexeme) → next_operand first ts ≡ None → step look n first g s ts ≡ None
  unfolding step
  step_none first g s ts e = rw e refl

  step_no : (first : Bool) (g : Gathered) (s : Sort) (w : Written) (ts rest : List Lexeme) → next_operand first ts ≡ Some (w, rest)
      → added look n g (operand_taken s w) ≡ None → step look n first g s ts ≡ None
  unfolding step
  step_no first g s w ts rest e f = rw e (rw f refl)

  pub gathered_next : (i : ℕ) (d : Sort) (first : Bool) (g h : Gathered) (ss : List Sort) (w : Written) (ts rest : List Lexeme) → i < length ss
      → next_operand first ts ≡ Some (w, rest) → added look n g (operand_taken (get_or ss i d) w) ≡ Some h
      → gather_operands look n first g (drop i ss) ts ≡ gather_operands look n false h (drop (i + 1) ss) rest
  gathered_next i d first g h ss w ts rest l e f =
      at_drop_more (λ l. gather_operands look n first g l ts) ss i d l
      ∙ ap (option_and_then (λ (x : Gathered × List Lexeme). gather_operands look n false x.0 (drop (i + 1) ss) x.1))
      (step_some first g h (get_or ss i d) w ts rest e f)

  pub gathered_none : (i : ℕ) (d : Sort) (first : Bool) (g : Gathered) (ss : List Sort) (ts : List Lexeme) → i < length ss → next_operand first ts ≡ None
      → gather_operands look n first g (drop i ss) ts ≡ None
  gathered_none i d first g ss ts l e = at_drop_more (λ l. gather_operands look n first g l ts) ss i d l
      ∙ ap (option_and_then (λ (x : Gathered × List Lexeme). gather_operands look n false x.0 (drop (i + 1) ss) x.1)) (step_none first g (get_or ss i d) ts e)

  pub gathered_no : (i : ℕ) (d : Sort) (first : Bool) (g : Gathered) (ss : List Sort) (w : Written) (ts rest : List Lexeme) → i < length ss
      → next_operand first ts ≡ Some (w, rest) → added look n g (operand_taken (get_or ss i d) w) ≡ None
      → gather_operands look n first g (drop i ss) ts ≡ None
  gathered_no i d first g ss w ts rest l e f =
      at_drop_more (λ l. gather_operands look n first g l ts) ss i d l
      ∙ ap (option_and_then (λ (x : Gathered × List Lexeme). gather_operands look n false x.0 (drop (i + 1) ss) x.1))
      (step_no first g (get_or ss i d) w ts rest e f)
