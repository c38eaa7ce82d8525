-- One line of each pass.
use Rattle.std.proofs.Common.{◌≡◌, ◌≤◌, ◌+◌, ℕ, nat_lt, Bool, true, false, cond, List, [], ◌∷◌, ◌++◌, refl, sym, ap, ◌∙◌, arith, append_assoc, Option, Some}
use Rattle.std.proofs.Common.{None, Result, Ok, Err}
use mathlib.Core.Path.{fun_ext}
use Rattle.std.proofs.lemmas.Bool.Decides.{nat_tests}
use Rattle.std.proofs.lemmas.Map.Text.{btree_map_updates_str}
use Rattle.std.specs.BTreeMap as tree
use Rattle.std.specs.BTreeMap.{BTreeMap}
use Rattle.std.specs.Cmp.Lexicographic.{slice_cmp}
use Rattle.std.specs.Ordering.{nat_cmp}
use Rattle.std.specs.Str.{bytes_eq}
use denote.Ref.{Bor}
use Rattle.asm_text.specs.Tokens.{Lexeme, tokens}
use Rattle.isa_table.specs.declared.instr.Instr.{Instr}
use Rattle.asm_grammar.specs.declared.why.Why.{Why}
use Rattle.asm_grammar.specs.declared.why.Why.TheVariants as why
use Rattle.asm_grammar.specs.Grammar.{Look, label_of}
use Rattle.asm_grammar.specs.Reading.{fault_of, line_says}
use Rattle.asm_grammar.specs.Views.{look_in}
use Rattle.assembler.specs.declared.error.AsmError.{AsmError}
use Rattle.assembler.specs.Passes.{with_label, slots_in, is_twice, or_else, wrong, unless_wrong, outlined, onto, with_said, assembled, with_instr}

-- ---- labels

pub entered : (w : List ℕ) (m n : BTreeMap (Bor (List ℕ)) ℕ) (slot : ℕ)
    → tree.UpdatesBy (λ x y. slice_cmp nat_cmp x.now y.now) (λ k. slice_cmp nat_cmp w k.now) m n (Some slot) → look_in n ≡ with_label (look_in m) (Some w) slot
entered w m n slot u = fun_ext (λ cs. btree_map_updates_str w m n (Some slot) u cs)

below_at : (b : Bool) (n s : ℕ) (o : Option ℕ) → n ≤ 4096 → (o ≡ Some s → s ≤ 4096) → cond b (Some n) o ≡ Some s → s ≤ 4096
below_at true n s o l h e = let k : n ≡ s = cc e in omega arith
below_at false n s o l h e = h e

below : (f : Look) (label : Option (List ℕ)) (n : ℕ) → n ≤ 4096 → ((q : List ℕ) (s : ℕ) → f q ≡ Some s → s ≤ 4096) → (q : List ℕ) (s : ℕ)
    → with_label f label n q ≡ Some s → s ≤ 4096
below f None n l h q s e = h q s e
below f (Some w) n l h q s e = below_at (bytes_eq w q) n s (f q) l (h q s) e

pub below_after : (f g : Look) (label : Option (List ℕ)) (n : ℕ) → g ≡ with_label f label n → n ≤ 4096 → ((q : List ℕ) (s : ℕ) → f q ≡ Some s → s ≤ 4096)
    → (q : List ℕ) (s : ℕ) → g q ≡ Some s → s ≤ 4096
below_after f g label n e l h q s k = below f label n l h q s (sym (ap (λ (x : Look). x q) e) ∙ k)

-- ---- what isn't wrong

or_none : (a b : Option Why) → or_else a b ≡ None → (a ≡ None) × (b ≡ None)
or_none None b e = (refl, e)
or_none (Some w) b e = absurd (cc e)

tests_none : (t l : Bool) → cond t (Some why.TwiceLabel) (cond l (Some why.TooLong) None) ≡ None → (t ≡ false) × (l ≡ false)
tests_none true l e = absurd (cc e)
tests_none false true e = absurd (cc e)
tests_none false false e = (refl, refl)

pub record IsRight (look : Look) (n : ℕ) (ts : List Lexeme) : Type 0 where
  pub says : fault_of (line_says look n ts) ≡ None
  pub once : is_twice look (label_of ts) ≡ false
  pub short : n + slots_in ts ≤ 4096

pub right : (look : Look) (n : ℕ) (ts : List Lexeme) → wrong look n ts ≡ None → IsRight look n ts
right look n ts e =
    let k = or_none (fault_of (line_says look n ts)) _ e in
    let t = tests_none (is_twice look (label_of ts)) (nat_lt 4096 (n + slots_in ts)) k.1 in
    let l : nat_lt 4096 (n + slots_in ts) ≡ false = t.1 in
    record { says = k.0; once = t.0; short = grind (arith, nat_tests) }

-- ---- the first pass

pub outlined_next : (k : ℕ) (look new : Look) (n s : ℕ) (all rest : List (List ℕ)) (line : List ℕ) (label : Option (List ℕ)) → all ≡ line ∷ rest
    → None ≡ wrong look n (tokens line) → label ≡ label_of (tokens line) → s ≡ slots_in (tokens line)
    → new ≡ with_label look label n → outlined (k + 1) new (n + s) rest ≡ outlined k look n all
outlined_next k look new n s all rest line label e w l f g =
    rw (g, l, f) (ap (λ o. unless_wrong o k (outlined (k + 1) (with_label look (label_of (tokens line)) n) (n + slots_in (tokens line)) rest)) w
    ∙ ap (outlined k look n) (sym e))

-- ---- the second pass

-- each line of a text with nothing wrong in it is right under the labels before it
pub record GoesOn (look : Look) (k n s : ℕ) (rest : List (List ℕ)) : Type 0 where
  pub before : Look
  pub outlined : outlined (k + 1) before (n + s) rest ≡ Ok look
  pub short : n + s ≤ 4096

goes_at : (look before : Look) (k n : ℕ) (rest : List (List ℕ)) (line : List ℕ) (o : Option Why) → wrong before n (tokens line) ≡ o
    → unless_wrong o k (outlined (k + 1) (with_label before (label_of (tokens line)) n) (n + slots_in (tokens line)) rest) ≡ Ok look
    → GoesOn look k n (slots_in (tokens line)) rest
goes_at look before k n rest line None w h =
    record { before = with_label before (label_of (tokens line)) n; outlined = h; short = (right before n (tokens line) w).short }
goes_at look before k n rest line (Some v) w h = absurd (cc h)

pub goes_on : (look before : Look) (k n s : ℕ) (all rest : List (List ℕ)) (line : List ℕ) → all ≡ line ∷ rest → s ≡ slots_in (tokens line)
    → outlined k before n all ≡ Ok look → GoesOn look k n s rest
goes_on look before k n s all rest line e f h =
    rw f (goes_at look before k n rest line (wrong before n (tokens line)) refl (sym (ap (outlined k before n) e) ∙ h))

onto_more : (front : List Instr) (i : Instr) (r : Result (List Instr) AsmError)
    → onto (λ is. (front ++ i ∷ []) ++ is) r ≡ onto (λ is. front ++ is) (onto (λ is. i ∷ is) r)
onto_more front i (Ok is) = ap Ok (append_assoc front (i ∷ []) is)
onto_more front i (Err e) = refl

module _ (k : ℕ) (look : Look) (n s : ℕ) (all rest : List (List ℕ)) (line : List ℕ) (front : List Instr) (e : all ≡ line ∷ rest) where
  pub assembled_none : Ok None ≡ line_says look n (tokens line) → s ≡ slots_in (tokens line)
      → onto (λ is. front ++ is) (assembled (k + 1) look (n + s) rest) ≡ onto (λ is. front ++ is) (assembled k look n all)
  assembled_none h f =
      rw f (ap (λ x. onto (λ is. front ++ is) (with_said x k (assembled (k + 1) look (n + slots_in (tokens line)) rest))) h
      ∙ ap (λ l. onto (λ is. front ++ is) (assembled k look n l)) (sym e))

  pub assembled_some : (i : Instr) → Ok (Some i) ≡ line_says look n (tokens line) → s ≡ slots_in (tokens line)
      → onto (λ is. (front ++ i ∷ []) ++ is) (assembled (k + 1) look (n + s) rest) ≡ onto (λ is. front ++ is) (assembled k look n all)
  assembled_some i h f =
      onto_more front i (assembled (k + 1) look (n + s) rest)
      ∙ rw f (ap (λ x. onto (λ is. front ++ is) (with_said x k (assembled (k + 1) look (n + slots_in (tokens line)) rest))) h
      ∙ ap (λ l. onto (λ is. front ++ is) (assembled k look n l)) (sym e))

  pub assembled_said : (said : Option Instr) → Ok said ≡ line_says look n (tokens line) → s ≡ slots_in (tokens line)
      → onto (λ is. with_instr said front ++ is) (assembled (k + 1) look (n + s) rest) ≡ onto (λ is. front ++ is) (assembled k look n all)
  assembled_said None h f = assembled_none h f
  assembled_said (Some i) h f = assembled_some i h f
