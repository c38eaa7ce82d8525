-- The names of all mnemonics rise, so that a binary search finds each.
use Rattle.std.proofs.Common.{◌≡◌, ◌<◌, ◌≤◌, ◌+◌, ℕ, nat_lt, true, List, get_or, refl, sym, ap, ◌∙◌, Some, None, Ordering, Less, Equal, Greater, arith}
use Rattle.std.specs.Cmp.Lexicographic.{slice_cmp}
use Rattle.std.specs.Ordering.{nat_cmp}
use Rattle.asm_table.specs.declared.mnemonic.Mnemonic.{Mnemonic}
use Rattle.asm_table.specs.declared.mnemonic.Mnemonic.TheVariants.{Exit}
use Rattle.asm_table.specs.declared.named.TheConstants.{BY_NAME}
use Rattle.asm_table.specs.Mnemonics.{name}
use Rattle.asm_table.specs.Names.{named, nth}
use Rattle.asm_table.proofs.Searched.{rises, below_middle, above_middle, named_found, named_none, unequal, same_at}

names_rise : rises BY_NAME.now ≡ true
unfolding rises
names_rise = refl

-- how many mnemonics there are
abbrev pub count : ℕ
count = 106

-- how the k-th name compares with a word
abbrev pub compared : List ℕ → ℕ → Ordering
compared w k = slice_cmp nat_cmp (name (nth k)) w

-- All names before `low` are less than the word, all from `high` on are greater.
pub record Narrowed (w : List ℕ) (low high : ℕ) : Type 0 where
  pub below : (k : ℕ) → k < low → compared w k ≡ Less
  pub above : (k : ℕ) → high ≤ k → k < count → compared w k ≡ Greater
  pub ordered : low ≤ high
  pub bound : high ≤ count

pub all_of_them : (w : List ℕ) (n : ℕ) → n ≡ count → Narrowed w 0 n
all_of_them w n e = record { below = λ k h. absurd (omega arith); above = λ k h l. absurd (omega arith); ordered = omega arith; bound = omega arith }

pub narrowed_above : (w : List ℕ) (low high middle : ℕ) → Narrowed w low high → low ≤ middle → middle < high → compared w middle ≡ Less
    → Narrowed w (middle + 1) high
unfolding nth
narrowed_above w low high middle n le lt e = record {
  below = λ k h. below_middle BY_NAME.now w names_rise k middle Exit (omega arith) (omega (arith, n.bound)) e;
  above = n.above;
  ordered = omega arith;
  bound = n.bound;
}

pub narrowed_below : (w : List ℕ) (low high middle : ℕ) → Narrowed w low high → low ≤ middle → middle < high
    → compared w middle ≡ Greater → Narrowed w low middle
unfolding nth
narrowed_below w low high middle n le lt e = record {
  below = n.below;
  above = λ k h l. above_middle BY_NAME.now w names_rise k middle Exit h l e;
  ordered = le;
  bound = omega (arith, n.bound);
}

pub found : (w : List ℕ) (i : ℕ) → i < count → compared w i ≡ Equal → Some (nth i) ≡ named w
unfolding named nth
found w i h e = sym (named_found BY_NAME.now w i Exit names_rise h e)

pub not_found : (w : List ℕ) (low high : ℕ) → Narrowed w low high → high ≤ low → None ≡ named w
unfolding named nth
not_found w low high n le = sym (named_none BY_NAME.now w Exit
    (λ k h. unequal BY_NAME.now w Exit low k (nat_lt k low) refl (λ l. n.below k l) (λ l. n.above k (omega arith) h)))

-- what the code compared
pub compared_is : (w n : List ℕ) (m : Mnemonic) (k : ℕ) (o : Ordering) → m ≡ nth k → n ≡ name m → o ≡ slice_cmp nat_cmp n w → compared w k ≡ o
compared_is w n m k o e f g = ap (λ x. slice_cmp nat_cmp (name x) w) (sym e) ∙ ap (λ x. slice_cmp nat_cmp x w) (sym f) ∙ sym g

pub nth_is : (k : ℕ) (d : Mnemonic) → k < 106 → get_or BY_NAME.now k d ≡ nth k
unfolding nth
nth_is k d h = same_at BY_NAME.now k d Exit h
