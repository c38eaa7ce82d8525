-- A binary search finds what is there.
use Rattle.std.proofs.Common.{◌≡◌, ℕ, ◌+◌, ◌<◌, ◌≤◌, ◌&&◌, nat_lt, zero, suc, Bool, true, false, cond, List, [], ◌∷◌, length, drop, get_or, refl, sym, ap, ◌∙◌}
use Rattle.std.proofs.Common.{arith, Some, None, Ordering, Less, Equal, Greater}
use Rattle.std.proofs.lemmas.Bool.Decides.{nat_tests}
use Rattle.std.proofs.lemmas.List.{at_drop_more}
use Rattle.std.proofs.lemmas.Cmp.{nat_list_cmp_total}
use Rattle.std.proofs.lemmas.Map.Text.{is_eq-slice_cmp}
use Rattle.std.proofs.lemmas.Map.Lookups.{exact_bytes}
use Rattle.std.proofs.lemmas.Slice.Eq.{bytes_eq-Decides}
use Rattle.std.specs.Cmp.Lexicographic.{slice_cmp}
use Rattle.std.specs.Ordering.{nat_cmp, is_lt, is_eq, ordering_index}
use Rattle.std.specs.Str.{bytes_eq}
use Rattle.isa_table.specs.declared.instr.Reg.{Reg}
use Rattle.isa_table.proofs.Listed.{and_true}
use Rattle.asm_table.specs.declared.mnemonic.Mnemonic.{Mnemonic}
use Rattle.asm_table.specs.Mnemonics.{name}
use Rattle.asm_table.specs.Names.{named_in, register_in, register_name}

-- ---- one after the other

pub register_next : (rs : List Reg) (w : List ℕ) (i : ℕ) (d : Reg) → i < length rs → bytes_eq (register_name (get_or rs i d)) w ≡ false
    → register_in (drop i rs) w ≡ register_in (drop (i + 1) rs) w
register_next rs w i d h e = at_drop_more (λ l. register_in l w) rs i d h ∙ ap (λ b. cond b (Some (get_or rs i d)) (register_in (drop (i + 1) rs) w)) e

-- what is read within a list doesn't depend on the default
pub same_at : (ms : List Mnemonic) (k : ℕ) (d e : Mnemonic) → k < length ms → get_or ms k d ≡ get_or ms k e
same_at [] k d e h = absurd (omega arith)
same_at (m ∷ ms) zero d e h = refl
same_at (m ∷ ms) (suc k) d e h = same_at ms k d e (omega arith)

-- ---- names that rise

less_than : (o : Ordering) → is_lt o ≡ true → o ≡ Less
less_than Less e = refl
less_than Equal e = absurd (cc e)
less_than Greater e = absurd (cc e)

-- the names rise
unfoldable pub rises : List Mnemonic → Bool
rises [] = true
rises (m ∷ []) = true
rises (m ∷ k ∷ ms) = is_lt (slice_cmp nat_cmp (name m) (name k)) && rises (k ∷ ms)

tail_rises : (m : Mnemonic) (ms : List Mnemonic) → rises (m ∷ ms) ≡ true → rises ms ≡ true
unfolding rises
tail_rises m [] r = refl
tail_rises m (k ∷ ms) r = (and_true (is_lt (slice_cmp nat_cmp (name m) (name k))) (rises (k ∷ ms)) r).1

first_below : (m : Mnemonic) (ms : List Mnemonic) → rises (m ∷ ms) ≡ true → (j : ℕ) (d : Mnemonic) → j < length ms
    → slice_cmp nat_cmp (name m) (name (get_or ms j d)) ≡ Less
unfolding rises
first_below m [] r j d h = absurd (omega arith)
first_below m (k ∷ ms) r zero d h = less_than _ (and_true (is_lt (slice_cmp nat_cmp (name m) (name k))) (rises (k ∷ ms)) r).0
first_below m (k ∷ ms) r (suc j) d h =
    let p = and_true (is_lt (slice_cmp nat_cmp (name m) (name k))) (rises (k ∷ ms)) r in
    nat_list_cmp_total.trans (name m) (name k) (name (get_or ms j d)) (less_than _ p.0) (first_below k ms p.1 j d (omega arith))

pairs : (ms : List Mnemonic) → rises ms ≡ true → (i j : ℕ) (d : Mnemonic) → i < j → j < length ms
    → slice_cmp nat_cmp (name (get_or ms i d)) (name (get_or ms j d)) ≡ Less
pairs [] r i j d lt h = absurd (omega arith)
pairs (m ∷ ms) r i zero d lt h = absurd (omega arith)
pairs (m ∷ ms) r zero (suc j) d lt h = first_below m ms r j d (omega arith)
pairs (m ∷ ms) r (suc i) (suc j) d lt h = pairs ms (tail_rises m ms r) i j d (omega arith) (omega arith)

-- ---- against a word

index_bound : (o : Ordering) → ordering_index o ≤ 2
index_bound Less = omega arith
index_bound Equal = omega arith
index_bound Greater = omega arith

index_at : (x y w : List ℕ) (o : Ordering) → slice_cmp nat_cmp y w ≡ o → slice_cmp nat_cmp x y ≡ Less
    → ordering_index (slice_cmp nat_cmp x w) ≤ ordering_index o
index_at x y w Less e h = let k : ordering_index (slice_cmp nat_cmp x w) ≡ 0 = ap ordering_index (nat_list_cmp_total.trans x y w h e) in omega arith
index_at x y w Equal e h = let s : y ≡ w = exact_bytes y w e in
    let k : ordering_index (slice_cmp nat_cmp x w) ≡ 0 = ap (λ z. ordering_index (slice_cmp nat_cmp x z)) (sym s) ∙ ap ordering_index h in omega arith
index_at x y w Greater e h = index_bound (slice_cmp nat_cmp x w)

index_least : (x y w : List ℕ) → slice_cmp nat_cmp x y ≡ Less → ordering_index (slice_cmp nat_cmp x w) ≤ ordering_index (slice_cmp nat_cmp y w)
index_least x y w h = index_at x y w (slice_cmp nat_cmp y w) refl h

rise_at : (ms : List Mnemonic) (w : List ℕ) → rises ms ≡ true → (i j : ℕ) (d : Mnemonic) (b : Bool) → nat_lt i j ≡ b → i ≤ j → j < length ms
    → ordering_index (slice_cmp nat_cmp (name (get_or ms i d)) w) ≤ ordering_index (slice_cmp nat_cmp (name (get_or ms j d)) w)
rise_at ms w r i j d true e le h = let lt : i < j = grind (arith, nat_tests) in index_least _ _ w (pairs ms r i j d lt h)
rise_at ms w r i j d false e le h = let s : i ≡ j = grind (arith, nat_tests) in
    let k : ordering_index (slice_cmp nat_cmp (name (get_or ms i d)) w) ≡ ordering_index (slice_cmp nat_cmp (name (get_or ms j d)) w) =
    ap (λ n. ordering_index (slice_cmp nat_cmp (name (get_or ms n d)) w)) s in omega arith

index_less : (o : Ordering) → ordering_index o ≤ 0 → o ≡ Less
index_less Less h = refl
index_less Equal h = absurd (omega arith)
index_less Greater h = absurd (omega arith)

index_greater : (o : Ordering) → 2 ≤ ordering_index o → o ≡ Greater
index_greater Less h = absurd (omega arith)
index_greater Equal h = absurd (omega arith)
index_greater Greater h = refl

module _ (ms : List Mnemonic) (w : List ℕ) (r : rises ms ≡ true) where
  pub below_middle : (k middle : ℕ) (d : Mnemonic) → k ≤ middle → middle < length ms → slice_cmp nat_cmp (name (get_or ms middle d)) w ≡ Less
      → slice_cmp nat_cmp (name (get_or ms k d)) w ≡ Less
  below_middle k middle d le h e =
      let i : ordering_index (slice_cmp nat_cmp (name (get_or ms middle d)) w) ≡ 0 = ap ordering_index e in
      let l = rise_at ms w r k middle d (nat_lt k middle) refl le h in
      index_less _ (omega (arith, i, l))

  pub above_middle : (k middle : ℕ) (d : Mnemonic) → middle ≤ k → k < length ms → slice_cmp nat_cmp (name (get_or ms middle d)) w ≡ Greater
      → slice_cmp nat_cmp (name (get_or ms k d)) w ≡ Greater
  above_middle k middle d le h e =
      let i : ordering_index (slice_cmp nat_cmp (name (get_or ms middle d)) w) ≡ 2 = ap ordering_index e in
      let l = rise_at ms w r middle k d (nat_lt middle k) refl le h in
      index_greater _ (omega (arith, i, l))

-- ---- what was found, and what was not

named_here : (ms : List Mnemonic) → rises ms ≡ true → (i : ℕ) (d : Mnemonic) → i < length ms → named_in ms (name (get_or ms i d)) ≡ Some (get_or ms i d)
named_here [] r i d h = absurd (omega arith)
named_here (m ∷ ms) r zero d h = ap (λ b. cond b (Some m) (named_in ms (name m))) ((bytes_eq-Decides (name m) (name m)).1 refl)
named_here (m ∷ ms) r (suc i) d h =
    let other : bytes_eq (name m) (name (get_or ms i d)) ≡ false =
    sym (is_eq-slice_cmp (name m) (name (get_or ms i d))) ∙ ap is_eq (first_below m ms r i d (omega arith)) in
    ap (λ b. cond b (Some m) (named_in ms (name (get_or ms i d)))) other ∙ named_here ms (tail_rises m ms r) i d (omega arith)

pub named_found : (ms : List Mnemonic) (w : List ℕ) (i : ℕ) (d : Mnemonic) → rises ms ≡ true → i < length ms
    → slice_cmp nat_cmp (name (get_or ms i d)) w ≡ Equal → named_in ms w ≡ Some (get_or ms i d)
named_found ms w i d r h e = ap (named_in ms) (sym (exact_bytes (name (get_or ms i d)) w e)) ∙ named_here ms r i d h

pub named_none : (ms : List Mnemonic) (w : List ℕ) (d : Mnemonic)
    → ((k : ℕ) → k < length ms → is_eq (slice_cmp nat_cmp (name (get_or ms k d)) w) ≡ false) → named_in ms w ≡ None
named_none [] w d h = refl
named_none (m ∷ ms) w d h =
    ap (λ b. cond b (Some m) (named_in ms w)) (sym (is_eq-slice_cmp (name m) w) ∙ h 0 (omega arith)) ∙ named_none ms w d (λ k l. h (suc k) (omega arith))

pub unequal : (ms : List Mnemonic) (w : List ℕ) (d : Mnemonic) (at k : ℕ) (b : Bool) → nat_lt k at ≡ b
    → (k < at → slice_cmp nat_cmp (name (get_or ms k d)) w ≡ Less) → (at ≤ k → slice_cmp nat_cmp (name (get_or ms k d)) w ≡ Greater)
    → is_eq (slice_cmp nat_cmp (name (get_or ms k d)) w) ≡ false
unequal ms w d at k true e low high = let lt : k < at = grind (arith, nat_tests) in ap is_eq (low lt)
unequal ms w d at k false e low high = let le : at ≤ k = grind (arith, nat_tests) in ap is_eq (high le)
