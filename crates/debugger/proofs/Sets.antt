-- What is set after setting and clearing.
use Rattle.std.proofs.Common.{◌≡◌, ◌≢◌, ℕ, nat_eq, Bool, true, false, not, cond, ◌||◌, ◌&&◌, List, [], ◌∷◌, ◌++◌, inl, inr, refl, ap, subst, ◌∙◌, sym, arith}
use Rattle.std.specs.List.{list_any, filter}
use Rattle.std.proofs.lemmas.Bool.{eqb-true}
use Rattle.std.proofs.lemmas.Bool.Decides.{nat_tests, eqb_tells}
use Rattle.std.proofs.lemmas.Map.Views.{any-filter_same}
use Rattle.debugger.specs.declared.watch.Watch.{Watch}
use Rattle.debugger.specs.declared.commands.DebugCommand.TheVariants.{Break}
use Rattle.debugger.specs.declared.replies.Debugged.{Debugged}
use Rattle.debugger.specs.declared.replies.Debugged.TheVariants.{Done, NoSlot, Full}
use Rattle.debugger.specs.DebugState.{DebugState, is_same_watch}
use Rattle.debugger.specs.Changes.{Needs, with_break, left_by}
use Rattle.debugger.specs.Refusals.{Decides}
use Rattle.loader.specs.ValidCode.{IsAt}
use Rattle.debugger.specs.Laws as laws
use Rattle.debugger.proofs.Hits.{both}

-- ---- tests of two elements

pub or_true : (b : Bool) → (b || true) ≡ true
or_true true = refl
or_true false = refl

itself : (n : ℕ) → nat_eq n n ≡ true
itself n = grind (arith, nat_tests)

nat_other : (m n : ℕ) → m ≢ n → nat_eq m n ≡ false
nat_other m n h = grind (arith, nat_tests)

abbrev watch_of : ℕ → ℕ → ℕ → Watch
watch_of a b c = record { number = a; offset = b; length = c }

made : (a b c x y z : ℕ) → a ≡ x → b ≡ y → c ≡ z → watch_of a b c ≡ watch_of x y z
made a b c x y z e f g = rw (e, f, g) refl

same_exact : (r s : Watch) → is_same_watch r s ≡ true → r ≡ s
same_exact r s h =
    let p = both (nat_eq r.number s.number) (nat_eq r.offset s.offset && nat_eq r.length s.length) h in
    let q = both (nat_eq r.offset s.offset) (nat_eq r.length s.length) p.1 in
    made r.number r.offset r.length s.number s.offset s.length (eqb-true _ _ p.0) (eqb-true _ _ q.0) (eqb-true _ _ q.1)

same_itself : (r : Watch) → is_same_watch r r ≡ true
same_itself r = rw (itself r.number, itself r.offset, itself r.length) refl

same_other : (r s : Watch) → r ≢ s → is_same_watch r s ≡ false
same_other r s h = elim (is_same_watch r s) as (λ b. is_same_watch r s ≡ b → b ≡ false) [
  | true ↦ λ e. absurd (h (same_exact r s e))
  | false ↦ λ e. refl
] refl

-- ---- lists

added : {X : Type 0} (p : X → Bool) (xs : List X) (x : X) → p x ≡ true → list_any p (xs ++ x ∷ []) ≡ true
added p [] x h = rw h refl
added p (y ∷ ys) x h = rw (added p ys x h) (or_true (p y))

not_added : {X : Type 0} (p : X → Bool) (xs : List X) (x : X) → p x ≡ false → list_any p (xs ++ x ∷ []) ≡ list_any p xs
not_added p [] x h = rw h refl
not_added p (y ∷ ys) x h = rw (not_added p ys x h) refl

negated : (b : Bool) → b ≡ true → not b ≡ false
negated b h = rw h refl

affirmed : (b : Bool) → b ≡ false → not b ≡ true
affirmed b h = rw h refl

taken_out : {X : Type 0} (same : X → X → Bool) (n : X) (xs : List X) → list_any (same n) (filter (λ o. not (same n o)) xs) ≡ false
taken_out same n xs = any-filter_same (same n) (λ o. not (same n o)) false (λ k h. negated (same n k) h) xs

left_in : {X : Type 0} (same : X → X → Bool) (n m : X) → ((k : X) → same m k ≡ true → same n k ≡ false) → (xs : List X)
    → list_any (same m) (filter (λ o. not (same n o)) xs) ≡ list_any (same m) xs
left_in same n m apart xs = any-filter_same (same m) (λ o. not (same n o)) true (λ k h. affirmed (same n k) (apart k h)) xs

-- ---- elements that a state has, each once

module _ {X : Type 0} (same : X → X → Bool) (exact : (x y : X) → same x y ≡ true → x ≡ y) (itself : (x : X) → same x x ≡ true) (other : (x y : X)
    → x ≢ y → same x y ≡ false) where
  module _ (items : DebugState → List X) (with : X → DebugState → DebugState) (is : (x : X) (d : DebugState) → items (with x d) ≡ items d ++ x ∷ []) where
    -- the state has the element
    abbrev has : X → DebugState → Bool
    has x d = list_any (same x) (items d)

    set_here : (b : Bool) (x : X) (d : DebugState) → has x d ≡ b → has x (cond b d (with x d)) ≡ true
    set_here true x d e = e
    set_here false x d e = ap (list_any (same x)) (is x d) ∙ added (same x) (items d) x (itself x)

    set_else : (b : Bool) (x y : X) (d : DebugState) → y ≢ x → has y (cond b d (with x d)) ≡ has y d
    set_else true x y d h = refl
    set_else false x y d h = ap (list_any (same y)) (is x d) ∙ not_added (same y) (items d) x (other y x h)

    -- an element is set, and the others are as they were
    set : (x : X) (d : DebugState) → (has x (cond (has x d) d (with x d)) ≡ true) × ((y : X) → y ≢ x → has y (cond (has x d) d (with x d)) ≡ has y d)
    set x d = (set_here (has x d) x d refl, λ y h. set_else (has x d) x y d h)

  -- an element is taken out, and the others are as they were
  cleared : (x : X) (xs : List X) → (list_any (same x) (filter (λ o. not (same x o)) xs) ≡ false)
      × ((y : X) → y ≢ x → list_any (same y) (filter (λ o. not (same x o)) xs) ≡ list_any (same y) xs)
  cleared x xs = (taken_out same x xs, λ y h. left_in same x y (λ k e. other x k (λ also. h (exact y k e ∙ sym also))) xs)

-- ---- breakpoints

pub breaks_set : laws.SetBreaksAreSet
breaks_set = set nat_eq eqb-true itself nat_other (λ d. d.breakpoints) (λ slot d. record d { breakpoints = d.breakpoints ++ slot ∷ [] }) (λ slot d. refl)

pub breaks_cleared : laws.ClearedBreaksAreClear
breaks_cleared slot d = cleared nat_eq eqb-true itself nat_other slot d.breakpoints

-- ---- watched ranges

pub watches_set : laws.SetWatchesAreSet
watches_set = set is_same_watch same_exact same_itself same_other (λ d. d.watches) (λ r d. record d { watches = d.watches ++ r ∷ [] }) (λ r d. refl)

pub watches_cleared : laws.ClearedWatchesAreClear
watches_cleared r d = cleared is_same_watch same_exact same_itself same_other r d.watches

-- ---- breakpoints are at instructions

begins_with : (code : List ℕ) (slot : ℕ) (d : DebugState) → IsAt code slot → laws.BreaksBegin code d → laws.BreaksBegin code (with_break slot d)
begins_with code slot d at begins = λ other e.
    elim (eqb_tells other slot) [
      | inl same ↦ rw same.1 at
      | inr apart ↦ begins other (sym ((breaks_set slot d).1 other apart.1) ∙ e)
    ]

kept_by : (code : List ℕ) (slot : ℕ) (d : DebugState) (outcome : Debugged) → laws.BreaksBegin code d
    → Decides (Needs (Break slot) code d) (NoSlot ∷ Full ∷ []) Done outcome
    → laws.BreaksBegin code (left_by outcome d (with_break slot d))
kept_by code slot d Done begins (inl p) = absurd (cc)
kept_by code slot d Done begins (inr p) = begins_with code slot d p.0 begins
kept_by code slot d _ begins h = begins

pub breaks_begin : laws.BreaksStayAtInstructions
breaks_begin code slot old new outcome h begins = subst (λ (d : DebugState). laws.BreaksBegin code d) (sym h.1) (kept_by code slot old outcome begins h.0)
