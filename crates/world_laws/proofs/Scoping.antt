-- What is in scope stays here.
use Rattle.std.proofs.Common.{◌≡◌, ◌+◌, ◌≤◌, ◌<◌, ℕ, zero, suc, nat_eq, nat_le, Bool, true, false, ◌||◌, cond, List, [], ◌∷◌, ◌++◌, length, get_or, set, refl}
use Rattle.std.proofs.Common.{sym, ap, ◌∙◌, subst, arith}
use Rattle.std.proofs.lemmas.List.{get_or-set_other}
use Rattle.std.proofs.lemmas.List.Folds.{list_any-append}
use Rattle.std.proofs.lemmas.List.Sums.{sum_by-cons}
use Rattle.std.proofs.lemmas.Bool.Decides.{nat_tests}
use Rattle.memory.specs.declared.access.Op.{Op}
use Rattle.memory.specs.declared.access.Reach.{Reach}
use Rattle.memory.specs.declared.access.Reach.TheVariants as reach
use Rattle.scopes.specs.Windows.{holds, noted, without_oldest, window_count}
use Rattle.placement.specs.declared.places.Place.{Place}
use Rattle.placement.specs.declared.places.Place.TheVariants.{Here}
use Rattle.object_store.specs.Stores.{StoreState, IsScoped, Touches, holders, place_of, weight, window_of}
use Rattle.object_store.proofs.Counting.{none_held}
use Rattle.world.specs.declared.replies.Reply.{Reply}
use Rattle.world.specs.declared.events.Event.{Event}
use Rattle.world.specs.WorldState.{WorldState, world_start}
use Rattle.world.specs.Answers.{Answers}
use Rattle.world_laws.specs.Moves.{ScopesStay}
use Rattle.world_laws.proofs.StoreCalls.{Grown, Filled, Placed}
use Rattle.world_laws.proofs.StoreChanges.{StoreChange, Unchanged, Called, Walked, store_changes, run_keeps}
use Rattle.world_laws.proofs.Placed.{Kept, step_keeps, at_end}

-- ---- counts

fewer : (windows : List (List ℕ)) (who k : ℕ) (v : List ℕ) → weight k v ≤ weight k (get_or windows who []) → holders (set windows who v) k ≤ holders windows k
unfolding holders
fewer [] who k v h = omega arith
fewer (w ∷ ws) zero k v h =
    let a : holders (v ∷ ws) k ≡ weight k v + holders ws k = sum_by-cons (weight k) v ws in
    let b : holders (w ∷ ws) k ≡ weight k w + holders ws k = sum_by-cons (weight k) w ws in
    omega (arith, a, b, h)
fewer (w ∷ ws) (suc who) k v h =
    let a : holders (w ∷ set ws who v) k ≡ weight k w + holders (set ws who v) k = sum_by-cons (weight k) w (set ws who v) in
    let b : holders (w ∷ ws) k ≡ weight k w + holders ws k = sum_by-cons (weight k) w ws in
    let g = fewer ws who k v h in
    omega (arith, a, b, g)

weight_none : (k : ℕ) (w : List ℕ) → weight k [] ≤ weight k w
weight_none k w = omega arith

implied : (a b : Bool) → (a ≡ true → b ≡ true) → cond a 1 0 ≤ cond b 1 0
implied true b h = let e = h refl in rw e (omega arith)
implied false b h = omega arith

held_tail : (a b c : Bool) → c ≡ false → (b || (c || false)) ≡ true → (a || b) ≡ true
held_tail true b c d h = refl
held_tail false true c d h = refl
held_tail false false c d h = absurd (cc)

held_all : (a c : Bool) → c ≡ false → (a || (c || false)) ≡ true → a ≡ true
held_all true c d h = refl
held_all false c d h = absurd (cc)

held_before : (full : Bool) (x k n : ℕ) (xs : List ℕ) → nat_eq k n ≡ false → holds k (cond full xs (x ∷ xs) ++ n ∷ []) ≡ true → holds k (x ∷ xs) ≡ true
held_before true x k n xs d h = let e = list_any-append (nat_eq k) xs (n ∷ []) in held_tail (nat_eq k x) (holds k xs) (nat_eq k n) d (sym e ∙ h)
held_before false x k n xs d h = let e = list_any-append (nat_eq k) (x ∷ xs) (n ∷ []) in held_all (holds k (x ∷ xs)) (nat_eq k n) d (sym e ∙ h)

noted_before : (b : Bool) (k n : ℕ) (w : List ℕ) → nat_eq k n ≡ false → holds k (cond b w (without_oldest w ++ n ∷ [])) ≡ true → holds k w ≡ true
noted_before true k n w d h = h
noted_before false k n [] d h = rw d at h
noted_before false k n (x ∷ xs) d h = held_before (nat_le 4 (length (x ∷ xs))) x k n xs d h

weight_noted : (k n : ℕ) (w : List ℕ) → nat_eq k n ≡ false → weight k (noted n w) ≤ weight k w
weight_noted k n w d = implied (holds k (noted n w)) (holds k w) (noted_before (holds n w) k n w d)

-- ---- one change

abbrev HasScopesHere : StoreState → Type 0
HasScopesHere s = (n : ℕ) → IsScoped s n → place_of s.places n ≡ Here

same_windows : (old new : StoreState) → new.windows ≡ old.windows → ((n : ℕ) → place_of new.places n ≡ place_of old.places n)
    → HasScopesHere old → HasScopesHere new
same_windows old new w p h n s = p n ∙ h n (subst (λ (ws : List (List ℕ)). 0 < holders ws n) w s)

noted_here : (b : Bool) (s : StoreState) (who n k : ℕ) → nat_eq k n ≡ b → HasScopesHere s → place_of s.places n ≡ Here
    → 0 < holders (set s.windows who (noted n (window_of s.windows who))) k → place_of s.places k ≡ Here
noted_here true s who n k e h p c = let i : k ≡ n = grind (arith, nat_tests) in ap (place_of s.places) i ∙ p
noted_here false s who n k e h p c = h k (let g =
    fewer s.windows who k (noted n (window_of s.windows who)) (weight_noted k n (window_of s.windows who) e) in omega (arith, g, c))

touch_here : (who : ℕ) (before after : StoreState) (n : ℕ) (op : Op) (r : Reach) → HasScopesHere before → Touches who before n op r after → HasScopesHere after
touch_here who before after n op (reach.Done v) f h = subst HasScopesHere (sym h.3) (λ k c. noted_here (nat_eq k n) before who n k refl f h.1 c)
touch_here who before after n op reach.Away f h = subst HasScopesHere (sym h.2) f
touch_here who before after n op reach.Outside f h = subst HasScopesHere (sym h.1) f
touch_here who before after n op _ f h = absurd h

here_kept : (who : ℕ) → Kept who HasScopesHere
here_kept who = record {
  touched = λ x y n op r f h. touch_here who x y n op r f h;
  closed = λ x f k c. f k (let g = fewer x.windows who k [] (weight_none k (window_of x.windows who)) in omega (arith, g, c));
}

-- what isn't in scope isn't asked for
moved_here : (b : Bool) (places : List Place) (n k : ℕ) (p : Place) → nat_eq k n ≡ b → (k ≡ n → ⊥) → place_of places k ≡ Here
    → place_of (set places n p) k ≡ Here
moved_here true places n k p e d h = absurd (d (grind (arith, nat_tests)))
moved_here false places n k p e d h = get_or-set_other places n k p Here d ∙ h

changed_here : (old new : StoreState) (r : Reply) → HasScopesHere old → StoreChange old r new → HasScopesHere new
changed_here old new r f (Unchanged q e) = subst HasScopesHere (sym e) f
changed_here old new r f (Called (Grown count room q e)) = subst HasScopesHere (sym e) (λ k c. at_end old.places k ∙ f k c)
changed_here old new r f (Called (Filled n bytes faults q l z e)) = subst HasScopesHere (sym e) f
changed_here old new r f (Called (Placed n a b faults m e)) =
    subst HasScopesHere (sym e) (λ k c. moved_here (nat_eq k n) old.places n k b refl
    (λ i. let s = subst (λ (j : ℕ). IsScoped old j) i c in m.unscoped (sym m.stands.1 ∙ f n s) s) (f k c))
changed_here old new r f (Walked m before after a q t) = step_keeps HasScopesHere m (here_kept m) before after old new a f t

-- ---- a run

abbrev Holds : WorldState → Type 0
Holds w = HasScopesHere w.store

one : (old new : WorldState) (c : Event) (r : Reply) → Holds old → Answers old c r new → Holds new
one old new c r o h = changed_here old.store new.store r o (store_changes old new c r h)

first : (budget faults : ℕ) → Holds (world_start budget faults)
first budget faults n s = let z = none_held window_count n in absurd (omega (arith, s, z))

pub scopes_stay : ScopesStay
scopes_stay budget faults cs rs new h = run_keeps Holds (λ x y c r k g. one x y c r k g) (world_start budget faults) new cs rs (first budget faults) h
