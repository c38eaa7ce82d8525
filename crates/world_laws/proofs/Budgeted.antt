-- What isn't far fits into the budget.
use Rattle.std.proofs.Common.{◌≡◌, ◌≤◌, ℕ, zero, suc, List, [], ◌∷◌, length, replicate, refl, sym, subst, arith}
use Rattle.std.proofs.lemmas.List.{length-replicate}
use Rattle.memory.specs.declared.access.Op.{Op}
use Rattle.memory.specs.declared.access.Reach.{Reach}
use Rattle.memory.specs.declared.access.Reach.TheVariants as reach
use Rattle.memory.specs.Objects.{bytes_of, with_bytes}
use Rattle.memory.specs.Access.{after}
use Rattle.memory.proofs.Lengths.{length-after}
use Rattle.placement.specs.declared.places.Place.{Place}
use Rattle.placement.specs.declared.places.Place.TheVariants.{Here, Leaving, Far, Returning}
use Rattle.object_store.specs.Stores.{StoreState, Touches, near_length, near_bytes}
use Rattle.object_store.proofs.Keeping.{near_placed, near_made}
use Rattle.world.specs.declared.replies.Reply.{Reply}
use Rattle.world.specs.declared.events.Event.{Event}
use Rattle.world.specs.WorldState.{WorldState, world_start}
use Rattle.world.specs.Answers.{Answers}
use Rattle.world_laws.specs.Moves.{BudgetHolds}
use Rattle.world_laws.proofs.StoreCalls.{Grown, Filled, Placed}
use Rattle.world_laws.proofs.StoreChanges.{StoreChange, Unchanged, Called, Walked, store_changes, run_keeps}
use Rattle.world_laws.proofs.Placed.{Kept, step_keeps, HasPlaces, below, changed_places}

-- ---- the sum

no_more : (p : Place) (a b : List ℕ) → length b ≤ length a → near_length p b ≤ near_length p a
no_more Here a b h = h
no_more Leaving a b h = h
no_more Far a b h = omega arith
no_more Returning a b h = h

near_filled : (objects : List (List ℕ)) (places : List Place) (n : ℕ) (b : List ℕ) → length b ≤ length (bytes_of objects n)
    → near_bytes (with_bytes objects n b) places ≤ near_bytes objects places
near_filled [] places n b h = omega arith
near_filled (o ∷ os) [] zero b h = omega arith
near_filled (o ∷ os) [] (suc n) b h = omega arith
near_filled (o ∷ os) (q ∷ ps) zero b h = let g = no_more q o b h in omega (arith, g)
near_filled (o ∷ os) (q ∷ ps) (suc n) b h = let g = near_filled os ps n b h in omega (arith, g)

-- ---- one change

record Fits (budget : ℕ) (s : StoreState) : Type 0 where
  same : s.budget ≡ budget
  fits : near_bytes s.objects s.places ≤ s.budget

touch_fits : (budget who : ℕ) (before after : StoreState) (n : ℕ) (op : Op) (r : Reach) → Fits budget before
    → Touches who before n op r after → Fits budget after
touch_fits budget who before next n op (reach.Done v) f h =
    let l = length-after op (bytes_of before.objects n) h.0 in
    subst (Fits budget) (sym h.3) (record {
      same = f.same;
      fits = let g = near_filled before.objects before.places n (after op (bytes_of before.objects n)) (omega arith) in omega (arith, g, f.fits);
    })
touch_fits budget who before next n op reach.Away f h = subst (Fits budget) (sym h.2) f
touch_fits budget who before next n op reach.Outside f h = subst (Fits budget) (sym h.1) f
touch_fits budget who before next n op _ f h = absurd h

fits_kept : (budget who : ℕ) → Kept who (Fits budget)
fits_kept budget who = record {
  touched = λ x y n op r f h. touch_fits budget who x y n op r f h;
  closed = λ x f. record { same = f.same; fits = f.fits };
}

changed_fits : (budget : ℕ) (old new : StoreState) (r : Reply) → HasPlaces old → Fits budget old → StoreChange old r new → Fits budget new
changed_fits budget old new r p f (Unchanged q e) = subst (Fits budget) (sym e) f
changed_fits budget old new r p f (Called (Grown count room q e)) =
    let g = near_made old.objects old.places (replicate count 0) p in
    let zeros : List ℕ = replicate count 0 in
    let l : length zeros ≡ count = length-replicate count 0 in
    subst (Fits budget) (sym e) (record { same = f.same; fits = omega (arith, g, l, room) })
changed_fits budget old new r p f (Called (Filled n bytes faults q l z e)) =
    let g = near_filled old.objects old.places n bytes z in
    subst (Fits budget) (sym e) (record { same = f.same; fits = omega (arith, g, f.fits) })
changed_fits budget old new r p f (Called (Placed n a b faults m e)) =
    let i = below old.objects n m.stands.0 in
    let g = rw m.stands.1 at (near_placed old.objects old.places n b i p) in
    subst (Fits budget) (sym e) (record { same = f.same; fits = let k = m.fits f.fits in omega (arith, g, k) })
changed_fits budget old new r p f (Walked m before next a q t) = step_keeps (Fits budget) m (fits_kept budget m) before next old new a f t

-- ---- a run

record Holds (budget : ℕ) (w : WorldState) : Type 0 where
  placed : HasPlaces w.store
  fits : Fits budget w.store

one : (budget : ℕ) (old new : WorldState) (c : Event) (r : Reply) → Holds budget old → Answers old c r new → Holds budget new
one budget old new c r o h = let g = store_changes old new c r h in
    record { placed = changed_places old.store new.store r o.placed g; fits = changed_fits budget old.store new.store r o.placed o.fits g }

pub budget_holds : BudgetHolds
budget_holds budget faults cs rs new h =
    let o = run_keeps (Holds budget) (λ x y c r k g. one budget x y c r k g) (world_start budget faults) new cs rs (record {
      placed = refl;
      fits = record { same = refl; fits = omega arith };
    }) h in
    omega (arith, o.fits.fits, o.fits.same)
