-- The replies tell where each object is.
use Rattle.std.proofs.Common.{◌≡◌, ◌≢◌, ◌<◌, ℕ, zero, suc, nat_eq, Bool, true, false, cond, List, [], ◌∷◌, ◌++◌, length, length-append, length-set, replicate}
use Rattle.std.proofs.Common.{◌+◌, set, refl, sym, ap, ◌∙◌, subst, arith}
use Rattle.std.proofs.lemmas.List.{get_or-set_same, get_or-set_other}
use Rattle.std.proofs.lemmas.Bool.Decides.{nat_tests}
use Rattle.memory.specs.declared.access.Op.{Op}
use Rattle.memory.specs.declared.access.Reach.{Reach}
use Rattle.memory.specs.declared.access.Reach.TheVariants as reach
use Rattle.memory.specs.Objects.{bytes_of}
use Rattle.placement.specs.declared.places.Place.{Place}
use Rattle.placement.specs.declared.places.Place.TheVariants.{Here}
use Rattle.object_store.specs.Stores.{StoreState, store_memory, Touches, place_of, with_window}
use Rattle.machine.specs.declared.state.Stepped.{Stepped}
use Rattle.machine.specs.MachineState.{MachineState}
use Rattle.machine.specs.TableStep.{TableStep}
use Rattle.machine.proofs.Carried.{step_carries}
use Rattle.world.specs.declared.replies.Reply.{Reply}
use Rattle.world.specs.Run.{Runs}
use Rattle.world.specs.declared.events.Event.{Event}
use Rattle.world.specs.WorldState.{WorldState, world_start}
use Rattle.world.specs.Answers.{Answers}
use Rattle.world.specs.Places.{placed, place_from}
use Rattle.world_laws.specs.Moves.{PlacesAreRead}
use Rattle.world_laws.proofs.StoreCalls.{Grown, Filled, Placed, quiet}
use Rattle.world_laws.proofs.StoreChanges.{StoreChange, Unchanged, Called, Walked, store_changes}

-- ---- what each access and the closing of scopes keep, a step keeps

pub record Kept (who : ℕ) (Holds : StoreState → Type 0) : Type 0 where
  pub touched : (before after : StoreState) (n : ℕ) (op : Op) (r : Reach) → Holds before → Touches who before n op r after → Holds after
  pub closed : (before : StoreState) → Holds before → Holds (with_window before who [])

pub step_keeps : (Holds : StoreState → Type 0) (who : ℕ) → Kept who Holds → (old new : MachineState) (before after : StoreState) (a : Stepped)
    → Holds before → TableStep (store_memory who) old before a new after → Holds after
step_keeps Holds who k old new before after a h t =
    (step_carries true (store_memory who) (store_memory who) (λ (s : StoreState). s) Holds (record {
      reached = λ x y n op r b _ g. (g, k.touched x y n op r b g);
      closed = λ x y b g. (g, subst Holds (sym g) (k.closed x b));
      measured = λ x n. refl;
    }) old new before after a h refl t).1

-- ---- places

abbrev pub HasPlaces : StoreState → Type 0
HasPlaces s = length s.places ≡ length s.objects

pub below : (objects : List (List ℕ)) (k : ℕ) → 0 < length (bytes_of objects k) → k < length objects
below [] k h = absurd (omega arith)
below (o ∷ objects) zero h = omega arith
below (o ∷ objects) (suc k) h = let g = below objects k h in omega arith

-- a step changes no place
record Unmoved (places : List Place) (count : ℕ) (s : StoreState) : Type 0 where
  same : s.places ≡ places
  length_is : length s.objects ≡ count

touch_unmoved : (places : List Place) (count who : ℕ) (before after : StoreState) (n : ℕ) (op : Op) (r : Reach) → Unmoved places count before
    → Touches who before n op r after → Unmoved places count after
touch_unmoved places count who before after n op (reach.Done v) u h = record {
  same = ap (λ (s : StoreState). s.places) h.3 ∙ u.same;
  length_is = ap (λ (s : StoreState). length s.objects) h.3 ∙ (length-set before.objects n _ ∙ u.length_is);
}
touch_unmoved places count who before after n op reach.Away u h = subst (λ (s : StoreState). Unmoved places count s) (sym h.2) u
touch_unmoved places count who before after n op reach.Outside u h = subst (λ (s : StoreState). Unmoved places count s) (sym h.1) u
touch_unmoved places count who before after n op _ u h = absurd h

unmoved_kept : (places : List Place) (count who : ℕ) → Kept who (Unmoved places count)
unmoved_kept places count who = record {
  touched = λ x y n op r u h. touch_unmoved places count who x y n op r u h;
  closed = λ x u. record { same = u.same; length_is = u.length_is };
}

pub step_places : (who : ℕ) (old new : MachineState) (before after : StoreState) (a : Stepped) → TableStep (store_memory who) old before a new after
    → after.places ≡ before.places
step_places who old new before after a t =
    (step_keeps (Unmoved before.places (length before.objects)) who (unmoved_kept before.places (length before.objects) who) old new before after a
    (record { same = refl; length_is = refl }) t).same

pub step_count : (who : ℕ) (old new : MachineState) (before after : StoreState) (a : Stepped) → TableStep (store_memory who) old before a new after
    → length after.objects ≡ length before.objects
step_count who old new before after a t =
    (step_keeps (Unmoved before.places (length before.objects)) who (unmoved_kept before.places (length before.objects) who) old new before after a
    (record { same = refl; length_is = refl }) t).length_is

-- a new object is here
pub at_end : (places : List Place) (k : ℕ) → place_of (places ++ Here ∷ []) k ≡ place_of places k
at_end [] zero = refl
at_end [] (suc k) = refl
at_end (p ∷ places) zero = refl
at_end (p ∷ places) (suc k) = at_end places k

beyond : (places : List Place) → place_of places (length places) ≡ Here
beyond [] = refl
beyond (p ∷ places) = beyond places

grown_place : (b : Bool) (places : List Place) (n k : ℕ) → nat_eq n k ≡ b → n ≡ length places
    → place_of (places ++ Here ∷ []) k ≡ cond b Here (place_of places k)
grown_place true places n k e l = let s : k ≡ length places = grind (arith, nat_tests) in at_end places k ∙ (ap (place_of places) s ∙ beyond places)
grown_place false places n k e l = at_end places k

set_place : (b : Bool) (places : List Place) (n k : ℕ) (p : Place) → nat_eq n k ≡ b → n < length places
    → place_of (set places n p) k ≡ cond b p (place_of places k)
set_place true places n k p e h = let s : k ≡ n = grind (arith, nat_tests) in rw s (get_or-set_same places n p Here h)
set_place false places n k p e h = let s : k ≢ n = grind (arith, nat_tests) in get_or-set_other places n k p Here s

-- ---- one change

pub changed_places : (old new : StoreState) (r : Reply) → HasPlaces old → StoreChange old r new → HasPlaces new
changed_places old new r p (Unchanged q e) = subst HasPlaces (sym e) p
changed_places old new r p (Called (Grown count room t e)) =
    subst HasPlaces (sym e) (length-append old.places (Here ∷ []) ∙ (ap (λ n. n + 1) p ∙ sym (length-append old.objects (replicate count 0 ∷ []))))
changed_places old new r p (Called (Filled n bytes faults q l z e)) = subst HasPlaces (sym e) (p ∙ sym (length-set old.objects n bytes))
changed_places old new r p (Called (Placed n a b faults m e)) = subst HasPlaces (sym e) (length-set old.places n b ∙ p)
changed_places old new r p (Walked m before after a q t) =
    ap (λ (ps : List Place). length ps) (step_places m before after old new a t) ∙ (p ∙ sym (step_count m before after old new a t))

there : (k : ℕ) (old new : StoreState) (r : Reply) → HasPlaces old → StoreChange old r new → place_of new.places k ≡ placed k (place_of old.places k) r
there k old new r p (Unchanged q e) = ap (λ (s : StoreState). place_of s.places k) e ∙ sym (quiet r k _ q)
there k old new r p (Called (Grown count room t e)) =
    ap (λ (s : StoreState). place_of s.places k) e
    ∙ (grown_place (nat_eq (length old.objects) k) old.places (length old.objects) k refl (sym p) ∙ sym (ap (placed k (place_of old.places k)) t))
there k old new r p (Called (Filled n bytes faults q l z e)) = ap (λ (s : StoreState). place_of s.places k) e ∙ sym (quiet r k _ q)
there k old new r p (Called (Placed n a b faults m e)) =
    ap (λ (s : StoreState). place_of s.places k) e
    ∙ (set_place (nat_eq n k) old.places n k b refl (let i = below old.objects n m.stands.0 in omega (arith, i, p)) ∙ sym (m.replied k (place_of old.places k)))
there k old new r p (Walked m before after a q t) = ap (λ (ps : List Place). place_of ps k) (step_places m before after old new a t) ∙ sym (quiet r k _ q)

-- ---- a run

read_from : (n : ℕ) (old new : WorldState) (cs : List Event) (rs : List Reply) → HasPlaces old.store → Runs Answers old cs rs new
    → place_of new.store.places n ≡ place_from n (place_of old.store.places n) rs
read_from n old new [] [] p h = ap (λ (w : WorldState). place_of w.store.places n) h
read_from n old new (c ∷ cs) (r ∷ rs) p h =
    let g = store_changes old h.0 c r h.1 in
    read_from n h.0 new cs rs (changed_places old.store h.0.store r p g) h.2 ∙ ap (λ (q : Place). place_from n q rs) (there n old.store h.0.store r p g)
read_from n old new [] (r ∷ rs) p h = absurd h
read_from n old new (c ∷ cs) [] p h = absurd h

first_here : (n : ℕ) → place_of (Here ∷ []) n ≡ Here
first_here zero = refl
first_here (suc n) = refl

pub places_are_read : PlacesAreRead
places_are_read budget faults cs rs new h n = read_from n (world_start budget faults) new cs rs refl h ∙ ap (λ (q : Place). place_from n q rs) (first_here n)
