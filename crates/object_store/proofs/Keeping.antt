-- A store stays as it is always kept.
use Rattle.std.proofs.Common.{◌≡◌, ℕ, ◌+◌, ◌<◌, ◌≤◌, zero, suc, false, List, [], ◌∷◌, ◌++◌, length, slice_index_or, map, set, replicate}
use Rattle.std.proofs.Common.{None, refl, sym, ap, ◌∙◌, arith}
use Rattle.std.proofs.lemmas.List.{length-map, map-append, map-set}
use Rattle.std.proofs.Math.Seq.{map-set_same}
use Rattle.placement.specs.declared.places.Place.{Place}
use Rattle.placement.specs.declared.places.Place.TheVariants.{Here}
use Rattle.memory.specs.Objects.{AreObjects, bytes_of, with_bytes, object_limit, object_bytes}
use Rattle.object_store.specs.Stores.{place_of, near_length, near_bytes}
use Rattle.scopes.specs.Windows.{window_count}
use Rattle.object_store.specs.Bodies.{Kept, IsKeptStore, bytes_in, place_in, scopes_in}
use Rattle.object_store.proofs.Objects_kept.{objects_made, objects_filled}
use Rattle.object_store.proofs.Listed.{body_at, no_body}
use Rattle.object_store.proofs.Counting.{uncounted_more, counts_at_first, none_held}

-- ---- the budget

-- where one place changes
pub near_placed : (objects : List (List ℕ)) (places : List Place) (n : ℕ) (p : Place) → n < length objects → length places ≡ length objects
    → near_bytes objects (set places n p) + near_length (place_of places n) (bytes_of objects n) ≡ near_bytes objects places
    + near_length p (bytes_of objects n)
near_placed [] places n p h e = absurd (omega arith)
near_placed (o ∷ os) [] n p h e = absurd (omega arith)
near_placed (o ∷ os) (q ∷ ps) zero p h e = omega arith
near_placed (o ∷ os) (q ∷ ps) (suc n) p h e = let g = near_placed os ps n p (omega arith) (omega arith) in omega (arith, g)

-- where the bytes of one object change
pub near_filled : (objects : List (List ℕ)) (places : List Place) (n : ℕ) (b : List ℕ) → n < length objects → length places ≡ length objects
    → near_bytes (with_bytes objects n b) places + near_length (place_of places n) (bytes_of objects n) ≡ near_bytes objects places
    + near_length (place_of places n) b
near_filled [] places n b h e = absurd (omega arith)
near_filled (o ∷ os) [] n b h e = absurd (omega arith)
near_filled (o ∷ os) (q ∷ ps) zero b h e = omega arith
near_filled (o ∷ os) (q ∷ ps) (suc n) b h e = let g = near_filled os ps n b (omega arith) (omega arith) in omega (arith, g)

-- where an object is made
pub near_made : (objects : List (List ℕ)) (places : List Place) (b : List ℕ) → length places ≡ length objects
    → near_bytes (objects ++ b ∷ []) (places ++ Here ∷ []) ≡ near_bytes objects places + length b
near_made [] [] b e = omega arith
near_made [] (q ∷ ps) b e = absurd (omega arith)
near_made (o ∷ os) [] b e = absurd (omega arith)
near_made (o ∷ os) (q ∷ ps) b e = let g = near_made os ps b (omega arith) in omega (arith, g)

pub same_length : (bodies : List Kept) → length (map place_in bodies) ≡ length (map bytes_in bodies)
same_length bodies = length-map bodies place_in ∙ sym (length-map bodies bytes_in)

pub in_bytes : (bodies : List Kept) (n : ℕ) → n < length bodies → n < length (map bytes_in bodies)
in_bytes bodies n h = let e = length-map bodies bytes_in in omega arith

-- where one object is another
near_set : (bodies : List Kept) (n : ℕ) (b : Kept) → n < length bodies
    → near_bytes (map bytes_in (set bodies n b)) (map place_in (set bodies n b)) + near_length (body_at bodies n).place (body_at bodies n).bytes
    ≡ near_bytes (map bytes_in bodies) (map place_in bodies) + near_length b.place b.bytes
near_set [] n b h = absurd (omega arith)
near_set (x ∷ xs) zero b h = omega arith
near_set (x ∷ xs) (suc n) b h = let g = near_set xs n b (omega arith) in omega (arith, g)

-- an object that isn't far is in the sum
pub near_one : (bodies : List Kept) (n : ℕ) → n < length bodies
    → near_length (body_at bodies n).place (body_at bodies n).bytes ≤ near_bytes (map bytes_in bodies) (map place_in bodies)
near_one bodies n h = let g = near_set bodies n no_body h in omega (arith, g)

pub not_zero : (objects : List (List ℕ)) (n : ℕ) → bytes_of objects 0 ≡ [] → 0 < length (bytes_of objects n) → 0 < n
not_zero objects zero z l = let e = rw z at l in absurd (omega (arith, e))
not_zero objects (suc n) z l = omega arith

-- ---- changes

-- one object is another
pub changed : (bodies : List Kept) (windows : List (List ℕ)) (budget spare left n : ℕ) (b : Kept) → IsKeptStore bodies windows budget spare → n < length bodies
    → 0 < n → b.scopes ≡ (body_at bodies n).scopes → length b.bytes ≤ object_bytes
    → left + near_length b.place b.bytes ≡ spare + near_length (body_at bodies n).place (body_at bodies n).bytes
    → IsKeptStore (set bodies n b) windows budget left
changed bodies windows budget spare left n b k h p scopes short room =
    let g = near_set bodies n b h in
    record {
      objects = rw (map-set bytes_in bodies n b) (objects_filled (map bytes_in bodies) n b.bytes k.objects p short);
      counts = rw (map-set_same scopes_in bodies n b no_body scopes) k.counts;
      windows_are = k.windows_are;
      budget_is = omega (arith, g, k.budget_is, room);
    }

pub made : (old new : List Kept) (body : Kept) (windows : List (List ℕ)) (budget spare left : ℕ) → IsKeptStore old windows budget spare
    → new ≡ old ++ body ∷ [] → body.place ≡ Here → body.scopes ≡ 0
    → length old ≤ object_limit → length body.bytes ≤ object_bytes → left + length body.bytes ≡ spare → IsKeptStore new windows budget left
made old new body windows budget spare left k e p s room short l =
    let bytes = ap (map bytes_in) e ∙ map-append bytes_in old (body ∷ []) in
    let places = ap (map place_in) e ∙ map-append place_in old (body ∷ []) in
    let scopes = ap (map scopes_in) e ∙ map-append scopes_in old (body ∷ []) in
    let g = near_made (map bytes_in old) (map place_in old) body.bytes (same_length old) in
    record {
      objects = rw bytes (objects_made (map bytes_in old) body.bytes k.objects (let c = length-map old bytes_in in omega (arith, room)) short);
      counts = rw (scopes, s) (uncounted_more (map scopes_in old) windows k.counts);
      windows_are = k.windows_are;
      budget_is = rw (bytes, places, p) (omega (arith, g, k.budget_is, l));
    }

-- ---- at first

-- a list of one value
pub all_same : {X : Type 0} (n : ℕ) (x : X) (xs : List X) → length xs ≡ n → ((k : ℕ) (d : X) → k < n → slice_index_or xs k d ≡ x) → xs ≡ replicate n x
all_same zero x [] e h = refl
all_same zero x (y ∷ ys) e h = absurd (omega arith)
all_same (suc n) x [] e h = absurd (omega arith)
all_same (suc n) x (y ∷ ys) e h =
    let first : y ≡ x = h 0 y (omega arith) in
    let rest : ys ≡ replicate n x = all_same n x ys (omega arith) (λ k d l. h (suc k) d (omega arith)) in
    rw (first, rest) refl

none_sized : (k : ℕ) → length (bytes_of ([] ∷ []) k) ≤ object_bytes
none_sized zero = omega arith
none_sized (suc k) = omega arith

objects_first : AreObjects ([] ∷ [])
objects_first = record { none_at_zero = refl; place_of_zero = omega arith; limit = omega arith; sizes = λ k. none_sized k }

pub first_store : (bodies : List Kept) (windows : List (List ℕ)) (budget : ℕ)
    → bodies ≡ record { bytes = []; place = Here; scopes = 0; parcel = None; clean = false } ∷ [] → windows ≡ replicate window_count []
    → IsKeptStore bodies windows budget budget
first_store bodies windows budget b w = rw (b, w) (record {
  objects = objects_first;
  counts = counts_at_first (replicate window_count []) (λ k. none_held window_count k);
  windows_are = refl;
  budget_is = omega arith;
})
