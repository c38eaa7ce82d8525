-- Stores that differ in the bytes of one object alone.
use Rattle.std.proofs.Common.{◌≡◌, ◌≢◌, ℕ, zero, suc, ◌+◌, ◌<◌, ◌≤◌, List, [], ◌∷◌, ◌++◌, length, set, refl, ap, sym, ◌∙◌, length-append, arith}
use Rattle.std.proofs.Math.ListN.{length-set}
use Rattle.std.proofs.lemmas.List.{get_or-set_other}
use Rattle.memory.specs.Objects.{bytes_of, with_bytes}
use Rattle.object_store.specs.Stores.{StoreState, near_bytes, near_length}
use Rattle.placement.specs.declared.places.Place.{Place}
use Rattle.placement.specs.declared.places.Place.TheVariants as place

-- the store, with these bytes for object n
abbrev pub blind : ℕ → List ℕ → StoreState → StoreState
blind n b s = record s { objects = with_bytes s.objects n b }

-- as many bytes as the object has
pub record Suits (n : ℕ) (b : List ℕ) (s : StoreState) : Type 0 where
  pub there : n < length s.objects
  pub long : length b ≡ length (bytes_of s.objects n)

pub other : (os : List (List ℕ)) (n k : ℕ) (b : List ℕ) → k ≢ n → bytes_of (set os n b) k ≡ bytes_of os k
other os n k b h = get_or-set_other os n k b [] h

left_alone : (os : List (List ℕ)) (x : List ℕ) (n : ℕ) → n < length os → bytes_of (os ++ x ∷ []) n ≡ bytes_of os n
left_alone [] x n h = absurd (omega (arith, h))
left_alone (y ∷ ys) x zero h = refl
left_alone (y ∷ ys) x (suc n) h = left_alone ys x n (omega (arith, h))

near_alike : (p : Place) (a b : List ℕ) → length a ≡ length b → near_length p a ≡ near_length p b
near_alike place.Far a b h = refl
near_alike place.Here a b h = h
near_alike place.Leaving a b h = h
near_alike place.Returning a b h = h

pub near_same : (os : List (List ℕ)) (ps : List Place) (n : ℕ) (b : List ℕ) → length b ≡ length (bytes_of os n) → near_bytes (set os n b) ps ≡ near_bytes os ps
near_same [] ps n b h = refl
near_same (o ∷ os) [] zero b h = refl
near_same (o ∷ os) [] (suc n) b h = refl
near_same (o ∷ os) (p ∷ ps) zero b h = ap (λ x. x + near_bytes os ps) (near_alike p b o h)
near_same (o ∷ os) (p ∷ ps) (suc n) b h = ap (λ x. near_length p o + x) (near_same os ps n b h)

-- the object is left as it was, and no number is taken away
pub record Leaves (n : ℕ) (old new : StoreState) : Type 0 where
  pub bytes : bytes_of new.objects n ≡ bytes_of old.objects n
  pub count : length old.objects ≤ length new.objects

module _ (n : ℕ) (b : List ℕ) (old new : StoreState) where
  pub suits_on : Suits n b old → Leaves n old new → Suits n b new
  suits_on f l = record { there = omega (arith, f.there, l.count); long = f.long ∙ ap length (sym l.bytes) }

module _ (n : ℕ) (old new : StoreState) where
  pub leaves_objects : new.objects ≡ old.objects → Leaves n old new
  leaves_objects e = record { bytes = ap (λ (x : List (List ℕ)). bytes_of x n) e; count = let l = ap length e in omega (arith, l) }

  pub leaves_same : new ≡ old → Leaves n old new
  leaves_same e = leaves_objects (ap (λ (s : StoreState). s.objects) e)

  pub leaves_set : (k : ℕ) (c : List ℕ) → k ≢ n → new.objects ≡ set old.objects k c → Leaves n old new
  leaves_set k c h e = record {
    bytes = ap (λ (x : List (List ℕ)). bytes_of x n) e ∙ other old.objects k n c (λ t. h (sym t));
    count = let l = ap length e in let m = length-set old.objects k c in omega (arith, l, m);
  }

  pub leaves_more : (x : List ℕ) → n < length old.objects → new.objects ≡ old.objects ++ x ∷ [] → Leaves n old new
  leaves_more x h e = record {
    bytes = ap (λ (y : List (List ℕ)). bytes_of y n) e ∙ left_alone old.objects x n h;
    count = let l = ap length e in let m = length-append old.objects (x ∷ []) in omega (arith, l, m);
  }

pub leaves_both : (n : ℕ) (a b c : StoreState) → Leaves n a b → Leaves n b c → Leaves n a c
leaves_both n a b c p q = record { bytes = q.bytes ∙ p.bytes; count = omega (arith, p.count, q.count) }
