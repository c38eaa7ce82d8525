-- Objects stay objects where one is made, or gets other bytes.
use Rattle.std.proofs.Common.{◌≡◌, ℕ, ◌<◌, ◌≤◌, zero, suc, List, [], ◌∷◌, ◌++◌, length, get_or, set, refl, length-append, arith, ◌∙◌}
use Rattle.std.proofs.lemmas.List.{get_or_append_left, length-set}
use Rattle.memory.specs.Objects.{AreObjects, with_bytes, object_limit, object_bytes}

-- objects stay objects where one is made
short_end : (objects : List (List ℕ)) (b : List ℕ) (k n : ℕ) → length (get_or objects k []) ≤ n → length b ≤ n → length (get_or (objects ++ b ∷ []) k []) ≤ n
short_end [] b zero n h l = l
short_end [] b (suc k) n h l = omega arith
short_end (x ∷ xs) b zero n h l = h
short_end (x ∷ xs) b (suc k) n h l = short_end xs b k n h l

pub objects_made : (objects : List (List ℕ)) (b : List ℕ) → AreObjects objects → length objects ≤ object_limit → length b ≤ object_bytes
    → AreObjects (objects ++ b ∷ [])
objects_made objects b o room l =
    let count = length-append objects (b ∷ []) in
    record {
      none_at_zero = get_or_append_left objects (b ∷ []) [] 0 o.place_of_zero ∙ o.none_at_zero;
      place_of_zero = omega (arith, o.place_of_zero);
      limit = omega arith;
      sizes = λ k. short_end objects b k object_bytes (o.sizes k) l;
    }

-- objects stay objects where one gets other bytes
size_at : (objects : List (List ℕ)) (n k : ℕ) (b : List ℕ) (most : ℕ) → length b ≤ most → length (get_or objects k []) ≤ most
    → length (get_or (set objects n b) k []) ≤ most
size_at [] n k b most l h = h
size_at (x ∷ xs) zero zero b most l h = l
size_at (x ∷ xs) zero (suc k) b most l h = h
size_at (x ∷ xs) (suc n) zero b most l h = h
size_at (x ∷ xs) (suc n) (suc k) b most l h = size_at xs n k b most l h

first_at : (objects : List (List ℕ)) (n : ℕ) (b : List ℕ) → 0 < n → get_or (set objects n b) 0 [] ≡ get_or objects 0 []
first_at objects zero b h = absurd (omega arith)
first_at [] (suc n) b h = refl
first_at (x ∷ xs) (suc n) b h = refl

pub objects_filled : (objects : List (List ℕ)) (n : ℕ) (b : List ℕ) → AreObjects objects → 0 < n → length b ≤ object_bytes → AreObjects (with_bytes objects n b)
objects_filled objects n b o p l =
    let count = length-set objects n b in
    record {
      none_at_zero = first_at objects n b p ∙ o.none_at_zero;
      place_of_zero = omega (arith, o.place_of_zero);
      limit = omega (arith, o.limit);
      sizes = λ k. size_at objects n k b object_bytes l (o.sizes k);
    }
