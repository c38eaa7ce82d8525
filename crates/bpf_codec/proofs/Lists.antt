-- Tests and searches over a list.
use Rattle.std.proofs.Common.{◌≡◌, ℕ, zero, suc, ◌+◌, ◌<◌, Bool, true, false, cond, List, [], ◌∷◌, length, get_or, Option, Some, None, ◌&&◌, ◌||◌, refl, sym}
use Rattle.std.proofs.Common.{arith, inl, inr, ◌⊎◌}
use Rattle.std.specs.Prelude.{Contains}
use Rattle.std.specs.List.{list_any, list_all, filter, find}
use Rattle.isa_table.proofs.Listed.{and_true}

pub both : (a b : Bool) → a ≡ true → b ≡ true → (a && b) ≡ true
both true true g h = refl
both true false g h = absurd (cc)
both false b g h = absurd (cc)

-- the element is in the list
abbrev pub Has : {A : Type 0} → List A → A → Type 0
Has [] x = ⊥
Has (y ∷ ys) x = (y ≡ x) ⊎ Has ys x

pub has_contained : {A : Type 0} (xs : List A) (x : A) → Contains xs x → Has xs x
has_contained {A} xs x c = at xs c.0 c.1 c.2
  where
    at : (ys : List A) (k : ℕ) → k < length ys → get_or ys k x ≡ x → Has ys x
    at [] k h e = absurd (omega (arith, h))
    at (y ∷ ys) zero h e = inl e
    at (y ∷ ys) (suc k) h e = inr (at ys k (omega (arith, h)) e)

pub passes : {A : Type 0} (p : A → Bool) (xs : List A) (x : A) → list_all p xs ≡ true → Has xs x → p x ≡ true
passes p [] x t h = absurd h
passes p (y ∷ ys) x t (inl h) = rw (sym h) ((and_true _ _ t).0)
passes p (y ∷ ys) x t (inr h) = passes p ys x ((and_true _ _ t).1) h

pub has_filtered : {A : Type 0} (p : A → Bool) (xs : List A) (x : A) → Has xs x → p x ≡ true → Has (filter p xs) x
has_filtered p [] x h t = absurd h
has_filtered {A} p (y ∷ ys) x h t = go (p y) refl h (λ g. has_filtered p ys x g t)
  where
    go : (b : Bool) → p y ≡ b → (y ≡ x) ⊎ Has ys x → (Has ys x → Has (filter p ys) x) → Has (cond b (y ∷ filter p ys) (filter p ys)) x
    go true e (inl g) r = inl g
    go true e (inr g) r = inr (r g)
    go false e (inl g) r = absurd (let f : p x ≡ false = rw (sym g) e in cc)
    go false e (inr g) r = r g

pub filtered : {A : Type 0} (p : A → Bool) (xs : List A) (x : A) → Has (filter p xs) x → Has xs x × (p x ≡ true)
filtered p [] x h = absurd h
filtered {A} p (y ∷ ys) x h = go (p y) refl h (filtered p ys x)
  where
    go : (b : Bool) → p y ≡ b → Has (cond b (y ∷ filter p ys) (filter p ys)) x → (Has (filter p ys) x → Has ys x × (p x ≡ true))
        → ((y ≡ x) ⊎ Has ys x) × (p x ≡ true)
    go true e (inl g) r = (inl g, rw (sym g) e)
    go true e (inr g) r = (inr (r g).0, (r g).1)
    go false e g r = (inr (r g).0, (r g).1)

-- a test that implies that of a filter finds as much in what is filtered
pub any_filtered : {A : Type 0} (q p : A → Bool) (xs : List A) → ((x : A) → q x ≡ true → p x ≡ true) → list_any q (filter p xs) ≡ list_any q xs
any_filtered q p [] h = refl
any_filtered {A} q p (x ∷ xs) h = go (q x) (p x) refl refl (any_filtered q p xs h)
  where
    go : (a b : Bool) → q x ≡ a → p x ≡ b → list_any q (filter p xs) ≡ list_any q xs
        → list_any q (cond b (x ∷ filter p xs) (filter p xs)) ≡ (a || list_any q xs)
    go true true e g r = rw e refl
    go true false e g r = absurd (let k : p x ≡ true = h x e in cc)
    go false true e g r = rw e r
    go false false e g r = r

pub any_has : {A : Type 0} (q : A → Bool) (xs : List A) (x : A) → Has xs x → q x ≡ true → list_any q xs ≡ true
any_has q [] x h t = absurd h
any_has q (y ∷ ys) x (inl h) t = let e : q y ≡ true = rw h t in rw e refl
any_has q (y ∷ ys) x (inr h) t = rw (any_has q ys x h t) (or_true (q y))
  where
    or_true : (b : Bool) → (b || true) ≡ true
    or_true true = refl
    or_true false = refl

-- what is found
pub found : {A : Type 0} (p : A → Bool) (xs : List A) (x : A) → find p xs ≡ Some x → Has xs x × (p x ≡ true)
found p [] x e = absurd (cc)
found {A} p (y ∷ ys) x e = go (p y) refl e (found p ys x)
  where
    go : (b : Bool) → p y ≡ b → cond b (Some y) (find p ys) ≡ Some x → (find p ys ≡ Some x → Has ys x × (p x ≡ true)) → ((y ≡ x) ⊎ Has ys x) × (p x ≡ true)
    go true t h r = let s : y ≡ x = cc in (inl s, rw (sym s) t)
    go false t h r = (inr (r h).0, (r h).1)

pub not_found : {A : Type 0} (p : A → Bool) (xs : List A) → find p xs ≡ None → list_any p xs ≡ false
not_found p [] e = refl
not_found {A} p (y ∷ ys) e = go (p y) refl e (not_found p ys)
  where
    go : (b : Bool) → p y ≡ b → cond b (Some y) (find p ys) ≡ None → (find p ys ≡ None → list_any p ys ≡ false) → (b || list_any p ys) ≡ false
    go true t h r = absurd (cc)
    go false t h r = r h

pub some_found : {A : Type 0} (p : A → Bool) (xs : List A) (x : A) → Has xs x → p x ≡ true → (y : A) × (find p xs ≡ Some y)
some_found {A} p xs x h t = go (find p xs) refl
  where
    go : (r : Option A) → find p xs ≡ r → (y : A) × (find p xs ≡ Some y)
    go None e = absurd (let a : list_any p xs ≡ true = any_has p xs x h t in let b : list_any p xs ≡ false = not_found p xs e in cc)
    go (Some y) e = (y, e)

pub any_found : {A : Type 0} (p : A → Bool) (xs : List A) → list_any p xs ≡ true → (x : A) × Has xs x × (p x ≡ true)
any_found p [] e = absurd (cc)
any_found {A} p (y ∷ ys) e = go (p y) refl e (any_found p ys)
  where
    go : (b : Bool) → p y ≡ b → (b || list_any p ys) ≡ true → (list_any p ys ≡ true → (x : A) × Has ys x × (p x ≡ true))
        → (x : A) × ((y ≡ x) ⊎ Has ys x) × (p x ≡ true)
    go true t h r = (y, inl refl, t)
    go false t h r = let k = r h in (k.0, inr k.1, k.2)

-- a test of each element, by its place
abbrev pub each_place : {A : Type 0} → (ℕ → A → Bool) → ℕ → List A → Bool
each_place t i [] = true
each_place t i (x ∷ xs) = t i x && each_place t (suc i) xs

pub at_place : {A : Type 0} (t : ℕ → A → Bool) (i : ℕ) (xs : List A) → each_place t i xs ≡ true → (k : ℕ) (d : A) → k < length xs
    → t (i + k) (get_or xs k d) ≡ true
at_place t i [] h k d p = absurd (omega arith)
at_place t i (x ∷ xs) h zero d p = let e : i + 0 ≡ i = omega arith in rw e ((and_true _ _ h).0)
at_place t i (x ∷ xs) h (suc k) d p =
    let e : i + suc k ≡ suc i + k = omega arith in
    rw e (at_place t (suc i) xs ((and_true _ _ h).1) k d (omega arith))
