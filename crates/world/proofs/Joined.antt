-- Runs, joined.
use Rattle.std.proofs.Common.{◌≡◌, Bool, true, false, cond, List, [], ◌∷◌, ◌++◌, refl, subst}
use Rattle.world.specs.Run.{Runs}

pub Runs-append : {S A B : Type 0} (step : S → A → B → S → Type 0) (a b c : S) (xs : List A) (us : List B) (ys : List A) (vs : List B)
    → Runs step a xs us b → Runs step b ys vs c → Runs step a (xs ++ ys) (us ++ vs) c
Runs-append {S} step a b c [] [] ys vs p q = subst (λ (s : S). Runs step s ys vs c) p q
Runs-append step a b c (x ∷ xs) (u ∷ us) ys vs p q = (p.0, p.1, Runs-append step p.0 b c xs us ys vs p.2 q)
Runs-append step a b c [] (u ∷ us) ys vs p q = absurd p
Runs-append step a b c (x ∷ xs) [] ys vs p q = absurd p

-- a run whose first step is kept, or else changes nothing and is left out
pub kept_first : {S A B : Type 0} (Rest : S → List A → List B → Type 0) (b : Bool) (old mid : S) (x : A) (xs : List A) (u : B) (us : List B)
    → (b ≡ true → Rest mid xs us → Rest old (x ∷ xs) (u ∷ us)) → (b ≡ false → mid ≡ old) → Rest mid xs us → Rest old (cond b (x ∷ xs) xs) (cond b (u ∷ us) us)
kept_first Rest true old mid x xs u us kept same h = kept refl h
kept_first {S} Rest false old mid x xs u us kept same h = subst (λ (s : S). Rest s xs us) (same refl) h
