-- One object more, of those that are listed.
use Rattle.std.proofs.Common.{◌≡◌, ℕ, suc, ◌+◌, true, false, Bool, cond, List, [], ◌∷◌, ◌++◌, refl, sym, ap, subst, ◌∙◌, arith}
use Rattle.std.proofs.lemmas.List.{append-nil}
use Rattle.placement.specs.declared.places.Place.{Place}
use Rattle.object_store.specs.Stores.{StoreState}
use Rattle.bpfagent_c.specs.Handing.{is_at, standing}

standing_more : (p : Place) (s : StoreState) (k : ℕ) → standing p s (k + 1) ≡ standing p s k ++ cond (is_at p s (k + 1)) ((k + 1) ∷ []) []
unfolding standing
standing_more p s k =
    let n : k + 1 ≡ suc k = omega arith in
    subst (λ (m : ℕ). standing p s m ≡ standing p s k ++ cond (is_at p s m) (m ∷ []) []) (sym n) refl

pub standing_in : (p : Place) (s : StoreState) (k : ℕ) (found : List ℕ) → found ≡ standing p s k → is_at p s (k + 1) ≡ true
    → found ++ (k + 1) ∷ [] ≡ standing p s (k + 1)
standing_in p s k found e there =
    ap (λ (l : List ℕ). l ++ (k + 1) ∷ []) e ∙ sym (standing_more p s k ∙ ap (λ (b : Bool). standing p s k ++ cond b ((k + 1) ∷ []) []) there)

pub standing_out : (p : Place) (s : StoreState) (k : ℕ) (found : List ℕ) → found ≡ standing p s k → is_at p s (k + 1) ≡ false → found ≡ standing p s (k + 1)
standing_out p s k found e gone =
    e ∙ sym (standing_more p s k ∙ ap (λ (b : Bool). standing p s k ++ cond b ((k + 1) ∷ []) []) gone ∙ append-nil (standing p s k))

pub standing_start : (p : Place) (s : StoreState) (found : List ℕ) → found ≡ [] → found ≡ standing p s 0
unfolding standing
standing_start p s found e = e

pub ruleset standing_steps = (standing_start, standing_in, standing_out)
