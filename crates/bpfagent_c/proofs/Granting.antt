-- One grant more, of those that C hands in.
use Rattle.std.proofs.Common.{◌≡◌, ◌<◌, ℕ, suc, ◌+◌, List, [], ◌∷◌, ◌++◌, map, take, length, ap, sym, ◌∙◌, arith}
use Rattle.std.specs.Prelude.{get_or}
use Rattle.std.proofs.lemmas.List.{map-append}
use Rattle.std.proofs.Math.Seq.{take-suc}
use Rattle.machine.specs.declared.grants.Grant.{Grant}
use Rattle.bpfagent_c.specs.declared.shown.Granted.{Granted}
use Rattle.bpfagent_c.specs.Shown.{grant_of}

pub granted_more : (gs : List Granted) (i : ℕ) (d : Granted) (listed : List Grant) (g : Grant) → i < length gs → listed ≡ map grant_of (take i gs)
    → g ≡ grant_of (get_or gs i d)
    → listed ++ g ∷ [] ≡ map grant_of (take (i + 1) gs)
granted_more gs i d listed g h e k =
    let n : i + 1 ≡ suc i = omega arith in
    let t : take (i + 1) gs ≡ take i gs ++ get_or gs i d ∷ [] = ap (λ (j : ℕ). take j gs) n ∙ take-suc gs i d h in
    ap (λ (xs : List Grant). xs ++ g ∷ []) e ∙ ap (λ (x : Grant). map grant_of (take i gs) ++ x ∷ []) k
    ∙ sym (map-append grant_of (take i gs) (get_or gs i d ∷ [])) ∙ sym (ap (λ (xs : List Granted). map grant_of xs) t)
