-- Runs: one lawful step after the other.
use Rattle.std.specs.Prelude.{◌≡◌, List, [], ◌∷◌}

-- one step for each question, with its answer, in order, from the first state to the last
abbrev pub Runs : {S A B : Type 0} → (S → A → B → S → Type 0) → S → List A → List B → S → Type 0
Runs step old [] [] new = new ≡ old
Runs {S} step old (a ∷ questions) (b ∷ answers) new = (mid : S) × step old a b mid × Runs step mid questions answers new
Runs step old [] (b ∷ answers) new = ⊥
Runs step old (a ∷ questions) [] new = ⊥
