-- How a command that may be refused for several reasons is answered.
use Rattle.std.specs.Prelude.{◌≡◌, ◌⊎◌, List, [], ◌∷◌}

-- The first need that isn't met decides: each outcome of the list tells that its need isn't met, and they are tested in
-- this order. Where all are met, the command is done.
abbrev pub Decides : {O : Type 0} → (O → Type 0) → List O → O → O → Type 0
Decides Needs [] done outcome = outcome ≡ done
Decides Needs (refusal ∷ refusals) done outcome = ((Needs refusal → ⊥) × (outcome ≡ refusal)) ⊎ (Needs refusal × Decides Needs refusals done outcome)
