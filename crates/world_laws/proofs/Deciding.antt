-- The first need that isn't met decides: so there is one outcome.
use Rattle.std.proofs.Common.{◌≡◌, ◌⊎◌, List, [], ◌∷◌, inl, inr, sym, ◌∙◌}
use Rattle.debugger.specs.Refusals.{Decides}

-- two outcomes of which this holds are the same
abbrev pub HasOne : {O : Type 0} → (O → Type 0) → Type 0
HasOne {O} Holds = (a b : O) → Holds a → Holds b → a ≡ b

-- An outcome that tells of a need that isn't met, or one that comes where it is met: a step of `Decides`, where what is told
-- may be more than one outcome.
abbrev pub Unless : {O : Type 0} → Type 0 → (O → Type 0) → (O → Type 0) → O → Type 0
Unless need refused met outcome = ((need → ⊥) × refused outcome) ⊎ (need × met outcome)

pub unless_once : {O : Type 0} (need : Type 0) (refused met : O → Type 0) → HasOne refused → HasOne met → HasOne (Unless need refused met)
unless_once need refused met one other a b (inl g) (inl h) = one a b g.1 h.1
unless_once need refused met one other a b (inl g) (inr h) = absurd (g.0 h.0)
unless_once need refused met one other a b (inr g) (inl h) = absurd (h.0 g.0)
unless_once need refused met one other a b (inr g) (inr h) = other a b g.1 h.1

-- one outcome alone
pub this_once : {O : Type 0} (outcome : O) → HasOne (λ (o : O). o ≡ outcome)
this_once outcome a b g h = g ∙ sym h

pub decides_once : {O : Type 0} (Needs : O → Type 0) (refusals : List O) (done : O) → HasOne (Decides Needs refusals done)
decides_once Needs [] done = this_once done
decides_once Needs (r ∷ rs) done = unless_once (Needs r) (λ o. o ≡ r) (Decides Needs rs done) (this_once r) (decides_once Needs rs done)
