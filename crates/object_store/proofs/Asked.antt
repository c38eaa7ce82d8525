-- Calls of a far store, one after the other.
use Rattle.std.proofs.Common.{◌≡◌, ℕ, List, [], ◌∷◌, ◌++◌, length, Some, Ok, Err, refl, subst}
use Rattle.far_store.specs.declared.fault.StoreFault.{StoreFault}
use Rattle.far_store.specs.declared.fault.StoreFault.TheVariants.{Damaged}
use Rattle.far_store.specs.Calls.Call.{Get}
use Rattle.far_store.specs.Calls.{Call, Calls, AsksInVain}

pub one_call : {X : Type 0} (called : X → Call → X → Type 0) (a b : X) (c : Call) → called a c b → Calls called a (c ∷ []) b
one_call called a b c h = (b, h, refl)

pub then_call : {X : Type 0} (called : X → Call → X → Type 0) (a b d : X) (cs : List Call) (c : Call) → Calls called a cs b → called b c d
    → Calls called a (cs ++ c ∷ []) d
then_call {X} called a b d [] c p h = (d, subst (λ (x : X). called x c d) p h, refl)
then_call called a b d (e ∷ cs) c p h = (p.0, p.1, then_call called p.0 b d cs c p.2 h)

pub got_fault : {X : Type 0} (called : X → Call → X → Type 0) (a b : X) (bytes : List ℕ) (count : ℕ) (f : StoreFault) → called a (Get bytes (Err f)) b
    → AsksInVain called a (Some bytes) count f b
got_fault called a b bytes count f h = record { outcome = Err f; asked = (b, h, refl); refused = refl }

pub got_others : {X : Type 0} (called : X → Call → X → Type 0) (a b : X) (bytes came : List ℕ) (count : ℕ) → called a (Get bytes (Ok came)) b
    → (length came ≡ count → ⊥) → AsksInVain called a (Some bytes) count Damaged b
got_others called a b bytes came count h n = record { outcome = Ok came; asked = (b, h, refl); refused = (n, refl) }

pub ruleset asked_steps = (one_call, then_call, got_fault, got_others)
