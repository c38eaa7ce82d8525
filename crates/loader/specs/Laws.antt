-- What the reasons of refusals say of one another.
use Rattle.std.specs.Prelude.{◌≡◌, ℕ, List}
use Rattle.loader.specs.declared.loading.Why.{Why}
use Rattle.loader.specs.declared.loading.Why.TheVariants as why
use Rattle.loader.specs.ValidCode.{ValidCode}
use Rattle.loader.specs.Refusals.{Refuses}

-- Out of memory apart, bytes are refused at one slot and for one reason.
abbrev pub OneRefusal : Type 0
OneRefusal = (bytes : List ℕ) (m n : ℕ) (v w : Why) → Refuses bytes m v → Refuses bytes n w → (v ≡ why.Memory → ⊥) → (w ≡ why.Memory → ⊥) → (m ≡ n) × (v ≡ w)

-- Valid code is refused only where memory runs out.
abbrev pub NoRefusalOfValid : Type 0
NoRefusalOfValid = (bytes : List ℕ) (n : ℕ) (w : Why) → ValidCode bytes → Refuses bytes n w → (n ≡ 0) × (w ≡ why.Memory)
