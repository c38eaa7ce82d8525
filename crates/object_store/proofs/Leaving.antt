-- What a failure to leave says of the object.
use Rattle.std.proofs.Common.{◌≡◌, Bool, true, false, refl}

pub not_clean : (b : Bool) → (b ≡ true → false ≡ true) → b ≡ false
not_clean true h = let e = h refl in absurd (cc)
not_clean false h = refl
