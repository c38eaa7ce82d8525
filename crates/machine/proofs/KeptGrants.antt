-- Grants that are kept one by one.
use Rattle.std.proofs.Common.{◌≡◌, ℕ, zero, suc, ◌<◌, nat_eq, false, List, [], ◌∷◌, ◌++◌, length, replicate, slice_set, refl, ap, arith}
use Rattle.machine.specs.declared.grants.Grant.{Grant}
use Rattle.machine.specs.KeptGrants.{grants_in, AreKept}

-- so many grants are kept
pub kept_count : (count : ℕ) (kept : List Grant) → AreKept count kept → length (grants_in kept) ≡ count
kept_count zero [] k = refl
kept_count (suc count) [] k = absurd k
kept_count zero (more ∷ kept) k = rw k.0 (kept_count zero kept k.1)
kept_count (suc count) (more ∷ kept) k = rw k.0 (ap suc (kept_count count kept k.1))

-- none is kept where each place keeps none
pub none_kept : (n : ℕ) → AreKept zero (replicate n (record { number = 0; writes = false }))
none_kept zero = tt
none_kept (suc n) = (refl, none_kept n)

none_in : (kept : List Grant) → AreKept zero kept → grants_in kept ≡ []
none_in [] k = refl
none_in (more ∷ kept) k = rw k.0 (none_in kept k.1)

-- one grant more is kept behind the others
pub one_kept : (count : ℕ) (kept : List Grant) (more : Grant) → AreKept count kept → count < length kept → nat_eq more.number 0 ≡ false
    → AreKept (suc count) (slice_set kept count more)
one_kept zero [] more k l n = absurd (omega (arith, l))
one_kept (suc count) [] more k l n = absurd k
one_kept zero (first ∷ kept) more k l n = (n, k.1)
one_kept (suc count) (first ∷ kept) more k l n = (k.0, one_kept count kept more k.1 (omega (arith, l)) n)

pub one_more : (count : ℕ) (kept : List Grant) (more : Grant) → AreKept count kept → count < length kept → nat_eq more.number 0 ≡ false
    → grants_in (slice_set kept count more) ≡ grants_in kept ++ more ∷ []
one_more zero [] more k l n = absurd (omega (arith, l))
one_more (suc count) [] more k l n = absurd k
one_more zero (first ∷ kept) more k l n = rw (n, k.0, none_in kept k.1) refl
one_more (suc count) (first ∷ kept) more k l n = rw k.0 (ap (λ gs. first ∷ gs) (one_more count kept more k.1 (omega (arith, l)) n))
