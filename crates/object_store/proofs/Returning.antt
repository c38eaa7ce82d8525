-- What a far store gives back, and how it fails.
use Rattle.std.proofs.Common.{◌≡◌, ℕ, ◌+◌, ◌≤◌, Bool, true, false, List, [], length, refl, sym, ap, ◌∙◌, arith}
use Rattle.std.proofs.Common.{inl}
use Rattle.std.proofs.lemmas.Bool.Decides.{nat_tests}
use Rattle.std.proofs.lemmas.List.{set-get_or}
use Rattle.far_store.specs.Stores.{capped, Rises}
use Rattle.memory.specs.Objects.{bytes_of, with_bytes}
use Rattle.object_store.specs.Stores.{HasRisen}
use Rattle.object_store.specs.Calls.{FailsToReturn, ComesBack}
use Rattle.placement.specs.declared.places.Place.TheVariants.{Here}
use Rattle.object_store.specs.Stores.{StoreState, with_place}
use Rattle.object_store.specs.Bodies.{Kept, ReturnsTo, bytes_in}

pub capped_rises : (a b : ℕ) → a ≤ b → capped (a + 1) ≤ capped (b + 1)
capped_rises a b h = grind (arith, nat_tests)

pub risen : (a b c : ℕ) → a ≤ b → Rises b c → HasRisen a c
risen a b c h r = rw r (capped_rises a b h)

pub fails : (returns : Bool) (a b : ℕ) → Rises a b → FailsToReturn returns a b
fails true a b r = risen a a b (omega arith) r
fails false a b r = inl (risen a a b (omega arith) r)

-- what it is, whether or not its bytes are those that were put
pub returned_as : (returns : Bool) (old new : Kept) → ReturnsTo returns old new → new ≡ record old { bytes = new.bytes; place = Here; clean = returns }
returned_as true old new r = r ∙ sym (ap (λ (l : List ℕ). record old { bytes = l; place = Here; clean = true }) (ap bytes_in r))
returned_as false old new r = r.1

pub as_long : (returns : Bool) (old new : Kept) → ReturnsTo returns old new → length new.bytes ≡ length old.bytes
as_long true old new r = ap (λ (k : Kept). length k.bytes) r
as_long false old new r = r.0

-- a store to which an object came back
pub comes_back : (returns : Bool) (s : StoreState) (faults n : ℕ) (old new : Kept) → old.bytes ≡ bytes_of s.objects n
    → bytes_of (with_bytes s.objects n new.bytes) n ≡ new.bytes → ReturnsTo returns old new → faults ≡ s.faults
    → ComesBack returns s n (record (with_place s n Here) { objects = with_bytes s.objects n new.bytes; faults = faults })
comes_back true s faults n old new b there r f = rw (ap bytes_in r, b, set-get_or s.objects n [], f) refl
comes_back false s faults n old new b there r f = (ap (λ (l : List ℕ). length l) there ∙ (r.0 ∙ ap (λ (l : List ℕ). length l) b), rw (there, f) refl)
