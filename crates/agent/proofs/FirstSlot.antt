-- Bytes with any fault but Short have a whole first slot.
use Rattle.std.proofs.Common.{◌≡◌, ◌≢◌, ℕ, ◌≤◌, Bool, true, ◌&&◌, List, length, refl, arith}
use Rattle.std.proofs.lemmas.Bool.{and_parts}
use Rattle.std.proofs.lemmas.Bool.Decides.{nat_tests}
use Rattle.bpf_codec.specs.declared.fault.Fault.{Fault}
use Rattle.bpf_codec.specs.declared.fault.Fault.TheVariants as fault
use Rattle.bpf_codec.specs.Faults.{has_fault, has_first, IsLeastFault}

two : (a b : Bool) → (a && b) ≡ true → a ≡ true
two a b h = (and_parts a b h).0

three : (a b c : Bool) → (a && b && c) ≡ true → a ≡ true
three a b c h = two a b (two (a && b) c h)

first : (f : Fault) (xs : List ℕ) → f ≢ fault.Short → IsLeastFault f xs → has_first xs ≡ true
unfolding IsLeastFault has_fault
first fault.Opcode xs other h = three _ _ _ h.0
first fault.Register xs other h = three _ _ _ h.0
first fault.Field xs other h = three _ _ _ h.0
first fault.HalfWide xs other h = three _ _ _ h.0
first fault.Packet xs other h = two _ _ h.0
first fault.Platform xs other h = two _ _ h.0
first fault.Short xs other h = absurd (other refl)

eight : (xs : List ℕ) → has_first xs ≡ true → 8 ≤ length xs
unfolding has_first
eight xs h = grind (arith, nat_tests, h)

-- the first slot is there
pub whole : (f : Fault) (xs : List ℕ) → f ≢ fault.Short → IsLeastFault f xs → 8 ≤ length xs
whole f xs other h = eight xs (first f xs other h)
