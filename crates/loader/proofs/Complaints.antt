-- What is wrong with an instruction, and that nothing of a lesser number is.
use Rattle.std.proofs.Common.{◌≡◌, ℕ, ◌+◌, ◌<◌, true, false, List, [], ◌∷◌, Option, Some, refl, subst, sym, arith, ℤ, pos, inl, inr}
use Rattle.isa_table.specs.declared.instr.Instr.{Instr}
use Rattle.isa_table.specs.Slots.{slots}
use Rattle.loader.specs.declared.loading.Why.{Why}
use Rattle.loader.specs.declared.loading.Why.TheVariants as why
use Rattle.loader.specs.Instructions.{slot_count, StandsIn, StartsIn, target, writes_r10, calls_unknown_helper, ends_code}
use Rattle.loader.specs.ValidCode.{LeadsInside, IsSound}
use Rattle.loader.specs.Refusals.{why_number, IsSlot, Complains, IsLeastComplaint}
use Rattle.loader.proofs.Positions.{slots_positive}

same_target : (o : Option ℤ) (y z : ℤ) → o ≡ Some y → o ≡ Some z → y ≡ z
same_target o y z p q = cc

same_slot : (m n : ℕ) → pos m ≡ pos n → m ≡ n
same_slot m n e = cc

-- where an instruction begins is a slot
stands_within : (is : List Instr) (from n : ℕ) (j : Instr) → StandsIn is from n j → n < from + slot_count is
stands_within [] from n j h = absurd h
stands_within (i ∷ is) from n j (inl e) = omega (arith, e.0, slots_positive i)
stands_within (i ∷ is) from n j (inr s) = omega (arith, stands_within is (from + slots i) n j s)

start_within : (is : List Instr) (from n : ℕ) → StartsIn is from n → n < from + slot_count is
start_within is from n h = stands_within is from n h.0 h.1

none_below_10 : (code : List Instr) (n : ℕ) (i : Instr) (after : List Instr) (v : Why) → why_number v < 10 → Complains code n i after v → ⊥
none_below_10 code n i after why.JumpOut lt c = absurd (omega (arith, lt))
none_below_10 code n i after why.JumpInside lt c = absurd (omega (arith, lt))
none_below_10 code n i after why.WritesR10 lt c = absurd (omega (arith, lt))
none_below_10 code n i after why.Helper lt c = absurd (omega (arith, lt))
none_below_10 code n i after why.FallsOff lt c = absurd (omega (arith, lt))
none_below_10 code n i after _ lt c = c

pub leads_out : (code : List Instr) (n : ℕ) (i : Instr) (after : List Instr) (z : ℤ) → target n i ≡ Some z → (IsSlot code z → ⊥)
    → IsLeastComplaint code n i after why.JumpOut
leads_out code n i after z e h = ((z, e, h), none_below_10 code n i after)

no_jump_out : (code : List Instr) (n : ℕ) (i : Instr) (after : List Instr) (z : ℤ) → target n i ≡ Some z → IsSlot code z
    → Complains code n i after why.JumpOut → ⊥
no_jump_out code n i after z e s c = c.2 (subst (λ (y : ℤ). IsSlot code y) (same_target (target n i) z c.0 e c.1) s)

pub leads_inside : (code : List Instr) (n : ℕ) (i : Instr) (after : List Instr) (m : ℕ) → target n i ≡ Some (pos m) → m < slot_count code
    → (StartsIn code 0 m → ⊥) → IsLeastComplaint code n i after why.JumpInside
leads_inside code n i after m e lt h = ((m, e, lt, h), none)
  where
    none : (v : Why) → why_number v < 11 → Complains code n i after v → ⊥
    none why.JumpOut b c = no_jump_out code n i after (pos m) e (m, refl, lt) c
    none why.JumpInside b c = absurd (omega (arith, b))
    none why.WritesR10 b c = absurd (omega (arith, b))
    none why.Helper b c = absurd (omega (arith, b))
    none why.FallsOff b c = absurd (omega (arith, b))
    none _ b c = c

-- an instruction that leads to first slots has none of these two complaints

leads_go : (code : List Instr) (n : ℕ) (i : Instr) (after : List Instr) (z : ℤ) → target n i ≡ Some z → LeadsInside code n i
    → (m : ℕ) × (z ≡ pos m) × StartsIn code 0 m
leads_go code n i after z e l = rw e at l

sound_out : (code : List Instr) (n : ℕ) (i : Instr) (after : List Instr) → LeadsInside code n i → Complains code n i after why.JumpOut → ⊥
sound_out code n i after l c =
    let g = leads_go code n i after c.0 c.1 l in
    c.2 (g.0, g.1, omega (arith, start_within code 0 g.0 g.2))

sound_inside : (code : List Instr) (n : ℕ) (i : Instr) (after : List Instr) → LeadsInside code n i → Complains code n i after why.JumpInside → ⊥
sound_inside code n i after l c =
    let g = leads_go code n i after (pos c.0) c.1 l in
    c.3 (subst (λ (m : ℕ). StartsIn code 0 m) (sym (same_slot c.0 g.0 g.1)) g.2)

pub sound_has_none : (code : List Instr) (n : ℕ) (i : Instr) (after : List Instr) (v : Why) → IsSound code n i after → Complains code n i after v → ⊥
sound_has_none code n i after why.JumpOut s c = sound_out code n i after s.leads c
sound_has_none code n i after why.JumpInside s c = sound_inside code n i after s.leads c
sound_has_none code n i after why.WritesR10 s c = let e : writes_r10 i ≡ false = s.keeps_r10 in cc
sound_has_none code n i after why.Helper s c = let e : calls_unknown_helper i ≡ false = s.helper in let d : calls_unknown_helper i ≡ true = c in cc
sound_has_none code n i after why.FallsOff s c = let e : ends_code i ≡ true = s.ends c.0 in let d : ends_code i ≡ false = c.1 in cc
sound_has_none code n i after _ s c = c

pub writes_it : (code : List Instr) (n : ℕ) (i : Instr) (after : List Instr) → LeadsInside code n i → writes_r10 i ≡ true
    → IsLeastComplaint code n i after why.WritesR10
writes_it code n i after l w = (w, none)
  where
    none : (v : Why) → why_number v < 12 → Complains code n i after v → ⊥
    none why.JumpOut b c = sound_out code n i after l c
    none why.JumpInside b c = sound_inside code n i after l c
    none why.WritesR10 b c = absurd (omega (arith, b))
    none why.Helper b c = absurd (omega (arith, b))
    none why.FallsOff b c = absurd (omega (arith, b))
    none _ b c = c

pub calls_missing : (code : List Instr) (n : ℕ) (i : Instr) (after : List Instr) → LeadsInside code n i → writes_r10 i ≡ false
    → calls_unknown_helper i ≡ true → IsLeastComplaint code n i after why.Helper
calls_missing code n i after l w h = (h, none)
  where
    none : (v : Why) → why_number v < 13 → Complains code n i after v → ⊥
    none why.JumpOut b c = sound_out code n i after l c
    none why.JumpInside b c = sound_inside code n i after l c
    none why.WritesR10 b c = let e : writes_r10 i ≡ true = c in cc
    none why.Helper b c = absurd (omega (arith, b))
    none why.FallsOff b c = absurd (omega (arith, b))
    none _ b c = c

pub falls_off : (code : List Instr) (n : ℕ) (i : Instr) (after : List Instr) → LeadsInside code n i → writes_r10 i ≡ false → calls_unknown_helper i ≡ false
    → after ≡ [] → ends_code i ≡ false → IsLeastComplaint code n i after why.FallsOff
falls_off code n i after l w h last goes_on = ((last, goes_on), none)
  where
    none : (v : Why) → why_number v < 14 → Complains code n i after v → ⊥
    none why.JumpOut b c = sound_out code n i after l c
    none why.JumpInside b c = sound_inside code n i after l c
    none why.WritesR10 b c = let e : writes_r10 i ≡ true = c in cc
    none why.Helper b c = let e : calls_unknown_helper i ≡ true = c in cc
    none why.FallsOff b c = absurd (omega (arith, b))
    none _ b c = c
