use Rattle.std.proofs.Common.{ℕ, ◌<◌, ◌∙◌, ap, sym, Some, ◌≡◌, arith, to_z, of_z}
use Rattle.std.specs.Int.{w64}
use Rattle.std.proofs.lemmas.Int.{to_z-of_z}
use Rattle.loader.proofs.Complaints.{leads_out, leads_inside}
use Rattle.loader.proofs.Numbered.{counted, length_instrs}
use Rattle.loader.proofs.CheckedEntries.{no_slot, leads_in, in_code, entry_starts, entry_missing}
use Rattle.loader.proofs.checks.jump_complaint.Goals as goal

pub returns-in_default : goal.returns-in_default
returns-in_default c = λ code after e.
    let back : to_z w64 (of_z w64 c.in_ok-to.to) ≡ c.in_ok-to.to = to_z-of_z w64 c.in_ok-to.to (omega arith) in
    let none = rw c.in_default.is at c.slot_of.ensures.none in
    leads_out code _ _ after c.in_ok-to.to (sym c.target_of.ensures ∙ c.in_ok-to.was) (no_slot _ code c.in_ok-to.to e (λ m p lt. none m (back ∙ p) (counted c.args.entries.now (λ (k : ℕ). m < k) lt)))

pub returns-in-Some-entry_at : goal.returns-in-Some-entry_at
returns-in-Some-entry_at c = λ code after e.
    let back : to_z w64 (of_z w64 c.in_ok-to.to) ≡ c.in_ok-to.to = to_z-of_z w64 c.in_ok-to.to (omega arith) in
    let there = rw c.in-Some.is at c.slot_of.ensures.some in
    leads_in code _ _ c.in_ok-to.to c.in-Some.to (sym c.target_of.ensures ∙ c.in_ok-to.was) (sym back
    ∙ there.0) (entry_starts _ code _ _ e (sym c.in-Some-entry_at.is ∙ c.entry_at.ensures))

pub returns-in-None : goal.returns-in-None
returns-in-None c = λ code after e.
    let back : to_z w64 (of_z w64 c.in_ok-to.to) ≡ c.in_ok-to.to = to_z-of_z w64 c.in_ok-to.to (omega arith) in
    let there = rw c.in-Some.is at c.slot_of.ensures.some in
    leads_inside code _ _ after c.in-Some.to (sym c.target_of.ensures ∙ c.in_ok-to.was
    ∙ ap Some (sym back ∙ there.0)) (in_code _ code _ e (omega (arith, there.1, length_instrs c.args.entries.now))) (entry_missing _ code _ e (sym c.in-None.is ∙ c.entry_at.ensures))
