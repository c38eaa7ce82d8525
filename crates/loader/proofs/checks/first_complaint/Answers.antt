use Rattle.std.proofs.Common.{◌≡◌, ◌↔◌, ◌∙◌, sym, ◌+◌, [], arith, subst, ℕ, length}
use Rattle.isa_table.specs.Slots.{slots}
use Rattle.std.specs.Prelude.{slice_get}
use Rattle.std.specs.Option.{option_flatten}
use Rattle.loader.specs.declared.loading.LoadError.{LoadError}
use Rattle.loader.specs.Entries.{instrs}
use Rattle.loader.specs.Refusals.{IsFirstWrong}
use Rattle.loader.proofs.Numbered.{counted, length_instrs}
use Rattle.loader.proofs.Positions.{slots_positive, slots_at_most_two}
use Rattle.loader.proofs.CheckedEntries.{IsWalked, next_left, walk_on, wrong_here, all_walked, entry_within}
use Rattle.loader.proofs.Plain.{plain_there, plain_sound}
use Rattle.loader.proofs.checks.first_complaint.Goals as goal

pub complaint-requires : goal.complaint-requires
complaint-requires c = record {
  short = c.requires;
  room = omega (arith, length_instrs c.args.entries.now, entry_within (instrs c.args.entries.now) c.instrs.slot c.in_ok-instr.instr (sym c.in_ok-instr.was ∙ c.entry_at.ensures));
}

pub returns-in-Some : goal.returns-in-Some
returns-in-Some c = λ code e.
    let w = c.instrs.invariant code e in
    let n = next_left (instrs c.args.entries.now) c.instrs.slot c.in_ok-instr.instr w.left w.entries (sym c.in_ok-instr.was ∙ c.entry_at.ensures) in
    let here = wrong_here _ _ _ code _ w n (rw c.in-Some.is at (c.complaint.ensures code n.after e (counted c.args.entries.now (λ (k : ℕ). (n.after ≡ []) ↔ (c.instrs.slot + slots c.in_ok-instr.instr ≡ k)) n.last))) in
    subst (λ (r : LoadError). IsFirstWrong code code 0 r.slot r.why) (sym c.at.ensures) here

pub overflow_add-slot : goal.overflow_add-slot
overflow_add-slot c =
    let p = plain_there (option_flatten (slice_get (instrs c.args.entries.now) c.instrs.slot)) (c.plain_at.ensures c.if-plain_at.true) in
    omega (arith, c.requires, length_instrs c.args.entries.now, entry_within (instrs c.args.entries.now) c.instrs.slot p.0 p.1)

pub instrs-preserved-then-slot-entries : goal.instrs-preserved-then-slot-entries
instrs-preserved-then-slot-entries c = λ code e.
    let w = c.instrs.invariant code e in
    let p = plain_there (option_flatten (slice_get (instrs c.args.entries.now) c.instrs.slot)) (c.plain_at.ensures c.if-plain_at.true) in
    let n = next_left (instrs c.args.entries.now) c.instrs.slot p.0 w.left w.entries p.1 in
    let sound = plain_sound code c.instrs.slot p.0 n.after (length c.args.entries.now) p.2 (counted c.args.entries.now (λ (k : ℕ). (n.after ≡ []) ↔ (c.instrs.slot + slots p.0 ≡ k)) n.last) c.if-slot-entries.true in
    subst (λ (k : ℕ). IsWalked (instrs c.args.entries.now) (c.instrs.slot + k) code) p.2.3 (walk_on _ _ _ code w n sound)

pub overflow_add-slot-in-instrs : goal.overflow_add-slot-in-instrs
overflow_add-slot-in-instrs c = omega (
  arith,
  c.slots_of-slot.ensures,
  slots_at_most_two c.in_ok-instr.instr,
  length_instrs c.args.entries.now,
  entry_within (instrs c.args.entries.now) c.instrs.slot c.in_ok-instr.instr (sym c.in_ok-instr.was ∙ c.entry_at.ensures),
)

pub instrs-smaller : goal.instrs-smaller
instrs-smaller c = omega (
  arith,
  c.slots_of-slot.ensures,
  slots_positive c.in_ok-instr.instr,
  length_instrs c.args.entries.now,
  entry_within (instrs c.args.entries.now) c.instrs.slot c.in_ok-instr.instr (sym c.in_ok-instr.was ∙ c.entry_at.ensures),
)

pub instrs-preserved : goal.instrs-preserved
instrs-preserved c = λ code e.
    let w = c.instrs.invariant code e in
    let n = next_left (instrs c.args.entries.now) c.instrs.slot c.in_ok-instr.instr w.left w.entries (sym c.in_ok-instr.was ∙ c.entry_at.ensures) in
    let sound = rw c.in_default.is at (c.complaint.ensures code n.after e (counted c.args.entries.now (λ (k : ℕ). (n.after ≡ []) ↔ (c.instrs.slot + slots c.in_ok-instr.instr ≡ k)) n.last)) in
    subst (λ (k : ℕ). IsWalked (instrs c.args.entries.now) (c.instrs.slot + k) code) (sym c.slots_of-slot.ensures) (walk_on _ _ _ code w n sound)

pub returns-in_err-instr : goal.returns-in_err-instr
returns-in_err-instr c = λ code e. rw c.from_residual.ensures (all_walked _ _ code (c.instrs.invariant code e) (sym c.in_err-instr.was ∙ c.entry_at.ensures))
