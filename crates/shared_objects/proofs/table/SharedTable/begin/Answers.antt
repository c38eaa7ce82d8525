use Rattle.std.proofs.Common.{arith, ap, sym, ◌∙◌, ℕ, ◌≤◌, List, length, subst, refl}
use Rattle.memory.specs.Objects.{bytes_of}
use Rattle.scopes.specs.Windows.{noted}
use Rattle.scopes.proofs.Staying.{stays}
use Rattle.shared_objects.specs.Rule.{times}
use Rattle.shared_objects.specs.Kinds.{holding}
use Rattle.shared_objects.proofs.Noted.{noted_once}
use Rattle.shared_objects.proofs.table.SharedTable.begin.Goals as goal

pub take_turn-requires-clause-open : goal.take_turn-requires-clause-open
take_turn-requires-clause-open c = let n : ℕ = c.args.number in let w = c.note.ensures.window in
    let is = ap (λ m. m.0.scopes) c.if-not-note.ensures.me.0 ∙ ap (noted n) c.requires.window.0 in
    (ap (times n) is ∙ noted_once n c.args.window.now w, subst (λ (l : List ℕ). length l ≤ 4) (sym is) (stays n c.args.window.now w).room)

pub give_up_turn-requires-clause-held : goal.give_up_turn-requires-clause-held
give_up_turn-requires-clause-held c = let t = c.in-Some.ensures.me in (t.0.bytes.items, ap (λ v. v.turn) t.2.0, (t.0, t.1, refl))

pub returns-clause-begins : goal.returns-clause-begins
returns-clause-begins c = let t = c.in-Some.ensures.me in let n = c.if-not-note.ensures.me in let k : ℕ = c.args.number in (
  omega (arith, c.max-greatest.ensures),
  omega (arith, c.if-greatest-ge-STAMP_LIMIT.false),
  (t.0, t.1, (t.2.0 ∙ ap (λ m. holding k c.in-Some.found t.0.bytes.items m.0) n.0, t.2.1 ∙ ap (λ m. length (bytes_of m.0.opening k)) n.0)),
  n.1,
)
