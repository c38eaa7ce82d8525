use Rattle.std.proofs.Common.{◌≡◌, ℕ, suc, ◌+◌, ◌∙◌, subst, arith}
use Rattle.workers.specs.Cells.{seat_state}
use Rattle.ship_service.specs.Served.{TakesTurns}
use Rattle.ship_service.proofs.turns.take_turns.Goals as goal

-- one turn more
one_more : (P : ℕ → Type 0) (n : ℕ) → P (suc n) → P (n + 1)
one_more P n h = let e : suc n ≡ n + 1 = omega arith in subst P e h

pub loop-taken-preserved : goal.loop-taken-preserved
loop-taken-preserved g c = (
  omega (arith, c.loop-taken-test.true, c.requires.few),
  one_more (λ (n : ℕ). TakesTurns g.K.TableName.opening g.K.TableName.starts g.K.TableName.passed c.args.machine n (seat_state c.args.seat.now)
      (seat_state c.hold-on.new.seat)) c.loop-taken.taken (seat_state c.loop-taken.seat, c.loop-taken.invariant.1, c.hold-on.ensures.takes),
  c.hold-on.ensures.seat ∙ c.loop-taken.invariant.2,
)

pub returns-then-not-on-clause-off : goal.returns-then-not-on-clause-off
returns-then-not-on-clause-off g c = λ _. (
  c.hold-on.ensures.takes.0,
  record {
    turns = c.loop-taken.taken;
    few = c.loop-taken.invariant.0;
    mid = seat_state c.loop-taken.seat;
    taken = c.loop-taken.invariant.1;
    last = c.hold-on.ensures.takes.1;
  },
)

pub returns-clause-on : goal.returns-clause-on
returns-clause-on g c = λ _. (c.loop-taken.taken, c.loop-taken.invariant.0, c.loop-taken.invariant.1)
