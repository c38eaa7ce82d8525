use Rattle.std.proofs.Common.{◌≡◌, ℕ, ◌+◌, ap, length}
use Rattle.std.specs.Vec.Iter.{into_iter_items}
use Rattle.workers.specs.Pools.{IsNewSeat, AreSeats}
use Rattle.workers.proofs.Coming.{first_left, seats_step}
use Rattle.workers.proofs.pool.next_seat.Goals as goal

pub returns-clause-some : goal.returns-clause-some
returns-clause-some g c = let all = into_iter_items c.args.left.now in let n : ℕ = c.args._before + 1 in
    (first_left c.args.left.now c.next.new.self (λ s ss. IsNewSeat g.K.TableName.table g.K.TableName.opening n s
    × AreSeats g.K.TableName.table g.K.TableName.opening (n + 1) ss × (length all ≡ length ss + 1)) (length all ≡ 0) c.next.result c.next.ensures.cases
    (λ s ss e. seats_step g.K.TableName.table g.K.TableName.opening n s ss all e c.requires) (λ e. ap length e)).0

pub returns-clause-none : goal.returns-clause-none
returns-clause-none g c = let all = into_iter_items c.args.left.now in let n : ℕ = c.args._before + 1 in
    (first_left c.args.left.now c.next.new.self (λ s ss. IsNewSeat g.K.TableName.table g.K.TableName.opening n s
    × AreSeats g.K.TableName.table g.K.TableName.opening (n + 1) ss × (length all ≡ length ss + 1)) (length all ≡ 0) c.next.result c.next.ensures.cases
    (λ s ss e. seats_step g.K.TableName.table g.K.TableName.opening n s ss all e c.requires) (λ e. ap length e)).1
