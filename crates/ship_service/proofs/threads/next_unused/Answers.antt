use Rattle.std.proofs.Common.{◌≡◌, ◌+◌, All, ap, length}
use Rattle.std.specs.Vec.Iter.{into_iter_items}
use Rattle.workers.proofs.Coming.{first_left}
use Rattle.ship_service.specs.Conversed.{IsUnused}
use Rattle.ship_service.proofs.Conversed.{unused_step}
use Rattle.ship_service.proofs.threads.next_unused.Goals as goal

pub returns-clause-some : goal.returns-clause-some
returns-clause-some g c = let all = into_iter_items c.args.left.now in let K = g.K.TableName in let R = g.F.FarStore.RETURNS in
    (first_left c.args.left.now c.next.new.self (λ x xs. IsUnused K.table R K.opening x.session.seat × All (λ y. IsUnused K.table R K.opening y.session.seat) xs
    × (length all ≡ length xs + 1)) (length all ≡ 0) c.next.result c.next.ensures.cases
    (λ x xs e. unused_step K.table R K.opening (λ y. y.session.seat) x xs all e c.requires) (λ e. ap length e)).0

pub returns-clause-none : goal.returns-clause-none
returns-clause-none g c = let all = into_iter_items c.args.left.now in let K = g.K.TableName in let R = g.F.FarStore.RETURNS in
    (first_left c.args.left.now c.next.new.self (λ x xs. IsUnused K.table R K.opening x.session.seat × All (λ y. IsUnused K.table R K.opening y.session.seat) xs
    × (length all ≡ length xs + 1)) (length all ≡ 0) c.next.result c.next.ensures.cases
    (λ x xs e. unused_step K.table R K.opening (λ y. y.session.seat) x xs all e c.requires) (λ e. ap length e)).1
