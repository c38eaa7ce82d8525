use Rattle.std.proofs.Common.{rules, ◌≡◌, true, refl, subst, IsSome, is_some}
use Rattle.far_stream.specs.Server.{kept_under}
use Rattle.far_stream.proofs.Parcels.{kept_there}
use Rattle.far_stream.proofs.server.take.Goals as goal

pub returns-then-is_some-clause-ok : goal.returns-then-is_some-clause-ok
returns-then-is_some-clause-ok g c =
    let dropped = c.in_ok-drop_payload.ensures.ok in
    let some : is_some c.place_of.result ≡ true = search rules in
    let there = subst (λ kept. IsSome (kept_under c.args.id kept)) c.deref.ensures.value
    (kept_there c.place_of.result c.args.id c.deref.result.now some c.place_of.ensures.bytes) in
    (dropped.0, dropped.1, dropped.2, (there, refl))
