use Rattle.std.proofs.Common.{arith, ap, ◌∙◌, ◌≡◌, ℕ, ◌<◌, List, length}
use Rattle.std.proofs.lemmas.List.{length-map}
use Rattle.shared_objects.specs.Opening.{opening_bytes}
use Rattle.shared_objects.proofs.MoverKeeps.{cools_ok}
use Rattle.shared_objects.proofs.table.SharedTable.cool.Goals as goal

pub fetch_and-found-requires : goal.fetch_and-found-requires
fetch_and-found-requires c = let m = c.args.mover.now in let z = c.args.self.now in let n : ℕ = c.args.number in
    let key : List (List ℕ) = opening_bytes z.table.shared.key.bodies.value in
    let lt : n < length z.lengths.items = c.length.ensures.object (omega (arith, c.if-length-eq0.false)) in
    let long : length z.lengths.items ≡ length key = ap length z.sizes ∙ length-map key length in
    (c.requires.mover.0, omega (arith, z.words), cools_ok _ _ _ _ _ n (omega (arith, z.slots)) m.makes.1)
