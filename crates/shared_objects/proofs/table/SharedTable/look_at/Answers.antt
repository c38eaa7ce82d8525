use Rattle.std.proofs.Common.{Bool, arith, ap, ◌∙◌, subst, ◌≡◌, ℕ, ◌<◌, ◌≤◌, List, length, ⊎_elim}
use Rattle.std.proofs.lemmas.Bool.{cases_lt}
use Rattle.std.proofs.lemmas.List.{length-map}
use Rattle.memory.specs.Objects.{bytes_of}
use Rattle.shared_objects.specs.Kinds.{Witness, object_at}
use Rattle.shared_objects.specs.Rule.{word_of}
use Rattle.shared_objects.specs.Opening.{opening_bytes}
use Rattle.shared_objects.specs.Tables.{table_opening, table_returns}
use Rattle.shared_objects.proofs.Acting.{none_above}
use Rattle.shared_objects.proofs.Keeps.{sees_ok}
use Rattle.shared_objects.proofs.Logs.{object_home}
use Rattle.shared_objects.proofs.table.SharedTable.look_at.Goals as goal

near : (os : List (List ℕ)) (n : ℕ) → 0 < length (bytes_of os n) → n < length os
near os n h = ⊎_elim (λ (lt : n < length os). lt) (λ (far : length os ≤ n). absurd (let e = ap length (none_above os n far) in
    omega (arith, e))) (cases_lt n (length os))

pub load-requires : goal.load-requires
load-requires g c = let z = c.args.self.now in let a = c.args.actor.now in let n : ℕ = c.args.number in
    let key : List (List ℕ) = opening_bytes z.table.shared.key.bodies.value in
    let lt : n < length a.seat.me.0.opening = near a.seat.me.0.opening n c.requires.object in
    let long : length z.lengths.items ≡ length key = ap length z.sizes ∙ length-map key length in
    let same = ap length c.requires.actor.1 in
    (c.requires.actor.0, omega (arith, z.words), rw (c.requires.table.0, c.requires.table.1) (sees_ok _ _ _ _ _ n (omega (arith, z.slots)) a.rests.2))

pub returns-clause-rule : goal.returns-clause-rule
returns-clause-rule g c = let z = c.args.self.now in let v = c.args.actor.now.seat.me.0 in let k : ℕ = object_at (word_of c.args.number) in
    subst (λ (n : ℕ). Witness (table_returns z) (table_opening z) v n c.load.result) (object_home c.args.number)
    (subst (λ (o : List (List ℕ)). Witness (table_returns z) o v k c.load.result) c.requires.table.1
    (subst (λ (r : Bool). Witness r g.T.Opened.opening v k c.load.result) c.requires.table.0 c.load.ensures.2.2))
