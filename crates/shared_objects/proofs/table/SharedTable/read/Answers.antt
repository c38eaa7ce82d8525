use Rattle.std.proofs.Common.{ap, [], ◌∙◌, ℕ, List, sym, ◌≡◌, length, ◌+◌, ◌≤◌, ◌++◌, take, drop, subst, arith}
use Rattle.memory.specs.Access.{part}
use Rattle.shared_objects.specs.declared.body.Body.{Body}
use Rattle.shared_objects.proofs.Acting.{same_body, first_held, still_alone, part_long, take_whole}
use Rattle.shared_objects.proofs.table.SharedTable.read.Goals as goal

pub slot_mut-requires : goal.slot_mut-requires
slot_mut-requires c = (c.requires.seat, first_held c.args.seat.now.me c.args.n _ c.requires.held)

pub returns-clause-held : goal.returns-clause-held
returns-clause-held c = let t = c.requires.held in let alone = still_alone c.args.seat.now.me c.args.n _ t in let held = c.slot_mut.result.now in
    let same : held ≡ t.0 = same_body c.args.n held t.0 _ [] (sym c.slot_mut.ensures.value ∙ t.1) in
    let new : List ℕ = c.read.new.into in let old : List ℕ = c.args.into.now.items in
    let wide : length c.as_mut_slice.result.now ≡ length old = omega (arith, c.as_mut_slice.ensures.len, c.args.into.now.ok.0) in
    let room : c.args.offset + length old ≤ length held.bytes.items = subst (λ (b : Body). c.args.offset + length old ≤ length b.bytes.items) (sym same) t.2 in
    let is : new ≡ part c.args.offset (length old) held.bytes.items = c.read.ensures.part ∙ ap (λ (k : ℕ). part c.args.offset k held.bytes.items) wide in
    let long : length new ≡ length old = ap length is ∙ part_long c.args.offset (length old) held.bytes.items room in
    let all : c.args.into.now.len ≡ length new = omega (arith, long, c.args.into.now.ok.0) in (
      held,
      c.slot_mut.ensures.value ∙ alone held,
      (
        ap (λ (k : ℕ). take k (new ++ drop (length new) old)) all ∙ take_whole new old long ∙ is,
        (c.read.new.self, alone c.read.new.self, ap (λ (b : Body). b.bytes.items) c.read.ensures.same),
      ),
    )
