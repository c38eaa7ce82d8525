use Rattle.std.proofs.Common.{arith, ap, ◌∙◌, sym, ◌≡◌}
use Rattle.atomic_table.specs.Table.{rest}
use Rattle.shared_objects.specs.Kinds.{turn, worn_out}
use Rattle.shared_objects.specs.declared.view.Turn.{Turn}
use Rattle.shared_objects.proofs.Keeps.{wears_ok, some_is}
use Rattle.shared_objects.proofs.table.SharedTable.give_up_turn.Goals as goal

pub fetch_sub-requires : goal.fetch_sub-requires
fetch_sub-requires c = let t = c.args.self.now in let lt = c.requires.object in let h = c.requires.held in (
  c.requires.seat,
  omega (arith, t.words),
  wears_ok _ _ _ _ _ (turn c.args.n c.args.found h.0) h.2.0 _ (omega (arith, t.slots)) h.2.1 h.1 h.2.2 c.requires.live.0 c.requires.live.1,
)

pub returns-clause-me : goal.returns-clause-me
returns-clause-me c = let h = c.requires.held in let p = c.fetch_sub.ensures.2.1 in
    let is : turn c.args.n c.args.found h.0 ≡ p.0 = some_is (turn c.args.n c.args.found h.0) p.0 (sym h.1 ∙ p.1) in
    p.2 ∙ ap (λ (t : Turn). (worn_out t.object t.stamp c.args.seat.now.me.0, rest c.args.seat.now.me.1)) (sym is)
    ∙ ap (λ l. (worn_out c.args.n c.args.found c.args.seat.now.me.0, rest l)) h.2.1
