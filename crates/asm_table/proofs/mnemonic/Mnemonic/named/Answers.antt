use Rattle.std.proofs.Common.{ap, ◌∙◌, ◌<◌, ◌+◌, ◌-◌, ◌/◌, arith, Some}
use Rattle.asm_table.proofs.Rising.{all_of_them, narrowed_above, narrowed_below, found, not_found, compared_is}
use Rattle.asm_table.proofs.mnemonic.Mnemonic.named.Goals as goal

pub loop-low-init : goal.loop-low-init
loop-low-init c = all_of_them c.args.word.now 106 (omega arith)

pub loop-low-preserved-in-Less : goal.loop-low-preserved-in-Less
loop-low-preserved-in-Less c =
    narrowed_above _ c.loop-low.low c.loop-low.high _ c.loop-low.invariant (omega arith) (omega arith)
    (compared_is _ _ _ _ _ c.nth-m.ensures c.name.ensures.name c.in-Less.ensures)

pub loop-low-preserved : goal.loop-low-preserved
loop-low-preserved c =
    narrowed_below _ c.loop-low.low c.loop-low.high _ c.loop-low.invariant (omega arith) (omega arith)
    (compared_is _ _ _ _ _ c.nth-m.ensures c.name.ensures.name c.in-Greater.ensures)

pub returns-in-Equal : goal.returns-in-Equal
returns-in-Equal c =
    let here : c.loop-low.low + (c.loop-low.high - c.loop-low.low) / 2 < 106 = omega (arith, c.loop-low.invariant.bound) in
    ap Some c.nth-m.ensures ∙ found c.args.word.now _ here (compared_is _ _ _ _ _ c.nth-m.ensures c.name.ensures.name c.in-Equal.ensures)

pub returns : goal.returns
returns c = not_found c.args.word.now c.loop-low.low c.loop-low.high c.loop-low.invariant (omega arith)
