use Rattle.std.proofs.Common.{◌≡◌, [], false, get_or, map, sym, ◌∙◌, arith}
use Rattle.std.proofs.lemmas.List.{get_or_default, length-map}
use Rattle.scopes.specs.Windows.{holds}
use Rattle.object_store.specs.Bodies.{scopes_in}
use Rattle.object_store.proofs.Counting.{out_counted, bounded_lessened, counts_noted}
use Rattle.object_store.proofs.scoping.note.Goals as goal

pub note_new-requires-clause-new : goal.note_new-requires-clause-new
note_new-requires-clause-new g c = sym c.holds.ensures.value ∙ c.if-holds.false

pub note_new-requires-clause-held : goal.note_new-requires-clause-held
note_new-requires-clause-held g c =
    let same = get_or_default c.args.windows.now c.args.who c.index-windows-who.result [] c.requires.machine.0 in
    let none : holds c.args.number (get_or c.args.windows.now c.args.who []) ≡ false = rw same at (sym c.holds.ensures.value ∙ c.if-holds.false) in
    rw same (out_counted _ _ _ _ c.requires.counts c.requires.machine.0 none)

pub note_new-requires-clause-fits : goal.note_new-requires-clause-fits
note_new-requires-clause-fits g c =
    let same = get_or_default c.args.windows.now c.args.who c.index-windows-who.result [] c.requires.machine.0 in
    let none : holds c.args.number (get_or c.args.windows.now c.args.who []) ≡ false = rw same at (sym c.holds.ensures.value ∙ c.if-holds.false) in
    let h = bounded_lessened (map scopes_in c.args.bodies.now) c.args.windows.now c.args.who c.args.number c.requires.counts c.requires.machine.0 none in
    rw same (omega (arith, h, c.requires.machine.1))

pub returns-clause-counts : goal.returns-clause-counts
returns-clause-counts g c =
    let same = get_or_default c.args.windows.now c.args.who c.index-windows-who.result [] c.requires.machine.0 in
    let none : holds c.args.number (get_or c.args.windows.now c.args.who []) ≡ false = rw same at (sym c.holds.ensures.value ∙ c.if-holds.false) in
    let window = rw same at c.holds.ensures.window in
    rw (
      c.note_new.ensures.counted.counts,
      c.note_new.ensures.window,
      same,
    ) (counts_noted _ _ _ _ c.requires.counts c.requires.machine.0 (omega (
      arith,
      c.requires.object,
      length-map c.args.bodies.now scopes_in,
    )) window.distinct none)
