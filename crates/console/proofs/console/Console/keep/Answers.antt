use Rattle.std.proofs.Common.{rules, arith, length, ◌≡◌, min, ◌-◌}
use Rattle.console.proofs.Clips.{kept_is_clip}
use Rattle.console.proofs.console.Console.keep.Goals as goal

pub returns-clause-line : goal.returns-clause-line
returns-clause-line c =
    let ok = c.extend_from_slice.ensures.succeeds (search (rules, arith)) in
    let k : c.min-kept.result ≡ min (length c.args.bytes.now) (70001 - length c.self.inside.line.items) = omega (arith, c.self.inside.line.ok.0) in
    rw (c.extend_from_slice.ensures.items, ok, ← c.self.view_is) (kept_is_clip 70001 _ _ _ c.self.invariant.1 k)
