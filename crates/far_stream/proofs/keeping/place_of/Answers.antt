use Rattle.std.proofs.Common.{rules, ◌≡◌, ◌<◌, ◌∙◌, ◌++◌, take, ap, sym, length, Some}
use Rattle.std.proofs.lemmas.List.{get_or_default}
use Rattle.far_stream.proofs.Parcels.{under_at, without_at}
use Rattle.far_stream.proofs.keeping.place_of.Goals as goal

pub returns-then-id-clause-id : goal.returns-then-id-clause-id
returns-then-id-clause-id c =
    let i = c.loop-k.k-index in
    let kept = c.args.kept.now in
    let within : i < length kept = search rules in
    let same : c.k-item.result.id ≡ c.args.id = search rules in
    rw c.loop-k.invariant.0 (λ d. ap (λ k. k.id) (get_or_default kept i d c.k-item.result within ∙ sym c.k-item.is) ∙ same)

pub returns-then-id-clause-bytes : goal.returns-then-id-clause-bytes
returns-then-id-clause-bytes c =
    let i = c.loop-k.k-index in
    let kept = c.args.kept.now in
    let within : i < length kept = search rules in
    let under = c.loop-k.invariant.1 ∙ under_at c.args.id i c.k-item.result kept within c.k-item.is (search rules) in
    rw c.loop-k.invariant.0 (λ d. under ∙ ap (λ k. Some k.bytes) (c.k-item.is ∙ get_or_default kept i c.k-item.result d within))

pub returns-then-id-clause-rest : goal.returns-then-id-clause-rest
returns-then-id-clause-rest c =
    let left = without_at c.args.id c.loop-k.k-index c.k-item.result c.args.kept.now (search rules) c.k-item.is (search rules) in
    rw c.loop-k.invariant.0 (c.loop-k.invariant.2 ∙ ap (λ l. take c.loop-k.k-index c.args.kept.now ++ l) left)
