-- Few seats count at an object.
use Rattle.std.proofs.Common.{◌≡◌, Bool, ℕ, suc, ◌+◌, ◌≤◌, List, [], ◌∷◌, length, refl, ap, arith}
use mathlib.Core.Option.{some}
use lib.ListN.{get_elem?}
use Rattle.atomic_table.specs.Table.{State}
use Rattle.shared_objects.specs.Rule.{total, times, has_open, has_pass, actor_limit, seat_limit, Kept}
use Rattle.shared_objects.specs.declared.body.Body.{Body}
use Rattle.shared_objects.specs.declared.view.View.{View}
use Rattle.shared_objects.proofs.Sums.{total_few}
use Rattle.shared_objects.proofs.Keeps.{total-sum}

few_rest : (n : ℕ) (vs : List View) → length vs ≤ seat_limit → ((j : ℕ) (v : View) → get_elem? vs j ≡ some v → has_open n v + has_pass n v ≤ 1)
    → ((v : View) → get_elem? vs 0 ≡ some v → (v.scopes ≡ []) × (v.passing ≡ [])) → total (has_open n) vs + total (has_pass n) vs ≤ actor_limit
few_rest n [] few once first = omega arith
few_rest n (v ∷ vs) few once first = let f = first v refl in
    omega (
      arith,
      ap (times n) f.0,
      ap (times n) f.1,
      total_few (λ (u : View). has_open n u + has_pass n u) vs (λ j u e. once (suc j) u e),
      total-sum (has_open n) (has_pass n) vs,
    )

pub counts_few : (returns : Bool) (opening : List (List ℕ)) (s : State Body View) → Kept returns opening s → (n : ℕ)
    → total (has_open n) s.views + total (has_pass n) s.views ≤ actor_limit
counts_few returns opening s o n = few_rest n s.views o.seats.few (λ j v e. (o.seats.knows j v e).opens_once n) (λ v e. let h =
    (o.seats.knows 0 v e).first refl in (h.1, h.2))
