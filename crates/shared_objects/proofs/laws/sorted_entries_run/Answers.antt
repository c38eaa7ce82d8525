use Rattle.std.proofs.Common.{subst, List}
use Rattle.shared_objects.specs.One.{Runs}
use Rattle.shared_objects.specs.declared.view.SharedEntry.{SharedEntry}
use Rattle.shared_objects.proofs.Sorting.{one_is_sorted}
use Rattle.shared_objects.proofs.laws.sorted_entries_run.Goals as goal

pub returns : goal.returns
returns c = λ gives opening parts ends l. let is = one_is_sorted gives opening parts ends l in
    (is, λ r. subst (λ (es : List SharedEntry). Runs opening es ends) is (l.runs r))
