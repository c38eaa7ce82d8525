-- A machine that is written back unchanged changes nothing.
use Rattle.std.proofs.Common.{◌≡◌, ℕ, zero, suc, ◌-◌, List, Some, set, sym, ap, subst, ◌∙◌, arith}
use Rattle.std.specs.Prelude.{slice_get, slice_set}
use Rattle.std.proofs.lemmas.List.{set-get_or}
use Rattle.std.proofs.lemmas.Option.{get_or_from_slice_get}
use Rattle.debugger.specs.declared.debuggee.Debuggee.{Debuggee}
use Rattle.world.specs.WorldState.{machine_at, with_machine}

pub set_same : (machines : List Debuggee) (n : ℕ) (d : Debuggee) → slice_get machines n ≡ Some d → slice_set machines n d ≡ machines
set_same machines n d e = ap (λ (x : Debuggee). set machines n x) (sym (get_or_from_slice_get machines n d d e)) ∙ set-get_or machines n d

-- a machine in its own place changes nothing
pub with_same : (machines : List Debuggee) (m : ℕ) (d : Debuggee) → machine_at machines m ≡ Some d → with_machine machines m d ≡ machines
with_same machines zero d e = absurd (cc)
with_same machines (suc n) d e =
    let i : suc n - 1 ≡ n = omega arith in
    subst (λ k. slice_set machines k d ≡ machines) (sym i) (set_same machines n d e)
