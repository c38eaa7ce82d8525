-- What the grants say of an access, which is to the own stack or to an object.
use Rattle.std.proofs.Common.{◌≡◌, Bool, true, false, cond, nat_eq, refl, sym, subst, arith}
use Rattle.std.proofs.lemmas.Bool.Decides.{nat_tests}
use Rattle.machine.specs.declared.state.Accessing.{Accessing}
use Rattle.machine.specs.MachineState.{own_stack}
use Rattle.machine.specs.Grants.{GrantState, is_granted, is_writing}
use Rattle.machine.specs.Rows.{access_work, is_granted_work}
use Rattle.machine.specs.Rows.Work.{AccessesStack, Accesses}

by_number : (own : Bool) (g : GrantState) (x : Accessing) → nat_eq x.number own_stack ≡ own
    → is_granted g (is_writing x.op.action) x.number ≡ is_granted_work g (cond own (AccessesStack x) (Accesses x))
by_number true g x e = let same : x.number ≡ own_stack = grind (arith, nat_tests) in subst (λ n. is_granted g (is_writing x.op.action) n ≡ true) (sym same) refl
by_number false g x e = refl

pub granted_access : (g : GrantState) (x : Accessing) → is_granted g (is_writing x.op.action) x.number ≡ is_granted_work g (access_work x)
granted_access g x = by_number _ g x refl
