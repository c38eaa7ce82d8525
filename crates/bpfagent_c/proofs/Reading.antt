-- What was read into as many bytes stands over all of them.
use Rattle.std.proofs.Common.{◌≡◌, ℕ, min, length, List, [], ◌++◌, Some, take, drop, refl, sym, ap, ◌∙◌, arith}
use Rattle.std.proofs.Math.Nat.{min-eq_left}
use Rattle.std.proofs.lemmas.List.{append-nil, take_all, drop_all}
use Rattle.object_store.specs.declared.errors.Denied.{Denied}
use Rattle.object_store.specs.declared.errors.Denied.TheVariants.{Outside, Away}
use Rattle.world.specs.Answers.{denied}
use Rattle.world.specs.Machines.{refused_stack}
use Rattle.world.specs.declared.stack.StackError.{StackError}
use Rattle.world.specs.declared.stack.StackError.TheVariants as stack_error
use Rattle.bpfagent_c.specs.Shown.{over, bytes_of}

pub over_as_many : (shown old : List ℕ) → length shown ≡ length old → shown ≡ over shown old
over_as_many shown old same =
    let m : min (length shown) (length old) ≡ length shown = min-eq_left (omega (arith, same)) in
    let all : take (min (length shown) (length old)) shown ≡ shown = take_all _ shown (omega (arith, m)) in
    let none : drop (min (length shown) (length old)) old ≡ [] = drop_all _ old (omega (arith, m, same)) in
    sym (ap (λ (t : List ℕ). t ++ drop (min (length shown) (length old)) old) all ∙ ap (λ (d : List ℕ). shown ++ d) none ∙ append-nil shown)

pub denied_shows_nothing : (n : ℕ) (why : Denied) (old : List ℕ) → old ≡ bytes_of (Some (denied n why)) old
denied_shows_nothing n Outside old = refl
denied_shows_nothing n Away old = refl

pub stack_shows_nothing : (m : ℕ) (why : StackError) (old : List ℕ) → old ≡ bytes_of (Some (refused_stack m why)) old
stack_shows_nothing m stack_error.Missing old = refl
stack_shows_nothing m stack_error.Outside old = refl
