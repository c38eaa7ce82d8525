-- Which writes hit.
use Rattle.std.proofs.Common.{◌≡◌, ◌≢◌, ◌<◌, ℕ, ◌+◌, ◌==◌, nat_eq, nat_lt, min, max, Bool, true, false, if◌then◌else◌, ◌&&◌, Some, None, is_some, refl, arith}
use Rattle.std.proofs.lemmas.Bool.{eqb-true, eq-eqb}
use Rattle.std.proofs.lemmas.Bool.Decides.{nat_tests}
use Rattle.std.proofs.lemmas.List.Folds.{Any-from_list_any, list_any-from_Any}
use Rattle.isa_table.specs.declared.instr.AtomicOp.TheVariants.{CompareExchange}
use Rattle.isa_table.specs.Words.{unsigned}
use Rattle.isa_table.specs.Table.{size_bytes, width_bits}
use Rattle.memory.specs.declared.access.Action.TheVariants.{Atomic}
use Rattle.memory.specs.Access.{writes}
use Rattle.machine.specs.declared.state.Written.{Written}
use Rattle.debugger.specs.declared.watch.Watch.{Watch}
use Rattle.debugger.specs.DebugState.{DebugState, overlaps, hits}
use Rattle.debugger.specs.Laws.{SharesByte}
use Rattle.debugger.specs.Laws as laws

pub both : (a b : Bool) → (a && b) ≡ true → (a ≡ true) × (b ≡ true)
both true b h = (refl, h)
both false b h = absurd (cc)

below : (a b : ℕ) → nat_lt a b ≡ true → a < b
below a b h = grind (arith, nat_tests)

is_below : (a b : ℕ) → a < b → nat_lt a b ≡ true
is_below a b h = grind (arith, nat_tests)

shares : (w : Written) (r : Watch) → overlaps w r ≡ true → SharesByte w r
shares w r h =
    let p = both (nat_eq w.number r.number) (nat_lt (max w.offset r.offset) (min (w.offset + size_bytes w.size) (r.offset + r.length))) h in
    let lt : max w.offset r.offset < min (w.offset + size_bytes w.size) (r.offset + r.length) = below _ _ p.1 in (
      w.number,
      max w.offset r.offset,
      record { number = refl; from = omega arith; to = omega arith },
      record { number = eqb-true _ _ p.0; from = omega arith; to = omega arith },
    )

reached : (w : Written) (r : Watch) → SharesByte w r → overlaps w r ≡ true
reached w r (n, i, byte, here) =
    rw (eq-eqb w.number r.number (cc), is_below (max w.offset r.offset) (min (w.offset + size_bytes w.size) (r.offset + r.length)) (omega arith)) refl

pub hits_share : laws.HitsShareAByte
hits_share w d = (
  λ h. let any = Any-from_list_any (overlaps w) d.watches h in (any.0, any.1, any.2, any.3, shares w any.1 any.4),
  λ any. list_any-from_Any (overlaps w) d.watches (any.0, any.1, any.2, any.3, reached w any.1 any.4),
)

pub reads : laws.ReadsNeverHit
reads number offset x size d = refl

not_same : (old r x : ℕ) → old ≢ r → is_some (if old == r then Some x else None) ≡ false
not_same old r x h = elim (old == r) as (λ b. (old == r) ≡ b → is_some (if b then Some x else None) ≡ false) [
  | true ↦ λ e. absurd (h (grind (arith, nat_tests)))
  | false ↦ λ e. refl
] refl

unwritten : (b : Bool) (w : Written) (d : DebugState) → b ≡ false → hits (if b then Some w else None) d ≡ false
unwritten b w d e = rw e refl

pub failed : laws.FailedExchangesNeverHit
failed number offset found src r0 width d h =
    unwritten (writes (Atomic width CompareExchange src r0) found) _ d (not_same found (unsigned (width_bits width) r0) (unsigned (width_bits width) src) h)
