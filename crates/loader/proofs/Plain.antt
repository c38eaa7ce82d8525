-- Instructions with which nothing can be wrong, the last one apart.
use Rattle.std.proofs.Common.{◌≡◌, ℕ, ◌+◌, ◌<◌, ◌↔◌, List, [], Option, Some, None, refl, arith}
use Rattle.isa_table.specs.declared.instr.Instr.{Instr}
use Rattle.isa_table.specs.Slots.{slots}
use Rattle.loader.specs.Instructions.{IsPlain, IsPlainSome}
use Rattle.loader.specs.ValidCode.{IsSound}

pub plain_sound : (code : List Instr) (n : ℕ) (i : Instr) (after : List Instr) (count : ℕ) → IsPlain i → (after ≡ [] ↔ (n + slots i ≡ count))
    → n + 1 < count → IsSound code n i after
plain_sound code n i after count p last lt = record {
  leads = rw (p.0 n) tt;
  keeps_r10 = p.1;
  helper = p.2;
  ends = λ e. absurd (omega (arith, p.3, last.0 e));
}

pub plain_there : (o : Option Instr) → IsPlainSome o → (i : Instr) × (Some i ≡ o) × IsPlain i
plain_there None h = absurd h
plain_there (Some i) h = (i, refl, h)
