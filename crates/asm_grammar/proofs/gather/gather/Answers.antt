use Rattle.std.proofs.Common.{◌≡◌, ◌+◌, nat_eq, false, sym, ◌∙◌, ap, arith, cond, Some, None}
use Rattle.std.proofs.lemmas.Bool.Decides.{nat_tests}
use Rattle.asm_table.specs.declared.mnemonic.Sort.TheVariants.{Register}
use Rattle.asm_grammar.specs.Views.{gathered_seen}
use Rattle.asm_grammar.proofs.Gathers.{gathered_next, gathered_none, gathered_no}
use Rattle.asm_grammar.proofs.gather.gather.Goals as goal

pub returns-in_err-w : goal.returns-in_err-w
returns-in_err-w c = rw c.from_residual.ensures (sym c.loop-i.invariant.so_far
    ∙ gathered_none _ _ c.loop-i.i Register _ _ _ _ c.loop-i-test.true c.in_err-w.ensures.operand)

pub returns-then-not-add : goal.returns-then-not-add
returns-then-not-add c =
    sym c.loop-i.invariant.so_far
    ∙ gathered_no _ _ c.loop-i.i Register _ _ _ _ _ _ c.loop-i-test.true c.in_ok-w.ensures.operand (c.add.ensures.added
    ∙ ap (λ b. cond b (Some (gathered_seen c.add.new.self)) None) c.if-not-add.true)

pub loop-i-preserved : goal.loop-i-preserved
loop-i-preserved c =
    let first : nat_eq (c.loop-i.i + 1) 0 ≡ false = grind (arith, nat_tests) in
    record {
      so_far =
          rw first (sym (gathered_next _ _ c.loop-i.i Register _ _ _ _ _ _ _ c.loop-i-test.true c.in_ok-w.ensures.operand (c.add.ensures.added
          ∙ ap (λ b. cond b (Some (gathered_seen c.add.new.self)) None) c.if-not-add.false))
          ∙ c.loop-i.invariant.so_far);
      few = omega (arith, c.add.ensures.len, c.loop-i.invariant.few);
    }
