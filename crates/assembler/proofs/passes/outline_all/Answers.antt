use Rattle.std.proofs.Common.{arith, ◌∙◌, sym}
use Rattle.asm_text.specs.Tokens.{tokens}
use Rattle.asm_grammar.specs.Views.{look_in}
use Rattle.assembler.proofs.Steps.{right, outlined_next}
use Rattle.assembler.proofs.passes.outline_all.Goals as goal

pub overflow_add-slot : goal.overflow_add-slot
overflow_add-slot c =
    let short = (right (look_in c.loop-line.labels) c.loop-line.slot (tokens c.in-Some.line.now) (sym c.complaint.ensures ∙ c.in_default-complaint.is)).short in
    omega (arith, short, c.outline-slots.ensures.slots)

pub loop-line-preserved : goal.loop-line-preserved
loop-line-preserved c =
    let w = c.complaint.ensures in
    let n = c.in_default-complaint.is in
    let short = (right (look_in c.loop-line.labels) c.loop-line.slot (tokens c.in-Some.line.now) (sym w ∙ n)).short in
    record {
      so_far = outlined_next _ _ _ _ _ _ _ _ _ c.in-Some.ensures.line (sym n
          ∙ w) c.outline-slots.ensures.label c.outline-slots.ensures.slots c.in_ok-enter.ensures.labels ∙ c.loop-line.invariant.so_far;
      slots = c.in_ok-enter.ensures.slots;
      slot = omega (arith, short, c.outline-slots.ensures.slots);
      number = omega (arith, c.in-Some.ensures.shorter, c.loop-line.invariant.number);
    }
