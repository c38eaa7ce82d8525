use Rattle.std.proofs.Common.{◌≡◌, sym, ◌∙◌, ap, false, get_or}
use Rattle.std.specs.Str.{bytes_eq}
use Rattle.isa_table.specs.declared.instr.Reg.TheVariants.{R0}
use Rattle.asm_table.specs.Names.{register_name}
use Rattle.asm_table.proofs.Searched.{register_next}
use Rattle.asm_table.proofs.register.register_named.Goals as goal

pub loop-r-preserved : goal.loop-r-preserved
loop-r-preserved c =
    let h : bytes_eq (register_name (get_or c.registers-r-items.result.now c.loop-r.r-index R0)) c.args.word.now ≡ false =
    ap (λ l. bytes_eq l c.args.word.now) (sym c.register_name.ensures.name) ∙ sym c.eq.ensures ∙ c.if-eq.false in
    sym (register_next c.registers-r-items.result.now c.args.word.now c.loop-r.r-index R0 c.loop-r-test.true h) ∙ c.loop-r.invariant
