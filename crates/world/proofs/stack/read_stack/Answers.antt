use Rattle.std.proofs.Common.{length}
use Rattle.std.proofs.lemmas.Option.{slice_get-get_or}
use Rattle.world.proofs.StackRead.{stack_read, stack_refused}
use Rattle.world.proofs.stack.read_stack.Goals as goal

pub returns-clause-shown : goal.returns-clause-shown
returns-clause-shown c =
    let found = slice_get-get_or c.args.machines.now c.in-Some.index c.index-machines-index.result c.in-Some.ensures.some.1 in
    stack_read c.args.machines.now c.args.machine c.in-Some.index c.args.offset (length c.args.into.now) _ c.stack.result.now
    c.read_range.new.into c.read_range.result
    c.in-Some.ensures.some.0 found c.stack.ensures c.read_range.ensures.shown

pub returns-clause-refused : goal.returns-clause-refused
returns-clause-refused c =
    let found = slice_get-get_or c.args.machines.now c.in-Some.index c.index-machines-index.result c.in-Some.ensures.some.1 in
    stack_refused c.args.machines.now c.args.machine c.in-Some.index c.args.offset (length c.args.into.now) _ c.stack.result.now c.read_range.result
    c.in-Some.ensures.some.0 found c.stack.ensures c.read_range.ensures.refused
