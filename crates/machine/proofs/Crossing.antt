-- A machine may go to another thread.
use denote.Param.Send.{IsSend, sendable}
use Rattle.std.proofs.Crossing.{crosses}
use Rattle.loader.proofs.Crossing.{program_send}
use Rattle.machine.specs.contracts.processor.Processor as Processor
use Rattle.machine.specs.contracts.machine.Machine as Machine

processor_send : IsSend Processor.the_row
processor_send = search (sendable, crosses) depth 60 fits 20000

pub machine_send : IsSend Machine.the_row
machine_send = search (sendable, crosses, program_send, processor_send) depth 60 fits 20000
