-- Threads may share a pool.
use denote.RattleType.{RattleType}
use denote.Param.Send.{IsSend, IsSync, sendable, view_send}
use denote.Param.SendFields.{as_row_send, declared_send, declared_sync, variants_send}
use denote.Struct.Field.{row_field}
use Rattle.std.proofs.Crossing.{crosses}
use Rattle.std.specs.contracts.option.Option as Options
use Rattle.std.specs.contracts.vec.Vec as Vecs
use Rattle.std.specs.contracts.alloc.Global as Heap
use Rattle.std.specs.contracts.impls.GlobalAllocator.TheImpl.{ghosts}
use Rattle.machine.proofs.Crossing.{machine_send}
use Rattle.shared_objects.specs.contracts.table.SharedTable as SharedTable
use Rattle.shared_objects.specs.contracts.seats.ActorSeat as ActorSeat
use Rattle.atomic_table.proofs.shared.Shared.TheSendSync as shared
use Rattle.atomic_table.proofs.shared.Seat.TheSendSync as seat
use Rattle.atomic_table.proofs.send_lease.SendLease.TheSendSync as lease
use Rattle.workers.specs.declared.table_name.TableName.{Ghosts}
use Rattle.workers.specs.contracts.running.Running as Running
use Rattle.workers.specs.contracts.cell.Locked as Locked
use Rattle.workers.specs.contracts.cell.Locked.TheInside as Inside
use Rattle.workers.specs.contracts.cell.Occupied as Occupied
use Rattle.workers.specs.contracts.cell.MachineCell as MachineCell
use Rattle.workers.specs.contracts.requests.Requests as Requests
use Rattle.workers.specs.contracts.passages.Passages as Passages
use Rattle.workers.specs.contracts.pool.Pool as Pool
use Rattle.workers.specs.contracts.movers.Mover as Mover
use Rattle.workers.specs.contracts.movers.Mover.TheInside as MoverInside
use Rattle.shared_objects.specs.contracts.seats.MoverSeat as MoverSeat
use Rattle.shared_objects.specs.contracts.shared.Shared as Shared
use Rattle.far_store.specs.declared.store.FarStore as FarStores

pub running_send : IsSend Running.the_row
running_send = search (machine_send, sendable, crosses) depth 60 fits 20000

pub seat_send : IsSend ActorSeat.the_row
seat_send = search (sendable, crosses, shared.the_send, shared.the_sync, seat.the_send, lease.the_send, lease.the_sync) depth 60 fits 20000

mover_seat_send : IsSend MoverSeat.the_row
mover_seat_send = search (sendable, crosses, seat.the_send) depth 60 fits 20000

pub table_sync : IsSync SharedTable.the_row
table_sync = search (sendable, crosses, shared.the_send, shared.the_sync, seat.the_send, lease.the_send, lease.the_sync) depth 60 fits 20000

pub requests_sync : IsSync Requests.the_row
requests_sync = search (sendable, crosses, shared.the_send, shared.the_sync, seat.the_send, lease.the_send, lease.the_sync) depth 60 fits 20000

module _ (K : RattleType) (g : Ghosts K.Denot) where
  inside_send : IsSend (Inside.the_row K g)
  inside_send = declared_send (Inside.the_type K g)
      (search sendable, (seat_send, (search (running_send, sendable) depth 20, (search sendable, (search (sendable, crosses) depth 20, tt)))))

  pub locked_send : IsSend (Locked.the_row K g)
  locked_send = search (inside_send, view_send)

  pub occupied_send : IsSend (Occupied.the_row K g)
  occupied_send = search (sendable, crosses) depth 60 fits 20000

  pub passages_sync : IsSync (Passages.the_row K g)
  passages_sync = search (sendable, crosses) depth 60 fits 20000

  pub cell_sync : IsSync (MachineCell.the_row K g)
  cell_sync = search (locked_send, sendable, crosses) depth 60 fits 20000

module _ (F K P : RattleType) (gF : FarStores.Ghosts F.Denot P.Denot) (gK : Ghosts K.Denot) where
  pub shared_sync : IsSync (Shared.the_row F P gF)
  shared_sync = declared_sync (Shared.the_type F P gF) (table_sync, (search sendable depth 20, tt))

  pub pool_sync : IsSync (Pool.the_row F K P gF gK)
  pool_sync = declared_sync (Pool.the_type F K P gF gK) (
    shared_sync,
    (
      search (cell_sync, sendable, crosses) depth 20,
      (
        search (occupied_send, sendable, crosses) depth 20,
        (
          search (sendable, crosses, shared.the_sync, lease.the_sync) depth 60 fits 5000,
          (
            search (sendable, crosses, shared.the_send, lease.the_send) depth 60 fits 5000,
            (requests_sync, (search crosses, (search crosses, (search crosses, (search (passages_sync, sendable, crosses) depth 20, tt))))),
          ),
        ),
      ),
    ),
  )

module _ (F K P : RattleType) (gF : FarStores.Ghosts F.Denot P.Denot) (gK : Ghosts K.Denot) (f : IsSend F) (p : IsSend P) where
  parcel_send : IsSend (Options.the_row P)
  parcel_send = variants_send (Options.enum P) (tt, ((as_row_send (row_field P) p, tt), tt))

  parcels_send : IsSend (Vecs.the_row (Options.the_row P) Heap.the_row ghosts)
  parcels_send = search (parcel_send, crosses)

  mover_inside_send : IsSend (MoverInside.the_row F K P gF gK)
  mover_inside_send = declared_send (MoverInside.the_type F K P gF gK) (
    mover_seat_send,
    (
      as_row_send (row_field F) f,
      (
        search (parcels_send, as_row_send),
        (search sendable, (search sendable, tt)),
      ),
    ),
  )

  pub mover_send : IsSend (Mover.the_row F K P gF gK)
  mover_send = search (mover_inside_send, view_send)
