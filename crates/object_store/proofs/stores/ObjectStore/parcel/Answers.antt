use Rattle.std.proofs.Common.{sym, ◌∙◌, arith}
use Rattle.object_store.proofs.Found.{read}
use Rattle.object_store.proofs.stores.ObjectStore.parcel.Goals as goal

pub returns-clause-some : goal.returns-clause-some
returns-clause-some g c = let is = read c.self.inside.bodies c.args.number c.self.invariant c.self.view_is c.as_slice-bodies.ensures.value (omega arith) c.index-bodies-index.is in
    rw is.bytes c.parcel.ensures.some

pub returns-clause-far : goal.returns-clause-far
returns-clause-far g c = let is = read c.self.inside.bodies c.args.number c.self.invariant c.self.view_is c.as_slice-bodies.ensures.value (omega arith) c.index-bodies-index.is in
    λ none stands. c.parcel.ensures.far none (sym is.place ∙ stands.1)

pub returns-clause-returning : goal.returns-clause-returning
returns-clause-returning g c = let is = read c.self.inside.bodies c.args.number c.self.invariant c.self.view_is c.as_slice-bodies.ensures.value (omega arith) c.index-bodies-index.is in
    λ none stands. c.parcel.ensures.returning none (sym is.place ∙ stands.1)
