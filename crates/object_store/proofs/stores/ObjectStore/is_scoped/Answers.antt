use Rattle.std.proofs.Common.{arith}
use Rattle.std.proofs.lemmas.Bool.Decides.{Decides-ltb, not_from_Decides}
use Rattle.object_store.proofs.Found.{live_inside, read}
use Rattle.object_store.proofs.stores.ObjectStore.is_scoped.Goals as goal

pub returns : goal.returns
returns g c =
    let inside = live_inside c.self.inside.bodies c.args.number c.self.view_is c.as_slice-bodies.ensures.value c.requires in
    let is = read c.self.inside.bodies c.args.number c.self.invariant c.self.view_is c.as_slice-bodies.ensures.value inside c.index-bodies-index.is in
    let scopes = is.scopes in
    let count = c.scopes.ensures in
    record {
      scoped = λ h. let more = (Decides-ltb _ _).0 h in omega (arith, more, scopes, count);
      free = λ h some. not_from_Decides _ (Decides-ltb _ _) h (omega (arith, some, scopes, count));
    }
