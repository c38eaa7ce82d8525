-- What a parcel stands for.
use Rattle.std.specs.Prelude.{ℕ, List}

-- bytes under the number of the put that sent them
pub record Sent : Type 0 where
  pub id : ℕ
  pub bytes : List ℕ
