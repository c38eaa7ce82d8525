-- The bytes that a table is opened with.
use Rattle.std.specs.Prelude.{ℕ, List, [], ◌∷◌, map, Vec}
use Rattle.std.specs.declared.alloc.Global.{Global}

-- the bytes of each number: the bodies in order, from number 1 on
abbrev pub opening_bytes : Vec (Vec ℕ Global) Global → List (List ℕ)
opening_bytes bodies = [] ∷ map (λ (b : Vec ℕ Global). b.items) bodies.items
