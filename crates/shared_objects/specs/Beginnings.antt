-- For private functions and proofs alone: how an access begins, before its deed.
use Rattle.std.specs.Prelude.{◌≡◌, ℕ, ◌+◌, ◌^◌, ◌<◌, ◌≤◌, max, List, [], length, Result, Ok, Err}
use Rattle.memory.specs.Objects.{bytes_of}
use Rattle.scopes.specs.Windows.{noted}
use Rattle.shared_objects.specs.Kinds.{Sat, looking, marked, holding, worn_out}
use Rattle.shared_objects.specs.Resting.{HoldsBody}
use Rattle.shared_objects.specs.declared.view.View.{View}
use Rattle.shared_objects.specs.declared.view.Mark.TheVariants.{Away, Busy}
use Rattle.shared_objects.specs.declared.errors.Denied.{Denied}
use Rattle.shared_objects.specs.declared.errors.Denied.TheVariants as denied
use Rattle.shared_objects.specs.declared.touching.Stamps.{Stamps}

-- the view, window and stamp before, the object, the stamps or why it is denied, and the seat and window after
abbrev pub Begins : View → List ℕ → ℕ → ℕ → Result Stamps Denied → Sat → List ℕ → Type 0
Begins v window last n (Err denied.Outside) m after = ⊥
Begins v window last n (Err denied.Away) m after = (m ≡ (marked (Away n) v, [])) × (after ≡ window)
Begins v window last n (Err denied.Busy) m after = (m ≡ (marked (Busy n) (looking n v), [])) × (after ≡ noted n window)
Begins v window last n (Err denied.Worn) m after = ((found : ℕ) × (2 ^ 48 ≤ max last found + 1) × (m ≡ (worn_out n found (looking n v), [])))
    × (after ≡ noted n window)
Begins v window last n (Ok s) m after = (s.stamp ≡ max last s.found + 1) × (s.stamp < 2 ^ 48)
    × HoldsBody m n (λ body. (m.0 ≡ holding n s.found body.bytes.items (looking n v)) × (length body.bytes.items ≡ length (bytes_of v.opening n)))
    × (after ≡ noted n window)
