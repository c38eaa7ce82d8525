-- Parcels, by the bytes for which they stand, and when two strings of bytes can't be told apart by what is kept of them.
use Rattle.std.specs.Prelude.{◌≡◌, ℕ, List, length}
use Rattle.sha2.specs.Sha256.{sha256}
use Rattle.library_store.specs.declared.parcel.LibraryParcel.{LibraryParcel}
use Rattle.library_store.specs.declared.parcel.LibraryParcel.TheVariants.{Kept, Handed}

-- for which bytes a parcel stands
abbrev pub bytes_in : LibraryParcel → List ℕ
bytes_in (Kept bytes) = bytes.items
bytes_in (Handed bytes) = bytes

-- the parcel has length and SHA-256 of its bytes alone
abbrev pub IsHanded : LibraryParcel → Type 0
IsHanded (Kept bytes) = ⊥
IsHanded (Handed bytes) = Unit {0}

-- Bytes of the same length and the same SHA-256.
abbrev pub Alike : List ℕ → List ℕ → Type 0
Alike a b = (length a ≡ length b) × (sha256 a ≡ sha256 b)
