-- What contracts see of a list of blobs.
use Rattle.std.specs.Prelude.{ℕ, List}

-- the blobs, oldest first, and for how many more there is room that needs no memory
pub record BlobRows : Type 0 where
  pub blobs : List (List ℕ)
  pub spare : ℕ
