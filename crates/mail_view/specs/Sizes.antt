-- The sizes of bodies that are kept while a message is shown.
use Rattle.std.specs.Prelude.{◌≡◌, ◌≤◌, List, ℕ, length, slice_range}
use Rattle.mime_codec.specs.Decoded.{decoded}
use Rattle.mail_view.specs.declared.sizes.BodySize.{BodySize}

-- this is how many bytes the body at these byte offsets encodes
pub record IsSizeOf (bytes : List ℕ) (s : BodySize) : Type 0 where
  pub same : s.size ≡ length (decoded s.coding (slice_range bytes s.body s.end))
  pub within : s.size ≤ length bytes
