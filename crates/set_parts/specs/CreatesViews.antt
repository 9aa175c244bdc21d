-- What contracts see of the creates that the code holds.
use Rattle.std.specs.Prelude.{◌≡◌}
use Rattle.set_parts.specs.Creates.{Creating}
use Rattle.set_parts.specs.Views.{HoldIds}
use Rattle.set_parts.specs.declared.creates.Creates.{Creates}

-- the code has what the creates of a call have come to, but for the content
pub record KeepUp (p : Creates) (s : Creating) : Type 0 where
  pub ids : HoldIds p.ids s.made
  pub fresh : p.fresh ≡ s.fresh
  pub edits : p.edits ≡ s.edits
  pub blobs : p.blobs ≡ s.blobs
  pub created : p.created ≡ s.created
  pub not_created : p.not_created ≡ s.not_created
