use Rattle.mime_type.proofs.Utf8.{without_open-utf8, without_close-utf8}
use Rattle.mime_type.proofs.labels.read_id.Goals as goal

pub copy_text-requires : goal.copy_text-requires
copy_text-requires c = rw c.strip_brackets.ensures (without_close-utf8 _ (without_open-utf8 _ c.as_bytes.ensures.utf8))
