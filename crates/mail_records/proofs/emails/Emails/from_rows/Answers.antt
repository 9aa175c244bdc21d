use Rattle.std.proofs.Common.{map, refl, sym, subst}
use Rattle.mail_records.specs.Contents.{blob_of, email_number}
use Rattle.mail_records.specs.Tables.{IsTable}
use Rattle.mail_records.proofs.Tables.{IsTable-map}
use Rattle.mail_records.proofs.emails.Emails.from_rows.Goals as goal

pub from_rows-blobs-requires : goal.from_rows-blobs-requires
from_rows-blobs-requires c =
    let blobs = IsTable-map email_number (λ b. b.email) blob_of (λ x. refl) c.args.rows.items c.requires in
    subst (IsTable (λ b. b.email)) (sym c.in_ok-collect_blobs.ensures)
    (subst (λ es. IsTable (λ b. b.email) (map blob_of es)) (sym c.deref.ensures.value) blobs)
