-- The outcome of imports over what a history says.
use Rattle.std.proofs.Common.{◌≡◌, ℕ, List, ap₂}
use Rattle.jm_json.specs.Tree.{Tree}
use Rattle.jm_json.specs.declared.invocation.Created.{Created}
use Rattle.mail_records.specs.Contents.{Content}
use Rattle.mail_records.specs.Histories.{History, blobs_of, content_of, ids_of}
use Rattle.mail_counts.specs.Plans.{Ground}
use Rattle.set_parts.specs.Outcomes.{ground_of}
use Rattle.state_log.specs.Logs.{Notes, IsLogOf, ids_in}
use Rattle.state_log.proofs.Agreement.{ids_in-log}
use Rattle.email_creates.proofs.Planning.{same_ground}
use Rattle.mail_import.specs.Plans.{import_in, import_outcome}

-- the outcome over a content, a log and blobs that are those of a history
pub same_outcome : (h : History) (c : Content) (l : Notes) (blobs : List (List ℕ)) (args : Tree) (made : List Created) (moment : ℕ) → c ≡ content_of h → IsLogOf h l → blobs ≡ blobs_of h
    → import_outcome (ground_of c l) blobs args made moment ≡ import_in h args made moment
same_outcome h c l blobs args made moment content log same =
    ap₂ (λ (g : Ground) (bs : List (List ℕ)). import_outcome g bs args made moment)
    (same_ground c (content_of h) l.floor h.floor l.floors h.floors (ids_in l.notes) (ids_of h) content log.floor log.floors (ids_in-log h l log)) same
