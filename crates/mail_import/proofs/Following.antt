-- The steps of imports, by what the code knows of them.
use Rattle.std.proofs.Common.{◌≡◌, ℕ, ◌+◌, ◌<◌, true, List, length, map, drop, get_or, Option, None, unwrap_or, sym, ap, ◌∙◌, codes}
use Rattle.std.proofs.lemmas.List.{drop_more}
use Rattle.jm_json.specs.Tree.{Tree}
use Rattle.jm_json.specs.Find.{find}
use Rattle.jm_json.specs.declared.invocation.Created.{Created}
use Rattle.mail_records.specs.Contents.{Content, mailbox_number}
use Rattle.mail_records.specs.declared.records.Mailbox.{Mailbox}
use Rattle.set_parts.specs.Arguments.{Create}
use Rattle.set_parts.specs.Names.{keywords_in, mailboxes_in}
use Rattle.set_parts.specs.Views.{create_of}
use Rattle.set_parts.specs.declared.arguments.SentCreate.{SentCreate}
use Rattle.set_parts.specs.declared.set_errors.SetError.{SetError}
use Rattle.email_creates.specs.Emails.{Progress, after_check, email_of}
use Rattle.email_creates.specs.Errors.{error_of}
use Rattle.email_creates.specs.Properties.{received_in}
use Rattle.mail_import.specs.Imports.{after_import, after_imports, error_of_import, invalid_names, no_blob}
use Rattle.mail_import.specs.Properties.{Import, blob_in, email_import_in}

-- what is sent, by the mailboxes alone
abbrev sent_by : (blobs : List (List ℕ)) (made : List Created) (ms : List (List ℕ × Tree)) (rows : List Mailbox) → Import
sent_by blobs made ms rows = record {
  blob = blob_in blobs (find (codes "blobId") ms);
  sent = record {
    keywords = keywords_in (find (codes "keywords") ms);
    mailboxes = mailboxes_in (map mailbox_number rows) made (find (codes "mailboxIds") ms);
    received = received_in (find (codes "receivedAt") ms);
  };
}

sent_same : (blobs : List (List ℕ)) (made : List Created) (ms : List (List ℕ × Tree)) (c d : Content) → c.mailboxes ≡ d.mailboxes → email_import_in blobs c made ms ≡ email_import_in blobs d made ms
sent_same blobs made ms c d same = ap (sent_by blobs made ms) same

pub import_step : (blobs : List (List ℕ)) (moment : ℕ) (s : Progress) (x : Create) (c : Content) (a : Import) (n : ℕ) (invalid : List (List ℕ)) (o : Option SetError) → s.creating.content.mailboxes ≡ c.mailboxes
    → a ≡ email_import_in blobs c s.creating.made x.members → length s.creating.content.emails ≡ n → invalid ≡ invalid_names a → error_of invalid a.sent n true ≡ o
    → after_import blobs moment s x ≡ after_check s x.creation (email_of s moment a.sent (unwrap_or a.blob no_blob)) None o
import_step blobs moment s x c a n invalid o mailboxes sent count names error =
    let is : email_import_in blobs s.creating.content s.creating.made x.members ≡ a = sent_same blobs s.creating.made x.members s.creating.content c mailboxes ∙ sym sent in
    ap (λ (b : Import). after_check s x.creation (email_of s moment b.sent (unwrap_or b.blob no_blob)) None (error_of_import (length s.creating.content.emails) b)) is
    ∙ ap (after_check s x.creation (email_of s moment a.sent (unwrap_or a.blob no_blob)) None)
    (ap (λ k. error_of_import k a) count ∙ (ap (λ (xs : List (List ℕ)). error_of xs a.sent n true) (sym names) ∙ error))

pub imports_step : (blobs : List (List ℕ)) (moment : ℕ) (s : Progress) (ds : List SentCreate) (i : ℕ) (e : SentCreate) → i < length ds → e ≡ get_or ds i e
    → after_imports blobs moment s (map create_of (drop i ds)) ≡ after_imports blobs moment (after_import blobs moment s (create_of e)) (map create_of (drop (i + 1) ds))
imports_step blobs moment s ds i e lt is =
    ap (λ xs. after_imports blobs moment s (map create_of xs)) (drop_more ds i e lt)
    ∙ ap (λ d. after_imports blobs moment (after_import blobs moment s (create_of d)) (map create_of (drop (i + 1) ds))) (sym is)
