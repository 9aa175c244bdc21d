-- One import: why it is rejected, and the email that it creates (RFC 8621, 4.8; RFC 8620, 5.3).
use Rattle.std.specs.Prelude.{ℕ, List, [], ◌∷◌, length, true, not, Option, None, is_some, unwrap_or, codes}
use Rattle.set_parts.specs.Arguments.{Create}
use Rattle.set_parts.specs.declared.set_errors.SetError.{SetError}
use Rattle.email_creates.specs.Emails.{Progress, after_check, email_of}
use Rattle.email_creates.specs.Errors.{error_of, name_if, with_invalid}
use Rattle.email_creates.specs.Properties.{NamedBlob}
use Rattle.mail_import.specs.Properties.{Import, email_import_in}

-- the names of the invalid properties, in byte order
abbrev pub invalid_names : Import → List (List ℕ)
invalid_names a = with_invalid (name_if (not (is_some a.blob)) (codes "blobId")) a.sent

-- The error of an import that would be one more of so many emails: the first of
-- `invalidProperties`, `tooManyKeywords`, `tooManyMailboxes` and `overQuota` (RFC 8620, 5.3; RFC
-- 8621, 4.6 and 4.8). It brings no blob. None if it creates its email.
abbrev pub error_of_import : ℕ → Import → Option SetError
error_of_import emails a = error_of (invalid_names a) a.sent emails true

abbrev pub no_blob : NamedBlob
no_blob = record { number = 0; bytes = [] }

-- After an import into an account with these blobs, at this timestamp in Unix seconds.
abbrev pub after_import : List (List ℕ) → ℕ → Progress → Create → Progress
after_import blobs moment s x =
    let a = email_import_in blobs s.creating.content s.creating.made x.members in
    after_check s x.creation (email_of s moment a.sent (unwrap_or a.blob no_blob)) None
    (error_of_import (length s.creating.content.emails) a)

-- after imports, one after the other
abbrev pub after_imports : List (List ℕ) → ℕ → Progress → List Create → Progress
after_imports blobs moment s [] = s
after_imports blobs moment s (x ∷ xs) =
    after_imports blobs moment (after_import blobs moment s x) xs
