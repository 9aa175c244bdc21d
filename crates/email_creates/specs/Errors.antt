-- Why the create of an email is rejected: the first of a list of tests that it fails (RFC 8620,
-- 5.3; RFC 8621, 4.6 to 4.8). A method may have tests of its own between those of form and of room.
use Rattle.std.specs.Prelude.{ℕ, List, [], ◌∷◌, ◌++◌, ◌==◌, length, Bool, not, nat_lt, nat_le, Option, Some, None, is_some, unwrap_or, if◌then◌else◌, codes}
use Rattle.jm_base.specs.declared.limits.TheConstants.{MAX_MAILBOXES_PER_EMAIL}
use Rattle.mail_counts.specs.declared.limits.TheConstants.{MAX_EMAILS_PER_ACCOUNT, MAX_KEYWORDS_PER_EMAIL}
use Rattle.set_parts.specs.declared.set_errors.SetError.{SetError}
use Rattle.set_parts.specs.declared.set_errors.SetError.TheVariants.{InvalidProperties, TooManyKeywords, TooManyMailboxes, OverQuota}
use Rattle.email_creates.specs.declared.properties.Sent.{Sent}

-- a test of a create: whether the create fails it, and its error then
pub record Test : Type 0 where
  pub fails : Bool
  pub error : SetError

-- the error of the first test that fails; None if none does
abbrev pub first_error : List Test → Option SetError
first_error [] = None
first_error (t ∷ ts) = if t.fails then Some t.error else first_error ts

-- the name of a property, if it is invalid
abbrev pub name_if : Bool → List ℕ → List (List ℕ)
name_if invalid name = if invalid then name ∷ [] else []

-- These names, and then those of the properties that are invalid, in byte order.
abbrev pub with_invalid : List (List ℕ) → Sent → List (List ℕ)
with_invalid names a =
    ((names
    ++ name_if (not (is_some a.keywords)) (codes "keywords"))
    ++ name_if (not (is_some a.mailboxes)) (codes "mailboxIds"))
    ++ name_if (not (is_some a.received)) (codes "receivedAt")

-- the tests of what is sent, with the names of the invalid properties in byte order
abbrev pub form_tests : List (List ℕ) → Sent → List Test
form_tests invalid a =
    record { fails = not (length invalid == 0); error = InvalidProperties invalid }
    ∷ record {
      fails = nat_lt MAX_KEYWORDS_PER_EMAIL (length (unwrap_or a.keywords []));
      error = TooManyKeywords;
    }
    ∷ record {
      fails = nat_lt MAX_MAILBOXES_PER_EMAIL (length (unwrap_or a.mailboxes []));
      error = TooManyMailboxes;
    }
    ∷ []

-- The tests of whether there is room: the email would be one more of so many, and there is room for
-- its message among the blobs or not.
abbrev pub room_tests : ℕ → Bool → List Test
room_tests emails room =
    record { fails = nat_le MAX_EMAILS_PER_ACCOUNT emails; error = OverQuota }
    ∷ record { fails = not room; error = OverQuota }
    ∷ []

-- the error of a create that has no tests of its own
abbrev pub error_of : List (List ℕ) → Sent → ℕ → Bool → Option SetError
error_of invalid a emails room = first_error (form_tests invalid a ++ room_tests emails room)
