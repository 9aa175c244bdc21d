-- The email that decides the thread of a new one, as it is looked for link by link.
use Rattle.std.specs.Prelude.{ℕ, Bool, ◌&&◌, List, [], ◌∷◌, Option, Some, None, option_map, option_and_then, find, if◌then◌else◌, nat_lt}
use Rattle.std.specs.Option.{option_or}
use Rattle.mail_records.specs.Tables.{lookup}
use Rattle.mail_records.specs.Contents.{email_number}
use Rattle.mail_records.specs.declared.records.Email.{Email}
use Rattle.mail_records.specs.declared.entries.Linked.{Linked}
use Rattle.thread_assign.specs.declared.candidates.Candidate.{Candidate}
use Rattle.thread_assign.specs.Threads.{has_link, has_subject, share_link}

-- an email as a candidate
abbrev pub candidate_of : Email → Candidate
candidate_of email = record { number = email.number; thread = email.thread }

-- the first of the emails that passes the test
abbrev pub first_candidate : (Email → Bool) → List Email → Option Candidate
first_candidate test emails = option_map candidate_of (find test emails)

-- the candidate of the lesser number, of those that there are
abbrev pub lesser : Option Candidate → Option Candidate → Option Candidate
lesser None other = other
lesser (Some one) None = Some one
lesser (Some one) (Some other) = if nat_lt other.number one.number then Some other else Some one

-- the email, if it has the subject
abbrev pub if_has_subject : List ℕ → Email → Option Candidate
if_has_subject subject email = if has_subject subject email then Some (candidate_of email) else None

-- the first of the entries' emails that has the subject
abbrev pub first_entry : List ℕ → List Email → List Linked → Option Candidate
first_entry subject emails [] = None
first_entry subject emails (entry ∷ entries) =
    option_or (option_and_then (if_has_subject subject) (lookup email_number entry.email emails))
    (first_entry subject emails entries)

-- the email has the link and the subject
abbrev pub has_both : List ℕ → List ℕ → Email → Bool
has_both link subject email = has_link email.summary.links link && has_subject subject email

-- the email has one of the links, and the subject
abbrev pub has_any : List (List ℕ) → List ℕ → Email → Bool
has_any links subject email = share_link links email.summary.links && has_subject subject email
