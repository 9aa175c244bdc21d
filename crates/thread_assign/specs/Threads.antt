-- The thread that a new email joins. RFC 8621, section 3, leaves the rule to the server, and
-- suggests that emails of one thread name a message id in common and have the same subject without
-- the prefixes of replies and forwards.
use Rattle.std.specs.Prelude.{ℕ, Bool, ◌&&◌, List, Option, option_map, find, bytes_eq}
use Rattle.std.specs.List.{list_any}
use Rattle.mail_records.specs.declared.records.Email.{Email}
use Rattle.mail_records.specs.declared.records.Summary.{Summary}

-- the link, a message id, is one of these links
abbrev pub has_link : List (List ℕ) → List ℕ → Bool
has_link links link = list_any (λ other. bytes_eq other link) links

-- one of these links is one of the other links
abbrev pub share_link : List (List ℕ) → List (List ℕ) → Bool
share_link links others = list_any (λ link. has_link others link) links

-- the email has this subject: a summary holds it without the prefixes of replies and forwards
abbrev pub has_subject : List ℕ → Email → Bool
has_subject subject email = bytes_eq email.summary.subject subject

-- the new email with this summary shares a link with the email, and has the same subject
abbrev pub is_related : Summary → Email → Bool
is_related summary email =
    share_link summary.links email.summary.links && has_subject summary.subject email

-- The thread that the new email with this summary joins: that of the first of the emails to which
-- it is related. In a table this is the email of the least number. Without one the new email joins
-- no thread.
abbrev pub joined_thread : List Email → Summary → Option ℕ
joined_thread emails summary = option_map (λ email. email.thread) (find (is_related summary) emails)
