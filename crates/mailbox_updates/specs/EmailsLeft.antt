-- What the destroys of mailboxes leave of emails (RFC 8621, 2.5).
use Rattle.std.specs.Prelude.{ℕ, List, [], ◌∷◌, filter, not, ◌==◌, if◌then◌else◌}
use Rattle.std.specs.List.{flat_map, list_any}
use Rattle.mail_counts.specs.Counts.{is_in}
use Rattle.mail_counts.specs.Touched.{is_one_of}
use Rattle.mail_records.specs.declared.records.Email.{Email}

-- the mailboxes without this one
abbrev pub mailboxes_but : ℕ → List ℕ → List ℕ
mailboxes_but n numbers = filter (λ m. not (m == n)) numbers

-- the email with these mailboxes, if there are any
abbrev pub left_with : Email → List ℕ → List Email
left_with e [] = []
left_with e (m ∷ ms) = record e { mailboxes = m ∷ ms } ∷ []

-- what is left of an email as its mailbox of this number is destroyed
abbrev pub left_without : ℕ → Email → List Email
left_without n e = if is_in n e then left_with e (mailboxes_but n e.mailboxes) else e ∷ []

-- the mailboxes that are not among the destroyed ones
abbrev pub mailboxes_left : List ℕ → List ℕ → List ℕ
mailboxes_left gone numbers = filter (λ m. not (is_one_of gone m)) numbers

-- what is left of an email as the mailboxes of these numbers are destroyed
abbrev pub left_of : List ℕ → Email → List Email
left_of gone e =
    if list_any (is_one_of gone) e.mailboxes
    then left_with e (mailboxes_left gone e.mailboxes)
    else e ∷ []

-- what is left of emails
abbrev pub emails_left : List ℕ → List Email → List Email
emails_left gone es = flat_map (left_of gone) es
