-- What it is to collapse threads (RFC 8621, 4.4.3).
use Rattle.std.specs.Prelude.{ℕ, List, [], ◌∷◌, option_map, if◌then◌else◌}
use Rattle.std.specs.Option.{unwrap_or}
use Rattle.jm_base.specs.Splices.{has}
use Rattle.mail_records.specs.Contents.{Content, email_at}
use Rattle.mail_records.specs.declared.records.Email.{Email}

-- the thread of the email of a number
abbrev pub thread_of : Content → ℕ → ℕ
thread_of c n = unwrap_or (option_map (λ (e : Email). e.thread) (email_at c n)) 0

-- The numbers of a list but those of emails in the same thread as an earlier email of the list, or
-- in one of these threads.
abbrev pub first_of_threads : Content → List ℕ → List ℕ → List ℕ
first_of_threads c threads [] = []
first_of_threads c threads (n ∷ ns) =
    if has threads (thread_of c n)
    then first_of_threads c threads ns
    else n ∷ first_of_threads c (thread_of c n ∷ threads) ns
