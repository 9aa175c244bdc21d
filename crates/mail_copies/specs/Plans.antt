-- The response to an Email/copy, its edits and the blobs that it brings (RFC 8620, 5.4; RFC 8621,
-- 4.7).
use Rattle.std.specs.Prelude.{ℕ, List, Some}
use Rattle.jm_base.specs.declared.identifiers.Kind.TheVariants.{Email as OfEmail}
use Rattle.jm_json.specs.Tree.{Tree}
use Rattle.jm_json.specs.declared.invocation.Created.{Created}
use Rattle.account_book.specs.declared.asks.Carried.{Carried}
use Rattle.mail_records.specs.Contents.{Content}
use Rattle.mail_records.specs.Histories.{History, blobs_of}
use Rattle.mail_counts.specs.Plans.{Ground, ground_of_history, present_state}
use Rattle.set_parts.specs.Arguments.{account_in, creates_in}
use Rattle.set_parts.specs.Outcomes.{Outcome, Plan, outcome_by}
use Rattle.email_creates.specs.Emails.{Progress}
use Rattle.email_creates.specs.Plans.{beginning, plan_after}
use Rattle.mail_copies.specs.Arguments.{count_copies, forms, from_account_in}
use Rattle.mail_copies.specs.Carried.{deliveries}
use Rattle.mail_copies.specs.Copies.{after_copies}

-- The copies of a call: its creates, in byte order of their creation ids, each with what is
-- delivered for it.
abbrev pub copying_in : Content → List (List ℕ) → Carried → List Created → ℕ
    → List (List ℕ × Tree) → Progress
copying_in c blobs carried made moment ms =
    after_copies blobs moment (beginning c made) (creates_in ms)
    (deliveries carried.emails carried.blobs)

-- The plan of copies that are not rejected as a whole. The blobs are the messages of the emails
-- that are created.
abbrev pub plan_in : Ground → List (List ℕ) → Carried → List Created → ℕ
    → List (List ℕ × Tree) → Plan
plan_in g blobs carried made moment ms =
    plan_after g (account_in ms) (Some (from_account_in ms))
    (copying_in g.content blobs carried made moment ms)

-- The outcome of an Email/copy with these arguments and what is carried, in the account to which
-- emails are copied: with these blobs, with what the request has created up to here, at a timestamp
-- in Unix seconds.
abbrev pub place_outcome : Ground → List (List ℕ) → Tree → Carried → List Created → ℕ → Outcome
place_outcome g blobs args carried made moment =
    outcome_by forms count_copies (present_state OfEmail g)
    (plan_in g blobs carried made moment) args

-- the outcome of an Email/copy in an account with this history, at its end
abbrev pub place_in : History → Tree → Carried → List Created → ℕ → Outcome
place_in h args carried made moment =
    place_outcome (ground_of_history h) (blobs_of h) args carried made moment
