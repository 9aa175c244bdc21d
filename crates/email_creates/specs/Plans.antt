-- The plan of a call of creates of emails: its response, its edits and the blobs that it brings
-- (RFC 8620, 5.3 and 5.4; RFC 8621, 4.7 and 4.8).
use Rattle.std.specs.Prelude.{ℕ, List, [], ◌∷◌, ◌++◌, Option, Some, None, codes}
use Rattle.jm_base.specs.Ids.{state_text}
use Rattle.jm_base.specs.declared.identifiers.Kind.TheVariants.{Email as OfEmail}
use Rattle.jm_json.specs.Tree.{Tree, text, object, fields_of}
use Rattle.jm_json.specs.declared.invocation.Created.{Created}
use Rattle.mail_records.specs.Contents.{Content}
use Rattle.mail_records.specs.declared.edits.Edit.{Edit}
use Rattle.mail_counts.specs.DerivedEdits.{derived_edits}
use Rattle.mail_counts.specs.Plans.{Ground, present_state, state_after}
use Rattle.method_args.specs.Wrapped.{object_or_null}
use Rattle.set_parts.specs.Creates.{before_creates}
use Rattle.set_parts.specs.Outcomes.{Plan}
use Rattle.email_creates.specs.Emails.{Progress}

-- the account that emails are copied from, of a copy
abbrev pub from_members : Option (List ℕ) → List (List ℕ × Tree)
from_members None = []
from_members (Some from) = (codes "fromAccountId", text from) ∷ []

-- the arguments of the response: the account and the one that is copied from, the states before and
-- after, what was created, and what was not
abbrev pub reply_members : List ℕ → Option (List ℕ) → ℕ → ℕ → List (List ℕ × Tree)
    → List (List ℕ × Tree) → List (List ℕ × Tree)
reply_members to from before after created not_created =
    (codes "accountId", text to)
    ∷ (codes "created", object_or_null created)
    ∷ (from_members from
    ++ (codes "newState", text (state_text after))
    ∷ (codes "notCreated", object_or_null not_created)
    ∷ (codes "oldState", text (state_text before))
    ∷ [])

-- the edits of a call: of its emails, and those of threads and counts that follow from them
abbrev pub all_edits : Content → Progress → List Edit
all_edits c s = s.creating.edits ++ derived_edits c s.creating.edits

-- where the creates of a call begin
abbrev pub beginning : Content → List Created → Progress
beginning c made = record { creating = before_creates c made; next_thread = c.next_thread }

-- The plan of creates in an account, which may be copied from another one. The blobs are the
-- messages of the emails that bring one.
abbrev pub plan_after : Ground → List ℕ → Option (List ℕ) → Progress → Plan
plan_after g to from s = record {
  reply = object (fields_of
      (reply_members to from (present_state OfEmail g)
      (state_after OfEmail g (all_edits g.content s)) s.creating.created s.creating.not_created));
  edits = all_edits g.content s;
  made = s.creating.fresh;
  blobs = s.creating.blobs;
}
