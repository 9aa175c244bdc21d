-- The rules by which the tests of halls perform calls: a method adds a mailbox without a name, and
-- is answered with its number; a copy carries nothing, and adds such a mailbox where it is placed.
-- No rules of the product use them.
use Rattle.std.specs.Prelude.{ℕ, ◌≤◌, false, [], ◌∷◌, None}
use Rattle.blob_store.specs.Blobs.{AreBlobsFew}
use Rattle.jm_json.specs.Invocations.{call_of}
use Rattle.jm_json.specs.declared.invocation.Invocation.{Invocation}
use Rattle.mail_records.specs.Histories.{History, IsFounded, IsSound, blobs_of, edits_of, content_of}
use Rattle.mail_records.specs.declared.records.Mailbox.{Mailbox}
use Rattle.mail_records.specs.declared.edits.Edit.TheVariants.{PutMailbox}
use Rattle.record_codec.specs.Sizes.{edit_bytes}
use Rattle.account_book.specs.declared.limits.TheConstants.{MAX_EDIT_BYTES}
use Rattle.account_book.specs.declared.asks.Ask.{Ask}
use Rattle.account_book.specs.declared.asks.Ask.TheVariants.{Method, Upload, Blob, Fetch, Place, States}
use Rattle.account_book.specs.declared.asks.Call.{Call}
use Rattle.account_book.specs.declared.plans.Out.TheVariants.{Uploaded, Full, Carried, Replies}
use Rattle.account_book.specs.declared.plans.Plan.{Plan}

-- the mailbox of a number
abbrev pub added : ℕ → Mailbox
added n = record {
  number = n;
  name = [];
  parent = None;
  role = None;
  sort_order = 0;
  subscribed = false;
  total_emails = 0;
  unread_emails = 0;
  total_threads = 0;
  unread_threads = 0;
}

-- the plan that adds it
abbrev pub add : ℕ → Plan
add n = record {
  out = Uploaded n;
  blobs = [];
  edits = PutMailbox (added n) false false ∷ [];
}

-- the plan that adds it where a copy is placed, with that call as the response
abbrev pub placed : Invocation → ℕ → Plan
placed c n = record {
  out = Replies (record { responses = call_of c ∷ []; made = [] });
  blobs = [];
  edits = PutMailbox (added n) false false ∷ [];
}

-- the plan by which a copy carries nothing
abbrev pub fetched : Plan
fetched = record { out = Carried (record { emails = []; blobs = [] }); blobs = []; edits = [] }

-- the plan that changes nothing
abbrev pub idle : Plan
idle = record { out = Full; blobs = []; edits = [] }

-- what is planned for what is asked, where the next mailbox has this number
abbrev pub plan_with : Ask → ℕ → Plan
plan_with (Method call) n = add n
plan_with (Place call carried) n = placed call n
plan_with (Fetch call) n = fetched
plan_with (Upload bytes) n = idle
plan_with (Blob name) n = idle
plan_with States n = idle

abbrev pub adding_plan : History → Call → Plan
adding_plan h call = plan_with call.ask (content_of h).next_mailbox

-- the history is founded and sound, and within the limits
pub record IsAdded (h : History) : Type 0 where
  pub founded : IsFounded h
  pub sound : IsSound h
  pub few : AreBlobsFew (blobs_of h)
  pub within : edit_bytes (edits_of h) ≤ MAX_EDIT_BYTES
