-- What the account of `batch` answers to a call. The one user may change this one account. The
-- state is the account's history.
use Rattle.std.specs.Prelude.{◌≡◌, ℕ, List, drop, length, false, Result, Ok, Err}
use Rattle.std.specs.List.{list_any}
use Rattle.jm_json.specs.Call.{Call as Invocation}
use Rattle.jm_json.specs.Invocations.{call_of}
use Rattle.jm_json.specs.declared.invocation.Invocation.{Invocation as TheInvocation}
use Rattle.jm_json.specs.declared.invocation.Created.{Created}
use Rattle.jm_json.specs.declared.invocation.Replied.{Replied}
use Rattle.mail_records.specs.Histories.{History, is_refused, account_after}
use Rattle.mail_records.specs.declared.edits.Stamp.{Stamp}
use Rattle.record_codec.specs.Sizes.{edit_bytes}
use Rattle.account_book.specs.Replies.{IsReply}
use Rattle.account_book.specs.declared.asks.Call.{Call as TheCall}
use Rattle.account_book.specs.declared.plans.Point.{Point}
use Rattle.account_book.specs.declared.plans.Out.{Out}
use Rattle.batch_lines.specs.declared.upload.Uploaded.{Uploaded as TheUploaded}
use Rattle.mail_calls.specs.Plans.{call_plan}
use Rattle.server_users.specs.declared.users.UserAccount.{UserAccount}
use Rattle.hall_port.specs.Lines.{uploaded_as}
use Rattle.read_replies.specs.Reads.{method_call}
use Rattle.read_replies.specs.Replies.{error_alone, replied_of}
use Rattle.hall_port.specs.Steps.{stored_of, upload_call}
use Rattle.read_replies.specs.Targets.{target_of}
use Rattle.jmap_commands.specs.OneUser.{account_id, the_accounts}

-- The point of a call that takes the history from h to h': of the one account, numbered 0, at the
-- timestamp 0. Before and after count the entries, so each point continues the one before it.
abbrev pub point_between : History → History → Point
point_between h h' =
    record { account = 0; before = length h.entries; after = length h'.entries; moment = 0 }

-- The account's answer at a point of a history, by the rules of mail.
abbrev pub IsMailReply : History → Point → TheCall → Stamp → Out → Type 0
IsMailReply = IsReply call_plan edit_bytes

-- A call on the account took its history from h to h', and is answered so: at the point between
-- them, with the entry under some stamp. The history continues what it was, and the account,
-- which is in memory, refused nothing.
pub record IsAccountAnswer (h : History) (c : TheCall) (out : Out) (h' : History) : Type 0 where
  pub stamp : Stamp
  pub begins : account_after h' (length h.entries) ≡ h
  pub kept : list_any is_refused (drop (length h.entries) h'.entries) ≡ false
  pub reply : IsMailReply h' (point_between h h') c stamp out

-- ---- methods

-- the call on the account that a method call is
abbrev pub asked : TheInvocation → List Created → TheCall
asked c made = method_call c made false

-- a method took the account's history from h to h', and is replied so
pub record IsPerformed (h : History) (c : Invocation) (made : List Created) (r : Replied)
    (h' : History) : Type 0 where
  pub call : TheInvocation
  pub out : Out
  pub same : call_of call ≡ c
  pub answer : IsAccountAnswer h (asked call made) out h'
  pub shown : r ≡ replied_of out

abbrev pub AnswersBy : Result UserAccount (List ℕ) → History → Invocation → List Created → Replied
    → History → Type 0
AnswersBy (Err kind) h c made r h' = (h' ≡ h) × (r ≡ error_alone kind c)
AnswersBy (Ok account) h c made r h' = IsPerformed h c made r h'

-- A call is answered by the error of the accounts that it names, as one that names another account.
-- Any other call is performed.
abbrev pub account_answers : History → Invocation → List Created → Replied → History → Type 0
account_answers h c made r h' = AnswersBy (target_of the_accounts c) h c made r h'

-- a call that ends out of memory leaves the account as it was
abbrev pub account_stops : History → Invocation → List Created → History → Type 0
account_stops h c made h' = h' ≡ h

-- ---- uploads

-- what an account's answer to an upload is: the blob is the account's
abbrev pub uploaded_of : Out → TheUploaded
uploaded_of out = uploaded_as account_id (stored_of out)

-- an upload took the account's history from h to h', and is answered so
pub record IsUploaded (h : History) (bytes : List ℕ) (u : TheUploaded) (h' : History) : Type 0 where
  pub out : Out
  pub answer : IsAccountAnswer h (upload_call bytes) out h'
  pub shown : u ≡ uploaded_of out

-- each upload is performed
abbrev pub account_uploads : History → List ℕ → TheUploaded → History → Type 0
account_uploads h bytes u h' = IsUploaded h bytes u h'

-- an upload that ends out of memory leaves the account as it was
abbrev pub account_halts : History → List ℕ → History → Type 0
account_halts h bytes h' = h' ≡ h
