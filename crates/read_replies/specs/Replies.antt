-- What a client's request is answered at a point of an account's history (RFC 8620, 3.3 and 3.4).
use Rattle.std.specs.Prelude.{◌≡◌, ℕ, List, [], ◌∷◌, Result, Ok, Err, codes}
use Rattle.jm_json.specs.Call.{Call, error_of}
use Rattle.jm_json.specs.Responses.{responses_tree}
use Rattle.jm_json.specs.Tree.{Tree}
use Rattle.jm_json.specs.declared.invocation.Replied.{Replied}
use Rattle.mail_records.specs.Histories.{History, account_after}
use Rattle.account_book.specs.declared.plans.Out.{Out}
use Rattle.account_book.specs.declared.plans.Out.TheVariants as out
use Rattle.account_book.specs.declared.plans.Point.{Point}
use Rattle.method_batch.specs.OneCall.{single_request}
use Rattle.server_users.specs.declared.users.UserAccount.{UserAccount}
use Rattle.read_replies.specs.Reads.{ReadMethod, read_name, read_plan}
use Rattle.read_replies.specs.Targets.{target_of}

-- the reply that is one error
abbrev pub error_alone : List ℕ → Call → Replied
error_alone kind c = record { responses = error_of kind c.id ∷ []; made = [] }

-- the reply to a method that an account's answer is
abbrev pub replied_of : Out → Replied
replied_of (out.Replies r) = r
replied_of _ = record { responses = []; made = [] }

-- A call that reads the user's account was performed at a point of the account's history, and is
-- replied so. It sees the entries before the point alone, and no entry is gained.
pub record IsReadAt (h : History) (point : Point) (a : UserAccount) (c : Call) (r : Replied)
    : Type 0 where
  pub method : ReadMethod
  pub name : c.name ≡ read_name method
  pub account : point.account ≡ a.number
  pub same : point.after ≡ point.before
  pub reply : r ≡ replied_of
      (read_plan (account_after h point.before) c a.read_only method).out

-- on the account that the call names, or with the error of the accounts that it names
abbrev pub RepliesBy : History → Point → Result UserAccount (List ℕ) → Call → Replied → Type 0
RepliesBy h point (Ok a) c r = IsReadAt h point a c r
RepliesBy h point (Err kind) c r = r ≡ error_alone kind c

-- The reply to a call that reads, of a user with these accounts, at a point of the history of the
-- account that it names. An error of the accounts that it names is the same at each point.
abbrev pub RepliesAt : History → Point → List UserAccount → Call → Replied → Type 0
RepliesAt h point accounts c r = RepliesBy h point (target_of accounts c) c r

-- the Response has the responses of that reply alone
pub record ShowsReply (h : History) (point : Point) (accounts : List UserAccount) (c : Call)
    (response : Tree) : Type 0 where
  pub replied : Replied
  pub replies : RepliesAt h point accounts c replied
  pub shows : response ≡ responses_tree replied.responses (codes "0")

-- so is the Response to a request of one call that reads
pub record IsReplyAt (h : History) (point : Point) (accounts : List UserAccount)
    (request response : Tree) : Type 0 where
  pub call : Call
  pub replied : Replied
  pub asks : request ≡ single_request call
  pub replies : RepliesAt h point accounts call replied
  pub shows : response ≡ responses_tree replied.responses (codes "0")
