-- What a call on an account is answered, and what it does to the account's history. What a call
-- plans, and how many bytes edits take where they are kept, are parameters.
use Rattle.std.specs.Prelude.{◌≡◌, ℕ, ◌+◌, ◌≤◌, false, List, [], ◌∷◌, ◌⊎◌, drop, length, codes}
use Rattle.std.specs.List.{list_any}
use Rattle.jm_json.specs.Call.{error_of}
use Rattle.mail_records.specs.Histories.{History, Committed, Refused, is_refused, edits_of, account_after, grown}
use Rattle.mail_records.specs.declared.edits.Edit.{Edit}
use Rattle.mail_records.specs.declared.edits.Commit.{Commit}
use Rattle.mail_records.specs.declared.edits.Stamp.{Stamp}
use Rattle.account_book.specs.declared.limits.TheConstants.{MAX_EDIT_BYTES}
use Rattle.account_book.specs.declared.asks.Ask.{Ask}
use Rattle.account_book.specs.declared.asks.Ask.TheVariants.{Method, Upload, Blob, Fetch, Place, States}
use Rattle.account_book.specs.declared.asks.Call.{Call}
use Rattle.account_book.specs.declared.plans.Out.{Out}
use Rattle.account_book.specs.declared.plans.Out.TheVariants.{Replies, Failed}
use Rattle.account_book.specs.declared.plans.Plan.{Plan}
use Rattle.account_book.specs.declared.plans.Point.{Point}

-- the answer that is that response alone
abbrev pub error_reply : List ℕ → List ℕ → Out
error_reply kind id = Replies (record { responses = error_of kind id ∷ []; made = [] })

-- the answer to what can't be done: for a method, and for each side of a copy, the error of this
-- type
abbrev pub refusal : List ℕ → Ask → Out
refusal kind (Method call) = error_reply kind call.id
refusal kind (Fetch call) = error_reply kind call.id
refusal kind (Place call carried) = error_reply kind call.id
refusal kind (Upload bytes) = Failed
refusal kind (Blob name) = Failed
refusal kind States = Failed

-- the plan changes nothing
abbrev pub IsIdle : Plan → Type 0
IsIdle p = (p.blobs ≡ []) × (p.edits ≡ [])

-- with these edits the account stays within the limit
abbrev pub IsWithin : (List Edit → ℕ) → History → List Edit → Type 0
IsWithin bytes h edits = bytes (edits_of h) + bytes edits ≤ MAX_EDIT_BYTES

-- the commit of a plan, under this stamp
abbrev pub commit_of : Plan → Stamp → Commit
commit_of p stamp = record { blobs = p.blobs; edits = p.edits; stamp = stamp }

-- a plan that changes nothing is answered at once, and nothing is entered
pub record IsAnswered (p : Plan) (point : Point) (out : Out) : Type 0 where
  pub idle : IsIdle p
  pub same : point.after ≡ point.before
  pub reply : out ≡ p.out

-- a plan whose edits would pass the limit is refused, and nothing is entered
pub record IsUnavailable (bytes : List Edit → ℕ) (before : History) (p : Plan) (point : Point)
    (ask : Ask) (out : Out) : Type 0 where
  pub some : ¬ IsIdle p
  pub past : ¬ IsWithin bytes before p.edits
  pub same : point.after ≡ point.before
  pub reply : out ≡ refusal (codes "serverUnavailable") ask

-- a plan whose commit could not be kept is refused, and the one entry more is the mark of that
pub record IsRefused (bytes : List Edit → ℕ) (before after : History) (p : Plan) (point : Point)
    (ask : Ask) (stamp : Stamp) (out : Out) : Type 0 where
  pub some : ¬ IsIdle p
  pub within : IsWithin bytes before p.edits
  pub next : point.after ≡ point.before + 1
  pub grows : after ≡ grown before (Refused stamp)
  pub reply : out ≡ refusal (codes "serverFail") ask

-- a plan whose commit is kept is answered, and the one entry more is its commit
pub record IsCommitted (bytes : List Edit → ℕ) (before after : History) (p : Plan) (point : Point)
    (stamp : Stamp) (out : Out) : Type 0 where
  pub some : ¬ IsIdle p
  pub within : IsWithin bytes before p.edits
  pub next : point.after ≡ point.before + 1
  pub grows : after ≡ grown before (Committed (commit_of p stamp))
  pub reply : out ≡ p.out

-- What a call with this plan is answered at a point, where the account before it and the one after
-- it are these.
abbrev pub IsReplyTo : Plan → (List Edit → ℕ) → History → History → Point → Ask → Stamp → Out
    → Type 0
IsReplyTo p bytes before after point ask stamp out =
    IsAnswered p point out ⊎ IsUnavailable bytes before p point ask out
    ⊎ IsRefused bytes before after p point ask stamp out
    ⊎ IsCommitted bytes before after p point stamp out

-- no entry that a history gained is a refusal
abbrev pub NoneRefused : History → History → Type 0
NoneRefused before after =
    list_any is_refused (drop (length before.entries) after.entries) ≡ false

-- What a call is answered at a point of a history. Its plan is that of the account before it, which
-- has the point's entries before it alone; so of the history nothing counts that is later than the
-- point.
abbrev pub IsReply : (History → Call → ℕ → Plan) → (List Edit → ℕ) → History → Point → Call → Stamp
    → Out → Type 0
IsReply plan bytes h point call stamp out =
    IsReplyTo (plan (account_after h point.before) call point.moment) bytes
    (account_after h point.before) (account_after h point.after) point call.ask stamp out
