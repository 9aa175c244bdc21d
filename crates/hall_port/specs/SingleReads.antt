-- What a session over a hall replies to a request of one call that reads.
use Rattle.std.specs.Prelude.{◌≡◌, ℕ, ◌≤◌, List, [], ◌∷◌, ◌++◌, Some, Result, Ok, Err, slice_get, slice_set}
use Rattle.jm_json.specs.Tree.{Tree}
use Rattle.mail_records.specs.Histories.{History}
use Rattle.account_book.specs.declared.plans.Point.{Point}
use Rattle.account_lock.specs.Entries.{StartsWith}
use Rattle.account_lock.specs.Views.{PassFacts}
use Rattle.account_hall.specs.Histories.{seen_count, seen_history}
use Rattle.server_users.specs.declared.users.UserAccount.{UserAccount}
use Rattle.read_replies.specs.Replies.{IsReplyAt}
use Rattle.read_replies.specs.Targets.{accounts_of}
use Rattle.hall_port.specs.Views.{PortView}

-- The reply is that at the session's next point, on the user's account. The point begins at or
-- after what the session had seen of the account, and ends with what it has seen now.
pub record IsNextReply (old new : PortView) (a : UserAccount) (request response : Tree)
    : Type 0 where
  pub pass : PassFacts
  pub pass' : PassFacts
  pub point : Point
  pub there : slice_get old.session.passes a.number ≡ Some pass
  pub passes : new.session.passes ≡ slice_set old.session.passes a.number pass'
  pub seen : StartsWith pass'.seen pass.seen
  pub trail : new.session.trail ≡ old.session.trail ++ point ∷ []
  pub before : seen_count pass ≤ point.before
  pub after : point.after ≡ seen_count pass'
  pub reply :
      IsReplyAt (seen_history pass') point (accounts_of old.users old.user) request response

-- The port is as it was, and the reply is the same at each point of each history: it is an error of
-- the account that the request names.
pub record IsErrorReply (old new : PortView) (request response : Tree) : Type 0 where
  pub stays : new ≡ old
  pub reply : (h : History) (point : Point)
      → IsReplyAt h point (accounts_of old.users old.user) request response

-- by the account of the user that the request names, or the type of its error
abbrev pub RepliesNext : PortView → PortView → Result UserAccount (List ℕ)
    → (request response : Tree) → Type 0
RepliesNext old new (Ok a) request response = IsNextReply old new a request response
RepliesNext old new (Err kind) request response = IsErrorReply old new request response
