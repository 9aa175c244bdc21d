-- A reply at a point sees the entries before the point alone.
use Rattle.std.proofs.Common.{◌≡◌, ◌≤◌, ℕ, List, length, Result, Ok, Err, sym, ap, ◌∙◌}
use Rattle.jm_json.specs.Call.{Call}
use Rattle.jm_json.specs.Tree.{Tree}
use Rattle.jm_json.specs.declared.invocation.Replied.{Replied}
use Rattle.mail_records.specs.Histories.{Entry, History, account_after, grown_by}
use Rattle.mail_records.proofs.Prefixes.{account_after-grown_by}
use Rattle.account_book.specs.declared.plans.Point.{Point}
use Rattle.server_users.specs.declared.users.UserAccount.{UserAccount}
use Rattle.read_replies.specs.Reads.{read_plan}
use Rattle.read_replies.specs.Replies.{IsReplyAt, RepliesBy, replied_of}
use Rattle.read_replies.specs.Targets.{target_of}

by_over : (h g : History) (point : Point) (t : Result UserAccount (List ℕ)) (c : Call) (r : Replied)
    → account_after h point.before ≡ account_after g point.before → RepliesBy h point t c r
    → RepliesBy g point t c r
by_over h g point (Ok a) c r same at =
    record {
      method = at.method;
      name = at.name;
      account = at.account;
      same = at.same;
      reply = at.reply
          ∙ ap (λ (x : History). replied_of (read_plan x c a.read_only at.method).out) same;
    }
by_over h g point (Err kind) c r same at = at

-- over two histories that are the same up to the point
reply_over : (h g : History) (point : Point) (accounts : List UserAccount) (request response : Tree)
    → account_after h point.before ≡ account_after g point.before
    → IsReplyAt h point accounts request response → IsReplyAt g point accounts request response
reply_over h g point accounts request response same at =
    record {
      call = at.call;
      replied = at.replied;
      asks = at.asks;
      replies = by_over h g point (target_of accounts at.call) at.call at.replied same at.replies;
      shows = at.shows;
    }

pub reply_on : (h : History) (more : List Entry) (point : Point) (accounts : List UserAccount)
    (request response : Tree) → point.before ≤ length h.entries
    → IsReplyAt h point accounts request response
    → IsReplyAt (grown_by h more) point accounts request response
reply_on h more point accounts request response low at =
    reply_over h (grown_by h more) point accounts request response
    (sym (account_after-grown_by h more point.before low)) at

pub reply_back : (h : History) (more : List Entry) (point : Point) (accounts : List UserAccount)
    (request response : Tree) → point.before ≤ length h.entries
    → IsReplyAt (grown_by h more) point accounts request response
    → IsReplyAt h point accounts request response
reply_back h more point accounts request response low at =
    reply_over (grown_by h more) h point accounts request response
    (account_after-grown_by h more point.before low) at
