-- What was answered at a point of a history stays so as the history grows.
use Rattle.std.proofs.Common.{ℕ, ◌≤◌, List, length, sym, subst}
use Rattle.mail_records.specs.Histories.{History, Entry, account_after, grown_by}
use Rattle.mail_records.specs.declared.edits.Edit.{Edit}
use Rattle.mail_records.specs.declared.edits.Stamp.{Stamp}
use Rattle.mail_records.proofs.Prefixes.{account_after-grown_by}
use Rattle.account_book.specs.Replies.{IsReply, IsReplyTo}
use Rattle.account_book.specs.declared.asks.Call.{Call}
use Rattle.account_book.specs.declared.plans.Out.{Out}
use Rattle.account_book.specs.declared.plans.Plan.{Plan}
use Rattle.account_book.specs.declared.plans.Point.{Point}

pub IsReply-grown_by : (plan : History → Call → ℕ → Plan) (bytes : List Edit → ℕ) (h : History) (more : List Entry) (point : Point) (call : Call) (stamp : Stamp) (out : Out)
    → point.before ≤ length h.entries → point.after ≤ length h.entries → IsReply plan bytes h point call stamp out → IsReply plan bytes (grown_by h more) point call stamp out
IsReply-grown_by plan bytes h more point call stamp out before after reply =
    let At = λ (b a : History). IsReplyTo (plan b call point.moment) bytes b a point call.ask stamp out in
    subst (λ b. At b (account_after (grown_by h more) point.after)) (sym (account_after-grown_by h more point.before before))
    (subst (At (account_after h point.before)) (sym (account_after-grown_by h more point.after after)) reply)
