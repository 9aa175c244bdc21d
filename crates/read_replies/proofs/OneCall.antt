-- The request of one call has that call alone.
use Rattle.std.proofs.Common.{◌≡◌, ℕ, List, ap, ◌∙◌, subst, sym}
use Rattle.jm_json.specs.Call.{Call}
use Rattle.jm_json.specs.Tree.{Tree}
use Rattle.mail_records.specs.Histories.{History}
use Rattle.account_book.specs.declared.plans.Point.{Point}
use Rattle.method_batch.specs.OneCall.{single_request}
use Rattle.server_users.specs.declared.users.UserAccount.{UserAccount}
use Rattle.read_replies.specs.Replies.{IsReplyAt, RepliesAt, ShowsReply}

abbrev call_with : List ℕ → Tree → List ℕ → Call
call_with name args id = record { name = name; args = args; id = id }

same_call : (c d : Call) → c.name ≡ d.name → c.args ≡ d.args → c.id ≡ d.id → c ≡ d
same_call c d name args id =
    ap (λ (n : List ℕ). call_with n c.args c.id) name
    ∙ (ap (λ (t : Tree). call_with d.name t c.id) args
    ∙ ap (λ (i : List ℕ). call_with d.name d.args i) id)

call_in : (c d : Call) → single_request c ≡ single_request d → c ≡ d
call_in c d same = same_call c d (cc same) (cc same) (cc same)

pub reply_of_call : (h : History) (point : Point) (accounts : List UserAccount) (c : Call)
    (response : Tree) → IsReplyAt h point accounts (single_request c) response
    → ShowsReply h point accounts c response
reply_of_call h point accounts c response at =
    record {
      replied = at.replied;
      replies = subst (λ (d : Call). RepliesAt h point accounts d at.replied)
          (sym (call_in c at.call at.asks)) at.replies;
      shows = at.shows;
    }
