-- What a book's answer to a method is of the account of `batch`, and that it leaves a valid account valid.
use Rattle.std.proofs.Common.{◌≡◌, inl, inr, ℕ, List, length, Result, Ok, Err, refl, sym, ap, ◌∙◌, subst, arith}
use Rattle.jm_json.specs.Call.{Call}
use Rattle.jm_json.specs.declared.invocation.Created.{Created}
use Rattle.jm_json.specs.declared.invocation.Replied.{Replied}
use Rattle.mail_records.specs.Histories.{History, account_after}
use Rattle.mail_records.specs.declared.edits.Stamp.{Stamp}
use Rattle.mail_records.proofs.Prefixes.{account_after-all}
use Rattle.record_codec.specs.Sizes.{edit_bytes}
use Rattle.account_book.specs.Replies.{IsReplyTo, NoneRefused}
use Rattle.account_book.proofs.Answering.{refused_shows}
use Rattle.account_book.specs.declared.plans.Out.{Out}
use Rattle.account_book.specs.declared.plans.Point.{Point}
use Rattle.mail_calls.specs.Plans.{call_plan}
use Rattle.mail_calls.specs.ValidAfterCommits.{IsWholeMail}
use Rattle.mail_calls.specs.RuleLaws.{plan_keeps}
use Rattle.server_users.specs.declared.users.UserAccount.{UserAccount}
use Rattle.hall_port.specs.Steps.{upload_call}
use Rattle.read_replies.specs.Targets.{target_of}
use Rattle.jmap_commands.specs.OneUser.{the_accounts}
use Rattle.jmap_commands.specs.AccountAnswers.{AnswersBy, IsAccountAnswer, IsMailReply, account_answers, account_uploads, asked, point_between}
use Rattle.batch_lines.specs.declared.upload.Uploaded.{Uploaded}
use Rattle.account_book.specs.declared.asks.Call.{Call as TheCall}

-- a history that has no entries but the first ones
pub all_of : (h : History) (n : ℕ) → n ≡ length h.entries → account_after h n ≡ h
all_of h n is = account_after-all h n (omega (arith, is))

-- the answer between a history and the one that it continues to
pub at_ends : (h k : History) (call : TheCall) (stamp : Stamp) (out : Out) → account_after k (length h.entries) ≡ h → IsMailReply k (point_between h k) call stamp out
    → IsReplyTo (call_plan h call 0) edit_bytes h k (point_between h k) call.ask stamp out
at_ends h k call stamp out start at =
    let last = subst (λ (x : History). IsReplyTo (call_plan (account_after k (length h.entries)) call 0) edit_bytes (account_after k (length h.entries)) x (point_between h k) call.ask stamp out) (all_of k (length k.entries) refl) at in
    subst (λ (x : History). IsReplyTo (call_plan x call 0) edit_bytes x k (point_between h k) call.ask stamp out) start last

-- a history that gained no entries is as it was
pub unchanged : (h k : History) → account_after k (length h.entries) ≡ h → length k.entries ≡ length h.entries → k ≡ h
unchanged h k begins same = sym (all_of k (length k.entries) refl) ∙ ap (account_after k) same ∙ begins

valid_after : (h k : History) (call : TheCall) (stamp : Stamp) (point : Point) (out : Out) → IsWholeMail h → NoneRefused h k → (point.after ≡ point.before → k ≡ h) → IsReplyTo (call_plan h call 0) edit_bytes h k point call.ask stamp out → IsWholeMail k
valid_after h k call stamp point out whole kept stays (inl answered) = subst IsWholeMail (sym (stays answered.same)) whole
valid_after h k call stamp point out whole kept stays (inr (inl past)) = subst IsWholeMail (sym (stays past.same)) whole
valid_after h k call stamp point out whole kept stays (inr (inr (inl refused))) = absurd (refused_shows h k stamp refused.grows kept)
valid_after h k call stamp point out whole kept stays (inr (inr (inr entered))) = subst IsWholeMail (sym entered.grows) (plan_keeps h call 0 stamp (omega arith) whole entered.within)

valid_answer : (h k : History) (call : TheCall) (out : Out) → IsWholeMail h → IsAccountAnswer h call out k → IsWholeMail k
valid_answer h k call out whole did =
    valid_after h k call did.stamp (point_between h k) out whole did.kept (unchanged h k did.begins) (at_ends h k call did.stamp out did.begins did.reply)

by_target : (t : Result UserAccount (List ℕ)) (h k : History) (c : Call) (made : List Created) (r : Replied) → IsWholeMail h → AnswersBy t h c made r k → IsWholeMail k
by_target (Err kind) h k c made r whole (same, is) = subst IsWholeMail (sym same) whole
by_target (Ok account) h k c made r whole did = valid_answer h k (asked did.call made) did.out whole did.answer

pub stays_valid : (h k : History) (c : Call) (made : List Created) (r : Replied) → IsWholeMail h → account_answers h c made r k → IsWholeMail k
stays_valid h k c made r whole did = by_target (target_of the_accounts c) h k c made r whole did

pub stays_valid_uploaded : (h k : History) (bytes : List ℕ) (u : Uploaded) → IsWholeMail h → account_uploads h bytes u k → IsWholeMail k
stays_valid_uploaded h k bytes u whole did = valid_answer h k (upload_call bytes) did.out whole did.answer
