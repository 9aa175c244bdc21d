-- What a call is answered, by whether its plan is within the limit.
use Rattle.std.proofs.Common.{◌≡◌, ◌⊎◌, ℕ, Bool, true, false, if◌then◌else◌, ◌+◌, List, [], ◌∷◌, ◌++◌, codes, drop, length, Result, Ok, Err, IfErr, IfOk, inl, inr, refl, sym, ap, ◌∙◌, subst, arith, length-append}
use Rattle.std.specs.List.{list_any}
use Rattle.std.proofs.lemmas.Bool.{true≢false}
use Rattle.jm_edge.specs.Causes.{Rose}
use Rattle.mail_records.specs.Histories.{History, Entry, Committed, Refused, is_refused, account_after, grown}
use Rattle.mail_records.specs.declared.edits.Commit.{Commit}
use Rattle.mail_records.specs.declared.edits.Stamp.{Stamp}
use Rattle.mail_records.proofs.Prefixes.{account_after-all, account_after-grown_by}
use Rattle.record_codec.specs.Sizes.{edit_bytes}
use Rattle.account_book.specs.Books.{IsEntered, IsFaultCounted}
use Rattle.account_book.specs.Replies.{IsIdle, IsReply, IsReplyTo, IsWithin, NoneRefused, commit_of, refusal}
use Rattle.account_book.specs.declared.asks.Call.{Call}
use Rattle.account_book.specs.declared.plans.Out.{Out}
use Rattle.account_book.specs.declared.plans.Plan.{Plan}
use Rattle.account_book.specs.declared.plans.Point.{Point}

pub IfOk-weaken : {T E : Type 0} (r : Result T E) (P Q : T → Type 0) → ((x : T) → P x → Q x) → IfOk r P → IfOk r Q
IfOk-weaken (Ok x) P Q f p = f x p
IfOk-weaken (Err e) P Q f p = tt

pub IfOk-both : {T E : Type 0} (r : Result T E) (P Q S : T → Type 0) → ((x : T) → P x → Q x → S x) → IfOk r P → IfOk r Q → IfOk r S
IfOk-both (Ok x) P Q S f p q = f x p q
IfOk-both (Err e) P Q S f p q = tt

pub IfErr-weaken : {T E : Type 0} (r : Result T E) (P Q : E → Type 0) → ((e : E) → P e → Q e) → IfErr r P → IfErr r Q
IfErr-weaken (Ok x) P Q f p = tt
IfErr-weaken (Err e) P Q f p = f e p

pub IfErr-both : {T E : Type 0} (r : Result T E) (P Q S : E → Type 0) → ((e : E) → P e → Q e → S e) → IfErr r P → IfErr r Q → IfErr r S
IfErr-both (Ok x) P Q S f p q = tt
IfErr-both (Err e) P Q S f p q = f e p q

abbrev point_of : ℕ → ℕ → ℕ → ℕ → Point
point_of account before after moment = record { account = account; before = before; after = after; moment = moment }

-- a plan past the limit is refused at the account's end
pub IsReply-unavailable : (plan : History → Call → ℕ → Plan) (h : History) (p : Plan) (n moment : ℕ) (call : Call) (stamp : Stamp) (out : Out)
    → n ≡ length h.entries → p ≡ plan h call moment → ¬ IsIdle p → ¬ IsWithin edit_bytes h p.edits → out ≡ refusal (codes "serverUnavailable") call.ask
    → (account : ℕ) → IsReply plan edit_bytes h (record { account = account; before = n; after = n; moment = moment }) call stamp out
IsReply-unavailable plan h p n moment call stamp out count is some past reply account =
    let now : account_after h n ≡ h = account_after-all h n (omega (arith, count)) in
    subst (λ b. IsReplyTo (plan b call moment) edit_bytes b b (point_of account n n moment) call.ask stamp out) (sym now)
    (subst (λ q. IsReplyTo q edit_bytes h h (point_of account n n moment) call.ask stamp out) is (inr (inl (record { some = some; past = past; same = refl; reply = reply }))))

-- a plan within it is answered, and its commit is the account's last entry
pub IsReply-committed : (plan : History → Call → ℕ → Plan) (h g : History) (p : Plan) (n m moment : ℕ) (call : Call) (stamp : Stamp)
    → n ≡ length h.entries → m ≡ length g.entries → p ≡ plan h call moment → ¬ IsIdle p → IsWithin edit_bytes h p.edits → g ≡ grown h (Committed (commit_of p stamp))
    → (account : ℕ) → IsReply plan edit_bytes g (record { account = account; before = n; after = m; moment = moment }) call stamp p.out
IsReply-committed plan h g p n m moment call stamp count more is some within grows account =
    let e : Entry = Committed (commit_of p stamp) in
    let first : account_after g n ≡ h =
    ap (λ k. account_after k n) grows ∙ (account_after-grown_by h (e ∷ []) n (omega (arith, count)) ∙ account_after-all h n (omega (arith, count))) in
    let last : account_after g m ≡ g = account_after-all g m (omega (arith, more)) in
    let next : m ≡ n + 1 = more ∙ (ap (λ (k : History). length k.entries) grows ∙ (length-append h.entries (e ∷ []) ∙ ap (λ k. k + 1) (sym count))) in
    subst (λ b. IsReplyTo (plan b call moment) edit_bytes b (account_after g m) (point_of account n m moment) call.ask stamp p.out) (sym first)
    (subst (λ a. IsReplyTo (plan h call moment) edit_bytes h a (point_of account n m moment) call.ask stamp p.out) (sym last)
    (subst (λ q. IsReplyTo q edit_bytes h g (point_of account n m moment) call.ask stamp p.out) is (inr (inr (inr (record { some = some; within = within; next = next; grows = grows; reply = refl }))))))

-- a plan whose commit the keeper refused is refused, and the mark of that is the account's last entry
pub IsReply-refused : (plan : History → Call → ℕ → Plan) (h g : History) (p : Plan) (n m moment : ℕ) (call : Call) (stamp : Stamp) (out : Out)
    → n ≡ length h.entries → m ≡ length g.entries → p ≡ plan h call moment → ¬ IsIdle p → IsWithin edit_bytes h p.edits → g ≡ grown h (Refused stamp) → out ≡ refusal (codes "serverFail") call.ask
    → (account : ℕ) → IsReply plan edit_bytes g (record { account = account; before = n; after = m; moment = moment }) call stamp out
IsReply-refused plan h g p n m moment call stamp out count more is some within grows reply account =
    let e : Entry = Refused stamp in
    let first : account_after g n ≡ h =
    ap (λ k. account_after k n) grows ∙ (account_after-grown_by h (e ∷ []) n (omega (arith, count)) ∙ account_after-all h n (omega (arith, count))) in
    let last : account_after g m ≡ g = account_after-all g m (omega (arith, more)) in
    let next : m ≡ n + 1 = more ∙ (ap (λ (k : History). length k.entries) grows ∙ (length-append h.entries (e ∷ []) ∙ ap (λ k. k + 1) (sym count))) in
    subst (λ b. IsReplyTo (plan b call moment) edit_bytes b (account_after g m) (point_of account n m moment) call.ask stamp out) (sym first)
    (subst (λ a. IsReplyTo (plan h call moment) edit_bytes h a (point_of account n m moment) call.ask stamp out) (sym last)
    (subst (λ q. IsReplyTo q edit_bytes h g (point_of account n m moment) call.ask stamp out) is (inr (inr (inl (record { some = some; within = within; next = next; grows = grows; reply = reply }))))))

-- a plan that changes something and is within the limit is answered by whether its commit was kept
pub IsReply-entered : (E : Type 0) (plan : History → Call → ℕ → Plan) (h g : History) (p : Plan) (n m moment : ℕ) (call : Call) (stamp : Stamp) (kept : Bool) (out refused : Out)
    → n ≡ length h.entries → m ≡ length g.entries → p ≡ plan h call moment → ¬ IsIdle p → IsWithin edit_bytes h p.edits
    → IsEntered {E = E} (Ok kept) h g (commit_of p stamp) → out ≡ (if kept then p.out else refused) → refused ≡ refusal (codes "serverFail") call.ask
    → (account : ℕ) → IsReply plan edit_bytes g (record { account = account; before = n; after = m; moment = moment }) call stamp out
IsReply-entered E plan h g p n m moment call stamp true out refused count more is some within grows reply refusal_is account =
    subst (λ o. IsReply plan edit_bytes g (point_of account n m moment) call stamp o) (sym reply) (IsReply-committed plan h g p n m moment call stamp count more is some within grows account)
IsReply-entered E plan h g p n m moment call stamp false out refused count more is some within grows reply refusal_is account =
    IsReply-refused plan h g p n m moment call stamp out count more is some within grows (reply ∙ refusal_is) account

-- ---- refusals among the entries that a history gained

none_after : (es : List Entry) → drop (length es) es ≡ []
none_after [] = refl
none_after (e ∷ es) = none_after es

one_after : (es : List Entry) (e : Entry) → drop (length es) (es ++ e ∷ []) ≡ e ∷ []
one_after [] e = refl
one_after (x ∷ es) e = one_after es e

pub none_of_same : (h : History) → NoneRefused h h
none_of_same h = ap (list_any is_refused) (none_after h.entries)

pub none_of_commit : (h k : History) (commit : Commit) → k ≡ grown h (Committed commit) → NoneRefused h k
none_of_commit h k commit grows =
    subst (λ (x : History). NoneRefused h x) (sym grows) (ap (list_any is_refused) (one_after h.entries (Committed commit)))

pub kept_entered : {E : Type 0} (r : Result Bool E) (h h' : History) (c : Commit) (faults faults' : ℕ) → IsEntered r h h' c → IsFaultCounted r faults faults' → NoneRefused h h' ⊎ Rose faults faults'
kept_entered (Ok true) h h' c faults faults' is counted = inl (none_of_commit h h' c is)
kept_entered (Ok false) h h' c faults faults' is counted = inr counted
kept_entered (Err e) h h' c faults faults' is counted = inl (subst (λ (x : History). NoneRefused h x) (sym is) (none_of_same h))

pub refused_shows : (h k : History) (stamp : Stamp) → k ≡ grown h (Refused stamp) → ¬ NoneRefused h k
refused_shows h k stamp grows none =
    true≢false (sym (ap (list_any is_refused) (one_after h.entries (Refused stamp))) ∙ subst (λ (x : History). NoneRefused h x) grows none)

-- the count of faults is as it was where no refusal was entered
pub unrefused_counted : (E : Type 0) (kept : Bool) (h h' : History) (c : Commit) (faults faults' : ℕ)
    → IsEntered {E = E} (Ok kept) h h' c → IsFaultCounted {E = E} (Ok kept) faults faults' → NoneRefused h h' → faults' ≡ faults
unrefused_counted E true h h' c faults faults' is counted none = counted
unrefused_counted E false h h' c faults faults' is counted none = absurd (refused_shows h h' c.stamp is none)
