-- What a session was answered is so over the history of the account as it was taken out.
use Rattle.std.proofs.Common.{◌≡◌, ◌⊎◌, ⊎_elim, ℕ, zero, suc, ◌+◌, ◌≤◌, List, [], ◌∷◌, ◌++◌, length, Some, slice_get, refl, sym, ap, ◌∙◌, subst, append_assoc, arith, length-append}
use Rattle.std.proofs.Math.ListN.{set}
use Rattle.std.proofs.lemmas.List.{length-map, map-append}
use Rattle.mail_records.specs.Histories.{Entry, History, grown_by}
use Rattle.mail_records.specs.declared.edits.Stamp.{Stamp}
use Rattle.record_codec.specs.Sizes.{edit_bytes}
use Rattle.account_book.specs.Passes.{greatest_pass, named_from, named_since}
use Rattle.account_book.specs.Replies.{IsAnswered, IsCommitted, IsRefused, IsReply, IsUnavailable}
use Rattle.account_book.specs.declared.asks.Call.{Call}
use Rattle.account_book.specs.declared.plans.Out.{Out}
use Rattle.account_book.specs.declared.plans.Plan.{Plan}
use Rattle.account_book.specs.declared.plans.Point.{Point}
use Rattle.account_book.proofs.Lasting.{IsReply-grown_by}
use Rattle.account_lock.specs.Entries.{StartsWith}
use Rattle.account_lock.specs.Views.{PassFacts}
use Rattle.account_hall.specs.Closing.{HasAllOf, IsAnsweredIn, IsPartOf}
use Rattle.account_hall.specs.Growing.{HasGrown, IsLater}
use Rattle.account_hall.specs.Histories.{count_with, history_with, stamp_from}
use Rattle.account_hall.specs.Sessions.{IsCall, SessionView}
use Rattle.account_hall.proofs.Closing.{seen_further}

set_there : (ks : List PassFacts) (i : ℕ) (k x : PassFacts) → slice_get ks i ≡ Some k → slice_get (set ks i x) i ≡ Some x
set_there [] i k x there = absurd (cc there)
set_there (y ∷ ys) zero k x there = refl
set_there (y ∷ ys) (suc i) k x there = set_there ys i k x there

-- a history with more entries is the history that grew by them
with_more : (opening : History) (seen more : List Entry) → history_with opening (seen ++ more) ≡ grown_by (history_with opening seen) (named_since opening more)
with_more opening seen more =
    ap (grown_by opening) (map-append (named_from (greatest_pass opening.entries)) seen more)
    ∙ ap (λ (es : List Entry). record opening { entries = es }) (sym (append_assoc opening.entries (named_since opening seen) (named_since opening more)))

counted : (opening : History) (seen : List Entry) → length (history_with opening seen).entries ≡ count_with opening seen
counted opening seen = length-append opening.entries (named_since opening seen) ∙ ap (λ n. length opening.entries + n) (length-map seen (named_from (greatest_pass opening.entries)))

-- a point ends where it begins, or after one entry
reply_on : (plan : History → Call → ℕ → Plan) (h : History) (point : Point) (call : Call) (stamp : Stamp) (out : Out) → IsReply plan edit_bytes h point call stamp out → point.before ≤ point.after
reply_on plan h point call stamp out reply =
    ⊎_elim
    (λ (a : IsAnswered _ point out). omega (arith, a.same))
    (λ rest. ⊎_elim
    (λ (u : IsUnavailable edit_bytes _ _ point call.ask out). omega (arith, u.same))
    (λ rest. ⊎_elim
    (λ (r : IsRefused edit_bytes _ _ _ point call.ask stamp out). omega (arith, r.next))
    (λ (c : IsCommitted edit_bytes _ _ _ point stamp out). omega (arith, c.next))
    rest)
    rest)
    reply

-- a reply over what was seen is one over a history that begins with it
pub reply_further : (plan : History → Call → ℕ → Plan) (opening : History) (seen entries : List Entry) (point : Point) (call : Call) (stamp : Stamp) (out : Out) → StartsWith entries seen → point.after ≡ count_with opening seen
    → IsReply plan edit_bytes (history_with opening seen) point call stamp out → IsReply plan edit_bytes (history_with opening entries) point call stamp out
reply_further plan opening seen entries point call stamp out (more, is) after reply =
    let count = counted opening seen in
    let on = reply_on plan (history_with opening seen) point call stamp out reply in
    subst (λ (h : History). IsReply plan edit_bytes h point call stamp out) (sym (ap (history_with opening) is ∙ with_more opening seen more))
    (IsReply-grown_by plan edit_bytes (history_with opening seen) (named_since opening more) point call stamp out (omega (arith, after, on, count)) (omega (arith, after, count)) reply)

module _ (plan : History → Call → ℕ → Plan) (account : ℕ) (call : Call) (moment : ℕ) (old new s : SessionView) (out : Out) (opening : History) (entries : List Entry)
    (c : IsCall plan account call moment old new out) (grown : HasGrown new s) (all : HasAllOf account opening entries s) where
  there : slice_get new.passes account ≡ Some c.pass'
  there = ap (λ (ks : List PassFacts). slice_get ks account) c.passes ∙ set_there old.passes account c.pass c.pass' c.there

  last : (k : PassFacts) × (slice_get s.passes account ≡ Some k) × IsLater c.pass' k
  last = grown.passes account c.pass' there

  part : IsPartOf account opening entries last.0 s.trail
  part = all last.0 last.1

  opened : c.pass'.opening ≡ opening
  opened = sym last.2.opening_is ∙ part.opening_is

  begins : StartsWith entries c.pass'.seen
  begins = seen_further last.0.seen c.pass'.seen entries part.seen last.2.seen

  replied : IsReply plan edit_bytes (history_with c.pass'.opening entries) c.point call (stamp_from c.pass'.opening c.pass'.name (length new.trail)) out
  replied = reply_further plan c.pass'.opening c.pass'.seen entries c.point call (stamp_from c.pass'.opening c.pass'.name (length new.trail)) out begins c.after c.reply

  pub answered_in : IsAnsweredIn plan account opening entries s (length new.trail) call moment out
  answered_in = record {
    pass = last.0;
    there = last.1;
    point = c.point;
    before = old.trail;
    after = grown.added;
    trail = grown.trail ∙ (ap (λ (ps : List Point). ps ++ grown.added) c.trail ∙ append_assoc old.trail (c.point ∷ []) grown.added);
    number_is = ap length c.trail ∙ length-append old.trail (c.point ∷ []);
    account_is = c.account_is;
    moment_is = c.moment_is;
    reply = subst (λ (n : ℕ). IsReply plan edit_bytes (history_with opening entries) c.point call (stamp_from opening n (length new.trail)) out) (sym last.2.name_is)
        (subst (λ (h : History). IsReply plan edit_bytes (history_with h entries) c.point call (stamp_from h c.pass'.name (length new.trail)) out) opened replied);
  }
