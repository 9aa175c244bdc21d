-- Accounts stay valid whatever events are performed on them, and each answer is the written reply.
use Rattle.std.proofs.Common.{◌≡◌, ◌↔◌, ◌⊎◌, inl, inr, ℕ, zero, suc, ◌+◌, ◌-◌, ◌<◌, ◌≤◌, Bool, true, false, not, ◌&&◌, ◌||◌, ◌==◌, if◌then◌else◌, List, [], ◌∷◌, ◌++◌, length, codes, refl, sym, ap, ◌∙◌, subst, arith, append_assoc, length-append}
use Rattle.std.specs.List.{AllByRecursion}
use Rattle.std.specs.Prelude.{nat_le}
use Rattle.std.proofs.lemmas.Bool.{eqb-true, leb-true, le-leb, true≢false}
use Rattle.std.proofs.lemmas.Bool.Decides.{eqb_tells, leb_tells}
use Rattle.std.proofs.lemmas.List.{append-nil}
use Rattle.jm_base.specs.declared.identifiers.Kind.{Kind}
use Rattle.mail_records.specs.Histories.{History, Entry, Committed, Refused, FloorsAtMost, IsFounded, IsSound, account_after, edits_in, edits_of, grown, grown_by}
use Rattle.mail_records.specs.States.{edits_of_kind, state_of}
use Rattle.mail_records.specs.declared.edits.Edit.{Edit}
use Rattle.mail_records.specs.declared.edits.Stamp.{Stamp}
use Rattle.mail_records.proofs.Points.{state_of-rises, state_of-unchanged}
use Rattle.mail_records.proofs.Prefixes.{account_after-all, account_after-grown_by}
use Rattle.account_book.specs.Accounts.{without_refusals}
use Rattle.account_book.specs.Plans.{last_moment}
use Rattle.account_book.specs.Replies.{IsAnswered, IsCommitted, IsIdle, IsRefused, IsReply, IsReplyTo, IsUnavailable, IsWithin, commit_of, refusal}
use Rattle.account_book.specs.Runs.{AreKeptValid, Event, IsEntryOfReply, IsTimely, IsWritten, Performed, after_event, after_events, all_performed, answer_to_event, entries_of_event, history_after, is_idle, is_within, performed, plan_of_event}
use Rattle.account_book.specs.declared.limits.TheConstants.{MAX_EDIT_BYTES}
use Rattle.account_book.specs.declared.asks.Call.{Call}
use Rattle.account_book.specs.declared.plans.Out.{Out}
use Rattle.account_book.specs.declared.plans.Plan.{Plan}
use Rattle.account_book.specs.declared.plans.Point.{Point}
use Rattle.account_book.proofs.KeptHistories.{whole_refused}

-- ---- histories that grow

grown_none : (h : History) → grown_by h [] ≡ h
grown_none h = ap (λ (es : List Entry). record h { entries = es }) (append-nil h.entries)

grown_again : (h : History) (es more : List Entry) → grown_by (grown_by h es) more ≡ grown_by h (es ++ more)
grown_again h es more = ap (λ (xs : List Entry). record h { entries = xs }) (append_assoc h.entries es more)

record Grows (h k : History) : Type 0 where
  more : List Entry
  is : k ≡ grown_by h more

grows_refl : (h : History) → Grows h h
grows_refl h = record { more = []; is = sym (grown_none h) }

grows_on : (h k l : History) → Grows h k → Grows k l → Grows h l
grows_on h k l a b = record {
  more = a.more ++ b.more;
  is = b.is ∙ (ap (λ (z : History). grown_by z b.more) a.is ∙ grown_again h a.more b.more);
}

-- a history before it grew
at_start : (h k : History) → Grows h k → account_after k (length h.entries) ≡ h
at_start h k g =
    ap (λ z. account_after z (length h.entries)) g.is
    ∙ (account_after-grown_by h g.more (length h.entries) (omega arith) ∙ account_after-all h (length h.entries) (omega arith))

-- ---- one event

zero_length : {A : Type 0} (xs : List A) → length xs ≡ 0 → xs ≡ []
zero_length [] e = refl
zero_length (x ∷ xs) e = absurd (omega (arith, e))

both_true : (a b : Bool) → (a && b) ≡ true → (a ≡ true) × (b ≡ true)
both_true true b e = (refl, e)
both_true false b e = absurd (true≢false (sym e))

idle_told : (p : Plan) → is_idle p ≡ true → IsIdle p
idle_told p e =
    let two = both_true (length p.blobs == 0) (length p.edits == 0) e in
    (zero_length p.blobs (eqb-true (length p.blobs) 0 two.0), zero_length p.edits (eqb-true (length p.edits) 0 two.1))

idle_tells : (p : Plan) → is_idle p ≡ false → ¬ IsIdle p
idle_tells p e idle =
    true≢false (sym (ap (λ (xs : List (List ℕ)). (length xs == 0) && (length p.edits == 0)) idle.0 ∙ ap (λ (es : List Edit). length es == 0) idle.1) ∙ e)

-- at most one entry is entered
one_at_most : (bytes : List Edit → ℕ) (h : History) (e : Event) (p : Plan) → length (entries_of_event bytes h e p) ≤ 1
one_at_most bytes h e p = go (is_idle p || not (is_within bytes h p.edits)) e.is_taken
  where
    go : (b t : Bool) → length (if b then [] else (if t then Committed (commit_of p e.stamp) ∷ [] else Refused e.stamp ∷ [])) ≤ 1
    go true t = omega arith
    go false true = omega arith
    go false false = omega arith

module _ (plan : History → Call → ℕ → Plan) (bytes : List Edit → ℕ) where
  abbrev point_of : ℕ → ℕ → ℕ → ℕ → Point
  point_of account before after moment = record { account = account; before = before; after = after; moment = moment }

  same_count : (h : History) → length (grown_by h []).entries ≡ length h.entries
  same_count h = ap (λ (k : History). length k.entries) (grown_none h)

  -- those of other numbers are as before, and its own has its entry more
  pub other_stays : (accounts : ℕ → History) (e : Event) (account : ℕ) → ¬ (account ≡ e.account) → after_event plan bytes accounts e account ≡ accounts account
  other_stays accounts e account other = go (account == e.account) (eqb_tells account e.account)
    where
      go : (b : Bool) → ((b ≡ true) × (account ≡ e.account)) ⊎ ((b ≡ false) × (account ≡ e.account → ⊥)) → (if b then history_after plan bytes accounts e else accounts account) ≡ accounts account
      go true (inl (told, same)) = absurd (other same)
      go true (inr (told, no_more)) = absurd (true≢false told)
      go false tells = refl

  own_after : (accounts : ℕ → History) (e : Event) → after_event plan bytes accounts e e.account ≡ history_after plan bytes accounts e
  own_after accounts e = go (e.account == e.account) (eqb_tells e.account e.account)
    where
      go : (b : Bool) → ((b ≡ true) × (e.account ≡ e.account)) ⊎ ((b ≡ false) × (e.account ≡ e.account → ⊥)) → (if b then history_after plan bytes accounts e else accounts e.account) ≡ history_after plan bytes accounts e
      go true tells = refl
      go false (inl (told, same)) = absurd (true≢false (sym told))
      go false (inr (told, other)) = absurd (other refl)

  -- what holds of the histories of an account before and after an event
  after_case : (accounts : ℕ → History) (e : Event) (account : ℕ) (P : History → History → Type 0) → P (accounts e.account) (history_after plan bytes accounts e) → P (accounts account) (accounts account) → P (accounts account) (after_event plan bytes accounts e account)
  after_case accounts e account P own other = go (eqb_tells account e.account)
    where
      go : (((account == e.account) ≡ true) × (account ≡ e.account)) ⊎ (((account == e.account) ≡ false) × (account ≡ e.account → ⊥)) → P (accounts account) (after_event plan bytes accounts e account)
      go (inl (told, same)) = subst (λ n. P (accounts n) (after_event plan bytes accounts e n)) (sym same) (subst (P (accounts e.account)) (sym (own_after accounts e)) own)
      go (inr (told, others)) = subst (P (accounts account)) (sym (other_stays accounts e account others)) other

  event_grows : (accounts : ℕ → History) (e : Event) (account : ℕ) → Grows (accounts account) (after_event plan bytes accounts e account)
  event_grows accounts e account =
      after_case accounts e account Grows (record { more = entries_of_event bytes (accounts e.account) e (plan_of_event plan bytes accounts e); is = refl }) (grows_refl (accounts account))

  event_adds_one : (accounts : ℕ → History) (e : Event) (account : ℕ) → length (after_event plan bytes accounts e account).entries ≤ length (accounts account).entries + 1
  event_adds_one accounts e account =
      let es = entries_of_event bytes (accounts e.account) e (plan_of_event plan bytes accounts e) in
      let one = one_at_most bytes (accounts e.account) e (plan_of_event plan bytes accounts e) in
      let all = length-append (accounts e.account).entries es in
      after_case accounts e account (λ (h k : History). length k.entries ≤ length h.entries + 1) (omega (arith, one, all)) (omega arith)

  all_grow : (events : List Event) (accounts : ℕ → History) (account : ℕ) → Grows (accounts account) (after_events plan bytes accounts events account)
  all_grow [] accounts account = grows_refl (accounts account)
  all_grow (e ∷ es) accounts account =
      grows_on (accounts account) (after_event plan bytes accounts e account) (after_events plan bytes (after_event plan bytes accounts e) es account)
      (event_grows accounts e account) (all_grow es (after_event plan bytes accounts e) account)

  no_items : {A : Type 0} (xs : List A) → ((xs ≡ [] → ⊥) → ⊥) → xs ≡ []
  no_items [] none = refl
  no_items (x ∷ xs) none = absurd (none (λ e. absurd (cc e)))

  states_change : (h : History) (es : List Entry) (kind : Kind) → FloorsAtMost h.floors h.floor → (state_of (grown_by h es) kind ≡ state_of h kind) ↔ (edits_of_kind kind (edits_in es) ≡ [])
  states_change h es kind low = (
    λ same. no_items (edits_of_kind kind (edits_in es)) (λ some. let rise = state_of-rises h kind es low some in omega (arith, rise, same)),
    λ none. state_of-unchanged h kind es none,
  )

  module _ (whole : History → Type 0)
      (keeps : (h : History) (call : Call) (moment : ℕ) (stamp : Stamp) → moment ≤ last_moment → whole h → IsWithin bytes h (plan h call moment).edits → whole (grown h (Committed (commit_of (plan h call moment) stamp))))
      (ignores : (h : History) → whole (without_refusals h) ↔ whole h) where
    -- what comes of an event: the reply to it, and a valid account
    record Step (h : History) (e : Event) (p : Plan) (es : List Entry) (out : Out) : Type 0 where
      reply : IsReplyTo p bytes h (grown_by h es) (point_of e.account (length h.entries) (length (grown_by h es).entries) e.moment) e.call.ask e.stamp out
      valid : whole (grown_by h es)

    still : (h : History) → whole h → whole (grown_by h [])
    still h w = subst whole (sym (grown_none h)) w

    stepped : (h : History) (e : Event) (p : Plan) → p ≡ plan h e.call e.moment → e.moment ≤ last_moment → whole h → (b w t : Bool) → is_idle p ≡ b → is_within bytes h p.edits ≡ w
        → Step h e p (if b || not w then [] else (if t then Committed (commit_of p e.stamp) ∷ [] else Refused e.stamp ∷ []))
        (if b then p.out else (if not w then refusal (codes "serverUnavailable") e.call.ask else (if t then p.out else refusal (codes "serverFail") e.call.ask)))
    stepped h e p is timely valid true w t idle within =
        (record { reply = inl (record { idle = idle_told p idle; same = same_count h; reply = refl }); valid = still h valid })
    stepped h e p is timely valid false false t idle within = (record {
      reply = inr (inl (record { some = idle_tells p idle; past = λ low. true≢false (sym (le-leb _ _ low) ∙ within); same = same_count h; reply = refl }));
      valid = still h valid;
    })
    stepped h e p is timely valid false true true idle within =
        let low : IsWithin bytes h p.edits = leb-true _ _ within in
        (record {
          reply = inr (inr (inr (record { some = idle_tells p idle; within = low; next = length-append h.entries (Committed (commit_of p e.stamp) ∷ []); grows = refl; reply = refl })));
          valid = subst (λ (q : Plan). whole (grown h (Committed (commit_of q e.stamp)))) (sym is) (keeps h e.call e.moment e.stamp timely valid (subst (λ (q : Plan). IsWithin bytes h q.edits) is low));
        })
    stepped h e p is timely valid false true false idle within =
        let low : IsWithin bytes h p.edits = leb-true _ _ within in
        (record {
          reply = inr (inr (inl (record { some = idle_tells p idle; within = low; next = length-append h.entries (Refused e.stamp ∷ []); grows = refl; reply = refl })));
          valid = whole_refused whole ignores h (grown h (Refused e.stamp)) e.stamp valid refl;
        })

    step : (accounts : ℕ → History) (e : Event) → e.moment ≤ last_moment → whole (accounts e.account) → Step (accounts e.account) e (plan_of_event plan bytes accounts e) (entries_of_event bytes (accounts e.account) e (plan_of_event plan bytes accounts e)) (answer_to_event bytes (accounts e.account) e (plan_of_event plan bytes accounts e))
    step accounts e timely valid =
        stepped (accounts e.account) e (plan_of_event plan bytes accounts e) refl timely valid (is_idle (plan_of_event plan bytes accounts e)) (is_within bytes (accounts e.account) (plan_of_event plan bytes accounts e).edits) e.is_taken refl refl

    -- ---- the accounts after it

    event_valid : (accounts : ℕ → History) (e : Event) → e.moment ≤ last_moment → ((account : ℕ) → whole (accounts account)) → (account : ℕ) → whole (after_event plan bytes accounts e account)
    event_valid accounts e timely valid account =
        after_case accounts e account (λ (h k : History). whole k) (step accounts e timely (valid e.account)).valid (valid account)

    -- ---- events, one after the other

    valid_at : (events : List Event) (accounts : ℕ → History) → AllByRecursion IsTimely events → ((account : ℕ) → whole (accounts account)) → (account count : ℕ) → length (accounts account).entries ≤ count → count ≤ length (after_events plan bytes accounts events account).entries
        → whole (account_after (after_events plan bytes accounts events account) count)
    valid_at [] accounts timely valid account count low high = subst whole (sym (account_after-all (accounts account) count low)) (valid account)
    valid_at (e ∷ es) accounts timely valid account count low high =
        go (valid_at es next timely.1 (event_valid accounts e timely.0 valid) account count) (leb_tells (length (next account).entries) count)
      where
        next : ℕ → History
        next = after_event plan bytes accounts e

        end : History
        end = after_events plan bytes accounts (e ∷ es) account

        go : (length (next account).entries ≤ count → count ≤ length end.entries → whole (account_after end count))
            → ((nat_le (length (next account).entries) count ≡ true) × (length (next account).entries ≤ count)) ⊎ ((nat_le (length (next account).entries) count ≡ false) × (count < length (next account).entries)) → whole (account_after end count)
        go later (inl (told, far)) = later far high
        go later (inr (told, near)) =
            let one = event_adds_one accounts e account in
            let here : count ≡ length (accounts account).entries = omega (arith, low, near, one) in
            subst whole (sym (ap (account_after end) here ∙ at_start (accounts account) end (all_grow (e ∷ es) accounts account))) (valid account)

    -- ---- the answers

    written : (founded : (h : History) → whole h → IsFounded h) (accounts : ℕ → History) (e : Event) (end : History) → e.moment ≤ last_moment → whole (accounts e.account) → Grows (history_after plan bytes accounts e) end → IsWritten plan bytes end (performed plan bytes accounts e)
    written founded accounts e end timely valid grows =
        let h = accounts e.account in
        let es = entries_of_event bytes h e (plan_of_event plan bytes accounts e) in
        let n = length h.entries in
        let m = length (grown_by h es).entries in
        let first : account_after end n ≡ h = at_start h end (grows_on h (grown_by h es) end (record { more = es; is = refl }) grows) in
        let last : account_after end m ≡ grown_by h es = at_start (grown_by h es) end grows in
        let s = step accounts e timely valid in
        record {
          reply =
              subst (λ b. IsReplyTo (plan b e.call e.moment) bytes b (account_after end m) (point_of e.account n m e.moment) e.call.ask e.stamp (answer_to_event bytes h e (plan_of_event plan bytes accounts e))) (sym first)
              (subst (λ a. IsReplyTo (plan h e.call e.moment) bytes h a (point_of e.account n m e.moment) e.call.ask e.stamp (answer_to_event bytes h e (plan_of_event plan bytes accounts e))) (sym last) s.reply);
          before = first;
          after = last;
          states = λ kind. states_change h es kind (founded h valid).floors;
        }

    all_written : (founded : (h : History) → whole h → IsFounded h) (events : List Event) (accounts : ℕ → History) → AllByRecursion IsTimely events → ((account : ℕ) → whole (accounts account))
        → AllByRecursion (λ (t : Performed). IsWritten plan bytes (after_events plan bytes accounts events t.event.account) t) (all_performed plan bytes accounts events)
    all_written founded [] accounts timely valid = tt
    all_written founded (e ∷ es) accounts timely valid =
        let next = after_event plan bytes accounts e in (
          written founded accounts e (after_events plan bytes next es e.account) timely.0 (valid e.account)
              (subst (λ k. Grows k (after_events plan bytes next es e.account)) (own_after accounts e) (all_grow es next e.account)),
          all_written founded es next timely.1 (event_valid accounts e timely.0 valid),
        )

    pub kept_valid : (sound : (h : History) → whole h → IsSound h) (founded : (h : History) → whole h → IsFounded h) (accounts : ℕ → History) (events : List Event) → ((account : ℕ) → whole (accounts account)) → AllByRecursion IsTimely events → AreKeptValid plan bytes whole accounts events
    kept_valid sound founded accounts events valid timely = record {
      valid = valid_at events accounts timely valid;
      sound = λ account count low high. sound _ (valid_at events accounts timely valid account count low high);
      replies = all_written founded events accounts timely valid;
    }

    -- ---- an entry of a history that comes of a written reply

    after_reply : (h : History) (index : ℕ) → whole (account_after h index) → IsEntryOfReply plan bytes h index → whole (account_after h (index + 1))
    after_reply h index valid e =
        go (subst (λ n. IsReplyTo (plan (account_after h e.point.before) e.call e.point.moment) bytes (account_after h e.point.before) (account_after h n) e.point e.call.ask e.stamp e.out) e.after e.reply)
      where
        moved : e.point.after ≡ e.point.before → ⊥
        moved same = let x = e.before in let y = e.after in omega (arith, same, x, y)

        go : IsReplyTo (plan (account_after h e.point.before) e.call e.point.moment) bytes (account_after h e.point.before) (account_after h (index + 1)) e.point e.call.ask e.stamp e.out → whole (account_after h (index + 1))
        go (inl r) = absurd (moved r.same)
        go (inr (inl r)) = absurd (moved r.same)
        go (inr (inr (inl r))) =
            whole_refused whole ignores (account_after h e.point.before) (account_after h (index + 1)) e.stamp (subst (λ n. whole (account_after h n)) (sym e.before) valid) r.grows
        go (inr (inr (inr r))) =
            subst whole (sym r.grows) (keeps (account_after h e.point.before) e.call e.point.moment e.stamp e.moment (subst (λ n. whole (account_after h n)) (sym e.before) valid) r.within)

    more_valid : (h : History) (first : ℕ) → whole (account_after h first) → ((index : ℕ) → first ≤ index → index < length h.entries → IsEntryOfReply plan bytes h index) → (n : ℕ) → whole (account_after h (first + n))
    more_valid h first valid each zero = subst (λ k. whole (account_after h k)) (omega arith) valid
    more_valid h first valid each (suc n) = go (more_valid h first valid each n) (leb_tells (length h.entries) (first + n))
      where
        go : whole (account_after h (first + n)) → ((nat_le (length h.entries) (first + n) ≡ true) × (length h.entries ≤ first + n)) ⊎ ((nat_le (length h.entries) (first + n) ≡ false) × (first + n < length h.entries)) → whole (account_after h (first + suc n))
        go here (inl (told, all)) =
            subst whole (account_after-all h (first + n) all ∙ sym (account_after-all h (first + suc n) (omega (arith, all)))) here
        go here (inr (told, low)) =
            subst (λ k. whole (account_after h k)) (omega arith) (after_reply h (first + n) here (each (first + n) (omega arith) low))

    pub replies_valid : (h : History) (first : ℕ) → whole (account_after h first) → ((index : ℕ) → first ≤ index → index < length h.entries → IsEntryOfReply plan bytes h index) → (count : ℕ) → first ≤ count → whole (account_after h count)
    replies_valid h first valid each count low =
        subst (λ k. whole (account_after h k)) (let all : first + (count - first) ≡ count = omega (arith, low) in all) (more_valid h first valid each (count - first))
