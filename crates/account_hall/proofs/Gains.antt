-- What a call adds to the entries of a book, each with the number of its pass.
use Rattle.std.proofs.Common.{◌≡◌, ◌⊎◌, inl, inr, ⊎_elim, ℕ, suc, ◌+◌, ◌^◌, ◌<◌, List, [], ◌∷◌, ◌++◌, map, drop, length, Result, Ok, Err, IfOk, OnErr, refl, sym, ap, ap₂, ◌∙◌, subst, arith, length-append}
use Rattle.std.proofs.lemmas.List.{append-nil, map-append}
use Rattle.std.proofs.Math.Seq.{drop-append_seam}
use Rattle.mail_records.specs.Histories.{History, Entry, Committed, Refused, account_after, entry_pass, entry_stamp, grown, grown_by}
use Rattle.mail_records.specs.declared.edits.Stamp.{Stamp}
use Rattle.mail_records.proofs.Prefixes.{account_after-all}
use Rattle.record_codec.specs.Sizes.{edit_bytes}
use Rattle.account_book.specs.Replies.{IsAnswered, IsCommitted, IsRefused, IsReply, IsUnavailable, commit_of}
use Rattle.account_book.specs.Passes.{greatest_pass, named_from, named_since, number_from, numbered_from, numbered_since, pass_from}
use Rattle.account_book.proofs.Parts.{drop_all}
use Rattle.account_book.specs.declared.asks.Call.{Call}
use Rattle.account_book.specs.declared.plans.Done.{Done}
use Rattle.account_book.specs.declared.plans.Out.{Out}
use Rattle.account_book.specs.declared.plans.Plan.{Plan}
use Rattle.account_lock.specs.Entries.{ExtendsUnder}
use Rattle.account_hall.specs.Calls.{IsPerformed, point_at}
use Rattle.account_hall.specs.Histories.{GainsAtMostOne, count_with, stamp_from}

-- ---- what a reply says of the history

record Grew (stamp : Stamp) (h h' : History) (before after : ℕ) : Type 0 where
  entry : Entry
  stamp_is : entry_stamp entry ≡ stamp
  grows : h' ≡ grown h entry
  next : after ≡ before + 1

-- the history gains at most one entry, under the stamp
grew : (plan : History → Call → ℕ → Plan) (h h' : History) (before after account moment : ℕ) (call : Call) (stamp : Stamp) (out : Out)
    → after ≡ length h'.entries → account_after h' before ≡ h → IsReply plan edit_bytes h' (point_at account before after moment) call stamp out
    → (after ≡ before) ⊎ Grew stamp h h' before after
grew plan h h' before after account moment call stamp out count begins reply =
    let all : account_after h' after ≡ h' = account_after-all h' after (omega (arith, count)) in
    let p = plan (account_after h' before) call moment in
    ⊎_elim
    (λ (a : IsAnswered p (point_at account before after moment) out). inl a.same)
    (λ rest. ⊎_elim
    (λ (u : IsUnavailable edit_bytes (account_after h' before) p (point_at account before after moment) call.ask out). inl u.same)
    (λ rest. ⊎_elim
    (λ (r : IsRefused edit_bytes (account_after h' before) (account_after h' after) p (point_at account before after moment) call.ask stamp out).
    inr (record { entry = Refused stamp; stamp_is = refl; grows = sym all ∙ (r.grows ∙ ap (λ k. grown k (Refused stamp)) begins); next = r.next }))
    (λ (c : IsCommitted edit_bytes (account_after h' before) (account_after h' after) p (point_at account before after moment) stamp out).
    inr (record { entry = Committed (commit_of p stamp); stamp_is = refl; grows = sym all ∙ (c.grows ∙ ap (λ k. grown k (Committed (commit_of p stamp))) begins); next = c.next }))
    rest)
    rest)
    reply

-- ---- what that is in the entries since

drop_whole : (xs : List Entry) (n : ℕ) → n ≡ length xs → drop n xs ≡ []
drop_whole xs n is = subst (λ k. drop k xs ≡ []) (sym is) (drop_all xs)

abbrev stamp_with : ℕ → ℕ → Stamp
stamp_with serial pass = record { pass = pass; serial = serial }

-- a pass that is counted from the greatest one, and comes back from its number, has this number
number_back : (g number pass : ℕ) → number < 2 ^ 64 → pass ≡ pass_from g number → pass_from g (number_from g pass) ≡ pass → number_from g pass ≡ number
number_back g number pass far is back = omega (arith, far, is, back)

stamp_numbered : (g number serial : ℕ) (e : Entry) → number < 2 ^ 64 → entry_stamp e ≡ stamp_with serial (pass_from g number) → named_from g (numbered_from g e) ≡ e → entry_stamp (numbered_from g e) ≡ stamp_with serial number
stamp_numbered g number serial (Committed c) far is back =
    ap₂ stamp_with (ap (λ (s : Stamp). s.serial) is) (number_back g number c.stamp.pass far (ap (λ (s : Stamp). s.pass) is) (ap entry_pass back))
stamp_numbered g number serial (Refused s) far is back =
    ap₂ stamp_with (ap (λ (s : Stamp). s.serial) is) (number_back g number s.pass far (ap (λ (s : Stamp). s.pass) is) (ap entry_pass back))

-- what maps back a list, maps back its last item
last_named : (g : ℕ) (xs : List Entry) (e : Entry) → map (named_from g) (map (numbered_from g) (xs ++ e ∷ [])) ≡ xs ++ e ∷ [] → named_from g (numbered_from g e) ≡ e
last_named g [] e named = cc named
last_named g (x ∷ xs) e named = let rest : map (named_from g) (map (numbered_from g) (xs ++ e ∷ [])) ≡ xs ++ e ∷ [] = cc named in last_named g xs e rest

module _ (opened : History) (number serial : ℕ) (far : number < 2 ^ 64) where
  gained : (h h' : History) (since since' : List Entry) (before after : ℕ) → before ≡ length h.entries → after ≡ length h'.entries → since' ≡ since ++ drop (length h.entries) h'.entries
      → named_since opened (numbered_since opened since') ≡ since' → (after ≡ before) ⊎ Grew (stamp_from opened number serial) h h' before after
      → GainsAtMostOne number serial before after (numbered_since opened since) (numbered_since opened since')
  gained h h' since since' before after first last more named (inl none) =
      let nothing : drop (length h.entries) h'.entries ≡ [] = drop_whole h'.entries (length h.entries) (sym first ∙ (sym none ∙ last)) in
      inl (record { same = ap (numbered_since opened) (more ∙ (ap (λ es. since ++ es) nothing ∙ append-nil since)); none = none })
  gained h h' since since' before after first last more named (inr one) =
      let g = greatest_pass opened.entries in
      let new : drop (length h.entries) h'.entries ≡ one.entry ∷ [] = ap (λ (k : History). drop (length h.entries) k.entries) one.grows ∙ drop-append_seam h.entries (one.entry ∷ []) in
      let is : since' ≡ since ++ one.entry ∷ [] = more ∙ ap (λ es. since ++ es) new in
      let back : named_from g (numbered_from g one.entry) ≡ one.entry = last_named g since one.entry (subst (λ es. map (named_from g) (map (numbered_from g) es) ≡ es) is named) in
      inr (record {
        entry = numbered_from g one.entry;
        stamp = stamp_numbered g number serial one.entry far one.stamp_is back;
        grows = ap (numbered_since opened) is ∙ map-append (numbered_from g) since (one.entry ∷ []);
        next = one.next;
      })

  pub performed : (plan : History → Call → ℕ → Plan) (h h' : History) (since since' : List Entry) (before after moment : ℕ) (call : Call) (out : Out)
      → h ≡ grown_by opened since → h' ≡ grown_by opened since' → since' ≡ since ++ drop (length h.entries) h'.entries → named_since opened (numbered_since opened since') ≡ since'
      → before ≡ length h.entries → after ≡ length h'.entries → account_after h' before ≡ h
      → ((account : ℕ) → IsReply plan edit_bytes h' (point_at account before after moment) call (stamp_from opened number serial) out)
      → IsPerformed plan opened (numbered_since opened since) (numbered_since opened since') number serial call moment before after out
  performed plan h h' since since' before after moment call out was is more named first last begins reply = record {
    gains = gained h h' since since' before after first last more named (grew plan h h' before after 0 moment call (stamp_from opened number serial) out last begins (reply 0));
    before_is = first ∙ (ap (λ (k : History). length k.entries) was ∙ counted since);
    after_is = last ∙ (ap (λ (k : History). length k.entries) is ∙ counted since');
    reply = λ account. subst (λ k. IsReply plan edit_bytes k (point_at account before after moment) call (stamp_from opened number serial) out) (is ∙ ap (grown_by opened) (sym named)) (reply account);
  }
    where
      numbered_length : (es : List Entry) → length (numbered_since opened es) ≡ length es
      numbered_length [] = refl
      numbered_length (e ∷ es) = ap suc (numbered_length es)

      counted : (es : List Entry) → length (grown_by opened es).entries ≡ count_with opened (numbered_since opened es)
      counted es = length-append opened.entries es ∙ ap (λ n. length opened.entries + n) (sym (numbered_length es))

  pub performed_if : {E : Type 0} (plan : History → Call → ℕ → Plan) (h h' : History) (since since' : List Entry) (moment : ℕ) (call : Call) (r : Result Done E)
      → h ≡ grown_by opened since → h' ≡ grown_by opened since' → since' ≡ since ++ drop (length h.entries) h'.entries → named_since opened (numbered_since opened since') ≡ since'
      → IfOk r (λ d. d.before ≡ length h.entries) → IfOk r (λ d. d.after ≡ length h'.entries) → IfOk r (λ d. account_after h' d.before ≡ h)
      → IfOk r (λ d. (account : ℕ) → IsReply plan edit_bytes h' (point_at account d.before d.after moment) call (stamp_from opened number serial) d.out)
      → IfOk r (λ d. IsPerformed plan opened (numbered_since opened since) (numbered_since opened since') number serial call moment d.before d.after d.out)
  performed_if plan h h' since since' moment call (Ok d) was is more named first last begins reply = performed plan h h' since since' d.before d.after moment call d.out was is more named first last begins reply
  performed_if plan h h' since since' moment call (Err e) was is more named first last begins reply = tt

-- the entries continue with those of this number alone
pub extends : (number serial before after : ℕ) (old new : List Entry) → GainsAtMostOne number serial before after old new → ExtendsUnder number old new
extends number serial before after old new (inl none) = ([], none.same ∙ sym (append-nil old), tt)
extends number serial before after old new (inr one) = (one.entry ∷ [], one.grows, (ap (λ (s : Stamp). s.pass) one.stamp, tt))

pub extends_if : {E : Type 0} (plan : History → Call → ℕ → Plan) (opened : History) (old new : List Entry) (number serial moment : ℕ) (call : Call) (r : Result Done E)
    → IfOk r (λ d. IsPerformed plan opened old new number serial call moment d.before d.after d.out) → OnErr r (new ≡ old) → ExtendsUnder number old new
extends_if plan opened old new number serial moment call (Ok d) done none = extends number serial d.before d.after old new done.gains
extends_if plan opened old new number serial moment call (Err e) done none = ([], none ∙ sym (append-nil old), tt)

pub none_if : {T E : Type 0} (r : Result T E) (h h' opened opened' : History) (since since' : List Entry) → opened' ≡ opened → since' ≡ since ++ drop (length h.entries) h'.entries → OnErr r (h' ≡ h) → OnErr r (numbered_since opened' since' ≡ numbered_since opened since)
none_if (Ok x) h h' opened opened' since since' o more same = tt
none_if (Err e) h h' opened opened' since since' o more same =
    let nothing : drop (length h.entries) h'.entries ≡ [] = drop_whole h'.entries (length h.entries) (ap (λ (k : History). length k.entries) (sym same)) in
    ap (λ z. numbered_since z since') o ∙ ap (numbered_since opened) (more ∙ (ap (λ es. since ++ es) nothing ∙ append-nil since))
