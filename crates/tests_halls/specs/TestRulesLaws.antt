-- The rules by which tests perform calls keep what rules promise.
use Rattle.std.proofs.Common.{◌≡◌, ◌↔◌, ℕ, ◌<◌, ◌≤◌, false, List, [], ◌∷◌, ◌++◌, eqb, ne_eqb, is_some, None, refl, sym, ap, ◌∙◌, subst, arith}
use Rattle.std.specs.List.{AllByRecursion}
use Rattle.std.proofs.lemmas.List.{append-nil}
use Rattle.blob_store.specs.Blobs.{AreBlobsFew}
use Rattle.mail_records.specs.Tables.{lookup}
use Rattle.mail_records.specs.Contents.{Content, AreNumbered, mailbox_number}
use Rattle.mail_records.specs.Commits.{IsFormed}
use Rattle.mail_records.specs.Edits.{AllFit, AllKeepThread, IsSmall, after_edits}
use Rattle.mail_records.specs.FloorMoves.{moved_up}
use Rattle.mail_records.specs.Histories.{History, Entry, Committed, IsFounded, IsSound, NamesThread, blobs_of, edits_of, end_after, content_of, grown, empty_history, max_floor}
use Rattle.mail_records.specs.declared.records.Email.{Email}
use Rattle.mail_records.specs.declared.edits.Commit.{Commit}
use Rattle.mail_records.specs.declared.edits.Edit.{Edit}
use Rattle.mail_records.specs.declared.edits.Stamp.{Stamp}
use Rattle.mail_records.proofs.Growth.{AreNumbered-after_edits}
use Rattle.mail_records.proofs.Prefixes.{IsFounded-empty, IsFounded-grown_by, IsSound-committed, IsSound-empty, edits_of-grown, blobs_of-grown}
use Rattle.mail_records.proofs.Moved.{IsFounded-moved_up, IsSound-moved_up, blobs_of-moved_up}
use Rattle.record_codec.specs.Sizes.{edit_bytes}
use Rattle.record_codec.proofs.Lengths.{edit_bytes-append}
use Rattle.account_book.specs.declared.limits.TheConstants.{MAX_EDIT_BYTES}
use Rattle.account_book.specs.Accounts.{without_refusals}
use Rattle.account_book.specs.Plans.{IsPlanFor}
use Rattle.account_book.specs.Replies.{IsWithin, commit_of}
use Rattle.account_book.specs.Laws.{IsFounded-without_refusals, IsFounded-with_refusals, edits_of-without_refusals, blobs_of-without_refusals, edit_bytes-moved_up}
use Rattle.tests_halls.specs.TestRules.{IsAdded, adding_plan, plan_with, add}
use Rattle.account_book.specs.declared.asks.Ask.{Ask}
use Rattle.account_book.specs.declared.asks.Ask.TheVariants.{Method, Upload, Blob, Fetch, Place, States}
use Rattle.account_book.specs.declared.asks.Call.{Call}

-- a number above all others names nothing
unused : {R : Type 0} (number : R → ℕ) (n : ℕ) (xs : List R) → AllByRecursion (λ r. number r < n) xs
    → lookup number n xs ≡ None
unused number n [] all = refl
unused number n (x ∷ xs) all =
    let low = all.0 in
    let t : eqb (number x) n ≡ false = ne_eqb (number x) n (λ e. absurd (omega (arith, e, low))) in
    rw t (unused number n xs all.1)

-- what holds of an added mailbox and of no change holds of each plan
by_plan : (P : List (List ℕ) → List Edit → Type 0) (ask : Ask) (n : ℕ) → P [] (add n).edits
    → P [] [] → P (plan_with ask n).blobs (plan_with ask n).edits
by_plan P (Method call) n a i = a
by_plan P (Upload bytes) n a i = i
by_plan P (Blob name) n a i = i
by_plan P (Fetch call) n a i = i
by_plan P (Place call carried) n a i = a
by_plan P States n a i = i

AllFit-add : (c : Content) → AreNumbered c → AllFit c (add c.next_mailbox).edits
AllFit-add c numbered =
    let none = unused mailbox_number c.next_mailbox c.mailboxes numbered.mailboxes.below_next in
    ((sym (ap is_some none), λ _. refl), tt)

numbered_now : (h : History) → IsAdded h → AreNumbered (content_of h)
numbered_now h whole = AreNumbered-after_edits (edits_of h) h.base whole.sound.fits
    whole.founded.numbered

pub adding_fits : (h : History) (call : Call) → IsAdded h
    → AllFit (content_of h) (adding_plan h call).edits
adding_fits h call whole = by_plan (λ blobs edits. AllFit (content_of h) edits) call.ask
    (content_of h).next_mailbox (AllFit-add (content_of h) (numbered_now h whole)) tt

pub adding_small : (h : History) (call : Call) → AllByRecursion IsSmall (adding_plan h call).edits
adding_small h call = by_plan (λ blobs edits. AllByRecursion IsSmall edits) call.ask
    (content_of h).next_mailbox (tt, tt) tt

abbrev commit_with : List (List ℕ) → List Edit → Stamp → Commit
commit_with blobs edits stamp = record { blobs = blobs; edits = edits; stamp = stamp }

pub adding_formed : (h : History) (call : Call) (stamp : Stamp)
    → IsFormed (commit_of (adding_plan h call) stamp)
adding_formed h call stamp = by_plan (λ blobs edits. IsFormed (commit_with blobs edits stamp))
    call.ask (content_of h).next_mailbox (tt, tt) tt

pub adding_reads : (h : History) (call : Call) → IsPlanFor call.ask (adding_plan h call)
adding_reads h call = each call.ask
  where
    each : (ask : Ask) → IsPlanFor ask (plan_with ask (content_of h).next_mailbox)
    each (Method c) = tt
    each (Upload bytes) = refl
    each (Blob name) = (refl, refl)
    each (Fetch c) = (refl, refl)
    each (Place c carried) = tt
    each States = (refl, refl)

adding_threads : (h : History) (call : Call) → AllKeepThread (content_of h)
    (adding_plan h call).edits
adding_threads h call = by_plan (λ blobs edits. AllKeepThread (content_of h) edits) call.ask
    (content_of h).next_mailbox (tt, tt) tt

adding_blobs : (h : History) (call : Call) → (adding_plan h call).blobs ≡ []
adding_blobs h call = by_plan (λ blobs edits. blobs ≡ []) call.ask
    (content_of h).next_mailbox refl refl

pub adding_keeps : (h : History) (call : Call) (stamp : Stamp) → IsAdded h
    → IsWithin edit_bytes h (adding_plan h call).edits
    → IsAdded (grown h (Committed (commit_of (adding_plan h call) stamp)))
adding_keeps h call stamp whole within =
    let p = adding_plan h call in
    let e : Entry = Committed (commit_of p stamp) in
    let all = edits_of-grown h e in
    record {
      founded = IsFounded-grown_by h (e ∷ []) whole.founded;
      sound = IsSound-committed h (commit_of p stamp) whole.founded whole.sound
          (adding_fits h call whole) (adding_threads h call);
      few = subst AreBlobsFew (sym (blobs_of-grown h e ∙ (ap (λ bs. blobs_of h ++ bs)
          (adding_blobs h call) ∙ append-nil (blobs_of h)))) whole.few;
      within = subst (λ n. n ≤ MAX_EDIT_BYTES) (sym (ap edit_bytes all ∙ edit_bytes-append
          (edits_of h) p.edits)) within;
    }

sound_with : (h k : History) → k.base ≡ h.base → edits_of k ≡ edits_of h → IsSound h → IsSound k
sound_with h k base edits sound =
    let one = sound.one_thread in
    record {
      fits = subst (λ c. AllFit c (edits_of k)) (sym base) (subst (AllFit h.base)
          (sym edits) sound.fits);
      one_thread = (
        one.0,
        record {
          in_base = subst (λ (c : Content). AllByRecursion (λ (x : Email). one.0 x.number
              ≡ x.thread) c.emails) (sym base) one.1.in_base;
          in_edits = subst (λ (es : List Edit). AllByRecursion (NamesThread one.0) es)
              (sym edits) one.1.in_edits;
        },
      );
    }

with_edits : (h k : History) → IsFounded k → k.base ≡ h.base → edits_of k ≡ edits_of h → blobs_of k
    ≡ blobs_of h → IsAdded h → IsAdded k
with_edits h k founded base edits blobs whole = record {
  founded = founded;
  sound = sound_with h k base edits whole.sound;
  few = subst AreBlobsFew (sym blobs) whole.few;
  within = subst (λ es. edit_bytes es ≤ MAX_EDIT_BYTES) (sym edits) whole.within;
}

pub adding_ignores : (h : History) → IsAdded (without_refusals h) ↔ IsAdded h
adding_ignores h = (
  λ whole. with_edits (without_refusals h) h (IsFounded-with_refusals h whole.founded) refl (sym
      (edits_of-without_refusals h)) (sym (blobs_of-without_refusals h)) whole,
  λ whole. with_edits h (without_refusals h) (IsFounded-without_refusals h whole.founded) refl
      (edits_of-without_refusals h) (blobs_of-without_refusals h) whole,
)

pub adding_moves : (h : History) (c : ℕ) → end_after h c ≤ max_floor → IsAdded h
    → IsAdded (moved_up h c)
adding_moves h c low whole =
    let bytes = edit_bytes-moved_up h c in
    let within = whole.within in
    record {
      founded = IsFounded-moved_up h c low whole.founded whole.sound;
      sound = IsSound-moved_up h c whole.sound;
      few = subst AreBlobsFew (sym (blobs_of-moved_up h c)) whole.few;
      within = omega (arith, bytes, within);
    }

pub adding_empty : IsAdded empty_history
adding_empty = record {
  founded = IsFounded-empty;
  sound = IsSound-empty;
  few = record { count = omega arith; bytes = omega arith };
  within = omega arith;
}
