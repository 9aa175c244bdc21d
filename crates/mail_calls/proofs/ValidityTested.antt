-- The tests of an account are true if and only if it is valid.
use Rattle.std.proofs.Common.{◌≡◌, ◌↔◌, Result, Ok, Err, IfOk, ℕ, zero, suc, ◌+◌, ◌-◌, ◌≤◌, ◌<◌, Bool, true, false, ◌&&◌, eqb, List, [], ◌∷◌, length, Option, Some, None, slice_get, get_or, refl, sym, ap, ap₂, ◌∙◌, subst, arith, ⊎_elim, Decides, IsTrue, bytes_eq}
use Rattle.std.specs.Bool.{beq}
use Rattle.std.specs.Cmp.{booleans_Decides, signed_Decides}
use Rattle.std.specs.List.{AllByRecursion, list_all}
use Rattle.std.specs.Ordering.{int_eq}
use Rattle.std.proofs.lemmas.Bool.{true≢false}
use Rattle.std.proofs.lemmas.Bool.Decides.{Decides-eqb}
use Rattle.std.proofs.lemmas.Slice.Eq.{bytes_eq-Decides}
use Rattle.jm_base.specs.declared.identifiers.UtcDate.{UtcDate}
use Rattle.blob_store.specs.Blobs.{AreBlobsFew, blob_numbered}
use Rattle.mail_records.specs.Contents.{NextAtMost}
use Rattle.mail_records.specs.Histories.{History, IsFounded, IsSound, blobs_of, content_of, edits_of, end_of}
use Rattle.mail_records.specs.declared.records.Email.{Email}
use Rattle.mail_records.specs.declared.records.Summary.{Summary}
use Rattle.mail_counts.specs.Tidy.{IsTidy}
use Rattle.plan_promises.specs.Messages.{HasMessage, IsMessageOf}
use Rattle.record_codec.specs.Sizes.{edit_bytes}
use Rattle.account_book.specs.declared.limits.TheConstants.{MAX_EDIT_BYTES}
use Rattle.tidy_check.proofs.Tested.{all_tells, and_tells, same_tells}
use Rattle.mail_calls.specs.MessageTests.{are_same_texts, has_message, is_message, is_message_in, is_same_date, is_same_summary}
use Rattle.mail_calls.specs.ValidAccounts.{IsWhole}

-- ---- summaries

texts_tell : (xs ys : List (List ℕ)) → Decides (are_same_texts xs ys) (xs ≡ ys)
texts_tell [] [] = (λ e. refl, λ h. refl)
texts_tell [] (y ∷ ys) = (λ e. absurd (true≢false (sym e)), λ h. absurd (cc))
texts_tell (x ∷ xs) [] = (λ e. absurd (true≢false (sym e)), λ h. absurd (cc))
texts_tell (x ∷ xs) (y ∷ ys) =
    same_tells (bytes_eq x y && are_same_texts xs ys) ((x ≡ y) × (xs ≡ ys)) (x ∷ xs ≡ y ∷ ys)
    (λ h. ap₂ (λ z zs. z ∷ zs) h.0 h.1) (λ h. (cc, cc))
    (and_tells (bytes_eq x y) (are_same_texts xs ys) (x ≡ y) (xs ≡ ys) (bytes_eq-Decides x y) (texts_tell xs ys))

date_made : (a b : UtcDate) → a.seconds ≡ b.seconds → Some a ≡ Some b
date_made a b e = ap Some (λ i. record { seconds = e i })

dates_tell : (a b : Option UtcDate) → Decides (is_same_date a b) (a ≡ b)
dates_tell None None = (λ e. refl, λ h. refl)
dates_tell None (Some b) = (λ e. absurd (true≢false (sym e)), λ h. absurd (cc))
dates_tell (Some a) None = (λ e. absurd (true≢false (sym e)), λ h. absurd (cc))
dates_tell (Some a) (Some b) =
    same_tells (int_eq a.seconds b.seconds) (a.seconds ≡ b.seconds) (Some a ≡ Some b) (date_made a b) (λ h. inside a b h) (signed_Decides a.seconds b.seconds)
  where
    inside : (x y : UtcDate) → Some x ≡ Some y → x.seconds ≡ y.seconds
    inside x y h = let same : x ≡ y = cc in ap (λ (d : UtcDate). d.seconds) same

summaries_tell : (a b : Summary) → Decides (is_same_summary a b) (a ≡ b)
summaries_tell a b =
    same_tells (is_same_summary a b) _ (a ≡ b)
    (λ h. let links = h.0 in let subject = h.1.0 in let from = h.1.1.0 in let to = h.1.1.1.0 in let sent = h.1.1.1.1.0 in let attachment = h.1.1.1.1.1 in
    λ i. record { links = links i; subject = subject i; from = from i; to = to i; sent = sent i; attachment = attachment i })
    (λ h. (
      ap (λ (s : Summary). s.links) h,
      (ap (λ (s : Summary). s.subject) h, (ap (λ (s : Summary). s.from) h, (ap (λ (s : Summary). s.to) h, (ap (λ (s : Summary). s.sent) h, ap (λ (s : Summary). s.attachment) h)))),
    ))
    (and_tells (are_same_texts a.links b.links) _ (a.links ≡ b.links) _ (texts_tell a.links b.links)
    (and_tells (bytes_eq a.subject b.subject) _ (a.subject ≡ b.subject) _ (bytes_eq-Decides a.subject b.subject)
    (and_tells (bytes_eq a.from b.from) _ (a.from ≡ b.from) _ (bytes_eq-Decides a.from b.from)
    (and_tells (bytes_eq a.to b.to) _ (a.to ≡ b.to) _ (bytes_eq-Decides a.to b.to)
    (and_tells (is_same_date a.sent b.sent) (beq a.attachment b.attachment) (a.sent ≡ b.sent) (a.attachment ≡ b.attachment)
    (dates_tell a.sent b.sent) (booleans_Decides a.attachment b.attachment))))))

-- ---- messages

pub message_tells : (summary : List ℕ → Summary) (e : Email) (bytes : List ℕ) → Decides (is_message summary e bytes) (IsMessageOf summary e bytes)
message_tells summary e bytes =
    same_tells (is_message summary e bytes) _ (IsMessageOf summary e bytes)
    (λ h. record { size = h.0; summary_is = h.1 }) (λ m. (m.size, m.summary_is))
    (and_tells (eqb e.size (length bytes)) (is_same_summary e.summary (summary bytes)) (e.size ≡ length bytes) (e.summary ≡ summary bytes)
    (Decides-eqb e.size (length bytes)) (summaries_tell e.summary (summary bytes)))

-- a blob is there, or it isn't
blob_at : (blobs : List (List ℕ)) (n : ℕ) (P : List ℕ → Type 0) (test : Option (List ℕ) → Bool) → test None ≡ false → ((bytes : List ℕ) → Decides (test (Some bytes)) (P bytes))
    → Decides (test (slice_get blobs n)) ((suc n ≤ length blobs) × P (get_or blobs n []))
blob_at [] n P test none some = (λ e. absurd (true≢false (sym e ∙ none)), λ h. let le = h.0 in absurd (omega (arith, le)))
blob_at (b ∷ bs) zero P test none some = (λ e. (omega arith, (some b).0 e), λ h. (some b).1 h.1)
blob_at (b ∷ bs) (suc n) P test none some =
    let rest = blob_at bs n P test none some in
    (λ e. let r = rest.0 e in let le = r.0 in (omega (arith, le), r.1), λ h. let le = h.0 in rest.1 (omega (arith, le), h.1))

blob_tells : (summary : List ℕ → Summary) (blobs : List (List ℕ)) (e : Email) (n : ℕ) → e.blob ≡ n → Decides (is_message_in summary e (blob_numbered n blobs)) (HasMessage summary blobs e)
blob_tells summary blobs e zero is = (λ t. absurd (true≢false (sym t)), λ m. let one = m.from_one in absurd (omega (arith, is, one)))
blob_tells summary blobs e (suc n) is =
    let back : e.blob - 1 ≡ n = omega (arith, is) in
    same_tells (is_message_in summary e (slice_get blobs n)) ((suc n ≤ length blobs) × IsMessageOf summary e (get_or blobs n [])) (HasMessage summary blobs e)
    (λ h. let le = h.0 in record {
      from_one = omega (arith, is);
      there = omega (arith, is, le);
      message = subst (λ k. IsMessageOf summary e (get_or blobs k [])) (sym back) h.1;
    })
    (λ m. let le = m.there in (omega (arith, is, le), subst (λ k. IsMessageOf summary e (get_or blobs k [])) back m.message))
    (blob_at blobs n (IsMessageOf summary e) (is_message_in summary e) refl (message_tells summary e))

pub messages_tell : (summary : List ℕ → Summary) (blobs : List (List ℕ)) (es : List Email) → Decides (list_all (has_message summary blobs) es) (AllByRecursion (HasMessage summary blobs) es)
messages_tell summary blobs es = all_tells (has_message summary blobs) (HasMessage summary blobs) (λ e. blob_tells summary blobs e e.blob refl) es

-- ---- an account

pub unless : (P Q : Type 0) (b : Bool) → b ≡ false → (Q → P) → IsTrue b ↔ P → IsTrue false ↔ Q
unless P Q b off first tells = (λ e. absurd (true≢false (sym e)), λ q. absurd (true≢false (sym (tells.1 (first q)) ∙ off)))

pub whole_tells : (summary : List ℕ → Summary) (h : History) (b : Bool) → IsFounded h → IsSound h → IsTidy (content_of h) → AreBlobsFew (blobs_of h) → edit_bytes (edits_of h) ≤ MAX_EDIT_BYTES → NextAtMost (end_of h + 1) (content_of h)
    → b ≡ list_all (has_message summary (blobs_of h)) (content_of h).emails → IsTrue b ↔ IsWhole summary h
whole_tells summary h b founded sound tidy few limit next is =
    let tells = messages_tell summary (blobs_of h) (content_of h).emails in (
      λ t. record { founded = founded; sound = sound; tidy = tidy; messages = tells.0 (sym is ∙ t); blobs = few; limit = limit; next = next },
      λ w. is ∙ tells.1 w.messages,
    )

pub whole_result : {E : Type 0} (summary : List ℕ → Summary) (h : History) (r : Result Bool E) (blobs : List (List ℕ)) (emails : List Email) → IsFounded h → IsSound h → IsTidy (content_of h) → AreBlobsFew (blobs_of h) → edit_bytes (edits_of h) ≤ MAX_EDIT_BYTES → NextAtMost (end_of h + 1) (content_of h)
    → blobs ≡ blobs_of h → emails ≡ (content_of h).emails → IfOk r (λ b. b ≡ list_all (has_message summary blobs) emails) → IfOk r (λ b. IsTrue b ↔ IsWhole summary h)
whole_result summary h (Ok b) blobs emails founded sound tidy few limit next same own is =
    whole_tells summary h b founded sound tidy few limit next (is ∙ ap₂ (λ bs es. list_all (has_message summary bs) es) same own)
whole_result summary h (Err e) blobs emails founded sound tidy few limit next same own is = tt
