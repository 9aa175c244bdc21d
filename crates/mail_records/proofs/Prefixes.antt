-- The account after some of its entries, and a history that grows by an entry.
use Rattle.std.proofs.Common.{◌≡◌, ℕ, ◌+◌, ◌-◌, ◌≤◌, List, [], ◌∷◌, ◌++◌, take, drop, flat_map, length, sym, ap, ◌∙◌, subst, arith, length-append, take-append-drop}
use Rattle.std.specs.List.{AllByRecursion}
use Rattle.std.proofs.lemmas.List.{append-nil, append_assoc, take-append-le, take_all}
use Rattle.std.proofs.lemmas.List.Concat.{flat_map-append}
use Rattle.mail_records.specs.Contents.{Content}
use Rattle.mail_records.specs.Edits.{after_edit, after_edits, AllFit, AllKeepThread}
use Rattle.mail_records.specs.Histories.{History, Entry, Committed, Refused, entry_edits, entry_blobs, edits_in, blobs_in, edits_of, blobs_of, end_of, content_at, content_of, account_after, end_after, blobs_after, grown, grown_by, empty_history, NamesThread, IsSound, IsFounded}
use Rattle.mail_records.specs.declared.edits.Edit.{Edit}
use Rattle.mail_records.specs.declared.edits.Commit.{Commit}
use Rattle.mail_records.specs.declared.edits.Stamp.{Stamp}
use Rattle.mail_records.proofs.Growth.{after_edits-append, edits_of-grown_by, AllFit-append, AllKeepThread-append, AllKeepThread-sound, IsSound-from_tables}

-- ---- beginnings

pub IsFounded-empty : IsFounded empty_history
IsFounded-empty = record {
  low = omega arith;
  floors = record { mailbox = omega arith; email = omega arith; thread = omega arith };
  tables = record { mailboxes = tt; emails = tt; threads = tt };
  numbered = record {
    mailboxes = record { next_from_one = omega arith; from_one = tt; below_next = tt };
    emails = record { next_from_one = omega arith; from_one = tt; below_next = tt };
    threads = record { next_from_one = omega arith; from_one = tt; below_next = tt };
  };
  next = record { mailbox = omega arith; email = omega arith; thread = omega arith };
}

pub IsSound-empty : IsSound empty_history
IsSound-empty = record { fits = tt; one_thread = ((λ n. n), record { in_base = tt; in_edits = tt }) }

-- what a history is founded on stays as it is
pub IsFounded-grown_by : (h : History) (more : List Entry) → IsFounded h → IsFounded (grown_by h more)
IsFounded-grown_by h more founded = record { low = founded.low; floors = founded.floors; tables = founded.tables; numbered = founded.numbered; next = founded.next }

pub IsFounded-account_after : (h : History) (c : ℕ) → IsFounded h → IsFounded (account_after h c)
IsFounded-account_after h c founded = record { low = founded.low; floors = founded.floors; tables = founded.tables; numbered = founded.numbered; next = founded.next }

-- ---- the account after some entries

-- its edits and blobs come first, then those of the other entries
pub edits_of-account_after : (h : History) (c : ℕ) → edits_of h ≡ edits_of (account_after h c) ++ edits_in (drop c h.entries)
edits_of-account_after h c = ap (flat_map entry_edits) (sym (take-append-drop c h.entries)) ∙ flat_map-append entry_edits (take c h.entries) (drop c h.entries)

pub blobs_of-account_after : (h : History) (c : ℕ) → blobs_of h ≡ blobs_after h c ++ blobs_in (drop c h.entries)
blobs_of-account_after h c =
    ap (λ zs. h.base_blobs ++ zs)
    (ap (flat_map entry_blobs) (sym (take-append-drop c h.entries)) ∙ flat_map-append entry_blobs (take c h.entries) (drop c h.entries))
    ∙ sym (append_assoc h.base_blobs (blobs_in (take c h.entries)) (blobs_in (drop c h.entries)))

pub end_after-most : (h : History) (c : ℕ) → end_after h c ≤ end_of h
end_after-most h c =
    let parts = ap length (edits_of-account_after h c) ∙ length-append (edits_of (account_after h c)) (edits_in (drop c h.entries)) in omega arith

pub front_of : {A : Type 0} (xs ys : List A) (n : ℕ) → n ≡ length xs → take n (xs ++ ys) ≡ xs
front_of xs ys n e = take-append-le n xs ys (omega arith) ∙ take_all n xs (omega arith)

pub content_at-end_after : (h : History) (c : ℕ) → content_at h (end_after h c) ≡ content_of (account_after h c)
content_at-end_after h c =
    let first = edits_of (account_after h c) in
    let n : end_after h c - h.floor ≡ length first = omega arith in
    ap (after_edits h.base)
    (ap (take (end_after h c - h.floor)) (edits_of-account_after h c) ∙ front_of first (edits_in (drop c h.entries)) (end_after h c - h.floor) n)

-- all of its entries
pub account_after-all : (h : History) (c : ℕ) → length h.entries ≤ c → account_after h c ≡ h
account_after-all h c le = ap (λ (es : List Entry). record h { entries = es }) (take_all c h.entries le)

-- it stays as the history grows
pub account_after-grown_by : (h : History) (more : List Entry) (c : ℕ) → c ≤ length h.entries → account_after (grown_by h more) c ≡ account_after h c
account_after-grown_by h more c le = ap (λ (es : List Entry). record h { entries = es }) (take-append-le c h.entries more le)

AllFit-front : (es more : List Edit) (c : Content) → AllFit c (es ++ more) → AllFit c es
AllFit-front [] more c fit = tt
AllFit-front (e ∷ es) more c fit = (fit.0, AllFit-front es more (after_edit c e) fit.1)

pub all_front : {R : Type 0} (P : R → Type 0) (xs ys : List R) → AllByRecursion P (xs ++ ys) → AllByRecursion P xs
all_front P [] ys all = tt
all_front P (x ∷ xs) ys all = (all.0, all_front P xs ys all.1)

-- a sound history was sound at each of its entries
pub IsSound-account_after : (h : History) (c : ℕ) → IsSound h → IsSound (account_after h c)
IsSound-account_after h c sound =
    let one = sound.one_thread in
    let first = edits_of (account_after h c) in
    let rest = edits_in (drop c h.entries) in
    record {
      fits = AllFit-front first rest h.base (subst (AllFit h.base) (edits_of-account_after h c) sound.fits);
      one_thread = (
        one.0,
        record {
          in_base = one.1.in_base;
          in_edits =
              all_front (NamesThread one.0) first rest
              (subst (λ (es : List Edit). AllByRecursion (NamesThread one.0) es) (edits_of-account_after h c) one.1.in_edits);
        },
      );
    }

-- ---- one entry more

pub edits_of-grown : (h : History) (e : Entry) → edits_of (grown h e) ≡ edits_of h ++ entry_edits e
edits_of-grown h e = edits_of-grown_by h (e ∷ []) ∙ ap (λ zs. edits_of h ++ zs) (append-nil (entry_edits e))

pub content_of-grown : (h : History) (e : Entry) → content_of (grown h e) ≡ after_edits (content_of h) (entry_edits e)
content_of-grown h e = ap (after_edits h.base) (edits_of-grown h e) ∙ after_edits-append (edits_of h) (entry_edits e) h.base

pub end_of-grown : (h : History) (e : Entry) → end_of (grown h e) ≡ end_of h + length (entry_edits e)
end_of-grown h e =
    let parts = ap length (edits_of-grown h e) ∙ length-append (edits_of h) (entry_edits e) in omega arith

pub blobs_of-grown : (h : History) (e : Entry) → blobs_of (grown h e) ≡ blobs_of h ++ entry_blobs e
blobs_of-grown h e =
    ap (λ zs. h.base_blobs ++ zs) (flat_map-append entry_blobs h.entries (e ∷ []) ∙ ap (λ zs. blobs_in h.entries ++ zs) (append-nil (entry_blobs e)))
    ∙ sym (append_assoc h.base_blobs (blobs_in h.entries) (entry_blobs e))

-- a refusal changes none of them
pub edits_of-refused : (h : History) (s : Stamp) → edits_of (grown h (Refused s)) ≡ edits_of h
edits_of-refused h s = edits_of-grown h (Refused s) ∙ append-nil (edits_of h)

pub content_of-refused : (h : History) (s : Stamp) → content_of (grown h (Refused s)) ≡ content_of h
content_of-refused h s = ap (after_edits h.base) (edits_of-refused h s)

pub end_of-refused : (h : History) (s : Stamp) → end_of (grown h (Refused s)) ≡ end_of h
end_of-refused h s = ap (λ (es : List Edit). h.floor + length es) (edits_of-refused h s)

pub blobs_of-refused : (h : History) (s : Stamp) → blobs_of (grown h (Refused s)) ≡ blobs_of h
blobs_of-refused h s = blobs_of-grown h (Refused s) ∙ append-nil (blobs_of h)

-- a sound history stays sound with a commit whose edits fit and keep the threads of their emails
pub IsSound-committed : (h : History) (c : Commit) → IsFounded h → IsSound h → AllFit (content_of h) c.edits → AllKeepThread (content_of h) c.edits → IsSound (grown h (Committed c))
IsSound-committed h c founded sound fit keep =
    let all : edits_of h ++ c.edits ≡ edits_of (grown h (Committed c)) = sym (edits_of-grown h (Committed c)) in
    IsSound-from_tables (grown h (Committed c)) founded.tables founded.numbered
    (subst (AllFit h.base) all (AllFit-append (edits_of h) c.edits h.base sound.fits fit))
    (subst (AllKeepThread h.base) all (AllKeepThread-append (edits_of h) c.edits h.base (AllKeepThread-sound h sound) keep))

pub IsSound-refused : (h : History) (s : Stamp) → IsSound h → IsSound (grown h (Refused s))
IsSound-refused h s sound =
    let all : edits_of h ≡ edits_of (grown h (Refused s)) = sym (edits_of-refused h s) in
    let one = sound.one_thread in
    record {
      fits = subst (AllFit h.base) all sound.fits;
      one_thread = (one.0, record { in_base = one.1.in_base; in_edits = subst (AllByRecursion (NamesThread one.0)) all one.1.in_edits });
    }
