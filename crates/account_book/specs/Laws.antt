-- Lemmas that rules cite: refusals have no part in what is valid, and a floor that moves up leaves
-- fewer bytes of edits.
use Rattle.std.proofs.Common.{◌≡◌, ℕ, ◌+◌, ◌≤◌, List, [], ◌∷◌, ◌++◌, filter, not, length, refl, ap, ◌∙◌, arith}
use Rattle.mail_records.specs.Edits.{after_edits}
use Rattle.mail_records.specs.Histories.{History, Entry, IsFounded, account_after, Committed, Refused, is_refused, edits_in, blobs_in, edits_of, blobs_of, content_of}
use Rattle.mail_records.specs.FloorMoves.{moved_up}
use Rattle.mail_records.proofs.Moved.{edits_of-moved_up}
use Rattle.record_codec.specs.Sizes.{edit_bytes}
use Rattle.record_codec.proofs.Lengths.{edit_bytes-append}
use Rattle.account_book.specs.Accounts.{without_refusals}

edits_in-commits : (es : List Entry) → edits_in (filter (λ (e : Entry). not (is_refused e)) es)
    ≡ edits_in es
edits_in-commits [] = refl
edits_in-commits (Committed commit ∷ es) = ap (λ edits. commit.edits ++ edits) (edits_in-commits es)
edits_in-commits (Refused stamp ∷ es) = edits_in-commits es

blobs_in-commits : (es : List Entry) → blobs_in (filter (λ (e : Entry). not (is_refused e)) es)
    ≡ blobs_in es
blobs_in-commits [] = refl
blobs_in-commits (Committed commit ∷ es) = ap (λ blobs. commit.blobs ++ blobs) (blobs_in-commits es)
blobs_in-commits (Refused stamp ∷ es) = blobs_in-commits es

pub edits_of-without_refusals : (h : History) → edits_of (without_refusals h) ≡ edits_of h
edits_of-without_refusals h = edits_in-commits h.entries

pub blobs_of-without_refusals : (h : History) → blobs_of (without_refusals h) ≡ blobs_of h
blobs_of-without_refusals h = ap (λ blobs. h.base_blobs ++ blobs) (blobs_in-commits h.entries)

pub content_of-without_refusals : (h : History) → content_of (without_refusals h) ≡ content_of h
content_of-without_refusals h = ap (after_edits h.base) (edits_of-without_refusals h)

pub IsFounded-without_refusals : (h : History) → IsFounded h → IsFounded (without_refusals h)
IsFounded-without_refusals h founded = record {
  low = founded.low;
  floors = founded.floors;
  tables = founded.tables;
  numbered = founded.numbered;
  next = founded.next;
}

pub IsFounded-with_refusals : (h : History) → IsFounded (without_refusals h) → IsFounded h
IsFounded-with_refusals h founded = record {
  low = founded.low;
  floors = founded.floors;
  tables = founded.tables;
  numbered = founded.numbered;
  next = founded.next;
}

-- the edits after a floor that moved up take at most the bytes of all
pub edit_bytes-moved_up : (h : History) (c : ℕ) → edit_bytes (edits_of (moved_up h c))
    ≤ edit_bytes (edits_of h)
edit_bytes-moved_up h c =
    let all = ap edit_bytes (edits_of-moved_up h c) ∙ edit_bytes-append
    (edits_of (account_after h c)) (edits_of (moved_up h c)) in omega (arith, all)
