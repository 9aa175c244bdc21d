-- What holds of the content of an account, and of its last position and next numbers.
use Rattle.std.proofs.Common.{◌↔◌, ℕ, Bool, IsTrue, ◌+◌, ◌≤◌, List, sym, subst, arith}
use Rattle.mail_records.specs.Contents.{Content, AreTables, AreNumbered, NextAtMost}
use Rattle.mail_records.specs.Histories.{History, IsSound, content_of, edits_of, end_of, max_floor, max_position}
use Rattle.mail_records.proofs.Growth.{AllKeepThread-sound, AreTables-after_edits, AreNumbered-after_edits, IsSound-from_steps, NextAtMost-founded}
use Rattle.state_log.specs.Logs.{Notes}
use Rattle.record_codec.specs.Sizes.{edit_bytes}
use Rattle.record_codec.proofs.Lengths.{edit_bytes-least}
use Rattle.account_book.specs.Accounts.{IsAccountOf, IsBounded}
use Rattle.account_book.specs.declared.limits.TheConstants.{MAX_EDIT_BYTES}
use Rattle.account_book.specs.declared.entry.Entry.{Entry as KeptEntry}

pub tables_of : (h : History) (content : Content) (log : Notes) (entries : List KeptEntry) (blobs : List (List ℕ)) (n bytes : ℕ) (t : Bool) → IsAccountOf h content log entries blobs n bytes t → AreTables content
tables_of h content log entries blobs n bytes t s = subst AreTables (sym s.content_is) (AreTables-after_edits (edits_of h) h.base s.founded.tables)

pub numbered_of : (h : History) (content : Content) (log : Notes) (entries : List KeptEntry) (blobs : List (List ℕ)) (n bytes : ℕ) (t : Bool) → IsAccountOf h content log entries blobs n bytes t → AreNumbered content
numbered_of h content log entries blobs n bytes t s = subst AreNumbered (sym s.content_is) (AreNumbered-after_edits (edits_of h) h.base s.fits s.founded.numbered)

pub IsBounded-within : (h : History) (content : Content) (log : Notes) (entries : List KeptEntry) (blobs : List (List ℕ)) (n bytes : ℕ) (t : Bool) → IsAccountOf h content log entries blobs n bytes t → edit_bytes (edits_of h) ≤ MAX_EDIT_BYTES → IsBounded h
IsBounded-within h content log entries blobs n bytes t s within =
    let next = NextAtMost-founded h s.founded s.fits in
    let low : h.floor ≤ max_floor = s.founded.low in
    let few = edit_bytes-least (edits_of h) in
    let most : end_of h + 1 ≤ max_position = omega (arith, low, few, within) in
    record {
      end = omega arith;
      numbers = record {
        mailbox = let n = next.mailbox in omega arith;
        email = let n = next.email in omega arith;
        thread = let n = next.thread in omega arith;
      };
    }

-- threads are kept if and only if the history is sound
pub sound_is : (h : History) (content : Content) (log : Notes) (entries : List KeptEntry) (blobs : List (List ℕ)) (n bytes : ℕ) (t : Bool) → IsAccountOf h content log entries blobs n bytes t → IsTrue t ↔ IsSound h
sound_is h content log entries blobs n bytes t s = (
  λ kept. IsSound-from_steps h s.founded s.fits (s.threads.0 kept),
  λ sound. s.threads.1 (AllKeepThread-sound h sound),
)

pub next_of_end : (h : History) (content : Content) (log : Notes) (entries : List KeptEntry) (blobs : List (List ℕ)) (n bytes : ℕ) (t : Bool) → IsAccountOf h content log entries blobs n bytes t → NextAtMost (end_of h + 1) (content_of h)
next_of_end h content log entries blobs n bytes t s = NextAtMost-founded h s.founded s.fits
