-- What a commit more makes of an account.
use Rattle.std.proofs.Common.{◌≡◌, ◌↔◌, ℕ, Bool, IsTrue, ◌+◌, List, [], ◌∷◌, ◌++◌, map, ◌≤◌, take, drop, length, refl, sym, ap, ap₂, ◌∙◌, subst, append_assoc, arith}
use Rattle.std.proofs.Math.Seq.{take-append_seam, drop-append_seam}
use Rattle.std.proofs.lemmas.List.{append-nil, drop-append-le, map-append, take-append-le}
use Rattle.std.specs.List.{AllByRecursion}
use Rattle.mail_records.specs.Commits.{IsFormed, IsFormedEdit}
use Rattle.mail_records.specs.Contents.{Content}
use Rattle.mail_records.specs.Edits.{after_edits, AllFit, AllKeepThread}
use Rattle.mail_records.specs.Histories.{History, Entry, Committed, Refused, IsSound, edits_of, content_of, blobs_in, blobs_of, grown}
use Rattle.mail_records.specs.declared.edits.Edit.{Edit}
use Rattle.mail_records.specs.declared.edits.Commit.{Commit}
use Rattle.mail_records.specs.declared.edits.Stamp.{Stamp}
use Rattle.mail_records.proofs.Growth.{AllFit-append, AllKeepThread-append, AllKeepThread-sound}
use Rattle.mail_records.proofs.NumbersNamed.{IsFormedHistory-grown_by}
use Rattle.mail_records.proofs.Prefixes.{IsFounded-grown_by, edits_of-grown, content_of-grown, blobs_of-grown, edits_of-refused, content_of-refused, blobs_of-refused}
use Rattle.mail_records.proofs.Reached.{length_take}
use Rattle.record_codec.specs.Sizes.{capped, edit_bytes}
use Rattle.record_codec.proofs.Lengths.{edit_bytes-append}
use Rattle.state_log.proofs.Kept.{IsLogOf-committed, IsLogOf-refused}
use Rattle.state_log.specs.Logs.{Notes, note_of}
use Rattle.blob_store.specs.Blobs.{AreBlobsFew}
use Rattle.account_book.specs.Accounts.{IsAccountOf, history_of, entries_with, kept_entry}
use Rattle.account_book.specs.declared.entry.Entry.{Entry as KeptEntry}
use Rattle.account_book.specs.declared.limits.TheConstants.{MAX_EDIT_BYTES}

-- an entry after others takes the blobs that they leave
entries_with-push : (hs : List Entry) (k : KeptEntry) (more : List (List ℕ)) → entries_with (map kept_entry hs ++ k ∷ []) (blobs_in hs ++ more) ≡ hs ++ entries_with (k ∷ []) more
entries_with-push [] k more = refl
entries_with-push (Committed commit ∷ hs) k more =
    let all : (commit.blobs ++ blobs_in hs) ++ more ≡ commit.blobs ++ (blobs_in hs ++ more) = append_assoc commit.blobs (blobs_in hs) more in
    let mine : take (length commit.blobs) ((commit.blobs ++ blobs_in hs) ++ more) ≡ commit.blobs = ap (take (length commit.blobs)) all ∙ take-append_seam commit.blobs (blobs_in hs ++ more) in
    let rest : drop (length commit.blobs) ((commit.blobs ++ blobs_in hs) ++ more) ≡ blobs_in hs ++ more = ap (drop (length commit.blobs)) all ∙ drop-append_seam commit.blobs (blobs_in hs ++ more) in
    ap₂ (λ (bs : List (List ℕ)) (es : List Entry). Committed (record { blobs = bs; edits = commit.edits; stamp = commit.stamp }) ∷ es) mine
    (ap (entries_with (map kept_entry hs ++ k ∷ [])) rest ∙ entries_with-push hs k more)
entries_with-push (Refused stamp ∷ hs) k more = ap (λ es. Refused stamp ∷ es) (entries_with-push hs k more)

entries_with-commit : (hs : List Entry) (commit : Commit) → entries_with (map kept_entry hs ++ kept_entry (Committed commit) ∷ []) (blobs_in hs ++ commit.blobs) ≡ hs ++ Committed commit ∷ []
entries_with-commit hs commit =
    entries_with-push hs (kept_entry (Committed commit)) commit.blobs
    ∙ ap (λ bs. hs ++ Committed (record { blobs = bs; edits = commit.edits; stamp = commit.stamp }) ∷ [])
    (ap (take (length commit.blobs)) (sym (append-nil commit.blobs)) ∙ take-append_seam commit.blobs [])

-- the log with notes of these edits more
abbrev pub noted : Notes → List Edit → ℕ → Notes
noted log edits spare = record log { notes = log.notes ++ map note_of edits; spare = spare }

-- the history with a commit more is the one that is kept so
pub history_of-commit : (log log' : Notes) (base content : Content) (entries entries' : List KeptEntry) (blobs blobs' : List (List ℕ)) (n bytes : ℕ) (t : Bool) (commit : Commit)
    → IsAccountOf (history_of log base n entries blobs) content log entries blobs n bytes t
    → log' ≡ noted log commit.edits log'.spare → entries' ≡ entries ++ kept_entry (Committed commit) ∷ [] → blobs' ≡ blobs ++ commit.blobs
    → history_of log' base n entries' blobs' ≡ grown (history_of log base n entries blobs) (Committed commit)
history_of-commit log log' base content entries entries' blobs blobs' n bytes t commit s is_log are_entries are_blobs =
    let hs = (history_of log base n entries blobs).entries in
    let front : List (List ℕ) = take n blobs in
    let count : n ≡ length front = s.base_blobs_are in
    let within : n ≤ length blobs = omega (arith, count, (length_take n blobs).1) in
    let kept : entries' ≡ map kept_entry hs ++ kept_entry (Committed commit) ∷ [] = are_entries ∙ ap (λ es. es ++ kept_entry (Committed commit) ∷ []) s.entries_are in
    let rest : drop n blobs ≡ blobs_in hs = ap (drop n) s.blobs_are ∙ (ap (λ k. drop k (front ++ blobs_in hs)) count ∙ drop-append_seam front (blobs_in hs)) in
    let held : drop n blobs' ≡ blobs_in hs ++ commit.blobs = ap (drop n) are_blobs ∙ (drop-append-le n blobs commit.blobs within ∙ ap (λ bs. bs ++ commit.blobs) rest) in
    let first : take n blobs' ≡ front = ap (take n) are_blobs ∙ take-append-le n blobs commit.blobs within in
    let more : entries_with entries' (drop n blobs') ≡ hs ++ Committed commit ∷ [] = ap₂ entries_with kept held ∙ entries_with-commit hs commit in
    ap (λ (l : Notes). history_of l base n entries' blobs') is_log
    ∙ ap₂ (λ (bs : List (List ℕ)) (es : List Entry). record { floor = log.floor; floors = log.floors; base = base; base_blobs = bs; entries = es }) first more

-- and all that is kept besides is of it
pub IsAccountOf-commit : (h : History) (content content' : Content) (log log' : Notes) (entries entries' : List KeptEntry) (blobs blobs' : List (List ℕ)) (n bytes bytes' : ℕ) (t t' : Bool) (commit : Commit)
    → IsAccountOf h content log entries blobs n bytes t → IsFormed commit → AllFit (content_of h) commit.edits
    → content' ≡ after_edits content commit.edits → log' ≡ noted log commit.edits log'.spare
    → entries' ≡ entries ++ kept_entry (Committed commit) ∷ [] → blobs' ≡ blobs ++ commit.blobs → AreBlobsFew (blobs_of h ++ commit.blobs) → bytes' ≡ capped (edit_bytes (edits_of h) + edit_bytes commit.edits)
    → (IsTrue t' ↔ AllKeepThread h.base (edits_of h ++ commit.edits))
    → IsAccountOf (grown h (Committed commit)) content' log' entries' blobs' n bytes' t'
IsAccountOf-commit h content content' log log' entries entries' blobs blobs' n bytes bytes' t t' commit s formed fit is_content is_log are_entries are_blobs few are_bytes keeps =
    let all = edits_of-grown h (Committed commit) in
    record {
      founded = IsFounded-grown_by h (Committed commit ∷ []) s.founded;
      formed = IsFormedHistory-grown_by h (Committed commit ∷ []) s.formed (subst (AllByRecursion IsFormedEdit) (sym (append-nil commit.edits)) formed);
      fits = subst (AllFit h.base) (sym all) (AllFit-append (edits_of h) commit.edits h.base s.fits fit);
      content_is = is_content ∙ ap (λ c. after_edits c commit.edits) s.content_is ∙ sym (content_of-grown h (Committed commit));
      log_is = IsLogOf-committed h log log' commit s.log_is is_log;
      entries_are = are_entries ∙ ap (λ es. es ++ kept_entry (Committed commit) ∷ []) s.entries_are ∙ sym (map-append kept_entry h.entries (Committed commit ∷ []));
      blobs_are = are_blobs ∙ ap (λ bs. bs ++ commit.blobs) s.blobs_are ∙ sym (blobs_of-grown h (Committed commit));
      few = subst AreBlobsFew (sym (are_blobs ∙ ap (λ bs. bs ++ commit.blobs) s.blobs_are)) few;
      base_blobs_are = s.base_blobs_are;
      bytes_are = are_bytes ∙ ap capped (sym (ap edit_bytes all ∙ edit_bytes-append (edits_of h) commit.edits));
      threads = subst (λ (es : List Edit). IsTrue t' ↔ AllKeepThread h.base es) (sym all) keeps;
    }

-- a count of bytes within the limit isn't capped
pub capped_within : (n m : ℕ) → n ≤ MAX_EDIT_BYTES → m ≡ n → m ≡ capped n
capped_within n m low is = omega (arith, low, is)

pub capped_sum : (x y a b r : ℕ) → a ≡ capped x → b ≡ capped y → r ≡ capped (a + b) → r ≡ capped (x + y)
capped_sum x y a b r ax by rab = omega (arith, ax, by, rab)

AllKeepThread-front : (es more : List Edit) (c : Content) → AllKeepThread c (es ++ more) → AllKeepThread c es
AllKeepThread-front [] more c keep = tt
AllKeepThread-front (e ∷ es) more c keep = (keep.0, AllKeepThread-front es more _ keep.1)

AllKeepThread-rest : (es more : List Edit) (c : Content) → AllKeepThread c (es ++ more) → AllKeepThread (after_edits c es) more
AllKeepThread-rest [] more c keep = keep
AllKeepThread-rest (e ∷ es) more c keep = AllKeepThread-rest es more _ keep.1

-- whether threads are kept: a commit with which the history is sound changes nothing of it
pub threads_sound : (h : History) (c : Commit) (t : Bool) → (IsTrue t ↔ AllKeepThread h.base (edits_of h)) → IsSound (grown h (Committed c)) → IsTrue t ↔ AllKeepThread h.base (edits_of h ++ c.edits)
threads_sound h c t is sound =
    let all : AllKeepThread h.base (edits_of h ++ c.edits) = subst (AllKeepThread h.base) (edits_of-grown h (Committed c)) (AllKeepThread-sound (grown h (Committed c)) sound) in
    (λ _. all, λ _. is.1 (AllKeepThread-front (edits_of h) c.edits h.base all))

-- and else both have to keep them
pub threads_both : (es more : List Edit) (base c : Content) (t u r : Bool) → (IsTrue t ↔ AllKeepThread base es) → c ≡ after_edits base es → (IsTrue u ↔ AllKeepThread c more) → (IsTrue r ↔ (IsTrue t × IsTrue u)) → IsTrue r ↔ AllKeepThread base (es ++ more)
threads_both es more base c t u r first is then both = (
  λ yes. AllKeepThread-append es more base (first.0 (both.0 yes).0) (subst (λ k. AllKeepThread k more) is (then.0 (both.0 yes).1)),
  λ keep. both.1 (first.1 (AllKeepThread-front es more base keep), then.1 (subst (λ k. AllKeepThread k more) (sym is) (AllKeepThread-rest es more base keep))),
)

-- ---- a refusal more

entries_with-refused : (hs : List Entry) (s : Stamp) → entries_with (map kept_entry hs ++ kept_entry (Refused s) ∷ []) (blobs_in hs) ≡ hs ++ Refused s ∷ []
entries_with-refused hs s = ap (entries_with (map kept_entry hs ++ kept_entry (Refused s) ∷ [])) (sym (append-nil (blobs_in hs))) ∙ entries_with-push hs (kept_entry (Refused s)) []

pub history_of-refused : (log : Notes) (base content : Content) (entries entries' : List KeptEntry) (blobs : List (List ℕ)) (n bytes : ℕ) (t : Bool) (s : Stamp)
    → IsAccountOf (history_of log base n entries blobs) content log entries blobs n bytes t → entries' ≡ entries ++ kept_entry (Refused s) ∷ []
    → history_of log base n entries' blobs ≡ grown (history_of log base n entries blobs) (Refused s)
history_of-refused log base content entries entries' blobs n bytes t s st are_entries =
    let hs = (history_of log base n entries blobs).entries in
    let front : List (List ℕ) = take n blobs in
    let count : n ≡ length front = st.base_blobs_are in
    let kept : entries' ≡ map kept_entry hs ++ kept_entry (Refused s) ∷ [] = are_entries ∙ ap (λ es. es ++ kept_entry (Refused s) ∷ []) st.entries_are in
    let rest : drop n blobs ≡ blobs_in hs = ap (drop n) st.blobs_are ∙ (ap (λ k. drop k (front ++ blobs_in hs)) count ∙ drop-append_seam front (blobs_in hs)) in
    ap (λ (es : List Entry). record { floor = log.floor; floors = log.floors; base = base; base_blobs = front; entries = es })
    (ap₂ entries_with kept rest ∙ entries_with-refused hs s)

pub IsAccountOf-refused : (h : History) (content : Content) (log : Notes) (entries entries' : List KeptEntry) (blobs : List (List ℕ)) (n bytes : ℕ) (t : Bool) (s : Stamp)
    → IsAccountOf h content log entries blobs n bytes t → entries' ≡ entries ++ kept_entry (Refused s) ∷ [] → IsAccountOf (grown h (Refused s)) content log entries' blobs n bytes t
IsAccountOf-refused h content log entries entries' blobs n bytes t s st are_entries =
    let all = edits_of-refused h s in
    record {
      founded = IsFounded-grown_by h (Refused s ∷ []) st.founded;
      formed = IsFormedHistory-grown_by h (Refused s ∷ []) st.formed tt;
      fits = subst (AllFit h.base) (sym all) st.fits;
      content_is = st.content_is ∙ sym (content_of-refused h s);
      log_is = IsLogOf-refused h log s st.log_is;
      entries_are = are_entries ∙ ap (λ es. es ++ kept_entry (Refused s) ∷ []) st.entries_are ∙ sym (map-append kept_entry h.entries (Refused s ∷ []));
      blobs_are = st.blobs_are ∙ sym (blobs_of-refused h s);
      few = st.few;
      base_blobs_are = st.base_blobs_are;
      bytes_are = st.bytes_are ∙ ap (λ (es : List Edit). capped (edit_bytes es)) (sym all);
      threads = subst (λ (es : List Edit). IsTrue t ↔ AllKeepThread h.base es) (sym all) st.threads;
    }

-- ---- a commit more, by what holds of its parts

pub IsAccountOf-entered : (log log' : Notes) (base content content' : Content) (entries entries' : List KeptEntry) (blobs blobs' : List (List ℕ)) (n bytes bytes' : ℕ) (t u r : Bool) (commit : Commit)
    → IsAccountOf (history_of log base n entries blobs) content log entries blobs n bytes t
    → IsFormed commit → AllFit content commit.edits → content' ≡ after_edits content commit.edits → (IsTrue u ↔ AllKeepThread content commit.edits)
    → blobs' ≡ blobs ++ commit.blobs → AreBlobsFew (blobs ++ commit.blobs)
    → log' ≡ noted log commit.edits log'.spare → entries' ≡ entries ++ kept_entry (Committed commit) ∷ []
    → bytes' ≡ capped (bytes + capped (edit_bytes commit.edits)) → (IsTrue r ↔ (IsTrue t × IsTrue u))
    → IsAccountOf (history_of log' base n entries' blobs') content' log' entries' blobs' n bytes' r
IsAccountOf-entered log log' base content content' entries entries' blobs blobs' n bytes bytes' t u r commit s formed fit is_content keeps are_blobs few is_log are_entries are_bytes both =
    let h = history_of log base n entries blobs in
    let grows = history_of-commit log log' base content entries entries' blobs blobs' n bytes t commit s is_log are_entries are_blobs in
    subst (λ k. IsAccountOf k content' log' entries' blobs' n bytes' r) (sym grows)
    (IsAccountOf-commit h content content' log log' entries entries' blobs blobs' n bytes bytes' t r commit s formed
    (subst (λ c. AllFit c commit.edits) s.content_is fit)
    is_content is_log are_entries are_blobs
    (subst (λ bs. AreBlobsFew (bs ++ commit.blobs)) s.blobs_are few)
    (capped_sum (edit_bytes (edits_of h)) (edit_bytes commit.edits) bytes (capped (edit_bytes commit.edits)) bytes' s.bytes_are refl are_bytes)
    (threads_both (edits_of h) commit.edits h.base content t u r s.threads s.content_is keeps both))
