-- What a keeper's content is to a history after each answer of `append`.
use Rattle.std.proofs.Common.{◌≡◌, ◌↔◌, ◌⊎◌, inl, inr, ⊎_elim, ℕ, zero, suc, ◌+◌, ◌<◌, arith, not, List, [], ◌∷◌, ◌++◌, filter, Option, Some, None, refl, sym, ap, ◌∙◌, subst}
use Rattle.std.proofs.lemmas.List.{append-nil}
use Rattle.std.proofs.lemmas.Grind.{flat_map-append}
use Rattle.std.proofs.lemmas.List.Elements.{filter-append}
use Rattle.keep_port.specs.Keeping.{IsUnknownOr, with_row, with_row_if}
use Rattle.keep_port.specs.declared.kept.Kept.{Kept}
use Rattle.mail_records.specs.Histories.{History, Entry, Committed, Refused, commits_in, entry_commits, grown, is_refused}
use Rattle.mail_records.specs.declared.edits.Commit.{Commit}
use Rattle.mail_records.specs.declared.edits.Stamp.{Stamp}
use Rattle.record_codec.specs.Offsets.{IsEncodingOf}
use Rattle.account_book.specs.Accounts.{without_refusals}
use Rattle.account_book.specs.Keeping.{AreEncodings, IsBaseOf, IsLeftAfter, IsLeftBy, IsOneAsked, IsOneMore, KeepsHistory, KnowsHistory, LeavesHistory}
use Rattle.account_book.proofs.Rows.{AreEncodings-push}

pub commits_in-grown : (h : History) (e : Entry) → commits_in (grown h e).entries ≡ commits_in h.entries ++ entry_commits e
commits_in-grown h e = flat_map-append entry_commits h.entries (e ∷ []) ∙ ap (λ cs. commits_in h.entries ++ cs) (append-nil (entry_commits e))

commits_in-refused : (h : History) (s : Stamp) → commits_in (grown h (Refused s)).entries ≡ commits_in h.entries
commits_in-refused h s = commits_in-grown h (Refused s) ∙ append-nil (commits_in h.entries)

base_grown : (base : Option (List ℕ)) (h : History) (e : Entry) → IsBaseOf base h → IsBaseOf base (grown h e)
base_grown None h e is = is
base_grown (Some b) h e is = absurd is

base_back : (base : Option (List ℕ)) (h : History) (e : Entry) → IsBaseOf base (grown h e) → IsBaseOf base h
base_back None h e is = is
base_back (Some b) h e is = absurd is

-- a row more keeps a commit more
pub KeepsHistory-committed : (k : Kept) (h : History) (row : List ℕ) (c : Commit) → KeepsHistory k h → IsEncodingOf row c → KeepsHistory (with_row row k) (grown h (Committed c))
KeepsHistory-committed k h row c s one = record {
  base = base_grown k.base h (Committed c) s.base;
  rows = subst (AreEncodings (k.rows ++ row ∷ [])) (sym (commits_in-grown h (Committed c))) (AreEncodings-push k.rows (commits_in h.entries) row c s.rows one);
}

-- a refusal is not kept
pub KeepsHistory-refused : (k : Kept) (h : History) (s : Stamp) → KeepsHistory k h → KeepsHistory k (grown h (Refused s))
KeepsHistory-refused k h s stands = record {
  base = base_grown k.base h (Refused s) stands.base;
  rows = subst (AreEncodings k.rows) (sym (commits_in-refused h s)) stands.rows;
}

-- so one commit more after it is that one after the history before it
KeepsHistory-later : (k : Kept) (h : History) (s : Stamp) (c : Commit) → KeepsHistory k (grown h (Committed c)) → KeepsHistory k (grown (grown h (Refused s)) (Committed c))
KeepsHistory-later k h s c keeps = record {
  base = base_grown k.base (grown h (Refused s)) (Committed c) (base_grown k.base h (Refused s) (base_back k.base h (Committed c) keeps.base));
  rows = subst (AreEncodings k.rows) (commits_in-grown h (Committed c) ∙ (ap (λ cs. cs ++ c ∷ []) (sym (commits_in-refused h s)) ∙ sym (commits_in-grown (grown h (Refused s)) (Committed c)))) keeps.rows;
}

-- of the same commits over nothing, one history has refusals where another has none
pub KeepsHistory-again : (k left : Kept) (g h : History) → KeepsHistory k g → commits_in g.entries ≡ commits_in h.entries → IsBaseOf left.base g → IsBaseOf left.base h → AreEncodings left.rows (commits_in g.entries) → KeepsHistory left h
KeepsHistory-again k left g h stands same base base' rows = record { base = base'; rows = subst (AreEncodings left.rows) same rows }

-- what the content is with a row more, where it is known
next_keeps : (known : Option Kept) (h : History) (row : List ℕ) (c : Commit) (k : Kept) → KnowsHistory known h → IsEncodingOf row c → with_row_if row known ≡ Some k → KeepsHistory k (grown h (Committed c))
next_keeps None h row c k knows one e = absurd (cc)
next_keeps (Some t) h row c k knows one e =
    let same : with_row row t ≡ k = cc in
    subst (λ z. KeepsHistory z (grown h (Committed c))) same (KeepsHistory-committed t h row c (knows t refl) one)

-- ---- the row was taken

pub knows_taken : (known known' : Option Kept) (h h' : History) (row : List ℕ) (c : Commit) → KnowsHistory known h → IsEncodingOf row c
    → IsUnknownOr (with_row_if row known) known' → h' ≡ grown h (Committed c) → KnowsHistory known' h'
knows_taken known known' h h' row c knows one after grows =
    subst (KnowsHistory known') (sym grows) (λ k e. next_keeps known h row c k knows one (after k e))

pub only_taken : (known : Option Kept) (image' : Kept → Type 0) (h h' : History) (row : List ℕ) (c : Commit) → KnowsHistory known h → IsEncodingOf row c
    → ((k : Kept) → image' k → with_row_if row known ≡ Some k) → h' ≡ grown h (Committed c) → (left : Kept) → image' left → KeepsHistory left h'
only_taken known image' h h' row c knows one may grows left i =
    subst (KeepsHistory left) (sym grows) (next_keeps known h row c left knows one (may left i))

-- ---- it was not

pub knows_same : (known known' : Option Kept) (h h' : History) → KnowsHistory known h → IsUnknownOr known known' → h' ≡ h → KnowsHistory known' h'
knows_same known known' h h' knows after same = subst (KnowsHistory known') (sym same) (λ k e. knows k (after k e))

pub knows_refused : (known : Option Kept) (h h' : History) (s : Stamp) → KnowsHistory known h → h' ≡ grown h (Refused s) → KnowsHistory known h'
knows_refused known h h' s knows grows = subst (KnowsHistory known) (sym grows) (λ k e. KeepsHistory-refused k h s (knows k e))

module _ (whole : History → Type 0) where
  pub left_taken : (known : Option Kept) (image' : Kept → Type 0) (h h' : History) (row : List ℕ) (c : Commit) → KnowsHistory known h → IsEncodingOf row c
      → ((k : Kept) → image' k → with_row_if row known ≡ Some k) → h' ≡ grown h (Committed c) → LeavesHistory whole image' h'
  left_taken known image' h h' row c knows one may grows left i = inl (only_taken known image' h h' row c knows one may grows left i)

  pub left_not_taken : (known : Option Kept) (image image' : Kept → Type 0) (h h' : History) (row : List ℕ) (c : Commit)
      → KnowsHistory known h → IsEncodingOf row c → whole (grown h (Committed c))
      → ((k : Kept) → image' k → image k ⊎ (with_row_if row known ≡ Some k)) → h' ≡ h
      → LeavesHistory whole image h → LeavesHistory whole image' h'
  left_not_taken known image image' h h' row c knows one valid may same leaves =
      subst (LeavesHistory whole image') (sym same)
      (λ left i. ⊎_elim
      (λ old. leaves left old)
      (λ new. inr (record { commit = c; valid = valid; keeps = next_keeps known h row c left knows one new }))
      (may left i))

  -- refusals have no part in what is valid
  module _ (ignores : (h : History) → whole (without_refusals h) ↔ whole h) where
    kept_entries : List Entry → List Entry
    kept_entries es = filter (λ (e : Entry). not (is_refused e)) es

    without_refused : (h : History) (s : Stamp) → without_refusals (grown h (Refused s)) ≡ without_refusals h
    without_refused h s =
        ap (λ (es : List Entry). record h { entries = es }) (filter-append (λ (e : Entry). not (is_refused e)) h.entries (Refused s ∷ []) ∙ append-nil _)

    without_later : (h : History) (s : Stamp) (e : Entry) → without_refusals (grown (grown h (Refused s)) e) ≡ without_refusals (grown h e)
    without_later h s e =
        ap (λ (es : List Entry). record h { entries = es })
        (filter-append (λ (x : Entry). not (is_refused x)) (h.entries ++ Refused s ∷ []) (e ∷ [])
        ∙ (ap (λ es. es ++ filter (λ (x : Entry). not (is_refused x)) (e ∷ [])) (filter-append (λ (x : Entry). not (is_refused x)) h.entries (Refused s ∷ []) ∙ append-nil _)
        ∙ sym (filter-append (λ (x : Entry). not (is_refused x)) h.entries (e ∷ []))))

    whole_same : (g h : History) → without_refusals g ≡ without_refusals h → whole h → whole g
    whole_same g h same w = (ignores g).0 (subst whole (sym same) ((ignores h).1 w))

    pub whole_refused : (h h' : History) (s : Stamp) → whole h → h' ≡ grown h (Refused s) → whole h'
    whole_refused h h' s w grows = subst whole (sym grows) (whole_same (grown h (Refused s)) h (without_refused h s) w)

    one_more-refused : (k : Kept) (h : History) (s : Stamp) → IsOneMore whole k h → IsOneMore whole k (grown h (Refused s))
    one_more-refused k h s m = record {
      commit = m.commit;
      valid = whole_same (grown (grown h (Refused s)) (Committed m.commit)) (grown h (Committed m.commit)) (without_later h s (Committed m.commit)) m.valid;
      keeps = KeepsHistory-later k h s m.commit m.keeps;
    }

    pub left_refused : (image : Kept → Type 0) (h h' : History) (s : Stamp) → LeavesHistory whole image h → h' ≡ grown h (Refused s) → LeavesHistory whole image h'
    left_refused image h h' s leaves grows =
        subst (LeavesHistory whole image) (sym grows)
        (λ left i. ⊎_elim (λ a. inl (KeepsHistory-refused left h s a)) (λ m. inr (one_more-refused left h s m)) (leaves left i))

-- ---- what a crash may leave after calls

-- a history to which a commit was not entered
abbrev NotEntered : (h h' : History) → Commit → Type 0
NotEntered h h' c = (h' ≡ h) ⊎ (h' ≡ grown h (Refused c.stamp))

commits_not_entered : (h h' : History) (c : Commit) → NotEntered h h' c → commits_in h'.entries ≡ commits_in h.entries
commits_not_entered h h' c less =
    ⊎_elim
    (λ same. ap (λ (z : History). commits_in z.entries) same)
    (λ more. ap (λ (z : History). commits_in z.entries) more ∙ commits_in-refused h c.stamp)
    less

keeps_not_entered : (k : Kept) (h h' : History) (c : Commit) → NotEntered h h' c → KeepsHistory k h → KeepsHistory k h'
keeps_not_entered k h h' c less keeps =
    ⊎_elim
    (λ same. subst (KeepsHistory k) (sym same) keeps)
    (λ more. subst (KeepsHistory k) (sym more) (KeepsHistory-refused k h c.stamp keeps))
    less

more_not_entered : (k : Kept) (h h' : History) (c e : Commit) → NotEntered h h' c → KeepsHistory k (grown h (Committed e)) → KeepsHistory k (grown h' (Committed e))
more_not_entered k h h' c e less keeps =
    ⊎_elim
    (λ same. subst (λ z. KeepsHistory k (grown z (Committed e))) (sym same) keeps)
    (λ more. subst (λ z. KeepsHistory k (grown z (Committed e))) (sym more) (KeepsHistory-later k h c.stamp e keeps))
    less

-- a call that does nothing
pub left_idle : (image : Kept → Type 0) (h : History) (c : Commit) → IsLeftBy image image h h c
left_idle image h c = inr (inl refl, λ k i. inl i)

-- the commit was entered
pub left_entered : (before now : Kept → Type 0) (known : Option Kept) (h h' : History) (row : List ℕ) (c : Commit) → KnowsHistory known h → IsEncodingOf row c
    → ((k : Kept) → now k → with_row_if row known ≡ Some k) → h' ≡ grown h (Committed c) → IsLeftBy before now h h' c
left_entered before now known h h' row c knows one may grows = inl (grows, only_taken known now h h' row c knows one may grows)

-- it was not
pub left_unentered : (before now : Kept → Type 0) (known : Option Kept) (h h' : History) (row : List ℕ) (c : Commit) → KnowsHistory known h → IsEncodingOf row c
    → ((k : Kept) → now k → before k ⊎ (with_row_if row known ≡ Some k)) → NotEntered h h' c → IsLeftBy before now h h' c
left_unentered before now known h h' row c knows one may less =
    inr (less, λ k i. ⊎_elim (λ old. inl old) (λ new. inr (next_keeps known h row c k knows one new)) (may k i))

-- after calls
module _ {K : Type 0} (image : K → Kept → Type 0) (keepers : ℕ → K) (histories : ℕ → History) (commits : ℕ → Commit) where
  abbrev Steps : ℕ → Type 0
  Steps n = (i : ℕ) → i < n → IsLeftBy (image (keepers i)) (image (keepers (i + 1))) (histories i) (histories (i + 1)) (commits i)

  abbrev After : ℕ → Kept → Type 0
  After n k = IsLeftAfter (image (keepers 0)) histories commits n k

  carried : (n m : ℕ) (k : Kept) → n < m → NotEntered (histories n) (histories m) (commits n) → After n k → After m k
  carried n m k low less after =
      let same = commits_not_entered (histories n) (histories m) (commits n) less in
      ⊎_elim
      (λ keeps. inl (keeps_not_entered k (histories n) (histories m) (commits n) less keeps))
      (λ rest. inr (⊎_elim
      (λ (one : IsOneAsked histories commits n k). let before = one.asked in inl (record {
        index = one.index;
        asked = omega (arith, before, low);
        none_since = same ∙ one.none_since;
        keeps = more_not_entered k (histories n) (histories m) (commits n) (commits one.index) less one.keeps;
      }))
      (λ first. inr (same ∙ first.0, first.1))
      rest))
      after

  stepped : (n : ℕ) → IsLeftBy (image (keepers n)) (image (keepers (n + 1))) (histories n) (histories (n + 1)) (commits n) → ((k : Kept) → image (keepers n) k → After n k) → (k : Kept) → image (keepers (n + 1)) k → After (n + 1) k
  stepped n step before k i =
      ⊎_elim
      (λ entered. inl (entered.1 k i))
      (λ less. ⊎_elim
      (λ old. carried n (n + 1) k (omega arith) less.0 (before k old))
      (λ one. inr (inl (record {
        index = n;
        asked = omega arith;
        none_since = commits_not_entered (histories n) (histories (n + 1)) (commits n) less.0;
        keeps = more_not_entered k (histories n) (histories (n + 1)) (commits n) (commits n) less.0 one;
      })))
      (less.1 k i))
      step

  pub left_after : (n : ℕ) → Steps n → (k : Kept) → image (keepers n) k → After n k
  left_after zero steps k i = inr (inr (refl, i))
  left_after (suc n) steps k i =
      let next : n + 1 ≡ suc n = omega arith in
      subst (λ m. After m k) next
      (stepped n (steps n (omega arith)) (left_after n (λ j low. steps j (omega (arith, low)))) k (subst (λ m. image (keepers m) k) (sym next) i))
