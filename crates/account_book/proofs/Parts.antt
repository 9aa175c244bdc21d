-- The entries of a book since it was opened, and the refusals among them.
use Rattle.std.proofs.Common.{◌≡◌, ◌⊎◌, ⊎_elim, ℕ, zero, suc, ◌+◌, ◌-◌, ◌^◌, ◌≤◌, ◌<◌, Bool, true, false, List, [], ◌∷◌, ◌++◌, take, drop, filter, length, Result, Ok, Err, refl, sym, ap, ◌∙◌, subst, arith, length-append}
use Rattle.std.proofs.lemmas.Bool.Decides.{leb_tells}
use Rattle.std.proofs.lemmas.List.{append-nil, drop-append-le}
use Rattle.std.proofs.lemmas.List.Elements.{filter-append}
use Rattle.std.proofs.Math.Seq.{drop-append_seam}
use Rattle.std.specs.List.{AllByRecursion}
use Rattle.jm_edge.specs.Causes.{Rose}
use Rattle.mail_records.specs.Histories.{History, Entry, Committed, Refused, account_after, grown, is_refused}
use Rattle.mail_records.specs.declared.edits.Commit.{Commit}
use Rattle.mail_records.specs.declared.edits.Stamp.{Stamp}
use Rattle.mail_records.proofs.Prefixes.{account_after-all, account_after-grown_by}
use Rattle.account_book.specs.Books.{IsEntered, IsFaultCounted, IsValidFrom, RoseBy, refusals_in}
use Rattle.account_book.specs.Passes.{IsPassNumber, greatest_pass}

pub drop_all : {A : Type 0} (xs : List A) → drop (length xs) xs ≡ []
drop_all [] = refl
drop_all (x ∷ xs) = drop_all xs

filter_most : (es : List Entry) → refusals_in es ≤ length es
filter_most [] = omega arith
filter_most (Committed c ∷ es) = let m = filter_most es in omega (arith, m)
filter_most (Refused s ∷ es) = let m = filter_most es in omega (arith, m)

drop_most : (n : ℕ) (es : List Entry) → length (drop n es) ≤ length es
drop_most zero es = omega arith
drop_most (suc n) [] = omega arith
drop_most (suc n) (e ∷ es) = let m = drop_most n es in omega (arith, m)

refusals_most : (n : ℕ) (es : List Entry) → refusals_in (drop n es) ≤ length es
refusals_most n es = let a = filter_most (drop n es) in let b = drop_most n es in omega (arith, a, b)

-- with an entry more
since_grown : (h h' : History) (e : Entry) (n : ℕ) → n ≤ length h.entries → h' ≡ grown h e → drop n h'.entries ≡ drop n h.entries ++ drop (length h.entries) h'.entries
since_grown h h' e n low grows =
    subst (λ (k : History). drop n k.entries ≡ drop n h.entries ++ drop (length h.entries) k.entries) (sym grows)
    (drop-append-le n h.entries (e ∷ []) low ∙ ap (λ es. drop n h.entries ++ es) (sym (drop-append_seam h.entries (e ∷ []))))

since_same : (h h' : History) (n : ℕ) → h' ≡ h → drop n h'.entries ≡ drop n h.entries ++ drop (length h.entries) h'.entries
since_same h h' n same =
    subst (λ (k : History). drop n k.entries ≡ drop n h.entries ++ drop (length h.entries) k.entries) (sym same)
    (sym (append-nil (drop n h.entries)) ∙ ap (λ es. drop n h.entries ++ es) (sym (drop_all h.entries)))

pub since_idle : (since entries : List Entry) → since ≡ since ++ drop (length entries) entries
since_idle since entries = sym (append-nil since) ∙ ap (λ es. since ++ es) (sym (drop_all entries))

count_grown : (h h' : History) (e : Entry) (n : ℕ) → n ≤ length h.entries → h' ≡ grown h e → n ≤ length h'.entries
count_grown h h' e n low grows =
    let more = ap (λ (k : History). length k.entries) grows ∙ length-append h.entries (e ∷ []) in omega (arith, more, low)

refusals_more : (xs ys : List Entry) → refusals_in (xs ++ ys) ≡ refusals_in xs + refusals_in ys
refusals_more xs ys = ap length (filter-append is_refused xs ys) ∙ length-append (filter is_refused xs) (filter is_refused ys)

refusals_grown : (h h' : History) (e : Entry) (n : ℕ) → n ≤ length h.entries → h' ≡ grown h e → refusals_in (drop n h'.entries) ≡ refusals_in (drop n h.entries) + refusals_in (e ∷ [])
refusals_grown h h' e n low grows =
    ap (λ (k : History). refusals_in (drop n k.entries)) grows
    ∙ (ap refusals_in (drop-append-le n h.entries (e ∷ []) low) ∙ refusals_more (drop n h.entries) (e ∷ []))

all_push : (P : Entry → Type 0) (xs : List Entry) (e : Entry) → AllByRecursion P xs → P e → AllByRecursion P (xs ++ e ∷ [])
all_push P [] e all one = (one, tt)
all_push P (x ∷ xs) e all one = (all.0, all_push P xs e all.1 one)

passes_grown : (h h' : History) (e : Entry) (n : ℕ) → n ≤ length h.entries → h' ≡ grown h e → AllByRecursion IsPassNumber (drop n h.entries) → IsPassNumber e → AllByRecursion IsPassNumber (drop n h'.entries)
passes_grown h h' e n low grows all one =
    subst (AllByRecursion IsPassNumber) (sym (ap (λ (k : History). drop n k.entries) grows ∙ drop-append-le n h.entries (e ∷ []) low)) (all_push IsPassNumber (drop n h.entries) e all one)

module _ {E : Type 0} where
  pub since_entered : (r : Result Bool E) (h h' : History) (c : Commit) (n : ℕ) → n ≤ length h.entries → IsEntered r h h' c → drop n h'.entries ≡ drop n h.entries ++ drop (length h.entries) h'.entries
  since_entered (Ok true) h h' c n low is = since_grown h h' (Committed c) n low is
  since_entered (Ok false) h h' c n low is = since_grown h h' (Refused c.stamp) n low is
  since_entered (Err e) h h' c n low is = since_same h h' n is

  pub opened_entered : (r : Result Bool E) (h h' : History) (c : Commit) (n : ℕ) → n ≤ length h.entries → IsEntered r h h' c → account_after h' n ≡ account_after h n
  opened_entered (Ok true) h h' c n low is = ap (λ k. account_after k n) is ∙ account_after-grown_by h (Committed c ∷ []) n low
  opened_entered (Ok false) h h' c n low is = ap (λ k. account_after k n) is ∙ account_after-grown_by h (Refused c.stamp ∷ []) n low
  opened_entered (Err e) h h' c n low is = ap (λ k. account_after k n) is

  pub count_entered : (r : Result Bool E) (h h' : History) (c : Commit) (n : ℕ) → n ≤ length h.entries → IsEntered r h h' c → n ≤ length h'.entries
  count_entered (Ok true) h h' c n low is = count_grown h h' (Committed c) n low is
  count_entered (Ok false) h h' c n low is = count_grown h h' (Refused c.stamp) n low is
  count_entered (Err e) h h' c n low is = subst (λ (k : History). n ≤ length k.entries) (sym is) low

  -- a count of refusals that isn't near the end of 64 bits
  pub refusals_entered : (r : Result Bool E) (h h' : History) (c : Commit) (n faults faults' : ℕ) → n ≤ length h.entries → IsEntered r h h' c → IsFaultCounted r faults faults'
      → length h'.entries ≤ 2 ^ 64 - 1 → refusals_in (drop n h.entries) ≤ faults → refusals_in (drop n h'.entries) ≤ faults'
  refusals_entered (Ok true) h h' c n faults faults' low is counted far most =
      let more = refusals_grown h h' (Committed c) n low is in
      let none : refusals_in (Committed c ∷ []) ≡ 0 = refl in
      omega (arith, more, none, counted, most)
  refusals_entered (Ok false) h h' c n faults faults' low is counted far most =
      let more = refusals_grown h h' (Refused c.stamp) n low is in
      let one : refusals_in (Refused c.stamp ∷ []) ≡ 1 = refl in
      let all = refusals_most n h'.entries in
      omega (arith, more, one, counted, far, most, all)
  refusals_entered (Err e) h h' c n faults faults' low is counted far most =
      let same = ap (λ (k : History). refusals_in (drop n k.entries)) is in
      omega (arith, same, counted, most)

  -- the count that rose with each refusal since it was this
  pub rise_entered : (r : Result Bool E) (h h' : History) (c : Commit) (n first faults faults' : ℕ) → n ≤ length h.entries → IsEntered r h h' c → IsFaultCounted r faults faults'
      → RoseBy (refusals_in (drop n h.entries)) first faults → RoseBy (refusals_in (drop n h'.entries)) first faults'
  rise_entered (Ok true) h h' c n first faults faults' low is counted most =
      let more = refusals_grown h h' (Committed c) n low is in
      let none : refusals_in (Committed c ∷ []) ≡ 0 = refl in
      omega (arith, more, none, counted, most)
  rise_entered (Ok false) h h' c n first faults faults' low is counted most =
      let more = refusals_grown h h' (Refused c.stamp) n low is in
      let one : refusals_in (Refused c.stamp ∷ []) ≡ 1 = refl in
      omega (arith, more, one, counted, most)
  rise_entered (Err e) h h' c n first faults faults' low is counted most =
      let same = ap (λ (k : History). refusals_in (drop n k.entries)) is in
      omega (arith, same, counted, most)

  pub passes_entered : (r : Result Bool E) (h h' : History) (c : Commit) (n : ℕ) → n ≤ length h.entries → IsEntered r h h' c → c.stamp.pass < 2 ^ 64 → AllByRecursion IsPassNumber (drop n h.entries) → AllByRecursion IsPassNumber (drop n h'.entries)
  passes_entered (Ok true) h h' c n low is far all = passes_grown h h' (Committed c) n low is all far
  passes_entered (Ok false) h h' c n low is far all = passes_grown h h' (Refused c.stamp) n low is all far
  passes_entered (Err e) h h' c n low is far all = subst (λ (k : History). AllByRecursion IsPassNumber (drop n k.entries)) (sym is) all

  pub greatest_entered : (r : Result Bool E) (h h' : History) (c : Commit) (n greatest : ℕ) → n ≤ length h.entries → IsEntered r h h' c → greatest ≡ greatest_pass (take n h.entries) → greatest ≡ greatest_pass (take n h'.entries)
  greatest_entered r h h' c n greatest low is most = most ∙ ap (λ (k : History). greatest_pass k.entries) (sym (opened_entered r h h' c n low is))

pub none_since : (n : ℕ) (es : List Entry) → n ≡ length es → drop n es ≡ []
none_since n es is = ap (λ k. drop k es) is ∙ drop_all es

-- ---- what the history says of the keeper's answer

not_longer : (h : History) (e : Entry) → h ≡ grown h e → ⊥
not_longer h e same = let l = ap (λ (k : History). length k.entries) same ∙ length-append h.entries (e ∷ []) in omega (arith, l)

-- the last of a list, or this one
last_or : Entry → List Entry → Entry
last_or d [] = d
last_or d (x ∷ xs) = last_or x xs

last_of : (d e : Entry) (xs : List Entry) → last_or d (xs ++ e ∷ []) ≡ e
unfolding last_or
last_of d e [] = refl
last_of d e (x ∷ xs) = last_of x e xs

not_kept : (h : History) (c : Commit) → grown h (Committed c) ≡ grown h (Refused c.stamp) → ⊥
not_kept h c same =
    let ends : Committed c ≡ Refused c.stamp = sym (last_of (Committed c) (Committed c) h.entries) ∙ (ap (λ (k : History). last_or (Committed c) k.entries) same ∙ last_of (Committed c) (Refused c.stamp) h.entries) in
    absurd (cc)

-- a history that stays gains no entry
not_grown : (h k : History) (e : Entry) → k ≡ h → k ≡ grown h e → ⊥
not_grown h k e same grows = not_longer h e (sym same ∙ grows)

module _ {E : Type 0} where
  pub cause_entered : (r : Result Bool E) (h h' : History) (c : Commit) (faults faults' : ℕ) → IsEntered r h h' c → IsFaultCounted r faults faults' → h' ≡ grown h (Refused c.stamp) → Rose faults faults'
  cause_entered (Ok true) h h' c faults faults' is counted same = absurd (not_kept h c (sym is ∙ same))
  cause_entered (Ok false) h h' c faults faults' is counted same = counted
  cause_entered (Err e) h h' c faults faults' is counted same = absurd (not_longer h (Refused c.stamp) (sym is ∙ same))

  pub begins_entered : (r : Result Bool E) (h h' : History) (c : Commit) (n : ℕ) → n ≡ length h.entries → IsEntered r h h' c → account_after h' n ≡ h
  begins_entered r h h' c n count is = opened_entered r h h' c n (omega (arith, count)) is ∙ account_after-all h n (omega (arith, count))

pub cause_idle : (h : History) (s : Stamp) (faults : ℕ) → h ≡ grown h (Refused s) → Rose faults faults
cause_idle h s faults same = absurd (not_longer h (Refused s) same)

-- where the keeper was asked and there was memory, the history grew
pub entered_grows : (E : Type 0) (kept : Bool) (h h' : History) (c : Commit) → IsEntered {E = E} (Ok kept) h h' c → h' ≡ h → ⊥
entered_grows E true h h' c is same = not_grown h h' (Committed c) same is
entered_grows E false h h' c is same = not_grown h h' (Refused c.stamp) same is

-- ---- the account is valid at the end of each entry

module _ (whole : History → Type 0) where
  pub valid_first : (h : History) (n : ℕ) → n ≡ length h.entries → whole h → IsValidFrom whole n h
  valid_first h n is valid count low = subst whole (sym (account_after-all h count (omega (arith, is, low)))) valid

  -- after more entries, the first ones are as they were
  always_on : (h h' : History) (n : ℕ) → ((k : ℕ) → k ≤ length h.entries → account_after h' k ≡ account_after h k) → length h'.entries ≤ length h.entries + 1 → whole h' → IsValidFrom whole n h → IsValidFrom whole n h'
  always_on h h' n first more valid always count low =
      ⊎_elim
      (λ here. subst whole (sym (first count here.1)) (always count low))
      (λ past. let far = past.1 in subst whole (sym (account_after-all h' count (omega (arith, far, more)))) valid)
      (leb_tells count (length h.entries))

  length_on : (h h' : History) (e : Entry) → h' ≡ grown h e → length h'.entries ≤ length h.entries + 1
  length_on h h' e is = let more = ap (λ (k : History). length k.entries) is ∙ length-append h.entries (e ∷ []) in omega (arith, more)

  module _ {E : Type 0} where
    most_entered : (r : Result Bool E) (h h' : History) (c : Commit) → IsEntered r h h' c → length h'.entries ≤ length h.entries + 1
    most_entered (Ok true) h h' c is = length_on h h' (Committed c) is
    most_entered (Ok false) h h' c is = length_on h h' (Refused c.stamp) is
    most_entered (Err e) h h' c is = let same = ap (λ (k : History). length k.entries) is in omega (arith, same)

    pub always_entered : (r : Result Bool E) (h h' : History) (c : Commit) (n : ℕ) → IsEntered r h h' c → whole h' → IsValidFrom whole n h → IsValidFrom whole n h'
    always_entered r h h' c n is valid always = always_on h h' n (λ k low. opened_entered r h h' c k low is) (most_entered r h h' c is) valid always
