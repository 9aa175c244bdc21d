-- Passes and the numbers that they are counted as.
use Rattle.std.proofs.Common.{◌≡◌, ℕ, zero, suc, ◌^◌, ◌<◌, ◌≤◌, max, List, [], ◌∷◌, map, drop, take, length, refl, ap, ap₂, ◌∙◌, subst, arith}
use Rattle.std.specs.List.{AllByRecursion}
use Rattle.mail_records.specs.Histories.{Entry, Committed, Refused, History, account_after}
use Rattle.account_book.specs.Accounts.{kept_entry}
use Rattle.account_book.specs.Passes.{IsPassNumber, greatest_pass, named_from, named_since, number_from, numbered_from, numbered_since, pass_from}
use Rattle.account_book.specs.declared.entry.Entry.{Entry as KeptEntry}

-- ---- a number and its pass

pub pass_of_number : (g p : ℕ) → g < 2 ^ 64 → p < 2 ^ 64 → pass_from g (number_from g p) ≡ p
pass_of_number g p low far = omega arith

pub number_of_pass : (g n : ℕ) → g < 2 ^ 64 → n < 2 ^ 64 → number_from g (pass_from g n) ≡ n
number_of_pass g n low far = omega arith

-- ---- entries

named_numbered : (g : ℕ) (e : Entry) → g < 2 ^ 64 → IsPassNumber e → named_from g (numbered_from g e) ≡ e
named_numbered g (Committed c) low far =
    ap (λ p. Committed (record c { stamp = record { pass = p; serial = c.stamp.serial } })) (pass_of_number g c.stamp.pass low far)
named_numbered g (Refused s) low far =
    ap (λ p. Refused (record { pass = p; serial = s.serial })) (pass_of_number g s.pass low far)

pub all_named : (g : ℕ) (es : List Entry) → g < 2 ^ 64 → AllByRecursion IsPassNumber es → map (named_from g) (map (numbered_from g) es) ≡ es
all_named g [] low all = refl
all_named g (e ∷ es) low all = ap₂ (λ (x : Entry) (xs : List Entry). x ∷ xs) (named_numbered g e low all.0) (all_named g es low all.1)

-- ---- the greatest pass

abbrev pub greatest_kept : List KeptEntry → ℕ
greatest_kept [] = 0
greatest_kept (e ∷ es) = max e.stamp.pass (greatest_kept es)

pub greatest_is : (es : List Entry) → greatest_kept (map kept_entry es) ≡ greatest_pass es
greatest_is [] = refl
greatest_is (Committed c ∷ es) = ap (max c.stamp.pass) (greatest_is es)
greatest_is (Refused s ∷ es) = ap (max s.pass) (greatest_is es)

pub all_named_since : (h : History) (n g : ℕ) → g < 2 ^ 64 → g ≡ greatest_pass (take n h.entries) → AllByRecursion IsPassNumber (drop n h.entries)
    → named_since (account_after h n) (numbered_since (account_after h n) (drop n h.entries)) ≡ drop n h.entries
all_named_since h n g low is all =
    subst (λ z. map (named_from z) (map (numbered_from z) (drop n h.entries)) ≡ drop n h.entries) is (all_named g (drop n h.entries) low all)

drop_past : {A : Type 0} (i : ℕ) (xs : List A) → length xs ≤ i → drop i xs ≡ []
drop_past zero [] all = refl
drop_past (suc i) [] all = refl
drop_past zero (x ∷ xs) all = absurd (omega (arith, all))
drop_past (suc i) (x ∷ xs) all = drop_past i xs (omega (arith, all))

pub greatest_found : (g i : ℕ) (items : List KeptEntry) (es : List Entry) → length items ≤ i → max g (greatest_kept (drop i items)) ≡ greatest_kept items → items ≡ map kept_entry es → g ≡ greatest_pass es
greatest_found g i items es all most are =
    let none : greatest_kept (drop i items) ≡ 0 = ap greatest_kept (drop_past i items all) in
    let found : greatest_kept items ≡ greatest_pass es = ap greatest_kept are ∙ greatest_is es in
    omega (arith, none, most, found)
