-- A needle is looked for from the first byte on that is its own first byte in either case.
use Rattle.std.proofs.Common.{◌≡◌, ◌≢◌, ℕ, zero, suc, ◌+◌, ◌-◌, ◌<◌, ◌≤◌, ◌⊎◌, inl, inr, ⊎_elim, Bool, true, false, ◌&&◌, ◌||◌, eqb, ltb, List, [], ◌∷◌, get_or, drop, length, refl, sym, ap, ◌∙◌, subst, arith, eq-eqb, ne_eqb, lt-ltb, le-ltb, None, Some, Option}
use Rattle.std.specs.Char.{to_ascii_lowercase, to_ascii_uppercase}
use Rattle.std.proofs.lemmas.Bool.{cases_Bool, eqb-true, ltb-false, ltb-true, or_cases, true≢false}
use Rattle.std.proofs.lemmas.List.{drop_all, drop_more, length-drop}
use Rattle.memchr.specs.Find.{IsFirstByte, is_byte2}
use Rattle.filter_terms.specs.Contains.{IsAfterFirst, begins_with, contains}

-- ---- letters in either case

lower_of : (c : ℕ) → ((c < 65) × (to_ascii_lowercase c ≡ c)) ⊎ (((65 ≤ c) × (c < 91) × (to_ascii_lowercase c ≡ c + 32)) ⊎ ((91 ≤ c) × (to_ascii_lowercase c ≡ c)))
lower_of c =
    ⊎_elim
    (λ (a : ltb c 65 ≡ true). inl (ltb-true c 65 a, rw a refl))
    (λ (a : ltb c 65 ≡ false).
    ⊎_elim
    (λ (b : ltb c 91 ≡ true). inr (inl (ltb-false c 65 a, ltb-true c 91 b, rw a (rw b refl))))
    (λ (b : ltb c 91 ≡ false). inr (inr (ltb-false c 91 b, rw a (rw b refl))))
    (cases_Bool (ltb c 91)))
    (cases_Bool (ltb c 65))

upper_of : (c : ℕ) → ((c < 97) × (to_ascii_uppercase c ≡ c)) ⊎ (((97 ≤ c) × (c < 123) × (to_ascii_uppercase c ≡ c - 32)) ⊎ ((123 ≤ c) × (to_ascii_uppercase c ≡ c)))
upper_of c =
    ⊎_elim
    (λ (a : ltb c 97 ≡ true). inl (ltb-true c 97 a, rw a refl))
    (λ (a : ltb c 97 ≡ false).
    ⊎_elim
    (λ (b : ltb c 123 ≡ true). inr (inl (ltb-false c 97 a, ltb-true c 123 b, rw a (rw b refl))))
    (λ (b : ltb c 123 ≡ false). inr (inr (ltb-false c 123 b, rw a (rw b refl))))
    (cases_Bool (ltb c 123)))
    (cases_Bool (ltb c 97))

-- a byte that is another one in lower case, or in upper case, has the same lower case
lower_lower : (n : ℕ) → to_ascii_lowercase (to_ascii_lowercase n) ≡ to_ascii_lowercase n
lower_lower n =
    ⊎_elim
    (λ (a : (n < 65) × (to_ascii_lowercase n ≡ n)). ap to_ascii_lowercase a.1)
    (⊎_elim
    (λ (a : (65 ≤ n) × (n < 91) × (to_ascii_lowercase n ≡ n + 32)).
    ap to_ascii_lowercase a.2 ∙ (stays (n + 32) (omega (arith, a.0)) ∙ sym a.2))
    (λ (a : (91 ≤ n) × (to_ascii_lowercase n ≡ n)). ap to_ascii_lowercase a.1))
    (lower_of n)
  where
    stays : (c : ℕ) → 91 ≤ c → to_ascii_lowercase c ≡ c
    stays c le = rw (le-ltb c 65 (omega arith)) (rw (le-ltb c 91 le) refl)

lower_upper : (n : ℕ) → to_ascii_lowercase (to_ascii_uppercase n) ≡ to_ascii_lowercase n
lower_upper n =
    ⊎_elim
    (λ (a : (n < 97) × (to_ascii_uppercase n ≡ n)). ap to_ascii_lowercase a.1)
    (⊎_elim
    (λ (a : (97 ≤ n) × (n < 123) × (to_ascii_uppercase n ≡ n - 32)).
    ap to_ascii_lowercase a.2 ∙ (grows (n - 32) n (omega (arith, a.0)) (omega (arith, a.0)) (omega (arith, a.1)) ∙ sym (stays n (omega (arith, a.0)))))
    (λ (a : (123 ≤ n) × (to_ascii_uppercase n ≡ n)). ap to_ascii_lowercase a.1))
    (upper_of n)
  where
    stays : (c : ℕ) → 91 ≤ c → to_ascii_lowercase c ≡ c
    stays c le = rw (le-ltb c 65 (omega arith)) (rw (le-ltb c 91 le) refl)

    grows : (c m : ℕ) → c + 32 ≡ m → 65 ≤ c → c < 91 → to_ascii_lowercase c ≡ m
    grows c m e low high = rw (le-ltb c 65 low) (rw (lt-ltb c 91 high) e)

-- the same lower case is that of one of the two
is_one : (n x : ℕ) → to_ascii_lowercase x ≡ to_ascii_lowercase n → (x ≡ to_ascii_lowercase n) ⊎ (x ≡ to_ascii_uppercase n)
is_one n x e =
    ⊎_elim
    (λ (a : (x < 65) × (to_ascii_lowercase x ≡ x)). inl (sym a.1 ∙ e))
    (⊎_elim
    (λ (a : (65 ≤ x) × (x < 91) × (to_ascii_lowercase x ≡ x + 32)). inr (by_lower a.0 a.1 (sym a.2 ∙ e) (lower_of n)))
    (λ (a : (91 ≤ x) × (to_ascii_lowercase x ≡ x)). inl (sym a.1 ∙ e)))
    (lower_of x)
  where
    upper_stays : (m : ℕ) → m < 97 → to_ascii_uppercase m ≡ m
    upper_stays m lt = rw (lt-ltb m 97 lt) refl

    by_upper : 65 ≤ x → x < 91 → x + 32 ≡ n → ((n < 97) × (to_ascii_uppercase n ≡ n)) ⊎ (((97 ≤ n) × (n < 123) × (to_ascii_uppercase n ≡ n - 32)) ⊎ ((123 ≤ n) × (to_ascii_uppercase n ≡ n))) → x ≡ to_ascii_uppercase n
    by_upper low high same (inl a) = absurd (omega (arith, low, same, a.0))
    by_upper low high same (inr (inl a)) = let less : x ≡ n - 32 = omega (arith, same) in less ∙ sym a.2
    by_upper low high same (inr (inr a)) = absurd (omega (arith, high, same, a.0))

    by_lower : 65 ≤ x → x < 91 → x + 32 ≡ to_ascii_lowercase n → ((n < 65) × (to_ascii_lowercase n ≡ n)) ⊎ (((65 ≤ n) × (n < 91) × (to_ascii_lowercase n ≡ n + 32)) ⊎ ((91 ≤ n) × (to_ascii_lowercase n ≡ n))) → x ≡ to_ascii_uppercase n
    by_lower low high same (inl a) = absurd (omega (arith, low, same ∙ a.1, a.0))
    by_lower low high same (inr (inl a)) =
        let is : x + 32 ≡ n + 32 = same ∙ a.2 in
        let whole : x ≡ n = omega (arith, is) in whole ∙ sym (upper_stays n (omega (arith, a.1)))
    by_lower low high same (inr (inr a)) = by_upper low high (same ∙ a.1) (upper_of n)

abbrev either : ℕ → ℕ → Bool
either n x = is_byte2 (to_ascii_lowercase n) (to_ascii_uppercase n) x

same_byte : (n x : ℕ) → either n x ≡ true → eqb (to_ascii_lowercase x) (to_ascii_lowercase n) ≡ true
same_byte n x h =
    eq-eqb (to_ascii_lowercase x) (to_ascii_lowercase n)
    (⊎_elim
    (λ (a : eqb x (to_ascii_lowercase n) ≡ true). ap to_ascii_lowercase (eqb-true x (to_ascii_lowercase n) a) ∙ lower_lower n)
    (λ (a : eqb x (to_ascii_uppercase n) ≡ true). ap to_ascii_lowercase (eqb-true x (to_ascii_uppercase n) a) ∙ lower_upper n)
    (or_cases (eqb x (to_ascii_lowercase n)) (eqb x (to_ascii_uppercase n)) h))

or_left : (a b : Bool) → a ≡ true → (a || b) ≡ true
or_left true b e = refl
or_left false b e = absurd (true≢false (sym e))

or_right : (a b : Bool) → b ≡ true → (a || b) ≡ true
or_right true b e = refl
or_right false b e = e

other_byte : (n x : ℕ) → (either n x ≡ true → ⊥) → eqb (to_ascii_lowercase x) (to_ascii_lowercase n) ≡ false
other_byte n x h =
    ne_eqb (to_ascii_lowercase x) (to_ascii_lowercase n) (λ e.
    h (⊎_elim
    (λ (a : x ≡ to_ascii_lowercase n). or_left (eqb x (to_ascii_lowercase n)) (eqb x (to_ascii_uppercase n)) (eq-eqb x (to_ascii_lowercase n) a))
    (λ (a : x ≡ to_ascii_uppercase n). or_right (eqb x (to_ascii_lowercase n)) (eqb x (to_ascii_uppercase n)) (eq-eqb x (to_ascii_uppercase n) a))
    (is_one n x e)))

-- ---- bytes with which no needle begins

past : (n : ℕ) (ns : List ℕ) (k : ℕ) (text : List ℕ) → k ≤ length text → ((j : ℕ) → j < k → either n (get_or text j 0) ≡ true → ⊥) → contains (n ∷ ns) text ≡ contains (n ∷ ns) (drop k text)
past n ns zero text le none = refl
past n ns (suc k) [] le none = absurd (omega arith)
past n ns (suc k) (x ∷ xs) le none =
    let other = other_byte n x (none 0 (omega arith)) in
    ap (λ b. (b && begins_with ns xs) || contains (n ∷ ns) xs) other ∙ past n ns k xs (omega arith) (λ j lt. none (suc j) (omega arith))

pub none_found : (n : ℕ) (text : List ℕ) → IsFirstByte (is_byte2 (to_ascii_lowercase n) (to_ascii_uppercase n)) text None → (ns : List ℕ) → contains (n ∷ ns) text ≡ false
none_found n text none ns =
    past n ns (length text) text (omega arith) (λ j lt. none j (omega arith) lt) ∙ ap (contains (n ∷ ns)) (drop_all (length text) text (omega arith))

pub after_found : (n : ℕ) (text : List ℕ) (k : ℕ) → IsFirstByte (is_byte2 (to_ascii_lowercase n) (to_ascii_uppercase n)) text (Some k) → IsAfterFirst n text (drop (k + 1) text)
after_found n text k found =
    let low : k < length text = found.0.high in
    let here : drop k text ≡ get_or text k 0 ∷ drop (k + 1) text = drop_more text k 0 low in
    record {
      shorter = omega (arith, low, length-drop (k + 1) text);
      same = λ ns.
          past n ns k text (omega arith) (λ j lt. found.0.before j (omega arith) lt)
          ∙ (ap (contains (n ∷ ns)) here
          ∙ ap (λ b. (b && begins_with ns (drop (k + 1) text)) || contains (n ∷ ns) (drop (k + 1) text)) (same_byte n (get_or text k 0) found.1));
    }

pub first_in_case : (n low up : ℕ) (text : List ℕ) (r : Option ℕ) → low ≡ to_ascii_lowercase n → up ≡ to_ascii_uppercase n → IsFirstByte (is_byte2 low up) text r
    → IsFirstByte (is_byte2 (to_ascii_lowercase n) (to_ascii_uppercase n)) text r
first_in_case n low up text r a b h =
    subst (λ (x : ℕ). IsFirstByte (is_byte2 x (to_ascii_uppercase n)) text r) a (subst (λ (y : ℕ). IsFirstByte (is_byte2 low y) text r) b h)

pub empty_contained : (needle text : List ℕ) → length needle ≡ 0 → contains needle text ≡ true
empty_contained [] [] e = refl
empty_contained [] (x ∷ xs) e = refl
empty_contained (n ∷ ns) text e = absurd (omega (arith, e))
