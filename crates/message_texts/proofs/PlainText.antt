-- A value of plain bytes is its own Text form, but for the spaces at its beginning.
use Rattle.std.proofs.Common.{◌≡◌, ◌≢◌, ℕ, zero, suc, ◌+◌, ◌<◌, ◌≤◌, true, false, eqb, List, [], ◌∷◌, ◌++◌, get_or, length, drop, filter, refl, sym, ap, ◌∙◌, subst, arith, eq-eqb}
use Rattle.std.specs.Prelude.{◌&&◌, nat_le, not}
use Rattle.std.specs.List.{list_all, prefix_len}
use Rattle.std.specs.Str.{IsAscii, chars, encode_utf8_all}
use Rattle.std.specs.Str.Lossy.{utf8_lossy}
use Rattle.std.proofs.lemmas.Bool.{and_parts, leb-true, ne_eqb, true≢false}
use Rattle.std.proofs.lemmas.List.Sums.{AllPass-from_list_all}
use Rattle.std.proofs.lemmas.Str.{IsUtf8-from_ascii, chars-IsAscii, encodes-IsAscii, utf8_lossy-IsUtf8}
use Rattle.std.proofs.lemmas.Str.Ascii.{IsAscii-from_all}
use Rattle.mime_lines.specs.Lines.{unfolded}
use Rattle.mime_words.specs.Words.{decoded_words}
use Rattle.mime_words.proofs.Cuts.{text_stays}
use Rattle.header_forms.specs.Texts.{is_space, is_zero, on_one_line, raw_text, text_form, without, without_spaces}
use Rattle.header_forms.proofs.Folds.{last_unfolded, no_space}
use Rattle.message_texts.specs.Plain.{is_plain}

parts : (b : ℕ) → is_plain b ≡ true → (32 ≤ b) × (b ≤ 126) × (b ≢ 61)
parts b h =
    let one = and_parts (nat_le 32 b && nat_le b 126) (not (eqb b 61)) h in
    let two = and_parts (nat_le 32 b) (nat_le b 126) one.0 in
    (leb-true 32 b two.0, leb-true b 126 two.1, λ e. true≢false (sym one.1 ∙ ap not (eq-eqb b 61 e)))

all_kept : (xs : List ℕ) → list_all is_plain xs ≡ true → filter (λ c. not (is_zero c)) xs ≡ xs
all_kept [] all = refl
all_kept (x ∷ xs) all =
    let both = and_parts (is_plain x) (list_all is_plain xs) all in
    let b = parts x both.0 in
    let other : eqb x 0 ≡ false = ne_eqb x 0 (λ e. omega (arith, b.0, e)) in
    rw other (ap (λ zs. x ∷ zs) (all_kept xs both.1))

-- no = is in it
no_sign : (front rest : List ℕ) → list_all is_plain (front ++ 61 ∷ rest) ≡ true → ⊥
no_sign [] rest all = true≢false (sym all)
no_sign (x ∷ xs) rest all = no_sign xs rest (and_parts (is_plain x) (list_all is_plain (xs ++ 61 ∷ rest)) all).1

all_after : (n : ℕ) (xs : List ℕ) → list_all is_plain xs ≡ true → list_all is_plain (drop n xs) ≡ true
all_after zero xs all = all
all_after (suc n) [] all = all
all_after (suc n) (x ∷ xs) all = all_after n xs (and_parts (is_plain x) (list_all is_plain xs) all).1

pub plain_stays : (value : List ℕ) → list_all is_plain value ≡ true → without_spaces value ≡ text_form value
plain_stays value all =
    let pass : (k : ℕ) (d : ℕ) → k < length value → is_plain (get_or value k d) ≡ true = AllPass-from_list_all is_plain value all in
    let ascii : IsAscii value = IsAscii-from_all value (λ k d lt. let b = parts (get_or value k d) (pass k d lt) in omega (arith, b.1)) in
    let lossy : utf8_lossy value ≡ value = utf8_lossy-IsUtf8 value (IsUtf8-from_ascii value ascii) in
    let raw : raw_text value ≡ value =
    ap (without is_zero) lossy
    ∙ (ap (λ cs. encode_utf8_all (filter (λ c. not (is_zero c)) cs)) (chars-IsAscii value ascii) ∙ (ap encode_utf8_all (all_kept value all) ∙ encodes-IsAscii value ascii)) in
    let line : on_one_line value ≡ value =
    ap unfolded raw ∙ last_unfolded value (λ k lt e. let b = parts (get_or value k 0) (pass k 0 lt) in absurd (omega (arith, b.0, e))) in
    let start : list_all is_plain (without_spaces value) ≡ true = all_after (prefix_len is_space value) value all in
    sym (ap (λ v. decoded_words (without_spaces v)) line
    ∙ text_stays (without_spaces value) (λ front rest e. no_sign front (63 ∷ rest) (subst (λ t. list_all is_plain t ≡ true) e start)))

-- ---- spaces at the beginning

pub one_space : (rest after : List ℕ) → rest ≡ 32 ∷ after → without_spaces rest ≡ without_spaces after
one_space rest after e = ap without_spaces e ∙ past_one after
  where
    past_one : (xs : List ℕ) → without_spaces (32 ∷ xs) ≡ without_spaces xs
    past_one xs =
        let p = prefix_len is_space xs in
        let e : suc p ≡ 1 + p = omega arith in subst (λ n. drop n (32 ∷ xs) ≡ drop p xs) e refl

pub none_there : (rest : List ℕ) (b : ℕ) (after : List ℕ) → rest ≡ b ∷ after → b ≢ 32 → without_spaces rest ≡ rest
none_there rest b after e other = no_space rest (λ more is. other (head_of b 32 after more (sym e ∙ is)))
  where
    head_of : (a c : ℕ) (xs ys : List ℕ) → a ∷ xs ≡ c ∷ ys → a ≡ c
    head_of a c xs ys e = ap (λ zs. get_or zs 0 0) e
