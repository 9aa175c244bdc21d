-- What is read of an identifier's text.
use Rattle.std.proofs.Common.{◌≡◌, ◌≢◌, ℕ, suc, get_or, ap₂, ◌<◌, ◌^◌, ◌==◌, ◌&&◌, Bool, true, false, cond, nat_lt, bytes_eq, List, [], ◌∷◌, ◌++◌, length, Option, Some, None, refl, sym, ap, ◌∙◌, arith, append-nil}
use Rattle.std.specs.List.{AllByRecursion}
use Rattle.std.specs.Option.{ForSome}
use Rattle.std.specs.Fmt.{decimal}
use Rattle.std.specs.Str.Parse.{AllDigits, digits_value}
use Rattle.std.specs.Int.{IsInRange}
use Rattle.std.proofs.lemmas.Bool.{lt-ltb, ltb-true, ne_eqb, true≢false}
use Rattle.std.proofs.lemmas.Fmt.{digits_value-decimal, digits_decimal}
use Rattle.std.proofs.lemmas.Str.Parse.{IsNumeralModel, numerals_by_value, tells_digits, not_in_digits}
use Rattle.std.proofs.lemmas.Slice.Eq.{bytes_eq-Decides}
use Rattle.jm_base.specs.declared.identifiers.TheConstants.{NUMBER_LIMIT}
use Rattle.blob_ids.specs.BlobIds.{IsBlobId, blob_id_in, blob_id_text, numbers_in, number_in, number_if, before_dash, after_dash, id_with, leaf_with, blob_with, leaf_text}
use Rattle.blob_ids.specs.declared.ids.BlobId.{BlobId}

own : IsNumeralModel (AllDigits 10) (digits_value 10)
own = numerals_by_value (AllDigits 10) tells_digits

-- a decimal is read as its number
pub decimal_read : (text : List ℕ) (n : ℕ) → n < NUMBER_LIMIT → text ≡ decimal n → number_in text ≡ Some n
decimal_read text n low is =
    let lt : n < 2 ^ 64 = omega arith in
    let value : digits_value 10 text ≡ n = ap (digits_value 10) is ∙ digits_value-decimal own n lt in
    let test : nat_lt n NUMBER_LIMIT ≡ true = lt-ltb n NUMBER_LIMIT (omega arith) in
    let same : bytes_eq (decimal n) text ≡ true = (bytes_eq-Decides (decimal n) text).1 (sym is) in
    ap (λ (m : ℕ). number_if m text) value ∙ (rw (test, same) refl)

-- what is no decimal is not read
pub nothing_read : (text : List ℕ) → ((n : ℕ) → n < NUMBER_LIMIT → text ≡ decimal n → ⊥) → number_in text ≡ None
nothing_read text none = by_test (digits_value 10 text) _ refl
  where
    both : (a b : Bool) → (a && b) ≡ true → (a ≡ true) × (b ≡ true)
    both true b e = (refl, e)
    both false b e = absurd (true≢false (sym e))

    by_test : (n : ℕ) (b : Bool) → (nat_lt n NUMBER_LIMIT && bytes_eq (decimal n) text) ≡ b → cond b (Some n) None ≡ None
    by_test n false e = refl
    by_test n true e =
        let parts = both (nat_lt n NUMBER_LIMIT) (bytes_eq (decimal n) text) e in
        let low : n < NUMBER_LIMIT = ltb-true n NUMBER_LIMIT parts.0 in
        let same : decimal n ≡ text = (bytes_eq-Decides (decimal n) text).0 parts.1 in
        absurd (none n (omega arith) (sym same))

abbrev NoDash : List ℕ → Type 0
NoDash = AllByRecursion (λ (x : ℕ). (x == 45) ≡ false)

pub before_cut : (front rest : List ℕ) → NoDash front → before_dash (front ++ 45 ∷ rest) ≡ front
before_cut [] rest none = refl
before_cut (x ∷ front) rest none = rw (none.0, before_cut front rest none.1) refl

pub after_cut : (front rest : List ℕ) → NoDash front → after_dash (front ++ 45 ∷ rest) ≡ Some rest
after_cut [] rest none = refl
after_cut (x ∷ front) rest none = rw none.0 (after_cut front rest none.1)

pub before_none : (text : List ℕ) → NoDash text → before_dash text ≡ text
before_none [] none = refl
before_none (x ∷ text) none = rw (none.0, before_none text none.1) refl

pub after_none : (text : List ℕ) → NoDash text → after_dash text ≡ None
after_none [] none = refl
after_none (x ∷ text) none = rw none.0 (after_none text none.1)

-- ---- the numbers of an identifier

pub leaf_read : (text front rest : List ℕ) → text ≡ front ++ 45 ∷ rest → NoDash front → numbers_in text ≡ leaf_with (number_in front) (number_in rest)
leaf_read text front rest is none =
    ap numbers_in is ∙ ap (λ (o : Option (List ℕ)). id_with (before_dash (front ++ 45 ∷ rest)) o) (after_cut front rest none)
    ∙ ap (λ (bs : List ℕ). leaf_with (number_in bs) (number_in rest)) (before_cut front rest none)

pub blob_read : (text : List ℕ) → NoDash text → numbers_in text ≡ blob_with (number_in text)
blob_read text none =
    ap (λ (o : Option (List ℕ)). id_with (before_dash text) o) (after_none text none) ∙ ap (λ (bs : List ℕ). blob_with (number_in bs)) (before_none text none)

-- ---- what is written is read

dashless : (text : List ℕ) → ((i : ℕ) → i < length text → get_or text i 0 ≢ 45) → NoDash text
dashless [] none = tt
dashless (x ∷ text) none = (ne_eqb x 45 (none 0 (omega arith)), dashless text (λ i lt. none (suc i) (omega arith)))

no_digit : IsInRange 48 57 45 → ⊥
no_digit r = omega arith

decimal_dashless : (n : ℕ) → n < NUMBER_LIMIT → NoDash (decimal n)
decimal_dashless n low = dashless (decimal n) (not_in_digits own (decimal n) 45 (digits_decimal own n (omega arith)) no_digit)

pub read_back : (id : BlobId) → IsBlobId id → blob_id_in (blob_id_text id) ≡ Some id
read_back id is = by_leaf id.blob id.leaf is.blob is.leaf
  where
    by_leaf : (n : ℕ) (o : Option ℕ) → n < NUMBER_LIMIT → ForSome o (λ m. m < NUMBER_LIMIT) → numbers_in (decimal n ++ leaf_text o) ≡ Some (let i : BlobId = record { blob = n; leaf = o } in i)
    by_leaf n None low less =
        ap numbers_in (append-nil (decimal n)) ∙ blob_read (decimal n) (decimal_dashless n low) ∙ ap blob_with (decimal_read (decimal n) n low refl)
    by_leaf n (Some m) low less =
        leaf_read (decimal n ++ 45 ∷ decimal m) (decimal n) (decimal m) refl (decimal_dashless n low)
        ∙ ap₂ leaf_with (decimal_read (decimal n) n low refl) (decimal_read (decimal m) m (less m refl) refl)
