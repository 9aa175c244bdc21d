-- A record by its identifier, and by its number.
use Rattle.std.proofs.Common.{◌≡◌, ℕ, ◌<◌, ◌≤◌, List, true, Decides, refl, arith, sym, subst}
use Rattle.std.specs.Prelude.{nat_le, ◌==◌}
use Rattle.std.proofs.lemmas.Fmt.{decimal_injective}
use Rattle.std.proofs.lemmas.Bool.Decides.{same_from_decides, Decides-like, Decides-and, Decides-eqb, Decides-ltb, nat_tests}
use Rattle.std.proofs.lemmas.Slice.Eq.{bytes_eq-Decides}
use Rattle.jm_base.specs.Ids.{id_text}
use Rattle.jm_base.specs.declared.identifiers.Kind.{Kind}
use Rattle.jm_base.specs.declared.identifiers.TheConstants.{NUMBER_LIMIT}
use Rattle.set_parts.specs.CreationIds.{is_id}

abbrev pub text_of : Kind → ℕ → List ℕ
text_of kind n = id_text (record { kind = kind; number = n })

abbrev pub IsIdText : Kind → List ℕ → ℕ → Type 0
IsIdText kind s a = ((1 ≤ a) × (a < NUMBER_LIMIT)) × (text_of kind a ≡ s)

decides_from_one : (a : ℕ) → Decides (nat_le 1 a) (1 ≤ a)
decides_from_one a = (λ e. grind (arith, nat_tests), λ h. grind (arith, nat_tests))

pub decides_id : (kind : Kind) (s : List ℕ) (a : ℕ) → Decides (is_id kind s a) (IsIdText kind s a)
decides_id kind s a = Decides-and _ _ (Decides-and _ _ (decides_from_one a) (Decides-ltb a NUMBER_LIMIT)) (bytes_eq-Decides (text_of kind a) s)

one_number : (kind : Kind) (n a : ℕ) → n < NUMBER_LIMIT → IsIdText kind (text_of kind n) a → a ≡ n
one_number kind n a below w = decimal_injective a n (omega (arith, w.0.1)) (omega (arith, below)) (let same = w.1 in cc)

is_text_of : (kind : Kind) (n a : ℕ) → 1 ≤ n → n < NUMBER_LIMIT → a ≡ n → IsIdText kind (text_of kind n) a
is_text_of kind n a one below e = subst (IsIdText kind (text_of kind n)) (sym e) ((one, below), refl)

same_test : (kind : Kind) (n a : ℕ) → 1 ≤ n → n < NUMBER_LIMIT → is_id kind (text_of kind n) a ≡ (a == n)
same_test kind n a one below =
    same_from_decides _ _ (Decides-like _ (one_number kind n a below) (is_text_of kind n a one below) (decides_id kind (text_of kind n) a)) (Decides-eqb a n)

-- the identifier of a number is that of no other
pub is_id_by_number : (kind : Kind) (s : List ℕ) (n a : ℕ) → is_id kind s n ≡ true → is_id kind s a ≡ (a == n)
is_id_by_number kind s n a is =
    let w = (decides_id kind s n).0 is in
    subst (λ (t : List ℕ). is_id kind t a ≡ (a == n)) w.1 (same_test kind n a w.0.0 w.0.1)
