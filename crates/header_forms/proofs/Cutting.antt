-- Characters that are read from the beginning, to the first sign among them.
use Rattle.std.proofs.Common.{◌≡◌, ℕ, zero, suc, ◌+◌, ◌-◌, ◌<◌, ◌≤◌, Bool, List, [], ◌∷◌, length, get_or, take, drop, Some, None, refl, sym, ap, ◌∙◌, arith, length-drop}
use Rattle.std.proofs.lemmas.List.{take_all}
use Rattle.header_forms.specs.declared.address_characters.AddressCharacter.{AddressCharacter}
use Rattle.header_forms.specs.declared.address_characters.Sign.{Sign}
use Rattle.header_forms.specs.Groups.{Slices, last, slice, onto, sliced, sign_of, is_open_after, slices_from}

-- with some characters before the first piece
abbrev pub onto_all : List AddressCharacter → Slices → Slices
onto_all [] s = s
onto_all (m ∷ ms) s = onto m (onto_all ms s)

passed : (ms : List AddressCharacter) (open' : Bool) (i : ℕ) (d : AddressCharacter) → i < length ms → sign_of open' (get_or ms i d) ≡ None
    → onto_all (take i ms) (slices_from (drop i ms) open') ≡ onto_all (take (suc i) ms) (slices_from (drop (suc i) ms) open')
passed [] open' i d within none = absurd (omega arith)
passed (m ∷ ms) open' zero d within none = ap (λ s. sliced s m open' (slices_from ms)) none
passed (m ∷ ms) open' (suc i) d within none = ap (onto m) (passed ms open' i d (omega arith) none)

found : (ms : List AddressCharacter) (open' : Bool) (i : ℕ) (d : AddressCharacter) (sign : Sign) → i < length ms → sign_of open' (get_or ms i d) ≡ Some sign
    → onto_all (take i ms) (slices_from (drop i ms) open') ≡ slice (take i ms) sign (slices_from (drop (suc i) ms) (is_open_after open' sign))
found [] open' i d sign within is = absurd (omega arith)
found (m ∷ ms) open' zero d sign within is = ap (λ s. sliced s m open' (slices_from ms)) is
found (m ∷ ms) open' (suc i) d sign within is = ap (onto m) (found ms open' i d sign (omega arith) is)

whole : (ms : List AddressCharacter) (open' : Bool) (i : ℕ) → length ms ≤ i → onto_all (take i ms) (slices_from (drop i ms) open') ≡ last ms
whole [] open' zero all = refl
whole [] open' (suc i) all = refl
whole (m ∷ ms) open' zero all = absurd (omega arith)
whole (m ∷ ms) open' (suc i) all = ap (onto m) (whole ms open' i (omega arith))

-- a turn of the loop that looks for a sign, where one is found, where none is, and at the end
pub first_piece : (ms : List AddressCharacter) (open' : Bool) (i : ℕ) (d : AddressCharacter) (sign : Sign) → i < length ms → sign_of open' (get_or ms i d) ≡ Some sign
    → onto_all (take i ms) (slices_from (drop i ms) open') ≡ slices_from ms open'
    → slices_from ms open' ≡ slice (take i ms) sign (slices_from (take (length ms - (i + 1)) (drop (i + 1) ms)) (is_open_after open' sign))
first_piece ms open' i d sign within is same =
    let one : i + 1 ≡ suc i = omega arith in
    let rest : take (length ms - suc i) (drop (suc i) ms) ≡ drop (suc i) ms = take_all (length ms - suc i) (drop (suc i) ms) (omega (arith, length-drop (suc i) ms)) in
    rw (one, rest) (sym same ∙ found ms open' i d sign within is)

pub no_piece_yet : (ms : List AddressCharacter) (open' : Bool) (i : ℕ) (d : AddressCharacter) → i < length ms → sign_of open' (get_or ms i d) ≡ None
    → onto_all (take i ms) (slices_from (drop i ms) open') ≡ slices_from ms open'
    → onto_all (take (i + 1) ms) (slices_from (drop (i + 1) ms) open') ≡ slices_from ms open'
no_piece_yet ms open' i d within none same = let one : i + 1 ≡ suc i = omega arith in rw one (sym (passed ms open' i d within none) ∙ same)

pub last_piece : (ms : List AddressCharacter) (open' : Bool) (i : ℕ) → length ms ≤ i → onto_all (take i ms) (slices_from (drop i ms) open') ≡ slices_from ms open'
    → slices_from ms open' ≡ last ms
last_piece ms open' i all same = sym same ∙ whole ms open' i all
