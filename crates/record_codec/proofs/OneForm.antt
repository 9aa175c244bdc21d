-- Encodings from which the value and what follows are known: no encoding begins another.
use Rattle.std.proofs.Common.{◌≡◌, ℕ, Bool, true, false, List, [], ◌∷◌, ◌++◌, length, take, drop, Option, Some, None, refl, sym, ap, ap₂, ◌∙◌, append_assoc, arith}
use Rattle.std.specs.Int.{w64, from_be_bytes}
use Rattle.std.specs.List.{flat_map, AllByRecursion}
use Rattle.std.specs.Option.{ForSome}
use Rattle.std.proofs.lemmas.List.{take_at, drop_at}
use Rattle.std.proofs.lemmas.List.Concat.{flat_map-cons}
use Rattle.std.proofs.lemmas.Nat.{from_be_bytes-to_be_bytes_8}
use Rattle.record_codec.specs.Encoding.{number, blob, listed, truth, optional}
use Rattle.record_codec.specs.Widths.{FitsIn64Bits, LengthFitsIn64Bits, AreAll}

-- what two encodings with something after each of them are equal in
abbrev pub OneForm : {A : Type 0} → (A → Type 0) → (A → List ℕ) → Type 0
OneForm {A} P encode = (a b : A) (x y : List ℕ) → P a → P b → encode a ++ x ≡ encode b ++ y → (a ≡ b) × (x ≡ y)

-- a first field
pub first : {A : Type 0} (P : A → Type 0) (encode : A → List ℕ) → OneForm P encode → (a b : A) (r s x y : List ℕ) → P a → P b → (encode a ++ r) ++ x ≡ (encode b ++ s) ++ y → (a ≡ b) × (r ++ x ≡ s ++ y)
first P encode one a b r s x y p q e = one a b (r ++ x) (s ++ y) p q (sym (append_assoc (encode a) r x) ∙ e ∙ append_assoc (encode b) s y)

pub front : {A : Type 0} (a b x y : List A) → length a ≡ length b → a ++ x ≡ b ++ y → (a ≡ b) × (x ≡ y)
front a b x y h e =
    (sym (take_at a x (length a) refl) ∙ ap (take (length a)) e ∙ take_at b y (length a) (sym h), sym (drop_at a x (length a) refl) ∙ ap (drop (length a)) e ∙ drop_at b y (length a) (sym h))

pub number_one : OneForm FitsIn64Bits number
unfolding number
number_one a b x y p q e =
    let f = front (number a) (number b) x y refl e in
    (sym (from_be_bytes-to_be_bytes_8 a p) ∙ ap (from_be_bytes w64) f.0 ∙ from_be_bytes-to_be_bytes_8 b q, f.1)

pub blob_one : OneForm LengthFitsIn64Bits blob
blob_one a b x y p q e =
    let n = first FitsIn64Bits number number_one (length a) (length b) a b x y p q e in
    front a b x y n.0 n.1

pub truth_one : (a b : Bool) (x y : List ℕ) → truth a ++ x ≡ truth b ++ y → (a ≡ b) × (x ≡ y)
truth_one true true x y e = (refl, cc)
truth_one true false x y e = absurd cc
truth_one false true x y e = absurd cc
truth_one false false x y e = (refl, cc)

pub optional_one : {A : Type 0} (P : A → Type 0) (encode : A → List ℕ) → OneForm P encode → OneForm (λ (o : Option A). ForSome o P) (optional encode)
optional_one P encode one None None x y p q e = (refl, cc)
optional_one P encode one None (Some b) x y p q e = absurd cc
optional_one P encode one (Some a) None x y p q e = absurd cc
optional_one P encode one (Some a) (Some b) x y p q e =
    let r = one a b x y (p a refl) (q b refl) cc in
    (ap Some r.0, r.1)

pub items_one : {A : Type 0} (P : A → Type 0) (encode : A → List ℕ) → OneForm P encode → (us bs : List A) (x y : List ℕ) → length us ≡ length bs → AllByRecursion P us → AllByRecursion P bs → flat_map encode us ++ x ≡ flat_map encode bs ++ y → (us ≡ bs) × (x ≡ y)
items_one P encode one [] [] x y h p q e = (refl, e)
items_one P encode one [] (b ∷ bs) x y h p q e = absurd (omega (arith, h))
items_one P encode one (a ∷ us) [] x y h p q e = absurd (omega (arith, h))
items_one P encode one (a ∷ us) (b ∷ bs) x y h p q e =
    let whole : (encode a ++ flat_map encode us) ++ x ≡ (encode b ++ flat_map encode bs) ++ y = rw (← flat_map-cons encode a us, ← flat_map-cons encode b bs) e in
    let f = first P encode one a b (flat_map encode us) (flat_map encode bs) x y p.0 q.0 whole in
    let r = items_one P encode one us bs x y (omega (arith, h)) p.1 q.1 f.1 in
    (ap₂ (λ (z : _) (zs : List _). z ∷ zs) f.0 r.0, r.1)

pub listed_one : {A : Type 0} (P : A → Type 0) (encode : A → List ℕ) → OneForm P encode → OneForm (AreAll P) (listed encode)
listed_one P encode one us bs x y p q e =
    let n = first FitsIn64Bits number number_one (length us) (length bs) (flat_map encode us) (flat_map encode bs) x y p.0 q.0 e in
    items_one P encode one us bs x y n.0 p.1 q.1 n.1
