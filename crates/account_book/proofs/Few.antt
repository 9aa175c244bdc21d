-- Blobs within the limits: the first of them are so too.
use Rattle.std.proofs.Common.{◌≡◌, ℕ, ◌+◌, List, ◌++◌, [], ◌∷◌, length, ap₂, ◌∙◌, subst, sym, arith, length-append, append_assoc}
use Rattle.std.proofs.lemmas.List.Sums.{sum-map, sum_by-append}
use Rattle.blob_store.specs.Blobs.{AreBlobsFew, byte_count}

pub AreBlobsFew-front : (xs ys : List (List ℕ)) → AreBlobsFew (xs ++ ys) → AreBlobsFew xs
AreBlobsFew-front xs ys few =
    let count = length-append xs ys in
    let bytes : byte_count (xs ++ ys) ≡ byte_count xs + byte_count ys = sum-map length (xs ++ ys) ∙ (sum_by-append length xs ys ∙ sym (ap₂ (λ a b. a + b) (sum-map length xs) (sum-map length ys))) in
    let most = few.count in
    let weight = few.bytes in
    record { count = omega (arith, count, most); bytes = omega (arith, bytes, weight) }

pub few_with_one : (xs : List (List ℕ)) (x : List ℕ) (ys all : List (List ℕ)) → xs ++ x ∷ ys ≡ all → AreBlobsFew all → AreBlobsFew (xs ++ x ∷ [])
few_with_one xs x ys all is few =
    AreBlobsFew-front (xs ++ x ∷ []) ys (subst AreBlobsFew (sym (append_assoc xs (x ∷ []) ys ∙ is)) few)
