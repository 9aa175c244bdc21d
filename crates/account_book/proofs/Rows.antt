-- Rows that encode commits: one more at the end, one way to read them, and one row after the other.
use Rattle.std.proofs.Common.{◌≡◌, ℕ, zero, suc, List, [], ◌∷◌, ◌++◌, take, drop, slice_get, Some, refl, ap, ap₂}
use Rattle.mail_records.specs.declared.edits.Commit.{Commit}
use Rattle.record_codec.specs.Offsets.{IsEncodingOf}
use Rattle.record_codec.proofs.Again.{one_commit}
use Rattle.account_book.specs.Keeping.{AreEncodings}

pub AreEncodings-push : (rows : List (List ℕ)) (cs : List Commit) (row : List ℕ) (c : Commit) → AreEncodings rows cs → IsEncodingOf row c → AreEncodings (rows ++ row ∷ []) (cs ++ c ∷ [])
AreEncodings-push [] [] row c all one = (one, tt)
AreEncodings-push [] (d ∷ ds) row c all one = absurd all
AreEncodings-push (r ∷ rs) [] row c all one = absurd all
AreEncodings-push (r ∷ rs) (d ∷ ds) row c all one = (all.0, AreEncodings-push rs ds row c all.1 one)

-- rows encode one list of commits at most
pub AreEncodings-once : (rows : List (List ℕ)) (a b : List Commit) → AreEncodings rows a → AreEncodings rows b → a ≡ b
AreEncodings-once [] [] [] x y = refl
AreEncodings-once [] [] (d ∷ ds) x y = absurd y
AreEncodings-once [] (c ∷ cs) b x y = absurd x
AreEncodings-once (r ∷ rs) [] b x y = absurd x
AreEncodings-once (r ∷ rs) (c ∷ cs) [] x y = absurd y
AreEncodings-once (r ∷ rs) (c ∷ cs) (d ∷ ds) x y = ap₂ (λ (z : Commit) (zs : List Commit). z ∷ zs) (one_commit r c d x.0 y.0) (AreEncodings-once rs cs ds x.1 y.1)

-- the rest of a list from an index on, item by item
pub rest_taken : {A : Type 0} (i : ℕ) (xs : List A) (y : A) (ys : List A) → drop i xs ≡ y ∷ ys → take (suc i) xs ≡ take i xs ++ y ∷ []
rest_taken zero [] y ys e = absurd (cc)
rest_taken zero (x ∷ xs) y ys e = let same : x ≡ y = cc in ap (λ z. z ∷ []) same
rest_taken (suc i) [] y ys e = absurd (cc)
rest_taken (suc i) (x ∷ xs) y ys e = ap (λ zs. x ∷ zs) (rest_taken i xs y ys e)

pub rest_dropped : {A : Type 0} (i : ℕ) (xs : List A) (y : A) (ys : List A) → drop i xs ≡ y ∷ ys → drop (suc i) xs ≡ ys
rest_dropped zero [] y ys e = absurd (cc)
rest_dropped zero (x ∷ xs) y ys e = cc
rest_dropped (suc i) [] y ys e = absurd (cc)
rest_dropped (suc i) (x ∷ xs) y ys e = rest_dropped i xs y ys e

pub rest_there : {A : Type 0} (i : ℕ) (xs : List A) (y : A) (ys : List A) → drop i xs ≡ y ∷ ys → slice_get xs i ≡ Some y
rest_there zero [] y ys e = absurd (cc)
rest_there zero (x ∷ xs) y ys e = let same : x ≡ y = cc in ap Some same
rest_there (suc i) [] y ys e = absurd (cc)
rest_there (suc i) (x ∷ xs) y ys e = rest_there i xs y ys e
