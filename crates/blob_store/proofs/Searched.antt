-- The texts of the first blobs: what one more text and one more blob change.
use Rattle.std.proofs.Common.{◌≡◌, ℕ, ◌<◌, List, [], ◌∷◌, ◌++◌, Option, length, get_or, sym, subst, arith}
use Rattle.blob_store.specs.Authors.{AreSearched, IsSearched}

-- the text of the next blob
pub one_text_more : (ts : List (Option (List ℕ))) (t : Option (List ℕ)) (bs : List (List ℕ)) (b : List ℕ) → AreSearched ts bs → length ts < length bs → b ≡ get_or bs (length ts) b → IsSearched b t
    → AreSearched (ts ++ t ∷ []) bs
one_text_more [] t [] b all lt is one = absurd (omega arith)
one_text_more [] t (x ∷ bs) b all lt is one = (subst (λ y. IsSearched y t) is one, tt)
one_text_more (o ∷ ts) t [] b all lt is one = absurd all
one_text_more (o ∷ ts) t (x ∷ bs) b all lt is one = (all.0, one_text_more ts t bs b all.1 (omega arith) is one)

-- as `one_text_more`, by what the calls of a step of the loop say
pub next_text : (old new : List (Option (List ℕ))) (next read : Option (List ℕ)) (bs : List (List ℕ)) (b seen : List ℕ) (m n : ℕ) → AreSearched old bs → m ≡ length old → m < length bs → n ≡ length old
    → b ≡ get_or bs n b → seen ≡ b → IsSearched seen read → next ≡ read → new ≡ old ++ next ∷ [] → AreSearched new bs
next_text old new next read bs b seen m n all count lt index is whole one kept pushed =
    let here : b ≡ get_or bs (length old) b = subst (λ k. b ≡ get_or bs k b) index is in
    let mine : IsSearched b next = subst (λ o. IsSearched b o) (sym kept) (subst (λ bytes. IsSearched bytes read) whole one) in
    subst (λ (ts : List (Option (List ℕ))). AreSearched ts bs) (sym pushed) (one_text_more old next bs b all (omega arith) here mine)

-- blobs that have no text yet
pub more_blobs : (ts : List (Option (List ℕ))) (bs more : List (List ℕ)) → AreSearched ts bs → AreSearched ts (bs ++ more)
more_blobs [] bs more all = tt
more_blobs (o ∷ ts) [] more all = absurd all
more_blobs (o ∷ ts) (b ∷ bs) more all = (all.0, more_blobs ts bs more all.1)
