-- Room for one more blob, after those of the account and those that creates brought.
use Rattle.std.proofs.Common.{◌≡◌, ◌↔◌, ℕ, ◌+◌, ◌≤◌, Bool, true, false, not, ◌&&◌, nat_lt, nat_le, List, [], ◌∷◌, ◌++◌, length, IsTrue, refl, sym, ap, ap₂, ◌∙◌, arith, ltb-true, leb-true, length-append}
use Rattle.std.proofs.lemmas.Bool.{and_parts, false≢true, leb-false}
use Rattle.std.proofs.lemmas.List.Sums.{sum-map, sum_by-append}
use Rattle.blob_store.specs.declared.limits.TheConstants.{MAX_BLOB_BYTES_PER_ACCOUNT, MAX_BLOBS_PER_ACCOUNT}
use Rattle.blob_store.specs.Blobs.{AreBlobsFew, HasRoomFor, byte_count, has_room}

pub count-append : (xs ys : List (List ℕ)) → byte_count (xs ++ ys) ≡ byte_count xs + byte_count ys
count-append xs ys =
    sum-map length (xs ++ ys)
    ∙ (sum_by-append length xs ys
    ∙ sym (ap₂ (λ a b. a + b) (sum-map length xs) (sum-map length ys)))

pub count-push : (xs : List (List ℕ)) (b : List ℕ) → byte_count (xs ++ b ∷ []) ≡ byte_count xs + length b
count-push xs b = let all = count-append xs (b ∷ []) in omega (arith, all)

pub room_is : (full : Bool) (bytes size count : ℕ) (blobs brought : List (List ℕ)) → (IsTrue full ↔ ¬ (HasRoomFor (bytes + size) blobs)) → bytes ≡ byte_count brought → count ≡ length blobs + length brought
    → (nat_lt count MAX_BLOBS_PER_ACCOUNT && not full) ≡ has_room size (blobs ++ brought)
room_is full bytes size count blobs brought told counted is =
    by_tests full (nat_lt count MAX_BLOBS_PER_ACCOUNT) (nat_le total MAX_BLOB_BYTES_PER_ACCOUNT) refl refl told
    ∙ ap (λ n. nat_lt n MAX_BLOBS_PER_ACCOUNT && nat_le total MAX_BLOB_BYTES_PER_ACCOUNT) (is ∙ sym (length-append blobs brought))
  where
    total : ℕ
    total = byte_count (blobs ++ brought) + size

    some_room : nat_lt count MAX_BLOBS_PER_ACCOUNT ≡ true → nat_le total MAX_BLOB_BYTES_PER_ACCOUNT ≡ true → HasRoomFor (bytes + size) blobs
    some_room p q =
        let less = ltb-true count MAX_BLOBS_PER_ACCOUNT p in
        let most = leb-true total MAX_BLOB_BYTES_PER_ACCOUNT q in
        let all = count-append blobs brought in
        record { count = omega (arith, less, is); bytes = omega (arith, most, all, counted) }

    big : nat_le total MAX_BLOB_BYTES_PER_ACCOUNT ≡ false → HasRoomFor (bytes + size) blobs → ⊥
    big q room =
        let past = leb-false total MAX_BLOB_BYTES_PER_ACCOUNT q in
        let all = count-append blobs brought in
        let bytes = room.bytes in omega (arith, past, all, counted, bytes)

    by_tests : (f a b : Bool) → nat_lt count MAX_BLOBS_PER_ACCOUNT ≡ a → nat_le total MAX_BLOB_BYTES_PER_ACCOUNT ≡ b → (IsTrue f ↔ ¬ (HasRoomFor (bytes + size) blobs)) → (a && not f) ≡ (a && b)
    by_tests f false b p q told = refl
    by_tests true true true p q told = absurd (told.0 refl (some_room p q))
    by_tests true true false p q told = refl
    by_tests false true true p q told = refl
    by_tests false true false p q told = absurd (false≢true (told.1 (big q)))

-- ---- a blob for which there is room

pub bytes_left : (bytes size : ℕ) (blobs brought : List (List ℕ)) → bytes ≡ byte_count brought → has_room size (blobs ++ brought) ≡ true → bytes + size ≤ MAX_BLOB_BYTES_PER_ACCOUNT
bytes_left bytes size blobs brought counted room =
    let total = byte_count (blobs ++ brought) + size in
    let parts = and_parts (nat_lt (length (blobs ++ brought)) MAX_BLOBS_PER_ACCOUNT) (nat_le total MAX_BLOB_BYTES_PER_ACCOUNT) room in
    let most = leb-true total MAX_BLOB_BYTES_PER_ACCOUNT parts.1 in
    let all = count-append blobs brought in omega (arith, most, all, counted)

pub few_with : (blobs : List (List ℕ)) (b : List ℕ) → has_room (length b) blobs ≡ true → AreBlobsFew (blobs ++ b ∷ [])
few_with blobs b room =
    let total = byte_count blobs + length b in
    let parts = and_parts (nat_lt (length blobs) MAX_BLOBS_PER_ACCOUNT) (nat_le total MAX_BLOB_BYTES_PER_ACCOUNT) room in
    let less = ltb-true (length blobs) MAX_BLOBS_PER_ACCOUNT parts.0 in
    let most = leb-true total MAX_BLOB_BYTES_PER_ACCOUNT parts.1 in
    let count = length-append blobs (b ∷ []) in
    let all = count-push blobs b in record { count = omega (arith, count, less); bytes = omega (arith, all, most) }
