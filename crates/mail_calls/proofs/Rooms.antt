-- Room for one more blob, and the bytes that an identifier names.
use Rattle.std.proofs.Common.{◌≡◌, ◌↔◌, ℕ, ◌+◌, ◌<◌, ◌≤◌, Bool, true, false, not, ◌&&◌, nat_lt, nat_le, List, length, IsTrue, refl, ap, ap₂, ◌∙◌, arith, ltb-true, leb-true}
use Rattle.std.proofs.lemmas.Bool.{false≢true, ltb-false, leb-false}
use Rattle.mail_records.specs.Histories.{History, blobs_of}
use Rattle.blob_store.specs.declared.limits.TheConstants.{MAX_BLOB_BYTES_PER_ACCOUNT, MAX_BLOBS_PER_ACCOUNT}
use Rattle.blob_store.specs.Blobs.{HasRoomFor, byte_count, has_room}
use Rattle.mail_view.specs.NamedBytes.{bytes_named}
use Rattle.mail_calls.specs.BlobPlans.{upload_if, upload_plan}

-- what a list of blobs says of its room
pub room_is : (full : Bool) (size : ℕ) (blobs : List (List ℕ)) → (IsTrue full ↔ ¬ (HasRoomFor size blobs)) → not full ≡ has_room size blobs
room_is full size blobs told = by_tests full (nat_lt (length blobs) MAX_BLOBS_PER_ACCOUNT) (nat_le (byte_count blobs + size) MAX_BLOB_BYTES_PER_ACCOUNT) refl refl told
  where
    some_room : nat_lt (length blobs) MAX_BLOBS_PER_ACCOUNT ≡ true → nat_le (byte_count blobs + size) MAX_BLOB_BYTES_PER_ACCOUNT ≡ true → HasRoomFor size blobs
    some_room p q =
        let less = ltb-true (length blobs) MAX_BLOBS_PER_ACCOUNT p in
        let most = leb-true (byte_count blobs + size) MAX_BLOB_BYTES_PER_ACCOUNT q in
        record { count = omega arith; bytes = omega arith }

    many : nat_lt (length blobs) MAX_BLOBS_PER_ACCOUNT ≡ false → HasRoomFor size blobs → ⊥
    many p room = let past = ltb-false (length blobs) MAX_BLOBS_PER_ACCOUNT p in let count = room.count in omega arith

    big : nat_le (byte_count blobs + size) MAX_BLOB_BYTES_PER_ACCOUNT ≡ false → HasRoomFor size blobs → ⊥
    big q room = let past = leb-false (byte_count blobs + size) MAX_BLOB_BYTES_PER_ACCOUNT q in let bytes = room.bytes in omega arith

    by_tests : (f a b : Bool) → nat_lt (length blobs) MAX_BLOBS_PER_ACCOUNT ≡ a → nat_le (byte_count blobs + size) MAX_BLOB_BYTES_PER_ACCOUNT ≡ b → (IsTrue f ↔ ¬ (HasRoomFor size blobs)) → not f ≡ (a && b)
    by_tests true true true p q told = absurd (told.0 refl (some_room p q))
    by_tests true true false p q told = refl
    by_tests true false b p q told = refl
    by_tests false true true p q told = refl
    by_tests false true false p q told = absurd (false≢true (told.1 (big q)))
    by_tests false false b p q told = absurd (false≢true (told.1 (many p)))

-- the plan of an upload over the blobs of an account
pub upload_is : (h : History) (bytes : List ℕ) (blobs : List (List ℕ)) (size number : ℕ) (room : Bool) → room ≡ has_room size blobs → size ≡ length bytes → number ≡ length blobs + 1 → blobs ≡ blobs_of h → upload_if room number bytes ≡ upload_plan h bytes
upload_is h bytes blobs size number room told sized numbered are =
    ap₂ (λ (b : Bool) (n : ℕ). upload_if b n bytes) (told ∙ ap₂ has_room sized are) (numbered ∙ ap (λ (bs : List (List ℕ)). length bs + 1) are)

-- the bytes that a text names among the blobs of an account
pub bytes_are : (h : History) (blobs : List (List ℕ)) (name : List ℕ) → blobs ≡ blobs_of h → bytes_named blobs name ≡ bytes_named (blobs_of h) name
bytes_are h blobs name are = ap (λ (bs : List (List ℕ)). bytes_named bs name) are
