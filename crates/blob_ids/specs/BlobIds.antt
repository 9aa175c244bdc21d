-- The identifiers of blobs and of the leaves of messages (RFC 8620, 6; RFC 8621, 4.1.4: blobId; the
-- form is our own).
use Rattle.std.specs.Prelude.{◌≡◌, ℕ, ◌<◌, ◌==◌, nat_lt, ◌&&◌, List, [], ◌∷◌, ◌++◌, Option, Some, None, cond, bytes_eq}
use Rattle.std.specs.Option.{ForSome}
use Rattle.std.specs.Fmt.{decimal}
use Rattle.std.specs.Str.Parse.{digits_value}
use Rattle.jm_base.specs.declared.identifiers.TheConstants.{NUMBER_LIMIT}
use Rattle.blob_ids.specs.declared.ids.BlobId.{BlobId}

-- the byte `b`, which an identifier begins with
abbrev pub blob_letter : ℕ
blob_letter = 98

-- the byte `-`, before the number of a leaf
abbrev pub dash : ℕ
dash = 45

-- ---- as they are written

-- `b`, and the blob's number in decimal
abbrev pub blob_text : ℕ → List ℕ
blob_text number = blob_letter ∷ decimal number

-- a leaf's has a dash after that, and the leaf's number in decimal
abbrev pub leaf_text : Option ℕ → List ℕ
leaf_text None = []
leaf_text (Some leaf) = dash ∷ decimal leaf

abbrev pub blob_id_text : BlobId → List ℕ
blob_id_text id = blob_text id.blob ++ leaf_text id.leaf

-- the numbers of an identifier are below `NUMBER_LIMIT`
pub record IsBlobId (id : BlobId) : Type 0 where
  pub blob : id.blob < NUMBER_LIMIT
  pub leaf : ForSome id.leaf (λ n. n < NUMBER_LIMIT)

-- ---- as they are read

abbrev pub number_if : ℕ → List ℕ → Option ℕ
number_if n text = cond (nat_lt n NUMBER_LIMIT && bytes_eq (decimal n) text) (Some n) None

-- the number below `NUMBER_LIMIT` whose decimal the string is
abbrev pub number_in : List ℕ → Option ℕ
number_in text = number_if (digits_value 10 text) text

-- the string before its first dash, and what follows the dash
abbrev pub before_dash : List ℕ → List ℕ
before_dash [] = []
before_dash (x ∷ xs) = cond (x == dash) [] (x ∷ before_dash xs)

abbrev pub after_dash : List ℕ → Option (List ℕ)
after_dash [] = None
after_dash (x ∷ xs) = cond (x == dash) (Some xs) (after_dash xs)

abbrev pub blob_with : Option ℕ → Option BlobId
blob_with None = None
blob_with (Some blob) = Some (record { blob = blob; leaf = None })

abbrev pub leaf_of : ℕ → Option ℕ → Option BlobId
leaf_of blob None = None
leaf_of blob (Some leaf) = Some (record { blob = blob; leaf = Some leaf })

abbrev pub leaf_with : Option ℕ → Option ℕ → Option BlobId
leaf_with None leaf = None
leaf_with (Some blob) leaf = leaf_of blob leaf

abbrev pub id_with : List ℕ → Option (List ℕ) → Option BlobId
id_with blob None = blob_with (number_in blob)
id_with blob (Some leaf) = leaf_with (number_in blob) (number_in leaf)

-- what follows the letter
abbrev pub numbers_in : List ℕ → Option BlobId
numbers_in text = id_with (before_dash text) (after_dash text)

-- the identifier that a string is
abbrev pub blob_id_in : List ℕ → Option BlobId
blob_id_in [] = None
blob_id_in (x ∷ xs) = cond (x == blob_letter) (numbers_in xs) None
