-- The bytes of all blobs together.
use Rattle.std.proofs.Common.{◌≡◌, ℕ, ◌+◌, List, [], ◌∷◌, ◌++◌, length, map, ap, ◌∙◌}
use Rattle.std.specs.List.{sum}
use Rattle.std.proofs.lemmas.List.{map-append}
use Rattle.std.proofs.lemmas.List.Sums.{fold-append}
use Rattle.blob_store.specs.Blobs.{byte_count}

pub one_blob_more : (bs : List (List ℕ)) (b : List ℕ) → byte_count (bs ++ b ∷ []) ≡ byte_count bs + length b
one_blob_more bs b = ap sum (map-append length bs (b ∷ [])) ∙ fold-append ◌+◌ 0 (map length bs) (length b ∷ [])
