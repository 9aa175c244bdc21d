-- The least of some places in byte order. A place is a JSON Pointer (RFC 6901).
use Rattle.std.specs.Prelude.{◌≡◌, ℕ, true, false, List, Option, Some, None, bytes_eq}
use Rattle.std.specs.List.{fold, list_any, AllByRecursion}
use Rattle.std.specs.Ordering.{nat_cmp, match_ordering, is_gt}
use Rattle.std.specs.Cmp.Lexicographic.{slice_cmp}

-- the lesser in byte order of a place, if there is one, and another
abbrev pub lesser : Option (List ℕ) → List ℕ → Option (List ℕ)
lesser None place = Some place
lesser (Some least) place =
    match_ordering (slice_cmp nat_cmp place least) (Some place) (Some least) (Some least)

-- the least of a place, if there is one, and of these places
abbrev pub least_from : Option (List ℕ) → List (List ℕ) → Option (List ℕ)
least_from least places = fold lesser least places

-- the place is one of these, and none of them is less in byte order
pub record IsLeast (places : List (List ℕ)) (place : List ℕ) : Type 0 where
  pub among : list_any (bytes_eq place) places ≡ true
  pub least : AllByRecursion (λ other. is_gt (slice_cmp nat_cmp place other) ≡ false) places
