-- Which numbers a tree may hold, and where the first other number is.
use Rattle.std.specs.Prelude.{ℕ, ◌+◌, pos, neg_ℤ, List, [], ◌∷◌, ◌++◌, flat_map, Bool, false, cond, ◌==◌, nat_lt, int_lt, Option, Some, None, option_map, decimal}
use Rattle.std.specs.Option.{option_or}
use Rattle.jm_base.specs.declared.identifiers.TheConstants.{NUMBER_LIMIT}
use Rattle.serde_json.specs.Data.{Num, unsigned, negative, float, Data, null, boolean, number, string, array, object, Items, no_items, item, Members, no_members, member}

-- an integer below `NUMBER_LIMIT` and above its negative (RFC 8620, 1.3)
abbrev pub is_whole : Num → Bool
is_whole (unsigned n) = nat_lt n NUMBER_LIMIT
is_whole (negative z) = int_lt (neg_ℤ (pos NUMBER_LIMIT)) z
is_whole (float x) = false

-- a key in a JSON Pointer
abbrev pub pointer_byte : ℕ → List ℕ
pointer_byte x = cond (x == 126) (126 ∷ 48 ∷ []) (cond (x == 47) (126 ∷ 49 ∷ []) (x ∷ []))

abbrev pub pointer_part : List ℕ → List ℕ
pointer_part = flat_map pointer_byte

-- a path, with a part before it
abbrev pub under : List ℕ → List ℕ → List ℕ
under part path = (47 ∷ part) ++ path

-- the JSON Pointer of the first number that is no integer within the limits, in the order of the
-- keys
abbrev mutual
  pub first_invalid : Data → Option (List ℕ)
  first_invalid null = None
  first_invalid (boolean b) = None
  first_invalid (number n) = cond (is_whole n) None (Some [])
  first_invalid (string s) = None
  first_invalid (array ds) = first_invalid_item 0 ds
  first_invalid (object ms) = first_invalid_member ms

  pub first_invalid_item : ℕ → Items → Option (List ℕ)
  first_invalid_item i no_items = None
  first_invalid_item i (item d ds) =
      option_or (option_map (under (decimal i)) (first_invalid d)) (first_invalid_item (i + 1) ds)

  pub first_invalid_member : Members → Option (List ℕ)
  first_invalid_member no_members = None
  first_invalid_member (member k d ms) =
      option_or (option_map (under (pointer_part k)) (first_invalid d)) (first_invalid_member ms)
