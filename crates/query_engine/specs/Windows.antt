-- The part of a result list that a response has (RFC 8620, 5.5).
use Rattle.std.specs.Prelude.{◌≡◌, ℕ, suc, ◌+◌, ◌-◌, min, ℤ, pos, negsuc, nat_le, nat_lt, Bool, ◌&&◌, if◌then◌else◌, List, [], ◌∷◌, take, drop, length, Option, Some, None, option_map, bytes_eq, ⊤}
use Rattle.jm_base.specs.Ids.{id_text}
use Rattle.jm_base.specs.declared.identifiers.Kind.{Kind}
use Rattle.jm_base.specs.declared.identifiers.TheConstants.{NUMBER_LIMIT}
use Rattle.query_engine.specs.declared.limits.TheConstants.{MAX_IDS_PER_QUERY}
use Rattle.query_engine.specs.declared.frame.Frame.{Frame}
use Rattle.query_engine.specs.declared.frame.Shown.{Shown}
use Rattle.query_engine.specs.declared.frame.WindowFault.{WindowFault}
use Rattle.query_engine.specs.declared.frame.WindowFault.TheVariants.{AnchorNotFound, BadLimit, NoMemory}

-- the text is the id of the record of this kind and number
abbrev pub is_id_of : Kind → List ℕ → ℕ → Bool
is_id_of kind id n =
    nat_le 1 n && nat_lt n NUMBER_LIMIT
    && bytes_eq (id_text (record { kind = kind; number = n })) id

-- the index of the first number that passes, where the first number of the list has the index start
abbrev pub index_where : (ℕ → Bool) → ℕ → List ℕ → Option ℕ
index_where test start [] = None
index_where test start (n ∷ ns) = if test n then Some start else index_where test (start + 1) ns

-- an index with an offset added, or 0 if that is below 0
abbrev pub moved : ℕ → ℤ → ℕ
moved index (pos n) = index + n
moved index (negsuc n) = index - suc n

-- the index that a position is in a list of this length: a position below 0 counts from the end,
-- and is 0 if that is before the beginning
abbrev pub from_position : ℕ → ℤ → ℕ
from_position total (pos n) = n
from_position total (negsuc n) = total - suc n

-- the index at which the part begins: that of the anchor, moved by the offset, or the position if
-- there is no anchor; none if the anchor is not in the list
abbrev pub start_by : Kind → List ℕ → Frame → Option (List ℕ) → Option ℕ
start_by kind list f None = Some (from_position (length list) f.position)
start_by kind list f (Some id) =
    option_map (λ i. moved i f.offset) (index_where (is_id_of kind id) 0 list)

abbrev pub start_of : Kind → List ℕ → Frame → Option ℕ
start_of kind list f = start_by kind list f f.anchor

-- how many ids there are at most: the limit that was asked for, but no more than the server's own
abbrev pub greatest_count : Option ℕ → ℕ
greatest_count None = MAX_IDS_PER_QUERY
greatest_count (Some limit) = min limit MAX_IDS_PER_QUERY

-- the limit is in the response if it is not the one that was asked for
abbrev pub limit_in_response : Option ℕ → Option ℕ
limit_in_response None = Some MAX_IDS_PER_QUERY
limit_in_response (Some limit) =
    if nat_le limit MAX_IDS_PER_QUERY then None else Some MAX_IDS_PER_QUERY

-- the part that begins at an index, which may be past the end
abbrev pub part_from : List ℕ → Option ℕ → ℕ → Shown
part_from list limit start = record {
  position = start;
  ids = take (greatest_count limit) (drop start list);
  limit = limit_in_response limit;
}

-- a limit is from 0 on
abbrev pub unsigned : ℤ → Option (Option ℕ)
unsigned (pos n) = Some (Some n)
unsigned (negsuc n) = None

-- the limit that is asked for, which may be none; none of these where it is below 0
abbrev pub limit_of : Option ℤ → Option (Option ℕ)
limit_of None = Some None
limit_of (Some z) = unsigned z

-- what is answered to a frame
pub data Window : Type 0 where
  part : (shown : Shown) → Window
  anchor_not_found : Window
  bad_limit : Window

abbrev pub window_at : List ℕ → Option ℕ → Option ℕ → Window
window_at list limit None = anchor_not_found
window_at list limit (Some start) = part (part_from list limit start)

abbrev pub window_within : Kind → List ℕ → Frame → Option (Option ℕ) → Window
window_within kind list f None = bad_limit
window_within kind list f (Some limit) = window_at list limit (start_of kind list f)

-- The part of a result list of the kind that a frame names.
abbrev pub window_of : Kind → List ℕ → Frame → Window
window_of kind list f = window_within kind list f (limit_of f.limit)

-- why there is no part; out of memory explains itself
abbrev pub ExplainsWindow : WindowFault → Window → Type 0
ExplainsWindow AnchorNotFound w = w ≡ anchor_not_found
ExplainsWindow BadLimit w = w ≡ bad_limit
ExplainsWindow NoMemory w = ⊤
