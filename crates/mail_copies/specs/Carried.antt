-- What is carried from the account of the originals (RFC 8620, 5.4): an item for each object of the
-- call, null if there is no original, and a blob for each item that is not null, both in order.
use Rattle.std.specs.Prelude.{ℕ, pos, List, [], ◌∷◌, Option, Some, None, option_map, option_and_then, unwrap_or, if◌then◌else◌, bytes_eq, codes}
use Rattle.std.specs.Ordering.{nat_cmp}
use Rattle.std.specs.Cmp.Lexicographic.{slice_cmp}
use Rattle.jm_base.specs.UtcDates.{utc_text}
use Rattle.jm_base.specs.declared.identifiers.UtcDate.{UtcDate}
use Rattle.jm_json.specs.Tree.{Tree}
use Rattle.jm_json.specs.Find.{as_text}
use Rattle.method_args.specs.Arguments.{is_null}
use Rattle.mail_counts.specs.Touched.{sorted_once}
use Rattle.email_creates.specs.Properties.{date_named, date_of}
use Rattle.set_parts.specs.Names.{keyword_meant, only_if, set_in}
use Rattle.set_parts.specs.Responses.{member_named}

-- an original that is carried: its item, and the bytes of its blob
pub record Delivery : Type 0 where
  pub item : Tree
  pub bytes : List ℕ

-- What is delivered for each item: nothing for null, and nothing if its blob is missing.
abbrev pub deliveries : List Tree → List (List ℕ) → List (Option Delivery)
deliveries [] blobs = []
deliveries (t ∷ ts) [] = None ∷ deliveries ts []
deliveries (t ∷ ts) (b ∷ bs) =
    if is_null t
    then None ∷ deliveries ts (b ∷ bs)
    else Some (record { item = t; bytes = b }) ∷ deliveries ts bs

-- ---- the keywords of the original

-- the keyword of a name, if it is written as Email/get writes that keyword
abbrev pub kept_keyword : List ℕ → Option (List ℕ)
kept_keyword s = option_and_then (only_if (bytes_eq s)) (keyword_meant s)

-- The keywords that an item says; none if the member is missing or is not as Email/get gives it
-- (RFC 8621, 4.1.1: keywords).
abbrev pub carried_keywords : Tree → List (List ℕ)
carried_keywords item =
    unwrap_or
    (option_map (sorted_once (slice_cmp nat_cmp))
    (option_and_then (set_in kept_keyword) (member_named (codes "keywords") item)))
    []

-- ---- the date of receipt of the original

-- the date of a string, if it is written as Email/get writes that date
abbrev pub kept_date : List ℕ → Option UtcDate
kept_date s = option_and_then (only_if (λ d. bytes_eq s (utc_text d))) (date_named s)

-- The date that an item says; the timestamp of the call, in Unix seconds, if the member is missing
-- or is not as Email/get gives it (RFC 8621, 4.1.1: receivedAt).
abbrev pub carried_date : ℕ → Tree → UtcDate
carried_date moment item =
    unwrap_or
    (option_and_then kept_date
    (option_and_then as_text (member_named (codes "receivedAt") item)))
    (date_of (pos moment))
