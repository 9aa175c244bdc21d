-- Boundaries that no line of what is within a multipart begins with, but its own delimiter lines
-- (RFC 2046, section 5.1.1): the multiparts of a message are numbered in walk order.
use Rattle.std.specs.Prelude.{◌≡◌, ℕ, zero, suc, ◌+◌, true, List, [], ◌∷◌, ◌++◌, Some, None, codes}
use Rattle.std.specs.List.{AllByRecursion}
use Rattle.std.specs.Fmt.{decimal}
use Rattle.mime_lines.specs.Lines.{lines}
use Rattle.mime_lines.specs.Written.{crlf}
use Rattle.mime_cut.specs.DelimiterLines.{after_prefix, dashes}
use Rattle.mime_type.specs.Content.{is_multipart}
use Rattle.mime_type.specs.HeadText.{IsHead, media_of_head}
use Rattle.mime_tree.specs.WrittenParts.{WrittenParts, none, leaf, multipart, message_text, IsLeaf}

-- jm, the number of the message's boundaries, and a dot
abbrev pub boundary_start : ℕ → List ℕ
boundary_start n = codes "jm" ++ (decimal n ++ 46 ∷ [])

-- the boundary of the multipart of this number
abbrev pub boundary_text : ℕ → ℕ → List ℕ
boundary_text n k = boundary_start n ++ decimal k

-- how many multiparts there are
abbrev pub multipart_count : WrittenParts → ℕ
multipart_count none = 0
multipart_count (leaf h body later) = multipart_count later
multipart_count (multipart h inner later) = 1 + (multipart_count inner + multipart_count later)

-- the multiparts have the boundaries of the numbers from k on, in walk order
abbrev pub AreNumbered : ℕ → ℕ → WrittenParts → Type 0
AreNumbered n k none = Unit {0}
AreNumbered n k (leaf h body later) = AreNumbered n k later
AreNumbered n k (multipart h inner later) =
    (h.boundary ≡ Some (boundary_text n k)) × AreNumbered n (1 + k) inner
    × AreNumbered n (1 + (k + multipart_count inner)) later

-- no line of a text, with a line end after it, begins with two dashes and the start of a boundary
abbrev pub IsQuiet : ℕ → List ℕ → Type 0
IsQuiet n text =
    AllByRecursion (λ l. after_prefix (dashes ++ boundary_start n) l ≡ None) (lines (text ++ crlf))

-- nor does one of a part that is no multipart
abbrev pub AreQuiet : ℕ → WrittenParts → Type 0
AreQuiet n none = Unit {0}
AreQuiet n (leaf h body later) = IsQuiet n (message_text [] h body) × AreQuiet n later
AreQuiet n (multipart h inner later) = AreQuiet n inner × AreQuiet n later

-- the heads of parts can be written, with multiparts within one another to this depth
abbrev pub AreFormed : ℕ → WrittenParts → Type 0
AreFormed levels none = Unit {0}
AreFormed levels (leaf h body later) = IsLeaf h × AreFormed levels later
AreFormed zero (multipart h inner later) = ⊥
AreFormed (suc levels) (multipart h inner later) =
    IsHead h × (is_multipart (media_of_head h) ≡ true) × AreFormed levels inner
    × AreFormed (suc levels) later
