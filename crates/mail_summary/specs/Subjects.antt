-- The subject by which threads are distinguished (RFC 5256, section 2.1, in part).
use Rattle.std.specs.Prelude.{ℕ, zero, suc, ◌-◌, ◌||◌, ◌==◌, nat_eq, List, [], ◌∷◌, map, codes, if◌then◌else◌}
use Rattle.std.specs.List.{starts_with}
use Rattle.std.specs.Char.{is_ascii_whitespace, to_ascii_lowercase}
use Rattle.mail_summary.specs.Texts.{spaced}

-- the length of the prefix of a reply or a forward with which a text in lower case begins, or 0
abbrev pub prefix_size : List ℕ → ℕ
prefix_size text =
    if starts_with nat_eq text (codes "re:") || starts_with nat_eq text (codes "fw:") then 3
    else (if starts_with nat_eq text (codes "fwd:") then 4 else 0)

-- the characters after this many, without the prefixes at their beginning and the white space
-- around each
abbrev pub without_prefixes : List ℕ → ℕ → List ℕ
without_prefixes [] left = []
without_prefixes (b ∷ bs) (suc left) = without_prefixes bs left
without_prefixes (b ∷ bs) zero =
    if is_ascii_whitespace b then without_prefixes bs 0
    else (if prefix_size (b ∷ bs) == 0 then b ∷ bs
    else without_prefixes bs (prefix_size (b ∷ bs) - 1))

-- the characters of a subject in lower case, without its prefixes
abbrev pub stripped : List ℕ → List ℕ
stripped characters = spaced (without_prefixes (map to_ascii_lowercase characters) 0)
