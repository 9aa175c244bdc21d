-- The characters that have no part in how an address list is cut (RFC 5322, section 3.4):
-- outside quotes, comments and brackets all but the quote mark, the opening parenthesis, the comma,
-- the colon and the opening angle bracket. (A semicolon has one only in a group, which a colon
-- opens.)
use Rattle.std.specs.Prelude.{ℕ, Bool, ◌&&◌, ◌||◌, not, ◌==◌, List, [], ◌∷◌, ◌++◌, if◌then◌else◌}

abbrev pub is_plain : ℕ → Bool
is_plain c = not (c == 34) && (not (c == 40) && (not (c == 44) && (not (c == 58) && not (c == 60))))

-- how the characters of a display-name are written between quote marks (quoted-string; RFC 5322,
-- section 3.2.4): a backslash before each quote mark and each backslash
abbrev pub quoted : List ℕ → List ℕ
quoted [] = []
quoted (c ∷ cs) = if c == 34 || c == 92 then 92 ∷ c ∷ quoted cs else c ∷ quoted cs

-- a character in an angle bracket that neither closes it nor opens quote marks
abbrev pub is_inner : ℕ → Bool
is_inner c = not (c == 34) && not (c == 62)

-- a plain character in a group: no semicolon either
abbrev pub is_plain_in_group : ℕ → Bool
is_plain_in_group c = is_plain c && not (c == 59)

-- items with a comma between each and the next
abbrev pub with_commas : List (List ℕ) → List ℕ
with_commas [] = []
with_commas (item ∷ []) = item
with_commas (item ∷ next ∷ items) = item ++ 44 ∷ with_commas (next ∷ items)

-- a group as it is written (RFC 5322, section 3.4): its name, a colon, its items, a semicolon
abbrev pub group_text : List ℕ → List (List ℕ) → List ℕ
group_text name items = name ++ 58 ∷ (with_commas items ++ 59 ∷ [])
