-- Lists of entries: those under one name, and prefixes of a list.
use Rattle.std.specs.Prelude.{◌≡◌, ℕ, ◌==◌, List, [], ◌∷◌, ◌++◌, if◌then◌else◌}
use Rattle.mail_records.specs.Histories.{Entry, entry_pass}

-- the entries under this name, in order
abbrev pub under : ℕ → List Entry → List Entry
under n [] = []
under n (e ∷ es) = if entry_pass e == n then e ∷ under n es else under n es

-- each of these entries is under this name
abbrev pub AreUnder : ℕ → List Entry → Type 0
AreUnder n [] = Unit {0}
AreUnder n (e ∷ es) = (entry_pass e ≡ n) × AreUnder n es

-- the list begins with what was seen
abbrev pub StartsWith : List Entry → List Entry → Type 0
StartsWith log seen = (rest : List Entry) × (log ≡ seen ++ rest)

-- the list continues after what was seen, and all of that is under this name
abbrev pub ExtendsUnder : ℕ → List Entry → List Entry → Type 0
ExtendsUnder n seen log = (more : List Entry) × (log ≡ seen ++ more) × AreUnder n more

-- of two prefixes of one list the longer one
abbrev pub longer_of : List Entry → List Entry → List Entry
longer_of [] ys = ys
longer_of (x ∷ xs) [] = x ∷ xs
longer_of (x ∷ xs) (y ∷ ys) = x ∷ longer_of xs ys
