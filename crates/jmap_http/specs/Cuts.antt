-- Bytes cut at a byte, and bytes that begin or end with others.
use Rattle.std.specs.Prelude.{ℕ, ◌-◌, ◌==◌, List, [], ◌∷◌, length, take, drop, bytes_eq, Option, None, Some, if◌then◌else◌}

-- the bytes before the first byte of this value
abbrev pub cut_before : ℕ → List ℕ → List ℕ
cut_before byte [] = []
cut_before byte (x ∷ xs) = if x == byte then [] else x ∷ cut_before byte xs

-- the bytes after it, if there is one
abbrev pub cut_after : ℕ → List ℕ → Option (List ℕ)
cut_after byte [] = None
cut_after byte (x ∷ xs) = if x == byte then Some xs else cut_after byte xs

-- what follows the first bytes, if they are these
abbrev pub strip_start : List ℕ → List ℕ → Option (List ℕ)
strip_start start bytes =
    if bytes_eq (take (length start) bytes) start then Some (drop (length start) bytes) else None

-- what is before the last bytes, if they are these
abbrev pub strip_end : List ℕ → List ℕ → Option (List ℕ)
strip_end end bytes =
    if bytes_eq (drop (length bytes - length end) bytes) end
    then Some (take (length bytes - length end) bytes)
    else None
