-- Base64 as it is written (RFC 2045, section 6.8).
use Rattle.std.specs.Prelude.{ℕ, zero, suc, ◌+◌, ◌*◌, ◌/◌, ◌%◌, List, [], ◌∷◌, codes, slice_index}

-- the characters of the alphabet, by their six bits
abbrev pub alphabet : List ℕ
alphabet = codes "ABCDEFGHIJKLMNOPQRSTUVWXYZabcdefghijklmnopqrstuvwxyz0123456789+/"

abbrev pub sign : ℕ → ℕ
sign bits = slice_index alphabet bits

-- three bytes as four characters; at the end one or two bytes, whose last bits are zero, with two
-- or one equals signs
abbrev pub encoded : List ℕ → List ℕ
encoded [] = []
encoded (a ∷ []) = sign (a / 4) ∷ sign (a % 4 * 16) ∷ 61 ∷ 61 ∷ []
encoded (a ∷ b ∷ []) = sign (a / 4) ∷ sign (a % 4 * 16 + b / 16) ∷ sign (b % 16 * 4) ∷ 61 ∷ []
encoded (a ∷ b ∷ c ∷ rest) =
    sign (a / 4) ∷ sign (a % 4 * 16 + b / 16) ∷ sign (b % 16 * 4 + c / 64) ∷ sign (c % 64)
    ∷ encoded rest

-- how many characters a line has
abbrev pub line_size : ℕ
line_size = 76

-- a text in lines of `line_size` characters, the last of which may have fewer: a line end before
-- each character that is to begin a line. So many more characters fit on the first line.
abbrev pub wrapped : ℕ → List ℕ → List ℕ
wrapped left [] = []
wrapped zero (b ∷ bs) = 13 ∷ 10 ∷ b ∷ wrapped 75 bs
wrapped (suc left) (b ∷ bs) = b ∷ wrapped left bs

abbrev pub base64_text : List ℕ → List ℕ
base64_text bytes = wrapped line_size (encoded bytes)
