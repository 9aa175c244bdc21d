-- The characters of tokens and of values (RFC 2045, section 5.1).
use Rattle.std.specs.Prelude.{ℕ, Bool, ◌&&◌, ◌||◌, ◌==◌, not, nat_le}
use Rattle.mime_codec.specs.Quoted.{is_between}

-- the characters that a token can't have: " ( ) , / : ; < = > ? @ [ \ ]
abbrev pub is_special : ℕ → Bool
is_special b = b == 34 || (is_between 40 41 b ||
    (b == 44 || (b == 47 || (is_between 58 64 b || is_between 91 93 b))))

-- a character of a token: from ! to ~, and not special
abbrev pub is_token : ℕ → Bool
is_token b = is_between 33 126 b && not (is_special b)

-- the characters that end a value without quote marks: " ( ) ; \
abbrev pub is_delimiter : ℕ → Bool
is_delimiter b = b == 34 || (is_between 40 41 b || (b == 59 || b == 92))

-- a byte of a character above U+007F (RFC 3629)
abbrev pub is_above_ascii : ℕ → Bool
is_above_ascii b = nat_le 128 b

-- a byte of a value without quote marks: a character from ! to ~ that is no delimiter, or a byte of
-- a character above U+007F. Wider than RFC 2045's token, since common programs write names with
-- `=`, `?` or `/` bare, or in UTF-8.
abbrev pub is_bare : ℕ → Bool
is_bare b = is_above_ascii b || (is_between 33 126 b && not (is_delimiter b))
