-- How a server is named in the arguments of a command line.
use Rattle.std.specs.Prelude.{ℕ, List, Bool, ◌&&◌, ◌||◌, ◌==◌, codes, length, nat_le, nat_lt}
use Rattle.std.specs.Char.{is_ascii_alphanumeric}
use Rattle.std.specs.List.{list_all, list_any}

-- a character of a host: a letter, a digit, or one of these
abbrev pub is_host_character : ℕ → Bool
is_host_character c = is_ascii_alphanumeric c || list_any (λ d. d == c) (codes "._-:[]")

-- a host: one or more of these characters
abbrev pub is_host : List ℕ → Bool
is_host host = nat_lt 0 (length host) && list_all is_host_character host

-- a character of a token: one from `!` to `~`
abbrev pub is_token_character : ℕ → Bool
is_token_character c = nat_le 33 c && nat_le c 126

-- a token: one or more of these characters
abbrev pub is_token : List ℕ → Bool
is_token token = nat_lt 0 (length token) && list_all is_token_character token
