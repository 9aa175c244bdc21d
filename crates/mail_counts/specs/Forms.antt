-- The forms of names, roles and keywords (RFC 8621, 2 and 4.1.1).
use Rattle.std.specs.Prelude.{ℕ, List, [], ◌∷◌, length, Bool, ◌&&◌, ◌||◌, not, ◌==◌, nat_le, nat_lt, codes, bytes_eq}
use Rattle.std.specs.List.{list_any, list_all}
use Rattle.jm_base.specs.declared.limits.TheConstants.{MAX_MAILBOX_NAME_BYTES}
use Rattle.mail_counts.specs.declared.limits.TheConstants.{MAX_KEYWORD_CHARACTERS, SORT_ORDER_LIMIT}

-- a byte of a text without control characters: in UTF-8 a byte below 32, and 127, means that
-- character alone
abbrev pub is_plain_byte : ℕ → Bool
is_plain_byte x = nat_le 32 x && not (x == 127)

-- a mailbox's name: 1 to so many bytes, with no control character (the bound is our own)
abbrev pub is_name : List ℕ → Bool
is_name s =
    nat_le 1 (length s) && nat_le (length s) MAX_MAILBOX_NAME_BYTES && list_all is_plain_byte s

-- the roles of mailboxes (RFC 8621, 2, and the registry of RFC 8457 that it names)
abbrev pub roles : List (List ℕ)
roles = codes "inbox" ∷ codes "archive" ∷ codes "drafts" ∷ codes "sent" ∷ codes "junk"
    ∷ codes "trash" ∷ codes "all" ∷ codes "flagged" ∷ codes "important" ∷ []

abbrev pub is_role : List ℕ → Bool
is_role s = list_any (λ r. bytes_eq s r) roles

-- a mailbox's sort order (RFC 8621, 2)
abbrev pub is_sort_order : ℕ → Bool
is_sort_order n = nat_lt n SORT_ORDER_LIMIT

-- the bytes `(`, `)`, `{`, `]`, `%`, `*`, `"` and `\`, and upper-case letters, which are kept as
-- lower-case ones
abbrev pub is_kept_out : ℕ → Bool
is_kept_out x = list_any (λ y. y == x) (codes "(){]%*\"\\") || (nat_le 65 x && nat_le x 90)

-- a byte of a keyword as it is kept: from `!` to `~`, and none of those
abbrev pub is_keyword_byte : ℕ → Bool
is_keyword_byte x = nat_le 33 x && nat_le x 126 && not (is_kept_out x)

-- a keyword as it is kept: 1 to so many of these (RFC 8621, 4.1.1)
abbrev pub is_keyword : List ℕ → Bool
is_keyword s =
    nat_le 1 (length s) && nat_le (length s) MAX_KEYWORD_CHARACTERS && list_all is_keyword_byte s
