-- What may come next in a number between two others, and in a text that is above another: byte by
-- byte.
use Rattle.std.specs.Prelude.{ℕ, zero, suc, ◌+◌, ◌-◌, min, Bool, true, false, not, ◌&&◌, ◌||◌, List, [], ◌∷◌, length, drop, Option, Some, None, nat_lt, nat_le, ◌==◌, if◌then◌else◌, slice_get}
use Rattle.record_codec.specs.declared.utf8.CharacterRest.{CharacterRest}
use Rattle.record_codec.specs.declared.read_texts.TextRest.{TextRest}

-- A number between two others, all as their bytes: how many bytes are left where no such number
-- continues. `above` and `below` say that the bytes up to here are already above those of the one,
-- and below those of the other.
abbrev pub is_outside : Bool → Bool → ℕ → ℕ → ℕ → Bool
is_outside above below low high byte =
    (not above && nat_lt byte low) || (not below && nat_lt high byte)

abbrev pub left_in_word : Bool → Bool → List ℕ → List ℕ → List ℕ → ℕ
left_in_word above below [] highs bytes = length bytes
left_in_word above below (l ∷ lows) [] bytes = length bytes
left_in_word above below (l ∷ lows) (h ∷ highs) [] = 0
left_in_word above below (l ∷ lows) (h ∷ highs) (b ∷ bytes) =
    if is_outside above below l h b then suc (length bytes)
    else left_in_word (above || nat_lt l b) (below || nat_lt b h) lows highs bytes

-- between two characters
abbrev pub start : CharacterRest
start = record { more = 0; low = 128; high = 191 }

abbrev pub follow : ℕ → ℕ → ℕ → CharacterRest
follow more low high = record { more = more; low = low; high = high }

-- what follows the first byte of a character (RFC 3629, section 4; Unicode, table 3-7)
abbrev pub after_lead : ℕ → Option CharacterRest
after_lead byte = if nat_lt byte 128 then Some start
    else (if nat_lt byte 194 then None
    else (if nat_lt byte 224 then Some (follow 1 128 191)
    else (if byte == 224 then Some (follow 2 160 191)
    else (if byte == 237 then Some (follow 2 128 159)
    else (if nat_lt byte 240 then Some (follow 2 128 191)
    else (if byte == 240 then Some (follow 3 144 191)
    else (if nat_lt byte 244 then Some (follow 3 128 191)
    else (if byte == 244 then Some (follow 3 128 143) else None))))))))

-- what follows a byte, or none where the byte is no part of a text there
abbrev pub after_byte : CharacterRest → ℕ → Option CharacterRest
after_byte f byte = if f.more == 0 then after_lead byte
    else (if nat_le f.low byte && nat_le byte f.high then Some (follow (f.more - 1) 128 191)
    else None)

-- the greatest first byte of a character of at most so many bytes
abbrev pub top_lead : ℕ → ℕ
top_lead room =
    if nat_le room 1 then 127 else (if room == 2 then 223 else (if room == 3 then 239 else 244))

-- whether a greater byte can be in place of this one, in a text that ends after so many bytes from
-- here
abbrev pub can_rise : CharacterRest → ℕ → ℕ → Bool
can_rise f room byte =
    if f.more == 0 then nat_lt byte (top_lead room) else nat_le f.more room && nat_lt byte f.high

-- Up to which byte of this text, counted from 1, a text of so many bytes can be the same and yet be
-- greater: 0 where no text of so many bytes is greater.
abbrev pub last_turn : Bool → ℕ → ℕ
last_turn here later = if later == 0 then (if here then 1 else 0) else later + 1

abbrev pub turns : Option CharacterRest → ℕ → List ℕ → ℕ
turns None room text = 0
turns (Some f) zero text = 0
turns (Some f) (suc room) [] = 1
turns (Some f) (suc room) (b ∷ text) =
    last_turn (can_rise f (suc room) b) (turns (after_byte f b) room text)

-- how many bytes at least a text has from here on that has a greater byte in place of this one; 0
-- where none has
abbrev pub rise_cost : CharacterRest → ℕ → ℕ
rise_cost f byte = if f.more == 0 then (if nat_lt byte 127 then 1
    else (if nat_lt byte 223 then 2 else (if nat_lt byte 239 then 3
    else (if nat_lt byte 244 then 4 else 0))))
    else (if nat_lt byte f.high then f.more else 0)

abbrev pub less_of : ℕ → ℕ → ℕ
less_of cost later = if cost == 0 then later else min cost later

-- the least length of a text that is greater than this one
abbrev pub least_length : Option CharacterRest → List ℕ → ℕ
least_length None text = length text + 1
least_length (Some f) [] = 1
least_length (Some f) (b ∷ text) = less_of (rise_cost f b) (least_length (after_byte f b) text + 1)

-- What is still to come after a byte that fits the characters: none where the string would not be
-- above the bound.
abbrev pub rest_above : TextRest → Option ℕ → ℕ → CharacterRest → Option TextRest
rest_above s None byte f = Some (record { follow = f; room = s.room - 1; tight = false; turn = 0 })
rest_above s (Some bound) byte f = if not s.tight || nat_lt bound byte
    then Some (record { follow = f; room = s.room - 1; tight = false; turn = 0 })
    else (if nat_lt byte bound || nat_le s.turn 1 then None
    else Some (record { follow = f; room = s.room - 1; tight = true; turn = s.turn - 1 }))

abbrev pub if_room : TextRest → Option ℕ → ℕ → Option CharacterRest → Option TextRest
if_room s bound byte None = None
if_room s bound byte (Some f) = if nat_le s.room f.more then None else rest_above s bound byte f

-- what is still to come after a byte, given the bound's byte at the same index
abbrev pub text_rest_after : TextRest → Option ℕ → ℕ → Option TextRest
text_rest_after s bound byte = if_room s bound byte (after_byte s.follow byte)

abbrev pub on_some : {A : Type 0} → Option A → ℕ → (A → ℕ) → ℕ
on_some None otherwise some = otherwise
on_some (Some x) otherwise some = some x

-- how many bytes are left where no string continues so
abbrev pub left_in_text : TextRest → List ℕ → List ℕ → ℕ
left_in_text s bound [] = 0
left_in_text s bound (b ∷ bytes) = on_some (text_rest_after s (slice_get bound 0) b)
    (suc (length bytes)) (λ t. left_in_text t (drop 1 bound) bytes)

-- the beginning of a text of so many bytes, above the bound where it is tight
abbrev pub at_first : ℕ → Bool → List ℕ → TextRest
at_first room tight bound =
    record { follow = start; room = room; tight = tight; turn = turns (Some start) room bound }
