-- Plain bytes: those that are unchanged in a Text form (RFC 8621, 4.1.2.2).
use Rattle.std.specs.Prelude.{ℕ, Bool, ◌&&◌, ◌==◌, nat_le, not}

-- printable ASCII, and not =, with which an encoded-word begins (RFC 2047, 2)
abbrev pub is_plain : ℕ → Bool
is_plain b = nat_le 32 b && nat_le b 126 && not (b == 61)
