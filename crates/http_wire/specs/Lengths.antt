-- What contracts see of what the fields say of the length of the body.
use Rattle.std.specs.Prelude.{◌≡◌, ℕ, ◌-◌, ◌^◌, min, List, codes}
use Rattle.http_wire.specs.Framings.{Framing, InvalidLength, Chunked, NotSaid, Sized}
use Rattle.http_wire.specs.declared.lengths.BodyLength.{BodyLength}
use Rattle.http_wire.specs.declared.lengths.BodyLength.TheVariants.{Invalid as IsInvalid, NotSaid as IsNotSaid, Chunked as IsChunked, Sized as IsSized}

abbrev pub length_name : List ℕ
length_name = codes "Content-Length"

-- A size of this many bytes, or of more, is read as this size.
abbrev pub greatest_size : ℕ
greatest_size = 2 ^ 64 - 1

-- This is what the fields say; of a size that needs more than 64 bits, only that it does.
abbrev pub IsSaid : Framing → BodyLength → Type 0
IsSaid framing IsInvalid = framing ≡ InvalidLength
IsSaid framing IsNotSaid = framing ≡ NotSaid
IsSaid framing IsChunked = framing ≡ Chunked
IsSaid framing (IsSized n) = (size : ℕ) × (framing ≡ Sized size) × (n ≡ min size greatest_size)
