-- What bytes encode in a transfer encoding (RFC 2045, section 6).
use Rattle.std.specs.Prelude.{ℕ, List}
use Rattle.mime_codec.specs.Quoted.{quoted_printable}
use Rattle.mime_codec.specs.Base64.{base64}
use Rattle.mime_codec.specs.declared.coding.Coding.{Coding}
use Rattle.mime_codec.specs.declared.coding.Coding.TheVariants.{Plain, Quoted, Base64, Unknown}

-- a transfer encoding of an unknown name leaves the bytes as they are
abbrev pub decoded : Coding → List ℕ → List ℕ
decoded Plain bytes = bytes
decoded Quoted bytes = quoted_printable bytes
decoded Base64 bytes = base64 bytes
decoded Unknown bytes = bytes
