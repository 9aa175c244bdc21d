-- The bytes of a response (RFC 9112, 4; RFC 9110, 15).
use Rattle.std.specs.Prelude.{◌≡◌, ◌⊎◌, ℕ, Bool, List, [], ◌++◌, ◌==◌, ◌&&◌, nat_le, nat_lt, length, take, codes, Option, unwrap_or, if◌then◌else◌}
use Rattle.http.specs.StatusCode.{reason_phrase as canonical_phrase}
use Rattle.std.specs.Io.KnownBytes.{Appends}
use Rattle.http_parts.specs.declared.fault.WireFault.{WireFault}
use Rattle.http_parts.specs.declared.fault.WireFault.TheVariants.{WriteFault, NoMemory}
use Rattle.std.specs.Fmt.{decimal}

-- The reason phrase of a status (RFC 9110, 15), as the crate `http` has it. A number that is no
-- status of three digits has none.
unfoldable pub reason_phrase : ℕ → List ℕ
reason_phrase status =
    if nat_le 100 status && nat_lt status 1000
    then unwrap_or (canonical_phrase status) []
    else []

-- a line with its CR LF
abbrev pub http_line : List ℕ → List ℕ
http_line text = text ++ codes "\r\n"

-- the status line, and the fields Content-Type, Content-Length and Cache-Control
unfoldable pub first_lines : ℕ → List ℕ → ℕ → List ℕ
first_lines status media size =
    http_line (codes "HTTP/1.1 " ++ (decimal status ++ codes " " ++ reason_phrase status))
    ++ http_line (codes "Content-Type: " ++ media)
    ++ http_line (codes "Content-Length: " ++ decimal size)
    ++ http_line (codes "Cache-Control: no-store")

-- with status 401, what a client is asked for (RFC 6750, 3)
abbrev pub challenge : ℕ → List ℕ
challenge status = if status == 401 then http_line (codes "WWW-Authenticate: Bearer") else []

-- that the connection ends (RFC 9112, 9.6)
abbrev pub closing : Bool → List ℕ
closing last = if last then http_line (codes "Connection: close") else []

-- the head, which ends with an empty line
unfoldable pub response_head : ℕ → List ℕ → ℕ → Bool → List ℕ
response_head status media size last =
    first_lines status media size ++ challenge status ++ closing last ++ http_line []

-- the head and the body
unfoldable pub response_bytes : ℕ → List ℕ → List ℕ → Bool → List ℕ
response_bytes status media body last = response_head status media (length body) last ++ body

-- a fault of writing, after a prefix of the bytes was written
abbrev pub IsPrefixWritten : WireFault → Option (List ℕ) → Option (List ℕ) → List ℕ → Type 0
IsPrefixWritten fault old new bytes =
    (fault ≡ WriteFault) × (n : ℕ) × Appends old new (take n bytes)

-- that, or an allocation failed and nothing was written
abbrev pub IsCutShort : WireFault → Option (List ℕ) → Option (List ℕ) → List ℕ → Type 0
IsCutShort fault old new bytes =
    IsPrefixWritten fault old new bytes ⊎ ((fault ≡ NoMemory) × (new ≡ old))

-- the interim response (RFC 9110, 15.2.1)
abbrev pub continue_bytes : List ℕ
continue_bytes = http_line (codes "HTTP/1.1 100 Continue") ++ http_line []
