-- The bytes of a request that a client writes (RFC 9112, 3; RFC 9110, 7.2, 8.3 and 8.6; RFC 6750,
-- 2.1).
use Rattle.std.specs.Prelude.{ℕ, List, [], ◌++◌, length, codes, Option, None, Some}
use Rattle.std.specs.Fmt.{decimal}
use Rattle.http_wire.specs.Responses.{http_line}

-- the request line
unfoldable pub request_line : (method path : List ℕ) → List ℕ
request_line method path = http_line (method ++ codes " " ++ path ++ codes " HTTP/1.1")

-- the request line, and the fields Host and Authorization
unfoldable pub request_lines : (method host token path : List ℕ) → List ℕ
request_lines method host token path =
    request_line method path ++ http_line (codes "Host: " ++ host)
    ++ http_line (codes "Authorization: Bearer " ++ token)

-- the head of a GET
unfoldable pub get_head : (host token path : List ℕ) → List ℕ
get_head host token path = request_lines (codes "GET") host token path ++ http_line []

-- the head of a POST of JSON, whose body has so many bytes
unfoldable pub post_head : (host token path : List ℕ) → ℕ → List ℕ
post_head host token path size =
    request_lines (codes "POST") host token path
    ++ http_line (codes "Content-Type: application/json")
    ++ http_line (codes "Content-Length: " ++ decimal size) ++ http_line []

-- a POST of JSON
unfoldable pub post_bytes : (host token path body : List ℕ) → List ℕ
post_bytes host token path body = post_head host token path (length body) ++ body

-- a GET if there is no body, else a POST of it
abbrev pub request_bytes : (host token path : List ℕ) → Option (List ℕ) → List ℕ
request_bytes host token path None = get_head host token path
request_bytes host token path (Some body) = post_bytes host token path body
