-- What contracts see of a parsed head.
use Rattle.std.specs.Prelude.{◌≡◌, ℕ, List, map}
use Rattle.httparse.specs.Grammar.{RequestHead}
use Rattle.httparse.specs.Spans.{span_bytes, header_bytes}
use Rattle.httparse.specs.declared.spans.HeaderSpan.{HeaderSpan}
use Rattle.httparse.specs.declared.spans.RequestSpans.{RequestSpans}
use Rattle.http_wire.specs.Fields.{pairs}
use Rattle.http_wire.specs.Requests.{names_and_values}
use Rattle.http_wire.specs.declared.head_parser.ParsedHead.{ParsedHead}

-- the parts of a head of the grammar
pub record IsParsed (h : RequestHead) (p : ParsedHead) : Type 0 where
  pub method : p.method ≡ h.method
  pub target : p.target ≡ h.target
  pub fields : pairs p.fields ≡ names_and_values h.fields
  pub minor : p.minor ≡ h.minor

-- the parts at these places
pub record IsCopied (bytes : List ℕ) (at : RequestSpans) (spans : List HeaderSpan) (p : ParsedHead)
    : Type 0 where
  pub method : p.method ≡ span_bytes bytes at.method
  pub target : p.target ≡ span_bytes bytes at.path
  pub fields : pairs p.fields ≡ map (header_bytes bytes) spans
  pub minor : p.minor ≡ at.version
