use Rattle.std.proofs.Common.{◌≡◌, ◌++◌, length, map, All}
use Rattle.httparse.specs.Spans.{header_bytes, IsHeaderWithin}
use Rattle.http_wire.specs.Fields.{pairs}
use Rattle.http_wire.proofs.head_parser.copy_fields.Given as goal

abbrev pub invariant-field : goal.invariant-field
invariant-field l = record {
  within : All (IsHeaderWithin (length l.bytes)) l.rest;
  same : pairs l.fields ++ map (header_bytes l.bytes) l.rest ≡ map (header_bytes l.bytes) l.spans;
}

abbrev pub decreases-field : goal.decreases-field
decreases-field l = length l.rest
