use Rattle.httparse.specs.Spans.{IsHeaderWithin}
use Rattle.std.proofs.Common.{length}
use Rattle.http_wire.proofs.HeadParsed.{all_rest, copied_next}
use Rattle.http_wire.proofs.head_parser.copy_fields.Goals as goal

pub field-preserved : goal.field-preserved
field-preserved c = record {
  within = all_rest (IsHeaderWithin (length c.args.bytes.now)) c.field.rest.now c.in-Some.more.now c.in-Some.at.now c.in-Some.ensures.cases.0 c.field.invariant.within;
  same = copied_next c.args.bytes.now c.args.spans.now c.field.rest.now c.in-Some.more.now c.in-Some.at.now c.field.fields c.push.new.self c.in_ok-copy_field.field-0 c.in-Some.ensures.cases.0 c.in_ok-push.ensures.ok c.in_ok-copy_field.ensures.name c.in_ok-copy_field.ensures.value c.field.invariant.same;
}
