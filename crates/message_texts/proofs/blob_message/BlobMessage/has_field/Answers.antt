use Rattle.std.proofs.Common.{ap}
use Rattle.std.specs.Prelude.{option_map}
use Rattle.message_texts.proofs.Found.{kept_fields, listed_field_named}
use Rattle.message_texts.proofs.blob_message.BlobMessage.has_field.Goals as goal

pub returns-in-Some : goal.returns-in-Some
returns-in-Some c =
    listed_field_named c.self.inside.bytes.now c.args.self.now c.args.name.now _ c.as_slice.result.now c.is_any_named.result
    c.self.view_is (kept_fields _ _ _ c.self.invariant.header (ap (option_map (λ v. v.items)) c.in-Some.is)) c.as_slice.ensures.value c.is_any_named.ensures

pub returns : goal.returns
returns c =
    listed_field_named c.self.inside.bytes.now c.args.self.now c.args.name.now c.in_ok-fields.fields.items c.as_slice-2.result.now c.is_any_named-2.result
    c.self.view_is c.in_ok-fields.ensures c.as_slice-2.ensures.value c.is_any_named-2.ensures
