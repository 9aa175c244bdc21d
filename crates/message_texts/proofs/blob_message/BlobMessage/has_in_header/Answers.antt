use Rattle.std.proofs.Common.{Ok, ap}
use Rattle.std.specs.Prelude.{option_map}
use Rattle.message_texts.proofs.Found.{header_found, kept_fields}
use Rattle.message_texts.proofs.blob_message.BlobMessage.has_in_header.Goals as goal

pub returns-in-Some-clause-value : goal.returns-in-Some-clause-value
returns-in-Some-clause-value c =
    header_found c.self.inside.bytes.now c.args.self.now c.args.needle.now _ c.as_mut_slice.result.now c.args.names.now c.has_in_named_fields.result
    c.self.view_is (kept_fields _ _ _ c.self.invariant.header (ap (option_map (λ v. v.items)) c.in-Some.is)) c.as_mut_slice.ensures.value c.has_in_named_fields.ensures.value

pub returns-clause-value : goal.returns-clause-value
returns-clause-value c =
    header_found c.self.inside.bytes.now c.args.self.now c.args.needle.now c.in_ok-fields.fields.items c.as_mut_slice-2.result.now c.args.names.now (Ok c.in_ok-found.found)
    c.self.view_is c.in_ok-fields.ensures c.as_mut_slice-2.ensures.value c.in_ok-found.ensures.value
