use Rattle.message_texts.proofs.Found.{main_by_names}
use Rattle.message_texts.proofs.blob_message.BlobMessage.main_fields_contain.Goals as goal

pub returns-clause-value : goal.returns-clause-value
returns-clause-value c =
    main_by_names c.args.self.now c.args.needle.now c.has_in_header.result c.as_slice.result.now c.as_slice-2.result.now c.as_slice-3.result.now c.as_slice-4.result.now c.as_slice-5.result.now
    c.as_slice.ensures c.as_slice-2.ensures c.as_slice-3.ensures c.as_slice-4.ensures c.as_slice-5.ensures c.has_in_header.ensures.value
