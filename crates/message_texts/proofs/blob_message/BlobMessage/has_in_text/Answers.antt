use Rattle.message_texts.proofs.Found.{found_in_header, text_found}
use Rattle.message_texts.proofs.blob_message.BlobMessage.has_in_text.Goals as goal

pub returns-clause-value : goal.returns-clause-value
returns-clause-value c =
    text_found c.main_fields_contain.new.self c.args.self.now c.args.needle.now c.in_ok-main_fields_contain.field-0 c.has_in_body.result
    c.main_fields_contain.ensures.same c.in_ok-main_fields_contain.ensures.value c.if-branch.false c.has_in_body.ensures.value

pub returns-then-branch-clause-value : goal.returns-then-branch-clause-value
returns-then-branch-clause-value c = found_in_header c.args.self.now c.args.needle.now c.in_ok-main_fields_contain.field-0 c.in_ok-main_fields_contain.ensures.value c.if-branch.true
