use Rattle.std.proofs.Common.{Ok}
use Rattle.mail_view.specs.Emails.{blob_bytes}
use Rattle.message_texts.proofs.Found.{opened_texts}
use Rattle.message_texts.proofs.blob_texts.BlobTextsTexts2.open.Goals as goal

pub returns : goal.returns
returns c = opened_texts (Ok c.open_message.result) c.read_bytes.result.now (blob_bytes c.args.self.now.blobs.now.blobs c.args.blob) c.read_bytes.ensures c.open_message.ensures
