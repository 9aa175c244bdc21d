use Rattle.message_texts.proofs.Stay.{emails_same, same_texts}
use Rattle.message_texts.proofs.laws.texts_stay_as_blobs_are_added.Goals as goal

pub returns : goal.returns
returns c = record { blob = same_texts; emails = emails_same }
