use Rattle.std.proofs.Common.{rules}
use Rattle.mail_records.specs.Histories.{IsSound, blobs_of}
use Rattle.blob_store.specs.Blobs.{AreBlobsFew}
use Rattle.tests_halls.proofs.Added.{added_from}
use Rattle.tests_halls.proofs.adding.is_added.Goals as goal

pub returns : goal.returns
returns c =
    let h = c.args.account.now.history in
    let sound : IsSound h = search rules in
    let few : AreBlobsFew (blobs_of h) = search rules in
    added_from c.is_within_limit.result h c.is_sound.ensures.founded sound few c.is_within_limit.ensures.within
