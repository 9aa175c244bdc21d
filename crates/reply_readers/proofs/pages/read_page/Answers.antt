use Rattle.reply_readers.specs.Pages.{page_places}
use Rattle.jm_json.specs.Json.{tree_of}
use Rattle.reply_readers.proofs.Formed.{formed}
use Rattle.reply_readers.proofs.pages.read_page.Goals as goal

pub returns-in-None-clause-form : goal.returns-in-None-clause-form
returns-in-None-clause-form c =
    formed c.read_valid.result c.in_ok-place.field-0 (page_places c.args.kind c.args.account.now c.args.since c.args.pointer.now (tree_of c.args.args.now)) c.in-None.is c.in_ok-place.ensures
