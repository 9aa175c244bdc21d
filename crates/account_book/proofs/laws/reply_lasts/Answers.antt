use Rattle.account_book.proofs.Lasting.{IsReply-grown_by}
use Rattle.account_book.proofs.laws.reply_lasts.Goals as goal

pub returns : goal.returns
returns c = IsReply-grown_by
