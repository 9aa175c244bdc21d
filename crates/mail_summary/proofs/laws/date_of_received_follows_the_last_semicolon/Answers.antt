use Rattle.mail_summary.proofs.Semicolons.{date_after, field_date, message_date}
use Rattle.mail_summary.proofs.laws.date_of_received_follows_the_last_semicolon.Goals as goal

pub returns : goal.returns
returns c = record { text = date_after; field = field_date; message = message_date }
