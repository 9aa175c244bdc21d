use Rattle.mail_view.proofs.ClientGets.{gets_show_views, ids_name}
use Rattle.mail_view.proofs.laws.client_gets_are_answered_with_views.Goals as goal

pub returns : goal.returns
returns c = record { ids = ids_name; gets = gets_show_views }
