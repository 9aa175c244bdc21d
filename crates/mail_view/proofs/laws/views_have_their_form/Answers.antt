use Rattle.mail_view.proofs.Formed.{views_have_their_form}
use Rattle.mail_view.proofs.laws.views_have_their_form.Goals as goal

pub returns : goal.returns
returns c = views_have_their_form
