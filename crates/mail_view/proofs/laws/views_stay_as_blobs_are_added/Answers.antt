use Rattle.mail_view.proofs.Staying.{gets_stay, view_stays, views_stay}
use Rattle.mail_view.proofs.laws.views_stay_as_blobs_are_added.Goals as goal

pub returns : goal.returns
returns c = record { view = view_stays; views = views_stay; gets = gets_stay }
