use Rattle.mail_records.proofs.Moved.{content_of-moved_up, blobs_of-moved_up, end_of-moved_up, content_at-moved_up, state_at-moved_up, state_of-moved_up, IsFounded-moved_up, IsSound-moved_up}
use Rattle.account_book.proofs.laws.history_outlasts_floor.Goals as goal

pub returns-clause-content : goal.returns-clause-content
returns-clause-content c = content_of-moved_up

pub returns-clause-blobs : goal.returns-clause-blobs
returns-clause-blobs c = blobs_of-moved_up

pub returns-clause-end : goal.returns-clause-end
returns-clause-end c = end_of-moved_up

pub returns-clause-content_at : goal.returns-clause-content_at
returns-clause-content_at c = content_at-moved_up

pub returns-clause-state_at : goal.returns-clause-state_at
returns-clause-state_at c = state_at-moved_up

pub returns-clause-state_of : goal.returns-clause-state_of
returns-clause-state_of c = state_of-moved_up

pub returns-clause-founded : goal.returns-clause-founded
returns-clause-founded c = IsFounded-moved_up

pub returns-clause-sound : goal.returns-clause-sound
returns-clause-sound c = IsSound-moved_up
