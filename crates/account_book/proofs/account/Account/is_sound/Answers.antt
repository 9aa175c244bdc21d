use Rattle.std.proofs.Common.{◌↔◌, ◌+◌, IsTrue, subst}
use Rattle.mail_records.specs.Contents.{NextAtMost}
use Rattle.mail_records.specs.Histories.{IsSound, content_of, end_of}
use Rattle.account_book.proofs.Keeping.{next_of_end, sound_is}
use Rattle.account_book.proofs.account.Account.is_sound.Goals as goal

pub returns-clause-sound : goal.returns-clause-sound
returns-clause-sound c = subst (λ v. IsTrue c.self.inside.keeps_threads ↔ IsSound v.history) c.self.view_is (sound_is _ _ _ _ _ _ _ _ c.self.invariant)

pub returns-clause-next : goal.returns-clause-next
returns-clause-next c = subst (λ v. NextAtMost (end_of v.history + 1) (content_of v.history)) c.self.view_is (next_of_end _ _ _ _ _ _ _ _ c.self.invariant)
