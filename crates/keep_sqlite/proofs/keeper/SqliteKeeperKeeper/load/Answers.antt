use Rattle.std.proofs.Common.{◌≡◌, Some, OnOk, sym, subst, ◌∙◌}
use Rattle.sqlite.specs.State.{HasCleanDisk}
use Rattle.sqlite.specs.Held.{state}
use Rattle.keep_port.specs.Keeping.{content_loaded}
use Rattle.keep_sqlite.specs.Telling.{Fetches}
use Rattle.keep_sqlite.specs.Knowing.{Loaded, content_of}
use Rattle.keep_sqlite.proofs.Appending.{same_held}
use Rattle.keep_sqlite.proofs.Answering.{answered_ok, answered_err, content_of_load}
use Rattle.keep_sqlite.proofs.Knowing.{to_err}
use Rattle.keep_sqlite.proofs.keeper.SqliteKeeperKeeper.load.Goals as goal

pub returns-in_err-rows-clause-kept : goal.returns-in_err-rows-clause-kept
returns-in_err-rows-clause-kept g c k is =
    let bad = to_err _ c.from_residual.result c.from_residual.ensures.1 in
    let failed = answered_err c.load.result _ _ c.answer.result _ c.answer.ensures c.in_err-rows.was in
    let loaded = subst (Loaded g.S.Store c.args.self.now.database c.load.new.self) failed.1 c.load.ensures.loaded in
    subst (λ r. content_loaded r (content_of g.S.Store c.args.self.now.database) ≡ Some k) (sym bad.1) (loaded.content k is)

pub returns-clause-kept : goal.returns-clause-kept
returns-clause-kept g c =
    let done = answered_ok c.load.result _ _ c.answer.result c.in_ok-rows.rows c.answer.ensures c.in_ok-rows.was in
    let loaded = subst (Loaded g.S.Store c.args.self.now.database c.load.new.self) done c.load.ensures.loaded in
    content_of_load c.in_ok-rows.rows (content_of g.S.Store c.args.self.now.database) (content_of g.S.Store c.load.new.self) loaded.loaded loaded.content

pub returns-clause-blank : goal.returns-clause-blank
returns-clause-blank g c old new is none here clean =
    let done = answered_ok c.load.result _ _ c.answer.result c.in_ok-rows.rows c.answer.ensures c.in_ok-rows.was in
    let found = subst (Fetches g.S.Store old c.load.new.self.connection c.load.new.self.ours) done (c.load.ensures.fetches old is) in
    let same = same_held c.load.new.self.connection found.new new found.is here in
    let made = found.blank (subst (λ h. HasCleanDisk (state g.S.Store h)) (sym same) clean) none in
    let learns = subst (λ r. OnOk r (c.load.new.self.known ≡ c.load.new.self.ours)) done c.load.ensures.learns in
    (learns ∙ made.0, made.1)
