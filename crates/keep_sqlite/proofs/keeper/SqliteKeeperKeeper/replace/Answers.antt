use Rattle.std.proofs.Common.{◌≡◌, None, Some, sym, ap, subst, ◌∙◌}
use Rattle.keep_port.specs.declared.kept.Kept.{Kept}
use Rattle.keep_sqlite.specs.Format.{kept_rows}
use Rattle.keep_sqlite.specs.Telling.{Writes}
use Rattle.keep_sqlite.specs.Knowing.{IsLastOf, MayTell, Changed, content_of}
use Rattle.keep_sqlite.proofs.Answering.{content_answered, left_answered, changed_answered, writes_answered, rows_alone, none_of}
use Rattle.keep_sqlite.proofs.keeper.SqliteKeeperKeeper.replace.Goals as goal

pub returns-clause-kept : goal.returns-clause-kept
returns-clause-kept g c =
    let none : c.args.whole.now.base ≡ None = none_of c.args.whole.now.base (sym c.is_some.ensures ∙ c.if-is_some.false) in
    let whole : kept_rows c.as_slice.result.now ≡ c.args.whole.now = ap kept_rows c.as_slice.ensures ∙ rows_alone c.args.whole.now none in
    let changed = subst (λ k. Changed g.S.Store (Some k) c.args.self.now.database c.replace-done.new.self c.replace-done.result) whole c.replace-done.ensures.changed in
    content_answered (Some c.args.whole.now) (content_of g.S.Store c.args.self.now.database) (content_of g.S.Store c.replace-done.new.self) c.replace-done.result _ _ c.answer-2.result c.answer-2.ensures changed.content

pub returns-clause-image : goal.returns-clause-image
returns-clause-image g c =
    let none : c.args.whole.now.base ≡ None = none_of c.args.whole.now.base (sym c.is_some.ensures ∙ c.if-is_some.false) in
    let whole : kept_rows c.as_slice.result.now ≡ c.args.whole.now = ap kept_rows c.as_slice.ensures ∙ rows_alone c.args.whole.now none in
    let changed = subst (λ k. Changed g.S.Store (Some k) c.args.self.now.database c.replace-done.new.self c.replace-done.result) whole c.replace-done.ensures.changed in
    left_answered (Some c.args.whole.now) (MayTell g.S.Store c.args.self.now.database) (MayTell g.S.Store c.replace-done.new.self) c.replace-done.result _ _ c.answer-2.result c.answer-2.ensures changed.left

pub returns-clause-changed : goal.returns-clause-changed
returns-clause-changed g c none =
    let whole : kept_rows c.as_slice.result.now ≡ c.args.whole.now = ap kept_rows c.as_slice.ensures ∙ rows_alone c.args.whole.now none in
    let changed = subst (λ k. Changed g.S.Store (Some k) c.args.self.now.database c.replace-done.new.self c.replace-done.result) whole c.replace-done.ensures.changed in
    changed_answered g.S.Store (Some c.args.whole.now) c.args.self.now.database c.replace-done.new.self c.replace-done.result _ _ c.answer-2.result c.answer-2.ensures changed

pub returns-clause-writes : goal.returns-clause-writes
returns-clause-writes g c none old is =
    let whole : kept_rows c.as_slice.result.now ≡ c.args.whole.now = ap kept_rows c.as_slice.ensures ∙ rows_alone c.args.whole.now none in
    let writes = subst (λ (k : Kept). Writes g.S.Store (IsLastOf c.args.self.now.database.last) (λ _. k) old c.replace-done.new.self.connection c.replace-done.result) whole (c.replace-done.ensures.writes old is) in
    writes_answered g.S.Store (IsLastOf c.args.self.now.database.last) (λ _. c.args.whole.now) old c.replace-done.new.self.connection c.replace-done.result _ _ c.answer-2.result c.answer-2.ensures writes
