use Rattle.std.proofs.Common.{None, Some, sym, subst}
use Rattle.sqlite.specs.declared.error.Error.{Error}
use Rattle.keep_sqlite.specs.Format.{kept_rows}
use Rattle.keep_sqlite.specs.Telling.{Writes}
use Rattle.keep_sqlite.specs.Knowing.{IsLastOf, Changed}
use Rattle.keep_sqlite.proofs.Knowing.{to_err, changed_none, changed_then, fetched_refused, fetched_writes}
use Rattle.keep_sqlite.proofs.database.Database.fetch_and_replace.Goals as goal

pub returns-in_err-_rows-clause-writes : goal.returns-in_err-_rows-clause-writes
returns-in_err-_rows-clause-writes g c old is =
    let bad = to_err _ c.from_residual.result c.from_residual.ensures.1 in
    subst (Writes {T = Unit {0}} {E = Error} g.S.Store (IsLastOf None) (λ _. kept_rows c.args.rows.now) old c.fetch.new.self.connection) (sym bad.1)
    (fetched_refused g.S.Store (λ _. kept_rows c.args.rows.now) old c.fetch.new.self.connection c.fetch.new.self.ours _ bad.0 (IsLastOf None) (c.in_err-_rows.ensures.fetches old is))

pub returns-in_err-_rows-clause-changed : goal.returns-in_err-_rows-clause-changed
returns-in_err-_rows-clause-changed g c =
    let bad = to_err _ c.from_residual.result c.from_residual.ensures.1 in
    subst (Changed {T = Unit {0}} {E = Error} g.S.Store (Some (kept_rows c.args.rows.now)) c.args.self.now c.fetch.new.self) (sym bad.1)
    (changed_none g.S.Store g.met.S.Store.settled g.met.S.Store.stays g.met.S.Store.shut_if_dirty c.args.self.now c.fetch.new.self (Some (kept_rows c.args.rows.now)) bad.0 c.fetch.ensures.fetched)

pub returns-clause-writes : goal.returns-clause-writes
returns-clause-writes g c old is =
    fetched_writes g.S.Store (λ _. kept_rows c.args.rows.now) old c.fetch.new.self.connection c.fetch.new.self.ours c.replace_all.result c.replace_all.new.self.connection c.in_ok-_rows._rows (c.in_ok-_rows.ensures.fetches old is) c.in_ok-_rows.ensures.told
    (λ h here. subst (λ n. Writes {T = Unit {0}} {E = Error} g.S.Store (IsLastOf n) (λ _. kept_rows c.args.rows.now) h c.replace_all.new.self.connection c.replace_all.result) c.in_ok-_rows.ensures.count (c.replace_all.ensures.writes h here))

pub returns-clause-changed : goal.returns-clause-changed
returns-clause-changed g c =
    changed_then g.S.Store g.met.S.Store.settled g.met.S.Store.stays g.met.S.Store.shut_if_dirty c.args.self.now c.fetch.new.self c.replace_all.new.self (λ _. Some (kept_rows c.args.rows.now))
    (λ k e. e) c.fetch.ensures.fetched c.replace_all.ensures.shut c.replace_all.result c.replace_all.ensures.changed
