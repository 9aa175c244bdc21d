use Rattle.std.proofs.Common.{None, sym, subst, ◌∙◌}
use Rattle.sqlite.specs.declared.error.Error.{Error}
use Rattle.keep_port.specs.Keeping.{with_row, with_row_if}
use Rattle.keep_sqlite.specs.Format.{kept_rows}
use Rattle.keep_sqlite.specs.Telling.{Writes}
use Rattle.keep_sqlite.specs.Knowing.{IsLastOf, Changed, content_of}
use Rattle.keep_sqlite.proofs.Knowing.{to_err, changed_none, changed_then, fetched_refused, fetched_writes, first_told, on_ok_given, on_ok_map, row_rises}
use Rattle.keep_sqlite.proofs.database.Database.fetch_and_append.Goals as goal

pub returns-in_err-_rows-clause-writes : goal.returns-in_err-_rows-clause-writes
returns-in_err-_rows-clause-writes g c old is =
    let bad = to_err _ c.from_residual.result c.from_residual.ensures.1 in
    subst (Writes {T = Unit {0}} {E = Error} g.S.Store (IsLastOf None) (with_row c.args.row.now) old c.fetch.new.self.connection) (sym bad.1)
    (fetched_refused g.S.Store (with_row c.args.row.now) old c.fetch.new.self.connection c.fetch.new.self.ours _ bad.0 (IsLastOf None) (c.in_err-_rows.ensures.fetches old is))

pub returns-in_err-_rows-clause-changed : goal.returns-in_err-_rows-clause-changed
returns-in_err-_rows-clause-changed g c =
    let bad = to_err _ c.from_residual.result c.from_residual.ensures.1 in
    subst (Changed {T = Unit {0}} {E = Error} g.S.Store (with_row_if c.args.row.now (content_of g.S.Store c.args.self.now)) c.args.self.now c.fetch.new.self) (sym bad.1)
    (changed_none g.S.Store g.met.S.Store.settled g.met.S.Store.stays g.met.S.Store.shut_if_dirty c.args.self.now c.fetch.new.self (with_row_if c.args.row.now (content_of g.S.Store c.args.self.now)) bad.0 c.fetch.ensures.fetched)

pub returns-clause-writes : goal.returns-clause-writes
returns-clause-writes g c old is =
    fetched_writes g.S.Store (with_row c.args.row.now) old c.fetch.new.self.connection c.fetch.new.self.ours c.append_next.result c.append_next.new.self.connection c.in_ok-_rows._rows (c.in_ok-_rows.ensures.fetches old is) c.in_ok-_rows.ensures.told
    (λ h here. subst (λ n. Writes {T = Unit {0}} {E = Error} g.S.Store (IsLastOf n) (with_row c.args.row.now) h c.append_next.new.self.connection c.append_next.result) c.in_ok-_rows.ensures.count (c.append_next.ensures.writes h here))

pub returns-clause-changed : goal.returns-clause-changed
returns-clause-changed g c =
    changed_then g.S.Store g.met.S.Store.settled g.met.S.Store.stays g.met.S.Store.shut_if_dirty c.args.self.now c.fetch.new.self c.append_next.new.self (with_row_if c.args.row.now)
    (row_rises c.args.row.now (content_of g.S.Store c.args.self.now) (content_of g.S.Store c.fetch.new.self) c.fetch.ensures.fetched.content) c.fetch.ensures.fetched c.append_next.ensures.shut c.append_next.result c.append_next.ensures.changed

pub returns-clause-first : goal.returns-clause-first
returns-clause-first g c new is clean = on_ok_given _ _ c.append_next.result (λ mine.
    let it = first_told g.S.Store (with_row c.args.row.now) c.fetch.new.self.connection c.append_next.new.self.connection c.fetch.new.self.ours c.in_ok-_rows._rows c.append_next.result c.in_ok-_rows.ensures.there c.in_ok-_rows.ensures.told
    (λ h here. subst (λ n. Writes {T = Unit {0}} {E = Error} g.S.Store (IsLastOf n) (with_row c.args.row.now) h c.append_next.new.self.connection c.append_next.result) c.in_ok-_rows.ensures.count (c.append_next.ensures.writes h here)) new is clean (sym c.append_next.ensures.ours ∙ mine) in
    on_ok_map c.append_next.result (λ keeps. (kept_rows c.in_ok-_rows._rows, keeps)) it)
