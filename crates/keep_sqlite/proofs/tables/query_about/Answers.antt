use Rattle.std.proofs.Common.{inl, subst}
use Rattle.sqlite.specs.Held.{state}
use Rattle.sqlite.proofs.InsideLemmas.{unchanged_keeps}
use Rattle.keep_sqlite.specs.Format.{ShowsFormat}
use Rattle.keep_sqlite.proofs.Texts.{about_text, about_plain}
use Rattle.keep_sqlite.proofs.Reading.{format_named}
use Rattle.keep_sqlite.proofs.Querying.{about_found, left_by_query, kept_by_query, on_ok_then, on_ok_any, on_err_any, shown_open, failed_open}
use Rattle.keep_sqlite.proofs.tables.query_about.Goals as goal

pub returns-in_err-about-clause-keeps : goal.returns-in_err-about-clause-keeps
returns-in_err-about-clause-keeps g c clean ours =
    let old = state g.S.Store c.args.tx.now.conn.now in
    let new = state g.S.Store c.query_all.new.self.conn.now in
    on_err_any c.from_residual.result (kept_by_query about_text old new _ ours about_plain (c.in_err-about.ensures.err clean))

pub returns-clause-found : goal.returns-clause-found
returns-clause-found g c clean ours =
    let old = state g.S.Store c.args.tx.now.conn.now in
    let new = state g.S.Store c.query_all.new.self.conn.now in
    let rows = c.in_ok-about.about.items in
    let shown = c.in_ok-about.ensures.ok clean in
    on_ok_then c.check_about.result (λ h. (format_named (old.now.trees 0) rows (about_found old new rows ours shown) (subst ShowsFormat c.as_slice.ensures.value h), left_by_query about_text old new rows ours about_plain shown)) c.check_about.ensures

pub returns-clause-keeps : goal.returns-clause-keeps
returns-clause-keeps g c clean ours =
    let old = state g.S.Store c.args.tx.now.conn.now in
    let new = state g.S.Store c.query_all.new.self.conn.now in
    on_err_any c.check_about.result (unchanged_keeps old new (inl (left_by_query about_text old new c.in_ok-about.about.items ours about_plain (c.in_ok-about.ensures.ok clean))))

pub returns-in_err-about-clause-shut : goal.returns-in_err-about-clause-shut
returns-in_err-about-clause-shut g c clean is_open =
    let old = state g.S.Store c.args.tx.now.conn.now in
    let new = state g.S.Store c.query_all.new.self.conn.now in
    failed_open about_text old new _ (c.in_err-about.ensures.err clean) is_open

pub returns-clause-opened : goal.returns-clause-opened
returns-clause-opened g c clean =
    let old = state g.S.Store c.args.tx.now.conn.now in
    let new = state g.S.Store c.query_all.new.self.conn.now in
    on_ok_any c.check_about.result (shown_open about_text old new c.in_ok-about.about.items (c.in_ok-about.ensures.ok clean))

pub returns-clause-shut : goal.returns-clause-shut
returns-clause-shut g c clean is_open =
    let old = state g.S.Store c.args.tx.now.conn.now in
    let new = state g.S.Store c.query_all.new.self.conn.now in
    shown_open about_text old new c.in_ok-about.about.items (c.in_ok-about.ensures.ok clean)
