use Rattle.sqlite.specs.Held.{state}
use Rattle.keep_sqlite.proofs.Texts.{commits_text, commits_plain}
use Rattle.keep_sqlite.proofs.Querying.{commits_found, left_by_query, kept_by_query, if_ok_then, if_err_then, on_ok_from, either_way, shown_open, failed_open}
use Rattle.keep_sqlite.proofs.tables.query_commits.Goals as goal

pub returns-clause-found : goal.returns-clause-found
returns-clause-found g c clean ours =
    let old = state g.S.Store c.args.tx.now.conn.now in
    let new = state g.S.Store c.query_all.new.self.conn.now in
    if_ok_then c.query_all.result (λ rows h. (commits_found old new rows.items ours h, left_by_query commits_text old new rows.items ours commits_plain h)) (c.query_all.ensures.ok clean)

pub returns-clause-keeps : goal.returns-clause-keeps
returns-clause-keeps g c clean ours =
    let old = state g.S.Store c.args.tx.now.conn.now in
    let new = state g.S.Store c.query_all.new.self.conn.now in
    if_err_then c.query_all.result (λ e h. kept_by_query commits_text old new e ours commits_plain h) (c.query_all.ensures.err clean)

pub returns-clause-opened : goal.returns-clause-opened
returns-clause-opened g c clean =
    let old = state g.S.Store c.args.tx.now.conn.now in
    let new = state g.S.Store c.query_all.new.self.conn.now in
    on_ok_from c.query_all.result (λ rows h. shown_open commits_text old new rows.items h) (c.query_all.ensures.ok clean)

pub returns-clause-shut : goal.returns-clause-shut
returns-clause-shut g c clean is_open =
    let old = state g.S.Store c.args.tx.now.conn.now in
    let new = state g.S.Store c.query_all.new.self.conn.now in
    either_way c.query_all.result (λ rows h. shown_open commits_text old new rows.items h) (λ e h. failed_open commits_text old new e h is_open) (c.query_all.ensures.ok clean) (c.query_all.ensures.err clean)
