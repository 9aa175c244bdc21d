use Rattle.std.proofs.Common.{◌≡◌, IsTrue, sym, subst, rules}
use Rattle.sqlite.specs.State.{HasCleanDisk, Survives}
use Rattle.sqlite.specs.Held.{state}
use Rattle.keep_port.specs.declared.kept.Kept.{Kept}
use Rattle.keep_sqlite.specs.Format.{kept_rows}
use Rattle.keep_sqlite.specs.Telling.{Keeps, Leaves}
use Rattle.keep_sqlite.proofs.Replacing.{replaced_told, replaced_crash}
use Rattle.keep_sqlite.proofs.tables.replace.Goals as goal

pub returns-clause-told : goal.returns-clause-told
returns-clause-told g c clean k keeps =
    let old = c.args.connection.now in
    let end = c.commit.new.self.0 in
    let same : end ≡ c.connection-2-1.given.0 = search rules in
    let late : HasCleanDisk (state g.S.Store end) = subst (λ h. HasCleanDisk (state g.S.Store h)) (sym same) clean in
    let done = replaced_told g.S.Store old c.transaction-tx.result.conn.now c.delete_all.new.tx.conn.now c.insert_all.new.tx.conn.now c.transaction-tx.ensures.begun c.args.rows.now c.in_ok-last.last
    c.in_ok-delete_all.ensures.told c.in_ok-delete_all.ensures.inside c.delete_all.ensures.crash c.in_ok-last.ensures.told c.insert_all.ensures.crash end c.commit.ensures.survives late (c.in_ok-commit.ensures.ok late).1 k keeps in
    (done.0, subst (λ h. Keeps (state g.S.Store h) (kept_rows c.args.rows.now)) same done.1)

pub returns-clause-crash : goal.returns-clause-crash
returns-clause-crash g c =
    let old = c.args.connection.now in
    let end = c.commit.new.self.0 in
    let same : end ≡ c.connection-2-1.given.0 = search rules in
    subst (λ h. Survives (state g.S.Store old) (state g.S.Store h) (λ db. IsTrue (state g.S.Store old).is_open × ((k : Kept) → Keeps (state g.S.Store old) k → Leaves db (kept_rows c.args.rows.now)))) same
    (replaced_crash g.S.Store old c.transaction-tx.result.conn.now c.delete_all.new.tx.conn.now c.insert_all.new.tx.conn.now c.transaction-tx.ensures.begun c.args.rows.now c.in_ok-last.last
    c.in_ok-delete_all.ensures.told c.in_ok-delete_all.ensures.inside c.delete_all.ensures.crash c.in_ok-last.ensures.told c.insert_all.ensures.crash end c.commit.ensures.survives)

pub returns-in_err-commit-clause-crash : goal.returns-in_err-commit-clause-crash
returns-in_err-commit-clause-crash g c =
    let old = c.args.connection.now in
    let end = c.commit.new.self.0 in
    let same : end ≡ c.connection-2-1.given.0 = search rules in
    subst (λ h. Survives (state g.S.Store old) (state g.S.Store h) (λ db. IsTrue (state g.S.Store old).is_open × ((k : Kept) → Keeps (state g.S.Store old) k → Leaves db (kept_rows c.args.rows.now)))) same
    (replaced_crash g.S.Store old c.transaction-tx.result.conn.now c.delete_all.new.tx.conn.now c.insert_all.new.tx.conn.now c.transaction-tx.ensures.begun c.args.rows.now c.in_ok-last.last
    c.in_ok-delete_all.ensures.told c.in_ok-delete_all.ensures.inside c.delete_all.ensures.crash c.in_ok-last.ensures.told c.insert_all.ensures.crash end c.commit.ensures.survives)
