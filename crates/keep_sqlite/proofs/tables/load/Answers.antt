use Rattle.std.proofs.Common.{◌≡◌, [], sym, ap, subst, arith}
use Rattle.sqlite.specs.Held.{state}
use Rattle.keep_port.specs.declared.kept.Kept.{Kept}
use Rattle.keep_sqlite.specs.Format.{our_schema, kept_rows}
use Rattle.keep_sqlite.specs.Telling.{Keeps}
use Rattle.keep_sqlite.proofs.Loading.{kept_by_load, kept_by_read, survives_making, survives_load, one_content, never_ok, is_true_if_ok}
use Rattle.keep_sqlite.proofs.Querying.{on_err_any}
use Rattle.keep_sqlite.proofs.tables.load.Goals as goal

pub returns-clause-found : goal.returns-clause-found
returns-clause-found g c = λ clean ours.
    let mid = state g.S.Store c.prepare.new.connection in
    let new = state g.S.Store c.read.new.connection in
    let known = c.in_ok-ours.ensures.ours ours in
    let read = c.in_ok-found.ensures.found clean known.0 in
    subst (λ all. Keeps new (kept_rows all)) (sym c.from_vec.ensures)
    (kept_by_load mid new c.in_ok-found.found.items c.in_ok-rows.rows.items known.0 known.1 read.0 read.1 c.in_ok-rows.ensures)

pub returns-clause-still : goal.returns-clause-still
returns-clause-still g c clean k keeps =
    let mid = state g.S.Store c.prepare.new.connection in
    let new = state g.S.Store c.read.new.connection in
    let same = c.prepare.ensures.same keeps.shows.now.ours in
    let here = subst (λ h. Keeps (state g.S.Store h) k) (sym same.1) keeps in
    let ours = is_true_if_ok c.prepare.result c.in_ok-ours.ours c.in_ok-ours.was same.0 in
    let after = kept_by_read mid new k here (c.in_ok-found.ensures.found clean here.shows.now.ours).1 in (
      ours,
      one_content new k (kept_rows c.from_vec.result) after (returns-clause-found g c clean ours),
    )

pub returns-clause-crash : goal.returns-clause-crash
returns-clause-crash g c =
    let same = λ (ours : c.args.connection.now.schema ≡ our_schema). (c.prepare.ensures.same ours).1 in
    survives_load g.S.Store c.args.connection.now c.prepare.new.connection c.read.new.connection same c.prepare.ensures.shut c.prepare.ensures.crash c.read.ensures.crash

pub returns-clause-blank : goal.returns-clause-blank
returns-clause-blank g c clean none =
    let mid = state g.S.Store c.prepare.new.connection in
    let new = state g.S.Store c.read.new.connection in
    let made = c.in_ok-ours.ensures.made (omega (arith, c.read.ensures.crash.clean, clean)) none in
    let after = kept_by_read mid new (kept_rows []) made.1 (c.in_ok-found.ensures.found clean made.1.shows.now.ours).1 in
    let same = one_content new (kept_rows []) (kept_rows c.from_vec.result) after (returns-clause-found g c clean made.0) in
    (made.0, sym (ap (λ (k : Kept). k.rows) same))

pub returns-in_err-ours-clause-refused : goal.returns-in_err-ours-clause-refused
returns-in_err-ours-clause-refused g c clean k keeps = absurd (never_ok c.prepare.result _ _ c.in_err-ours.was (c.prepare.ensures.same keeps.shows.now.ours).0)

pub returns-in_err-ours-clause-crash : goal.returns-in_err-ours-clause-crash
returns-in_err-ours-clause-crash g c = survives_making (state g.S.Store c.args.connection.now) (state g.S.Store c.prepare.new.connection) c.prepare.ensures.crash

pub returns-in_err-found-clause-refused : goal.returns-in_err-found-clause-refused
returns-in_err-found-clause-refused g c clean k keeps =
    let same = (c.prepare.ensures.same keeps.shows.now.ours).1 in
    let here = subst (λ h. Keeps (state g.S.Store h) k) (sym same) keeps in
    on_err_any c.from_residual-in_err-found.result (c.in_err-found.ensures.refused clean k here)

pub returns-in_err-found-clause-crash : goal.returns-in_err-found-clause-crash
returns-in_err-found-clause-crash g c =
    let same = λ (ours : c.args.connection.now.schema ≡ our_schema). (c.prepare.ensures.same ours).1 in
    survives_load g.S.Store c.args.connection.now c.prepare.new.connection c.read.new.connection same c.prepare.ensures.shut c.prepare.ensures.crash c.read.ensures.crash

pub returns-in_err-rows-clause-refused : goal.returns-in_err-rows-clause-refused
returns-in_err-rows-clause-refused g c clean k keeps =
    let mid = state g.S.Store c.prepare.new.connection in
    let new = state g.S.Store c.read.new.connection in
    let same = (c.prepare.ensures.same keeps.shows.now.ours).1 in
    let here = subst (λ h. Keeps (state g.S.Store h) k) (sym same) keeps in
    on_err_any c.from_residual-in_err-rows.result (λ is_open. kept_by_read mid new k here (c.in_ok-found.ensures.found clean here.shows.now.ours).1)

pub returns-in_err-rows-clause-crash : goal.returns-in_err-rows-clause-crash
returns-in_err-rows-clause-crash g c =
    let same = λ (ours : c.args.connection.now.schema ≡ our_schema). (c.prepare.ensures.same ours).1 in
    survives_load g.S.Store c.args.connection.now c.prepare.new.connection c.read.new.connection same c.prepare.ensures.shut c.prepare.ensures.crash c.read.ensures.crash

pub returns-clause-shut : goal.returns-clause-shut
returns-clause-shut g c clean is_open = c.prepare.ensures.shut (omega (arith, c.read.ensures.crash.clean, clean)) (c.read.ensures.shut clean is_open)

pub returns-in_err-found-clause-shut : goal.returns-in_err-found-clause-shut
returns-in_err-found-clause-shut g c clean is_open = c.prepare.ensures.shut (omega (arith, c.read.ensures.crash.clean, clean)) (c.read.ensures.shut clean is_open)

pub returns-in_err-rows-clause-shut : goal.returns-in_err-rows-clause-shut
returns-in_err-rows-clause-shut g c clean is_open = c.prepare.ensures.shut (omega (arith, c.read.ensures.crash.clean, clean)) (c.read.ensures.shut clean is_open)
