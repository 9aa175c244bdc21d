use Rattle.std.proofs.Common.{◌≡◌, Some, Ok, Err, IsTrue, sym, ap, subst, ◌∙◌}
use Rattle.sqlite.specs.declared.error.Error.{Error}
use Rattle.sqlite.specs.Held.{Held, state}
use Rattle.keep_sqlite.specs.Format.{kept_rows}
use Rattle.keep_sqlite.specs.Telling.{Writes}
use Rattle.keep_sqlite.specs.Knowing.{DatabaseView, IsLastOf, Changed}
use Rattle.keep_sqlite.proofs.Appending.{same_held}
use Rattle.keep_sqlite.proofs.Knowing.{one_some, clean_open, writes_rows, writes_ok_as, writes_err_as, to_err, sound_replaced, sound_not_replaced, changed_by_replace, changed_by_no_replace}
use Rattle.keep_sqlite.proofs.database.Database.replace_all.Goals as goal

pub invariant_of-self-in_err-replace : goal.invariant_of-self-in_err-replace
invariant_of-self-in_err-replace g c =
    let v : DatabaseView g.row.S.Denot g.row.O.Denot = record { opener = c.self.inside.opener; connection = c.self.inside.connection; last = c.self.inside.last; ours = c.self.inside.ours; known = c.self.inside.known } in
    sound_not_replaced g.S.Store g.met.S.Store.settled g.met.S.Store.stays g.met.S.Store.shut_if_dirty c.args.rows.now v c.in-Some.connection c.replace.new.connection c.self.invariant c.in-Some.is {T = Unit {0}} {E = Error} c.in_err-replace.field-0.0
    (writes_err_as g.S.Store (IsLastOf v.last) (λ _. kept_rows c.args.rows.now) c.in-Some.connection (Some c.replace.new.connection) c.in_err-replace.field-0.0 c.in_err-replace.field-0.0
    (writes_rows g.S.Store g.met.S.Store.settled (Err c.in_err-replace.field-0.0) c.args.rows.now v.last c.in-Some.connection c.replace.new.connection c.in_err-replace.ensures.told c.in_err-replace.ensures.refused c.in_err-replace.ensures.opened c.replace.ensures.shut c.replace.ensures.crash))

pub returns-in_err-replace-clause-shut : goal.returns-in_err-replace-clause-shut
returns-in_err-replace-clause-shut g c is_open =
    let h : Held g.row.S.Denot = c.replace.new.connection in
    let same : h ≡ is_open.0 = one_some h is_open.0 is_open.1 in
    let now = subst (λ x. IsTrue (state g.S.Store x).is_open) (sym same) is_open.2 in
    (c.in-Some.connection, ap (λ (x : DatabaseView g.row.S.Denot g.row.O.Denot). x.connection) (sym c.self.view_is) ∙ c.in-Some.is, c.replace.ensures.shut (clean_open g.S.Store g.met.S.Store.settled g.met.S.Store.stays g.met.S.Store.shut_if_dirty h now) now)

pub returns-in_err-replace-clause-writes : goal.returns-in_err-replace-clause-writes
returns-in_err-replace-clause-writes g c =
    let v : DatabaseView g.row.S.Denot g.row.O.Denot = record { opener = c.self.inside.opener; connection = c.self.inside.connection; last = c.self.inside.last; ours = c.self.inside.ours; known = c.self.inside.known } in
    let bad = to_err _ c.from_residual.result c.from_residual.ensures.1 in
    subst (λ x. (old : Held g.row.S.Denot) → x.connection ≡ Some old → Writes {T = Unit {0}} {E = Error} g.S.Store (IsLastOf x.last) (λ _. kept_rows c.args.rows.now) old (Some c.replace.new.connection) c.from_residual.result) c.self.view_is
    (λ old is. subst (Writes {T = Unit {0}} {E = Error} g.S.Store (IsLastOf v.last) (λ _. kept_rows c.args.rows.now) old (Some c.replace.new.connection)) (sym bad.1)
    (subst (λ h. Writes {T = Unit {0}} {E = Error} g.S.Store (IsLastOf v.last) (λ _. kept_rows c.args.rows.now) h (Some c.replace.new.connection) (Err bad.0)) (same_held v.connection c.in-Some.connection old c.in-Some.is is)
    (writes_err_as g.S.Store (IsLastOf v.last) (λ _. kept_rows c.args.rows.now) c.in-Some.connection (Some c.replace.new.connection) c.in_err-replace.field-0.0 bad.0
    (writes_rows g.S.Store g.met.S.Store.settled (Err c.in_err-replace.field-0.0) c.args.rows.now v.last c.in-Some.connection c.replace.new.connection c.in_err-replace.ensures.told c.in_err-replace.ensures.refused c.in_err-replace.ensures.opened c.replace.ensures.shut c.replace.ensures.crash))))

pub returns-in_err-replace-clause-changed : goal.returns-in_err-replace-clause-changed
returns-in_err-replace-clause-changed g c =
    let v : DatabaseView g.row.S.Denot g.row.O.Denot = record { opener = c.self.inside.opener; connection = c.self.inside.connection; last = c.self.inside.last; ours = c.self.inside.ours; known = c.self.inside.known } in
    let bad = to_err _ c.from_residual.result c.from_residual.ensures.1 in
    let w : DatabaseView g.row.S.Denot g.row.O.Denot = record v { connection = Some c.replace.new.connection } in
    subst (λ x. Changed {T = Unit {0}} {E = Error} g.S.Store (Some (kept_rows c.args.rows.now)) x w c.from_residual.result) c.self.view_is
    (subst (Changed {T = Unit {0}} {E = Error} g.S.Store (Some (kept_rows c.args.rows.now)) v w) (sym bad.1)
    (changed_by_no_replace g.S.Store g.met.S.Store.settled g.met.S.Store.stays g.met.S.Store.shut_if_dirty c.args.rows.now v c.in-Some.connection c.replace.new.connection c.self.invariant c.in-Some.is bad.0
    (writes_err_as g.S.Store (IsLastOf v.last) (λ _. kept_rows c.args.rows.now) c.in-Some.connection (Some c.replace.new.connection) c.in_err-replace.field-0.0 bad.0
    (writes_rows g.S.Store g.met.S.Store.settled (Err c.in_err-replace.field-0.0) c.args.rows.now v.last c.in-Some.connection c.replace.new.connection c.in_err-replace.ensures.told c.in_err-replace.ensures.refused c.in_err-replace.ensures.opened c.replace.ensures.shut c.replace.ensures.crash))))

pub invariant_of-self-2 : goal.invariant_of-self-2
invariant_of-self-2 g c =
    let v : DatabaseView g.row.S.Denot g.row.O.Denot = record { opener = c.self.inside.opener; connection = c.self.inside.connection; last = c.self.inside.last; ours = c.self.inside.ours; known = c.self.inside.known } in
    sound_replaced g.S.Store g.met.S.Store.settled g.met.S.Store.stays g.met.S.Store.shut_if_dirty c.args.rows.now v c.in-Some.connection c.replace.new.connection c.self.invariant c.in-Some.is {T = Unit {0}} {E = Error} tt c.in_ok-replace.field-0 c.in_ok-replace.ensures.count
    (writes_ok_as g.S.Store (IsLastOf v.last) (λ _. kept_rows c.args.rows.now) c.in-Some.connection (Some c.replace.new.connection) c.in_ok-replace.field-0 tt
    (writes_rows g.S.Store g.met.S.Store.settled {E = Error} (Ok c.in_ok-replace.field-0) c.args.rows.now v.last c.in-Some.connection c.replace.new.connection c.in_ok-replace.ensures.told c.in_ok-replace.ensures.refused c.in_ok-replace.ensures.opened c.replace.ensures.shut c.replace.ensures.crash))

pub returns-clause-last : goal.returns-clause-last
returns-clause-last g c = ap Some c.in_ok-replace.ensures.count

pub returns-clause-shut : goal.returns-clause-shut
returns-clause-shut g c is_open =
    let h : Held g.row.S.Denot = c.replace.new.connection in
    let same : h ≡ is_open.0 = one_some h is_open.0 is_open.1 in
    let now = subst (λ x. IsTrue (state g.S.Store x).is_open) (sym same) is_open.2 in
    (c.in-Some.connection, ap (λ (x : DatabaseView g.row.S.Denot g.row.O.Denot). x.connection) (sym c.self.view_is) ∙ c.in-Some.is, c.replace.ensures.shut (clean_open g.S.Store g.met.S.Store.settled g.met.S.Store.stays g.met.S.Store.shut_if_dirty h now) now)

pub returns-clause-writes : goal.returns-clause-writes
returns-clause-writes g c =
    let v : DatabaseView g.row.S.Denot g.row.O.Denot = record { opener = c.self.inside.opener; connection = c.self.inside.connection; last = c.self.inside.last; ours = c.self.inside.ours; known = c.self.inside.known } in
    subst (λ x. (old : Held g.row.S.Denot) → x.connection ≡ Some old → Writes {T = Unit {0}} {E = Error} g.S.Store (IsLastOf x.last) (λ _. kept_rows c.args.rows.now) old (Some c.replace.new.connection) (Ok tt)) c.self.view_is
    (λ old is. subst (λ h. Writes {T = Unit {0}} {E = Error} g.S.Store (IsLastOf v.last) (λ _. kept_rows c.args.rows.now) h (Some c.replace.new.connection) (Ok tt)) (same_held v.connection c.in-Some.connection old c.in-Some.is is)
    (writes_ok_as g.S.Store (IsLastOf v.last) (λ _. kept_rows c.args.rows.now) c.in-Some.connection (Some c.replace.new.connection) c.in_ok-replace.field-0 tt
    (writes_rows g.S.Store g.met.S.Store.settled {E = Error} (Ok c.in_ok-replace.field-0) c.args.rows.now v.last c.in-Some.connection c.replace.new.connection c.in_ok-replace.ensures.told c.in_ok-replace.ensures.refused c.in_ok-replace.ensures.opened c.replace.ensures.shut c.replace.ensures.crash)))

pub returns-clause-changed : goal.returns-clause-changed
returns-clause-changed g c =
    let v : DatabaseView g.row.S.Denot g.row.O.Denot = record { opener = c.self.inside.opener; connection = c.self.inside.connection; last = c.self.inside.last; ours = c.self.inside.ours; known = c.self.inside.known } in
    let w : DatabaseView g.row.S.Denot g.row.O.Denot = record v { connection = Some c.replace.new.connection; last = Some c.in_ok-replace.field-0; known = v.ours } in
    subst (λ x. Changed {T = Unit {0}} {E = Error} g.S.Store (Some (kept_rows c.args.rows.now)) x w (Ok tt)) c.self.view_is
    (changed_by_replace g.S.Store g.met.S.Store.settled g.met.S.Store.stays g.met.S.Store.shut_if_dirty c.args.rows.now v c.in-Some.connection c.replace.new.connection c.self.invariant c.in-Some.is tt c.in_ok-replace.field-0 c.in_ok-replace.ensures.count
    (writes_ok_as g.S.Store (IsLastOf v.last) (λ _. kept_rows c.args.rows.now) c.in-Some.connection (Some c.replace.new.connection) c.in_ok-replace.field-0 tt
    (writes_rows g.S.Store g.met.S.Store.settled {E = Error} (Ok c.in_ok-replace.field-0) c.args.rows.now v.last c.in-Some.connection c.replace.new.connection c.in_ok-replace.ensures.told c.in_ok-replace.ensures.refused c.in_ok-replace.ensures.opened c.replace.ensures.shut c.replace.ensures.crash)))
