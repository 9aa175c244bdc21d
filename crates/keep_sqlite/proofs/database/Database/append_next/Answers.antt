use Rattle.std.proofs.Common.{◌≡◌, Some, Ok, Err, IsTrue, sym, ap, subst, ◌∙◌}
use Rattle.sqlite.specs.declared.error.Error.{Error}
use Rattle.sqlite.specs.Held.{Held, state}
use Rattle.keep_port.specs.Keeping.{with_row, with_row_if}
use Rattle.keep_sqlite.specs.Telling.{Writes}
use Rattle.keep_sqlite.specs.Knowing.{DatabaseView, IsLastOf, Changed, content_of}
use Rattle.keep_sqlite.proofs.Appending.{same_held}
use Rattle.keep_sqlite.proofs.Knowing.{one_some, clean_open, changed_nothing, writes_none, writes_row, to_err, sound_appended, sound_refused, changed_by_append, changed_by_refusal}
use Rattle.keep_sqlite.proofs.database.Database.append_next.Goals as goal

pub returns-in_default-clause-writes : goal.returns-in_default-clause-writes
returns-in_default-clause-writes g c old is = writes_none g.S.Store (IsLastOf c.args.self.now.last) (with_row c.args.row.now) old c.args.self.now.connection _ is

pub returns-in_default-clause-changed : goal.returns-in_default-clause-changed
returns-in_default-clause-changed g c =
    let v : DatabaseView g.row.S.Denot g.row.O.Denot = record { opener = c.self.inside.opener; connection = c.self.inside.connection; last = c.self.inside.last; ours = c.self.inside.ours; known = c.self.inside.known } in
    subst (λ x. Changed {T = Unit {0}} {E = Error} g.S.Store (with_row_if c.args.row.now (content_of g.S.Store x)) x x (Err _)) c.self.view_is (changed_nothing g.S.Store g.met.S.Store.settled g.met.S.Store.stays g.met.S.Store.shut_if_dirty v (with_row_if c.args.row.now (content_of g.S.Store v)) _ c.self.invariant)

pub returns-in_err-number-clause-shut : goal.returns-in_err-number-clause-shut
returns-in_err-number-clause-shut g c is_open =
    (is_open.0, ap (λ (x : DatabaseView g.row.S.Denot g.row.O.Denot). x.connection) (sym c.self.view_is) ∙ c.in-Some-connection.is ∙ is_open.1, is_open.2)

pub returns-in_err-number-clause-writes : goal.returns-in_err-number-clause-writes
returns-in_err-number-clause-writes g c old is =
    let bad = to_err _ c.from_residual.result c.from_residual.ensures.1 in
    let here : Some c.in-Some-connection.connection ≡ Some old = sym c.in-Some-connection.is ∙ ap (λ (x : DatabaseView g.row.S.Denot g.row.O.Denot). x.connection) c.self.view_is ∙ is in
    subst (Writes {T = Unit {0}} {E = Error} g.S.Store (IsLastOf c.args.self.now.last) (with_row c.args.row.now) old (Some c.in-Some-connection.connection)) (sym bad.1) (writes_none g.S.Store (IsLastOf c.args.self.now.last) (with_row c.args.row.now) old (Some c.in-Some-connection.connection) bad.0 here)

pub returns-in_err-number-clause-changed : goal.returns-in_err-number-clause-changed
returns-in_err-number-clause-changed g c =
    let v : DatabaseView g.row.S.Denot g.row.O.Denot = record { opener = c.self.inside.opener; connection = c.self.inside.connection; last = c.self.inside.last; ours = c.self.inside.ours; known = c.self.inside.known } in
    let bad = to_err _ c.from_residual.result c.from_residual.ensures.1 in
    let w : DatabaseView g.row.S.Denot g.row.O.Denot = record v { connection = Some c.in-Some-connection.connection } in
    let same : v ≡ w = ap (λ x. let y : DatabaseView g.row.S.Denot g.row.O.Denot = record v { connection = x } in y) c.in-Some-connection.is in
    subst (λ x. Changed {T = Unit {0}} {E = Error} g.S.Store (with_row_if c.args.row.now (content_of g.S.Store x)) x w c.from_residual.result) c.self.view_is
    (subst (Changed {T = Unit {0}} {E = Error} g.S.Store (with_row_if c.args.row.now (content_of g.S.Store v)) v w) (sym bad.1)
    (subst (λ x. Changed {T = Unit {0}} {E = Error} g.S.Store (with_row_if c.args.row.now (content_of g.S.Store v)) v x (Err bad.0)) same (changed_nothing g.S.Store g.met.S.Store.settled g.met.S.Store.stays g.met.S.Store.shut_if_dirty v (with_row_if c.args.row.now (content_of g.S.Store v)) bad.0 c.self.invariant)))

pub invariant_of-self-in_err-append : goal.invariant_of-self-in_err-append
invariant_of-self-in_err-append g c =
    let v : DatabaseView g.row.S.Denot g.row.O.Denot = record { opener = c.self.inside.opener; connection = c.self.inside.connection; last = c.self.inside.last; ours = c.self.inside.ours; known = c.self.inside.known } in
    sound_refused g.S.Store g.met.S.Store.settled g.met.S.Store.stays g.met.S.Store.shut_if_dirty c.args.row.now v c.in-Some-connection.connection c.append.new.connection c.self.invariant c.in-Some-connection.is c.in_err-append.field-0.0
    (writes_row g.S.Store g.met.S.Store.settled {T = Unit {0}} {E = Error} (Err c.in_err-append.field-0.0) c.args.row.now v.last c.in-Some.last c.in_ok-number.number c.in-Some-connection.connection c.append.new.connection c.in-Some.is c.in_ok-number.ensures c.in_err-append.ensures.told c.in_err-append.ensures.refused c.in_err-append.ensures.opened c.append.ensures.shut c.append.ensures.crash)

pub returns-in_err-append-clause-shut : goal.returns-in_err-append-clause-shut
returns-in_err-append-clause-shut g c is_open =
    let h : Held g.row.S.Denot = c.append.new.connection in
    let same : h ≡ is_open.0 = one_some h is_open.0 is_open.1 in
    let now = subst (λ x. IsTrue (state g.S.Store x).is_open) (sym same) is_open.2 in
    (c.in-Some-connection.connection, ap (λ (x : DatabaseView g.row.S.Denot g.row.O.Denot). x.connection) (sym c.self.view_is) ∙ c.in-Some-connection.is, c.append.ensures.shut (clean_open g.S.Store g.met.S.Store.settled g.met.S.Store.stays g.met.S.Store.shut_if_dirty h now) now)

pub returns-in_err-append-clause-writes : goal.returns-in_err-append-clause-writes
returns-in_err-append-clause-writes g c =
    let v : DatabaseView g.row.S.Denot g.row.O.Denot = record { opener = c.self.inside.opener; connection = c.self.inside.connection; last = c.self.inside.last; ours = c.self.inside.ours; known = c.self.inside.known } in
    let bad = to_err _ c.from_residual-in_err-append.result c.from_residual-in_err-append.ensures.1 in
    subst (λ x. (old : Held g.row.S.Denot) → x.connection ≡ Some old → Writes {T = Unit {0}} {E = Error} g.S.Store (IsLastOf x.last) (with_row c.args.row.now) old (Some c.append.new.connection) c.from_residual-in_err-append.result) c.self.view_is
    (λ old is. subst (Writes {T = Unit {0}} {E = Error} g.S.Store (IsLastOf v.last) (with_row c.args.row.now) old (Some c.append.new.connection)) (sym bad.1)
    (subst (λ h. Writes {T = Unit {0}} {E = Error} g.S.Store (IsLastOf v.last) (with_row c.args.row.now) h (Some c.append.new.connection) (Err bad.0)) (same_held v.connection c.in-Some-connection.connection old c.in-Some-connection.is is)
    (writes_row g.S.Store g.met.S.Store.settled {T = Unit {0}} {E = Error} (Err bad.0) c.args.row.now v.last c.in-Some.last c.in_ok-number.number c.in-Some-connection.connection c.append.new.connection c.in-Some.is c.in_ok-number.ensures c.in_err-append.ensures.told c.in_err-append.ensures.refused c.in_err-append.ensures.opened c.append.ensures.shut c.append.ensures.crash)))

pub returns-in_err-append-clause-changed : goal.returns-in_err-append-clause-changed
returns-in_err-append-clause-changed g c =
    let v : DatabaseView g.row.S.Denot g.row.O.Denot = record { opener = c.self.inside.opener; connection = c.self.inside.connection; last = c.self.inside.last; ours = c.self.inside.ours; known = c.self.inside.known } in
    let bad = to_err _ c.from_residual-in_err-append.result c.from_residual-in_err-append.ensures.1 in
    let w : DatabaseView g.row.S.Denot g.row.O.Denot = record v { connection = Some c.append.new.connection } in
    subst (λ x. Changed {T = Unit {0}} {E = Error} g.S.Store (with_row_if c.args.row.now (content_of g.S.Store x)) x w c.from_residual-in_err-append.result) c.self.view_is
    (subst (Changed {T = Unit {0}} {E = Error} g.S.Store (with_row_if c.args.row.now (content_of g.S.Store v)) v w) (sym bad.1)
    (changed_by_refusal g.S.Store g.met.S.Store.settled g.met.S.Store.stays g.met.S.Store.shut_if_dirty c.args.row.now v c.in-Some-connection.connection c.append.new.connection c.self.invariant c.in-Some-connection.is bad.0
    (writes_row g.S.Store g.met.S.Store.settled {T = Unit {0}} {E = Error} (Err bad.0) c.args.row.now v.last c.in-Some.last c.in_ok-number.number c.in-Some-connection.connection c.append.new.connection c.in-Some.is c.in_ok-number.ensures c.in_err-append.ensures.told c.in_err-append.ensures.refused c.in_err-append.ensures.opened c.append.ensures.shut c.append.ensures.crash)))

pub invariant_of-self-2 : goal.invariant_of-self-2
invariant_of-self-2 g c =
    let v : DatabaseView g.row.S.Denot g.row.O.Denot = record { opener = c.self.inside.opener; connection = c.self.inside.connection; last = c.self.inside.last; ours = c.self.inside.ours; known = c.self.inside.known } in
    sound_appended g.S.Store g.met.S.Store.settled g.met.S.Store.stays g.met.S.Store.shut_if_dirty c.args.row.now v c.in-Some-connection.connection c.append.new.connection c.self.invariant c.in-Some-connection.is tt c.in-Some.last c.in_ok-number.number c.in-Some.is c.in_ok-number.ensures
    (writes_row g.S.Store g.met.S.Store.settled {T = Unit {0}} {E = Error} (Ok tt) c.args.row.now v.last c.in-Some.last c.in_ok-number.number c.in-Some-connection.connection c.append.new.connection c.in-Some.is c.in_ok-number.ensures c.in_ok-append.ensures.told c.in_ok-append.ensures.refused c.in_ok-append.ensures.opened c.append.ensures.shut c.append.ensures.crash)

pub returns-clause-shut : goal.returns-clause-shut
returns-clause-shut g c is_open =
    let h : Held g.row.S.Denot = c.append.new.connection in
    let same : h ≡ is_open.0 = one_some h is_open.0 is_open.1 in
    let now = subst (λ x. IsTrue (state g.S.Store x).is_open) (sym same) is_open.2 in
    (c.in-Some-connection.connection, ap (λ (x : DatabaseView g.row.S.Denot g.row.O.Denot). x.connection) (sym c.self.view_is) ∙ c.in-Some-connection.is, c.append.ensures.shut (clean_open g.S.Store g.met.S.Store.settled g.met.S.Store.stays g.met.S.Store.shut_if_dirty h now) now)

pub returns-clause-writes : goal.returns-clause-writes
returns-clause-writes g c =
    let v : DatabaseView g.row.S.Denot g.row.O.Denot = record { opener = c.self.inside.opener; connection = c.self.inside.connection; last = c.self.inside.last; ours = c.self.inside.ours; known = c.self.inside.known } in
    subst (λ x. (old : Held g.row.S.Denot) → x.connection ≡ Some old → Writes {T = Unit {0}} {E = Error} g.S.Store (IsLastOf x.last) (with_row c.args.row.now) old (Some c.append.new.connection) (Ok tt)) c.self.view_is
    (λ old is. subst (λ h. Writes {T = Unit {0}} {E = Error} g.S.Store (IsLastOf v.last) (with_row c.args.row.now) h (Some c.append.new.connection) (Ok tt)) (same_held v.connection c.in-Some-connection.connection old c.in-Some-connection.is is)
    (writes_row g.S.Store g.met.S.Store.settled {T = Unit {0}} {E = Error} (Ok tt) c.args.row.now v.last c.in-Some.last c.in_ok-number.number c.in-Some-connection.connection c.append.new.connection c.in-Some.is c.in_ok-number.ensures c.in_ok-append.ensures.told c.in_ok-append.ensures.refused c.in_ok-append.ensures.opened c.append.ensures.shut c.append.ensures.crash))

pub returns-clause-changed : goal.returns-clause-changed
returns-clause-changed g c =
    let v : DatabaseView g.row.S.Denot g.row.O.Denot = record { opener = c.self.inside.opener; connection = c.self.inside.connection; last = c.self.inside.last; ours = c.self.inside.ours; known = c.self.inside.known } in
    let w : DatabaseView g.row.S.Denot g.row.O.Denot = record v { connection = Some c.append.new.connection; last = Some c.in_ok-number.number } in
    subst (λ x. Changed {T = Unit {0}} {E = Error} g.S.Store (with_row_if c.args.row.now (content_of g.S.Store x)) x w (Ok tt)) c.self.view_is
    (changed_by_append g.S.Store g.met.S.Store.settled g.met.S.Store.stays g.met.S.Store.shut_if_dirty c.args.row.now v c.in-Some-connection.connection c.append.new.connection c.self.invariant c.in-Some-connection.is tt c.in-Some.last c.in_ok-number.number c.in-Some.is c.in_ok-number.ensures
    (writes_row g.S.Store g.met.S.Store.settled {T = Unit {0}} {E = Error} (Ok tt) c.args.row.now v.last c.in-Some.last c.in_ok-number.number c.in-Some-connection.connection c.append.new.connection c.in-Some.is c.in_ok-number.ensures c.in_ok-append.ensures.told c.in_ok-append.ensures.refused c.in_ok-append.ensures.opened c.append.ensures.shut c.append.ensures.crash))
