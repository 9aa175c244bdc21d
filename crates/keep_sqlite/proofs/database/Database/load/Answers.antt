use Rattle.std.proofs.Common.{Ok, refl, sym, ap, subst, ◌∙◌}
use Rattle.sqlite.specs.declared.error.Error.{Error}
use Rattle.keep_sqlite.specs.Telling.{Fetches}
use Rattle.keep_sqlite.specs.Knowing.{DatabaseView, Fetched, Loaded}
use Rattle.keep_sqlite.proofs.Knowing.{to_err, fetches_as, loaded_ok, loaded_err}
use Rattle.keep_sqlite.proofs.database.Database.load.Goals as goal

pub returns-in_err-rows-clause-fetches : goal.returns-in_err-rows-clause-fetches
returns-in_err-rows-clause-fetches g c old is =
    let bad = to_err _ c.from_residual.result c.from_residual.ensures.1 in
    subst (Fetches {E = Error} g.S.Store old c.fetch.new.self.connection c.fetch.new.self.ours) (sym bad.1)
    (fetches_as g.S.Store old c.fetch.new.self.connection c.fetch.new.self.ours _ bad.0 (c.in_err-rows.ensures.fetches old is))

pub returns-in_err-rows-clause-loaded : goal.returns-in_err-rows-clause-loaded
returns-in_err-rows-clause-loaded g c =
    let bad = to_err _ c.from_residual.result c.from_residual.ensures.1 in
    subst (Loaded {E = Error} g.S.Store c.args.self.now c.fetch.new.self) (sym bad.1) (loaded_err g.S.Store g.met.S.Store.settled g.met.S.Store.stays g.met.S.Store.shut_if_dirty c.args.self.now c.fetch.new.self bad.0 c.fetch.ensures.fetched)

pub returns-clause-fetches : goal.returns-clause-fetches
returns-clause-fetches g c old is =
    subst (λ (x : DatabaseView g.row.S.Denot g.row.O.Denot). Fetches {E = Error} g.S.Store old x.connection x.ours (Ok c.in_ok-rows.rows)) (sym c.self.view_is) (c.in_ok-rows.ensures.fetches old is)

pub returns-clause-loaded : goal.returns-clause-loaded
returns-clause-loaded g c =
    let v : DatabaseView g.row.S.Denot g.row.O.Denot = record { opener = c.self.inside.opener; connection = c.self.inside.connection; last = c.self.inside.last; ours = c.self.inside.ours; known = c.self.inside.known } in
    let w : DatabaseView g.row.S.Denot g.row.O.Denot = record v { known = c.self.inside.ours } in
    let fetched : Fetched g.S.Store c.args.self.now v = subst (Fetched g.S.Store c.args.self.now) (sym c.self.view_is) c.fetch.ensures.fetched in
    loaded_ok g.S.Store g.met.S.Store.settled g.met.S.Store.stays g.met.S.Store.shut_if_dirty c.args.self.now v w c.in_ok-rows.rows c.self.invariant (record { none = c.self.invariant.none; checked = λ x. x; some = c.self.invariant.some }) refl refl fetched
    (λ h is clean known. c.in_ok-rows.ensures.told h (ap (λ (x : DatabaseView g.row.S.Denot g.row.O.Denot). x.connection) (sym c.self.view_is) ∙ is) clean (ap (λ (x : DatabaseView g.row.S.Denot g.row.O.Denot). x.ours) (sym c.self.view_is) ∙ known))
