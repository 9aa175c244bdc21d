use Rattle.std.proofs.Common.{◌≡◌, ◌&&◌, None, Some, Ok, Err, refl, sym, ap, subst, ◌∙◌}
use Rattle.sqlite.specs.declared.error.Error.{Error}
use Rattle.sqlite.specs.Held.{Held}
use Rattle.keep_sqlite.specs.Telling.{Fetches}
use Rattle.keep_sqlite.specs.Knowing.{DatabaseView, Fetched, IsSound}
use Rattle.keep_sqlite.proofs.Appending.{same_held}
use Rattle.keep_sqlite.proofs.Knowing.{to_err, fetches_none, sound_opened, fetched_none, sound_unread, fetched_unread, sound_read, fetched_read}
use Rattle.keep_sqlite.proofs.database.Database.fetch.Goals as goal
use Rattle.keep_sqlite.proofs.database.Database.fetch.Goals.{then-self, else-self}

pub invariant_of-self : goal.invariant_of-self
invariant_of-self g c =
    let v : DatabaseView g.row.S.Denot g.row.O.Denot = record { opener = c.self.inside.opener; connection = c.self.inside.connection; last = c.self.inside.last; ours = c.self.inside.ours; known = c.self.inside.known } in
    sound_opened g.S.Store g.met.S.Store.settled g.met.S.Store.stays g.met.S.Store.shut_if_dirty v (record v { last = None }) c.self.invariant refl refl (λ o is. is) refl

pub returns-in_err-open-clause-fetches : goal.returns-in_err-open-clause-fetches
returns-in_err-open-clause-fetches g c old is =
    let bad = to_err _ c.from_residual.result c.from_residual.ensures.1 in
    let here = c.open.ensures.same old (ap (λ (x : DatabaseView g.row.S.Denot g.row.O.Denot). x.connection) c.self.view_is ∙ is) in
    subst (Fetches {E = Error} g.S.Store old c.open.new.self.connection c.open.new.self.ours) (sym bad.1) (fetches_none g.S.Store old c.open.new.self.connection c.open.new.self.ours bad.0 here)

pub returns-in_err-open-clause-fetched : goal.returns-in_err-open-clause-fetched
returns-in_err-open-clause-fetched g c =
    let v : DatabaseView g.row.S.Denot g.row.O.Denot = record { opener = c.self.inside.opener; connection = c.self.inside.connection; last = c.self.inside.last; ours = c.self.inside.ours; known = c.self.inside.known } in
    let ours : c.open.new.self.ours ≡ v.ours = c.open.ensures.ours in
    let known : c.open.new.self.known ≡ v.known = c.open.ensures.known in
    let same : (o : Held g.row.S.Denot) → v.connection ≡ Some o → c.open.new.self.connection ≡ Some o = c.open.ensures.same in
    subst (λ x. Fetched g.S.Store x c.open.new.self) c.self.view_is (fetched_none g.S.Store g.met.S.Store.settled g.met.S.Store.stays g.met.S.Store.shut_if_dirty v c.open.new.self c.self.invariant ours known same c.open.ensures.last)

pub invariant_of-self-in_err-rows : goal.invariant_of-self-in_err-rows
invariant_of-self-in_err-rows g c =
    let v : DatabaseView g.row.S.Denot g.row.O.Denot = record { opener = c.self.inside.opener; connection = c.self.inside.connection; last = c.self.inside.last; ours = c.self.inside.ours; known = c.self.inside.known } in
    let m : DatabaseView g.row.S.Denot g.row.O.Denot = record { opener = c.self-2.inside.opener; connection = c.self-2.inside.connection; last = c.self-2.inside.last; ours = c.self-2.inside.ours; known = c.self-2.inside.known } in
    let ours : m.ours ≡ v.ours = ap (λ (x : DatabaseView g.row.S.Denot g.row.O.Denot). x.ours) c.self-2.view_is ∙ c.open.ensures.ours in
    let known : m.known ≡ v.known = ap (λ (x : DatabaseView g.row.S.Denot g.row.O.Denot). x.known) c.self-2.view_is ∙ c.open.ensures.known in
    let same : (o : Held g.row.S.Denot) → v.connection ≡ Some o → m.connection ≡ Some o = λ o is. ap (λ (x : DatabaseView g.row.S.Denot g.row.O.Denot). x.connection) c.self-2.view_is ∙ c.open.ensures.same o is in
    let forgot : m.last ≡ None = ap (λ (x : DatabaseView g.row.S.Denot g.row.O.Denot). x.last) c.self-2.view_is ∙ c.open.ensures.last in
    let o = c.in-Some.connection in
    let n = c.load.new.connection in
    let f : Fetches {E = Error} g.S.Store o (Some n) m.ours (Err c.in_err-rows.field-0.0) = record {
      new = n;
      is = refl;
      shut = c.load.ensures.shut;
      crash = c.load.ensures.crash;
      still = λ clean k keeps. tt;
      refused = λ clean k keeps. c.in_err-rows.ensures.refused clean k keeps;
      blank = λ clean none. tt;
    } in
    sound_unread g.S.Store g.met.S.Store.settled g.met.S.Store.stays g.met.S.Store.shut_if_dirty v m c.self.invariant ours known same o n c.in-Some.is c.in_err-rows.field-0.0 c.self-2.invariant forgot f

pub returns-in_err-rows-clause-fetches : goal.returns-in_err-rows-clause-fetches
returns-in_err-rows-clause-fetches g c old is =
    let v : DatabaseView g.row.S.Denot g.row.O.Denot = record { opener = c.self.inside.opener; connection = c.self.inside.connection; last = c.self.inside.last; ours = c.self.inside.ours; known = c.self.inside.known } in
    let m : DatabaseView g.row.S.Denot g.row.O.Denot = record { opener = c.self-2.inside.opener; connection = c.self-2.inside.connection; last = c.self-2.inside.last; ours = c.self-2.inside.ours; known = c.self-2.inside.known } in
    let ours : m.ours ≡ v.ours = ap (λ (x : DatabaseView g.row.S.Denot g.row.O.Denot). x.ours) c.self-2.view_is ∙ c.open.ensures.ours in
    let known : m.known ≡ v.known = ap (λ (x : DatabaseView g.row.S.Denot g.row.O.Denot). x.known) c.self-2.view_is ∙ c.open.ensures.known in
    let same : (o : Held g.row.S.Denot) → v.connection ≡ Some o → m.connection ≡ Some o = λ o is. ap (λ (x : DatabaseView g.row.S.Denot g.row.O.Denot). x.connection) c.self-2.view_is ∙ c.open.ensures.same o is in
    let forgot : m.last ≡ None = ap (λ (x : DatabaseView g.row.S.Denot g.row.O.Denot). x.last) c.self-2.view_is ∙ c.open.ensures.last in
    let o = c.in-Some.connection in
    let n = c.load.new.connection in
    let bad = to_err _ c.from_residual-in_err-rows.result c.from_residual-in_err-rows.ensures.1 in
    let f : Fetches {E = Error} g.S.Store o (Some n) m.ours (Err bad.0) = record {
      new = n;
      is = refl;
      shut = c.load.ensures.shut;
      crash = c.load.ensures.crash;
      still = λ clean k keeps. tt;
      refused = λ clean k keeps. c.in_err-rows.ensures.refused clean k keeps;
      blank = λ clean none. tt;
    } in
    let held : o ≡ old = same_held m.connection o old c.in-Some.is (same old (ap (λ (x : DatabaseView g.row.S.Denot g.row.O.Denot). x.connection) c.self.view_is ∙ is)) in
    subst (Fetches {E = Error} g.S.Store old (Some n) m.ours) (sym bad.1) (subst (λ h. Fetches {E = Error} g.S.Store h (Some n) m.ours (Err bad.0)) held f)

pub returns-in_err-rows-clause-fetched : goal.returns-in_err-rows-clause-fetched
returns-in_err-rows-clause-fetched g c =
    let v : DatabaseView g.row.S.Denot g.row.O.Denot = record { opener = c.self.inside.opener; connection = c.self.inside.connection; last = c.self.inside.last; ours = c.self.inside.ours; known = c.self.inside.known } in
    let m : DatabaseView g.row.S.Denot g.row.O.Denot = record { opener = c.self-2.inside.opener; connection = c.self-2.inside.connection; last = c.self-2.inside.last; ours = c.self-2.inside.ours; known = c.self-2.inside.known } in
    let ours : m.ours ≡ v.ours = ap (λ (x : DatabaseView g.row.S.Denot g.row.O.Denot). x.ours) c.self-2.view_is ∙ c.open.ensures.ours in
    let known : m.known ≡ v.known = ap (λ (x : DatabaseView g.row.S.Denot g.row.O.Denot). x.known) c.self-2.view_is ∙ c.open.ensures.known in
    let same : (o : Held g.row.S.Denot) → v.connection ≡ Some o → m.connection ≡ Some o = λ o is. ap (λ (x : DatabaseView g.row.S.Denot g.row.O.Denot). x.connection) c.self-2.view_is ∙ c.open.ensures.same o is in
    let forgot : m.last ≡ None = ap (λ (x : DatabaseView g.row.S.Denot g.row.O.Denot). x.last) c.self-2.view_is ∙ c.open.ensures.last in
    let o = c.in-Some.connection in
    let n = c.load.new.connection in
    let f : Fetches {E = Error} g.S.Store o (Some n) m.ours (Err c.in_err-rows.field-0.0) = record {
      new = n;
      is = refl;
      shut = c.load.ensures.shut;
      crash = c.load.ensures.crash;
      still = λ clean k keeps. tt;
      refused = λ clean k keeps. c.in_err-rows.ensures.refused clean k keeps;
      blank = λ clean none. tt;
    } in
    subst (λ x. Fetched g.S.Store x (record m { connection = Some n })) c.self.view_is (fetched_unread g.S.Store g.met.S.Store.settled g.met.S.Store.stays g.met.S.Store.shut_if_dirty v m c.self.invariant ours known same o n c.in-Some.is c.in_err-rows.field-0.0 c.self-2.invariant forgot f)

pub invariant_of-self-2 : goal.invariant_of-self-2
invariant_of-self-2 g c =
    let v : DatabaseView g.row.S.Denot g.row.O.Denot = record { opener = c.self.inside.opener; connection = c.self.inside.connection; last = c.self.inside.last; ours = c.self.inside.ours; known = c.self.inside.known } in
    let m : DatabaseView g.row.S.Denot g.row.O.Denot = record { opener = c.self-2.inside.opener; connection = c.self-2.inside.connection; last = c.self-2.inside.last; ours = c.self-2.inside.ours; known = c.self-2.inside.known } in
    let ours : m.ours ≡ v.ours = ap (λ (x : DatabaseView g.row.S.Denot g.row.O.Denot). x.ours) c.self-2.view_is ∙ c.open.ensures.ours in
    let known : m.known ≡ v.known = ap (λ (x : DatabaseView g.row.S.Denot g.row.O.Denot). x.known) c.self-2.view_is ∙ c.open.ensures.known in
    let same : (o : Held g.row.S.Denot) → v.connection ≡ Some o → m.connection ≡ Some o = λ o is. ap (λ (x : DatabaseView g.row.S.Denot g.row.O.Denot). x.connection) c.self-2.view_is ∙ c.open.ensures.same o is in
    let forgot : m.last ≡ None = ap (λ (x : DatabaseView g.row.S.Denot g.row.O.Denot). x.last) c.self-2.view_is ∙ c.open.ensures.last in
    let o = c.in-Some.connection in
    let n = c.load.new.connection in
    let known_now : c.if-self.self ≡ (m.known && c.in_ok-rows.ours) = elim c.if-self.branch [ then-self w ↦ rw w.if-self.true w.self-is | else-self w ↦ rw w.if-self.false (w.self-is ∙ w.if-self.false) ] in
    subst (IsSound g.S.Store (Some n) (Some c.len.result) c.in_ok-rows.ours) (sym known_now)
    (sound_read g.S.Store g.met.S.Store.settled g.met.S.Store.stays g.met.S.Store.shut_if_dirty v m c.self.invariant ours known same o n c.in-Some.is c.in_ok-rows.rows c.in_ok-rows.ours c.in_ok-rows.ensures.found c.len.result c.len.ensures)

pub returns-clause-fetches : goal.returns-clause-fetches
returns-clause-fetches g c old is =
    let v : DatabaseView g.row.S.Denot g.row.O.Denot = record { opener = c.self.inside.opener; connection = c.self.inside.connection; last = c.self.inside.last; ours = c.self.inside.ours; known = c.self.inside.known } in
    let m : DatabaseView g.row.S.Denot g.row.O.Denot = record { opener = c.self-2.inside.opener; connection = c.self-2.inside.connection; last = c.self-2.inside.last; ours = c.self-2.inside.ours; known = c.self-2.inside.known } in
    let ours : m.ours ≡ v.ours = ap (λ (x : DatabaseView g.row.S.Denot g.row.O.Denot). x.ours) c.self-2.view_is ∙ c.open.ensures.ours in
    let known : m.known ≡ v.known = ap (λ (x : DatabaseView g.row.S.Denot g.row.O.Denot). x.known) c.self-2.view_is ∙ c.open.ensures.known in
    let same : (o : Held g.row.S.Denot) → v.connection ≡ Some o → m.connection ≡ Some o = λ o is. ap (λ (x : DatabaseView g.row.S.Denot g.row.O.Denot). x.connection) c.self-2.view_is ∙ c.open.ensures.same o is in
    let forgot : m.last ≡ None = ap (λ (x : DatabaseView g.row.S.Denot g.row.O.Denot). x.last) c.self-2.view_is ∙ c.open.ensures.last in
    let o = c.in-Some.connection in
    let n = c.load.new.connection in
    let f : Fetches {E = Error} g.S.Store o (Some n) c.in_ok-rows.ours (Ok c.in_ok-rows.rows) = record {
      new = n;
      is = refl;
      shut = c.load.ensures.shut;
      crash = c.load.ensures.crash;
      still = λ clean k keeps. c.in_ok-rows.ensures.still clean k keeps;
      refused = λ clean k keeps. tt;
      blank = λ clean none. c.in_ok-rows.ensures.blank clean none;
    } in
    let held : o ≡ old = same_held m.connection o old c.in-Some.is (same old (ap (λ (x : DatabaseView g.row.S.Denot g.row.O.Denot). x.connection) c.self.view_is ∙ is)) in
    subst (λ h. Fetches {E = Error} g.S.Store h (Some n) c.in_ok-rows.ours (Ok c.in_ok-rows.rows)) held f

pub returns-clause-fetched : goal.returns-clause-fetched
returns-clause-fetched g c =
    let v : DatabaseView g.row.S.Denot g.row.O.Denot = record { opener = c.self.inside.opener; connection = c.self.inside.connection; last = c.self.inside.last; ours = c.self.inside.ours; known = c.self.inside.known } in
    let m : DatabaseView g.row.S.Denot g.row.O.Denot = record { opener = c.self-2.inside.opener; connection = c.self-2.inside.connection; last = c.self-2.inside.last; ours = c.self-2.inside.ours; known = c.self-2.inside.known } in
    let ours : m.ours ≡ v.ours = ap (λ (x : DatabaseView g.row.S.Denot g.row.O.Denot). x.ours) c.self-2.view_is ∙ c.open.ensures.ours in
    let known : m.known ≡ v.known = ap (λ (x : DatabaseView g.row.S.Denot g.row.O.Denot). x.known) c.self-2.view_is ∙ c.open.ensures.known in
    let same : (o : Held g.row.S.Denot) → v.connection ≡ Some o → m.connection ≡ Some o = λ o is. ap (λ (x : DatabaseView g.row.S.Denot g.row.O.Denot). x.connection) c.self-2.view_is ∙ c.open.ensures.same o is in
    let forgot : m.last ≡ None = ap (λ (x : DatabaseView g.row.S.Denot g.row.O.Denot). x.last) c.self-2.view_is ∙ c.open.ensures.last in
    let o = c.in-Some.connection in
    let n = c.load.new.connection in
    let f : Fetches {E = Error} g.S.Store o (Some n) c.in_ok-rows.ours (Ok c.in_ok-rows.rows) = record {
      new = n;
      is = refl;
      shut = c.load.ensures.shut;
      crash = c.load.ensures.crash;
      still = λ clean k keeps. c.in_ok-rows.ensures.still clean k keeps;
      refused = λ clean k keeps. tt;
      blank = λ clean none. c.in_ok-rows.ensures.blank clean none;
    } in
    let known_now : c.if-self.self ≡ (m.known && c.in_ok-rows.ours) = elim c.if-self.branch [ then-self w ↦ rw w.if-self.true w.self-is | else-self w ↦ rw w.if-self.false (w.self-is ∙ w.if-self.false) ] in
    subst (λ x. Fetched g.S.Store x (record m { connection = Some n; last = Some c.len.result; ours = c.in_ok-rows.ours; known = c.if-self.self })) c.self.view_is
    (subst (λ b. Fetched g.S.Store v (record m { connection = Some n; last = Some c.len.result; ours = c.in_ok-rows.ours; known = b })) (sym known_now)
    (fetched_read g.S.Store g.met.S.Store.settled g.met.S.Store.stays g.met.S.Store.shut_if_dirty v m c.self.invariant ours known same o n c.in-Some.is c.in_ok-rows.rows c.in_ok-rows.ours c.in_ok-rows.ensures.found c.len.result c.len.ensures f))
