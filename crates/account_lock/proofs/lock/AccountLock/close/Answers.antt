use Rattle.std.proofs.Common.{rules, ◌≡◌, sym, ap, ◌∙◌, subst, List, Box, Global}
use Rattle.std.specs.Option.{IsSome}
use Rattle.account_lock.specs.Views.{Origin}
use Rattle.account_lock.specs.Views.{LockFacts, facts}
use Rattle.account_lock.proofs.Closing.{closes, Last}
use Rattle.account_lock.proofs.lock.AccountLock.close.Goals as goal

pub unwrap-requires : goal.unwrap-requires
unwrap-requires g c =
    let shows : Box g.row.B.Denot Global → List _ = λ b. g.B.AccountView.entries b.value in
    let origin : Box g.row.B.Denot Global → Origin = λ b. record { before = g.B.AccountView.before b.value; opening = g.B.AccountView.opening b.value } in
    let built : Box g.row.B.Denot Global = c.self.inside.table.shared.key.value in
    let e = closes shows origin built c.pass.inside.badge.table_id c.pass.inside.began c.pass.inside.ended _ _ _ _ _ c.take-value.result (sym (ap (facts c.pass.inside.badge.table_id c.pass.inside.began c.pass.inside.ended) c.into_seat.ensures.2) ∙ c.pass.view_is) c.requires.root.0 c.requires.root.1 c.close_with-closed.ensures.values.2 c.take-value.ensures.value in
    subst IsSome (sym e.1) (search rules)

pub returns-clause-seen : goal.returns-clause-seen
returns-clause-seen g c =
    let shows : Box g.row.B.Denot Global → List _ = λ b. g.B.AccountView.entries b.value in
    let origin : Box g.row.B.Denot Global → Origin = λ b. record { before = g.B.AccountView.before b.value; opening = g.B.AccountView.opening b.value } in
    let built : Box g.row.B.Denot Global = c.self.inside.table.shared.key.value in
    let e = closes shows origin built c.pass.inside.badge.table_id c.pass.inside.began c.pass.inside.ended _ _ _ _ _ c.take-value.result (sym (ap (facts c.pass.inside.badge.table_id c.pass.inside.began c.pass.inside.ended) c.into_seat.ensures.2) ∙ c.pass.view_is) c.requires.root.0 c.requires.root.1 c.close_with-closed.ensures.values.2 c.take-value.ensures.value in
    let same : e.0 ≡ c.unwrap.result = cc (e.1, c.unwrap.ensures) in
    (subst (Last shows origin built c.args.pass) same e.2).seen

pub returns-clause-ended : goal.returns-clause-ended
returns-clause-ended g c =
    let shows : Box g.row.B.Denot Global → List _ = λ b. g.B.AccountView.entries b.value in
    let origin : Box g.row.B.Denot Global → Origin = λ b. record { before = g.B.AccountView.before b.value; opening = g.B.AccountView.opening b.value } in
    let built : Box g.row.B.Denot Global = c.self.inside.table.shared.key.value in
    let e = closes shows origin built c.pass.inside.badge.table_id c.pass.inside.began c.pass.inside.ended _ _ _ _ _ c.take-value.result (sym (ap (facts c.pass.inside.badge.table_id c.pass.inside.began c.pass.inside.ended) c.into_seat.ensures.2) ∙ c.pass.view_is) c.requires.root.0 c.requires.root.1 c.close_with-closed.ensures.values.2 c.take-value.ensures.value in
    let same : e.0 ≡ c.unwrap.result = cc (e.1, c.unwrap.ensures) in
    (subst (Last shows origin built c.args.pass) same e.2).ended

pub returns-clause-all : goal.returns-clause-all
returns-clause-all g c =
    let shows : Box g.row.B.Denot Global → List _ = λ b. g.B.AccountView.entries b.value in
    let origin : Box g.row.B.Denot Global → Origin = λ b. record { before = g.B.AccountView.before b.value; opening = g.B.AccountView.opening b.value } in
    let built : Box g.row.B.Denot Global = c.self.inside.table.shared.key.value in
    let e = closes shows origin built c.pass.inside.badge.table_id c.pass.inside.began c.pass.inside.ended _ _ _ _ _ c.take-value.result (sym (ap (facts c.pass.inside.badge.table_id c.pass.inside.began c.pass.inside.ended) c.into_seat.ensures.2) ∙ c.pass.view_is) c.requires.root.0 c.requires.root.1 c.close_with-closed.ensures.values.2 c.take-value.ensures.value in
    let same : e.0 ≡ c.unwrap.result = cc (e.1, c.unwrap.ensures) in
    (subst (Last shows origin built c.args.pass) same e.2).all

pub returns-clause-names : goal.returns-clause-names
returns-clause-names g c =
    let shows : Box g.row.B.Denot Global → List _ = λ b. g.B.AccountView.entries b.value in
    let origin : Box g.row.B.Denot Global → Origin = λ b. record { before = g.B.AccountView.before b.value; opening = g.B.AccountView.opening b.value } in
    let built : Box g.row.B.Denot Global = c.self.inside.table.shared.key.value in
    let e = closes shows origin built c.pass.inside.badge.table_id c.pass.inside.began c.pass.inside.ended _ _ _ _ _ c.take-value.result (sym (ap (facts c.pass.inside.badge.table_id c.pass.inside.began c.pass.inside.ended) c.into_seat.ensures.2) ∙ c.pass.view_is) c.requires.root.0 c.requires.root.1 c.close_with-closed.ensures.values.2 c.take-value.ensures.value in
    let same : e.0 ≡ c.unwrap.result = cc (e.1, c.unwrap.ensures) in
    (subst (Last shows origin built c.args.pass) same e.2).names

pub returns-clause-before : goal.returns-clause-before
returns-clause-before g c =
    let shows : Box g.row.B.Denot Global → List _ = λ b. g.B.AccountView.entries b.value in
    let origin : Box g.row.B.Denot Global → Origin = λ b. record { before = g.B.AccountView.before b.value; opening = g.B.AccountView.opening b.value } in
    let built : Box g.row.B.Denot Global = c.self.inside.table.shared.key.value in
    let e = closes shows origin built c.pass.inside.badge.table_id c.pass.inside.began c.pass.inside.ended _ _ _ _ _ c.take-value.result (sym (ap (facts c.pass.inside.badge.table_id c.pass.inside.began c.pass.inside.ended) c.into_seat.ensures.2) ∙ c.pass.view_is) c.requires.root.0 c.requires.root.1 c.close_with-closed.ensures.values.2 c.take-value.ensures.value in
    let same : e.0 ≡ c.unwrap.result = cc (e.1, c.unwrap.ensures) in
    ap (λ (o : Origin). o.before) (subst (Last shows origin built c.args.pass) same e.2).same

pub returns-clause-opening : goal.returns-clause-opening
returns-clause-opening g c =
    let shows : Box g.row.B.Denot Global → List _ = λ b. g.B.AccountView.entries b.value in
    let origin : Box g.row.B.Denot Global → Origin = λ b. record { before = g.B.AccountView.before b.value; opening = g.B.AccountView.opening b.value } in
    let built : Box g.row.B.Denot Global = c.self.inside.table.shared.key.value in
    let e = closes shows origin built c.pass.inside.badge.table_id c.pass.inside.began c.pass.inside.ended _ _ _ _ _ c.take-value.result (sym (ap (facts c.pass.inside.badge.table_id c.pass.inside.began c.pass.inside.ended) c.into_seat.ensures.2) ∙ c.pass.view_is) c.requires.root.0 c.requires.root.1 c.close_with-closed.ensures.values.2 c.take-value.ensures.value in
    let same : e.0 ≡ c.unwrap.result = cc (e.1, c.unwrap.ensures) in
    ap (λ (o : Origin). o.opening) (subst (Last shows origin built c.args.pass) same e.2).same

pub returns-clause-built : goal.returns-clause-built
returns-clause-built g c none_given =
    let shows : Box g.row.B.Denot Global → List _ = λ b. g.B.AccountView.entries b.value in
    let origin : Box g.row.B.Denot Global → Origin = λ b. record { before = g.B.AccountView.before b.value; opening = g.B.AccountView.opening b.value } in
    let built : Box g.row.B.Denot Global = c.self.inside.table.shared.key.value in
    let e = closes shows origin built c.pass.inside.badge.table_id c.pass.inside.began c.pass.inside.ended _ _ _ _ _ c.take-value.result (sym (ap (facts c.pass.inside.badge.table_id c.pass.inside.began c.pass.inside.ended) c.into_seat.ensures.2) ∙ c.pass.view_is) c.requires.root.0 c.requires.root.1 c.close_with-closed.ensures.values.2 c.take-value.ensures.value in
    let same : e.0 ≡ c.unwrap.result = cc (e.1, c.unwrap.ensures) in
    ap (λ (b : Box g.row.B.Denot Global). b.value) ((subst (Last shows origin built c.args.pass) same e.2).untouched none_given) ∙ ap (λ (l : LockFacts g.row.B.Denot). l.built) c.self.view_is
