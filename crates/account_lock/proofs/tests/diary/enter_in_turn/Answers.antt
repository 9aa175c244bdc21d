use Rattle.std.proofs.Common.{rules, ◌≡◌, List, ◌++◌, ◌∷◌, [], ℕ, ap, ◌∙◌, sym, subst, OnOk}
use Rattle.mail_records.specs.Histories.{Entry, Refused}
use Rattle.account_lock.specs.Entries.{under, StartsWith}
use Rattle.account_lock.specs.Views.{PassFacts}
use Rattle.account_lock.proofs.Entries.{starts_trans}
use Rattle.account_lock.proofs.Diaries.{extends, one_more}
use Rattle.account_lock.proofs.tests.diary.enter_in_turn.Goals as goal

pub give-requires-clause-entries : goal.give-requires-clause-entries
give-requires-clause-entries g c =
    let more = extends c.enter-entered.result _ _ _ _ c.name-name.ensures c.enter-entered.ensures.ok c.enter-entered.ensures.err in (more.0, search rules, search rules)

pub returns-clause-ok : goal.returns-clause-ok
returns-clause-ok g c =
    let name : c.name-name.result ≡ c.args.pass.now.name = c.name-name.ensures ∙ ap (λ (k : PassFacts). k.name) c.take-diary.ensures.pass in
    let same : c.deref_mut.result.now ≡ c.take-diary.result.value = search rules in
    let was : under c.args.pass.now.name c.deref_mut.result.now ≡ c.args.pass.now.own = ap (under c.args.pass.now.name) same ∙ c.take-diary.ensures.own in
    let own : c.give.new.pass.own ≡ under c.args.pass.now.name c.enter-entered.new.self =
    ap (λ (k : PassFacts). k.own) c.give.ensures ∙ ap (λ (k : PassFacts). under k.name c.enter-entered.new.self) c.take-diary.ensures.pass in
    subst (λ (n : ℕ). OnOk c.enter-entered.result (c.give.new.pass.own ≡ c.args.pass.now.own ++ Refused record { pass = n; serial = c.args.serial } ∷ [])) name
    (one_more c.enter-entered.result _ _ _ _ _ _ name was own c.enter-entered.ensures.ok)

pub returns-clause-seen : goal.returns-clause-seen
returns-clause-seen g c =
    let same : c.deref_mut.result.now ≡ c.take-diary.result.value = search rules in
    let began : StartsWith c.deref_mut.result.now c.args.pass.now.seen = subst (λ (xs : List Entry). StartsWith xs c.args.pass.now.seen) (sym same) c.take-diary.ensures.seen in
    let more = extends c.enter-entered.result _ _ _ _ c.name-name.ensures c.enter-entered.ensures.ok c.enter-entered.ensures.err in
    let is : c.give.new.pass.seen ≡ c.enter-entered.new.self = ap (λ (k : PassFacts). k.seen) c.give.ensures in
    subst (λ (xs : List Entry). StartsWith xs c.args.pass.now.seen) (sym is) (starts_trans _ _ _ (more.0, more.1) began)
