use Rattle.std.proofs.Common.{◌≡◌, ◌-◌, ◌||◌, ℕ, List, drop, take, refl, sym, ap, subst, ◌∙◌}
use Rattle.jm_base.specs.Splices.{has}
use Rattle.jm_base.specs.declared.identifiers.Kind.{Kind}
use Rattle.mail_records.specs.States.{AreNamed, ids_between}
use Rattle.state_log.specs.Logs.{ids_in, threads_named}
use Rattle.query_changes.specs.Notes.{is_in_threads}
use Rattle.query_changes.proofs.Finding.{narrow_touched, wide_touched}
use Rattle.query_changes.proofs.touched.find_touched.Goals as goal

pub returns-then-looks_at_threads-clause-touched : goal.returns-then-looks_at_threads-clause-touched
returns-then-looks_at_threads-clause-touched c =
    let l = c.args.log.now in
    let ids = ids_between l.floor c.args.from c.end-end.result (ids_in l.notes) in
    let named : AreNamed c.args.query.now.kind ids c.into_vec-numbers.result.items =
    subst (λ (ns : List ℕ). AreNamed c.args.query.now.kind ids ns) (sym c.into_vec-numbers.ensures)
    (subst (λ (k : Kind). AreNamed k ids c.in_ok-named.named) c.kind.ensures c.in_ok-named.ensures) in
    let notes = drop (c.args.from - l.floor) (take (c.end-end.result - l.floor) l.notes) in
    let same : (n : ℕ) → has c.add_threads.new.numbers.items n ≡ (has c.into_vec-numbers.result.items n || is_in_threads (threads_named notes) c.args.content.now.content n) =
    λ n. c.in_ok-add_threads.ensures.same n ∙ ap (λ ts. has c.into_vec-numbers.result.items n || is_in_threads ts c.args.content.now.content n) c.threads_between.ensures in
    λ h are.
    wide_touched h l c.args.content.now.content c.args.query.now c.args.from c.end-end.result notes c.into_vec-numbers.result.items c.add_threads.new.numbers.items
    are c.end-end.ensures (sym c.looks_at_threads.ensures ∙ c.if-looks_at_threads.true) refl named c.in_ok-add_threads.ensures.rise same

pub returns-clause-touched : goal.returns-clause-touched
returns-clause-touched c =
    let l = c.args.log.now in
    let ids = ids_between l.floor c.args.from c.end-end.result (ids_in l.notes) in
    let named : AreNamed c.args.query.now.kind ids c.into_vec-numbers.result.items =
    subst (λ (ns : List ℕ). AreNamed c.args.query.now.kind ids ns) (sym c.into_vec-numbers.ensures)
    (subst (λ (k : Kind). AreNamed k ids c.in_ok-named.named) c.kind.ensures c.in_ok-named.ensures) in
    λ h are.
    narrow_touched h l c.args.content.now.content c.args.query.now c.args.from c.end-end.result c.into_vec-numbers.result.items
    are c.end-end.ensures (sym c.looks_at_threads.ensures ∙ c.if-looks_at_threads.false) named
