use Rattle.std.proofs.Common.{◌≡◌, ℕ, List, [], Bool, sym, subst, ap, ap₂, ◌∙◌}
use Rattle.jm_base.specs.Splices.{has, with_index}
use Rattle.jm_base.specs.declared.identifiers.Kind.{Kind}
use Rattle.mail_records.specs.States.{last_position}
use Rattle.state_log.specs.Logs.{ids_in}
use Rattle.query_changes.specs.Deltas.{delta_of, shown}
use Rattle.query_changes.specs.Touched.{touched}
use Rattle.query_changes.specs.declared.delta.Delta.{Delta}
use Rattle.query_changes.proofs.Finding.{delta_is, no_numbers, nothing_shown}
use Rattle.query_changes.proofs.changes.make_delta.Goals as goal

pub returns-then-is_empty : goal.returns-then-is_empty
returns-then-is_empty g c =
    let l = c.args.log.now in
    let q = c.args.query.now in
    let texts = g.T.Texts2.texts c.args.texts.now in
    let none : c.from_vec-touched.result ≡ [] = no_numbers c.from_vec-touched.result (sym c.if-is_empty.true ∙ c.is_empty.ensures) in
    λ h are.
    let d : Delta = record { removed = c.from_vec-touched.result; added = c.from_vec.result; new_state = c.state_of-new_state.result; total = 0 } in
    let found : [] ≡ touched h q c.args.from = sym none ∙ (c.from_vec-touched.ensures ∙ c.in_ok-find_touched.ensures.touched h are) in
    subst (λ (b : Bool). shown b d ≡ shown b (delta_of h q texts c.args.from)) (sym c.if-not-counted.true)
    (nothing_shown h l c.args.content.now.content q texts c.args.from d are found none (c.from_vec.ensures ∙ c.new.ensures.items)
    (c.state_of-new_state.ensures.state ∙ ap (λ (k : Kind). last_position k l.floor l.floors (ids_in l.notes)) c.kind.ensures))

pub returns : goal.returns
returns g c =
    let l = c.args.log.now in
    λ h are.
    ap (shown c.args.counted)
    (delta_is h l c.args.content.now.content c.args.query.now (g.T.Texts2.texts c.args.texts.now) c.args.from
    (record { removed = c.from_vec-touched.result; added = c.in_ok-added.added; new_state = c.state_of-new_state.result; total = c.len.result })
    c.in_ok-find_touched.field-0.items c.in_ok-list.list are (c.in_ok-find_touched.ensures.touched h are) c.in_ok-list.ensures c.from_vec-touched.ensures
    (c.in_ok-added.ensures ∙ ap₂ (λ (ns list : List ℕ). with_index (has ns) 0 list) (c.as_slice.ensures ∙ c.from_vec-touched.ensures) c.as_slice-2.ensures)
    (c.state_of-new_state.ensures.state ∙ ap (λ (k : Kind). last_position k l.floor l.floors (ids_in l.notes)) c.kind.ensures)
    c.len.ensures)
