-- The changes of a query's list bring the list up to date.
use Rattle.std.proofs.Common.{◌≡◌, ℕ, List, Ok, sym, ap, ◌∙◌}
use Rattle.jm_base.specs.Splices.{splice, with_index}
use Rattle.jm_base.proofs.Spliced.{brings_up_to_date}
use Rattle.mail_records.specs.Histories.{content_at, content_of, edits_after}
use Rattle.sort_terms.proofs.Total.{numbers_total}
use Rattle.query_engine.specs.Queries.{order_of}
use Rattle.query_engine.proofs.Results.{there_is_one}
use Rattle.query_changes.specs.Laws.{BringsUpToDate, OrderedAlike, ShownAlike}
use Rattle.query_changes.specs.Touched.{is_touched, touched}
use Rattle.query_changes.proofs.Touching.{has-touched_by}
use Rattle.query_changes.proofs.Untouched.{one_way, ordered_alike, shown_alike, span_of}

pub untouched_shown : ShownAlike
untouched_shown h q texts s n sound reaches away =
    let one = sound.one_thread in
    shown_alike one.0 (content_at h s) (content_of h) (edits_after h s) (span_of h one.0 one.1 s) q texts n away

pub untouched_ordered : OrderedAlike
untouched_ordered h q s a b sound reaches u v =
    let one = sound.one_thread in
    ordered_alike one.0 (content_at h s) (content_of h) (edits_after h s) (span_of h one.0 one.1 s) q a b u v

pub brought : BringsUpToDate
brought h q texts s old new sound reaches was is =
    let done : splice old (touched h q s) (with_index (is_touched h q s) 0 new) ≡ Ok new =
    brings_up_to_date (is_touched h q s) (order_of q (content_at h s)) (order_of q (content_of h)) old new (touched h q s)
    (one_way (order_of q (content_of h)) (numbers_total q.kind q.order (content_of h)))
    (record {
      order = λ a b u v. untouched_ordered h q s a b sound reaches u v;
      members = λ n u. was.exactly n ∙ (untouched_shown h q texts s n sound reaches u ∙ sym (is.exactly n));
    })
    was.rises is.rises
    (has-touched_by q (edits_after h s) (content_of h)) in
    ap (λ (list : List ℕ). splice old (touched h q s) (with_index (is_touched h q s) 0 list)) (sym (there_is_one q (content_of h) texts new is)) ∙ done
