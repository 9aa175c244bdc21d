use Rattle.std.proofs.Common.{◌++◌, ◌∙◌, refl, ap, map, subst, string_bytes}
use Rattle.client_cache.specs.Views.{list_view}
use Rattle.client_lines.specs.Lines.{list_count, list_counts}
use Rattle.client_lines.specs.Pieces.{HasPut}
use Rattle.client_lines.proofs.Written.{put_none, puts_on, begins_on, fails_last, none_left}
use Rattle.client_lines.proofs.counts.print_list_counts.Goals as goal

pub lists-init : goal.lists-init
lists-init g c = record { put = put_none _ _; count = refl }

pub lists-preserved : goal.lists-preserved
lists-preserved g c =
    let held = g.O.Sink.held in
    let all = string_bytes c.args.lines ++ list_counts (map list_view c.args.lists.now) in
    let before = subst (λ ls. HasPut all (string_bytes c.lists.waiting ++ list_counts (map list_view ls)) (held c.args.out.now) (held c.lists.out)) c.in-Some.ensures.cases.0 c.lists.invariant.put in
    record {
      put = puts_on all (string_bytes c.lists.waiting) (list_count (list_view c.in-Some.list.now)) (list_counts (map list_view c.in-Some.more.now)) (string_bytes c.print_list_count.new.waiting)
          (held c.args.out.now) (held c.lists.out) (held c.print_list_count.new.out) before c.in-Ok.ensures.ok;
      count = c.in-Ok.ensures.ok_count ∙ c.lists.invariant.count;
    }

pub returns-in-Err-clause-err : goal.returns-in-Err-clause-err
returns-in-Err-clause-err g c =
    let held = g.O.Sink.held in
    let all = string_bytes c.args.lines ++ list_counts (map list_view c.args.lists.now) in
    let before = subst (λ ls. HasPut all (string_bytes c.lists.waiting ++ list_counts (map list_view ls)) (held c.args.out.now) (held c.lists.out)) c.in-Some.ensures.cases.0 c.lists.invariant.put in
    begins_on all (string_bytes c.lists.waiting) (list_count (list_view c.in-Some.list.now)) (list_counts (map list_view c.in-Some.more.now))
    (held c.args.out.now) (held c.lists.out) (held c.print_list_count.new.out) before c.in-Err.ensures.err

pub returns-clause-err : goal.returns-clause-err
returns-clause-err g c =
    let held = g.O.Sink.held in
    let all = string_bytes c.args.lines ++ list_counts (map list_view c.args.lists.now) in
    fails_last c.put_waiting.result all (string_bytes c.lists.waiting) c.as_str.result.now (list_counts (map list_view c.lists.rest.now)) (held c.args.out.now) (held c.lists.out) (held c.put_waiting.new.out)
    c.lists.invariant.put (ap (λ ls. list_counts (map list_view ls)) (none_left c.lists.rest.now c.in_default.ensures.cases)) c.as_str.ensures.value c.put_waiting.ensures.err
