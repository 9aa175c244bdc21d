use Rattle.std.proofs.Common.{◌++◌, ◌∙◌, sym, ap, ap₂, refl, subst, string_bytes}
use Rattle.client_cache.specs.Views.{list_view}
use Rattle.client_lines.specs.Lines.{email_line, email_lines, list_text}
use Rattle.client_lines.specs.Pieces.{HasPut}
use Rattle.client_lines.proofs.Written.{put_as, puts_on, begins_on, fails_last, none_left}
use Rattle.client_lines.proofs.list.write_list.Goals as goal

pub emails-init : goal.emails-init
emails-init g c =
    let cache = c.args.cache.now in
    record {
      put = put_as (list_text cache (list_view c.args.list.now)) _ _
          (sym (ap₂ (λ w ids. w ++ email_lines cache ids) c.new-waiting.ensures.bytes c.ids-rest.ensures));
      count = refl;
    }

pub emails-preserved : goal.emails-preserved
emails-preserved g c =
    let held = g.O.Sink.held in
    let cache = c.args.cache.now in
    let all = list_text cache (list_view c.args.list.now) in
    let before = subst (λ ids. HasPut all (string_bytes c.emails.waiting ++ email_lines cache ids) (held c.args.out.now) (held c.emails.out)) c.in-Some.ensures.cases.0 c.emails.invariant.put in
    record {
      put = puts_on all (string_bytes c.emails.waiting) (email_line cache c.in-Some.number.now) (email_lines cache c.in-Some.more.now) (string_bytes c.print_email.new.waiting)
          (held c.args.out.now) (held c.emails.out) (held c.print_email.new.out) before c.in-Ok.ensures.ok;
      count = c.in-Ok.ensures.ok_count ∙ c.emails.invariant.count;
    }

pub returns-in-Err-clause-err : goal.returns-in-Err-clause-err
returns-in-Err-clause-err g c =
    let held = g.O.Sink.held in
    let cache = c.args.cache.now in
    let all = list_text cache (list_view c.args.list.now) in
    let before = subst (λ ids. HasPut all (string_bytes c.emails.waiting ++ email_lines cache ids) (held c.args.out.now) (held c.emails.out)) c.in-Some.ensures.cases.0 c.emails.invariant.put in
    begins_on all (string_bytes c.emails.waiting) (email_line cache c.in-Some.number.now) (email_lines cache c.in-Some.more.now)
    (held c.args.out.now) (held c.emails.out) (held c.print_email.new.out) before c.in-Err.ensures.err

pub returns-clause-err : goal.returns-clause-err
returns-clause-err g c =
    let held = g.O.Sink.held in
    let cache = c.args.cache.now in
    let all = list_text cache (list_view c.args.list.now) in
    fails_last c.put_waiting.result all (string_bytes c.emails.waiting) c.as_str.result.now (email_lines cache c.emails.rest.now) (held c.args.out.now) (held c.emails.out) (held c.put_waiting.new.out)
    c.emails.invariant.put (ap (email_lines cache) (none_left c.emails.rest.now c.in_default.ensures.cases)) c.as_str.ensures.value c.put_waiting.ensures.err
