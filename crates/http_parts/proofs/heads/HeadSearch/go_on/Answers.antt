use Rattle.std.proofs.Common.{◌+◌}
use Rattle.http_parts.proofs.GoneOn.{line_found, searched_past, head_found, none_found, searched_all}
use Rattle.http_parts.proofs.heads.HeadSearch.go_on.Goals as goal

pub line-preserved : goal.line-preserved
line-preserved c =
    let s = c.line.at in
    searched_past c.args.bytes.now s c.in-Some-pass_line.next _ (s.seen + c.in-Some.count + 1) c.is_line_end-empty.result c.line.invariant (line_found c.args.bytes.now s c.in-Some.count c.line.invariant c.in-Some.ensures) c.is_line_end-empty.ensures
    c.in-Some-pass_line.ensures

pub returns-in-None-clause-found : goal.returns-in-None-clause-found
returns-in-None-clause-found c =
    let s = c.line.at in
    head_found c.args.bytes.now s _ (s.seen + c.in-Some.count + 1) c.is_line_end-empty.result c.line.invariant (line_found c.args.bytes.now s c.in-Some.count c.line.invariant c.in-Some.ensures) c.is_line_end-empty.ensures c.in-None.ensures

pub returns-clause-none : goal.returns-clause-none
returns-clause-none c e = none_found c.args.bytes.now c.line.at c.line.invariant c.in_default.ensures

pub returns-clause-searched : goal.returns-clause-searched
returns-clause-searched c e = searched_all c.args.bytes.now c.line.at c.line.invariant c.in_default.ensures
