use Rattle.std.proofs.Common.{rules, ◌++◌, ◌∙◌, ap, codes, ℕ, List}
use Rattle.std.specs.Fmt.{decimal}
use Rattle.http_wire.specs.Responses.{http_line, reason_phrase, first_lines}
use Rattle.http_wire.proofs.Appended.{as_four}
use Rattle.http_wire.proofs.responses.write_first_lines.Goals as goal

pub returns : goal.returns
unfolding first_lines
returns c = as_four c.new-head.result.items c.push_line.new.bytes.items c.push_line-2.new.bytes.items c.push_line-3.new.bytes.items c.push_line-4.new.bytes.items (http_line (codes "HTTP/1.1 " ++ (decimal c.args.status ++ codes " " ++ reason_phrase c.args.status))) (http_line (codes "Content-Type: " ++ c.args.media.now)) (http_line (codes "Content-Length: " ++ decimal c.args.size)) (http_line (codes "Cache-Control: no-store")) c.new-head.ensures.items
    (c.in_ok-push_line.ensures ∙ ap (λ (z : List ℕ). c.new-head.result.items ++ http_line (codes "HTTP/1.1 " ++ z)) {y = decimal c.args.status ++ codes " " ++ reason_phrase c.args.status} (search rules))
    c.in_ok-push_line-2.ensures
    (c.in_ok-push_line-3.ensures ∙ ap (λ (z : List ℕ). c.push_line-2.new.bytes.items ++ http_line (codes "Content-Length: " ++ z)) {y = decimal c.args.size} (search rules))
    (c.in_ok-push_line-4.ensures ∙ ap (λ (z : List ℕ). c.push_line-3.new.bytes.items ++ http_line (codes "Cache-Control: " ++ z)) {y = codes "no-store"} (search rules))
