use Rattle.std.proofs.Common.{◌≡◌, ◌-◌, ◌++◌, length, take, drop, append_assoc, sym, ap, ◌∙◌}
use Rattle.mime_codec.specs.Quoted.{unescaped}
use Rattle.mime_codec.proofs.Runs.{cut_block, left_of, left_after}
use Rattle.mime_codec.proofs.quoted.push_block.Goals as goal

pub returns-then-plain-eq-BLOCK_BYTES-clause-text : goal.returns-then-plain-eq-BLOCK_BYTES-clause-text
returns-then-plain-eq-BLOCK_BYTES-clause-text c =
    let out = c.args.out.now.items in
    let text = c.args.text.now in
    let n = c.count_plain-plain.result in
    let later = unescaped (drop n (take c.args.len text)) in
    ap (λ t. t ++ later)
    (cut_block out _ _ _ text _ n c.in_ok-extend_from_slice.ensures.items c.truncate.ensures.items (ap length c.as_slice-before.ensures.value) c.split_at.ensures.front c.count_plain-plain.ensures.block)
    ∙ append_assoc out (take n text) later ∙ ap (λ t. out ++ t) (sym c.count_plain-plain.ensures.value)

pub returns-clause-text : goal.returns-clause-text
returns-clause-text c =
    let out = c.args.out.now.items in
    let text = c.args.text.now in
    let len = c.args.len in
    let n = c.count_plain-plain.result in
    let later = unescaped (drop n (take len text)) in
    let rest : take (len - n) c.split_at-2.result.1.now ≡ drop n (take len text) = ap (take (len - n)) c.split_at-2.ensures.back ∙ left_of text n len c.count_plain-plain.ensures.within in
    ap (λ t. c.push_first.new.out.items ++ unescaped t)
    (sym (ap (λ t. drop c.in_ok-size.size (take (len - n) t)) c.split_at-2.ensures.back ∙ left_after text n c.in_ok-size.size len c.count_plain-plain.ensures.within))
    ∙ c.in_ok-size.ensures.text ∙ ap (λ t. c.truncate.new.self.items ++ unescaped t) rest
    ∙ ap (λ t. t ++ later)
    (cut_block out _ _ _ text _ n c.in_ok-extend_from_slice.ensures.items c.truncate.ensures.items (ap length c.as_slice-before.ensures.value) c.split_at.ensures.front c.count_plain-plain.ensures.block)
    ∙ append_assoc out (take n text) later ∙ ap (λ t. out ++ t) (sym c.count_plain-plain.ensures.value)
