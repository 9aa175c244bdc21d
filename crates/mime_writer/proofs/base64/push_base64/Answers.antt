use Rattle.std.proofs.Common.{◌≡◌, ◌++◌, OnOk, List, ℕ, subst, sym, ap, ◌∙◌, arith}
use Rattle.mime_writer.proofs.Base64Lines.{line_last, line_step}
use Rattle.mime_writer.proofs.base64.push_base64.Goals as goal

pub loop-rest-preserved : goal.loop-rest-preserved
loop-rest-preserved c =
    line_step _ c.loop-rest.out.items c.push_encoded.new.out.items c.extend_from_slice.new.self.items c.split_at.result.0.now c.split_at.result.1.now c.loop-rest.rest.now
    c.in_ok-push_encoded.ensures (c.in_ok-extend_from_slice.ensures.items ∙ ap (λ t. c.push_encoded.new.out.items ++ t) c.as_bytes.ensures.value) c.split_at.ensures.front c.split_at.ensures.back (omega (arith, c.loop-rest-test.true)) c.loop-rest.invariant

pub returns : goal.returns
returns c =
    subst (λ (t : List ℕ). OnOk c.push_encoded-2.result (c.push_encoded-2.new.out.items ≡ t))
    (ap (λ t. c.loop-rest.out.items ++ t) (sym (line_last c.loop-rest.rest.now (omega (arith, c.loop-rest-test.false)))) ∙ c.loop-rest.invariant) c.push_encoded-2.ensures
