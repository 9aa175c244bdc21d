use Rattle.std.proofs.Common.{take, get_or, sym, ap, ◌∙◌, arith}
use Rattle.std.proofs.lemmas.List.{take_more}
use Rattle.mail_records.specs.Contents.{Content, thread_number}
use Rattle.mail_records.specs.Tables.{without, without_all}
use Rattle.mail_records.proofs.WithoutAll.{without_more, without_none}
use Rattle.mail_records.proofs.waiting.drop_few_threads.Goals as goal

pub loop-number-init : goal.loop-number-init
loop-number-init c =
    let old = c.args.content.now.content in
    record {
      content = ap (λ rs. record old { threads = rs }) (sym (without_none thread_number old.threads));
      spare = omega arith;
      email_spare = omega arith;
    }

pub loop-number-preserved : goal.loop-number-preserved
loop-number-preserved c =
    let old = c.args.content.now.content in
    let ns = c.args.numbers.now in
    let i = c.loop-number.number-index in
    let n = get_or ns i 0 in
    record {
      content =
          c.drop_thread.ensures.content
          ∙ (ap (λ (x : Content). record x { threads = without thread_number n x.threads }) c.loop-number.invariant.content
          ∙ ap (λ rs. record old { threads = rs })
          (sym (without_more thread_number (take i ns) n old.threads) ∙ ap (λ ms. without_all thread_number ms old.threads) (sym (take_more ns i 0 c.loop-number-test.true))));
      spare = omega (arith, c.drop_thread.ensures.spare, c.loop-number.invariant.spare);
      email_spare = omega (arith, c.drop_thread.ensures.email_spare, c.loop-number.invariant.email_spare);
    }
