use Rattle.std.proofs.Common.{sym, ◌∙◌}
use Rattle.jm_base.specs.declared.identifiers.Kind.TheVariants.{Thread}
use Rattle.mail_records.specs.Contents.{thread_number}
use Rattle.get_calls.proofs.Named.{named_by_id, named_by_no_id, named_by_other_kind}
use Rattle.get_calls.proofs.threads.find_thread.Goals as goal

pub returns-in-Thread : goal.returns-in-Thread
returns-in-Thread c =
    let ok = c.in-Ok.ensures.ok in
    rw (named_by_id Thread thread_number c.in-Ok.id c.args.id.now c.args.content.now.content.threads ok.0 (sym c.as_bytes.ensures.value ∙ ok.1) c.in-Thread.is) c.thread.ensures

pub returns-in_default : goal.returns-in_default
returns-in_default c =
    let ok = c.in-Ok.ensures.ok in
    named_by_other_kind Thread thread_number c.in-Ok.id c.args.id.now c.args.content.now.content.threads (sym c.as_bytes.ensures.value ∙ ok.1) c.in_default.not-Thread

pub returns-in-Err : goal.returns-in-Err
returns-in-Err c = named_by_no_id Thread thread_number c.args.id.now c.args.content.now.content.threads (rw c.as_bytes.ensures.value at c.in-Err.ensures.err)
