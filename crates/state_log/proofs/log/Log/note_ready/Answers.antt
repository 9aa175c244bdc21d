use Rattle.std.proofs.Common.{◌<◌, ◌+◌, ◌^◌, length, sym, subst, arith}
use Rattle.mail_records.specs.Histories.{Floors}
use Rattle.state_log.specs.Logs.{Keeps, log_end}
use Rattle.state_log.proofs.Placed.{Keeps-push}
use Rattle.state_log.proofs.log.Log.note_ready.Goals as goal

pub invariant_of-self : goal.invariant_of-self
invariant_of-self c =
    let inside = c.self.inside in
    let floors : Floors = record { mailbox = inside.floors.mailbox; email = inside.floors.email; thread = inside.floors.thread } in
    let short : inside.floor + length inside.notes.items + 1 < 2 ^ 64 = subst (λ v. log_end v + 1 < 2 ^ 64) (sym c.self.view_is) c.requires.short in
    subst (λ ns. Keeps inside.floor floors ns c.push_ready.new.self) (sym c.push_reserved.ensures.items)
    (Keeps-push inside.floor floors inside.notes.items c.note_of-note.result inside.places c.push_ready.new.self (inside.floor + c.len.result + 1) c.self.invariant short (omega arith) c.note_of-note.ensures.named
    c.push_ready.ensures.mailbox c.push_ready.ensures.email c.push_ready.ensures.thread c.push_ready.ensures.email_threads)
