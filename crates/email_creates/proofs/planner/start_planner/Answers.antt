use Rattle.std.proofs.Common.{◌≡◌, ℕ, length, Option, Some, None, refl, sym, ap, ◌∙◌, arith}
use Rattle.std.specs.Option.{option_or}
use Rattle.blob_store.specs.Blobs.{byte_count}
use Rattle.mail_records.specs.Contents.{Content}
use Rattle.mail_records.specs.declared.records.Summary.{Summary}
use Rattle.thread_assign.specs.Threads.{joined_thread}
use Rattle.set_parts.specs.Creates.{before_creates}
use Rattle.set_parts.specs.CreatesViews.{KeepUp}
use Rattle.email_creates.proofs.planner.start_planner.Goals as goal

or_none : (o : Option ℕ) → o ≡ option_or o None
or_none None = refl
or_none (Some n) = refl

pub returns-clause-follows : goal.returns-clause-follows
returns-clause-follows c =
    let content = c.args.content.now.content in
    let up : KeepUp c.in_ok-creates.creates (before_creates content c.args.made.now) = c.in_ok-creates.ensures content in
    let none = ap length up.edits in
    record {
      mailboxes = refl;
      count = omega (arith, none);
      numbered = c.requires.numbered;
      threads = λ (u : Summary).
          or_none (joined_thread content.emails u)
          ∙ ap (λ (x : Content). option_or (joined_thread content.emails u) (joined_thread x.emails u)) (sym c.new.ensures);
      next_email = c.next.ensures;
      next_thread = c.next-2.ensures;
      creates = up;
    }

pub returns-clause-counted : goal.returns-clause-counted
returns-clause-counted c =
    let up : KeepUp c.in_ok-creates.creates (before_creates c.args.content.now.content c.args.made.now) = c.in_ok-creates.ensures c.args.content.now.content in
    record { bytes = ap byte_count (sym up.blobs); few = omega arith }
