use Rattle.std.proofs.Common.{◌∙◌, refl, sym, ap, append-nil}
use Rattle.blob_store.specs.Blobs.{byte_count}
use Rattle.mail_records.specs.Contents.{Content}
use Rattle.email_creates.specs.Emails.{Progress}
use Rattle.email_creates.specs.Views.{CountsBlobs, Follows}
use Rattle.email_creates.specs.declared.planner.Planner.{Planner}
use Rattle.email_creates.proofs.Following.{Follows-rejected}
use Rattle.email_creates.proofs.emails.reject_email.Goals as goal

pub returns-clause-follows : goal.returns-clause-follows
returns-clause-follows c =
    λ (base : Content) (s : Progress) (f : Follows base c.args.planner.now s).
    let p : Planner = c.args.planner.now in
    let q : Planner = record p { creates = c.enter_create.new.creates } in
    Follows-rejected base p q s c.args.creation.now c.args.error refl refl refl (c.in_ok-enter_create.ensures.follows s.creating f.creates) f

pub returns-clause-counted : goal.returns-clause-counted
returns-clause-counted c =
    λ (h : CountsBlobs c.args.planner.now).
    let same = c.in_ok-enter_create.ensures.blobs ∙ append-nil c.args.planner.now.creates.blobs in
    record { bytes = h.bytes ∙ ap byte_count (sym same); few = h.few }
