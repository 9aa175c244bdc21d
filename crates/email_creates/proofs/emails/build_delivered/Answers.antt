use Rattle.std.proofs.Common.{◌∙◌, ◌++◌, List, ℕ, ap}
use Rattle.email_creates.specs.Emails.{Progress, email_of, next_blob}
use Rattle.email_creates.specs.Properties.{NamedBlob}
use Rattle.email_creates.specs.Views.{Follows}
use Rattle.email_creates.proofs.Planning.{ok_map}
use Rattle.email_creates.proofs.emails.build_delivered.Goals as goal

pub returns-clause-email : goal.returns-clause-email
returns-clause-email c =
    let blobs = c.args.setting.now.blobs.now.blobs in
    let bytes = c.args.bytes.now in
    ok_map c.build_email.result _ _
    (λ e is (s : Progress) (f : Follows c.args.setting.now.content.now.content c.args.planner.now s).
    is s f
    ∙ ap (λ (x : NamedBlob). email_of s c.args.setting.now.moment c.args.sent x)
    (c.number_message-message.ensures ∙ ap (λ (more : List (List ℕ)). next_blob (blobs ++ more) bytes) (c.as_slice.ensures ∙ f.creates.blobs)))
    c.build_email.ensures.email
