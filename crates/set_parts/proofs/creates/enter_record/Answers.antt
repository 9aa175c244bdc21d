use Rattle.std.proofs.Common.{◌∙◌, [], ◌∷◌, ◌++◌, List, ℕ, sym, ap, ap₂, subst}
use Rattle.jm_json.specs.Order.{put as put_member}
use Rattle.jm_json.specs.Tree.{Tree, object, fields_of}
use Rattle.jm_json.specs.declared.invocation.Created.{Created}
use Rattle.mail_records.specs.declared.edits.Edit.{Edit}
use Rattle.set_parts.specs.Creates.{Creating, blobs_brought, record_under}
use Rattle.set_parts.specs.CreatesViews.{KeepUp}
use Rattle.set_parts.specs.Views.{Means}
use Rattle.set_parts.specs.declared.creates.NewRecord.{NewRecord}
use Rattle.set_parts.proofs.creates.enter_record.Goals as goal

pub returns-clause-follows : goal.returns-clause-follows
returns-clause-follows c =
    λ (s : Creating) (f : KeepUp c.args.creates.now s).
    let x : NewRecord = c.args.item in
    let key = c.args.creation.now in
    let told : Tree = object (fields_of x.members) in
    record {
      ids = c.in_ok-note_id.ensures s.made (record_under key x) f.ids (sym c.as_bytes.ensures.value)
          (subst (λ (t : List ℕ). Means t c.read_mailbox_number.result) c.as_bytes-2.ensures.value c.read_mailbox_number.ensures);
      fresh = c.in_ok-push.ensures.ok ∙ ap₂ (λ (xs : List Created) (k : List ℕ). xs ++ record { creation = k; id = x.id } ∷ []) f.fresh c.in_ok-creation.ensures;
      edits = c.in_ok-append.ensures.ok ∙ ap (λ (es : List Edit). es ++ x.edits) f.edits;
      blobs = c.in_ok-push_blob.ensures ∙ ap (λ (bs : List (List ℕ)). bs ++ blobs_brought x.blob) f.blobs;
      created = c.in_ok-put.ensures.ok ∙ ap₂ (λ (k : List ℕ) (ms : List (List ℕ × Tree)). put_member k told ms) c.in_ok-copy.ensures f.created;
      not_created = f.not_created;
    }
