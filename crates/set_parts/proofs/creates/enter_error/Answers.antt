use Rattle.std.proofs.Common.{◌∙◌, List, ℕ, sym, ap, ap₂, append-nil}
use Rattle.jm_json.specs.Order.{put as put_member}
use Rattle.jm_json.specs.Json.{tree_of}
use Rattle.jm_json.specs.Tree.{Tree}
use Rattle.set_parts.specs.Creates.{Creating}
use Rattle.set_parts.specs.CreatesViews.{KeepUp}
use Rattle.set_parts.proofs.creates.enter_error.Goals as goal

pub returns-clause-follows : goal.returns-clause-follows
returns-clause-follows c =
    λ (s : Creating) (f : KeepUp c.args.creates.now s).
    record {
      ids = f.ids;
      fresh = f.fresh;
      edits = f.edits;
      blobs = f.blobs;
      created = f.created;
      not_created = c.in_ok-put.ensures.ok
          ∙ (ap₂ (λ (k : List ℕ) (ms : List (List ℕ × Tree)). put_member k (tree_of c.in_ok-error.error) ms) c.in_ok-copy.ensures f.not_created
          ∙ ap (λ (t : Tree). put_member c.args.creation.now t s.not_created) c.in_ok-error.ensures);
    }

pub returns-clause-blobs : goal.returns-clause-blobs
returns-clause-blobs c = sym (append-nil c.args.creates.now.blobs)
