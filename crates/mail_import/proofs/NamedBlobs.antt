-- The blob that an import names is one of the account's.
use Rattle.std.proofs.Common.{◌≡◌, ℕ, zero, suc, ◌-◌, ◌<◌, List, [], length, get_or, Option, Some, None, option_and_then, ap, ◌∙◌, subst, arith}
use Rattle.std.proofs.lemmas.Option.{none-some, get_or_from_slice_get, slice_get_within}
use Rattle.jm_json.specs.Tree.{Tree}
use Rattle.jm_json.specs.Find.{as_text}
use Rattle.blob_ids.specs.BlobIds.{blob_id_in}
use Rattle.blob_ids.specs.declared.ids.BlobId.{BlobId}
use Rattle.blob_store.specs.Blobs.{blob_numbered}
use Rattle.mail_view.specs.NamedBytes.{bytes_of_id}
use Rattle.set_parts.proofs.Parts.{bound, mapped}
use Rattle.email_creates.specs.Properties.{NamedBlob}
use Rattle.email_creates.proofs.SentMembers.{IsBlobOf}
use Rattle.mail_import.specs.Properties.{blob_in, blob_named, whole_blob}

blob_at : (blobs : List (List ℕ)) (n : ℕ) (b : List ℕ) → blob_numbered n blobs ≡ Some b → IsBlobOf blobs (record { number = n; bytes = b })
blob_at blobs zero b e = absurd (none-some b e)
blob_at blobs (suc n) b e =
    let less : n < length blobs = slice_get_within blobs n b e in
    let back : suc n - 1 ≡ n = omega arith in
    record { from_one = omega arith; there = omega (arith, less); bytes = ap (λ i. get_or blobs i []) back ∙ get_or_from_slice_get blobs n b [] e }

whole_good : (blobs : List (List ℕ)) (n : ℕ) (leaf : Option ℕ) (x : NamedBlob) → whole_blob blobs n leaf ≡ Some x → IsBlobOf blobs x
whole_good blobs n None x e =
    let b = mapped (λ (y : List ℕ). let s : NamedBlob = record { number = n; bytes = y } in s) (bytes_of_id blobs (record { blob = n; leaf = None })) x e in
    let whole = bound (λ (y : List ℕ). Some y) (blob_numbered n blobs) b.0 b.1 in
    subst (IsBlobOf blobs) b.2 (blob_at blobs n b.0 (whole.1 ∙ whole.2))
whole_good blobs n (Some leaf) x e = absurd (none-some x e)

pub blob_good : (blobs : List (List ℕ)) (t : Option Tree) (x : NamedBlob) → blob_in blobs t ≡ Some x → IsBlobOf blobs x
blob_good blobs t x e =
    let s = bound (blob_named blobs) (option_and_then as_text t) x e in
    let id = bound (λ (i : BlobId). whole_blob blobs i.blob i.leaf) (blob_id_in s.0) x s.2 in
    whole_good blobs id.0.blob id.0.leaf x id.2
