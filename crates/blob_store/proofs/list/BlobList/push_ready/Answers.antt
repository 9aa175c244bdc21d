use Rattle.std.proofs.Common.{◌≡◌, ◌+◌, ◌∷◌, ◌++◌, [], ap, sym, ◌∙◌, subst, arith}
use Rattle.blob_store.specs.Authors.{AreSearched}
use Rattle.blob_store.specs.Blobs.{AreBlobsFew, byte_count}
use Rattle.blob_store.proofs.Counts.{one_blob_more}
use Rattle.blob_store.proofs.Searched.{more_blobs}
use Rattle.blob_store.proofs.list.BlobList.push_ready.Goals as goal

pub invariant_of-self : goal.invariant_of-self
invariant_of-self c =
    let inside = c.self.inside in
    let blob = c.args.blob in
    let same = sym c.push_reserved.ensures.items in
    let more = one_blob_more inside.blobs.items blob in
    let total : inside.total_bytes + c.len.result ≡ byte_count (inside.blobs.items ++ blob ∷ []) = omega (arith, more, c.self.invariant.0, c.len.ensures) in (
      subst (λ bs. inside.total_bytes + c.len.result ≡ byte_count bs) same total,
      subst AreBlobsFew (ap (λ v. v.blobs ++ blob ∷ []) (sym c.self.view_is) ∙ same) c.requires.few,
      subst (AreSearched inside.authors) same (more_blobs inside.authors inside.blobs.items (blob ∷ []) c.self.invariant.2),
    )
