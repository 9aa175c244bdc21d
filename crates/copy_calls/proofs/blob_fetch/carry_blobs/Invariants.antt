use Rattle.std.proofs.Common.{◌≡◌, ◌++◌, map, drop}
use Rattle.std.specs.List.{filter_map}
use Rattle.copy_calls.specs.BlobCopies.{blob_item}
use Rattle.mail_view.specs.NamedBytes.{bytes_named}
use Rattle.copy_calls.proofs.blob_fetch.carry_blobs.Given as goal

abbrev pub invariant-loop-id : goal.invariant-loop-id
invariant-loop-id l = record {
  emails : l.carried.emails ++ map (λ id. blob_item (bytes_named l.blobs.blobs id)) (map (λ s. s.now) (drop l.id-index l.ids))
      ≡ map (λ id. blob_item (bytes_named l.blobs.blobs id)) (map (λ s. s.now) l.ids);
  blobs : l.carried.blobs ++ filter_map (bytes_named l.blobs.blobs) (map (λ s. s.now) (drop l.id-index l.ids))
      ≡ filter_map (bytes_named l.blobs.blobs) (map (λ s. s.now) l.ids);
}
