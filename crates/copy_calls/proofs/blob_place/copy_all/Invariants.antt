use Rattle.std.proofs.Common.{◌≡◌, ℕ, List, map, take, option_map}
use Rattle.std.specs.Str.{bytes_eq}
use Rattle.std.specs.HashSet as bag
use Rattle.get_args.specs.Selection.{is_among}
use Rattle.mail_view.specs.Records.{first_mentions}
use Rattle.copy_calls.specs.BlobCopies.{after_blobs, delivered_for, no_blobs}
use Rattle.copy_calls.specs.Views.{AreCounted, FollowsBlobs}
use Rattle.mail_copies.specs.Views.{delivery_of}
use Rattle.copy_calls.proofs.blob_place.copy_all.Given as goal

abbrev pub invariant-loop-i : goal.invariant-loop-i
invariant-loop-i l = record {
  counted : AreCounted l.planner;
  seen : (q : List ℕ) → bag.contains_by (λ k. bytes_eq q k.now) l.seen ≡ is_among (map (λ t. t.now) (take l.i l.ids)) q;
  follows : FollowsBlobs l.planner
      (after_blobs l.blobs.blobs (delivered_for (map (λ t. t.now) l.ids) (map (λ d. option_map delivery_of d) l.deliveries)) no_blobs (first_mentions (map (λ t. t.now) (take l.i l.ids))));
}
