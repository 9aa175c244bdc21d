use Rattle.std.proofs.Common.{◌≡◌, map, take}
use Rattle.set_parts.specs.Views.{create_of}
use Rattle.copy_calls.specs.Fetches.{item_of, messages_of, original_named}
use Rattle.copy_calls.proofs.fetch.carry_originals.Given as goal

abbrev pub invariant-loop-create : goal.invariant-loop-create
invariant-loop-create l = record {
  emails : l.carried.emails ≡ map item_of (map (original_named l.content.content.emails) (map create_of (take l.create-index l.creates)));
  blobs : l.carried.blobs ≡ messages_of l.blobs.blobs (map (original_named l.content.content.emails) (map create_of (take l.create-index l.creates)));
}
