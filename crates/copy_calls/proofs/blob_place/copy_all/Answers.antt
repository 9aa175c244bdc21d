use Rattle.std.proofs.Common.{◌≡◌, ◌∙◌, ◌+◌, true, false, sym, ap, subst, map, take, get_or, option_map, Option, List, ℕ, []}
use Rattle.std.specs.Str.{bytes_eq}
use Rattle.std.specs.HashSet as bag
use Rattle.get_args.specs.Selection.{is_among}
use Rattle.get_calls.proofs.FirstMentions.{mentions_grow, mentions_stay, seen_more, stood, stood_not, texts_more}
use Rattle.mail_view.specs.Records.{first_mentions}
use Rattle.copy_calls.specs.BlobCopies.{BlobCopying, after_blob, after_blobs, delivered_for, no_blobs}
use Rattle.mail_copies.specs.Carried.{Delivery}
use Rattle.copy_calls.specs.Views.{FollowsBlobs}
use Rattle.mail_copies.specs.Views.{delivery_of}
use Rattle.copy_calls.proofs.Blobs.{after_push, delivered_here}
use Rattle.copy_calls.proofs.blob_place.copy_all.Goals as goal

pub loop-i-preserved-then-not-branch : goal.loop-i-preserved-then-not-branch
loop-i-preserved-then-not-branch c =
    let ids = c.args.ids.now in
    let i = c.loop-i.i in
    let ds : List (Option Delivery) = map (λ d. option_map delivery_of d) c.args.deliveries.now in
    let f : List ℕ → Option Delivery = delivered_for (map (λ t. t.now) ids) ds in
    let ts : List (List ℕ) = map (λ t. t.now) (take i ids) in
    let s : List ℕ = (get_or ids i (record { ref_ptr = (0, 0); now = [] })).now in
    let more = texts_more ids i (record { ref_ptr = (0, 0); now = [] }) c.loop-i-test.true in
    let there : is_among ts s ≡ true = sym (c.loop-i.invariant.seen s) ∙ stood _ _ c.in_ok-insert.ensures.added c.if-not-branch.true in
    let same : first_mentions ts ≡ first_mentions (map (λ t. t.now) (take (i + 1) ids)) = sym (ap first_mentions more ∙ mentions_stay ts s there) in
    record {
      counted = c.loop-i.invariant.counted;
      seen = λ q.
          seen_more (λ p. bag.contains_by (λ k. bytes_eq p k.now) c.loop-i.seen) (λ p. bag.contains_by (λ k. bytes_eq p k.now) c.insert.new.self) ts s
          (λ p. c.in_ok-insert.ensures.updates.0 (record { ref_ptr = (0, 0); now = p })) c.loop-i.invariant.seen q
          ∙ ap (λ xs. is_among xs q) (sym more);
      follows = subst (λ (xs : List (List ℕ)). FollowsBlobs c.loop-i.planner (after_blobs c.args.blobs.now.blobs f no_blobs xs)) same c.loop-i.invariant.follows;
    }

pub loop-i-preserved : goal.loop-i-preserved
loop-i-preserved c =
    let ids = c.args.ids.now in
    let i = c.loop-i.i in
    let blobs = c.args.blobs.now.blobs in
    let ds : List (Option Delivery) = map (λ d. option_map delivery_of d) c.args.deliveries.now in
    let f : List ℕ → Option Delivery = delivered_for (map (λ t. t.now) ids) ds in
    let ts : List (List ℕ) = map (λ t. t.now) (take i ids) in
    let s : List ℕ = (get_or ids i (record { ref_ptr = (0, 0); now = [] })).now in
    let more = texts_more ids i (record { ref_ptr = (0, 0); now = [] }) c.loop-i-test.true in
    let new : is_among ts s ≡ false = sym (c.loop-i.invariant.seen s) ∙ stood_not _ _ c.in_ok-insert.ensures.added c.if-not-branch.false in
    let grown = ap first_mentions more ∙ mentions_grow ts s new in
    let was : BlobCopying = after_blobs blobs f no_blobs (first_mentions ts) in
    let here = delivered_here ids ds i (record { ref_ptr = (0, 0); now = [] }) c.loop-i-test.true new in
    let is : after_blobs blobs f no_blobs (first_mentions (map (λ t. t.now) (take (i + 1) ids))) ≡ after_blob blobs was s (option_map delivery_of c.pick_delivery.result) =
    ap (after_blobs blobs f no_blobs) grown ∙ (after_push blobs f (first_mentions ts) no_blobs s ∙ ap (after_blob blobs was s) (here ∙ sym c.pick_delivery.ensures)) in
    record {
      counted = c.in_ok-copy_blob.ensures.counted;
      seen = λ q.
          seen_more (λ p. bag.contains_by (λ k. bytes_eq p k.now) c.loop-i.seen) (λ p. bag.contains_by (λ k. bytes_eq p k.now) c.insert.new.self) ts s
          (λ p. c.in_ok-insert.ensures.updates.0 (record { ref_ptr = (0, 0); now = p })) c.loop-i.invariant.seen q
          ∙ ap (λ xs. is_among xs q) (sym more);
      follows = subst (FollowsBlobs c.copy_blob.new.planner) (sym is) (c.in_ok-copy_blob.ensures.follows was c.loop-i.invariant.follows);
    }
