use Rattle.std.proofs.Common.{◌≡◌, ◌+◌, ◌-◌, ◌∙◌, length, map, drop, option_map, Option, List, sym, ap, subst, arith}
use Rattle.std.proofs.lemmas.List.{drop_all}
use Rattle.set_parts.specs.Views.{create_of}
use Rattle.mail_copies.specs.Carried.{Delivery}
use Rattle.email_creates.specs.Emails.{Progress}
use Rattle.email_creates.specs.Views.{Follows}
use Rattle.mail_copies.specs.Copies.{after_copies, after_copy, delivery_for}
use Rattle.mail_copies.specs.Views.{HasRoomFor, delivery_of}
use Rattle.mail_copies.proofs.Following.{copies_step}
use Rattle.mail_copies.proofs.copy.perform_copies.Goals as goal

pub loop-i-preserved : goal.loop-i-preserved
loop-i-preserved c =
    let blobs = c.args.setting.now.blobs.now.blobs in
    let moment = c.args.setting.now.moment in
    let creates = c.args.creates.now in
    let ds : List (Option Delivery) = map (λ d. option_map delivery_of d) c.args.deliveries.now in
    let lt = c.loop-i-test.true in
    let left : length creates - c.loop-i.i ≡ (length creates - (c.loop-i.i + 1)) + 1 = omega (arith, lt) in
    let x = c.index-creates-i.result in
    let d : Option Delivery = option_map delivery_of c.pick_delivery-delivery.result in
    record {
      numbers = c.in_ok-perform_copy.ensures.numbers (length creates - (c.loop-i.i + 1)) (subst (λ n. HasRoomFor n c.loop-i.planner) left c.loop-i.invariant.numbers);
      follows = λ (s : Progress) f.
          let was = c.loop-i.invariant.follows s f in (
            after_copy blobs moment was.0 (create_of x) (delivery_for (create_of x) d),
            c.in_ok-perform_copy.ensures.follows was.0 was.1,
            sym (copies_step blobs moment was.0 creates ds c.loop-i.i x d lt c.index-creates-i.is c.pick_delivery-delivery.ensures) ∙ was.2,
          );
    }

pub returns : goal.returns
returns c =
    let base = c.args.setting.now.content.now.content in
    let blobs = c.args.setting.now.blobs.now.blobs in
    let moment = c.args.setting.now.moment in
    let creates = c.args.creates.now in
    let ds : List (Option Delivery) = map (λ d. option_map delivery_of d) c.args.deliveries.now in
    λ (s : Progress) (f : Follows base c.args.planner.now s).
    let was = c.loop-i.invariant.follows s f in
    let over = c.loop-i-test.false in
    subst (Follows base c.loop-i.planner)
    (sym (ap (λ xs. after_copies blobs moment was.0 (map create_of xs) (drop c.loop-i.i ds)) (drop_all c.loop-i.i creates (omega (arith, over)))) ∙ was.2)
    was.1
