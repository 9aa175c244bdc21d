use Rattle.std.proofs.Common.{◌∙◌, refl, map, option_map, sym, ap, Option}
use Rattle.std.proofs.lemmas.Option.{slice_get-map, slice_get_read}
use Rattle.mail_copies.specs.Carried.{Delivery}
use Rattle.mail_copies.specs.Views.{delivery_of}
use Rattle.mail_copies.specs.declared.carried.Delivery.{Delivery as TheDelivery}
use Rattle.std.proofs.Common.{length}
use Rattle.mail_copies.proofs.Delivered.{first_there}
use Rattle.mail_copies.proofs.carried.pick_delivery.Goals as goal

pub returns-in-Some : goal.returns-in-Some
returns-in-Some c =
    let f : Option TheDelivery → Option Delivery = λ d. option_map delivery_of d in
    let ds = c.args.deliveries.now in
    let look = c.in-Some.ensures.lookup in
    sym (first_there (map f ds) c.args.index (f c.in-Some.delivery.now)
    (slice_get-map f ds c.args.index ∙ ap (option_map f) (slice_get_read ds (length ds) c.args.index c.in-Some.delivery.now refl look.3.0 look.1)))
