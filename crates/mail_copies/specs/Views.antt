-- What contracts see of the types of this crate.
use Rattle.std.specs.Prelude.{ℕ}
use Rattle.jm_json.specs.Json.{tree_of}
use Rattle.email_creates.specs.Views.{CountsBlobs, HasNumbersFor}
use Rattle.email_creates.specs.declared.planner.Planner.{Planner}
use Rattle.mail_copies.specs.Carried.{Delivery}
use Rattle.mail_copies.specs.declared.carried.Delivery.{Delivery as TheDelivery}

-- an original that is carried, as the code holds it
abbrev pub delivery_of : TheDelivery → Delivery
delivery_of d = record { item = tree_of d.item.now; bytes = d.bytes.now }

-- There are numbers for so many emails and threads more, and the bytes of the call's blobs are
-- counted.
pub record HasRoomFor (n : ℕ) (p : Planner) : Type 0 where
  pub numbers : HasNumbersFor n p
  pub counted : CountsBlobs p
