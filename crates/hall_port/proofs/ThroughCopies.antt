-- What each call of a copy keeps, the whole copy keeps.
use Rattle.std.proofs.Common.{◌≡◌, inl, inr, Option, Some, None, Result, Ok, Err, sym, subst}
use Rattle.jm_json.specs.Call.{Call as Invocation}
use Rattle.jm_json.specs.declared.invocation.Replied.{Replied}
use Rattle.account_book.specs.declared.asks.Call.{Call}
use Rattle.account_book.specs.declared.asks.Carried.{Carried}
use Rattle.account_book.specs.declared.plans.Out.{Out}
use Rattle.account_hall.specs.Copies.{CopySteps, HasBegun, HasFetched, IsCopied, IsFetchedSo, IsFollowed, IsPlaced, IsPlacedSo, IsSetAsked, carried_in, replied_in, set_after}
use Rattle.hall_port.proofs.Through.{by_cond}

module _ {S : Type 0} (c : CopySteps S) (K : S → S → Type 0) (stay : (s : S) → K s s) (go : (s m s' : S) → K s m → K m s' → K s s')
    (from : (asked : Call) (s s' : S) (answer : Out) → c.from asked s s' answer → K s s') (to : (asked : Call) (s s' : S) (answer : Out) → c.to asked s s' answer → K s s') where
  still : (s s' : S) → s' ≡ s → K s s'
  still s s' is = subst (K s) (sym is) (stay s)

  followed : (placed : Replied) (o : Option Invocation) (s s' : S) (answer : Out) → IsFollowed c placed o s s' answer → K s s'
  followed placed None s s' answer w = still s s' w.0
  followed placed (Some set) s s' answer w = by_cond c.read_only _ _ _ (λ u. still s s' u.0) (λ (u : IsSetAsked c placed set s s' answer). from _ s s' u.reply u.asked) w

  placed_so : (r : Result Replied Out) (s s' : S) (answer : Out) → IsPlacedSo c r s s' answer → K s s'
  placed_so (Ok placed) s s' answer w = followed placed (set_after c placed) s s' answer w
  placed_so (Err other) s s' answer w = still s s' w.0

  is_placed : (carried : Carried) (s s' : S) (answer : Out) → IsPlaced c carried s s' answer → K s s'
  is_placed carried s s' answer w = go s w.next s' (to _ s w.next w.placed w.place) (placed_so (replied_in w.placed) w.next s' answer w.rest)

  fetched_so : (r : Result Carried Out) (s s' : S) (answer : Out) → IsFetchedSo c r s s' answer → K s s'
  fetched_so (Ok carried) s s' answer w = is_placed carried s s' answer w
  fetched_so (Err other) s s' answer w = still s s' w.0

  pub through_copy : (s s' : S) (answer : Out) → IsCopied c s s' answer → K s s'
  through_copy s s' answer w = go s w.next s' (from _ s w.next w.fetched w.fetch) (fetched_so (carried_in w.fetched) w.next s' answer w.rest)

  fetched : (s s' : S) → HasFetched c s s' → K s s'
  fetched s s' w = from _ s s' w.fetched w.fetch

  pub through_begun : (s s' : S) → HasBegun c s s' → K s s'
  through_begun s s' (inl is) = still s s' is
  through_begun s s' (inr (inl w)) = fetched s s' w
  through_begun s s' (inr (inr w)) = go s w.next s' (fetched s w.next w.first) (to _ w.next s' w.placed w.place)
