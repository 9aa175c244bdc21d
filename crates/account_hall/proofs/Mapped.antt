-- A copy over states is one over what these states show.
use Rattle.std.proofs.Common.{◌≡◌, inl, inr, Bool, true, false, cond, List, Option, Some, None, Result, Ok, Err, sym, ap, subst}
use Rattle.jm_json.specs.Call.{Call as Invocation}
use Rattle.jm_json.specs.declared.invocation.Invocation.{Invocation as TheInvocation}
use Rattle.jm_json.specs.declared.invocation.Created.{Created}
use Rattle.jm_json.specs.declared.invocation.Replied.{Replied}
use Rattle.account_book.specs.declared.asks.Call.{Call}
use Rattle.account_book.specs.declared.asks.Carried.{Carried}
use Rattle.account_book.specs.declared.plans.Out.{Out}
use Rattle.account_hall.specs.Copies.{CopySteps, HasBegun, HasFetched, HasPlaced, IsCopied, IsFetchedSo, IsFollowed, IsPlaced, IsPlacedSo, IsSetAsked, SetOf, carried_in, replied_in, set_after}

module _ {S T : Type 0} (from to : Call → S → S → Out → Type 0) (from' to' : Call → T → T → Out → Type 0) (set_of : SetOf) (read_only : Bool) (call : TheInvocation) (made : List Created)
    (show : S → T) (K : S → Type 0)
    (at_from : (asked : Call) (s s' : S) (answer : Out) → K s → from asked s s' answer → from' asked (show s) (show s') answer × K s')
    (at_to : (asked : Call) (s s' : S) (answer : Out) → K s → to asked s s' answer → to' asked (show s) (show s') answer × K s') where
  abbrev c : CopySteps S
  c = record { from = from; to = to; set_of = set_of; read_only = read_only; call = call; made = made }

  abbrev d : CopySteps T
  d = record { from = from'; to = to'; set_of = set_of; read_only = read_only; call = call; made = made }

  set_asked : (placed : Replied) (set : Invocation) (s s' : S) (answer : Out) → K s → IsSetAsked c placed set s s' answer → IsSetAsked d placed set (show s) (show s') answer × K s'
  set_asked placed set s s' answer k w =
      let h = at_from _ s s' w.reply k w.asked in
      (record { call = w.call; call_is = w.call_is; reply = w.reply; asked = h.0; answer_is = w.answer_is }, h.1)

  still : (s s' : S) (P : Type 0) → K s → (s' ≡ s) × P → ((show s' ≡ show s) × P) × K s'
  still s s' P k w = ((ap show w.0, w.1), subst K (sym w.0) k)

  by_flag : (b : Bool) (A B A' B' Q : Type 0) → (A → A' × Q) → (B → B' × Q) → cond b A B → cond b A' B' × Q
  by_flag true A B A' B' Q f g w = f w
  by_flag false A B A' B' Q f g w = g w

  followed : (placed : Replied) (o : Option Invocation) (s s' : S) (answer : Out) → K s → IsFollowed c placed o s s' answer → IsFollowed d placed o (show s) (show s') answer × K s'
  followed placed None s s' answer k w = still s s' _ k w
  followed placed (Some set) s s' answer k w = by_flag read_only _ _ _ _ _ (still s s' _ k) (set_asked placed set s s' answer k) w

  placed_so : (r : Result Replied Out) (s s' : S) (answer : Out) → K s → IsPlacedSo c r s s' answer → IsPlacedSo d r (show s) (show s') answer × K s'
  placed_so (Ok placed) s s' answer k w = followed placed (set_after c placed) s s' answer k w
  placed_so (Err other) s s' answer k w = still s s' _ k w

  is_placed : (carried : Carried) (s s' : S) (answer : Out) → K s → IsPlaced c carried s s' answer → IsPlaced d carried (show s) (show s') answer × K s'
  is_placed carried s s' answer k w =
      let h = at_to _ s w.next w.placed k w.place in
      let r = placed_so (replied_in w.placed) w.next s' answer h.1 w.rest in
      (record { placed = w.placed; next = show w.next; place = h.0; rest = r.0 }, r.1)

  fetched_so : (r : Result Carried Out) (s s' : S) (answer : Out) → K s → IsFetchedSo c r s s' answer → IsFetchedSo d r (show s) (show s') answer × K s'
  fetched_so (Ok carried) s s' answer k w = is_placed carried s s' answer k w
  fetched_so (Err other) s s' answer k w = still s s' _ k w

  pub copied : (s s' : S) (answer : Out) → K s → IsCopied c s s' answer → IsCopied d (show s) (show s') answer × K s'
  copied s s' answer k w =
      let h = at_from _ s w.next w.fetched k w.fetch in
      let r = fetched_so (carried_in w.fetched) w.next s' answer h.1 w.rest in
      (record { fetched = w.fetched; next = show w.next; fetch = h.0; rest = r.0 }, r.1)

  fetched : (s s' : S) → K s → HasFetched c s s' → HasFetched d (show s) (show s') × K s'
  fetched s s' k w =
      let h = at_from _ s s' w.fetched k w.fetch in
      (record { fetched = w.fetched; carried = w.carried; carried_is = w.carried_is; fetch = h.0 }, h.1)

  has_placed : (s s' : S) → K s → HasPlaced c s s' → HasPlaced d (show s) (show s') × K s'
  has_placed s s' k w =
      let one = at_from _ s w.next w.first.fetched k w.first.fetch in
      let two = at_to _ w.next s' w.placed one.1 w.place in
      (record { next = show w.next; first = record { fetched = w.first.fetched; carried = w.first.carried; carried_is = w.first.carried_is; fetch = one.0 }; placed = w.placed; place = two.0 }, two.1)

  pub begun : (s s' : S) → K s → HasBegun c s s' → HasBegun d (show s) (show s') × K s'
  begun s s' k (inl is) = (inl (ap show is), subst K (sym is) k)
  begun s s' k (inr (inl w)) = let h = fetched s s' k w in (inr (inl h.0), h.1)
  begun s s' k (inr (inr w)) = let h = has_placed s s' k w in (inr (inr h.0), h.1)
