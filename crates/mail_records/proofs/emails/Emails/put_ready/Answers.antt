use Rattle.std.proofs.Common.{◌≡◌, ◌≤◌, ◌+◌, ◌-◌, Some, map, refl, ap, sym, ◌∙◌, subst, arith, length, vec_len, vec_capacity}
use Rattle.std.proofs.lemmas.List.{length-map}
use Rattle.mail_records.specs.Contents.{blob_of, email_number}
use Rattle.mail_records.specs.Orders.{mailbox_keys, link_keys, placed_key_of}
use Rattle.mail_records.specs.Tables.{lookup, put}
use Rattle.mail_records.proofs.Links.{link_count}
use Rattle.mail_records.proofs.Rooms.{fits_found, found_put, least_of_four, room_after}
use Rattle.mail_records.proofs.Tables.{map_put}
use Rattle.mail_records.proofs.emails.Emails.put_ready.Goals as goal

pub settle-requires-3-clause-room : goal.settle-requires-3-clause-room
settle-requires-3-clause-room c r e =
    let inside = c.self.inside in
    let item = c.args.item in
    let found : lookup email_number item.number c.put_ready.new.self.rows ≡ Some item =
    found_put email_number item inside.table.rows c.put_ready.new.self.rows c.put_ready.ensures.rows in
    fits_found (λ x. length (mailbox_keys x)) item r (length item.mailboxes) (vec_capacity inside.by_mailbox) (vec_len inside.by_mailbox)
    (vec_len c.leave-placed.new.entries) (vec_capacity c.leave-placed.new.entries) c.args.self.now.placed (sym found ∙ e)
    (length-map item.mailboxes (placed_key_of item)) c.requires.placed (ap (λ v. v.placed) c.self.view_is) c.leave-placed.ensures.len c.leave-placed.ensures.capacity

pub settle-requires-4-clause-room : goal.settle-requires-4-clause-room
settle-requires-4-clause-room c r e =
    let inside = c.self.inside in
    let item = c.args.item in
    let found : lookup email_number item.number c.put_ready.new.self.rows ≡ Some item =
    found_put email_number item inside.table.rows c.put_ready.new.self.rows c.put_ready.ensures.rows in
    fits_found (λ x. length (link_keys x)) item r (length item.summary.links) (vec_capacity inside.by_link) (vec_len inside.by_link)
    (vec_len c.leave-linked.new.entries) (vec_capacity c.leave-linked.new.entries) c.args.self.now.linked (sym found ∙ e)
    (link_count item.number 0 item.summary.links) c.requires.linked (ap (λ v. v.linked) c.self.view_is) c.leave-linked.ensures.len c.leave-linked.ensures.capacity

pub returns-clause-spare : goal.returns-clause-spare
returns-clause-spare c =
    let inside = c.self.inside in
    let item = c.args.item in
    let found : lookup email_number item.number c.put_ready.new.self.rows ≡ Some item =
    found_put email_number item inside.table.rows c.put_ready.new.self.rows c.put_ready.ensures.rows in
    least_of_four c.args.self.now.spare _ _ _ _ _ _ _ _ (ap (λ v. v.spare) c.self.view_is) c.put_ready.ensures.spare c.put_ready-2.ensures.spare
    (room_after (vec_capacity inside.by_received) _ _ _ _ _ 1 c.leave-dated.ensures.len (c.settle.ensures.len item found) c.leave-dated.ensures.capacity c.settle.ensures.capacity)
    (room_after (vec_capacity inside.by_thread) _ _ _ _ _ 1 c.leave-threaded.ensures.len (c.settle-2.ensures.len item found) c.leave-threaded.ensures.capacity c.settle-2.ensures.capacity)

pub returns-clause-placed : goal.returns-clause-placed
returns-clause-placed c =
    let inside = c.self.inside in
    let item = c.args.item in
    let found : lookup email_number item.number c.put_ready.new.self.rows ≡ Some item =
    found_put email_number item inside.table.rows c.put_ready.new.self.rows c.put_ready.ensures.rows in
    let count : length (mailbox_keys item) ≡ length item.mailboxes = length-map item.mailboxes (placed_key_of item) in
    let more = c.settle-3.ensures.len item found in
    let least : vec_len c.settle-3.new.entries ≤ vec_len c.leave-placed.new.entries + length item.mailboxes = omega arith in
    subst (λ n. n ≤ vec_capacity c.settle-3.new.entries - vec_len c.settle-3.new.entries + length item.mailboxes) (ap (λ v. v.placed) c.self.view_is)
    (room_after (vec_capacity inside.by_mailbox) _ _ _ _ _ (length item.mailboxes) c.leave-placed.ensures.len least c.leave-placed.ensures.capacity c.settle-3.ensures.capacity)

pub returns-clause-linked : goal.returns-clause-linked
returns-clause-linked c =
    let inside = c.self.inside in
    let item = c.args.item in
    let found : lookup email_number item.number c.put_ready.new.self.rows ≡ Some item =
    found_put email_number item inside.table.rows c.put_ready.new.self.rows c.put_ready.ensures.rows in
    let count : length (link_keys item) ≡ length item.summary.links = link_count item.number 0 item.summary.links in
    let more = c.settle-4.ensures.len item found in
    let least : vec_len c.settle-4.new.entries ≤ vec_len c.leave-linked.new.entries + length item.summary.links = omega arith in
    subst (λ n. n ≤ vec_capacity c.settle-4.new.entries - vec_len c.settle-4.new.entries + length item.summary.links) (ap (λ v. v.linked) c.self.view_is)
    (room_after (vec_capacity inside.by_link) _ _ _ _ _ (length item.summary.links) c.leave-linked.ensures.len least c.leave-linked.ensures.capacity c.settle-4.ensures.capacity)

pub invariant_of-self : goal.invariant_of-self
invariant_of-self c = (
  c.put_ready-2.ensures.rows
      ∙ (ap (put (λ b. b.email) (blob_of c.args.item)) c.self.invariant.0
      ∙ (sym (map_put email_number (λ b. b.email) blob_of (λ x. refl) c.args.item c.self.inside.table.rows) ∙ sym (ap (map blob_of) c.put_ready.ensures.rows))),
  c.settle.ensures.exact,
  c.settle-2.ensures.exact,
  c.settle-3.ensures.exact,
  c.settle-4.ensures.exact,
)
