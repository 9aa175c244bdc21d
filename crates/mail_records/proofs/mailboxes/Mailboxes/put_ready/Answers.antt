use Rattle.std.proofs.Common.{◌≡◌, ◌≤◌, ◌+◌, Some, ap, arith, vec_len, vec_capacity}
use Rattle.mail_records.specs.Contents.{mailbox_number}
use Rattle.mail_records.specs.Tables.{lookup}
use Rattle.mail_records.proofs.Rooms.{found_put, least_of_three, role_count, room_after}
use Rattle.mail_records.proofs.mailboxes.Mailboxes.put_ready.Goals as goal

pub returns-clause-spare : goal.returns-clause-spare
returns-clause-spare c =
    let inside = c.self.inside in
    let item = c.args.item in
    let found : lookup mailbox_number item.number c.put_ready.new.self.rows ≡ Some item =
    found_put mailbox_number item inside.table.rows c.put_ready.new.self.rows c.put_ready.ensures.rows in
    let roles = role_count item.number item.role in
    let role = c.settle-2.ensures.len item found in
    let one : vec_len c.settle-2.new.entries ≤ vec_len c.leave-moved.new.entries + 1 = omega arith in
    least_of_three c.args.self.now.spare _ _ _ _ _ _ (ap (λ v. v.spare) c.self.view_is) c.put_ready.ensures.spare
    (room_after (vec_capacity inside.by_name) _ _ _ _ _ 1 c.leave-renamed.ensures.len (c.settle.ensures.len item found) c.leave-renamed.ensures.capacity c.settle.ensures.capacity)
    (room_after (vec_capacity inside.by_role) _ _ _ _ _ 1 c.leave-moved.ensures.len one c.leave-moved.ensures.capacity c.settle-2.ensures.capacity)
