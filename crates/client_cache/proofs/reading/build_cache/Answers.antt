use Rattle.std.proofs.Common.{◌≡◌, map, codes, refl, ap, ◌∙◌}
use Rattle.client_cache.specs.CacheReading.{kind_of_members, list_in, members_at}
use Rattle.client_cache.proofs.Objects.{members_after, same_cached}
use Rattle.client_cache.proofs.reading.build_cache.Goals as goal

pub returns : goal.returns
returns c =
    let ms = c.args.members in
    let one = c.take_items-lists.new.members in
    let two = c.take_members-emails.new.members in
    let three = c.take_members-mailboxes.new.members in
    let first = c.take_items-lists.ensures.rest in
    let second = c.take_members-emails.ensures.rest in
    let third = c.take_members-mailboxes.ensures.rest in
    let emails = c.take_members-emails.ensures.value ∙ members_after (codes "lists") (codes "email") ms one refl first in
    let mailboxes = c.take_members-mailboxes.ensures.value ∙ members_after (codes "email") (codes "mailbox") one two refl second ∙ members_after (codes "lists") (codes "mailbox") ms one refl first in
    let threads = c.take_members-threads.ensures.value ∙ members_after (codes "mailbox") (codes "thread") two three refl third ∙ members_after (codes "email") (codes "thread") one two refl second ∙ members_after (codes "lists") (codes "thread") ms one refl first in
    same_cached _ _ _ _ _ _ _ _ _ _ c.in_ok-account.ensures
    (c.read_kind.ensures ∙ ap kind_of_members mailboxes) (c.read_kind-2.ensures ∙ ap kind_of_members emails) (c.read_kind-3.ensures ∙ ap kind_of_members threads)
    (c.in_ok-lists.ensures ∙ ap (map list_in) c.take_items-lists.ensures.value)
