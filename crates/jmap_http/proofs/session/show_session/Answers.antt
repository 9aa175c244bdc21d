use Rattle.std.proofs.Common.{◌≡◌, ℕ, List, [], codes, ap, ◌∙◌}
use Rattle.jm_json.specs.Tree.{Tree, text, object, fields_of}
use Rattle.jm_json.specs.Order.{put}
use Rattle.server_users.specs.declared.users.User.{User}
use Rattle.jmap_http.specs.Session.{account_members, capabilities_tree, primary_members, session_tree, url}
use Rattle.jmap_http.proofs.session.show_session.Goals as goal

-- the members of the Session, put one after the other
session_of : (user : User) (host : List ℕ) (t1 t2 t3 t4 t5 t6 t7 t8 t9 : Tree) (m0 m1 m2 m3 m4 m5 m6 m7 m8 m9 : List (List ℕ × Tree))
    → m0 ≡ [] → m1 ≡ put (codes "accounts") t1 m0 → m2 ≡ put (codes "apiUrl") t2 m1 → m3 ≡ put (codes "capabilities") t3 m2 → m4 ≡ put (codes "downloadUrl") t4 m3 → m5 ≡ put (codes "eventSourceUrl") t5 m4
    → m6 ≡ put (codes "primaryAccounts") t6 m5 → m7 ≡ put (codes "state") t7 m6 → m8 ≡ put (codes "uploadUrl") t8 m7 → m9 ≡ put (codes "username") t9 m8
    → t1 ≡ object (fields_of (account_members user.accounts)) → t2 ≡ url host (codes "/jmap/api") → t3 ≡ capabilities_tree host → t4 ≡ url host (codes "/jmap/download/{accountId}/{blobId}/{name}?accept={type}")
    → t5 ≡ url host (codes "/jmap/events?types={types}&closeafter={closeafter}&ping={ping}") → t6 ≡ object (fields_of (primary_members user.accounts)) → t7 ≡ text (codes "0") → t8 ≡ url host (codes "/jmap/upload/{accountId}/") → t9 ≡ text user.name
    → object (fields_of m9) ≡ session_tree user host
session_of user host t1 t2 t3 t4 t5 t6 t7 t8 t9 m0 m1 m2 m3 m4 m5 m6 m7 m8 m9 e0 e1 e2 e3 e4 e5 e6 e7 e8 e9 f1 f2 f3 f4 f5 f6 f7 f8 f9 =
    rw (e9, e8, e7, e6, e5, e4, e3, e2, e1, e0, f1, f2, f3, f4, f5, f6, f7, f8, f9)

pub returns : goal.returns
returns c =
    session_of c.args.user.now c.args.host.now _ _ _ _ _ _ _ _ _ _ _ _ _ _ _ _ _ _ _ c.new-members.ensures c.in_ok-set.ensures.ok c.in_ok-set-2.ensures.ok c.in_ok-set-3.ensures.ok c.in_ok-set-4.ensures.ok c.in_ok-set-5.ensures.ok c.in_ok-set-6.ensures.ok c.in_ok-set-7.ensures.ok
    c.in_ok-set-8.ensures.ok c.in_ok-set-9.ensures.ok (ap (λ m. object (fields_of m)) (c.in_ok-show_accounts.ensures ∙ ap account_members c.as_slice-accounts.ensures)) c.in_ok-show_http_url.ensures c.in_ok-show_capabilities.ensures c.in_ok-show_http_url-2.ensures c.in_ok-show_http_url-3.ensures
    (ap (λ m. object (fields_of m)) (c.in_ok-show_primary.ensures ∙ ap primary_members c.as_slice-accounts.ensures)) c.in_ok-show_text.ensures c.in_ok-show_http_url-4.ensures (ap text c.in_ok-copy.ensures)
