use Rattle.std.proofs.Common.{◌≡◌, ◌+◌, [], ◌∷◌, ◌++◌, map, take, drop, refl, sym, ap, ◌∙◌, subst, arith, rules, append_assoc, take_all, w64}
use mir.Val.{to_z, of_z}
use Rattle.std.proofs.lemmas.List.{drop_more, drop_all}
use Rattle.json.specs.Token.{begin_array, begin_object, key}
use Rattle.json.specs.Tree.{json_tokens, items_tokens, members_tokens}
use Rattle.serde_json.specs.Data.{number}
use Rattle.serde_json.specs.Find.{of_integer}
use Rattle.serde_json.specs.Written.{outline, items_outline, members_outline}
use Rattle.jm_json.specs.Tree.{trees_of, fields_of}
use Rattle.jm_json.specs.Json.{tree_of, member_of}
use Rattle.jm_json.specs.JsonValues.{data_of, items_of, members_of}
use Rattle.jm_json.specs.RoundTrips.{IsReadBack, AreReadBack, MembersReadBack}
use Rattle.jm_json.proofs.Sizes.{item_size, member_size}
use Rattle.jm_json.proofs.Values.{put_member}
use Rattle.jm_json.proofs.Writings.{moved, integer_back, item_back, array_back, member_back, object_back}
use Rattle.jm_json.proofs.writer.+put.Goals as goal

pub put_tree-returns-in_ok-i64-in-Int-clause-read : goal.put_tree-returns-in_ok-i64-in-Int-clause-read
put_tree-returns-in_ok-i64-in-Int-clause-read t c =
    let z = to_z w64 (of_z w64 c.in-Int.z) in
    let seen : number (of_integer z) ≡ data_of (tree_of c.args.tree.now) = rw c.in-Int.is (search rules) in
    subst IsReadBack seen (integer_back z (search rules))

pub put_items-loop-item-init : goal.put_items-loop-item-init
put_items-loop-item-init t c =
    let all = items_tokens (items_outline (items_of (trees_of (map tree_of c.args.items.now)))) in
    record {
      tokens = ap (λ ts. ts ++ all) c.in_ok-begin_array.ensures.ok ∙ append_assoc c.args.out.now.tokens (begin_array ∷ []) all;
      before = c.in_ok-begin_array.ensures.room.0;
      read = λ rest. rest;
    }

pub put_items-put_tree-requires : goal.put_items-put_tree-requires
put_items-put_tree-requires t c =
    let h = item_size c.args.items.now c.loop-item.item-index c.item-item.result (omega arith) in
    (omega (arith, rw (sym c.item-item.is) at h, c.decreases), tt)

pub put_items-loop-item-preserved : goal.put_items-loop-item-preserved
put_items-loop-item-preserved t c =
    let l = c.loop-item in
    let xs = c.args.items.now in
    let x = c.item-item.result in
    let d = data_of (tree_of x) in
    let after = items_of (trees_of (map tree_of (drop (l.item-index + 1) xs))) in
    let here : drop l.item-index xs ≡ x ∷ drop (l.item-index + 1) xs = drop_more xs l.item-index x (omega arith) ∙ ap (λ y. y ∷ drop (l.item-index + 1) xs) (sym c.item-item.is) in
    record {
      tokens = moved l.out.tokens c.put_tree.new.out.tokens (json_tokens (outline d)) (items_tokens (items_outline after)) _ c.in_ok-put_tree.ensures.tokens
          (ap (λ ys. l.out.tokens ++ items_tokens (items_outline (items_of (trees_of (map tree_of ys))))) (sym here) ∙ l.invariant.tokens);
      before = c.in_ok-put_tree.ensures.before ∙ l.invariant.before;
      read = λ rest. l.invariant.read (subst (λ ys. AreReadBack (items_of (trees_of (map tree_of ys)))) (sym here) (item_back d after c.in_ok-put_tree.ensures.read rest));
    }

pub put_items-returns-clause-tokens : goal.put_items-returns-clause-tokens
put_items-returns-clause-tokens t c =
    let l = c.loop-item in
    let none : drop l.item-index c.args.items.now ≡ [] = drop_all l.item-index c.args.items.now (omega arith) in
    c.in_ok-end_array.ensures.ok ∙ ap (λ ys. l.out.tokens ++ items_tokens (items_outline (items_of (trees_of (map tree_of ys))))) (sym none) ∙ l.invariant.tokens

pub put_items-returns-clause-read : goal.put_items-returns-clause-read
put_items-returns-clause-read t c =
    let l = c.loop-item in
    let xs = c.args.items.now in
    let none : drop l.item-index xs ≡ [] = drop_all l.item-index xs (omega arith) in
    array_back (items_of (trees_of (map tree_of xs))) (l.invariant.read (subst (λ ys. AreReadBack (items_of (trees_of (map tree_of ys)))) (sym none) refl))

pub put_members-loop-member-init : goal.put_members-loop-member-init
put_members-loop-member-init t c =
    let all = members_tokens (members_outline (members_of (fields_of (map member_of c.args.members.now)))) in
    record {
      tokens = ap (λ ts. ts ++ all) c.in_ok-begin_object.ensures.ok ∙ append_assoc c.args.out.now.tokens (begin_object ∷ []) all;
      before = c.in_ok-begin_object.ensures.room.0;
      read = λ rest. rest;
    }

pub put_members-put_tree-requires : goal.put_members-put_tree-requires
put_members-put_tree-requires t c =
    let h = member_size c.args.members.now c.loop-member.member-index c.member-item.result (omega arith) in
    (omega (arith, rw (sym c.member-item.is) at h, c.decreases), tt)

pub put_members-loop-member-preserved : goal.put_members-loop-member-preserved
put_members-loop-member-preserved t c =
    let l = c.loop-member in
    let xs = c.args.members.now in
    let m = c.member-item.result in
    let d = data_of (tree_of m.value) in
    let all = members_of (fields_of (map member_of xs)) in
    let before = members_of (fields_of (map member_of (take l.member-index xs))) in
    let after = members_of (fields_of (map member_of (drop (l.member-index + 1) xs))) in
    let here : drop l.member-index xs ≡ m ∷ drop (l.member-index + 1) xs = drop_more xs l.member-index m (omega arith) ∙ ap (λ y. y ∷ drop (l.member-index + 1) xs) (sym c.member-item.is) in
    let last = put_member xs l.member-index m c.member-item.is (omega arith) c.requires in
    let named : c.key.new.self.tokens ≡ l.out.tokens ++ key m.name ∷ [] = c.in_ok-key.ensures.ok ∙ ap (λ k. l.out.tokens ++ key k ∷ []) c.as_str.ensures in
    let added : c.put_tree.new.out.tokens ≡ l.out.tokens ++ key m.name ∷ json_tokens (outline d) =
    c.in_ok-put_tree.ensures.tokens ∙ ap (λ ts. ts ++ json_tokens (outline d)) named ∙ append_assoc l.out.tokens (key m.name ∷ []) (json_tokens (outline d)) in
    record {
      tokens = moved l.out.tokens c.put_tree.new.out.tokens (key m.name ∷ json_tokens (outline d)) (members_tokens (members_outline after)) _ added
          (ap (λ ys. l.out.tokens ++ members_tokens (members_outline (members_of (fields_of (map member_of ys))))) (sym here) ∙ l.invariant.tokens);
      before = c.in_ok-put_tree.ensures.before ∙ c.in_ok-key.ensures.room.0 ∙ l.invariant.before;
      read = λ more. l.invariant.read (subst (λ ys. MembersReadBack before (members_of (fields_of (map member_of ys))) all) (sym here)
          (member_back m.name d before after all c.in_ok-put_tree.ensures.read (subst (λ f. MembersReadBack f after all) (sym last) more)));
    }

pub put_members-returns-clause-tokens : goal.put_members-returns-clause-tokens
put_members-returns-clause-tokens t c =
    let l = c.loop-member in
    let none : drop l.member-index c.args.members.now ≡ [] = drop_all l.member-index c.args.members.now (omega arith) in
    c.in_ok-end_object.ensures.ok ∙ ap (λ ys. l.out.tokens ++ members_tokens (members_outline (members_of (fields_of (map member_of ys))))) (sym none) ∙ l.invariant.tokens

pub put_members-returns-clause-read : goal.put_members-returns-clause-read
put_members-returns-clause-read t c =
    let l = c.loop-member in
    let xs = c.args.members.now in
    let all = members_of (fields_of (map member_of xs)) in
    let none : drop l.member-index xs ≡ [] = drop_all l.member-index xs (omega arith) in
    let found : take l.member-index xs ≡ xs = take_all l.member-index xs (omega arith) in
    object_back all (l.invariant.read (subst (λ ys. MembersReadBack (members_of (fields_of (map member_of ys))) (members_of (fields_of (map member_of (drop l.member-index xs)))) all) (sym found)
    (subst (λ ys. MembersReadBack all (members_of (fields_of (map member_of ys))) all) (sym none) refl)))
