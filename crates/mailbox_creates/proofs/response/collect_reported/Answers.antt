use Rattle.std.proofs.Common.{◌≡◌, ◌∷◌, ◌++◌, List, ℕ, Bool, map, filter, true, false, sym, ap, ◌∙◌, subst}
use Rattle.jm_json.specs.Json.{member_of}
use Rattle.jm_json.specs.Order.{KeysRise}
use Rattle.jm_json.specs.Tree.{Tree}
use Rattle.mailbox_creates.specs.Creates.{is_reported}
use Rattle.mailbox_creates.proofs.Rising.{rise_moved, moved_more, left_more}
use Rattle.mailbox_creates.proofs.response.collect_reported.Goals as goal

pub push-requires : goal.push-requires
push-requires c =
    let p : List ℕ × Tree → Bool = is_reported c.args.sent.now in
    let m = member_of c.in-Some.member in
    let here : c.loop-member.told ++ filter p (m ∷ map member_of c.pop_front.new.self.items) ≡ filter p c.args.view =
    ap (λ xs. c.loop-member.told ++ filter p (map member_of xs)) (sym c.in-Some.ensures.items) ∙ c.loop-member.invariant in
    let passes : p m ≡ true = ap (λ k. is_reported c.args.sent.now (k, m.1)) (sym c.as_str.ensures) ∙ (sym (c.is_reported.ensures m.1) ∙ c.if-is_reported.true) in
    rise_moved p c.args.view c.loop-member.told (map member_of c.pop_front.new.self.items) m passes here (subst KeysRise c.into_vec.ensures.value c.into_vec.ensures.order)

pub loop-member-preserved-in-Continue-1 : goal.loop-member-preserved-in-Continue-1
loop-member-preserved-in-Continue-1 c =
    let p : List ℕ × Tree → Bool = is_reported c.args.sent.now in
    let m = member_of c.in-Some.member in
    let here : c.loop-member.told ++ filter p (m ∷ map member_of c.pop_front.new.self.items) ≡ filter p c.args.view =
    ap (λ xs. c.loop-member.told ++ filter p (map member_of xs)) (sym c.in-Some.ensures.items) ∙ c.loop-member.invariant in
    let passes : p m ≡ true = ap (λ k. is_reported c.args.sent.now (k, m.1)) (sym c.as_str.ensures) ∙ (sym (c.is_reported.ensures m.1) ∙ c.if-is_reported.true) in
    ap (λ xs. xs ++ filter p (map member_of c.pop_front.new.self.items)) c.in_ok-push.ensures.ok
    ∙ moved_more p c.loop-member.told (map member_of c.pop_front.new.self.items) (filter p c.args.view) m passes here

pub loop-member-preserved : goal.loop-member-preserved
loop-member-preserved c =
    let p : List ℕ × Tree → Bool = is_reported c.args.sent.now in
    let m = member_of c.in-Some.member in
    let here : c.loop-member.told ++ filter p (m ∷ map member_of c.pop_front.new.self.items) ≡ filter p c.args.view =
    ap (λ xs. c.loop-member.told ++ filter p (map member_of xs)) (sym c.in-Some.ensures.items) ∙ c.loop-member.invariant in
    let fails : p m ≡ false = ap (λ k. is_reported c.args.sent.now (k, m.1)) (sym c.as_str.ensures) ∙ (sym (c.is_reported.ensures m.1) ∙ c.if-is_reported.false) in
    left_more p c.loop-member.told (map member_of c.pop_front.new.self.items) (filter p c.args.view) m fails here
