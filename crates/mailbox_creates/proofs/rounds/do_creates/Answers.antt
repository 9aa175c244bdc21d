use Rattle.std.proofs.Common.{◌≡◌, ◌<◌, ℕ, suc, List, Some, None, map, length, sym, ap, ◌∙◌, subst, arith}
use Rattle.std.proofs.lemmas.List.{length-map}
use Rattle.std.specs.List.{remove}
use Rattle.set_parts.specs.Creates.{Creating}
use Rattle.mailbox_creates.specs.Creates.{after_create}
use Rattle.mailbox_creates.specs.Views.{Follows, IsFirst}
use Rattle.set_parts.specs.Views.{create_of}
use Rattle.mailbox_creates.specs.Rounds.{after_each, in_rounds, stands, taken_out}
use Rattle.set_parts.specs.declared.arguments.SentCreate.{SentCreate}
use Rattle.mailbox_creates.proofs.Following.{on_ok}
use Rattle.mailbox_creates.proofs.Rounding.{length_removed, round_by_draft, rounds_end}
use Rattle.mailbox_creates.proofs.rounds.do_creates.Goals as goal

pub rounds-init : goal.rounds-init
rounds-init c =
    record {
      room = c.requires;
      follows = λ (s : Creating) f. (s, f, ap (λ n. in_rounds n s (map create_of c.args.drafts.items)) (sym (length-map c.args.drafts.items create_of)));
    }

pub rounds-preserved : goal.rounds-preserved
rounds-preserved c =
    let items : List SentCreate = c.rounds.rest.items in
    let at : ℕ = c.in-Some.at in
    let room = c.rounds.invariant.room in
    let next = c.in_ok-perform_create.ensures.next in
    let within : at < length items = subst (λ (ds : List SentCreate). at < length ds) c.as_slice.ensures.value c.in-Some.ensures.within in
    let fewer : length items ≡ suc (length (remove items at)) = length_removed items at within in
    let same : length c.remove-draft.new.self.items ≡ length (remove items at) = ap length c.remove-draft.ensures.items in
    record {
      room = omega arith;
      follows = λ (s : Creating) f.
          let was = c.rounds.invariant.follows s f in
          let first : IsFirst (stands was.0.made) items (Some at) = subst (λ ds. IsFirst (stands was.0.made) ds (Some at)) c.as_slice.ensures.value (c.in-Some.ensures.first was.0 was.1) in (
            after_create was.0 (create_of c.remove-draft.result),
            c.in_ok-perform_create.ensures.follows was.0 was.1,
            sym (round_by_draft items c.remove-draft.new.self.items at c.remove-draft.result was.0 first c.remove-draft.ensures.value c.remove-draft.ensures.items) ∙ was.2,
          );
    }

pub rounds-smaller : goal.rounds-smaller
rounds-smaller c =
    let items : List SentCreate = c.rounds.rest.items in
    let at : ℕ = c.in-Some.at in
    let within : at < length items = subst (λ (ds : List SentCreate). at < length ds) c.as_slice.ensures.value c.in-Some.ensures.within in
    let fewer : length items ≡ suc (length (remove items at)) = length_removed items at within in
    let same : length c.remove-draft.new.self.items ≡ length (remove items at) = ap length c.remove-draft.ensures.items in
    omega arith

pub returns : goal.returns
returns c =
    on_ok c.do_each.result _ _
    (λ k (s : Creating) f.
    let items : List SentCreate = c.rounds.rest.items in
    let was = c.rounds.invariant.follows s f in
    let none : taken_out (stands was.0.made) (map create_of items) ≡ None = subst (λ (ds : List SentCreate). taken_out (stands was.0.made) (map create_of ds) ≡ None) c.as_slice.ensures.value (c.in_default.ensures.first was.0 was.1) in
    subst (Follows c.do_each.new.planner)
    (ap (λ (ds : List SentCreate). after_each was.0 (map create_of ds)) c.as_slice-2.ensures.value ∙ (sym (rounds_end (length items) was.0 (map create_of items) none) ∙ was.2)) (k was.0 was.1))
    c.do_each.ensures
