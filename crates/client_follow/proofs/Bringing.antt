-- A round that brings a kind from one state to another, by pages and gets.
use Rattle.std.proofs.Common.{◌≡◌, inl, inr, ℕ, ◌≤◌, List, [], ◌∷◌, length, Bool, true, false, cond, eqb, eqb-true, eq-eqb, arith, Option, refl, sym, ap, ◌∙◌, subst}
use Rattle.jm_base.specs.declared.identifiers.Kind.{Kind}
use Rattle.jm_base.specs.declared.identifiers.Kind.TheVariants.{Mailbox as OfMailbox, Email as OfEmail, Thread as OfThread}
use Rattle.jm_json.specs.Tree.{Tree}
use Rattle.mail_records.specs.Histories.{FloorsAtMost, History}
use Rattle.mail_records.specs.States.{state_at}
use Rattle.change_calls.specs.Changes.{created, destroyed, updated}
use Rattle.reply_readers.specs.Pages.{page_with}
use Rattle.client_cache.specs.Caches.{Cached, KindView, kind_of}
use Rattle.client_cache.specs.Progress.{after_changed, after_get, after_page, leave_kind, stay, with_changes}
use Rattle.client_cache.specs.Records.{with_kind}
use Rattle.client_cache.specs.Rounds.{Round, at_changed, at_changes}
use Rattle.jm_json.specs.Find.{find}
use Rattle.jm_json.specs.Order.{KeysRise}
use Rattle.client_follow.specs.Holdings.{IsOnTheWay, names}
use Rattle.client_follow.specs.Kinds.{GoesOn, IsBrought}
use Rattle.client_follow.specs.Laws.{KindGets, KindMoves, KindPages, KindStarts}
use Rattle.client_follow.specs.Views.{view_at}
use Rattle.client_follow.proofs.Between.{changes_arrive, gets_lead_on, pages_lead_on, starts_at_its_state, states_decide}

pub none_left : (xs : List ℕ) → eqb (length xs) 0 ≡ true → xs ≡ []
none_left [] e = refl
none_left (x ∷ xs) e = let zero_long : length (x ∷ xs) ≡ 0 = eqb-true (length (x ∷ xs)) 0 e in absurd (omega (arith, zero_long))

pub kind_kept : (kind : Kind) (k : KindView) (c : Cached) → kind_of kind (with_kind kind k c) ≡ k
kind_kept OfMailbox k c = refl
kind_kept OfEmail k c = refl
kind_kept OfThread k c = refl

-- another step, or another count, with the same things held
pub restepped : (kind : Kind) (before now : List ℕ → Option Tree) (r s : Round) → s.asked ≡ r.asked → s.got ≡ r.got → s.dropped ≡ r.dropped → IsOnTheWay kind before now r → IsOnTheWay kind before now s
restepped kind before now r s asked got dropped w = record {
  rise = subst KeysRise (sym got) w.rise;
  got = λ id t e. w.got id t (ap (find id) (sym got) ∙ e);
  gone = λ id e. w.gone id (ap (λ xs. names kind xs id) (sym dropped) ∙ e);
  rest = λ id a b c. w.rest id (ap (λ xs. names kind xs id) (sym asked) ∙ a) (ap (find id) (sym got) ∙ b) (ap (λ xs. names kind xs id) (sym dropped) ∙ c);
}

same_now : (kind : Kind) (before was now : List ℕ → Option Tree) (r : Round) → ((id : List ℕ) → was id ≡ now id) → IsOnTheWay kind before was r → IsOnTheWay kind before now r
same_now kind before was now r same w = record {
  rise = w.rise;
  got = λ id t e. sym (same id) ∙ w.got id t e;
  gone = λ id e. sym (same id) ∙ w.gone id e;
  rest = λ id a b c. w.rest id a b c ∙ same id;
}

-- a round that got a page or objects, and has no step yet
changed_goes : (kind : Kind) (h : History) (read_only : Bool) (since now : ℕ) (c : Cached) (r : Round) → IsBrought kind h read_only since now c r
    → GoesOn kind h read_only since now (at_changed kind now) (after_changed kind now c r)
changed_goes kind h read_only since now c r b = by (eqb (length r.asked) 0) refl
  where
    by : (t : Bool) → eqb (length r.asked) 0 ≡ t → GoesOn kind h read_only since now (at_changed kind now) (cond t (leave_kind kind (with_changes kind now c r) r) (stay (at_changed kind now) c r))
    by true e = inr (record {
      kept = record {
        state = ap (λ (k : KindView). k.state) (kind_kept kind _ c);
        records = changes_arrive kind (view_at kind h read_only since) (view_at kind h read_only now) now c r b.way (none_left r.asked e) b.kept.records;
      };
      next = refl;
    })
    by false e = inl (record {
      step = refl;
      brought = record { kept = b.kept; way = restepped kind _ _ r (record r { step = at_changed kind now }) refl refl refl b.way };
    })

pub kind_starts : KindStarts
kind_starts kind h read_only since c r kept = record { kept = kept; way = starts_at_its_state kind (view_at kind h read_only since) (at_changes kind since) r }

-- what a page makes of the round
pub page_brings : (kind : Kind) (h : History) (read_only : Bool) (since from upto : ℕ) (more : Bool) (c : Cached) (r : Round) → from ≤ upto → FloorsAtMost h.floors h.floor → h.floor ≤ upto
    → IsBrought kind h read_only since from c r
    → IsBrought kind h read_only since (state_at h kind upto) c
    (after_page kind (page_with (created h kind from upto) (destroyed h kind from upto) (updated h kind from upto) more (state_at h kind upto)) r)
page_brings kind h read_only since from upto more c r le floors low b = record {
  kept = b.kept;
  way = same_now kind _ (view_at kind h read_only upto) (view_at kind h read_only (state_at h kind upto)) _ (λ id. states_decide kind h read_only upto id floors low)
      (pages_lead_on kind h read_only (view_at kind h read_only since) from upto more (state_at h kind upto) r le b.way);
}

pub kind_pages : KindPages
kind_pages kind h read_only since from upto c r le floors low b =
    let now = state_at h kind upto in
    let more = page_brings kind h read_only since from upto true c r le floors low b in (
      record {
        step = refl;
        brought = record { kept = more.kept; way = restepped kind _ _ _ _ refl refl refl more.way };
      },
      changed_goes kind h read_only since now c _ (page_brings kind h read_only since from upto false c r le floors low b),
    )

pub kind_gets : KindGets
kind_gets kind h read_only since now c r o same shows b =
    let got : IsBrought kind h read_only since now c (after_get kind o r) = record {
      kept = b.kept;
      way = gets_lead_on kind (view_at kind h read_only since) (view_at kind h read_only now) o r shows b.way;
    } in
    rw (eq-eqb now o.state (sym same)) (changed_goes kind h read_only since now c (after_get kind o r) got)

pub kind_moves : KindMoves
kind_moves kind h read_only since now c r o other b =
    rw other (record {
      step = refl;
      brought = record { kept = b.kept; way = restepped kind _ _ r _ refl refl refl b.way };
    })
