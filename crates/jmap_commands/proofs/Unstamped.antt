-- What is answered from a history is the same whatever stamps its entries have.
use Rattle.std.proofs.Common.{◌≡◌, ℕ, ◌+◌, ◌-◌, zero, suc, drop, List, [], ◌∷◌, ◌++◌, map, length, Bool, cond, Option, Some, None, unwrap_or, refl, ap, ap₂, ◌∙◌, codes}
use Rattle.jm_base.specs.declared.identifiers.Kind.{Kind}
use Rattle.jm_base.specs.declared.identifiers.Kind.TheVariants.{Mailbox, Email, Thread}
use Rattle.jm_json.specs.Find.{as_object}
use Rattle.jm_json.specs.Tree.{Tree}
use Rattle.jm_json.specs.declared.invocation.Created.{Created}
use Rattle.mail_records.specs.Histories.{History, Entry, Committed, Refused, blobs_in, blobs_of, content_of, edits_in, end_of, entry_blobs, entry_edits}
use Rattle.mail_records.specs.States.{state_of, last_position}
use Rattle.mail_records.specs.Edits.{after_edits, id_of}
use Rattle.mail_records.specs.declared.edits.Edit.{Edit}
use Rattle.mail_import.specs.Plans.{import_in, import_outcome}
use Rattle.mail_view.specs.Gets.{get_emails, get_of_kind}
use Rattle.mail_view.specs.Parses.{parse_emails, parse_in}
use Rattle.change_calls.specs.Changes.{answered, answer_since, answer_within, greatest_upto, is_state_of, may_end, maximum_of, page_of, page_end, reached_state}
use Rattle.change_calls.specs.declared.page.ChangePage.{ChangePage}
use Rattle.change_calls.specs.Responses.{changes_outcome, invalid_argument, max_in, outcome_by, outcome_of_members, outcome_with, string_in}
use Rattle.message_texts.specs.Texts.{texts_of_blobs}
use Rattle.query_engine.specs.Responses.{query_outcome}
use Rattle.query_engine.specs.Responses.{Reading, query, invalid, unsupported_filter, unsupported_sort, query_in}
use Rattle.query_engine.specs.Views.{QueryTree}
use Rattle.filter_terms.specs.Texts.{MessageTexts}
use Rattle.jm_base.specs.Splices.{with_index}
use Rattle.query_engine.specs.Queries.{result_list}
use Rattle.query_changes.specs.Touched.{touched_by, touches}
use Rattle.query_changes.specs.declared.delta.Delta.{Delta}
use Rattle.query_changes.specs.Deltas as delta
use Rattle.query_changes.specs.Responses as query_change
use Rattle.read_replies.specs.Plans.{queried, query_changed}
use Rattle.jmap_commands.specs.Stamps.{unstamped, unstamped_entry}

edits_of_entry : (e : Entry) → entry_edits (unstamped_entry e) ≡ entry_edits e
edits_of_entry (Committed commit) = refl
edits_of_entry (Refused stamp) = refl

pub edits_unstamped : (es : List Entry) → edits_in (map unstamped_entry es) ≡ edits_in es
edits_unstamped [] = refl
edits_unstamped (e ∷ es) = ap₂ (λ (a b : List Edit). a ++ b) (edits_of_entry e) (edits_unstamped es)

blobs_of_entry : (e : Entry) → entry_blobs (unstamped_entry e) ≡ entry_blobs e
blobs_of_entry (Committed commit) = refl
blobs_of_entry (Refused stamp) = refl

pub blobs_unstamped : (es : List Entry) → blobs_in (map unstamped_entry es) ≡ blobs_in es
blobs_unstamped [] = refl
blobs_unstamped (e ∷ es) = ap₂ (λ (a b : List (List ℕ)). a ++ b) (blobs_of_entry e) (blobs_unstamped es)

-- ---- gets

pub get_unstamped : (h : History) (args : Tree) (read_only : Bool) (kind : Kind) → get_of_kind kind (unstamped h) args read_only ≡ get_of_kind kind h args read_only
get_unstamped h args read_only Mailbox = rw (edits_unstamped h.entries) refl
get_unstamped h args read_only Email =
    ap (λ (bs : List (List ℕ)). get_emails (content_of (unstamped h)) (h.base_blobs ++ bs) (state_of (unstamped h) Email) args) (blobs_unstamped h.entries)
    ∙ rw (edits_unstamped h.entries) refl
get_unstamped h args read_only Thread = rw (edits_unstamped h.entries) refl

pub parse_unstamped : (h : History) (args : Tree) → parse_in (unstamped h) args ≡ parse_in h args
parse_unstamped h args = ap (λ (bs : List (List ℕ)). parse_emails (h.base_blobs ++ bs) args) (blobs_unstamped h.entries)

-- ---- changes

page_unstamped : (h : History) (kind : Kind) (from upto : ℕ) → page_of (unstamped h) kind from upto ≡ page_of h kind from upto
page_unstamped h kind from upto = rw (edits_unstamped h.entries) refl

same_greatest : (f g : ℕ → Bool) → ((n : ℕ) → f n ≡ g n) → (n : ℕ) → greatest_upto f n ≡ greatest_upto g n
same_greatest f g same zero = ap (λ (b : Bool). cond b (Some 0) None) (same 0)
same_greatest f g same (suc n) = ap₂ (λ (b : Bool) (o : Option ℕ). cond b (Some (suc n)) o) (same (suc n)) (same_greatest f g same n)

end_unstamped : (h : History) (kind : Kind) (max : Option ℕ) (from upto : ℕ) → may_end (unstamped h) kind max from upto ≡ may_end h kind max from upto
end_unstamped h kind max from upto = rw (edits_unstamped h.entries) refl

page_end_unstamped : (h : History) (kind : Kind) (max : Option ℕ) (from : ℕ) → page_end (unstamped h) kind max from ≡ page_end h kind max from
page_end_unstamped h kind max from =
    ap (λ (o : Option ℕ). unwrap_or o from) (same_greatest (may_end (unstamped h) kind max from) (may_end h kind max from) (end_unstamped h kind max from) (end_of (unstamped h)))
    ∙ ap (λ (es : List Edit). unwrap_or (greatest_upto (may_end h kind max from) (h.floor + length es)) from) (edits_unstamped h.entries)

since_unstamped : (h : History) (kind : Kind) (max : Option ℕ) (o : Option ℕ) → answer_since (unstamped h) kind max o ≡ answer_since h kind max o
since_unstamped h kind max None = refl
since_unstamped h kind max (Some from) =
    ap (λ (upto : ℕ). answered (page_of (unstamped h) kind from upto)) (page_end_unstamped h kind max from) ∙ ap (λ (p : ChangePage). answered p) (page_unstamped h kind from (page_end h kind max from))

reached_unstamped : (h : History) (kind : Kind) (text : List ℕ) → reached_state (unstamped h) kind text ≡ reached_state h kind text
reached_unstamped h kind text = ap (λ (es : List Edit). greatest_upto (is_state_of h kind text) (h.floor + length es)) (edits_unstamped h.entries)

within_unstamped : (h : History) (kind : Kind) (text : List ℕ) (o : Option (Option ℕ)) → answer_within (unstamped h) kind text o ≡ answer_within h kind text o
within_unstamped h kind text None = refl
within_unstamped h kind text (Some max) = ap (answer_since (unstamped h) kind max) (reached_unstamped h kind text) ∙ since_unstamped h kind max (reached_state h kind text)

with_unstamped : (h : History) (kind : Kind) (ms : List (List ℕ × Tree)) (o : Option (List ℕ)) → outcome_with (unstamped h) kind ms o ≡ outcome_with h kind ms o
with_unstamped h kind ms (Some name) = refl
with_unstamped h kind ms None =
    ap (outcome_by kind (string_in (codes "accountId") ms) (string_in (codes "sinceState") ms)) (within_unstamped h kind (string_in (codes "sinceState") ms) (maximum_of (max_in ms)))

members_unstamped : (h : History) (kind : Kind) (o : Option (List (List ℕ × Tree))) → outcome_of_members (unstamped h) kind o ≡ outcome_of_members h kind o
members_unstamped h kind None = refl
members_unstamped h kind (Some ms) = with_unstamped h kind ms (invalid_argument ms)

pub changes_unstamped : (h : History) (kind : Kind) (args : Tree) → changes_outcome (unstamped h) kind args ≡ changes_outcome h kind args
changes_unstamped h kind args = members_unstamped h kind (as_object args)

-- ---- imports

pub import_unstamped : (h : History) (args : Tree) (made : List Created) (moment : ℕ) → import_in (unstamped h) args made moment ≡ import_in h args made moment
import_unstamped h args made moment =
    ap₂ (λ (es : List Edit) (bs : List (List ℕ)). import_outcome (record { content = after_edits h.base es; floor = h.floor; floors = h.floors; ids = map id_of es }) (h.base_blobs ++ bs) args made moment) (edits_unstamped h.entries)
    (blobs_unstamped h.entries)

-- ---- queries

pub queried_unstamped : (h : History) (kind : Kind) (args : Tree) → queried (unstamped h) kind args ≡ queried h kind args
queried_unstamped h kind args =
    ap (λ (bs : List (List ℕ)). query_outcome kind (state_of (unstamped h) kind) (content_of (unstamped h)) (texts_of_blobs (h.base_blobs ++ bs)) args) (blobs_unstamped h.entries)
    ∙ ap (λ (es : List Edit). query_outcome kind (last_position kind h.floor h.floors (map id_of es)) (after_edits h.base es) (texts_of_blobs (blobs_of h)) args) (edits_unstamped h.entries)

-- ---- changes of result lists

-- the changes of a list by the edits of a history
abbrev delta_by : History → List Edit → QueryTree → (ℕ → MessageTexts) → ℕ → Delta
delta_by h es q texts s = record {
  removed = touched_by q (drop (s - h.floor) es) (after_edits h.base es);
  added = with_index (touches q (drop (s - h.floor) es) (after_edits h.base es)) 0 (result_list q (after_edits h.base es) texts);
  new_state = last_position q.kind h.floor h.floors (map id_of es);
  total = length (result_list q (after_edits h.base es) texts);
}

delta_unstamped : (h : History) (q : QueryTree) (texts : ℕ → MessageTexts) (s : ℕ) → delta.delta_of (unstamped h) q texts s ≡ delta.delta_of h q texts s
delta_unstamped h q texts s = ap (λ (es : List Edit). delta_by h es q texts s) (edits_unstamped h.entries)

list_since_unstamped : (h : History) (q : QueryTree) (texts : ℕ → MessageTexts) (max : Option ℕ) (o : Option ℕ) → delta.answer_since (unstamped h) q texts max o ≡ delta.answer_since h q texts max o
list_since_unstamped h q texts max None = refl
list_since_unstamped h q texts max (Some s) = ap (delta.answer_within max) (delta_unstamped h q texts s)

list_answer_unstamped : (h : History) (q : QueryTree) (texts : ℕ → MessageTexts) (since : List ℕ) (max : Option ℕ) → delta.answer_of (unstamped h) q texts since max ≡ delta.answer_of h q texts since max
list_answer_unstamped h q texts since max =
    ap (delta.answer_since (unstamped h) q texts max) (reached_unstamped h q.kind since) ∙ list_since_unstamped h q texts max (reached_state h q.kind since)

list_query_unstamped : (h : History) (texts : ℕ → MessageTexts) (kind : Kind) (ms : List (List ℕ × Tree)) (r : Reading) → query_change.outcome_of_query (unstamped h) texts kind ms r ≡ query_change.outcome_of_query h texts kind ms r
list_query_unstamped h texts kind ms (query q) =
    ap (query_change.outcome_by kind ms) (list_answer_unstamped h q texts (string_in (codes "sinceQueryState") ms) (query_change.max_in ms))
list_query_unstamped h texts kind ms (invalid name) = refl
list_query_unstamped h texts kind ms (unsupported_filter name) = refl
list_query_unstamped h texts kind ms (unsupported_sort name) = refl

list_with_unstamped : (h : History) (texts : ℕ → MessageTexts) (kind : Kind) (ms : List (List ℕ × Tree)) (o : Option (List ℕ)) → query_change.outcome_with (unstamped h) texts kind ms o ≡ query_change.outcome_with h texts kind ms o
list_with_unstamped h texts kind ms (Some name) = refl
list_with_unstamped h texts kind ms None = list_query_unstamped h texts kind ms (query_in kind ms)

list_members_unstamped : (h : History) (texts : ℕ → MessageTexts) (kind : Kind) (o : Option (List (List ℕ × Tree))) → query_change.outcome_of_members (unstamped h) texts kind o ≡ query_change.outcome_of_members h texts kind o
list_members_unstamped h texts kind None = refl
list_members_unstamped h texts kind (Some ms) = list_with_unstamped h texts kind ms (query_change.invalid_argument kind ms)

pub query_changed_unstamped : (h : History) (kind : Kind) (args : Tree) → query_changed (unstamped h) kind args ≡ query_changed h kind args
query_changed_unstamped h kind args =
    ap (λ (bs : List (List ℕ)). query_change.query_changes_outcome (unstamped h) (texts_of_blobs (h.base_blobs ++ bs)) kind args) (blobs_unstamped h.entries)
    ∙ list_members_unstamped h (texts_of_blobs (blobs_of h)) kind (as_object args)
