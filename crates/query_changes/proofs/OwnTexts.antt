-- Of all texts, those of the present emails decide the changes of a list.
use Rattle.std.proofs.Common.{◌≡◌, ℕ, List, length, Option, Some, None, codes, refl, ap}
use Rattle.jm_base.specs.Splices.{with_index}
use Rattle.jm_base.specs.declared.identifiers.Kind.{Kind}
use Rattle.jm_json.specs.Tree.{Tree}
use Rattle.jm_json.specs.Find.{as_object}
use Rattle.mail_records.specs.Histories.{History, content_of}
use Rattle.mail_records.specs.States.{state_of}
use Rattle.change_calls.specs.Changes.{reached_state}
use Rattle.change_calls.specs.Responses.{string_in}
use Rattle.filter_terms.specs.Laws.{HaveSameTexts}
use Rattle.filter_terms.specs.Texts.{MessageTexts}
use Rattle.query_engine.specs.Responses.{Reading, invalid, query, query_in, unsupported_filter, unsupported_sort}
use Rattle.query_engine.specs.Views.{QueryTree}
use Rattle.query_changes.specs.Deltas.{answer_since, answer_within}
use Rattle.query_changes.specs.Laws.{TextsDecide, TextsDecideLists, TextsDecideAnswers, TextsDecideOutcomes}
use Rattle.query_changes.specs.Responses.{invalid_argument, max_in, outcome_by, outcome_of_members, outcome_of_query, outcome_with}
use Rattle.query_changes.specs.Touched.{is_touched, touched}
use Rattle.query_changes.specs.declared.delta.Delta.{Delta}

-- the changes, if the present list is this one
abbrev delta_with : History → QueryTree → ℕ → List ℕ → Delta
delta_with h q s list = record {
  removed = touched h q s;
  added = with_index (is_touched h q s) 0 list;
  new_state = state_of h q.kind;
  total = length list;
}

pub texts_decide : TextsDecideLists → TextsDecide
texts_decide listed h q texts others s same = ap (delta_with h q s) (listed q (content_of h) texts others same)

pub texts_decide_answers : TextsDecideLists → TextsDecideAnswers
texts_decide_answers listed h q texts others since max same = by (reached_state h q.kind since)
  where
    by : (o : Option ℕ) → answer_since h q texts max o ≡ answer_since h q others max o
    by None = refl
    by (Some s) = ap (answer_within max) (texts_decide listed h q texts others s same)

module _ (listed : TextsDecideLists) (h : History) (texts others : ℕ → MessageTexts) (kind : Kind) (same : HaveSameTexts texts others (content_of h).emails) where
  read_same : (ms : List (List ℕ × Tree)) (r : Reading) → outcome_of_query h texts kind ms r ≡ outcome_of_query h others kind ms r
  read_same ms (query q) = ap (outcome_by kind ms) (texts_decide_answers listed h q texts others (string_in (codes "sinceQueryState") ms) (max_in ms) same)
  read_same ms (invalid name) = refl
  read_same ms (unsupported_filter name) = refl
  read_same ms (unsupported_sort name) = refl

  checked_same : (ms : List (List ℕ × Tree)) (o : Option (List ℕ)) → outcome_with h texts kind ms o ≡ outcome_with h others kind ms o
  checked_same ms None = read_same ms (query_in kind ms)
  checked_same ms (Some name) = refl

  members_same : (o : Option (List (List ℕ × Tree))) → outcome_of_members h texts kind o ≡ outcome_of_members h others kind o
  members_same None = refl
  members_same (Some ms) = checked_same ms (invalid_argument kind ms)

pub texts_decide_outcomes : TextsDecideLists → TextsDecideOutcomes
texts_decide_outcomes listed h texts others kind args same = members_same listed h texts others kind same (as_object args)
