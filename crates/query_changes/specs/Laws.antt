-- Laws of changes of result lists.
use Rattle.std.specs.Prelude.{◌≡◌, ℕ, ◌≤◌, false, List, Option, Ok}
use Rattle.std.specs.List.Sorted.{IsStrictlyIncreasing}
use Rattle.jm_base.specs.Splices.{has, splice}
use Rattle.mail_records.specs.Contents.{Content}
use Rattle.mail_records.specs.Histories.{FloorsAtMost, History, IsSound, content_at, content_of}
use Rattle.mail_records.specs.States.{Reaches, state_at}
use Rattle.jm_base.specs.declared.identifiers.Kind.{Kind}
use Rattle.jm_json.specs.Tree.{Tree}
use Rattle.filter_terms.specs.Laws.{HaveSameTexts}
use Rattle.filter_terms.specs.Texts.{MessageTexts}
use Rattle.query_engine.specs.Queries.{IsResult, order_of, result_list, shows}
use Rattle.query_engine.specs.Responses.{query_outcome}
use Rattle.query_engine.specs.Views.{QueryTree}
use Rattle.query_changes.specs.Deltas.{answer_of, delta_of}
use Rattle.query_changes.specs.Responses.{query_changes_outcome}
use Rattle.query_changes.specs.Touched.{is_touched, touched}

-- The touched numbers are in number order, each once, and are exactly those that edits touch.
pub record AreTheTouched (h : History) (q : QueryTree) (s : ℕ) : Type 0 where
  pub rise : IsStrictlyIncreasing (touched h q s)
  pub exactly : (n : ℕ) → has (touched h q s) n ≡ is_touched h q s n

-- A record that is not touched since a state is shown now if and only if it was shown then.
abbrev pub ShownAlike : Type 0
ShownAlike =
    (h : History) (q : QueryTree) (texts : ℕ → MessageTexts) (s n : ℕ) → IsSound h
    → Reaches h q.kind s → is_touched h q s n ≡ false
    → shows q (content_at h s) texts n ≡ shows q (content_of h) texts n

-- Two records that are not touched since a state are in the same order now as then.
abbrev pub OrderedAlike : Type 0
OrderedAlike =
    (h : History) (q : QueryTree) (s a b : ℕ) → IsSound h → Reaches h q.kind s
    → is_touched h q s a ≡ false → is_touched h q s b ≡ false
    → order_of q (content_at h s) a b ≡ order_of q (content_of h) a b

-- The list of a query at a state, spliced by the changes since then, is the list of the query now.
abbrev pub BringsUpToDate : Type 0
BringsUpToDate =
    (h : History) (q : QueryTree) (texts : ℕ → MessageTexts) (s : ℕ) (old new : List ℕ)
    → IsSound h → Reaches h q.kind s
    → IsResult q (content_at h s) texts old → IsResult q (content_of h) texts new
    → splice old (delta_of h q texts s).removed (delta_of h q texts s).added ≡ Ok new

-- The list of a query at a position, as at the end of a commit, is that at the state which its kind
-- has there.
abbrev pub StatesDecide : Type 0
StatesDecide =
    (h : History) (q : QueryTree) (texts : ℕ → MessageTexts) (k : ℕ)
    → FloorsAtMost h.floors h.floor → h.floor ≤ k
    → result_list q (content_at h k) texts
    ≡ result_list q (content_at h (state_at h q.kind k)) texts

-- Of all texts, those of the messages of a content's emails decide a result list, and the outcome
-- of a call of /query.
abbrev pub TextsDecideLists : Type 0
TextsDecideLists =
    (q : QueryTree) (c : Content) (texts others : ℕ → MessageTexts)
    → HaveSameTexts texts others c.emails → result_list q c texts ≡ result_list q c others

abbrev pub TextsDecideQueries : Type 0
TextsDecideQueries =
    (kind : Kind) (state : ℕ) (c : Content) (texts others : ℕ → MessageTexts) (args : Tree)
    → HaveSameTexts texts others c.emails
    → query_outcome kind state c texts args ≡ query_outcome kind state c others args

-- So do those of the present emails the changes of a list, and the answer and the outcome of a call
-- of /queryChanges.
abbrev pub TextsDecide : Type 0
TextsDecide =
    (h : History) (q : QueryTree) (texts others : ℕ → MessageTexts) (s : ℕ)
    → HaveSameTexts texts others (content_of h).emails
    → delta_of h q texts s ≡ delta_of h q others s

abbrev pub TextsDecideAnswers : Type 0
TextsDecideAnswers =
    (h : History) (q : QueryTree) (texts others : ℕ → MessageTexts) (since : List ℕ)
    (max : Option ℕ) → HaveSameTexts texts others (content_of h).emails
    → answer_of h q texts since max ≡ answer_of h q others since max

abbrev pub TextsDecideOutcomes : Type 0
TextsDecideOutcomes =
    (h : History) (texts others : ℕ → MessageTexts) (kind : Kind) (args : Tree)
    → HaveSameTexts texts others (content_of h).emails
    → query_changes_outcome h texts kind args ≡ query_changes_outcome h others kind args
