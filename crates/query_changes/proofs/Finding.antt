-- From what a log and a content say to what is asked of their history.
use Rattle.std.proofs.Common.{◌≡◌, ℕ, ◌+◌, ◌-◌, if◌then◌else◌, Bool, true, false, ◌||◌, ◌&&◌, List, [], ◌∷◌, Option, Some, None, Result, Ok, Err, IfOk, IfErr, refl, sym, ap, ap₂, ◌∙◌, subst, map, drop, take, length, take_all, ne_eqb, arith}
use Rattle.std.specs.Prelude.{◌==◌}
use Rattle.std.specs.List.{list_any}
use Rattle.std.proofs.lemmas.Bool.{true≢false}
use Rattle.std.specs.List.Sorted.{IsStrictlyIncreasing}
use Rattle.std.proofs.lemmas.List.{drop-map}
use Rattle.jm_base.specs.Splices.{has, with_index}
use Rattle.mail_records.specs.Contents.{Content}
use Rattle.mail_records.specs.Histories.{History, content_of, edits_after, edits_of}
use Rattle.mail_records.specs.States.{AreNamed, ids_between, is_id, last_position, state_of}
use Rattle.state_log.specs.Logs.{IsLogOf, Notes, ids_in, log_end, note_of, threads_named}
use Rattle.state_log.specs.declared.notes.Note.{Note}
use Rattle.state_log.proofs.Agreement.{state_of-log}
use Rattle.state_log.proofs.Named.{ids-between}
use Rattle.change_calls.specs.Changes.{is_within, reached_state}
use Rattle.filter_terms.specs.Texts.{MessageTexts}
use Rattle.query_engine.specs.Queries.{result_list}
use Rattle.query_engine.specs.Views.{QueryTree}
use Rattle.query_changes.specs.Deltas.{Answer, AreOf, DeltaFails, IsShown, answer_of, answer_since, answer_within, answered, cannot_calculate, change_count, delta_of, shown, too_many}
use Rattle.query_changes.specs.Notes.{is_in_threads, notes_touch}
use Rattle.query_changes.specs.Touched.{is_touched, looks_at_threads, touched}
use Rattle.query_changes.specs.declared.delta.Delta.{Delta}
use Rattle.query_changes.specs.declared.delta.DeltaFault.{DeltaFault}
use Rattle.query_changes.specs.declared.delta.DeltaFault.TheVariants.{CannotCalculate, NoMemory, TooMany}
use Rattle.query_changes.proofs.Touching.{has-touched_by, notes_touch-edits, touched_is, with_index-same}

-- the notes after a position are those of the edits after it
pub notes_since : (h : History) (l : Notes) (from : ℕ) → IsLogOf h l → drop (from - l.floor) (take (log_end l - l.floor) l.notes) ≡ map note_of (edits_after h from)
notes_since h l from is =
    ap₂ (λ (f : ℕ) (ns : List Note). drop (from - f) ns) is.floor (take_all (log_end l - l.floor) l.notes (omega arith))
    ∙ (ap (drop (from - h.floor)) is.notes ∙ drop-map note_of (from - h.floor) (edits_of h))

-- what the notes after a position touch is what the edits after it do
touch_same : (h : History) (l : Notes) (c : Content) (q : QueryTree) (from : ℕ) (notes : List Note) → AreOf h l c → notes ≡ drop (from - l.floor) (take (log_end l - l.floor) l.notes) → (n : ℕ)
    → notes_touch q notes c n ≡ is_touched h q from n
touch_same h l c q from notes are is n =
    ap₂ (λ (ns : List Note) (x : Content). notes_touch q ns x n) (is ∙ notes_since h l from are.log) are.content
    ∙ notes_touch-edits q (edits_after h from) (content_of h) n

pub found_touched : (h : History) (l : Notes) (c : Content) (q : QueryTree) (from : ℕ) (notes : List Note) (numbers : List ℕ) → AreOf h l c → notes ≡ drop (from - l.floor) (take (log_end l - l.floor) l.notes)
    → IsStrictlyIncreasing numbers → ((n : ℕ) → has numbers n ≡ notes_touch q notes c n) → numbers ≡ touched h q from
found_touched h l c q from notes numbers are is rise same =
    touched_is q (edits_after h from) (content_of h) numbers rise (λ n. same n ∙ touch_same h l c q from notes are is n)

or_none : (a w p : Bool) → w ≡ false → (a || (w && p)) ≡ a
or_none true w p h = refl
or_none false true p h = absurd (true≢false h)
or_none false false p h = refl

or_all : (a w p : Bool) → w ≡ true → (a || (w && p)) ≡ (a || p)
or_all true w p h = refl
or_all false true p h = refl
or_all false false p h = absurd (true≢false (sym h))

-- what is named, of a log up to its end
named_are : (l : Notes) (q : QueryTree) (from end : ℕ) (named : List ℕ) → end ≡ log_end l → AreNamed q.kind (ids_between l.floor from end (ids_in l.notes)) named → (n : ℕ)
    → has named n ≡ list_any (is_id q.kind n) (ids_in (drop (from - l.floor) (take (log_end l - l.floor) l.notes)))
named_are l q from end named is are n =
    are.exactly n
    ∙ ap (list_any (is_id q.kind n))
    (ap (λ (e : ℕ). drop (from - l.floor) (take (e - l.floor) (ids_in l.notes))) is ∙ sym (ids-between l.notes (from - l.floor) (log_end l - l.floor)))

-- a query that does not look at threads
pub narrow_touched : (h : History) (l : Notes) (c : Content) (q : QueryTree) (from end : ℕ) (named : List ℕ) → AreOf h l c → end ≡ log_end l → looks_at_threads q ≡ false
    → AreNamed q.kind (ids_between l.floor from end (ids_in l.notes)) named → named ≡ touched h q from
narrow_touched h l c q from end named are is off naming =
    let notes = drop (from - l.floor) (take (log_end l - l.floor) l.notes) in
    found_touched h l c q from notes named are refl naming.rise
    (λ n. named_are l q from end named is naming n
    ∙ sym (or_none (list_any (is_id q.kind n) (ids_in notes)) (looks_at_threads q) (is_in_threads (threads_named notes) c n) off))

-- a query that looks at threads
pub wide_touched : (h : History) (l : Notes) (c : Content) (q : QueryTree) (from end : ℕ) (notes : List Note) (named numbers : List ℕ) → AreOf h l c → end ≡ log_end l → looks_at_threads q ≡ true
    → notes ≡ drop (from - l.floor) (take (end - l.floor) l.notes) → AreNamed q.kind (ids_between l.floor from end (ids_in l.notes)) named → IsStrictlyIncreasing numbers
    → ((n : ℕ) → has numbers n ≡ (has named n || is_in_threads (threads_named notes) c n)) → numbers ≡ touched h q from
wide_touched h l c q from end notes named numbers are is looks notes_are naming rise same =
    let whole : notes ≡ drop (from - l.floor) (take (log_end l - l.floor) l.notes) = notes_are ∙ ap (λ (e : ℕ). drop (from - l.floor) (take (e - l.floor) l.notes)) is in
    found_touched h l c q from notes numbers are whole rise
    (λ n. same n
    ∙ (ap (λ b. b || is_in_threads (threads_named notes) c n) (named_are l q from end named is naming n ∙ ap (λ (ns : List Note). list_any (is_id q.kind n) (ids_in ns)) (sym whole))
    ∙ sym (or_all (list_any (is_id q.kind n) (ids_in notes)) (looks_at_threads q) (is_in_threads (threads_named notes) c n) looks)))

-- ---- the changes

pub delta_is : (h : History) (l : Notes) (c : Content) (q : QueryTree) (texts : ℕ → MessageTexts) (from : ℕ) (d : Delta) (numbers list : List ℕ) → AreOf h l c → numbers ≡ touched h q from → list ≡ result_list q c texts
    → d.removed ≡ numbers → d.added ≡ with_index (has numbers) 0 list → d.new_state ≡ last_position q.kind l.floor l.floors (ids_in l.notes) → d.total ≡ length list
    → d ≡ delta_of h q texts from
delta_is h l c q texts from d numbers list are found ran removed added state total =
    let now : list ≡ result_list q (content_of h) texts = ran ∙ ap (λ (x : Content). result_list q x texts) are.content in
    let is_removed : d.removed ≡ touched h q from = removed ∙ found in
    let is_added : d.added ≡ with_index (is_touched h q from) 0 (result_list q (content_of h) texts) =
    added
    ∙ (with_index-same (has numbers) (is_touched h q from) (λ n. ap (λ (ns : List ℕ). has ns n) found ∙ has-touched_by q (edits_after h from) (content_of h) n) 0 list
    ∙ ap (with_index (is_touched h q from) 0) now) in
    let is_state : d.new_state ≡ state_of h q.kind = state ∙ state_of-log h l q.kind are.log in
    let is_total : d.total ≡ length (result_list q (content_of h) texts) = total ∙ ap length now in
    λ i. record { removed = is_removed i; added = is_added i; new_state = is_state i; total = is_total i }

-- ---- nothing is touched

pub no_numbers : (ns : List ℕ) → true ≡ (length ns == 0) → ns ≡ []
no_numbers [] e = refl
no_numbers (n ∷ ns) e = absurd (true≢false (e ∙ ne_eqb (length (n ∷ ns)) 0 (λ (z : length (n ∷ ns) ≡ 0). omega (arith, z))))

no_items : (start : ℕ) (list : List ℕ) → with_index (has []) start list ≡ []
no_items start [] = refl
no_items start (n ∷ ns) = no_items (start + 1) ns

pub nothing_shown : (h : History) (l : Notes) (c : Content) (q : QueryTree) (texts : ℕ → MessageTexts) (from : ℕ) (d : Delta) → AreOf h l c → [] ≡ touched h q from
    → d.removed ≡ [] → d.added ≡ [] → d.new_state ≡ last_position q.kind l.floor l.floors (ids_in l.notes)
    → shown false d ≡ shown false (delta_of h q texts from)
nothing_shown h l c q texts from d are found removed added state =
    let list = result_list q (content_of h) texts in
    let is_removed : d.removed ≡ touched h q from = removed ∙ found in
    let is_added : d.added ≡ with_index (is_touched h q from) 0 list =
    added
    ∙ (sym (no_items 0 list)
    ∙ with_index-same (has []) (is_touched h q from) (λ n. ap (λ (ns : List ℕ). has ns n) found ∙ has-touched_by q (edits_after h from) (content_of h) n) 0 list) in
    let is_state : d.new_state ≡ state_of h q.kind = state ∙ state_of-log h l q.kind are.log in
    λ i. record { removed = is_removed i; added = is_added i; new_state = is_state i; total = 0 }

-- ---- the answer

count_same : (counted : Bool) (d e : Delta) → shown counted d ≡ shown counted e → change_count d ≡ change_count e
count_same true d e same = ap change_count same
count_same false d e same = ap change_count same

module _ (counted : Bool) (max : Option ℕ) (d e : Delta) (same : shown counted d ≡ shown counted e) where
  pub within_shown : (kept : Delta) → answer_within max d ≡ answered kept → IsShown counted kept (answer_within max e)
  within_shown kept is =
      by (is_within max (change_count e)) (change_count e) (ap (λ n. if is_within max n then answered d else too_many n) (sym (count_same counted d e same)) ∙ is)
    where
      by : (b : Bool) (n : ℕ) → (if b then answered d else too_many n) ≡ answered kept → IsShown counted kept (if b then answered e else too_many n)
      by true n is = let one : d ≡ kept = cc is in subst (λ x. shown counted x ≡ shown counted e) one same
      by false n is = absurd (cc is)

  pub within_fails : (fault : DeltaFault) → DeltaFails fault (answer_within max d) → DeltaFails fault (answer_within max e)
  within_fails fault is =
      by (is_within max (change_count e)) (change_count e) fault (subst (λ n. DeltaFails fault (if is_within max n then answered d else too_many n)) (count_same counted d e same) is)
    where
      by : (b : Bool) (n : ℕ) (fault : DeltaFault) → DeltaFails fault (if b then answered d else too_many n) → DeltaFails fault (if b then answered e else too_many n)
      by true n CannotCalculate is = absurd (cc is)
      by true n (TooMany k) is = absurd (cc is)
      by true n NoMemory is = tt
      by false n fault is = is

pub shown_whole : (d : Delta) (a : Answer) → IsShown true d a → a ≡ answered d
shown_whole d (answered e) is = ap answered (sym is)
shown_whole d cannot_calculate is = absurd is
shown_whole d (too_many count) is = absurd is

pub answer_delta : (h : History) (q : QueryTree) (texts : ℕ → MessageTexts) (since : List ℕ) (max : Option ℕ) (from : ℕ) → Some from ≡ reached_state h q.kind since
    → answer_of h q texts since max ≡ answer_within max (delta_of h q texts from)
answer_delta h q texts since max from state = ap (answer_since h q texts max) (sym state)

pub answer_untold : (h : History) (q : QueryTree) (texts : ℕ → MessageTexts) (since : List ℕ) (max : Option ℕ) → None ≡ reached_state h q.kind since → answer_of h q texts since max ≡ cannot_calculate
answer_untold h q texts since max state = ap (answer_since h q texts max) (sym state)

-- what a result says, said in other words
pub ok_so : {T E : Type 0} (r : Result T E) (P Q : T → Type 0) → ((x : T) → P x → Q x) → IfOk r P → IfOk r Q
ok_so (Ok x) P Q so is = so x is
ok_so (Err e) P Q so is = tt

pub err_so : {T E : Type 0} (r : Result T E) (P Q : E → Type 0) → ((e : E) → P e → Q e) → IfErr r P → IfErr r Q
err_so (Ok x) P Q so is = tt
err_so (Err e) P Q so is = so e is
