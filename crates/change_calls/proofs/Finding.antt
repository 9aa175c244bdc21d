-- From what a log says to what is asked of its history.
use Rattle.std.proofs.Common.{◌≡◌, ℕ, ◌≤◌, List, Option, Some, None, sym, ap, ◌∙◌, subst, arith}
use Rattle.std.specs.Prelude.{ℤ}
use Rattle.std.proofs.lemmas.Fmt.{decimal_injective}
use Rattle.jm_base.specs.Ids.{IsState, state_text}
use Rattle.jm_base.specs.declared.identifiers.Kind.{Kind}
use Rattle.mail_records.specs.Histories.{History, floor_of}
use Rattle.mail_records.specs.States.{Reaches, last_position, state_at}
use Rattle.mail_records.proofs.Reached.{state_at-end}
use Rattle.state_log.specs.Logs.{IsLogOf, Notes, ids_in, log_end}
use Rattle.state_log.proofs.Agreement.{Reaches-history, Reaches-log, log_end-of, state_of-log}
use Rattle.change_calls.specs.Changes.{answer_of, answer_since, answer_within, answered, invalid_maximum, cannot_calculate, maximum_of, page_end, page_of, reached_state}
use Rattle.change_calls.specs.declared.page.ChangePage.{ChangePage}
use Rattle.change_calls.proofs.Exact.{reached_state-none, reached_state-read}

pub found_state : (h : History) (l : Notes) (kind : Kind) (text : List ℕ) (position : ℕ) → IsLogOf h l → IsState position × (text ≡ state_text position)
    → (floor_of l.floors kind ≤ position) × (position ≤ log_end l) → Some position ≡ reached_state h kind text
found_state h l kind text position is read reached =
    sym (reached_state-read h kind text position (Reaches-log h l kind position is reached) read.0 read.1)

pub unreached_state : (h : History) (l : Notes) (kind : Kind) (text : List ℕ) (position : ℕ) → IsLogOf h l → IsState position × (text ≡ state_text position)
    → ((floor_of l.floors kind ≤ position) × (position ≤ log_end l) → ⊥) → None ≡ reached_state h kind text
unreached_state h l kind text position is read away =
    sym
    (reached_state-none h kind text
    (λ s reaches lt same.
    let low = read.0 in
    let one : s ≡ position = decimal_injective s position (omega arith) (omega arith) (sym same ∙ read.1) in
    away (Reaches-history h l kind position is (subst (Reaches h kind) one reaches))))

pub no_state : (h : History) (kind : Kind) (text : List ℕ) → ((position : ℕ) → IsState position → text ≡ state_text position → ⊥) → None ≡ reached_state h kind text
no_state h kind text none = sym (reached_state-none h kind text (λ s reaches lt same. none s lt same))

pub state_there-end : (h : History) (l : Notes) (kind : Kind) (position : ℕ) → IsLogOf h l → position ≡ log_end l → last_position kind l.floor l.floors (ids_in l.notes) ≡ state_at h kind position
state_there-end h l kind position is end =
    state_of-log h l kind is ∙ (sym (state_at-end h kind) ∙ ap (state_at h kind) (sym (end ∙ log_end-of h l is)))

-- ---- the answer

pub answer_page : (h : History) (kind : Kind) (text : List ℕ) (asked : Option ℤ) (max : Option ℕ) (from : ℕ) (page : ChangePage) → Some max ≡ maximum_of asked → Some from ≡ reached_state h kind text
    → page ≡ page_of h kind from (page_end h kind max from) → answer_of h kind text asked ≡ answered page
answer_page h kind text asked max from page maximum state is =
    ap (answer_within h kind text) (sym maximum) ∙ (ap (answer_since h kind max) (sym state) ∙ ap answered (sym is))

pub answer_untold : (h : History) (kind : Kind) (text : List ℕ) (asked : Option ℤ) (max : Option ℕ) → Some max ≡ maximum_of asked → None ≡ reached_state h kind text → answer_of h kind text asked ≡ cannot_calculate
answer_untold h kind text asked max maximum state = ap (answer_within h kind text) (sym maximum) ∙ ap (answer_since h kind max) (sym state)

pub answer_invalid : (h : History) (kind : Kind) (text : List ℕ) (asked : Option ℤ) → None ≡ maximum_of asked → answer_of h kind text asked ≡ invalid_maximum
answer_invalid h kind text asked maximum = ap (answer_within h kind text) (sym maximum)

pub ruleset answers = (answer_page, answer_untold, answer_invalid)
