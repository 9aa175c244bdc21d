-- The numbers of a kind among ids.
use Rattle.std.proofs.Common.{◌≡◌, ℕ, true, false, ◌||◌, eqb, List, [], ◌∷◌, take, drop, refl, sym, ap, ◌∙◌, ⊎_elim}
use Rattle.std.specs.List.{list_any}
use Rattle.std.specs.List.Sorted.{IsStrictlyIncreasing}
use Rattle.std.proofs.lemmas.Bool.{cases_Bool}
use Rattle.std.proofs.lemmas.List.{take-map, drop-map}
use Rattle.jm_base.specs.declared.identifiers.Id.{Id}
use Rattle.jm_base.specs.declared.identifiers.Kind.{Kind}
use Rattle.mail_records.specs.States.{is_kind, is_id, AreNamed}
use Rattle.state_log.specs.Logs.{ids_in, note_id, numbers_named}
use Rattle.state_log.specs.declared.notes.Note.{Note}

-- a number is among those of a kind if and only if an id of that kind and number is there
pub any-numbers_named : (kind : Kind) (ids : List Id) (n : ℕ) → list_any (λ x. eqb x n) (numbers_named kind ids) ≡ list_any (is_id kind n) ids
any-numbers_named kind [] n = refl
any-numbers_named kind (i ∷ is) n =
    ⊎_elim
    (λ (h : is_kind kind i.kind ≡ true). rw h (ap (λ b. eqb i.number n || b) (any-numbers_named kind is n)))
    (λ (h : is_kind kind i.kind ≡ false). rw h (any-numbers_named kind is n))
    (cases_Bool (is_kind kind i.kind))

-- the notes between two positions name the ids between them
pub ids-between : (notes : List Note) (a b : ℕ) → ids_in (drop a (take b notes)) ≡ drop a (take b (ids_in notes))
ids-between notes a b = sym (ap (drop a) (take-map note_id b notes) ∙ drop-map note_id a (take b notes))

-- numbers of a kind in order, each once
pub AreNamed-sorted : (kind : Kind) (ids : List Id) (numbers sorted : List ℕ) → numbers ≡ numbers_named kind ids → IsStrictlyIncreasing sorted
    → ((n : ℕ) → list_any (λ x. eqb x n) sorted ≡ list_any (λ x. eqb x n) numbers) → AreNamed kind ids sorted
AreNamed-sorted kind ids numbers sorted is rise same = record {
  rise = rise;
  exactly = λ n. same n ∙ (ap (list_any (λ x. eqb x n)) is ∙ any-numbers_named kind ids n);
}
