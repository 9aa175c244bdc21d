-- What a keeper over a database returns, for what its database returned.
use Rattle.std.proofs.Common.{◌≡◌, ◌⊎◌, inl, inr, ℕ, List, false, is_some, Option, Some, None, Result, Ok, Err, OnOk, MatchResult, refl, sym, ap, subst, ◌∙◌}
use Rattle.sqlite_trees.specs.declared.store.Store.{Ghosts}
use Rattle.sqlite.specs.declared.error.Error.{Error}
use Rattle.sqlite.specs.Held.{Held}
use Rattle.jm_edge.specs.declared.fault.EdgeFault.{EdgeFault}
use Rattle.jm_edge.specs.declared.fault.EdgeFault.TheVariants.{Failed, NoMemory}
use Rattle.keep_port.specs.Keeping.{IsUnknownOr, content_after, content_loaded, MayLeave}
use Rattle.keep_port.specs.declared.kept.Kept.{Kept}
use Rattle.keep_sqlite.specs.Answers.{Answers}
use Rattle.keep_sqlite.specs.Format.{kept_rows}
use Rattle.keep_sqlite.specs.Telling.{Writes}
use Rattle.keep_sqlite.specs.Knowing.{DatabaseView, Changed}

-- what the keeper returned is as what the database returned: the same value, or an error for an error
pub as_answered : {T : Type 0} (P : (F : Type 0) → Result T F → Type 0) → ((e : Error) (f : EdgeFault) → P Error (Err e) → P EdgeFault (Err f)) → ((x : T) → P Error (Ok x) → P EdgeFault (Ok x))
    → (r : Result T Error) (before now : ℕ) (s : Result T EdgeFault) → Answers r before now s → P Error r → P EdgeFault s
as_answered P bad good (Ok x) before now s a h = subst (P EdgeFault) (sym a.0) (good x h)
as_answered P bad good (Err e) before now s (inl a) h = subst (P EdgeFault) (sym a.1) (bad e _ h)
as_answered P bad good (Err e) before now s (inr a) h = subst (P EdgeFault) (sym a.1) (bad e _ h)

module _ {T : Type 0} where
  pub match_answered : (A B : Type 0) (r : Result T Error) (before now : ℕ) (s : Result T EdgeFault) → Answers r before now s → MatchResult r (λ _. A) (λ _. B) → MatchResult s (λ _. A) (λ _. B)
  match_answered A B = as_answered (λ F r. MatchResult r (λ _. A) (λ _. B)) (λ e f h. h) (λ x h. h)

  pub on_ok_answered : (A : Type 0) (r : Result T Error) (before now : ℕ) (s : Result T EdgeFault) → Answers r before now s → OnOk r A → OnOk s A
  on_ok_answered A = as_answered (λ F r. OnOk r A) (λ e f h. h) (λ x h. h)

  -- what a change makes of the content
  pub content_answered : (next old now : Option Kept) (r : Result T Error) (before after : ℕ) (s : Result T EdgeFault) → Answers r before after s
      → ((k : Kept) → now ≡ Some k → MatchResult r (λ _. next ≡ Some k) (λ _. old ≡ Some k)) → IsUnknownOr (content_after s next old) now
  content_answered next old now r before after s a h k is = go s (match_answered (next ≡ Some k) (old ≡ Some k) r before after s a (h k is))
    where
      go : (s : Result T EdgeFault) → MatchResult s (λ _. next ≡ Some k) (λ _. old ≡ Some k) → content_after s next old ≡ Some k
      go (Ok x) h = h
      go (Err e) h = h

  -- what a change lets a crash leave
  pub left_answered : (next : Option Kept) (old new : Kept → Type 0) (r : Result T Error) (before after : ℕ) (s : Result T EdgeFault) → Answers r before after s
      → ((k : Kept) → new k → MatchResult r (λ _. next ≡ Some k) (λ _. old k ⊎ (next ≡ Some k))) → MayLeave s next old new
  left_answered next old new r before after s a h = go s (λ k is. match_answered (next ≡ Some k) (old k ⊎ (next ≡ Some k)) r before after s a (h k is))
    where
      go : (s : Result T EdgeFault) → ((k : Kept) → new k → MatchResult s (λ _. next ≡ Some k) (λ _. old k ⊎ (next ≡ Some k))) → MayLeave s next old new
      go (Ok x) h = h
      go (Err e) h = h

  pub writes_answered : {S : Type 0} (g : Ghosts S) (IsFit : Kept → Type 0) (next : Kept → Kept) (old : Held S) (connection : Option (Held S)) (r : Result T Error) (before after : ℕ) (s : Result T EdgeFault)
      → Answers r before after s → Writes g IsFit next old connection r → Writes g IsFit next old connection s
  writes_answered g IsFit next old connection = as_answered (λ F r. Writes g IsFit next old connection r)
      (λ e f w. record { new = w.new; is = w.is; shut = w.shut; opened = λ clean. tt; crash = w.crash; told = λ clean k keeps fits. tt; durable = λ clean k keeps fits. tt; refused = w.refused })
      (λ x w. record { new = w.new; is = w.is; shut = w.shut; opened = w.opened; crash = w.crash; told = w.told; durable = w.durable; refused = λ clean k keeps fits. tt })

  pub changed_answered : {S O : Type 0} (g : Ghosts S) (next : Option Kept) (old new : DatabaseView S O) (r : Result T Error) (before after : ℕ) (s : Result T EdgeFault)
      → Answers r before after s → Changed g next old new r → Changed g next old new s
  changed_answered g next old new = as_answered (λ F r. Changed g next old new r)
      (λ e f c. record { content = c.content; left = c.left; stays = c.stays; leaves = c.leaves })
      (λ x c. record { content = c.content; left = c.left; stays = c.stays; leaves = c.leaves })

module _ {T : Type 0} where
  pub answered_ok : (r : Result T Error) (before now : ℕ) (s : Result T EdgeFault) (x : T) → Answers r before now s → s ≡ Ok x → r ≡ Ok x
  answered_ok (Ok y) before now s x a is = let both : ◌≡◌ {A = Result T EdgeFault} (Ok y) (Ok x) = sym a.0 ∙ is in cc
  answered_ok (Err e) before now s x (inl a) is = absurd (let both : ◌≡◌ {A = Result T EdgeFault} (Err NoMemory) (Ok x) = sym a.1 ∙ is in cc)
  answered_ok (Err e) before now s x (inr a) is = absurd (let both : ◌≡◌ {A = Result T EdgeFault} (Err Failed) (Ok x) = sym a.1 ∙ is in cc)

  pub answered_err : (r : Result T Error) (before now : ℕ) (s : Result T EdgeFault) (f : EdgeFault) → Answers r before now s → s ≡ Err f → (e : Error) × (r ≡ Err e)
  answered_err (Ok y) before now s f a is = absurd (let both : ◌≡◌ {A = Result T EdgeFault} (Ok y) (Err f) = sym a.0 ∙ is in cc)
  answered_err (Err e) before now s f a is = (e, refl)

pub content_of_load : (rows : List (List ℕ)) (old now : Option Kept) → ((k : Kept) → now ≡ Some k → k ≡ kept_rows rows) → ((k : Kept) → now ≡ Some k → (o : Kept) → old ≡ Some o → o ≡ k)
    → IsUnknownOr (content_loaded (Ok (kept_rows rows)) old) now
content_of_load rows None now found same k is = ap Some (sym (found k is))
content_of_load rows (Some o) now found same k is = ap Some (same k is o refl)

-- a content without a base is its rows
pub rows_alone : (k : Kept) → k.base ≡ None → kept_rows k.rows ≡ k
rows_alone k none = ap (λ b. let x : Kept = record { base = b; rows = k.rows } in x) (sym none)

-- nothing was asked, and the call failed
pub content_refused : {T : Type 0} (next old : Option Kept) (e : Error) (before after : ℕ) (s : Result T EdgeFault) → Answers (Err e) before after s → IsUnknownOr (content_after s next old) old
content_refused next old e before after s a = content_answered next old old (Err e) before after s a (λ k is. is)

pub left_refused : {T : Type 0} (next : Option Kept) (old : Kept → Type 0) (e : Error) (before after : ℕ) (s : Result T EdgeFault) → Answers (Err e) before after s → MayLeave s next old old
left_refused next old e before after s a = left_answered next old old (Err e) before after s a (λ k is. inl is)

pub none_of : {X : Type 0} (o : Option X) → is_some o ≡ false → o ≡ None
none_of None h = refl
none_of (Some x) h = absurd cc
