-- An account that begins over a keeper in memory whose content is empty.
use Rattle.std.proofs.Common.{◌≡◌, ◌⊎◌, inl, inr, ℕ, [], Some, None, refl, sym, ◌∙◌, subst, arith}
use Rattle.jm_edge.specs.Causes.{Rose}
use Rattle.keep_port.specs.declared.kept.Kept.{Kept}
use Rattle.mail_records.specs.Histories.{History, empty_history}
use Rattle.account_book.specs.Keeping.{IsOneMore, KeepsHistory}
use Rattle.account_book.specs.Opening.{IsDamaged, IsOpened, IsStartFault, MakesHistory, WasLoaded}
use Rattle.account_book.specs.Replies.{NoneRefused}
use Rattle.account_book.specs.declared.faults.Reason.{Reason}
use Rattle.account_book.specs.declared.faults.StartFault.{StartFault}
use Rattle.account_book.specs.declared.faults.StartFault.TheVariants.{KeeperFault, Damaged, NoMemory}
use Rattle.account_book.proofs.Reopening.{opened_again}

abbrev pub nothing : Kept
nothing = record { base = None; rows = [] }

-- no count that stays at 0 rose
pub not_risen : Rose 0 0 → ⊥
not_risen r = absurd (omega (arith, r))

pub none_refused : (h k : History) → NoneRefused h k ⊎ Rose 0 0 → NoneRefused h k
none_refused h k (inl none) = none
none_refused h k (inr r) = absurd (not_risen r)

keeps_nothing : KeepsHistory nothing empty_history
keeps_nothing = record { base = refl; rows = tt }

-- what was loaded is what was kept
was_nothing : (content old new : Kept) → old ≡ nothing → WasLoaded content (Some old) (Some new) → content ≡ nothing
was_nothing content old new is loaded =
    let here : content ≡ new = loaded.content_is new refl in
    let kept : Some old ≡ Some new = loaded.kept new refl in
    let same : old ≡ new = cc in
    here ∙ (sym same ∙ is)

pub begins_empty : (old new : Kept) (h : History) → old ≡ nothing → IsOpened (Some old) (Some new) h → h ≡ empty_history
begins_empty old new h is o =
    opened_again nothing empty_history h keeps_nothing (subst (λ k. MakesHistory k h) (was_nothing o.content old new is o.loaded) o.makes)

module _ (whole : History → Type 0)
    (undamaged : (k : Kept) (h : History) (row : ℕ) (why : Reason) → whole h → KeepsHistory k h ⊎ IsOneMore whole k h → ¬ IsDamaged whole k row why) (valid : whole empty_history) where
  pub only_memory : (old new : Kept) (fault : StartFault) → old ≡ nothing → IsStartFault whole (Some old) (Some new) 0 0 fault → fault ≡ NoMemory
  only_memory old new KeeperFault is cause = absurd (not_risen cause)
  only_memory old new (Damaged row why) is cause =
      absurd (undamaged nothing empty_history row why valid (inl keeps_nothing) (subst (λ k. IsDamaged whole k row why) (was_nothing cause.1.0 old new is cause.1.1) cause.1.2))
  only_memory old new NoMemory is cause = refl
