-- A keeper in memory whose lists of failing calls are empty never fails.
use Rattle.std.proofs.Common.{◌≡◌, ℕ, true, List, [], Result, Ok, Err, refl, sym, ap, ◌∙◌, subst}
use Rattle.std.proofs.lemmas.Bool.{true≢false}
use Rattle.jm_edge.specs.Causes.{IsCounted}
use Rattle.jm_edge.specs.Schedules.{is_to_fail, one_on}
use Rattle.jm_edge.specs.declared.calls.Calls.{Calls}
use Rattle.jm_edge.specs.declared.fault.EdgeFault.{EdgeFault}
use Rattle.jm_edge.specs.declared.fault.EdgeFault.TheVariants.{Failed, NoMemory}
use Rattle.keep_port.specs.Memory.{Appends, Loads, Replaces, fails_next}
use Rattle.keep_port.specs.declared.kept.Kept.{Kept}
use Rattle.keep_port.specs.declared.memory.MemoryKeeper.{MemoryKeeper}

abbrev pub NeverFails : MemoryKeeper → Type 0
NeverFails m = (m.loads.fails ≡ []) × (m.appends.fails ≡ []) × (m.replaces.fails ≡ [])

never : (c : Calls) → c.fails ≡ [] → fails_next c ≡ true → ⊥
never c none fails = absurd (true≢false (sym fails ∙ ap (λ l. is_to_fail l (one_on c.made)) none))

pub load_counted : (old new : MemoryKeeper) (r : Result Kept EdgeFault) → NeverFails old → Loads old new r → IsCounted 0 0 r
load_counted old new (Ok k) n does = refl
load_counted old new (Err Failed) n does = absurd (never old.loads n.0 does.0)
load_counted old new (Err NoMemory) n does = refl

pub load_stays : (old new : MemoryKeeper) (r : Result Kept EdgeFault) → NeverFails old → Loads old new r → NeverFails new
load_stays old new (Ok k) n does = subst NeverFails (sym does.2) n
load_stays old new (Err Failed) n does = absurd (never old.loads n.0 does.0)
load_stays old new (Err NoMemory) n does = subst NeverFails (sym does) n

module _ {T : Type 0} where
  pub append_counted : (row : List ℕ) (old new : MemoryKeeper) (r : Result T EdgeFault) → NeverFails old → Appends row old new r → IsCounted 0 0 r
  append_counted row old new (Ok k) n does = refl
  append_counted row old new (Err Failed) n does = absurd (never old.appends n.1 does.0)
  append_counted row old new (Err NoMemory) n does = refl

  pub append_stays : (row : List ℕ) (old new : MemoryKeeper) (r : Result T EdgeFault) → NeverFails old → Appends row old new r → NeverFails new
  append_stays row old new (Ok k) n does = subst NeverFails (sym does.1) n
  append_stays row old new (Err Failed) n does = absurd (never old.appends n.1 does.0)
  append_stays row old new (Err NoMemory) n does = subst NeverFails (sym does) n

  pub replace_counted : (kept : Kept) (old new : MemoryKeeper) (r : Result T EdgeFault) → NeverFails old → Replaces kept old new r → IsCounted 0 0 r
  replace_counted kept old new (Ok k) n does = refl
  replace_counted kept old new (Err Failed) n does = absurd (never old.replaces n.2 does.0)
  replace_counted kept old new (Err NoMemory) n does = refl

  pub replace_stays : (kept : Kept) (old new : MemoryKeeper) (r : Result T EdgeFault) → NeverFails old → Replaces kept old new r → NeverFails new
  replace_stays kept old new (Ok k) n does = subst NeverFails (sym does.1) n
  replace_stays kept old new (Err Failed) n does = absurd (never old.replaces n.2 does.0)
  replace_stays kept old new (Err NoMemory) n does = subst NeverFails (sym does) n
