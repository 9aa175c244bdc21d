-- What a row more makes of what is loaded, and which history a content that is loaded keeps.
use Rattle.std.proofs.Common.{◌≡◌, inl, inr, ⊎_elim, ℕ, ◌+◌, List, [], ◌∷◌, ◌++◌, take, map, length, slice_get, Option, Some, None, Ok, refl, sym, ap, ◌∙◌, subst}
use Rattle.std.proofs.lemmas.List.{map-append}
use Rattle.keep_port.specs.Keeping.{IsContent, IsUnknownOr, content_loaded}
use Rattle.keep_port.specs.declared.kept.Kept.{Kept}
use Rattle.mail_records.specs.Contents.{empty_content}
use Rattle.mail_records.specs.Edits.{AllFit}
use Rattle.mail_records.specs.Histories.{History, Entry, Committed, commits_in, content_of, edits_of, empty_history, grown}
use Rattle.mail_records.specs.declared.edits.Commit.{Commit}
use Rattle.mail_records.proofs.Growth.{AllFit-append}
use Rattle.mail_records.proofs.Prefixes.{edits_of-grown}
use Rattle.record_codec.specs.Offsets.{IsEncodingOf}
use Rattle.account_book.specs.Keeping.{AreEncodings, IsBaseOf, KeepsHistory, KnowsHistory}
use Rattle.account_book.specs.Opening.{AreDamaged, AreLoaded, AreTaken, IsContentFault, IsEndFault, IsLeftBefore, IsLoadFault, IsLoading, IsNotWhole, IsReadyLoaded, IsRowRefused, MakesHistory, TakesRow, history_of_commits}
use Rattle.account_book.specs.declared.faults.Reason.{Reason}
use Rattle.account_book.specs.declared.faults.Reason.TheVariants.{NotACommit, NotWhole}
use Rattle.account_book.specs.declared.faults.StartFault.{StartFault}
use Rattle.account_book.specs.declared.faults.StartFault.TheVariants.{KeeperFault, Damaged, NoMemory}
use Rattle.account_book.specs.declared.loading.Loading.{Loading}
use Rattle.account_book.proofs.Rows.{AreEncodings-push}

history_push : (cs : List Commit) (c : Commit) → history_of_commits (cs ++ c ∷ []) ≡ grown (history_of_commits cs) (Committed c)
history_push cs c = ap (λ (es : List Entry). record empty_history { entries = es }) (map-append Committed cs (c ∷ []))

AreTaken-push : (rows : List (List ℕ)) (cs : List Commit) (row : List ℕ) (c : Commit) → AreTaken rows cs → IsEncodingOf row c → AllFit (content_of (history_of_commits cs)) c.edits → AreTaken (rows ++ row ∷ []) (cs ++ c ∷ [])
AreTaken-push rows cs row c t one fit =
    let h = history_of_commits cs in
    record {
      encoded = AreEncodings-push rows cs row c t.encoded one;
      fits = subst (AllFit empty_content) (sym (ap edits_of (history_push cs c) ∙ edits_of-grown h (Committed c))) (AllFit-append (edits_of h) c.edits empty_content t.fits fit);
    }

pub AreLoaded-push : (rows : List (List ℕ)) (row : List ℕ) (l next : Loading) → AreLoaded rows l → ((h : History) → IsLoading l h → TakesRow row h next) → AreLoaded (rows ++ row ∷ []) next
AreLoaded-push rows row l next a takes =
    let t = takes (history_of_commits a.commits) a.is in
    record {
      commits = a.commits ++ t.commit ∷ [];
      taken = AreTaken-push rows a.commits row t.commit a.taken t.encoded t.fits;
      is = subst (IsLoading next) (sym (history_push a.commits t.commit)) t.is;
    }

pub IsLoadFault-row : (rows : List (List ℕ)) (i : ℕ) (bytes : List ℕ) (l : Loading) (fault : StartFault) → slice_get rows i ≡ Some bytes → AreLoaded (take i rows) l → ((h : History) → IsLoading l h → IsRowRefused bytes (i + 1) h fault) → IsLoadFault rows fault
IsLoadFault-row rows i bytes l KeeperFault there a refused = absurd (refused (history_of_commits a.commits) a.is)
IsLoadFault-row rows i bytes l NoMemory there a refused = tt
IsLoadFault-row rows i bytes l (Damaged r why) there a refused =
    let f = refused (history_of_commits a.commits) a.is in
    (record { index = i; row_is = f.0; commits = a.commits; before = a.taken; bytes = bytes; there = there; fault = f.1 })

pub AreLoaded-none : (l : Loading) → IsLoading l empty_history → AreLoaded [] l
AreLoaded-none l is = record { commits = []; taken = record { encoded = tt; fits = tt }; is = is }

-- ---- the end

pub MakesHistory-loaded : (k : Kept) (rows : List (List ℕ)) (l : Loading) (g : History) → k.base ≡ None → k.rows ≡ rows → AreLoaded rows l → ((h : History) → IsLoading l h → g ≡ h) → MakesHistory k g
MakesHistory-loaded k rows l g none is a same = record { no_base = none; commits = a.commits; taken = subst (λ rs. AreTaken rs a.commits) (sym is) a.taken; is = same (history_of_commits a.commits) a.is }

no_rows : (cs : List Commit) → AreEncodings [] cs → cs ≡ []
no_rows [] e = refl
no_rows (c ∷ cs) e = absurd e

end_damaged : (whole : History → Type 0) → whole empty_history → (rows : List (List ℕ)) (cs : List Commit) (last row : ℕ) (why : Reason) → AreTaken rows cs → last ≡ length rows → row ≡ last → why ≡ NotWhole → ¬ whole (history_of_commits cs) → IsNotWhole whole rows row why
end_damaged whole empty [] cs last row why t is at reason bad = absurd (bad (subst (λ ds. whole (history_of_commits ds)) (sym (no_rows cs t.encoded)) empty))
end_damaged whole empty (r ∷ rs) cs last row why t is at reason bad = record { commits = cs; all = t; invalid = bad; last = at ∙ is; reason = reason }

pub content_damaged : (whole : History → Type 0) → whole empty_history → (k : Kept) (rows : List (List ℕ)) (l : Loading) (last : ℕ) (fault : StartFault) → k.base ≡ None → k.rows ≡ rows → AreLoaded rows l → last ≡ length rows → ((h : History) → IsLoading l h → IsEndFault whole h last fault) → IsContentFault whole k fault
content_damaged whole empty k rows l last KeeperFault none is a low end = absurd (end (history_of_commits a.commits) a.is)
content_damaged whole empty k rows l last NoMemory none is a low end = tt
content_damaged whole empty k rows l last (Damaged row why) none is a low end =
    let f = end (history_of_commits a.commits) a.is in
    subst (λ b. AreDamaged whole b k.rows row why) (sym none)
    (subst (λ rs. AreDamaged whole None rs row why) (sym is) (inr (end_damaged whole empty rows a.commits last row why a.taken low f.0 f.1 f.2)))

pub content_at_fault : (whole : History → Type 0) (k : Kept) (rows : List (List ℕ)) (fault : StartFault) → k.base ≡ None → k.rows ≡ rows → IsLoadFault rows fault → IsContentFault whole k fault
content_at_fault whole k rows KeeperFault none is f = absurd f
content_at_fault whole k rows NoMemory none is f = tt
content_at_fault whole k rows (Damaged row why) none is f =
    subst (λ b. AreDamaged whole b k.rows row why) (sym none) (subst (λ rs. AreDamaged whole None rs row why) (sym is) (inl f))

-- a base is at fault
base_damaged : (whole : History → Type 0) (base : Option (List ℕ)) (rows : List (List ℕ)) → ¬ (base ≡ None) → AreDamaged whole base rows 0 (NotACommit 0)
base_damaged whole None rows some = absurd (some refl)
base_damaged whole (Some b) rows some = (refl, refl)

pub base_at_fault : (whole : History → Type 0) (k : Kept) → ¬ (k.base ≡ None) → IsContentFault whole k (Damaged 0 (NotACommit 0))
base_at_fault whole k some = base_damaged whole k.base k.rows some

-- ---- the content keeps the history

commits_in-all : (cs : List Commit) → commits_in (map Committed cs) ≡ cs
commits_in-all [] = refl
commits_in-all (c ∷ cs) = ap (λ zs. c ∷ zs) (commits_in-all cs)

pub KeepsHistory-made : (k : Kept) (h : History) → MakesHistory k h → KeepsHistory k h
KeepsHistory-made k h m =
    subst (KeepsHistory k) (sym m.is)
    (record {
      base = subst (λ b. IsBaseOf b (history_of_commits m.commits)) (sym m.no_base) refl;
      rows = subst (AreEncodings k.rows) (sym (commits_in-all m.commits)) m.taken.encoded;
    })

loaded_same : (content k t : Kept) (known : Option Kept) → content_loaded (Ok content) known ≡ Some k → known ≡ Some t → k ≡ t
loaded_same content k t None e told = absurd (cc)
loaded_same content k t (Some s) e told = cc

-- a keeper that loaded this content keeps the history that the content makes
pub knows_loaded : (known : Option Kept) (content : Kept) (h : History) → MakesHistory content h → IsContent known content → KnowsHistory known h
knows_loaded known content h makes is k e = subst (λ z. KeepsHistory z h) (is k e) (KeepsHistory-made content h makes)

known_before : (content t : Kept) (known loaded : Option Kept) (h : History) → IsUnknownOr (content_loaded (Ok content) known) loaded → (loaded ≡ None → known ≡ None) → KnowsHistory loaded h → known ≡ Some t → KeepsHistory t h
known_before content t known None h after lost knows told = let none = lost refl in absurd (cc)
known_before content t known (Some k) h after lost knows told = subst (λ z. KeepsHistory z h) (loaded_same content k t known (after k refl) told) (knows k refl)

-- a keeper that was ready is so once it is loaded
pub ready_loaded : (whole : History → Type 0) (known loaded : Option Kept) (image image' : Kept → Type 0) (content : Kept) → IsUnknownOr (content_loaded (Ok content) known) loaded → IsLeftBefore image loaded image'
    → IsReadyLoaded whole known image loaded image'
ready_loaded whole known loaded image image' content after may ready lost h valid knows left i =
    ⊎_elim
    (λ before. ready h valid (λ t told. known_before content t known loaded h after lost knows told) left before)
    (λ now. inl (knows left now))
    (may left i)
