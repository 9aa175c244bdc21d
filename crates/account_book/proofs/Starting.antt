-- What is loaded row by row, and what a book holds when it is opened.
use Rattle.std.proofs.Common.{◌≡◌, ℕ, zero, suc, ◌+◌, List, [], ◌∷◌, take, drop, length, Option, Some, None, Result, Ok, Err, IfErr, IfOk, refl, sym, ap, ◌∙◌, subst, arith}
use Rattle.std.specs.List.{AllByRecursion}
use Rattle.blob_store.specs.Blobs.{AreBlobsFew}
use Rattle.keep_port.specs.Keeping.{IsContent, IsUnknownOr, content_loaded}
use Rattle.keep_port.specs.declared.kept.Kept.{Kept}
use Rattle.mail_records.specs.Contents.{Held}
use Rattle.mail_records.specs.Histories.{History, Entry, account_after, blobs_of, empty_history}
use Rattle.mail_records.proofs.Prefixes.{account_after-all}
use Rattle.account_book.specs.Keeping.{KnowsHistory}
use Rattle.account_book.specs.Books.{IsBook, RoseBy, refusals_in}
use Rattle.account_book.specs.Passes.{IsPassNumber, greatest_pass}
use Rattle.account_book.specs.Opening.{AreLoaded, IsContentFault, IsEndFault, IsLoadFault, IsLoading, IsOpened, IsRowRefused, IsStartFault, MakesHistory, TakesRow}
use Rattle.account_book.specs.declared.faults.StartFault.{StartFault}
use Rattle.account_book.specs.declared.faults.StartFault.TheVariants.{KeeperFault, Damaged, NoMemory}
use Rattle.account_book.specs.Views.{Ledger}
use Rattle.account_book.specs.declared.faults.Reason.TheVariants.{NotWhole}
use Rattle.account_book.specs.declared.loading.Loading.{Loading}
use Rattle.account_book.specs.declared.loading.Loading.TheVariants.{Fitting, Overfull}
use Rattle.account_book.proofs.Rows.{rest_dropped, rest_taken, rest_there}
use Rattle.account_book.proofs.Opened.{AreLoaded-none, AreLoaded-push, IsLoadFault-row}
use Rattle.account_book.proofs.Parts.{drop_all, valid_first}

-- ---- one row after the other

next_index : (i j : ℕ) → j ≡ i + 1 → suc i ≡ j
next_index i j next = omega (arith, next)

pub loaded_next : (rows rest rest' : List (List ℕ)) (row : List ℕ) (i j : ℕ) (l next : Loading) → rest ≡ drop i rows → rest ≡ row ∷ rest' → j ≡ i + 1 → AreLoaded (take i rows) l → ((h : History) → IsLoading l h → TakesRow row h next) → AreLoaded (take j rows) next
loaded_next rows rest rest' row i j l next are is step loaded takes =
    subst (λ rs. AreLoaded rs next) (sym (ap (λ k. take k rows) (sym (next_index i j step)) ∙ rest_taken i rows row rest' (sym are ∙ is)))
    (AreLoaded-push (take i rows) row l next loaded takes)

pub rest_next : (rows rest rest' : List (List ℕ)) (row : List ℕ) (i j : ℕ) → rest ≡ drop i rows → rest ≡ row ∷ rest' → j ≡ i + 1 → rest' ≡ drop j rows
rest_next rows rest rest' row i j are is step = sym (ap (λ k. drop k rows) (sym (next_index i j step)) ∙ rest_dropped i rows row rest' (sym are ∙ is))

pub row_at_fault : (rows rest rest' : List (List ℕ)) (row : List ℕ) (i : ℕ) (l : Loading) (fault : StartFault) → rest ≡ drop i rows → rest ≡ row ∷ rest' → AreLoaded (take i rows) l → ((h : History) → IsLoading l h → IsRowRefused row (i + 1) h fault) → IsLoadFault rows fault
row_at_fault rows rest rest' row i l fault are is loaded refused = IsLoadFault-row rows i row l fault (rest_there i rows row rest' (sym are ∙ is)) loaded refused

take_short : (i : ℕ) (rows : List (List ℕ)) → drop i rows ≡ [] → take i rows ≡ rows
take_short zero [] none = refl
take_short zero (r ∷ rows) none = absurd (cc)
take_short (suc i) [] none = refl
take_short (suc i) (r ∷ rows) none = ap (λ rs. r ∷ rs) (take_short i rows none)

pub loaded_all : (rows rest : List (List ℕ)) (i : ℕ) (l : Loading) → rest ≡ drop i rows → rest ≡ [] → AreLoaded (take i rows) l → AreLoaded rows l
loaded_all rows rest i l are none loaded = subst (λ rs. AreLoaded rs l) (take_short i rows (sym are ∙ none)) loaded

pub loaded_first : (rows : List (List ℕ)) (l : Loading) → IsLoading l empty_history → AreLoaded (take 0 rows) l
loaded_first rows l is = AreLoaded-none l is

-- with an item less, the rest has one item less
pub count_next : (rows rest rest' : List (List ℕ)) (row : List ℕ) (i : ℕ) → rest ≡ row ∷ rest' → i + length rest ≡ length rows → (i + 1) + length rest' ≡ length rows
count_next rows rest rest' row i is count = let one = ap length is in omega (arith, one, count)

-- ---- the book

no_refusals : (es : List Entry) (n : ℕ) → n ≡ length es → refusals_in (drop n es) ≡ 0
no_refusals es n is =
    let none : drop n es ≡ [] = ap (λ k. drop k es) is ∙ drop_all es in
    ap refusals_in none

none_rose : (many faults : ℕ) → many ≡ 0 → RoseBy many faults faults
none_rose many faults none = omega (arith, none)

take_all : {A : Type 0} (xs : List A) → take (length xs) xs ≡ xs
take_all [] = refl
take_all (x ∷ xs) = ap (λ ys. x ∷ ys) (take_all xs)

-- a book that is opened now over the keeper that loaded its content
pub IsBook_new : (whole : History → Type 0) (known : Option Kept) (image : Kept → Type 0) (faults n greatest : ℕ) (h : History) → n ≡ length h.entries → greatest ≡ greatest_pass h.entries → whole h → KnowsHistory known h
    → IsBook whole known image faults known image faults n greatest h
IsBook_new whole known image faults n greatest h count most valid knows = record {
  valid = valid;
  always = valid_first whole h n count valid;
  kept = record { content = knows; left = λ ready. ready h valid knows };
  count = omega (arith, count);
  refusals = let none = no_refusals h.entries n count in omega (arith, none);
  rise = none_rose (refusals_in (drop n h.entries)) faults (no_refusals h.entries n count);
  greatest_is = most ∙ ap greatest_pass (sym (ap (λ k. take k h.entries) count ∙ take_all h.entries));
  passes = subst (AllByRecursion IsPassNumber) (sym (ap (λ k. drop k h.entries) count ∙ drop_all h.entries)) tt;
}

pub opened_all : (h : History) (n : ℕ) → n ≡ length h.entries → account_after h n ≡ h
opened_all h n count = account_after-all h n (omega (arith, count))

pub none_since : (h : History) (n : ℕ) → n ≡ length h.entries → drop n h.entries ≡ []
none_since h n count = ap (λ k. drop k h.entries) count ∙ drop_all h.entries

-- a book over the content that was loaded: its keeper is that which loaded it
pub opened_over : {K : Type 0} (kept : K → Option Kept) (k k' : K) (old : Option Kept) (content : Kept) (h : History) → k' ≡ k → IsContent (kept k) content → IsUnknownOr (content_loaded (Ok content) old) (kept k) → MakesHistory content h → IsOpened old (kept k') h
opened_over kept k k' old content h same is after makes =
    subst (λ z. IsOpened old (kept z) h) (sym same) (record { content = content; loaded = record { content_is = is; kept = after }; makes = makes })

-- why a book is not opened over a content that was loaded
pub fault_loaded : (whole : History → Type 0) (content : Kept) (old new : Option Kept) (before now : ℕ) (fault : StartFault) → IsContent new content → IsUnknownOr (content_loaded (Ok content) old) new → now ≡ before → IsContentFault whole content fault → IsStartFault whole old new before now fault
fault_loaded whole content old new before now KeeperFault is after same f = absurd f
fault_loaded whole content old new before now (Damaged row why) is after same f = (same, (content, record { content_is = is; kept = after }, f))
fault_loaded whole content old new before now NoMemory is after same f = same

-- a content that was loaded is as before
pub as_before : (content : Kept) (old new : Option Kept) → IsUnknownOr (content_loaded (Ok content) old) new → (k t : Kept) → old ≡ Some k → new ≡ Some t → t ≡ k
as_before content None new after k t told now = absurd (cc)
as_before content (Some s) new after k t told now = let e = after t now in cc

-- an error leaves what is known, or makes it unknown
pub as_unknown : (old new : Option Kept) → IsUnknownOr old new → (k t : Kept) → old ≡ Some k → new ≡ Some t → t ≡ k
as_unknown old new after k t told now = let e : old ≡ Some t = after t now in cc

-- ---- the account that rows make

pub loaded_same : {E : Type 0} (r : Result Ledger E) (account : Ledger) (loading : Loading) → loading ≡ Fitting account → IfOk r (λ a. a.history ≡ account.history) → IfOk r (λ a. (h : History) → IsLoading loading h → a.history ≡ h)
loaded_same (Ok a) account loading is same = λ h l. same ∙ subst (λ z. IsLoading z h) is l
loaded_same (Err e) account loading is same = tt

pub loaded_fault : {T : Type 0} (whole : History → Type 0) (last : ℕ) (r : Result T StartFault) (account : Ledger) (loading : Loading) → loading ≡ Fitting account → IfErr r (IsEndFault whole account.history last) → IfErr r (λ e. (h : History) → IsLoading loading h → IsEndFault whole h last e)
loaded_fault whole last (Ok a) account loading is fault = tt
loaded_fault whole last (Err e) account loading is fault = λ h l. subst (λ k. IsEndFault whole k last e) (subst (λ z. IsLoading z h) is l) fault

-- blobs past the limits are those of no valid account
pub overfull_fault : (whole : History → Type 0) → ((h : History) → whole h → AreBlobsFew (blobs_of h)) → (last : ℕ) (content : Held) (loading : Loading) → loading ≡ Overfull content → (h : History) → IsLoading loading h → IsEndFault whole h last (Damaged last NotWhole)
overfull_fault whole few last content loading is h l =
    let over = subst (λ z. IsLoading z h) is l in
    (refl, refl, λ valid. over.1 (few h valid))
