-- What a keeper keeps of a valid account opens again as that account, and a keeper that a book hands
-- back is ready.
use Rattle.std.proofs.Common.{◌≡◌, ◌↔◌, ◌⊎◌, inl, inr, ⊎_elim, ℕ, zero, suc, not, List, [], ◌∷◌, ◌++◌, take, filter, map, Option, Some, None, slice_get, refl, sym, ap, ◌∙◌, subst, append_assoc}
use Rattle.keep_port.specs.declared.kept.Kept.{Kept}
use Rattle.mail_records.specs.Contents.{Content, empty_content}
use Rattle.mail_records.specs.Edits.{AllFit, after_edits}
use Rattle.mail_records.specs.Histories.{History, Entry, Committed, Refused, IsSound, account_after, commits_in, content_of, edits_of, empty_history, grown, is_refused}
use Rattle.mail_records.specs.declared.edits.Commit.{Commit}
use Rattle.mail_records.specs.declared.edits.Edit.{Edit}
use Rattle.record_codec.specs.Offsets.{IsEncodingOf}
use Rattle.record_codec.proofs.Again.{one_commit}
use Rattle.account_book.specs.Accounts.{without_refusals}
use Rattle.account_book.specs.Keeping.{AreEncodings, IsBaseOf, IsOneMore, IsReady, KeepsHistory, KnowsHistory, LeavesHistory}
use Rattle.account_book.specs.Opening.{AreDamaged, IsDamaged, IsFirstFault, IsNotWhole, IsRowFault, MakesHistory, history_of_commits}
use Rattle.account_book.specs.declared.faults.Reason.{Reason}
use Rattle.account_book.specs.declared.faults.Reason.TheVariants.{NotACommit, DoesNotFit, NotWhole}
use Rattle.account_book.proofs.Rows.{AreEncodings-once}
use Rattle.account_book.proofs.KeptHistories.{commits_in-grown}

-- ---- a history that began with nothing is that of its commits, but for refusals

kept_commits : (es : List Entry) → filter (λ (e : Entry). not (is_refused e)) es ≡ map Committed (commits_in es)
kept_commits [] = refl
kept_commits (Committed c ∷ es) = ap (λ (xs : List Entry). Committed c ∷ xs) (kept_commits es)
kept_commits (Refused s ∷ es) = kept_commits es

pub without_is : (h : History) → account_after h 0 ≡ empty_history → without_refusals h ≡ history_of_commits (commits_in h.entries)
without_is h nothing =
    ap (λ (k : History). record k { entries = filter (λ (e : Entry). not (is_refused e)) h.entries }) nothing
    ∙ ap (λ (es : List Entry). record empty_history { entries = es }) (kept_commits h.entries)

began : (base : Option (List ℕ)) (h : History) → IsBaseOf base h → account_after h 0 ≡ empty_history
began None h is = is
began (Some b) h is = absurd is

base_at : (base : Option (List ℕ)) (g h : History) → account_after h 0 ≡ empty_history → IsBaseOf base g → IsBaseOf base h
base_at None g h nothing is = nothing
base_at (Some b) g h nothing is = absurd is

-- ---- rows up to one of them

-- the commits of rows up to the row at an index, that of the row, and those after it
record Split (rows : List (List ℕ)) (cs : List Commit) (row : ℕ) (bytes : List ℕ) : Type 0 where
  front : List Commit
  here : Commit
  rest : List Commit
  is : cs ≡ front ++ here ∷ rest
  before : AreEncodings (take row rows) front
  one : IsEncodingOf bytes here

split : (rows : List (List ℕ)) (cs : List Commit) (row : ℕ) (bytes : List ℕ) → AreEncodings rows cs → slice_get rows row ≡ Some bytes → Split rows cs row bytes
split [] cs zero bytes all there = absurd (cc)
split [] cs (suc i) bytes all there = absurd (cc)
split (r ∷ rs) [] row bytes all there = absurd all
split (r ∷ rs) (c ∷ cs) zero bytes all there =
    let same : r ≡ bytes = cc in
    record { front = []; here = c; rest = cs; is = refl; before = tt; one = subst (λ b. IsEncodingOf b c) same all.0 }
split (r ∷ rs) (c ∷ cs) (suc i) bytes all there =
    let s = split rs cs i bytes all.1 there in
    record { front = c ∷ s.front; here = s.here; rest = s.rest; is = ap (λ (zs : List Commit). c ∷ zs) s.is; before = (all.0, s.before); one = s.one }

edits_split : (front : List Commit) (c : Commit) (rest : List Commit) → edits_of (history_of_commits (front ++ c ∷ rest)) ≡ edits_of (history_of_commits front) ++ (c.edits ++ edits_of (history_of_commits rest))
edits_split [] c rest = refl
edits_split (d ∷ ds) c rest =
    ap (λ (es : List Edit). d.edits ++ es) (edits_split ds c rest)
    ∙ sym (append_assoc d.edits (edits_of (history_of_commits ds)) (c.edits ++ edits_of (history_of_commits rest)))

AllFit-front : (es more : List Edit) (c : Content) → AllFit c (es ++ more) → AllFit c es
AllFit-front [] more c fit = tt
AllFit-front (e ∷ es) more c fit = (fit.0, AllFit-front es more _ fit.1)

AllFit-rest : (es more : List Edit) (c : Content) → AllFit c (es ++ more) → AllFit (after_edits c es) more
AllFit-rest [] more c fit = fit
AllFit-rest (e ∷ es) more c fit = AllFit-rest es more _ fit.1

-- each commit fits those before it, if all do
fits_there : (cs front : List Commit) (c : Commit) (rest : List Commit) → cs ≡ front ++ c ∷ rest → AllFit empty_content (edits_of (history_of_commits cs)) → AllFit (content_of (history_of_commits front)) c.edits
fits_there cs front c rest is fit =
    let all : AllFit empty_content (edits_of (history_of_commits front) ++ (c.edits ++ edits_of (history_of_commits rest))) =
    subst (AllFit empty_content) (ap (λ zs. edits_of (history_of_commits zs)) is ∙ edits_split front c rest) fit in
    AllFit-front c.edits (edits_of (history_of_commits rest)) (content_of (history_of_commits front)) (AllFit-rest (edits_of (history_of_commits front)) (c.edits ++ edits_of (history_of_commits rest)) empty_content all)

no_row_fault : (bytes : List ℕ) (front : List Commit) (c : Commit) (why : Reason) → IsEncodingOf bytes c → AllFit (content_of (history_of_commits front)) c.edits → IsRowFault bytes (history_of_commits front) why → ⊥
no_row_fault bytes front c (NotACommit place) one fit fault = fault.is_none c one
no_row_fault bytes front c DoesNotFit one fit fault =
    fault.2 (subst (λ (d : Commit). AllFit (content_of (history_of_commits front)) d.edits) (one_commit bytes c fault.0 one fault.1) fit)
no_row_fault bytes front c NotWhole one fit fault = fault

-- rows of commits that fit are not at fault
no_first_fault : (rows : List (List ℕ)) (cs : List Commit) (row : ℕ) (why : Reason) → AreEncodings rows cs → AllFit empty_content (edits_of (history_of_commits cs)) → IsFirstFault rows row why → ⊥
no_first_fault rows cs row why all fit first =
    let s = split rows cs first.index first.bytes all first.there in
    let same : first.commits ≡ s.front = AreEncodings-once (take first.index rows) first.commits s.front first.before.encoded s.before in
    no_row_fault first.bytes s.front s.here why s.one (fits_there cs s.front s.here s.rest s.is fit)
    (subst (λ ds. IsRowFault first.bytes (history_of_commits ds) why) same first.fault)

module _ (whole : History → Type 0) (ignores : (h : History) → whole (without_refusals h) ↔ whole h) where
  whole_commits : (h : History) → account_after h 0 ≡ empty_history → whole h → whole (history_of_commits (commits_in h.entries))
  whole_commits h nothing w = subst whole (without_is h nothing) ((ignores h).1 w)

  -- of the same commits over nothing, both histories are valid or none
  whole_same_commits : (g h : History) → account_after g 0 ≡ empty_history → account_after h 0 ≡ empty_history → commits_in g.entries ≡ commits_in h.entries → whole g → whole h
  whole_same_commits g h nothing nothing' same w =
      (ignores h).0 (subst whole (ap history_of_commits same ∙ sym (without_is h nothing')) (whole_commits g nothing w))

  keeps_same : (left : Kept) (g h : History) → account_after h 0 ≡ empty_history → commits_in g.entries ≡ commits_in h.entries → KeepsHistory left g → KeepsHistory left h
  keeps_same left g h nothing same s = record { base = base_at left.base g h nothing s.base; rows = subst (AreEncodings left.rows) same s.rows }

  same_more : (g h : History) (c : Commit) → commits_in g.entries ≡ commits_in h.entries → commits_in (grown g (Committed c)).entries ≡ commits_in (grown h (Committed c)).entries
  same_more g h c same = commits_in-grown g (Committed c) ∙ ap (λ (cs : List Commit). cs ++ c ∷ []) same ∙ sym (commits_in-grown h (Committed c))

  one_more_same : (left : Kept) (g h : History) → account_after g 0 ≡ empty_history → account_after h 0 ≡ empty_history → commits_in g.entries ≡ commits_in h.entries → IsOneMore whole left g → IsOneMore whole left h
  one_more_same left g h nothing nothing' same m = record {
    commit = m.commit;
    valid = whole_same_commits (grown g (Committed m.commit)) (grown h (Committed m.commit)) nothing nothing' (same_more g h m.commit same) m.valid;
    keeps = keeps_same left (grown g (Committed m.commit)) (grown h (Committed m.commit)) nothing' (same_more g h m.commit same) m.keeps;
  }

  -- a keeper that knows its content, and that a book of this history hands back
  pub ready_again : (known : Option Kept) (image : Kept → Type 0) (g : History) → KnowsHistory known g → LeavesHistory whole image g → (k : Kept) → known ≡ Some k → IsReady whole known image
  ready_again known image g knows leaves k told h w stands left i =
      let was = knows k told in
      let here = stands k told in
      let nothing = began k.base g was.base in
      let nothing' = began k.base h here.base in
      let same : commits_in g.entries ≡ commits_in h.entries = AreEncodings-once k.rows _ _ was.rows here.rows in
      ⊎_elim (λ s. inl (keeps_same left g h nothing' same s)) (λ m. inr (one_more_same left g h nothing nothing' same m)) (leaves left i)

  undamaged : (sound : (h : History) → whole h → IsSound h) (base : Option (List ℕ)) (rows : List (List ℕ)) (h : History) (row : ℕ) (why : Reason) → whole h → IsBaseOf base h → AreEncodings rows (commits_in h.entries) → AreDamaged whole base rows row why → ⊥
  undamaged sound (Some b) rows h row why w is all damaged = absurd is
  undamaged sound None rows h row why w nothing all damaged =
      let cs = commits_in h.entries in
      let valid = whole_commits h nothing w in
      ⊎_elim
      (λ (first : IsFirstFault rows row why). no_first_fault rows cs row why all (sound (history_of_commits cs) valid).fits first)
      (λ (bad : IsNotWhole whole rows row why). bad.invalid (subst (λ ds. whole (history_of_commits ds)) (AreEncodings-once rows cs bad.commits all bad.all.encoded) valid))
      damaged

  -- what a valid account is kept as is not damaged
  not_damaged : (sound : (h : History) → whole h → IsSound h) (k : Kept) (h : History) (row : ℕ) (why : Reason) → whole h → KeepsHistory k h → ¬ IsDamaged whole k row why
  not_damaged sound k h row why w stands damaged = undamaged sound k.base k.rows h row why w stands.base stands.rows damaged

  -- it isn't with one commit more, either
  pub left_undamaged : (sound : (h : History) → whole h → IsSound h) (k : Kept) (h : History) (row : ℕ) (why : Reason) → whole h → KeepsHistory k h ⊎ IsOneMore whole k h → ¬ IsDamaged whole k row why
  left_undamaged sound k h row why w left damaged =
      ⊎_elim
      (λ (s : KeepsHistory k h). not_damaged sound k h row why w s damaged)
      (λ (m : IsOneMore whole k h). not_damaged sound k (grown h (Committed m.commit)) row why m.valid m.keeps damaged)
      left

-- what is opened over it is the account, without its refusals
pub opened_again : (k : Kept) (h g : History) → KeepsHistory k h → MakesHistory k g → g ≡ without_refusals h
opened_again k h g stands makes =
    makes.is
    ∙ ap history_of_commits (AreEncodings-once k.rows makes.commits (commits_in h.entries) makes.taken.encoded stands.rows)
    ∙ sym (without_is h (began k.base h stands.base))
