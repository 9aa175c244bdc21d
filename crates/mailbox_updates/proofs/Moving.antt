-- What the updates of a set put: mailboxes that are there, each of a valid form, within a mailbox
-- that is there, with the counts that it had.
use Rattle.std.proofs.Common.{◌≡◌, ◌≢◌, ℕ, ◌<◌, Bool, true, false, ◌||◌, ◌==◌, cond, eqb, List, [], ◌∷◌, ◌++◌, filter, length, map, Option, Some, None, is_some, unwrap_or, option_and_then, refl, sym, ap, ◌∙◌, subst, arith, ⊎_elim, eq-eqb, ne_eqb, bytes_eq, codes}
use Rattle.std.specs.Prelude.{⊤}
use Rattle.std.specs.List.{AllByRecursion, list_all, list_any}
use Rattle.std.specs.Map.{keys_of}
use Rattle.std.specs.Option.{ForSome}
use Rattle.std.proofs.lemmas.Bool.{cases_Bool, eqb-true, false≢true, true≢false}
use Rattle.std.proofs.lemmas.Option.{none-some, same_Some}
use Rattle.std.proofs.lemmas.Slice.Eq.{bytes_eq-Decides}
use Rattle.jm_json.specs.Find.{as_object, as_text, find}
use Rattle.jm_json.specs.Order.{put as put_member, put_all}
use Rattle.jm_json.specs.Patch.{Patched, bad_patch, patched, patching}
use Rattle.jm_json.specs.Tree.{Tree}
use Rattle.jm_json.specs.declared.invocation.Created.{Created}
use Rattle.mail_records.specs.Contents.{Content, mailbox_at, mailbox_number}
use Rattle.mail_records.specs.Edits.{AllFit, after_edit, after_edits}
use Rattle.mail_records.specs.Tables.{IsTable, lookup}
use Rattle.mail_records.specs.declared.edits.Edit.{Edit}
use Rattle.mail_records.specs.declared.edits.Edit.TheVariants.{PutMailbox, DropMailbox, PutEmail, DropEmail, PutThread, DropThread}
use Rattle.mail_records.specs.declared.records.Mailbox.{Mailbox}
use Rattle.mail_records.proofs.Tables.{All-put, lookup-put_other, lookup-put_same}
use Rattle.mail_counts.specs.Counts.{SameCounts}
use Rattle.mail_counts.specs.CountsFlag.{AreCountsFlagsRight, ChangesOnlyCounts, SameButCounts}
use Rattle.mail_counts.specs.Derived.{AllKeepCounts, LeavesEmails}
use Rattle.mail_counts.specs.Tidy.{IsThere, IsWellFormed, same_parent}
use Rattle.mail_counts.specs.Views.{is_id_of, mailbox_members, mailbox_named}
use Rattle.plan_promises.specs.Planned.{AllKeepMessages}
use Rattle.set_parts.specs.Arguments.{Update}
use Rattle.set_parts.specs.CreationIds.{identifier}
use Rattle.set_parts.specs.Steps.{is_destroyed}
use Rattle.set_parts.specs.declared.set_errors.SetError.{SetError}
use Rattle.set_parts.specs.declared.set_errors.SetError.TheVariants.{WillDestroy}
use Rattle.set_parts.specs.declared.steps.Step.{Step}
use Rattle.set_parts.specs.declared.steps.Step.TheVariants.{Done, Rejected}
use Rattle.mailbox_creates.specs.Creates.{bad_members}
use Rattle.mailbox_creates.specs.Properties.{mailbox_meant, sent_name, sent_properties}
use Rattle.mailbox_updates.specs.Updates.{bad_after, broken_names, changed_by, changed_to, changed_unless, deciding, done_unless, edits_to, is_removed, keeps_rules, keeps_rules_at, is_unchanged, mailbox_after, mailbox_tree, same_role_or_none, same_truth, update_as, update_by, value_faults, with_properties}
use Rattle.mailbox_creates.specs.Creates.{property}
use Rattle.mailbox_updates.specs.declared.patches.Changed.{Changed}
use Rattle.mailbox_updates.specs.declared.patches.Changed.TheVariants.{Invalid, Valid}
use Rattle.mailbox_updates.proofs.Chains.{ParentsThere}
use Rattle.mailbox_updates.proofs.Present.{above, both}
use Rattle.mailbox_creates.proofs.Promising.{given_good, name_form, named_if_good, not_false, parent_good, put_some, role_good, some_there, sort_order_good}

-- ---- what a patch makes of a mailbox

abbrev Pairs : Type 0
Pairs = List (List ℕ × Tree)

abbrev mailbox_or : Mailbox → Changed → Mailbox
mailbox_or m (Invalid e) = m
mailbox_or m (Valid n) = n

invalid_valid : (e : SetError) (n : Mailbox) → Invalid e ≢ Valid n
invalid_valid e n is = cc

valid_of : (ns : List (List ℕ)) (m n : Mailbox) → changed_unless ns m ≡ Valid n → (ns ≡ []) × (m ≡ n)
valid_of [] m n e = (refl, ap (mailbox_or m) e)
valid_of (k ∷ ns) m n e = absurd (invalid_valid _ n e)

no_keys : (ms : Pairs) → keys_of ms ≡ [] → ms ≡ []
no_keys [] e = refl
no_keys (m ∷ ms) e = absurd (some_keys m.0 (keys_of ms) e)
  where
    some_keys : (k : List ℕ) (ks : List (List ℕ)) → k ∷ ks ≢ []
    some_keys k ks is = cc

none_put : (xs ms : Pairs) → put_all xs ms ≡ [] → ms ≡ []
none_put [] ms e = e
none_put (x ∷ xs) ms e = absurd (put_some x.0 x.1 ms (none_put xs (put_member x.0 x.1 ms) e))

-- the mailbox that a valid patch makes has a valid form, and its parent is there
pub record IsGood (c : Content) (old item : Mailbox) : Type 0 where
  pub number : item.number ≡ old.number
  pub counts : SameCounts old item
  pub form : IsWellFormed item
  pub parent : ForSome item.parent (IsThere c)

good_properties : (c : Content) (made : List Created) (m : Mailbox) (given after : Pairs) → bad_members (value_faults (sent_properties c made after)) given after ≡ [] → IsGood c m (with_properties (sent_properties c made after) m)
good_properties c made m given after none =
    let f = value_faults (sent_properties c made after) in
    let h = some_there (find (codes "name") after) (named_if_good f given after none) in
    let name : is_some (sent_name after) ≡ true = not_false (is_some (sent_name after)) (given_good f given after (codes "name") h.0 none h.1) in
    record {
      number = refl;
      counts = record { total_emails = refl; unread_emails = refl; total_threads = refl; unread_threads = refl };
      form = record {
        name = name_form (option_and_then as_text (find (codes "name") after)) name;
        role = λ r e. role_good (find (codes "role") after) r e;
        sort_order = sort_order_good (find (codes "sortOrder") after);
      };
      parent = λ n e. parent_good c made (find (codes "parentId") after) n e;
    }

good_changed : (c : Content) (made : List Created) (m n : Mailbox) (after : Pairs) → changed_to m after (sent_properties c made after) ≡ Valid n → IsGood c m n
good_changed c made m n after e =
    let a = sent_properties c made after in
    let given = mailbox_members false m in
    let v = valid_of (keys_of (bad_after (value_faults a) given after)) (with_properties a m) n e in
    let none = none_put (map property (filter (is_removed after) given)) (bad_members (value_faults a) given after) (no_keys (bad_after (value_faults a) given after) v.0) in
    subst (IsGood c m) v.1 (good_properties c made m given after none)

good_patched : (c : Content) (made : List Created) (m n : Mailbox) (p : Patched) → changed_by c made m p ≡ Valid n → IsGood c m n
good_patched c made m n (bad_patch path) e = absurd (invalid_valid _ n e)
good_patched c made m n (patched t) e = good_changed c made m n (unwrap_or (as_object t) []) e

pub good_after : (c : Content) (made : List Created) (m n : Mailbox) (patch : Tree) → mailbox_after c made m patch ≡ Valid n → IsGood c m n
good_after c made m n patch e = good_patched c made m n (patching (mailbox_tree m) patch) e

-- ---- a put of a mailbox that is there

-- the put of a mailbox in the place of another one with its counts
pub record IsMove (c : Content) (item : Mailbox) : Type 0 where
  pub old : Mailbox
  pub at : mailbox_at c item.number ≡ Some old
  pub changes : is_unchanged old item ≡ false
  pub good : IsGood c old item

abbrev pub Moves : Content → Edit → Type 0
Moves c (PutMailbox item was counts) = (was ≡ true) × (counts ≡ false) × IsMove c item
Moves c (DropMailbox number) = ⊥
Moves c (PutEmail item was) = ⊥
Moves c (DropEmail number thread) = ⊥
Moves c (PutThread item was) = ⊥
Moves c (DropThread number) = ⊥

abbrev pub AreMoves : Content → List Edit → Type 0
AreMoves c [] = ⊤
AreMoves c (e ∷ es) = Moves c e × AreMoves (after_edit c e) es

pub moves_append : (es more : List Edit) (c : Content) → AreMoves c es → AreMoves (after_edits c es) more → AreMoves c (es ++ more)
moves_append [] more c all rest = rest
moves_append (e ∷ es) more c all rest = (all.0, moves_append es more (after_edit c e) all.1 rest)

-- what holds of each such put holds of all of them
pub by_moves : (P : Content → List Edit → Type 0) → ((c : Content) → P c []) → ((c : Content) (item : Mailbox) (es : List Edit) → IsMove c item → P (after_edit c (PutMailbox item true false)) es → P c (PutMailbox item true false ∷ es))
    → (es : List Edit) (c : Content) → AreMoves c es → P c es
by_moves P none more [] c all = none c
by_moves P none more (PutMailbox item true false ∷ es) c all = more c item es all.0.2 (by_moves P none more es (after_edit c (PutMailbox item true false)) all.1)
by_moves P none more (PutMailbox item true true ∷ es) c all = absurd (true≢false all.0.1)
by_moves P none more (PutMailbox item false counts ∷ es) c all = absurd (false≢true all.0.0)
by_moves P none more (DropMailbox number ∷ es) c all = absurd all.0
by_moves P none more (PutEmail item was ∷ es) c all = absurd all.0
by_moves P none more (DropEmail number thread ∷ es) c all = absurd all.0
by_moves P none more (PutThread item was ∷ es) c all = absurd all.0
by_moves P none more (DropThread number ∷ es) c all = absurd all.0

move_there : (c : Content) (item : Mailbox) → IsMove c item → is_some (mailbox_at c item.number) ≡ true
move_there c item move = ap is_some move.at

pub moves_fit : (es : List Edit) (c : Content) → AreMoves c es → AllFit c es
moves_fit = by_moves AllFit (λ c. tt) (λ c item es move rest. ((sym (move_there c item move), λ no. absurd (true≢false no)), rest))

pub moves_keep : (es : List Edit) (c : Content) → AreMoves c es → AllKeepMessages c es
moves_keep = by_moves AllKeepMessages (λ c. tt) (λ c item es move rest. (tt, rest))

pub moves_count : (es : List Edit) (c : Content) → AreMoves c es → AllKeepCounts c es
moves_count =
    by_moves AllKeepCounts (λ c. tt)
    (λ c item es move rest.
    ((λ no. absurd (true≢false no), λ m is. subst (λ (x : Mailbox). SameCounts x item) (same_Some move.old m (sym move.at ∙ is)) move.good.counts), rest))

abbrev Leave : Content → List Edit → Type 0
Leave c es = AllByRecursion LeavesEmails es

pub moves_leave : (es : List Edit) (c : Content) → AreMoves c es → AllByRecursion LeavesEmails es
moves_leave = by_moves Leave (λ c. tt) (λ c item es move rest. (refl, rest))

-- ---- flags

parent_itself : (p : Option ℕ) → same_parent p p ≡ true
parent_itself None = refl
parent_itself (Some n) = eq-eqb n n refl

role_itself : (r : Option (List ℕ)) → same_role_or_none r r ≡ true
role_itself None = refl
role_itself (Some s) = (bytes_eq-Decides s s).1 refl

truth_itself : (b : Bool) → same_truth b b ≡ true
truth_itself true = refl
truth_itself false = refl

same_unchanged : (m n : Mailbox) → SameButCounts m n → is_unchanged m n ≡ true
same_unchanged m n same =
    let name : bytes_eq m.name n.name ≡ true = (bytes_eq-Decides m.name n.name).1 same.name in
    let parent : same_parent m.parent n.parent ≡ true = subst (λ (p : Option ℕ). same_parent m.parent p ≡ true) same.parent (parent_itself m.parent) in
    let role : same_role_or_none m.role n.role ≡ true = subst (λ (r : Option (List ℕ)). same_role_or_none m.role r ≡ true) same.role (role_itself m.role) in
    let order : eqb m.sort_order n.sort_order ≡ true = eq-eqb m.sort_order n.sort_order same.sort_order in
    let truth : same_truth m.subscribed n.subscribed ≡ true = subst (λ (b : Bool). same_truth m.subscribed b ≡ true) same.subscribed (truth_itself m.subscribed) in
    rw (name, parent, role, order, truth) refl

pub moves_flag : (es : List Edit) (c : Content) → AreMoves c es → AreCountsFlagsRight c es
moves_flag =
    by_moves AreCountsFlagsRight (λ c. tt)
    (λ c item es move rest. (
      (
        λ set. absurd (false≢true set),
        λ change. absurd (true≢false (sym (same_unchanged move.old item (subst (λ (o : Option Mailbox). ChangesOnlyCounts o item) move.at change)) ∙ move.changes)),
      ),
      rest,
    ))

-- ---- what is there afterwards

there_put : (c : Content) (item : Mailbox) (n : ℕ) → is_some (mailbox_at c item.number) ≡ true → is_some (mailbox_at (after_edit c (PutMailbox item true false)) n) ≡ is_some (mailbox_at c n)
there_put c item n there =
    ⊎_elim
    (λ (same : eqb item.number n ≡ true).
    let is : item.number ≡ n = eqb-true item.number n same in
    ap is_some (lookup-put_same mailbox_number item n is c.mailboxes) ∙ sym (subst (λ (k : ℕ). is_some (mailbox_at c k) ≡ true) is there))
    (λ (other : eqb item.number n ≡ false). ap is_some (lookup-put_other mailbox_number item n other c.mailboxes))
    (cases_Bool (eqb item.number n))

abbrev SameThere : Content → List Edit → Type 0
SameThere c es = (n : ℕ) → is_some (mailbox_at (after_edits c es) n) ≡ is_some (mailbox_at c n)

pub moves_there : (es : List Edit) (c : Content) → AreMoves c es → (n : ℕ) → is_some (mailbox_at (after_edits c es) n) ≡ is_some (mailbox_at c n)
moves_there = by_moves SameThere (λ c n. refl) (λ c item es move rest n. rest n ∙ there_put c item n (move_there c item move))

abbrev KeepForms : Content → List Edit → Type 0
KeepForms c es = AllByRecursion IsWellFormed c.mailboxes → AllByRecursion IsWellFormed (after_edits c es).mailboxes

pub moves_form : (es : List Edit) (c : Content) → AreMoves c es → AllByRecursion IsWellFormed c.mailboxes → AllByRecursion IsWellFormed (after_edits c es).mailboxes
moves_form = by_moves KeepForms (λ c all. all) (λ c item es move rest all. rest (All-put IsWellFormed mailbox_number item move.good.form c.mailboxes all))

abbrev HasParent : Content → Mailbox → Type 0
HasParent c x = ForSome x.parent (IsThere c)

parents_put : (c d : Content) (rows : List Mailbox) → ((n : ℕ) → IsThere c n → IsThere d n) → AllByRecursion (HasParent c) rows → AllByRecursion (HasParent d) rows
parents_put c d [] there all = tt
parents_put c d (x ∷ rows) there all = (λ p e. there p (all.0 p e), parents_put c d rows there all.1)

abbrev KeepParents : Content → List Edit → Type 0
KeepParents c es = ParentsThere c → ParentsThere (after_edits c es)

pub moves_parent : (es : List Edit) (c : Content) → AreMoves c es → ParentsThere c → ParentsThere (after_edits c es)
moves_parent =
    by_moves KeepParents (λ c all. all)
    (λ c item es move rest all.
    let d = after_edit c (PutMailbox item true false) in
    let there : (n : ℕ) → IsThere c n → IsThere d n = λ n is. there_put c item n (move_there c item move) ∙ is in
    rest (All-put (HasParent d) mailbox_number item (λ p e. there p (move.good.parent p e)) c.mailboxes (parents_put c d c.mailboxes there all)))

-- the edit puts the mailbox of this number
abbrev pub puts : ℕ → Edit → Bool
puts n (PutMailbox item was counts) = item.number == n
puts n (DropMailbox number) = false
puts n (PutEmail item was) = false
puts n (DropEmail number thread) = false
puts n (PutThread item was) = false
puts n (DropThread number) = false

or_first : (a b : Bool) → (a || b) ≡ false → a ≡ false
or_first true b e = e
or_first false b e = refl

or_second : (a b : Bool) → (a || b) ≡ false → b ≡ false
or_second true b e = absurd (true≢false e)
or_second false b e = e

abbrev LeaveOthers : Content → List Edit → Type 0
LeaveOthers c es = (n : ℕ) → list_any (puts n) es ≡ false → mailbox_at (after_edits c es) n ≡ mailbox_at c n

-- other mailboxes are as they were
pub moves_others : (es : List Edit) (c : Content) → AreMoves c es → (n : ℕ) → list_any (puts n) es ≡ false → mailbox_at (after_edits c es) n ≡ mailbox_at c n
moves_others =
    by_moves LeaveOthers (λ c n none. refl)
    (λ c item es move rest n none.
    rest n (or_second (eqb item.number n) (list_any (puts n) es) none)
    ∙ lookup-put_other mailbox_number item n (or_first (eqb item.number n) (list_any (puts n) es) none) c.mailboxes)

-- ---- the edits of an update

abbrev pub StepMoves : Content → Step → Type 0
StepMoves c (Rejected error) = ⊤
StepMoves c (Done es) = AreMoves c es

named_row : (s : List ℕ) (rows : List Mailbox) (m : Mailbox) → IsTable mailbox_number rows → mailbox_named rows s ≡ Some m → lookup mailbox_number m.number rows ≡ Some m
named_row s [] m table e = absurd (none-some m e)
named_row s (x ∷ rows) m table e =
    ⊎_elim
    (λ (here : is_id_of s x ≡ true).
    let is : x ≡ m = same_Some x m (subst (λ (b : Bool). cond b (Some x) (mailbox_named rows s) ≡ Some m) here e) in
    ap (λ (b : Bool). cond b (Some x) (lookup mailbox_number m.number rows)) (eq-eqb x.number m.number (ap mailbox_number is)) ∙ ap (λ (y : Mailbox). Some y) is)
    (λ (later : is_id_of s x ≡ false).
    let rest = named_row s rows m table.1 (subst (λ (b : Bool). cond b (Some x) (mailbox_named rows s) ≡ Some m) later e) in
    let less : x.number < m.number = above mailbox_number x.number m.number rows m table.0 rest in
    let other : eqb x.number m.number ≡ false = ne_eqb x.number m.number (λ (same : x.number ≡ m.number). omega (arith, same, less)) in
    ap (λ (b : Bool). cond b (Some x) (lookup mailbox_number m.number rows)) other ∙ rest)
    (cases_Bool (is_id_of s x))

pub meant_at : (made : List Created) (c : Content) (s : List ℕ) (m : Mailbox) → IsTable mailbox_number c.mailboxes → mailbox_meant made c s ≡ Some m → mailbox_at c m.number ≡ Some m
meant_at made c s m table e = by_id (identifier made s) e
  where
    by_id : (o : Option (List ℕ)) → option_and_then (mailbox_named c.mailboxes) o ≡ Some m → mailbox_at c m.number ≡ Some m
    by_id None is = absurd (none-some m is)
    by_id (Some id) is = named_row id c.mailboxes m table is

move_of : (c : Content) (m n : Mailbox) → mailbox_at c m.number ≡ Some m → is_unchanged m n ≡ false → IsGood c m n → IsMove c n
move_of c m n at changes good = record {
  old = m;
  at = ap (λ (k : ℕ). lookup mailbox_number k c.mailboxes) good.number ∙ at;
  changes = changes;
  good = good;
}

edits_move : (c : Content) (m n : Mailbox) → mailbox_at c m.number ≡ Some m → IsGood c m n → AreMoves c (edits_to m n)
edits_move c m n at good =
    ⊎_elim
    (λ (same : is_unchanged m n ≡ true). subst (λ (b : Bool). AreMoves c (cond b [] (PutMailbox n true false ∷ []))) (sym same) tt)
    (λ (other : is_unchanged m n ≡ false). subst (λ (b : Bool). AreMoves c (cond b [] (PutMailbox n true false ∷ []))) (sym other) ((refl, refl, move_of c m n at other good), tt))
    (cases_Bool (is_unchanged m n))

unless_moves : (c : Content) (ns : List (List ℕ)) (es : List Edit) → AreMoves c es → StepMoves c (done_unless ns es)
unless_moves c [] es moves = moves
unless_moves c (n ∷ ns) es moves = tt

decided_moves : (alone : Bool) (c : Content) (m : Mailbox) (x : Changed) → mailbox_at c m.number ≡ Some m → ((n : Mailbox) → x ≡ Valid n → IsGood c m n) → StepMoves c (deciding alone c m x)
decided_moves true c m (Invalid e) at good = tt
decided_moves false c m (Invalid e) at good = tt
decided_moves false c m (Valid n) at good = edits_move c m n at (good n refl)
decided_moves true c m (Valid n) at good =
    ⊎_elim
    (λ (same : is_unchanged m n ≡ true).
    subst (λ (b : Bool). StepMoves c (cond b (Done []) (done_unless (broken_names (after_edits c (edits_to m n)) n) (edits_to m n)))) (sym same) tt)
    (λ (other : is_unchanged m n ≡ false).
    subst (λ (b : Bool). StepMoves c (cond b (Done []) (done_unless (broken_names (after_edits c (edits_to m n)) n) (edits_to m n)))) (sym other)
    (unless_moves c (broken_names (after_edits c (edits_to m n)) n) (edits_to m n) (edits_move c m n at (good n refl))))
    (cases_Bool (is_unchanged m n))

pub update_moves : (alone : Bool) (made : List Created) (destroys : List (List ℕ)) (c : Content) (x : Update) → IsTable mailbox_number c.mailboxes → StepMoves c (update_as alone made destroys c x)
update_moves alone made destroys c x table = by_meant (mailbox_meant made c x.id) refl
  where
    by_destroy : (m : Mailbox) → mailbox_at c m.number ≡ Some m → (b : Bool) → StepMoves c (cond b (Rejected WillDestroy) (deciding alone c m (mailbox_after c made m x.patch)))
    by_destroy m at true = tt
    by_destroy m at false = decided_moves alone c m (mailbox_after c made m x.patch) at (λ n e. good_after c made m n x.patch e)

    by_meant : (o : Option Mailbox) → mailbox_meant made c x.id ≡ o → StepMoves c (update_by (deciding alone) made destroys c x o)
    by_meant None e = tt
    by_meant (Some m) e = by_destroy m (meant_at made c x.id m table e) (is_destroyed made destroys x.id)

-- ---- an update that is tried by itself breaks no rule

abbrev pub StepKeeps : Content → Step → Type 0
StepKeeps c (Rejected error) = ⊤
StepKeeps c (Done es) = list_all (keeps_rules (after_edits c es)) es ≡ true

unless_keeps : (c : Content) (n : Mailbox) (ns : List (List ℕ)) → broken_names (after_edits c (PutMailbox n true false ∷ [])) n ≡ ns → StepKeeps c (done_unless ns (PutMailbox n true false ∷ []))
unless_keeps c n [] is =
    let d = after_edit c (PutMailbox n true false) in
    both (keeps_rules_at d (mailbox_at d n.number)) true
    (ap (keeps_rules_at d) (lookup-put_same mailbox_number n n.number refl c.mailboxes) ∙ ap (λ (ns : List (List ℕ)). length ns == 0) is) refl
unless_keeps c n (k ∷ ns) is = tt

decided_keeps : (c : Content) (m : Mailbox) (x : Changed) → StepKeeps c (deciding true c m x)
decided_keeps c m (Invalid e) = tt
decided_keeps c m (Valid n) =
    ⊎_elim
    (λ (same : is_unchanged m n ≡ true). rw same refl)
    (λ (other : is_unchanged m n ≡ false). rw other (unless_keeps c n (broken_names (after_edits c (PutMailbox n true false ∷ [])) n) refl))
    (cases_Bool (is_unchanged m n))

pub update_keeps : (made : List Created) (destroys : List (List ℕ)) (c : Content) (x : Update) → StepKeeps c (update_as true made destroys c x)
update_keeps made destroys c x = by_meant (mailbox_meant made c x.id)
  where
    by_destroy : (m : Mailbox) (b : Bool) → StepKeeps c (cond b (Rejected WillDestroy) (deciding true c m (mailbox_after c made m x.patch)))
    by_destroy m true = tt
    by_destroy m false = decided_keeps c m (mailbox_after c made m x.patch)

    by_meant : (o : Option Mailbox) → StepKeeps c (update_by (deciding true) made destroys c x o)
    by_meant None = tt
    by_meant (Some m) = by_destroy m (is_destroyed made destroys x.id)
