-- What the queries of the keeper show under the schema of the format.
use Rattle.std.proofs.Common.{◌≡◌, ◌⊎◌, inl, inr, ℕ, List, [], map, Option, Some, None, Result, Ok, Err, IfOk, IfErr, OnOk, OnErr, IsTrue, IsPermutation, sym, ap, subst, ◌∙◌}
use Rattle.sqlite.specs.Order.{Row}
use Rattle.sqlite.specs.Clock.{timed}
use Rattle.sqlite.specs.declared.error.Error.{Error}
use Rattle.sqlite_resolve.specs.declared.compiled.Compiled.{Compiled}
use Rattle.sqlite.specs.Listing.{understood}
use Rattle.sqlite_schema.specs.declared.command.Returning.{Returning}
use Rattle.sqlite.specs.State.{State, IsUnchanged, IsNotRun, Shown, ShowsRows, FailsToQuery, FailsToShow, RunsCommand, IsTooLate, KeepsCommit}
use Rattle.sqlite.proofs.Callers.{IsPlain, reads_as}
use Rattle.sqlite.proofs.InsideLemmas.{unchanged_keeps}
use Rattle.keep_sqlite.specs.Format.{our_schema, shown}
use Rattle.keep_sqlite.proofs.Reading.{about_shows, commits_show}
use Rattle.keep_sqlite.proofs.Texts.{about_text, about_is, about_plain, commits_text, commits_is, commits_plain}

pub about_found : (old new : State) (rows : List Row) → old.now.schema ≡ our_schema → Shown about_text [] old new rows → IsPermutation (map shown (old.now.trees 0)) rows
about_found old new rows has h = about_shows old.now rows (reads_as about_text [] old new our_schema has _ about_is.0 about_plain about_is.1 rows h)

pub commits_found : (old new : State) (rows : List Row) → old.now.schema ≡ our_schema → Shown commits_text [] old new rows → IsPermutation (map shown (old.now.trees 1)) rows
commits_found old new rows has h = commits_show old.now rows (reads_as commits_text [] old new our_schema has _ commits_is.0 commits_plain commits_is.1 rows h)

-- a query that is no write leaves what it reads
pub left_by_query : (sql : List ℕ) (old new : State) (rows : List Row) → old.now.schema ≡ our_schema → IsPlain (understood our_schema sql) → Shown sql [] old new rows → IsUnchanged old new
unfolding Shown
left_by_query sql old new rows has plain h =
    let known = sym h.1.is ∙ ap (λ s. understood s sql) has in
    let none : h.0.returning ≡ None = (subst IsPlain (sym known) plain).0 in
    (subst (ShowsRows old new sql h.0 (timed [] h.0.formats h.1.now) rows) none h.2).3

fails_show : (sql : List ℕ) (old new : State) (e : Error) (c : Compiled) (params : Row) → FailsToShow old new sql c params e None → KeepsCommit old new
fails_show sql old new e c params h = unchanged_keeps old new (inl h.3)

-- a query that fails commits nothing
pub kept_by_query : (sql : List ℕ) (old new : State) (e : Error) → old.now.schema ≡ our_schema → IsPlain (understood our_schema sql)
    → FailsToQuery sql [] old new e ⊎ IsTooLate sql [] old new e → KeepsCommit old new
unfolding FailsToQuery IsNotRun
kept_by_query sql old new e has plain (inr late) = unchanged_keeps old new (inl late.5)
kept_by_query sql old new e has plain (inl (inl (inl h))) = unchanged_keeps old new (inl h.1)
kept_by_query sql old new e has plain (inl (inl (inr h))) = unchanged_keeps old new (inr h.3)
kept_by_query sql old new e has plain (inl (inr h)) =
    let known = sym h.1.is ∙ ap (λ s. understood s sql) has in
    let none : h.0.returning ≡ None = (subst IsPlain (sym known) plain).0 in
    fails_show sql old new e h.0 (timed [] h.0.formats h.1.now) (subst (FailsToShow old new sql h.0 (timed [] h.0.formats h.1.now) e) none h.2)

-- a query that showed rows read an open connection
pub shown_open : (sql : List ℕ) (old new : State) (rows : List Row) → Shown sql [] old new rows → IsTrue old.is_open
unfolding Shown
shown_open sql old new rows h = go h.0.returning h.2
  where
    go : (what : Option Returning) → ShowsRows old new sql h.0 (timed [] h.0.formats h.1.now) rows what → IsTrue old.is_open
    go None shown = shown.3.0.was_open
    go (Some what) shown = shown.1.shown.was_open

run_failed : (old new : State) (sql : List ℕ) (c : Compiled) (params : Row) (e : Error) → RunsCommand old new sql c params (Err e) → IsTrue new.is_open → IsTrue old.is_open
run_failed old new sql c params e (inl refused) is_open = refused.1.0.was_open
run_failed old new sql c params e (inr failed) is_open = failed.3.was_open is_open

show_failed : (old new : State) (sql : List ℕ) (c : Compiled) (params : Row) (e : Error) (what : Option Returning) → FailsToShow old new sql c params e what → IsTrue new.is_open → IsTrue old.is_open
show_failed old new sql c params e None h is_open = h.3.0.was_open
show_failed old new sql c params e (Some what) h is_open = run_failed old new sql c params e h is_open

-- a query that failed opened no connection
pub failed_open : (sql : List ℕ) (old new : State) (e : Error) → FailsToQuery sql [] old new e ⊎ IsTooLate sql [] old new e → IsTrue new.is_open → IsTrue old.is_open
unfolding FailsToQuery IsNotRun
failed_open sql old new e (inr late) is_open = late.5.0.was_open
failed_open sql old new e (inl (inl (inl h))) is_open = h.1.0.was_open
failed_open sql old new e (inl (inl (inr h))) is_open = h.3.was_open is_open
failed_open sql old new e (inl (inr h)) is_open = show_failed old new sql h.0 (timed [] h.0.formats h.1.now) e h.0.returning h.2 is_open

pub if_ok_then : {T E : Type 0} {P Q : T → Type 0} (r : Result T E) → ((x : T) → P x → Q x) → IfOk r P → IfOk r Q
if_ok_then (Ok x) f h = f x h
if_ok_then (Err e) f h = tt

pub if_err_then : {T E : Type 0} {P : E → Type 0} {Q : Type 0} (r : Result T E) → ((e : E) → P e → Q) → IfErr r P → OnErr r Q
if_err_then (Ok x) f h = tt
if_err_then (Err e) f h = f e h

pub on_ok_then : {T E A B : Type 0} (r : Result T E) → (A → B) → OnOk r A → OnOk r B
on_ok_then (Ok x) f a = f a
on_ok_then (Err e) f a = tt

pub on_err_any : {T E X : Type 0} (r : Result T E) → X → OnErr r X
on_err_any (Ok x) a = tt
on_err_any (Err e) a = a

pub on_ok_from : {T E : Type 0} {P : T → Type 0} {Q : Type 0} (r : Result T E) → ((x : T) → P x → Q) → IfOk r P → OnOk r Q
on_ok_from (Ok x) f h = f x h
on_ok_from (Err e) f h = tt

pub either_way : {T E : Type 0} {P : T → Type 0} {Q : E → Type 0} {R : Type 0} (r : Result T E) → ((x : T) → P x → R) → ((e : E) → Q e → R) → IfOk r P → IfErr r Q → R
either_way (Ok x) f g p q = f x p
either_way (Err e) f g p q = g e q

pub on_ok_any : {T E X : Type 0} (r : Result T E) → X → OnOk r X
on_ok_any (Ok x) a = a
on_ok_any (Err e) a = tt
