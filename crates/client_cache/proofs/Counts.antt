-- What a reply makes of a round leaves the count of replies, to which one is added then.
use Rattle.std.proofs.Common.{◌≡◌, ℕ, Bool, true, false, eqb, length, List, Option, Some, None, Result, Ok, Err, OnOk, option_map, option_and_then, refl, subst}
use Rattle.std.specs.Prelude.{if◌then◌else◌, bytes_eq, codes}
use Rattle.std.proofs.lemmas.Option.{same_Some}
use Rattle.jm_base.specs.declared.identifiers.Kind.{Kind}
use Rattle.jm_base.specs.declared.identifiers.Kind.TheVariants.{Email as OfEmail, Thread as OfThread}
use Rattle.jm_base.specs.Splices.{splice}
use Rattle.jm_json.specs.Call.{Call}
use Rattle.jm_json.specs.Calls.{calls_in_response}
use Rattle.jm_json.specs.Find.{as_object, find}
use Rattle.jm_json.specs.Reading.{Reading, not_json, not_whole, whole}
use Rattle.jm_json.specs.Tree.{Tree}
use Rattle.method_args.specs.Arguments.{passes}
use Rattle.reply_readers.specs.Deltas.{delta_in}
use Rattle.reply_readers.specs.Objects.{Objects, objects_in}
use Rattle.reply_readers.specs.Pages.{page_in}
use Rattle.reply_readers.specs.Results.{results_in}
use Rattle.reply_readers.specs.declared.deltas.ReadDelta.{ReadDelta}
use Rattle.reply_readers.specs.declared.pages.ReadPage.{ReadPage}
use Rattle.reply_readers.specs.declared.results.ReadResults.{ReadResults}
use Rattle.client_cache.specs.Caches.{Cached}
use Rattle.client_cache.specs.Progress.{Makes, Progress, after_changed, agrees, is_full, after_get, after_last_page, after_list_page, after_page, after_records, after_results, ask_for, by_answer, by_arguments, by_call, by_changed, by_delta, by_email_state, by_error, by_list_results, by_page, by_reading, by_records, by_results, by_session, by_splice, by_thread_state, by_threads, by_tree, only_call, progress_with}
use Rattle.client_cache.specs.Records.{threads_of}
use Rattle.client_cache.specs.Requests.{list_at}
use Rattle.client_cache.specs.Rounds.{Round, Step, at_session, at_changes, at_changed, at_results, at_records, at_thread_state, at_email_state, at_threads, at_list_changes, at_list_results, done}
use Rattle.client_cache.specs.Sessions.{path_of_tree}
use Rattle.client_cache.specs.declared.reply_fault.MovedStates.{MovedStates}

abbrev Keeps : ℕ → Progress → Type 0
Keeps n p = p.round.replies ≡ n

-- if there is one
abbrev KeepsIf : ℕ → Option Progress → Type 0
KeepsIf n o = (p : Progress) → o ≡ Some p → Keeps n p

either : (n : ℕ) (b : Bool) (x y : Progress) → Keeps n x → Keeps n y → Keeps n (if b then x else y)
either n true x y p q = p
either n false x y p q = q

is_kept : (n : ℕ) (x : Progress) → Keeps n x → KeepsIf n (Some x)
is_kept n x keeps p is = subst (Keeps n) (same_Some x p is) keeps

none_kept : (n : ℕ) → KeepsIf n None
none_kept n p is = cc

mapped : {X : Type 0} (n : ℕ) (f : X → Progress) (o : Option X) → ((x : X) → Keeps n (f x)) → KeepsIf n (option_map f o)
mapped n f None each = none_kept n
mapped n f (Some x) each = is_kept n (f x) (each x)

chained : {X : Type 0} (n : ℕ) (f : X → Option Progress) (o : Option X) → ((x : X) → KeepsIf n (f x)) → KeepsIf n (option_and_then f o)
chained n f None each = none_kept n
chained n f (Some x) each = each x

-- ---- the steps

changed : (kind : Kind) (state : ℕ) (c : Cached) (r : Round) → Keeps r.replies (after_changed kind state c r)
changed kind state c r = either r.replies (eqb (length r.asked) 0) _ _ refl refl

records : (kind : Kind) (state : ℕ) (c : Cached) (r : Round) → Keeps r.replies (after_records kind state c r)
records kind state c r = either r.replies (eqb (length r.asked) 0) _ _ refl refl

page : (c : Cached) (r : Round) (kind : Kind) (p : ReadPage) → Keeps r.replies (by_page c r kind p)
page c r kind p = either r.replies p.more _ _ refl (changed kind p.new_state c (after_page kind p r))

get_changed : (c : Cached) (r : Round) (kind : Kind) (state : ℕ) (o : Objects) → Keeps r.replies (by_changed c r kind state o)
get_changed c r kind state o = either r.replies (eqb state o.state) _ _ (changed kind state c (after_get kind o r)) refl

last_page : (kind : Kind) (q : ReadResults) (c : Cached) (r : Round) → Keeps r.replies (after_last_page kind q c r)
last_page kind q c r = either r.replies (is_full q.ids) _ _ refl (records kind q.state c (ask_for r.results r))

results : (c : Cached) (r : Round) (kind : Kind) (state : Option ℕ) (q : ReadResults) → Keeps r.replies (by_results c r kind state q)
results c r kind state q = either r.replies (agrees state q.state) _ _ (last_page kind q c (after_results q r)) refl

get_records : (c : Cached) (r : Round) (kind : Kind) (state : ℕ) (o : Objects) → Keeps r.replies (by_records c r kind state o)
get_records c r kind state o = either r.replies (eqb state o.state) _ _ (records kind state c (after_get kind o r)) refl

email_state : (c : Cached) (r : Round) (state : ℕ) (o : Objects) → Keeps r.replies (by_email_state c r state o)
email_state c r state o =
    either r.replies (passes (λ had. eqb had o.state) c.emails.state) _ _ (records OfThread state c (ask_for (threads_of c.emails.records) r)) refl

threads : (c : Cached) (r : Round) (state : ℕ) (o : Objects) → Keeps r.replies (by_threads c r state o)
threads c r state o = either r.replies (eqb state o.state) _ _ (records OfThread state c (after_get OfThread o r)) refl

list_page : (index : ℕ) (q : ReadResults) (c : Cached) (r : Round) → Keeps r.replies (after_list_page index q c r)
list_page index q c r = either r.replies (is_full q.ids) _ _ refl refl

list_results : (c : Cached) (r : Round) (index : ℕ) (state : Option ℕ) (q : ReadResults) → Keeps r.replies (by_list_results c r index state q)
list_results c r index state q = either r.replies (agrees state q.state) _ _ (list_page index q c (after_results q r)) refl

splice_kept : (c : Cached) (r : Round) (index state : ℕ) (o : Result (List ℕ) ℕ) → KeepsIf r.replies (by_splice c r index state o)
splice_kept c r index state (Ok ids) = is_kept r.replies _ refl
splice_kept c r index state (Err i) = none_kept r.replies

delta : (c : Cached) (r : Round) (index : ℕ) (d : ReadDelta) → KeepsIf r.replies (by_delta c r index d)
delta c r index d = splice_kept c r index d.new_state (splice (list_at index c).ids d.removed d.added)

error : (c : Cached) (r : Round) (step : Step) → Keeps r.replies (by_error c r step)
error c r at_session = refl
error c r (at_changes kind since) = refl
error c r (at_changed kind state) = refl
error c r (at_results kind state) = refl
error c r (at_records kind state) = refl
error c r at_thread_state = refl
error c r (at_email_state state) = refl
error c r (at_threads state) = refl
error c r (at_list_changes index since) = refl
error c r (at_list_results index state) = refl
error c r done = refl

-- ---- the reply

arguments : (c : Cached) (r : Round) (step : Step) (t : Tree) → KeepsIf r.replies (by_arguments c r step t)
arguments c r at_session t = none_kept r.replies
arguments c r (at_changes kind since) t = mapped r.replies (by_page c r kind) (page_in kind t) (page c r kind)
arguments c r (at_changed kind state) t = mapped r.replies (by_changed c r kind state) (objects_in kind t) (get_changed c r kind state)
arguments c r (at_results kind state) t = mapped r.replies (by_results c r kind state) (results_in kind t) (results c r kind state)
arguments c r (at_records kind state) t = mapped r.replies (by_records c r kind state) (objects_in kind t) (get_records c r kind state)
arguments c r at_thread_state t = mapped r.replies (by_thread_state c r) (objects_in OfThread t) (λ o. refl)
arguments c r (at_email_state state) t = mapped r.replies (by_email_state c r state) (objects_in OfEmail t) (email_state c r state)
arguments c r (at_threads state) t = mapped r.replies (by_threads c r state) (objects_in OfThread t) (threads c r state)
arguments c r (at_list_changes index since) t = chained r.replies (by_delta c r index) (delta_in OfEmail t) (delta c r index)
arguments c r (at_list_results index state) t = mapped r.replies (by_list_results c r index state) (results_in OfEmail t) (list_results c r index state)
arguments c r done t = none_kept r.replies

if_kept : (n : ℕ) (b : Bool) (x y : Option Progress) → KeepsIf n x → KeepsIf n y → KeepsIf n (if b then x else y)
if_kept n true x y p q = p
if_kept n false x y p q = q

call : (c : Cached) (r : Round) (k : Call) → KeepsIf r.replies (by_call c r k)
call c r k =
    if_kept r.replies (bytes_eq k.name (codes "error")) _ _ (is_kept r.replies _ (error c r r.step)) (arguments c r r.step k.args)

answered : (c : Cached) (r : Round) (t : Tree) → KeepsIf r.replies (by_answer c r t)
answered c r t = chained r.replies (by_call c r) (option_and_then only_call (calls_in_response t)) (call c r)

session : (c : Cached) (r : Round) (ms : List (List ℕ × Tree)) → KeepsIf r.replies (by_session c r ms)
session c r ms = mapped r.replies _ (option_and_then path_of_tree (find (codes "apiUrl") ms)) (λ path. refl)

tree : (c : Cached) (r : Round) (step : Step) (t : Tree) → KeepsIf r.replies (by_tree c r step t)
tree c r at_session t = chained r.replies (by_session c r) (as_object t) (session c r)
tree c r (at_changes kind since) t = answered c r t
tree c r (at_changed kind state) t = answered c r t
tree c r (at_results kind state) t = answered c r t
tree c r (at_records kind state) t = answered c r t
tree c r at_thread_state t = answered c r t
tree c r (at_email_state state) t = answered c r t
tree c r (at_threads state) t = answered c r t
tree c r (at_list_changes index since) t = answered c r t
tree c r (at_list_results index state) t = answered c r t
tree c r done t = none_kept r.replies

reading : (c : Cached) (r : Round) (read : Reading) → KeepsIf r.replies (by_reading c r read)
reading c r not_json = none_kept r.replies
reading c r (not_whole place) = none_kept r.replies
reading c r (whole t) = tree c r r.step t

-- what was taken of a reply counts no reply yet
pub replies_kept : (c : Cached) (r : Round) (read : Reading) (d : Cached) (s : Round) (moved : Option MovedStates) → Makes (by_reading c r read) d s moved → s.replies ≡ r.replies
replies_kept c r read d s moved makes = reading c r read (progress_with d s moved) makes

-- a fact holds after Ok
pub on_ok : {A E X : Type 0} (r : Result A E) → X → OnOk r X
on_ok (Ok a) x = x
on_ok (Err e) x = tt
