-- What a reply of its form makes of what a client keeps and of its round (RFC 8620, 5.1, 5.2, 5.5
-- and 5.6).
use Rattle.std.specs.Prelude.{◌≡◌, ℕ, ◌+◌, ◌==◌, min, List, [], ◌∷◌, ◌++◌, drop, length, Bool, true, Option, Some, None, option_and_then, option_map, unwrap_or, Result, Ok, Err, bytes_eq, if◌then◌else◌, codes}
use Rattle.jm_base.specs.Ids.{state_text}
use Rattle.jm_base.specs.Splices.{splice, without}
use Rattle.jm_base.specs.declared.identifiers.Kind.{Kind}
use Rattle.jm_base.specs.declared.identifiers.Kind.TheVariants.{Mailbox as OfMailbox, Email as OfEmail, Thread as OfThread}
use Rattle.jm_json.specs.Call.{Call}
use Rattle.jm_json.specs.Calls.{calls_in_response}
use Rattle.jm_json.specs.Find.{as_object, find}
use Rattle.jm_json.specs.Order.{put_all}
use Rattle.jm_json.specs.Reading.{Reading, not_json, not_whole, whole, reading_of}
use Rattle.jm_json.specs.Tree.{Tree}
use Rattle.method_args.specs.Arguments.{passes}
use Rattle.reply_readers.specs.Deltas.{delta_in}
use Rattle.reply_readers.specs.Objects.{Objects, objects_in}
use Rattle.reply_readers.specs.Pages.{page_in}
use Rattle.reply_readers.specs.Results.{results_in}
use Rattle.reply_readers.specs.declared.deltas.ReadDelta.{ReadDelta}
use Rattle.reply_readers.specs.declared.pages.ReadPage.{ReadPage}
use Rattle.reply_readers.specs.declared.results.ReadResults.{ReadResults}
use Rattle.client_cache.specs.Caches.{Cached, kind_of}
use Rattle.client_cache.specs.Records.{by_id, in_order, records_but, threads_of, with_records, with_results, with_state, without_state}
use Rattle.client_cache.specs.Requests.{list_at}
use Rattle.client_cache.specs.Rounds.{Round, Step, at_session, at_changes, at_changed, at_results, at_records, at_thread_state, at_email_state, at_threads, at_list_changes, at_list_results, done, first_step, list_step, load_of, starting, step_after}
use Rattle.client_cache.specs.Sessions.{account_after, path_of_tree}
use Rattle.client_cache.specs.declared.limits.TheConstants.{MAX_IDS, MAX_MOVED_REPLIES, MAX_RESULTS}
use Rattle.client_cache.specs.declared.reply_fault.MovedStates.{MovedStates}

-- What a client keeps and its round after a reply; and if the reply showed another state than the
-- one that it should, both of them.
pub record Progress : Type 0 where
  pub cache : Cached
  pub round : Round
  pub moved : Option MovedStates

abbrev pub progress_with : Cached → Round → Option MovedStates → Progress
progress_with c r moved = record { cache = c; round = r; moved = moved }

-- ---- where the round goes

abbrev pub stay : Step → Cached → Round → Progress
stay step c r = progress_with c (record r { step = step }) None

-- what was held is done with
abbrev pub go_to : Step → Cached → Round → Progress
go_to step c r = progress_with c (starting step r) None

abbrev pub states_of : ℕ → ℕ → MovedStates
states_of had shown = record { had = state_text had; shown = state_text shown }

-- The reply counts as moved, up to the greatest count.
abbrev pub count_moved : Round → Round
count_moved r = record r { moved = min (r.moved + 1) MAX_MOVED_REPLIES }

-- The round had a state, and the reply showed another one.
abbrev pub move_to : ℕ → ℕ → Cached → Round → Progress
move_to had shown c r = progress_with c (count_moved r) (Some (states_of had shown))

-- the state of a kind is the one that is known, if any is
abbrev pub agrees : Option ℕ → ℕ → Bool
agrees None shown = true
agrees (Some had) shown = had == shown

-- ---- changes

-- Of the records that a page names, those that are there are asked for, and no others are kept.
abbrev pub after_page : Kind → ReadPage → Round → Round
after_page kind p r = record r {
  asked = in_order (without (r.asked ++ (p.created ++ p.updated)) p.destroyed);
  got = records_but kind (p.created ++ (p.updated ++ p.destroyed)) r.got;
  dropped = without r.dropped (p.created ++ p.updated) ++ p.destroyed;
}

-- the records at a new state: those that the round got in their places, and none that it dropped
abbrev pub with_changes : Kind → ℕ → Cached → Round → Cached
with_changes kind state c r =
    with_records kind (put_all r.got (records_but kind r.dropped (kind_of kind c).records))
    (Some state) c

abbrev pub leave_kind : Kind → Cached → Round → Progress
leave_kind kind c r = go_to (step_after kind c) c r

-- once all records that changed are there, the kind is at the new state
abbrev pub after_changed : Kind → ℕ → Cached → Round → Progress
after_changed kind state c r =
    if length r.asked == 0 then leave_kind kind (with_changes kind state c r) r
    else stay (at_changed kind state) c r

abbrev pub after_changes : Kind → Bool → ℕ → Cached → Round → Progress
after_changes kind more state c r =
    if more then stay (at_changes kind state) c r else after_changed kind state c r

abbrev pub by_page : Cached → Round → Kind → ReadPage → Progress
by_page c r kind p = after_changes kind p.more p.new_state c (after_page kind p r)

-- ---- gets

-- the objects are got, and the records that are not there dropped
abbrev pub after_get : Kind → Objects → Round → Round
after_get kind o r = record r {
  asked = drop MAX_IDS r.asked;
  got = put_all (by_id kind o.objects) r.got;
  dropped = r.dropped ++ o.unknown;
}

-- Of records that changed further, the changes since the state that the round has are asked again.
abbrev pub by_changed : Cached → Round → Kind → ℕ → Objects → Progress
by_changed c r kind state o =
    if state == o.state then after_changed kind state c (after_get kind o r)
    else move_to state o.state c (record r { step = at_changes kind state })

-- ---- loads

abbrev pub records_at : Kind → ℕ → Step
records_at OfMailbox state = at_records OfMailbox state
records_at OfEmail state = at_records OfEmail state
records_at OfThread state = at_threads state

-- once all records are there, they are the kind's at the state
abbrev pub after_records : Kind → ℕ → Cached → Round → Progress
after_records kind state c r =
    if length r.asked == 0 then leave_kind kind (with_records kind r.got (Some state) c) r
    else stay (records_at kind state) c r

-- a page with fewer results than were asked for is the last one
abbrev pub is_full : List ℕ → Bool
is_full ids = length ids == MAX_RESULTS

abbrev pub after_results : ReadResults → Round → Round
after_results q r = record r { results = r.results ++ q.ids }

abbrev pub ask_for : List ℕ → Round → Round
ask_for numbers r = record r { asked = numbers }

abbrev pub after_last_page : Kind → ReadResults → Cached → Round → Progress
after_last_page kind q c r =
    if is_full q.ids then stay (at_results kind (Some q.state)) c r
    else after_records kind q.state c (ask_for r.results r)

abbrev pub by_results : Cached → Round → Kind → Option ℕ → ReadResults → Progress
by_results c r kind state q =
    if agrees state q.state then after_last_page kind q c (after_results q r)
    else move_to (unwrap_or state 0) q.state c (starting (at_results kind None) r)

abbrev pub by_records : Cached → Round → Kind → ℕ → Objects → Progress
by_records c r kind state o =
    if state == o.state then after_records kind state c (after_get kind o r)
    else move_to state o.state c (starting (load_of kind) r)

-- ---- loads of threads

abbrev pub by_thread_state : Cached → Round → Objects → Progress
by_thread_state c r o = stay (at_email_state o.state) c r

-- emails are brought up to date again
abbrev pub back_to_emails : ℕ → ℕ → Cached → Round → Progress
back_to_emails had shown c r = move_to had shown c (starting (first_step OfEmail c) r)

abbrev pub by_email_state : Cached → Round → ℕ → Objects → Progress
by_email_state c r state o =
    if passes (λ had. had == o.state) c.emails.state
    then after_records OfThread state c (ask_for (threads_of c.emails.records) r)
    else back_to_emails (unwrap_or c.emails.state 0) o.state c r

abbrev pub by_threads : Cached → Round → ℕ → Objects → Progress
by_threads c r state o =
    if state == o.state then after_records OfThread state c (after_get OfThread o r)
    else back_to_emails state o.state c r

-- ---- lists

-- the list has these results at a state, and the next one follows
abbrev pub leave_list : ℕ → List ℕ → ℕ → Cached → Round → Progress
leave_list index ids state c r =
    go_to (list_step (index + 1) c) (with_results index ids (Some state) c) r

abbrev pub by_splice : Cached → Round → ℕ → ℕ → Result (List ℕ) ℕ → Option Progress
by_splice c r index state (Ok ids) = Some (leave_list index ids state c r)
by_splice c r index state (Err i) = None

abbrev pub by_delta : Cached → Round → ℕ → ReadDelta → Option Progress
by_delta c r index d =
    by_splice c r index d.new_state (splice (list_at index c).ids d.removed d.added)

abbrev pub after_list_page : ℕ → ReadResults → Cached → Round → Progress
after_list_page index q c r =
    if is_full q.ids then stay (at_list_results index (Some q.state)) c r
    else leave_list index r.results q.state c r

abbrev pub by_list_results : Cached → Round → ℕ → Option ℕ → ReadResults → Progress
by_list_results c r index state q =
    if agrees state q.state then after_list_page index q c (after_results q r)
    else move_to (unwrap_or state 0) q.state c (starting (at_list_results index None) r)

-- ---- a state that is too old

-- the kind goes on without a state
abbrev pub reload_kind : Kind → Cached → Round → Progress
reload_kind kind c r = go_to (load_of kind) (with_state kind None c) r

abbrev pub reload_list : ℕ → Cached → Round → Progress
reload_list index c r = go_to (at_list_results index None) (without_state index c) r

abbrev pub by_error : Cached → Round → Step → Progress
by_error c r at_session = stay at_session c r
by_error c r (at_changes kind since) = reload_kind kind c r
by_error c r (at_changed kind state) = reload_kind kind c r
by_error c r (at_results kind state) = reload_kind kind c r
by_error c r (at_records kind state) = reload_kind kind c r
by_error c r at_thread_state = reload_kind OfThread c r
by_error c r (at_email_state state) = reload_kind OfThread c r
by_error c r (at_threads state) = reload_kind OfThread c r
by_error c r (at_list_changes index since) = reload_list index c r
by_error c r (at_list_results index state) = reload_list index c r
by_error c r done = stay done c r

-- ---- the reply

-- by the arguments of the response to the call of a step
abbrev pub by_arguments : Cached → Round → Step → Tree → Option Progress
by_arguments c r at_session t = None
by_arguments c r (at_changes kind since) t = option_map (by_page c r kind) (page_in kind t)
by_arguments c r (at_changed kind state) t =
    option_map (by_changed c r kind state) (objects_in kind t)
by_arguments c r (at_results kind state) t =
    option_map (by_results c r kind state) (results_in kind t)
by_arguments c r (at_records kind state) t =
    option_map (by_records c r kind state) (objects_in kind t)
by_arguments c r at_thread_state t = option_map (by_thread_state c r) (objects_in OfThread t)
by_arguments c r (at_email_state state) t =
    option_map (by_email_state c r state) (objects_in OfEmail t)
by_arguments c r (at_threads state) t =
    option_map (by_threads c r state) (objects_in OfThread t)
by_arguments c r (at_list_changes index since) t =
    option_and_then (by_delta c r index) (delta_in OfEmail t)
by_arguments c r (at_list_results index state) t =
    option_map (by_list_results c r index state) (results_in OfEmail t)
by_arguments c r done t = None

abbrev pub by_call : Cached → Round → Call → Option Progress
by_call c r call =
    if bytes_eq call.name (codes "error") then Some (by_error c r r.step)
    else by_arguments c r r.step call.args

abbrev pub only_call : List Call → Option Call
only_call [] = None
only_call (call ∷ []) = Some call
only_call (call ∷ other ∷ calls) = None

abbrev pub by_answer : Cached → Round → Tree → Option Progress
by_answer c r t =
    option_and_then (by_call c r) (option_and_then only_call (calls_in_response t))

-- The account and the path are those of the Session, and mailboxes come first.
abbrev pub by_account : Cached → Round → List ℕ → Option (List ℕ) → Progress
by_account c r path account =
    go_to (first_step OfMailbox c) (record c { account = account }) (record r { path = path })

abbrev pub by_session : Cached → Round → List (List ℕ × Tree) → Option Progress
by_session c r ms =
    option_map (λ path. by_account c r path (account_after c.account ms))
    (option_and_then path_of_tree (find (codes "apiUrl") ms))

abbrev pub by_tree : Cached → Round → Step → Tree → Option Progress
by_tree c r at_session t = option_and_then (by_session c r) (as_object t)
by_tree c r (at_changes kind since) t = by_answer c r t
by_tree c r (at_changed kind state) t = by_answer c r t
by_tree c r (at_results kind state) t = by_answer c r t
by_tree c r (at_records kind state) t = by_answer c r t
by_tree c r at_thread_state t = by_answer c r t
by_tree c r (at_email_state state) t = by_answer c r t
by_tree c r (at_threads state) t = by_answer c r t
by_tree c r (at_list_changes index since) t = by_answer c r t
by_tree c r (at_list_results index state) t = by_answer c r t
by_tree c r done t = None

abbrev pub by_reading : Cached → Round → Reading → Option Progress
by_reading c r not_json = None
by_reading c r (not_whole place) = None
by_reading c r (whole t) = by_tree c r r.step t

-- one more reply was taken
abbrev pub count_reply : Progress → Progress
count_reply p = record p { round = record p.round { replies = p.round.replies + 1 } }

-- What the bytes of a reply make of a cache and a round, if they are of the form.
abbrev pub by_reply : Cached → Round → List ℕ → Option Progress
by_reply c r bytes = option_map count_reply (by_reading c r (reading_of bytes))

-- ---- what is answered

-- The progress is the one that a reply makes.
abbrev pub Makes : Option Progress → Cached → Round → Option MovedStates → Type 0
Makes o c r moved = o ≡ Some (progress_with c r moved)

-- Both are as before.
abbrev pub IsSame : Cached → Round → Cached → Round → Type 0
IsSame c r d s = (d ≡ c) × (s ≡ r)
