-- What contracts see of a round.
use Rattle.client_cache.specs.Rounds as rounds
use Rattle.client_cache.specs.Rounds.{at_session, at_changes, at_changed, at_results, at_records, at_thread_state, at_email_state, at_threads, at_list_changes, at_list_results, done}
use Rattle.client_cache.specs.declared.rounds.Round.{Round}
use Rattle.client_cache.specs.declared.rounds.Step.{Step}
use Rattle.client_cache.specs.declared.rounds.Step.TheVariants.{Session, Changes, Changed, Results, Records, ThreadState, EmailState, Threads, ListChanges, ListResults, Done}

abbrev pub step_of : Step → rounds.Step
step_of Session = at_session
step_of (Changes kind since) = at_changes kind since
step_of (Changed kind state) = at_changed kind state
step_of (Results kind state) = at_results kind state
step_of (Records kind state) = at_records kind state
step_of ThreadState = at_thread_state
step_of (EmailState state) = at_email_state state
step_of (Threads state) = at_threads state
step_of (ListChanges index since) = at_list_changes index since
step_of (ListResults index state) = at_list_results index state
step_of Done = done

abbrev pub round_of : Round → rounds.Round
round_of r = record {
  step = step_of r.step;
  path = r.path;
  asked = r.asked;
  got = r.got;
  dropped = r.dropped;
  results = r.results;
  replies = r.replies;
  moved = r.moved;
}
