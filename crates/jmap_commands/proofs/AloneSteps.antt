-- Each step of a port over a hall of one account, with a session that was alone, is a step of the account of `batch`.
use Rattle.std.proofs.Common.{◌≡◌, inl, inr, ℕ, ◌+◌, ◌≤◌, false, List, [], ◌∷◌, ◌++◌, map, take, length, Option, Some, None, Result, Ok, Err, OnOk, IfErr, slice_get, slice_set, refl, sym, ap, ap₂, ◌∙◌, subst, arith, length-append}
use Rattle.std.proofs.lemmas.List.{append-nil, length-map, map-append}
use Rattle.std.proofs.Math.Seq.{take-append_seam}
use Rattle.std.specs.List.{list_any}
use Rattle.jm_json.specs.Call.{Call as Invocation}
use Rattle.jm_json.specs.declared.invocation.Created.{Created}
use Rattle.jm_json.specs.declared.invocation.Replied.{Replied}
use Rattle.mail_records.specs.Histories.{Entry, History, empty_history, is_refused}
use Rattle.mail_records.specs.declared.edits.Stamp.{Stamp}
use Rattle.record_codec.specs.Sizes.{edit_bytes}
use Rattle.account_book.specs.Books.{refusals_in}
use Rattle.account_book.specs.Passes.{greatest_pass, named_from}
use Rattle.account_book.specs.Replies.{IsReply}
use Rattle.account_book.specs.declared.asks.Call.{Call}
use Rattle.account_book.specs.declared.plans.Out.{Out}
use Rattle.account_book.specs.declared.plans.Point.{Point}
use Rattle.account_lock.specs.Entries.{StartsWith}
use Rattle.account_lock.specs.Passes.{root_of, split_off}
use Rattle.account_lock.specs.Views.{PassFacts}
use Rattle.account_hall.specs.Halls.{RoomView}
use Rattle.account_hall.specs.Histories.{history_with, seen_count, stamp_of}
use Rattle.account_hall.specs.Sessions.{IsCall, IsLook, SessionView}
use Rattle.batch_lines.specs.Faults.{ExplainsFault}
use Rattle.batch_lines.specs.Input.{HasAnsweredEnded, HasAnsweredInput, HasBegunInput, Seen}
use Rattle.batch_lines.specs.declared.fault.LinesFault.{LinesFault}
use Rattle.batch_lines.specs.declared.fault.LinesFault.TheVariants as lines
use Rattle.batch_lines.specs.declared.upload.Uploaded.{Uploaded}
use Rattle.mail_calls.specs.Plans.{call_plan}
use Rattle.server_users.specs.Configuration.{Configuration}
use Rattle.server_users.specs.declared.users.UserAccount.{UserAccount}
use Rattle.hall_port.specs.Lines.{HaltsAt, UploadsTo, first_changeable, line_halts, line_uploads, uploaded_as}
use Rattle.hall_port.specs.Serving.{port_over}
use Rattle.read_replies.specs.Reads.{method_call}
use Rattle.hall_port.specs.Steps.{AnswersBy as HallAnswersBy, Calls, HasStopped, IsAsked, IsPerformed as IsHallPerformed, StopsBy, calls_by, hall_answers, hall_stops, upload_call}
use Rattle.read_replies.specs.Targets.{accounts_of, source_of, target_of}
use Rattle.hall_port.specs.Views.{PortView}
use Rattle.hall_port.proofs.Found.{source_among, source_apart, target_among}
use Rattle.jmap_commands.specs.AccountAnswers.{AnswersBy, IsAccountAnswer, IsMailReply, account_answers, account_halts, account_stops, account_uploads, asked}
use Rattle.jmap_commands.specs.OneSession.{AnswersAlone, IsFirst}
use Rattle.jmap_commands.specs.OneUser.{the_account, the_accounts, the_users}
use Rattle.jmap_commands.specs.Serving.{mail_plan}
use Rattle.jmap_commands.proofs.Alone.{AreOfFirst, GoesOn, alone_goes_on, any_after, any_named, goes_on_before, last_of, last_on, same_length, seen_before, seen_not_refused}
use Rattle.jmap_commands.proofs.Simulation.{IsSimulated, Maps, begun, ended, input, onto, within}

-- what the first pass of a session has seen
abbrev pub seen_of : List PassFacts → List Entry
seen_of [] = []
seen_of (k ∷ ks) = k.seen

-- the history of the account, as the session of a port has seen it
abbrev pub history_of : PortView → History
history_of s = history_with empty_history (seen_of s.session.passes)

-- what holds of the port from its beginning on: its session has one pass, of an account that opened with nothing, and has seen all of its points
pub record Holds (s : PortView) : Type 0 where
  pub users : s.users ≡ the_users
  pub user : s.user ≡ 0
  pub time : s.time ≡ 0
  pub pass : PassFacts
  pub only : s.session.passes ≡ pass ∷ []
  pub opening : pass.opening ≡ empty_history
  pub reached : last_of 0 s.session.trail ≤ length pass.seen
  pub zeros : AreOfFirst s.session.trail

-- what is known of it in the end: the points leave no gap, nothing was seen past the last one, and nothing was refused
pub record GoneOn (s : PortView) : Type 0 where
  pub goes_on : GoesOn 0 s.session.trail
  pub few : length (seen_of s.session.passes) ≤ last_of 0 s.session.trail
  pub none : list_any is_refused (seen_of s.session.passes) ≡ false

abbrev mail_port : Calls
mail_port = calls_by mail_plan

-- ---- one call

same_point : (p : Point) (account before after moment : ℕ) → p.account ≡ account → p.before ≡ before → p.after ≡ after → p.moment ≡ moment → p ≡ record { account = account; before = before; after = after; moment = moment }
same_point p account before after moment a b c d =
    ap (λ (x : ℕ). record p { account = x }) a
    ∙ (ap (λ (x : ℕ). record { account = account; before = x; after = p.after; moment = p.moment }) b
    ∙ (ap (λ (x : ℕ). record { account = account; before = before; after = x; moment = p.moment }) c
    ∙ ap (λ (x : ℕ). record { account = account; before = before; after = after; moment = x }) d))

-- the answer to a call that found nothing but what the session had seen
answer_at : (seen seen' : List Entry) (point : Point) (call : Call) (stamp : Stamp) (out : Out) → StartsWith seen' seen → list_any is_refused seen' ≡ false
    → point.account ≡ 0 → point.before ≡ length seen → point.after ≡ length seen' → point.moment ≡ 0 → IsReply call_plan edit_bytes (history_with empty_history seen') point call stamp out
    → IsAccountAnswer (history_with empty_history seen) call out (history_with empty_history seen')
answer_at seen seen' point call stamp out (more, is) none account before after moment reply =
    let name = named_from (greatest_pass []) in
    let old = map name seen in
    let new = map name seen' in
    let grown : new ≡ old ++ map name more = ap (map name) is ∙ map-append name seen more in
    let count : length old ≡ length seen = length-map seen name in
    let count' : length new ≡ length seen' = length-map seen' name in
    record {
      stamp = stamp;
      begins = ap (λ (es : List Entry). record empty_history { entries = es }) (ap (take (length old)) grown ∙ take-append_seam old (map name more));
      kept = any_after (length old) new (any_named empty_history seen' ∙ none);
      reply = subst (λ (p : Point). IsMailReply (history_with empty_history seen') p call stamp out) (same_point point 0 (length old) (length new) 0 account (before ∙ sym count) (after ∙ sym count') moment) reply;
    }

zeros_on : (ps : List Point) (p : Point) → AreOfFirst ps → p.account ≡ 0 → AreOfFirst (ps ++ p ∷ [])
zeros_on [] p zeros here = (here, tt)
zeros_on (q ∷ ps) p (z, zeros) here = (z, zeros_on ps p zeros here)

-- the pass that a session with this one pass has
same_pass : (ks : List PassFacts) (k x : PassFacts) → ks ≡ k ∷ [] → slice_get ks 0 ≡ Some x → x ≡ k
same_pass ks k x only there = let e : Some k ≡ Some x = sym (ap (λ (l : List PassFacts). slice_get l 0) only) ∙ there in sym (cc e)

counted : (k : PassFacts) → k.opening ≡ empty_history → seen_count k ≡ length k.seen
counted k opens =
    let none : length k.opening.entries ≡ 0 = ap (λ (h : History). length h.entries) opens in
    let sum : length k.opening.entries + length k.seen ≡ length k.seen = omega (arith, none) in
    sum

module _ (s s' : PortView) (call : Call) (out : Out) (a : IsAsked mail_port s 0 call out s') (inv : Holds s) where
  abbrev c : IsCall (mail_plan a.next.0) 0 call s.time s.session s'.session out
  c = a.next.1

  is_pass : c.pass ≡ inv.pass
  is_pass = same_pass s.session.passes inv.pass c.pass inv.only c.there

  only' : s'.session.passes ≡ c.pass' ∷ []
  only' = c.passes ∙ ap (λ (ks : List PassFacts). slice_set ks 0 c.pass') inv.only

  opening : c.pass.opening ≡ empty_history
  opening = ap (λ (k : PassFacts). k.opening) is_pass ∙ inv.opening

  opening' : c.pass'.opening ≡ empty_history
  opening' = ap (λ (k : PassFacts). k.opening) c.same ∙ opening

  after : c.point.after ≡ length c.pass'.seen
  after = c.after ∙ counted c.pass' opening'

  before : length c.pass.seen ≤ c.point.before
  before = subst (λ (n : ℕ). n ≤ c.point.before) (counted c.pass opening) c.before

  holds_next : Holds s'
  holds_next = record {
    users = ap (λ (p : PortView). p.users) a.rest ∙ inv.users;
    user = ap (λ (p : PortView). p.user) a.rest ∙ inv.user;
    time = ap (λ (p : PortView). p.time) a.rest ∙ inv.time;
    pass = c.pass';
    only = only';
    opening = opening';
    reached = let ends : last_of 0 s'.session.trail ≡ c.point.after = ap (last_of 0) c.trail ∙ last_on 0 s.session.trail c.point in omega (arith, ends, after);
    zeros = subst AreOfFirst (sym c.trail) (zeros_on s.session.trail c.point inv.zeros c.account_is);
  }

  seen_then : seen_of s.session.passes ≡ c.pass.seen
  seen_then = ap seen_of inv.only ∙ sym (ap (λ (k : PassFacts). k.seen) is_pass)

  seen_now : seen_of s'.session.passes ≡ c.pass'.seen
  seen_now = ap seen_of only'

  module _ (good : GoneOn s') where
    no_gap : GoesOn 0 s.session.trail × (c.point.before ≡ last_of 0 s.session.trail)
    no_gap = goes_on_before 0 s.session.trail c.point (subst (GoesOn 0) c.trail good.goes_on)

    none_now : list_any is_refused c.pass'.seen ≡ false
    none_now = sym (ap (list_any is_refused) seen_now) ∙ good.none

    good_then : GoneOn s
    good_then = record {
      goes_on = no_gap.0;
      few = omega (arith, same_length (seen_of s.session.passes) c.pass.seen seen_then, before, no_gap.1);
      none = ap (list_any is_refused) seen_then ∙ seen_before c.pass'.seen c.pass.seen c.seen none_now;
    }

    before_is : c.point.before ≡ length c.pass.seen
    before_is = let same : length c.pass.seen ≡ length inv.pass.seen = ap (λ (k : PassFacts). length k.seen) is_pass in omega (arith, before, no_gap.1, inv.reached, same)

    answer : IsAccountAnswer (history_of s) call out (history_of s')
    answer =
        let stamp = stamp_of c.pass' (length s'.session.trail) in
        let reply = subst (λ (h : History). IsReply call_plan edit_bytes (history_with h c.pass'.seen) c.point call stamp out) opening' c.reply in
        let at = answer_at c.pass.seen c.pass'.seen c.point call stamp out c.seen none_now c.account_is before_is after (c.moment_is ∙ inv.time) reply in
        subst (λ (es : List Entry). IsAccountAnswer (history_of s) call out (history_with empty_history es)) (sym seen_now)
        (subst (λ (es : List Entry). IsAccountAnswer (history_with empty_history es) call out (history_with empty_history c.pass'.seen)) (sym seen_then) at)

asked_maps : (s s' : PortView) (call : Call) (out : Out) → IsAsked mail_port s 0 call out s' → Maps Holds GoneOn s s' (IsAccountAnswer (history_of s) call out (history_of s'))
asked_maps s s' call out a = λ inv. (holds_next s s' call out a inv, λ good. (good_then s s' call out a inv good, answer s s' call out a inv good))

-- ---- a call that ended out of memory

no_more : (es : List Entry) → length es ≤ 0 → es ≡ []
no_more [] few = refl
no_more (e ∷ es) few = absurd (omega (arith, few))

nothing_more : (log seen : List Entry) → StartsWith log seen → length log ≤ length seen → log ≡ seen
nothing_more log seen (more, is) few =
    let none : more ≡ [] = no_more more (omega (arith, few, same_length log (seen ++ more) is, length-append seen more)) in
    is ∙ (ap (λ (es : List Entry). seen ++ es) none ∙ append-nil seen)

longer : (log seen : List Entry) → StartsWith log seen → length seen ≤ length log
longer log seen (more, is) = omega (arith, same_length log (seen ++ more) is, length-append seen more)

module _ (s s' : PortView) (l : IsLook 0 s.session s'.session) (rest : s' ≡ record s { session = s'.session }) (inv : Holds s) where
  look_pass : l.pass ≡ inv.pass
  look_pass = same_pass s.session.passes inv.pass l.pass inv.only l.there

  look_only : s'.session.passes ≡ l.pass' ∷ []
  look_only = l.passes ∙ ap (λ (ks : List PassFacts). slice_set ks 0 l.pass') inv.only

  look_trail : last_of 0 s'.session.trail ≡ last_of 0 s.session.trail
  look_trail = ap (last_of 0) l.trail

  look_seen : length l.pass.seen ≡ length inv.pass.seen
  look_seen = ap (λ (k : PassFacts). length k.seen) look_pass

  look_longer : length l.pass.seen ≤ length l.pass'.seen
  look_longer = longer l.pass'.seen l.pass.seen l.looked.seen

  look_holds : Holds s'
  look_holds = record {
    users = ap (λ (p : PortView). p.users) rest ∙ inv.users;
    user = ap (λ (p : PortView). p.user) rest ∙ inv.user;
    time = ap (λ (p : PortView). p.time) rest ∙ inv.time;
    pass = l.pass';
    only = look_only;
    opening = ap (λ (k : PassFacts). k.opening) l.looked.same ∙ (ap (λ (k : PassFacts). k.opening) look_pass ∙ inv.opening);
    reached = omega (arith, look_trail, inv.reached, look_seen, look_longer);
    zeros = subst AreOfFirst (sym l.trail) inv.zeros;
  }

  look_then : seen_of s.session.passes ≡ l.pass.seen
  look_then = ap seen_of inv.only ∙ sym (ap (λ (k : PassFacts). k.seen) look_pass)

  look_now : seen_of s'.session.passes ≡ l.pass'.seen
  look_now = ap seen_of look_only

  module _ (good : GoneOn s') where
    look_few : length l.pass'.seen ≤ last_of 0 s.session.trail
    look_few = omega (arith, good.few, look_trail, same_length (seen_of s'.session.passes) l.pass'.seen look_now)

    look_good : GoneOn s
    look_good = record {
      goes_on = subst (GoesOn 0) l.trail good.goes_on;
      few = omega (arith, same_length (seen_of s.session.passes) l.pass.seen look_then, look_longer, look_few);
      none = ap (list_any is_refused) look_then ∙ seen_before l.pass'.seen l.pass.seen l.looked.seen (sym (ap (list_any is_refused) look_now) ∙ good.none);
    }

    look_same : history_of s' ≡ history_of s
    look_same =
        let same : l.pass'.seen ≡ l.pass.seen = nothing_more l.pass'.seen l.pass.seen l.looked.seen (omega (arith, look_few, inv.reached, look_seen)) in
        ap (history_with empty_history) (look_now ∙ (same ∙ sym look_then))

unmoved : (s s' : PortView) → s' ≡ s → Maps Holds GoneOn s s' (history_of s' ≡ history_of s)
unmoved s s' is = λ inv. (subst Holds (sym is) inv, λ good. (subst GoneOn is good, ap history_of is))

stopped_maps : (s s' : PortView) → HasStopped 0 s s' → Maps Holds GoneOn s s' (history_of s' ≡ history_of s)
stopped_maps s s' (inl is) = unmoved s s' is
stopped_maps s s' (inr (look, rest)) = λ inv. (look_holds s s' look rest inv, λ good. (look_good s s' look rest inv good, look_same s s' look rest inv good))

-- ---- methods

the_target : (c : Invocation) (a : UserAccount) → target_of the_accounts c ≡ Ok a → a ≡ the_account
the_target c a is = target_among (λ b. b ≡ the_account) the_accounts c a (refl, tt) is

-- no copy is made between accounts, where there is one
no_source : (c : Invocation) (a x : UserAccount) → target_of the_accounts c ≡ Ok a → source_of the_accounts c ≡ Some x → ⊥
no_source c a x is there =
    let from : x ≡ the_account = source_among (λ b. b ≡ the_account) the_accounts c x (refl, tt) there in
    source_apart the_accounts c x a is there (ap (λ (b : UserAccount). b.number) (from ∙ sym (the_target c a is)))

performed : (s s' : PortView) (a : UserAccount) (c : Invocation) (made : List Created) (r : Replied) → a ≡ the_account → IsHallPerformed mail_port s a c made r s' → Maps Holds GoneOn s s' (AnswersBy (Ok a) (history_of s) c made r (history_of s'))
performed s s' a c made r is w =
    let at : IsAsked mail_port s 0 (asked w.call made) w.answer s' = subst (λ (b : UserAccount). IsAsked mail_port s b.number (method_call w.call made b.read_only) w.answer s') is w.asked in
    onto Holds GoneOn s s' (IsAccountAnswer (history_of s) (asked w.call made) w.answer (history_of s')) (AnswersBy (Ok a) (history_of s) c made r (history_of s'))
    (λ x. record { call = w.call; out = w.answer; same = w.same; answer = x; shown = w.shown }) (asked_maps s s' (asked w.call made) w.answer at)

answers_by : (t : Result UserAccount (List ℕ)) (from : Option UserAccount) (s s' : PortView) (c : Invocation) (made : List Created) (r : Replied) → target_of the_accounts c ≡ t → source_of the_accounts c ≡ from
    → HallAnswersBy mail_port t from s c made r s' → Maps Holds GoneOn s s' (AnswersBy t (history_of s) c made r (history_of s'))
answers_by (Err kind) from s s' c made r is there w = onto Holds GoneOn s s' (history_of s' ≡ history_of s) (AnswersBy (Err kind) (history_of s) c made r (history_of s')) (λ x. (x, w.1)) (unmoved s s' w.0)
answers_by (Ok a) None s s' c made r is there w = performed s s' a c made r (the_target c a is) w
answers_by (Ok a) (Some x) s s' c made r is there w = absurd (no_source c a x is there)

stops_by : (t : Result UserAccount (List ℕ)) (from : Option UserAccount) (s s' : PortView) (c : Invocation) (made : List Created) → target_of the_accounts c ≡ t → source_of the_accounts c ≡ from
    → StopsBy mail_port t from s c made s' → Maps Holds GoneOn s s' (history_of s' ≡ history_of s)
stops_by (Err kind) from s s' c made is there w = unmoved s s' w
stops_by (Ok a) None s s' c made is there w = stopped_maps s s' (subst (λ (b : UserAccount). HasStopped b.number s s') (the_target c a is) w)
stops_by (Ok a) (Some x) s s' c made is there w = absurd (no_source c a x is there)

its_accounts : (s : PortView) → Holds s → accounts_of s.users s.user ≡ the_accounts
its_accounts s inv = ap₂ accounts_of inv.users inv.user

-- ---- uploads

uploads_to : (s s' : PortView) (bytes : List ℕ) (u : Uploaded) → UploadsTo mail_port (Some the_account) s bytes u s' → Maps Holds GoneOn s s' (account_uploads (history_of s) bytes u (history_of s'))
uploads_to s s' bytes u (stored, did, shown) =
    onto Holds GoneOn s s' (IsAccountAnswer (history_of s) (upload_call bytes) did.answer (history_of s')) (account_uploads (history_of s) bytes u (history_of s'))
    (λ x. record { out = did.answer; answer = x; shown = shown ∙ ap (uploaded_as the_account.id) did.shown }) (asked_maps s s' (upload_call bytes) did.answer did.asked)

-- ---- all steps

pub each_step : IsSimulated history_of Holds GoneOn (hall_answers mail_port) (line_uploads mail_port) (hall_stops mail_port) line_halts account_answers account_uploads account_stops account_halts
each_step = record {
  called = λ s c made r s' w inv.
      answers_by (target_of the_accounts c) (source_of the_accounts c) s s' c made r refl refl (subst (λ accounts. HallAnswersBy mail_port (target_of accounts c) (source_of accounts c) s c made r s') (its_accounts s inv) w) inv;
  uploaded = λ s bytes u s' w inv. uploads_to s s' bytes u (subst (λ accounts. UploadsTo mail_port (first_changeable accounts) s bytes u s') (its_accounts s inv) w) inv;
  stopped = λ s c made s' w inv.
      stops_by (target_of the_accounts c) (source_of the_accounts c) s s' c made refl refl (subst (λ accounts. StopsBy mail_port (target_of accounts c) (source_of accounts c) s c made s') (its_accounts s inv) w) inv;
  halted = λ s bytes s' w inv. stopped_maps s s' (subst (λ accounts. HaltsAt (first_changeable accounts) s s') (its_accounts s inv) w) inv;
}

-- ---- from the first session to the last

at_first : (past : ℕ) (rooms : List RoomView) (session : SessionView) → IsFirst past empty_history session → Holds (port_over rooms the_users session)
at_first past rooms session first = record {
  users = refl;
  user = refl;
  time = refl;
  pass = split_off (root_of first.room.lock past empty_history);
  only = ap (λ (x : SessionView). x.passes) first.is;
  opening = refl;
  reached = let none : last_of 0 session.trail ≡ 0 = ap (λ (x : SessionView). last_of 0 x.trail) first.is in let most : last_of 0 session.trail ≤ 0 = omega (arith, none) in most;
  zeros = subst (λ (x : SessionView). AreOfFirst x.trail) (sym first.is) tt;
}

nothing_yet : (past : ℕ) (rooms : List RoomView) (session : SessionView) → IsFirst past empty_history session → history_of (port_over rooms the_users session) ≡ empty_history
nothing_yet past rooms session first = ap (λ (x : SessionView). history_with empty_history (seen_of x.passes)) first.is

module _ {K : Type 0} (faults : K → ℕ) (never : (k : K) → faults k ≤ 0) (before : ℕ) (rooms : List RoomView) (session : SessionView) (outcome : Result (Unit {0}) LinesFault) (v : Seen)
    (w : AnswersAlone faults mail_plan rooms the_users session outcome v) (first : IsFirst before empty_history session) where
  abbrev start : PortView
  start = port_over rooms the_users session

  abbrev last : PortView
  last = w.answered.after

  begins : Holds start
  begins = at_first before rooms session first

  mapped : Holds last × (GoneOn last → GoneOn start × HasBegunInput account_answers account_uploads account_stops account_halts (history_of start) (history_of last) v)
  mapped = begun history_of Holds GoneOn (hall_answers mail_port) (line_uploads mail_port) (hall_stops mail_port) line_halts account_answers account_uploads account_stops account_halts each_step start last v w.answered.begun begins

  gone_on : GoneOn last
  gone_on =
      let inv = mapped.0 in
      let only : w.after.passes ≡ inv.pass ∷ [] = ap (λ (x : SessionView). x.passes) w.answered.session_is ∙ inv.only in
      let zeros = subst (λ (x : SessionView). AreOfFirst x.trail) (sym w.answered.session_is) inv.zeros in
      let all = alone_goes_on w.after w.entries inv.pass w.alone only inv.opening zeros in
      let seen : seen_of last.session.passes ≡ inv.pass.seen = ap seen_of inv.only in
      let same : w.alone.pass ≡ inv.pass = let e : w.alone.pass ∷ [] ≡ inv.pass ∷ [] = sym w.alone.only ∙ only in cc e in
      let few : refusals_in w.entries ≤ 0 = omega (arith, w.refusals, never w.keeper) in
      let ends : last_of 0 w.after.trail ≡ last_of 0 last.session.trail = ap (λ (x : SessionView). last_of 0 x.trail) w.answered.session_is in
      record {
        goes_on = subst (λ (x : SessionView). GoesOn 0 x.trail) w.answered.session_is all.0;
        few = omega (arith, same_length (seen_of last.session.passes) inv.pass.seen seen, all.1, ends);
        none = ap (list_any is_refused) seen ∙ seen_not_refused w.entries inv.pass.seen (subst (λ (k : PassFacts). StartsWith w.entries k.seen) same w.alone.seen) few;
      }

  empty : history_of start ≡ empty_history
  empty = nothing_yet before rooms session first

  pub batch_begun : HasBegunInput account_answers account_uploads account_stops account_halts empty_history (history_of last) v
  batch_begun = subst (λ (h : History). HasBegunInput account_answers account_uploads account_stops account_halts h (history_of last) v) empty (mapped.1 gone_on).1

  done_by : (r : Result (Unit {0}) LinesFault) → OnOk r (HasAnsweredInput (hall_answers mail_port) (line_uploads mail_port) start last v) → OnOk r (HasAnsweredInput account_answers account_uploads empty_history (history_of last) v)
  done_by (Ok u) did =
      let m = input history_of Holds GoneOn (hall_answers mail_port) (line_uploads mail_port) (hall_stops mail_port) line_halts account_answers account_uploads account_stops account_halts each_step start last v did begins in
      subst (λ (h : History). HasAnsweredInput account_answers account_uploads h (history_of last) v) empty (m.1 gone_on).1
  done_by (Err f) did = tt

  pub batch_done : OnOk outcome (HasAnsweredInput account_answers account_uploads empty_history (history_of last) v)
  batch_done = done_by outcome w.answered.ok

  fault_by : (f : LinesFault) → ExplainsFault (hall_answers mail_port) (line_uploads mail_port) start last f v → ExplainsFault account_answers account_uploads empty_history (history_of last) f v
  fault_by lines.ReadFault why =
      let m = ended history_of Holds GoneOn (hall_answers mail_port) (line_uploads mail_port) (hall_stops mail_port) line_halts account_answers account_uploads account_stops account_halts each_step start last v why.1 begins in
      (why.0, subst (λ (h : History). HasAnsweredEnded account_answers account_uploads h (history_of last) v) empty (m.1 gone_on).1)
  fault_by lines.WriteFault why = why
  fault_by lines.NoMemory why = tt
  fault_by lines.TooLong why =
      let m = within history_of Holds GoneOn (hall_answers mail_port) (line_uploads mail_port) (hall_stops mail_port) line_halts account_answers account_uploads account_stops account_halts each_step start last v why begins in
      subst (λ (h : History). ExplainsFault account_answers account_uploads h (history_of last) lines.TooLong v) empty (m.1 gone_on).1

  explained : (r : Result (Unit {0}) LinesFault) → IfErr r (λ f. ExplainsFault (hall_answers mail_port) (line_uploads mail_port) start last f v) → IfErr r (λ f. ExplainsFault account_answers account_uploads empty_history (history_of last) f v)
  explained (Ok u) why = tt
  explained (Err f) why = fault_by f why

  pub batch_explained : IfErr outcome (λ f. ExplainsFault account_answers account_uploads empty_history (history_of last) f v)
  batch_explained = explained outcome w.answered.cause

-- lines that were answered with a session that was alone are answered by the account of `batch`, which ends with this history
pub record IsBatch (outcome : Result (Unit {0}) LinesFault) (v : Seen) : Type 0 where
  pub history : History
  pub ok : OnOk outcome (HasAnsweredInput account_answers account_uploads empty_history history v)
  pub cause : IfErr outcome (λ f. ExplainsFault account_answers account_uploads empty_history history f v)
  pub begun : HasBegunInput account_answers account_uploads account_stops account_halts empty_history history v

pub is_batch : {K : Type 0} (faults : K → ℕ) (before : ℕ) (rooms : List RoomView) (users : Configuration) (session : SessionView) (outcome : Result (Unit {0}) LinesFault) (v : Seen) → ((k : K) → faults k ≤ 0) → users ≡ the_users → IsFirst before empty_history session
    → AnswersAlone faults mail_plan rooms users session outcome v → IsBatch outcome v
is_batch faults before rooms users session outcome v never is first answered =
    let w = subst (λ (u : Configuration). AnswersAlone faults mail_plan rooms u session outcome v) is answered in
    record {
      history = history_of w.answered.after;
      ok = batch_done faults never before rooms session outcome v w first;
      cause = batch_explained faults never before rooms session outcome v w first;
      begun = batch_begun faults never before rooms session outcome v w first;
    }
