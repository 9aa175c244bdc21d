-- A port keeps its hall, whatever it is asked.
use Rattle.std.proofs.Common.{◌≡◌, ◌⊎◌, inl, inr, ℕ, List, Option, None, Some, Result, Ok, Err, IsUtf8, refl, ap, ◌∙◌}
use Rattle.jm_json.specs.Call.{Call as Invocation}
use Rattle.jm_json.specs.declared.invocation.Created.{Created}
use Rattle.jm_json.specs.declared.invocation.Replied.{Replied}
use Rattle.account_book.specs.declared.asks.Call.{Call}
use Rattle.account_book.specs.declared.plans.Out.{Out}
use Rattle.batch_lines.specs.declared.upload.Uploaded.{Uploaded}
use Rattle.server_users.specs.declared.users.UserAccount.{UserAccount}
use Rattle.hall_port.specs.Lines.{HaltsAt, UploadsTo, first_changeable, line_halts, line_uploads}
use Rattle.hall_port.specs.Serving.{hall_steps}
use Rattle.hall_port.specs.Steps.{AnswersBy, AnswersFrom, Calls, HasBegunTo, HasStopped, IsAsked, IsRead, IsUploaded, StopsBy, StopsFrom, has_account}
use Rattle.read_replies.specs.Targets.{accounts_of, source_of, target_of}
use Rattle.hall_port.specs.Views.{PortView}
use Rattle.hall_port.proofs.Through.{IsKeptBySteps, by_cond}
use Rattle.hall_port.proofs.ThroughLines.{IsKeptByLines}

abbrev pub HasSameRooms : PortView → PortView → Type 0
HasSameRooms s s' = s'.rooms ≡ s.rooms

same : (s s' : PortView) → s' ≡ s → HasSameRooms s s'
same s s' is = ap (λ (p : PortView). p.rooms) is

asked : (calls : Calls) (s s' : PortView) (account : ℕ) (call : Call) (out : Out) → IsAsked calls s account call out s' → HasSameRooms s s'
asked calls s s' account call out a = ap (λ (p : PortView). p.rooms) a.rest

stopped : (account : ℕ) (s s' : PortView) → HasStopped account s s' → HasSameRooms s s'
stopped account s s' (inl is) = same s s' is
stopped account s s' (inr (look, rest)) = ap (λ (p : PortView). p.rooms) rest

answered_from : (calls : Calls) (from : Option UserAccount) (a : UserAccount) (s s' : PortView) (c : Invocation) (made : List Created) (r : Replied) → AnswersFrom calls from a s c made r s' → HasSameRooms s s'
answered_from calls None a s s' c made r did = asked calls s s' _ _ _ did.asked
answered_from calls (Some from) a s s' c made r did = ap (λ (p : PortView). p.rooms) did.rest

answered : (calls : Calls) (t : Result UserAccount (List ℕ)) (from : Option UserAccount) (s s' : PortView) (c : Invocation) (made : List Created) (r : Replied) → AnswersBy calls t from s c made r s' → HasSameRooms s s'
answered calls (Ok a) from s s' c made r did = answered_from calls from a s s' c made r did
answered calls (Err kind) from s s' c made r (is, shown) = same s s' is

begun_to : (calls : Calls) (from a : UserAccount) (s s' : PortView) (c : Invocation) (made : List Created) → (s' ≡ s) ⊎ HasBegunTo calls s from a c made s' → HasSameRooms s s'
begun_to calls from a s s' c made (inl is) = same s s' is
begun_to calls from a s s' c made (inr w) = ap (λ (p : PortView). p.rooms) w.rest

stops_from : (calls : Calls) (from : Option UserAccount) (a : UserAccount) (s s' : PortView) (c : Invocation) (made : List Created) → StopsFrom calls from a s c made s' → HasSameRooms s s'
stops_from calls None a s s' c made did = stopped a.number s s' did
stops_from calls (Some from) a s s' c made did = begun_to calls from a s s' c made did

stops : (calls : Calls) (t : Result UserAccount (List ℕ)) (from : Option UserAccount) (s s' : PortView) (c : Invocation) (made : List Created) → StopsBy calls t from s c made s' → HasSameRooms s s'
stops calls (Ok a) from s s' c made did = stops_from calls from a s s' c made did
stops calls (Err kind) from s s' c made is = same s s' is

read : (calls : Calls) (s s' : PortView) (account : ℕ) (blob : List ℕ) (bytes : Option (List ℕ))
    → (IsUtf8 blob × IsRead calls s account blob bytes s') ⊎ (¬ IsUtf8 blob × (s' ≡ s) × (bytes ≡ None)) → HasSameRooms s s'
read calls s s' account blob bytes (inl (utf8, did)) = asked calls s s' _ _ _ did.asked
read calls s s' account blob bytes (inr (others, is, none)) = same s s' is

pub rooms_stay : (calls : Calls) → IsKeptBySteps (hall_steps calls) HasSameRooms
rooms_stay calls = record {
  stay = λ s. refl;
  go = λ s m s' one two. two ∙ one;
  begins = λ s user time s' is. ap (λ (p : PortView). p.rooms) is;
  answers = λ s c made r s' did. answered calls (target_of (accounts_of s.users s.user) c) (source_of (accounts_of s.users s.user) c) s s' c made r did;
  stops = λ s c made s' did. stops calls (target_of (accounts_of s.users s.user) c) (source_of (accounts_of s.users s.user) c) s s' c made did;
  uploads = λ s account bytes stored s' did. by_cond (has_account s account) _ _ _ (λ (u : IsUploaded calls s account bytes stored s'). asked calls s s' _ _ _ u.asked) (λ u. same s s' u.0) did;
  upload_stops = λ s account bytes s' did. by_cond (has_account s account) _ _ _ (stopped account s s') (same s s') did;
  reads = λ s account blob bytes s' did. by_cond (has_account s account) _ _ _ (read calls s s' account blob bytes) (λ u. same s s' u.0) did;
  read_stops = λ s account blob s' did. by_cond (has_account s account) _ _ _ (stopped account s s') (same s s') did;
}

uploads_to : (calls : Calls) (o : Option UserAccount) (s : PortView) (bytes : List ℕ) (u : Uploaded) (s' : PortView) → UploadsTo calls o s bytes u s' → HasSameRooms s s'
uploads_to calls None s bytes u s' w = same s s' w.0
uploads_to calls (Some a) s bytes u s' (stored, did, shown) = asked calls s s' _ _ _ did.asked

halts_at : (o : Option UserAccount) (s s' : PortView) → HaltsAt o s s' → HasSameRooms s s'
halts_at None s s' is = same s s' is
halts_at (Some a) s s' w = stopped a.number s s' w

pub rooms_stay_by_lines : (calls : Calls) → IsKeptByLines (line_uploads calls) line_halts HasSameRooms
rooms_stay_by_lines calls = record {
  uploaded = λ s bytes u s' w. uploads_to calls (first_changeable (accounts_of s.users s.user)) s bytes u s' w;
  halted = λ s bytes s' w. halts_at (first_changeable (accounts_of s.users s.user)) s s' w;
}
