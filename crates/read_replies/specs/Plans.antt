-- The plans of methods that read, by the outcomes of their calls: one response, or one error (RFC
-- 8620, 3.4 and 3.6.2). None changes anything.
use Rattle.std.specs.Prelude.{ℕ, List, [], ◌∷◌, codes}
use Rattle.jm_base.specs.declared.identifiers.Kind.{Kind}
use Rattle.jm_json.specs.Call.{Call as Invocation, error_of}
use Rattle.jm_json.specs.Tree.{Tree}
use Rattle.mail_records.specs.Histories.{History, blobs_of, content_of}
use Rattle.mail_records.specs.States.{state_of}
use Rattle.mail_view.specs.Gets.{Got, invalid, too_large, got}
use Rattle.method_args.specs.Outcomes.{Outcome, response_of}
use Rattle.message_texts.specs.Texts.{texts_of_blobs}
use Rattle.query_engine.specs.Responses.{query_outcome}
use Rattle.query_changes.specs.Responses.{query_changes_outcome}
use Rattle.account_book.specs.declared.plans.Out.TheVariants.{Replies}
use Rattle.account_book.specs.declared.plans.Plan.{Plan}

-- one response, and nothing made or changed
abbrev pub answered : Invocation → Plan
answered response = record {
  out = Replies (record { responses = response ∷ []; made = [] });
  blobs = [];
  edits = [];
}

-- an error of this type
abbrev pub refused : Invocation → List ℕ → Plan
refused c kind = answered (error_of kind c.id)

-- the response to a call: its name and id, with these arguments
abbrev pub response_to : Invocation → Tree → Invocation
response_to c args = record { name = c.name; args = args; id = c.id }

-- the plan of a get, or of a parse
abbrev pub get_plan : Invocation → Got → Plan
get_plan c (invalid name) = refused c (codes "invalidArguments")
get_plan c too_large = refused c (codes "requestTooLarge")
get_plan c (got t) = answered (response_to c t)

-- the plan of a call that is answered so, and changes nothing
abbrev pub outcome_plan : Invocation → Outcome → Plan
outcome_plan c o = answered (response_of c o)

-- the outcome of a query of a kind over the account's content, where texts are those of its blobs
abbrev pub queried : History → Kind → Tree → Outcome
queried h kind args =
    query_outcome kind (state_of h kind) (content_of h) (texts_of_blobs (blobs_of h)) args

-- the outcome of a call for the changes of a query of a kind over an account with this history,
-- where texts are those of its blobs
abbrev pub query_changed : History → Kind → Tree → Outcome
query_changed h kind args = query_changes_outcome h (texts_of_blobs (blobs_of h)) kind args
