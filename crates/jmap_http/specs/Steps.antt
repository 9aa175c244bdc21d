-- What the meaning of a `UserPort` is, in one record: the steps by which it goes from a state to
-- another.
use Rattle.std.specs.Prelude.{ℕ, List, Option}
use Rattle.jm_json.specs.Call.{Call}
use Rattle.jm_json.specs.declared.invocation.Created.{Created}
use Rattle.jm_json.specs.declared.invocation.Replied.{Replied}
use Rattle.jmap_http.specs.declared.port.AccountStates.{AccountStates}
use Rattle.jmap_http.specs.declared.port.Stored.{Stored}

-- the steps of a port beside its calls
pub record OwnSteps (S : Type 0) : Type 1 where
  -- a request of this user begins, at this timestamp
  pub begins : S → ℕ → ℕ → S → Type 0
  -- an upload of these bytes to the account of this number is answered, or ends out of memory
  pub uploads : S → ℕ → List ℕ → Stored → S → Type 0
  pub upload_stops : S → ℕ → List ℕ → S → Type 0
  -- what an identifier of a blob names in an account is read, or that ends out of memory
  pub reads : S → ℕ → List ℕ → Option (List ℕ) → S → Type 0
  pub read_stops : S → ℕ → List ℕ → S → Type 0
  -- the states of an account are read, or that ends out of memory
  pub looks : S → ℕ → Option AccountStates → S → Type 0
  pub look_stops : S → ℕ → S → Type 0

-- all steps of a port
pub record UserSteps (S : Type 0) : Type 1 where
  -- a request of this user begins, at this timestamp
  pub begins : S → ℕ → ℕ → S → Type 0
  -- a call is answered, or ends out of memory
  pub answers : S → Call → List Created → Replied → S → Type 0
  pub stops : S → Call → List Created → S → Type 0
  -- an upload of these bytes to the account of this number is answered, or ends out of memory
  pub uploads : S → ℕ → List ℕ → Stored → S → Type 0
  pub upload_stops : S → ℕ → List ℕ → S → Type 0
  -- what an identifier of a blob names in an account is read, or that ends out of memory
  pub reads : S → ℕ → List ℕ → Option (List ℕ) → S → Type 0
  pub read_stops : S → ℕ → List ℕ → S → Type 0
  -- the states of an account are read, or that ends out of memory
  pub looks : S → ℕ → Option AccountStates → S → Type 0
  pub look_stops : S → ℕ → S → Type 0

-- the steps of a port, by the relations of its calls and those beside them
abbrev pub steps_of : {S : Type 0} → (S → Call → List Created → Replied → S → Type 0) → (S → Call
    → List Created → S → Type 0) → OwnSteps S → UserSteps S
steps_of answers stops own = record {
  begins = own.begins;
  answers = answers;
  stops = stops;
  uploads = own.uploads;
  upload_stops = own.upload_stops;
  reads = own.reads;
  read_stops = own.read_stops;
  looks = own.looks;
  look_stops = own.look_stops;
}
