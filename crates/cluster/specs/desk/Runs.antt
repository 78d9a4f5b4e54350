-- Theorems about the answers of a desk over failed writes and restarts, proved by
-- `src/theorems.rt`.
use Rattle.std.specs.Prelude.{◌≡◌, ℕ, ◌+◌, ◌<◌, ◌≤◌, true, false, List, [], ◌∷◌, ◌++◌, length, None, Ok}
use Rattle.lists.specs.Lists.{In}
use Rattle.ballot_base.specs.declared.config.Config.{Config}
use Rattle.ballot_base.specs.LawfulConfig.{max_number}
use Rattle.cluster.specs.desk.States.{DeskState, activated_by, assign_refusal, assigned_to, no_number, opening_desk, started, waits_for}
use Rattle.cluster.specs.desk.Form.{desk_of, form}
use Rattle.cluster.specs.desk.Keeping.{AreAmong}

-- what a desk answered
pub data Answer : Type 0 where
  -- a start of a node gets this number
  number : ℕ → Answer
  -- this ballot was assigned
  ballot : ℕ → Answer
  -- this ballot is active
  activated : ℕ → Answer
  -- this ballot was superseded
  superseded : ℕ → Answer

-- an answer that changes the state, and the state after it
pub data Changes (state : DeskState) : Answer → DeskState → Type 0 where
  starts : state.next < no_number → Changes state (number state.next) (started state)
  assigns : (config : Config) → assign_refusal state config ≡ None
      → Changes state (ballot (state.master.given + 1)) (assigned_to state config)
  activates : (b : ℕ) → waits_for state.master.waiting b ≡ true
      → Changes state (activated b) (activated_by state b)

-- an answer that changes nothing
pub data Repeats (state : DeskState) : Answer → Type 0 where
  stays : Repeats state (activated state.master.active)
  was : (b : ℕ) → waits_for state.master.waiting b ≡ false → (b ≡ state.master.active → ⊥)
      → Repeats state (superseded b)

-- The answers of a cluster's desk, the oldest first, its state, and the bytes that a restart may
-- read.
pub data Ran : List Answer → DeskState → List (List ℕ) → Type 0 where
  -- a new cluster, kept
  opens : (cluster : List ℕ) → length cluster ≡ 16
      → Ran [] (opening_desk cluster) (form (opening_desk cluster) ∷ [])
  -- the new state is kept, then the desk answers
  answers : {given : List Answer} {state : DeskState} {stands : List (List ℕ)} (answer : Answer)
      (new : DeskState) → Ran given state stands → Changes state answer new
      → Ran (given ++ answer ∷ []) new (form new ∷ [])
  -- the desk answers as it is
  repeats : {given : List Answer} {state : DeskState} {stands : List (List ℕ)} (answer : Answer)
      → Ran given state stands → Repeats state answer → Ran (given ++ answer ∷ []) state stands
  -- the new state could not be kept: nothing is answered, and it may stand or not
  fails : {given : List Answer} {state : DeskState} {stands : List (List ℕ)} (answer : Answer)
      (new : DeskState) (now : List (List ℕ)) → Ran given state stands → Changes state answer new
      → AreAmong now (form new ∷ stands) → Ran given state now
  -- the master is started again, reads what stands, and keeps it once more
  restarts : {given : List Answer} {state : DeskState} {stands : List (List ℕ)} (bytes : List ℕ)
      (read : DeskState) → Ran given state stands → In bytes stands → desk_of bytes ≡ Ok read
      → Ran given read (bytes ∷ [])

-- the numbers that starts of nodes got
abbrev pub numbers : List Answer → List ℕ
numbers [] = []
numbers (number n ∷ given) = n ∷ numbers given
numbers (_ ∷ given) = numbers given

-- the ballots that were assigned
abbrev pub ballots : List Answer → List ℕ
ballots [] = []
ballots (ballot b ∷ given) = b ∷ ballots given
ballots (_ ∷ given) = ballots given

-- the ballots that were answered to be active
abbrev pub active_ones : List Answer → List ℕ
active_ones [] = []
active_ones (activated b ∷ given) = b ∷ active_ones given
active_ones (_ ∷ given) = active_ones given

-- each is above the one before it, from above this one on
abbrev pub Rises : ℕ → List ℕ → Type 0
Rises last [] = Unit {0}
Rises last (n ∷ ns) = (last < n) × Rises n ns

-- none is below the one before it
abbrev pub NeverFalls : ℕ → List ℕ → Type 0
NeverFalls last [] = Unit {0}
NeverFalls last (n ∷ ns) = (last ≤ n) × NeverFalls n ns

-- no two starts get one number, and none gets one that no node may have
abbrev pub EachStartHasItsNumber : Type 0
EachStartHasItsNumber = (given : List Answer) (state : DeskState) (stands : List (List ℕ))
    → Ran given state stands
    → Rises 0 (numbers given) × ((n : ℕ) → In n (numbers given) → n ≤ max_number)

-- no ballot is assigned twice, nor is ballot 1, with which the cluster begins
abbrev pub NoBallotIsAssignedTwice : Type 0
NoBallotIsAssignedTwice = (given : List Answer) (state : DeskState) (stands : List (List ℕ))
    → Ran given state stands → Rises 1 (ballots given)

-- Once a ballot was answered to be active, no older one ever is, and it stays the active one until
-- a newer one is.
abbrev pub ActiveBallotsRise : Type 0
ActiveBallotsRise = (given : List Answer) (state : DeskState) (stands : List (List ℕ))
    → Ran given state stands
    → NeverFalls 1 (active_ones given)
    × ((b : ℕ) → In b (active_ones given) → b ≤ state.master.active)

-- a ballot that was given and answered to be superseded is never answered to be active afterwards
abbrev pub SupersededForGood : Type 0
SupersededForGood =
    (before later : List Answer) (b : ℕ) (state : DeskState) (stands : List (List ℕ))
    → Ran (before ++ superseded b ∷ later) state stands
    → In b (ballots before) → In b (active_ones later) → ⊥
