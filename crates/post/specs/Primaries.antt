-- The node to which an order about a client goes, by the status that each node showed last.
use Rattle.std.specs.Prelude.{◌≡◌, ℕ, ◌≤◌, Bool, true, false, ◌&&◌, nat_lt, if◌then◌else◌, List, [], ◌∷◌, Option, Some, None}
use Rattle.ballot_base.specs.Replica.{serves_in_role}
use Rattle.lists.specs.Lists.{Each, In}
use Rattle.post.specs.declared.recipients.Shown.{Shown}

-- the node serves clients: it is the active primary of its ballot, and did not crash
abbrev pub serves : Shown → Bool
serves shown = serves_in_role shown.status.role shown.status.stopped

-- none of these nodes serves in a higher ballot
abbrev pub NoneIsHigher : ℕ → List Shown → Type 0
NoneIsHigher ballot = Each (λ shown. serves shown ≡ true → shown.status.ballot ≤ ballot)

-- the node of this number serves, in the highest ballot in which one of these nodes does
pub record IsHighest (number : ℕ) (nodes : List Shown) : Type 0 where
  pub shown : Shown
  pub among : In shown nodes
  pub names : shown.number ≡ number
  pub is_served : serves shown ≡ true
  pub highest : NoneIsHigher shown.status.ballot nodes

-- none of these nodes serves
abbrev pub NoneServes : List Shown → Type 0
NoneServes = Each (λ shown. serves shown ≡ false)

-- of two nodes the one that serves in the higher ballot; the first if the ballots are equal
abbrev pub higher : Option Shown → Shown → Option Shown
higher None shown = if serves shown then Some shown else None
higher (Some best) shown =
    if serves shown && nat_lt best.status.ballot shown.status.ballot then Some shown else Some best

-- the node that serves in the highest ballot, among one that was found before and these nodes
abbrev pub highest_from : Option Shown → List Shown → Option Shown
highest_from found [] = found
highest_from found (shown ∷ nodes) = highest_from (higher found shown) nodes
