-- The changes of the slab of nodes: a row, a child, a new node, a freed node.
use Rattle.std.specs.Prelude.{◌≡◌, ℕ, Bool, true, false, not, ◌&&◌, ◌||◌, ◌==◌, List, bytes_eq}
use Rattle.std.specs.Prelude.{Option, None, if◌then◌else◌}
use Rattle.packet_base.specs.declared.qos.QoS.{QoS}
use Rattle.subs.specs.Shape.{Shape}

-- whether two sides are the same
abbrev pub same_side : Bool → Bool → Bool
same_side true side = side
same_side false side = not side

-- a node's rows by client, in `here` (false) or `rest` (true)
abbrev pub NodeRows : Type 0
NodeRows = Bool → List ℕ → Option QoS

-- the child after each level
abbrev pub NodeChildren : Type 0
NodeChildren = List ℕ → Option ℕ

-- the client's row on that side becomes this one, and no other changes
abbrev pub SetsRow : NodeRows → NodeRows → Bool → List ℕ → Option QoS → Type 0
SetsRow old new rest client kept =
    (side : Bool) (other : List ℕ)
    → new side other
    ≡ (if same_side rest side && bytes_eq client other then kept else old side other)

-- the rows on that side become these, and no others change
abbrev pub SetsSide : NodeRows → NodeRows → Bool → (List ℕ → Option QoS) → Type 0
SetsSide old new rest kept =
    (side : Bool) (client : List ℕ)
    → new side client ≡ (if same_side rest side then kept client else old side client)

-- the child after the level becomes this one, and no other changes
abbrev pub SetsChild : NodeChildren → NodeChildren → List ℕ → Option ℕ → Type 0
SetsChild old new level below =
    (other : List ℕ) → new other ≡ (if bytes_eq level other then below else old other)

-- a row of one node is changed
pub record WritesRow (old new : Shape) (at : ℕ) (rest : Bool) (client : List ℕ)
    (kept : Option QoS) : Type 0 where
  pub child : new.child ≡ old.child
  pub used : new.used ≡ old.used
  pub asked :
      (node : ℕ) (side : Bool) (other : List ℕ)
      → new.asked node side other
      ≡ (if (node == at) && (same_side rest side && bytes_eq client other) then kept
      else old.asked node side other)

-- the rows on one side of a node are replaced
pub record Fills (old new : Shape) (at : ℕ) (rest : Bool)
    (kept : List ℕ → Option QoS) : Type 0 where
  pub child : new.child ≡ old.child
  pub used : new.used ≡ old.used
  pub asked :
      (node : ℕ) (side : Bool) (client : List ℕ)
      → new.asked node side client
      ≡ (if (node == at) && same_side rest side then kept client else old.asked node side client)

-- a child of one node is changed
pub record Links (old new : Shape) (at : ℕ) (level : List ℕ) (below : Option ℕ) : Type 0 where
  pub child : (node : ℕ) (other : List ℕ)
      → new.child node other
      ≡ (if (node == at) && bytes_eq level other then below else old.child node other)
  pub asked : new.asked ≡ old.asked
  pub used : new.used ≡ old.used

-- a number that was not used names an empty node
pub record AddsNode (old new : Shape) (at : ℕ) : Type 0 where
  pub child : new.child ≡ old.child
  pub asked : new.asked ≡ old.asked
  pub free : old.used at ≡ false
  pub used : (node : ℕ) → new.used node ≡ ((node == at) || old.used node)

-- the node has no row and no child
pub record IsBare (shape : Shape) (at : ℕ) : Type 0 where
  pub child : (level : List ℕ) → shape.child at level ≡ None
  pub asked : (side : Bool) (client : List ℕ) → shape.asked at side client ≡ None

-- the number of an empty node becomes free
pub record FreesNode (old new : Shape) (at : ℕ) : Type 0 where
  pub child : new.child ≡ old.child
  pub asked : new.asked ≡ old.asked
  pub used : (node : ℕ) → new.used node ≡ (not (node == at) && old.used node)
