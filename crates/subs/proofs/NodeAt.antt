-- What the nodes show at a number that names this node, or none.
use Rattle.std.proofs.Common.{◌≡◌, ℕ, List, [], ◌∷◌, Bool, true, false, Option, Some, None, refl, sym, ◌∙◌, ap, ap₂, codes}
use Rattle.std.specs.Prelude.{option_and_then}
use Rattle.slab.specs.Slab.{Slab, get}
use Rattle.topics.specs.Text.{Levels}
use Rattle.packet_base.specs.declared.qos.QoS.{QoS}
use Rattle.subs.specs.declared.node.Node.{Node}
use Rattle.subs.specs.Shape.{Shape}
use Rattle.subs.specs.Changes.{IsBare}
use Rattle.subs.specs.Inside.{clients_at, child_in, shape_of}
use Rattle.subs.specs.Walk.{greatest, found_at}

pub asked_is : (nodes : Slab Node) (n : ℕ) (node : Node) → get nodes n ≡ Some node → (r : Bool) → (shape_of nodes).asked n r ≡ clients_at node r
asked_is nodes n node h r = λ i c. option_and_then (λ x. clients_at x r c) (h i)

pub child_is : (nodes : Slab Node) (n : ℕ) (node : Node) → get nodes n ≡ Some node → (l : List ℕ) → (shape_of nodes).child n l ≡ child_in node l
child_is nodes n node h l = ap (λ o. option_and_then (λ x. child_in x l) o) h

-- a number that names no node
pub bare_none : (nodes : Slab Node) (n : ℕ) → get nodes n ≡ None → IsBare (shape_of nodes) n
bare_none nodes n h = record {
  child = λ l. ap (λ o. option_and_then (λ x. child_in x l) o) h;
  asked = λ r c. ap (λ o. option_and_then (λ x. clients_at x r c) o) h;
}

-- nothing is found at an empty node
found_nothing : (s : Shape) (n : ℕ) (ls : Levels) (c : List ℕ) → IsBare s n → found_at s n ls c ≡ None
found_nothing s n [] c bare = ap₂ greatest (bare.asked true c) (bare.asked false c)
found_nothing s n (l ∷ ls) c bare =
    ap₂ greatest (bare.asked true c)
    (ap₂ greatest
    (ap (λ o. option_and_then (λ b. found_at s b ls c) o) (bare.child l))
    (ap (λ o. option_and_then (λ b. found_at s b ls c) o) (bare.child (codes "+"))))

pub nothing_raised : (s : Shape) (n : ℕ) (ls : Levels) (c : List ℕ) (q : Option QoS) → IsBare s n → q ≡ greatest q (found_at s n ls c)
nothing_raised s n ls c q bare = keeps q ∙ sym (ap (greatest q) (found_nothing s n ls c bare))
  where
    keeps : (q : Option QoS) → q ≡ greatest q None
    keeps None = refl
    keeps (Some p) = refl
