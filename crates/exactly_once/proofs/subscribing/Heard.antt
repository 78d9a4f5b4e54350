-- The list takes an answer of the client: the sender receives it.
use Rattle.std.proofs.Common.{◌≡◌, ℕ, true, false, ◌==◌, List, [], ◌∷◌, ◌++◌, Some, None, refl, ap, sym, ◌∙◌, subst, inl, inr}
use Rattle.std.proofs.lemmas.Bool.{both_ways}
use Rattle.session_base.specs.declared.publication.Publication.{Publication}
use Rattle.exactly_once.specs.Items.{SenderItem, has_sent}
use Rattle.exactly_once.specs.Handshake.{Forward, Backward, Transit, Handshake, sender_hears, reply, with_items}
use Rattle.exactly_once.specs.HandshakeSteps.{HandshakeTrace}
use Rattle.exactly_once.specs.HandshakeSteps.HandshakeStep.{hears, hears_alone}
use Rattle.exactly_once.specs.HandshakeSteps.HandshakeTrace.{stays, goes_on}
use Rattle.exactly_once.specs.HandshakeInvariant.{IsGood, FitsTransit, IsJoined, IsBehind}
use Rattle.lists.proofs.Tests.{or_then}
use Rattle.exactly_once.proofs.subscribing.Standing.{Stands}
use Rattle.exactly_once.proofs.subscribing.Views.{View, link_as, grown}

-- a transit is of one kind
not_joined : (f g : List (Forward Publication)) (b : List Backward) → Transit.Ahead f ≡ Transit.Joined g b → ⊥
not_joined f g b e = cc

-- nor of another
not_behind : (f : List (Forward Publication)) (b : List Backward) → Transit.Ahead f ≡ Transit.Behind b → ⊥
not_behind f b e = cc

-- what has a first is not empty
no_cons : (m : Backward) (b : List Backward) → m ∷ b ≡ [] → ⊥
no_cons m b e = cc

-- nothing comes if the sender has left
never_ahead : (l : Transit Publication) (f : List (Forward Publication)) (m : Backward) (b : List Backward) → l ≡ Transit.Ahead f → Stands l (m ∷ b) → ⊥
never_ahead l f m b e (inl g) = not_behind f (m ∷ b) (sym e ∙ g)
never_ahead l f m b e (inr (inl (k, g))) = not_joined f k (m ∷ b) (sym e ∙ g)
never_ahead l f m b e (inr (inr (k, g, n))) = no_cons m b n

-- the sender receives what comes first
pub hears_view : (h : Handshake Publication) (v : View) (m : Backward) (b : List Backward) → h.transit ≡ link_as v (m ∷ b) → Stands h.transit (m ∷ b)
    → HandshakeTrace h (with_items (sender_hears m h.items) (link_as (grown (reply m) v) b) h)
hears_view h None m b e st = goes_on stays (hears_alone m b e)
hears_view h (Some (f, true)) m b e st = goes_on stays (hears m f b e)
hears_view h (Some (f, false)) m b e st = absurd (never_ahead h.transit f m b e st)

-- what is sent of the first ones is sent of all
sent_front : (i : ℕ) (old new : List (SenderItem Publication)) → has_sent i old ≡ true → has_sent i (old ++ new) ≡ true
sent_front i [] new e = absurd (both_ways false refl e)
sent_front i (SenderItem.Queued v ∷ old) new e = sent_front i old new e
sent_front i (SenderItem.Sent v id ∷ old) new e = or_then (i == id) (has_sent i old) (has_sent i (old ++ new)) e (sent_front i old new)
sent_front i (SenderItem.Released v id ∷ old) new e = sent_front i old new e
sent_front i (SenderItem.Done v ∷ old) new e = sent_front i old new e

-- a PUBREC is of a sent item
pub pubrec_due : (h : Handshake Publication) (v : View) (i : ℕ) (b : List Backward) → IsGood h → h.transit ≡ link_as v (Backward.Pubrec i ∷ b) → Stands h.transit (Backward.Pubrec i ∷ b) → has_sent i h.items ≡ true
pubrec_due h None i b g e st =
    let due : IsBehind h.received g.old (Backward.Pubrec i ∷ b) = subst (FitsTransit h.received g.old g.new) e g.transit in
    ap (has_sent i) g.sides.is ∙ sent_front i g.old g.new due.due.0
pubrec_due h (Some (f, true)) i b g e st =
    let due : IsJoined h.received g.old g.new f (Backward.Pubrec i ∷ b) = subst (FitsTransit h.received g.old g.new) e g.transit in
    ap (has_sent i) g.sides.is ∙ sent_front i g.old g.new due.due.0
pubrec_due h (Some (f, false)) i b g e st = absurd (never_ahead h.transit f (Backward.Pubrec i) b e st)
