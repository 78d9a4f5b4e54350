-- Moved.antt: a move of one node keeps a world sound, if the node, its messages and its outputs are
-- so.
use Rattle.std.proofs.Common.{◌≡◌, ℕ, ◌⊎◌, inl, inr, List, [], ◌∷◌, set, Some, Option, ap, sym, ◌∙◌, subst}
use Rattle.std.specs.Prelude.{slice_get}
use Rattle.std.proofs.lemmas.Bool.{cases_eq}
use Rattle.machine.specs.Machine.{Rules}
use Rattle.agreement.specs.whole_logs.Messages.{Message, Effect}
use Rattle.agreement.specs.whole_logs.Replica.{ReplicaState}
use Rattle.agreement.specs.World.{GroupWorld, messages, moved}
use Rattle.lists.specs.Lists.{In}
use Rattle.agreement.specs.Inside.Ballots.{Line, History}
use Rattle.agreement.specs.Inside.BallotsStand.{AreBallots, IsChain}
use Rattle.agreement.specs.Inside.MovesAt.{MovesAt, with_lines}
use Rattle.agreement.specs.Inside.Sound.{LeftIs, IsSoundWorld}
use Rattle.agreement.specs.Inside.SoundNodes.{IsSoundNode}
use Rattle.agreement.specs.Inside.MessageMeaning.{SpeaksTruth}
use Rattle.lists.proofs.Places.{get_set, get_set_other}
use Rattle.lists.proofs.Members.{in_append}
use Rattle.agreement.proofs.Frame.SaysLater.{says_kept}
use Rattle.agreement.proofs.Frame.Framing.{within_of, move_extends, move_within}
use Rattle.agreement.proofs.Frame.MoveLines.{move_lines}
use Rattle.agreement.proofs.Frame.Others.{other_node}

-- a chain with other lists
chain_same : {C : Type 0} (h : History C) (line : ℕ → Option (Line C)) (bs : List ℕ) → IsChain h bs → IsChain (with_lines h line) bs
chain_same h line [] c = c
chain_same h line (b ∷ []) c = c
chain_same h line (b ∷ (p ∷ older)) c = (c.0, chain_same h line (p ∷ older) c.1)

-- the rows on ballots say nothing of lists
pub ballots_same : {C : Type 0} (h : History C) (line : ℕ → Option (Line C)) → AreBallots h → AreBallots (with_lines h line)
ballots_same h line s =
    record {
      chain = chain_same h line h.activated s.chain;
      first = s.first;
      previous = s.previous;
      gap = s.gap;
      were_given = s.were_given;
      led = s.led;
    }

-- a move keeps a world sound
pub move_sound : {S C O : Type 0} (rules : Rules S C O) (w : GroupWorld S C O) (h : History C) (line : ℕ → Option (Line C)) (n : ℕ)
    (old new : ReplicaState S C) (given : List (Effect C O)) → IsSoundWorld rules w h → MovesAt w h line n old new given →
    IsSoundNode (moved w n new given) (with_lines h line) n new →
    ((to : ℕ) (m : Message C) → In (to, m) (messages given) → SpeaksTruth (moved w n new given) (with_lines h line) to m.from m.body) →
    LeftIs rules (moved w n new given) (with_lines h line) →
    IsSoundWorld rules (moved w n new given) (with_lines h line)
move_sound {S = S} {C = C} {O = O} rules w h line n old new given s q node says left =
    record {
      ballots = ballots_same h line s.ballots;
      lines = move_lines w h line n old new given q (within_of rules w h s) s.lines;
      within = move_within w h line n old new given q s.within;
      said = λ to m j. by_sent to m (in_append w.sent (messages given) j);
      nodes = λ m r e. by_place m r e (cases_eq m n);
      left = left;
    }
  where
    by_sent : (to : ℕ) (m : Message C) → In (to, m) w.sent ⊎ In (to, m) (messages given) →
        SpeaksTruth (moved w n new given) (with_lines h line) to m.from m.body
    by_sent to m (inl j) =
        says_kept w (moved w n new given) h (with_lines h line) to m.from m.body (move_extends w h line n old new given q) (λ b k. k)
        (within_of rules w h s) (s.said to m j)
    by_sent to m (inr j) = says to m j

    by_place : (m : ℕ) (r : ReplicaState S C) → slice_get (set w.nodes n new) m ≡ Some r → (m ≡ n) ⊎ (m ≡ n → ⊥) →
        IsSoundNode (moved w n new given) (with_lines h line) m r
    by_place m r e (inl same) =
        let f : Some new ≡ Some r = sym (get_set w.nodes n old new q.stands) ∙ ap (slice_get (set w.nodes n new)) (sym same) ∙ e in
        let g : new ≡ r = cc in
        subst (λ k. IsSoundNode (moved w n new given) (with_lines h line) k r) (sym same)
        (subst (λ (y : ReplicaState S C). IsSoundNode (moved w n new given) (with_lines h line) n y) g node)
    by_place m r e (inr other) =
        other_node w h line n old new given q (within_of rules w h s) m r other
        (s.nodes m r (sym (get_set_other w.nodes n m new other) ∙ e))
