-- QuietWorlds.antt: a move of one node that says nothing keeps a world sound.
use Rattle.std.proofs.Common.{◌≡◌, ℕ, ◌+◌, ◌≤◌, ◌⊎◌, inl, inr, List, ◌++◌, length, set, Some, ap, sym, ◌∙◌, subst, arith}
use Rattle.std.specs.Prelude.{slice_get}
use Rattle.std.proofs.lemmas.Bool.{cases_eq}
use Rattle.std.proofs.lemmas.List.{append-nil}
use Rattle.machine.specs.Machine.{Rules}
use Rattle.agreement.specs.whole_logs.Messages.{Message, Effect}
use Rattle.agreement.specs.whole_logs.Replica.{ReplicaState}
use Rattle.agreement.specs.World.{GroupWorld, messages, moved}
use Rattle.lists.specs.Lists.{In}
use Rattle.agreement.specs.Inside.Ballots.{Given, History}
use Rattle.agreement.specs.Inside.BallotsStand.{BallotListsStand}
use Rattle.agreement.specs.Inside.Extension.{Extends, AcknowledgedIsWithin}
use Rattle.agreement.specs.Inside.Sound.{IsSoundWorld}
use Rattle.agreement.specs.Inside.SoundNodes.{IsSoundNode}
use Rattle.agreement.specs.Inside.MessageMeaning.{SpeaksTruth}
use Rattle.agreement.specs.LeftOutputs.{Segment}
use Rattle.lists.proofs.Places.{get_set, get_set_other}
use Rattle.lists.proofs.Members.{in_append}
use Rattle.agreement.proofs.Frame.Later.{chosen_kept, sealed_kept}
use Rattle.agreement.proofs.Frame.SaysLater.{says_kept}
use Rattle.agreement.proofs.Frame.Joining.{MovesQuietly, told_back, quiet_extends, quiet_node}

-- the rows on lists after such a move
pub quiet_lines : {S C O : Type 0} (w : GroupWorld S C O) (h : History C) (n : ℕ) (old new : ReplicaState S C) (given : List (Effect C O)) →
    MovesQuietly w n old new given → AcknowledgedIsWithin w h → BallotListsStand w h → BallotListsStand (moved w n new given) h
quiet_lines w h n old new given q within s =
    let x = quiet_extends w h n old new given q in
    record {
      lined = s.lined;
      prefix = s.prefix;
      sealed = λ b g l e later f. sealed_kept w (moved w n new given) h h g.previous l.base x within (s.sealed b g l e later f);
      base_in = s.base_in;
      still = s.still;
      told = λ b i. let t = s.told b i in
          (t.0, t.1, chosen_kept w (moved w n new given) h h b (length t.0.base) x t.2);
    }

-- a move that says nothing keeps a world sound, if the node is as it should be and its messages are
-- so
pub quiet_sound : {S C O : Type 0} (rules : Rules S C O) (w : GroupWorld S C O) (h : History C) (n : ℕ) (old new : ReplicaState S C)
    (given : List (Effect C O)) → IsSoundWorld rules w h → AcknowledgedIsWithin w h → MovesQuietly w n old new given →
    IsSoundNode (moved w n new given) h n new →
    ((to : ℕ) (m : Message C) → In (to, m) (messages given) → SpeaksTruth (moved w n new given) h to m.from m.body) →
    IsSoundWorld rules (moved w n new given) h
quiet_sound {S = S} {C = C} {O = O} rules w h n old new given s within q node says =
    record {
      ballots = s.ballots;
      lines = record {
        lined = s.lines.lined;
        prefix = s.lines.prefix;
        sealed = λ b g l e later f. sealed_kept w (moved w n new given) h h g.previous l.base x within (s.lines.sealed b g l e later f);
        base_in = s.lines.base_in;
        still = s.lines.still;
        told = λ b i. let t = s.lines.told b i in
            (t.0, t.1, chosen_kept w (moved w n new given) h h b (length t.0.base) x t.2);
      };
      within = λ m b k t. s.within m b k (told_back w h n old new given q m b k t);
      said = λ to m i. by_sent to m (in_append w.sent (messages given) i);
      nodes = λ m r e. by_place m r e (cases_eq m n);
      left = record {
        segments = s.left.segments;
        left = λ agreed bounds. ap (λ us. w.left ++ us) q.dumb ∙ append-nil w.left
            ∙ s.left.left agreed (λ b k l i e c. bounds b k l i e (chosen_kept w (moved w n new given) h h b k x c));
        chosen = λ y i. let c = s.left.chosen y i in
            (c.0, c.1, chosen_kept w (moved w n new given) h h y.ballot y.end x c.2, c.3);
        applied = λ y i g e m is r f. by_primary y i g e m is r f (cases_eq m n);
        in_order = s.left.in_order;
      };
    }
  where
    x : Extends w h (moved w n new given) h
    x = quiet_extends w h n old new given q

    by_sent : (to : ℕ) (m : Message C) → In (to, m) w.sent ⊎ In (to, m) (messages given) →
        SpeaksTruth (moved w n new given) h to m.from m.body
    by_sent to m (inl i) =
        says_kept w (moved w n new given) h h to m.from m.body (quiet_extends w h n old new given q) (λ b j. j) within (s.said to m i)
    by_sent to m (inr i) = says to m i

    by_place : (m : ℕ) (r : ReplicaState S C) → slice_get (set w.nodes n new) m ≡ Some r → (m ≡ n) ⊎ (m ≡ n → ⊥) →
        IsSoundNode (moved w n new given) h m r
    by_place m r e (inl same) =
        let f : Some new ≡ Some r = sym (get_set w.nodes n old new q.stands) ∙ ap (slice_get (set w.nodes n new)) (sym same) ∙ e in
        let g : new ≡ r = cc in
        subst (λ k. IsSoundNode (moved w n new given) h k r) (sym same)
        (subst (λ (y : ReplicaState S C). IsSoundNode (moved w n new given) h n y) g node)
    by_place m r e (inr other) =
        quiet_node w h n old new given q within m r (s.nodes m r (sym (get_set_other w.nodes n m new other) ∙ e))

    by_primary : (y : Segment) → In y s.left.segments → (g : Given) → h.given y.ballot ≡ Some g → (m : ℕ) → g.primary ≡ m + 1 →
        (r : ReplicaState S C) → slice_get (set w.nodes n new) m ≡ Some r → (m ≡ n) ⊎ (m ≡ n → ⊥) → y.end ≤ r.committed
    by_primary y i g e m is r f (inl same) =
        let j : Some new ≡ Some r = sym (get_set w.nodes n old new q.stands) ∙ ap (slice_get (set w.nodes n new)) (sym same) ∙ f in
        let k : new ≡ r = cc in
        let c = ap (λ (z : ReplicaState S C). z.committed) k in
        let low = s.left.applied y i g e m is old (ap (slice_get w.nodes) same ∙ q.stands) in
        let up = q.committed in omega (arith, c, low, up)
    by_primary y i g e m is r f (inr other) =
        s.left.applied y i g e m is r (sym (get_set_other w.nodes n m new other) ∙ f)
