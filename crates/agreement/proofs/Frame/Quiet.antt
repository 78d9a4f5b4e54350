-- Quiet.antt: steps that say nothing and give no output, steps that do nothing, and a node that
-- stops.
use Rattle.std.proofs.Common.{inl, ◌≡◌, ℕ, ◌≤◌, List, [], Some, refl, sym, ◌∙◌, subst, arith}
use Rattle.std.specs.Prelude.{slice_get}
use Rattle.machine.specs.Machine.{Rules}
use Rattle.agreement.specs.whole_logs.Messages.{Message, Effect}
use Rattle.agreement.specs.whole_logs.Losses.{halted}
use Rattle.agreement.specs.whole_logs.Replica.{ReplicaState}
use Rattle.agreement.specs.whole_logs.StepOutcome.{Outcome, nothing_done}
use Rattle.agreement.specs.World.{GroupWorld, messages, outputs, moved}
use Rattle.lists.specs.Lists.{In}
use Rattle.agreement.specs.Inside.Ballots.{History}
use Rattle.agreement.specs.Inside.BallotsStand.{Applied}
use Rattle.agreement.specs.Inside.BallotsStand.Applied.{nothing, in_ballot}
use Rattle.agreement.specs.Inside.Keeps.LineAdds.{as_it_was}
use Rattle.agreement.specs.Inside.Keeps.{KeepsSoundness}
use Rattle.agreement.specs.Inside.Sound.{IsSoundWorld}
use Rattle.agreement.specs.Inside.SoundNodes.{IsSoundNode}
use Rattle.agreement.specs.Inside.MessageMeaning.{SpeaksTruth}
use Rattle.agreement.proofs.Effects.{thinned_outputs, thinned_messages}
use Rattle.agreement.proofs.Frame.Framing.{within_of}
use Rattle.agreement.proofs.Frame.Joining.{told_back, AreSilent, MovesQuietly, quiet_extends, quiet_node}
use Rattle.agreement.proofs.Frame.QuietWorlds.{quiet_sound}

-- the node of a quiet step before it, seen in the world after it
pub before_quiet : {S C O : Type 0} (rules : Rules S C O) (w : GroupWorld S C O) (h : History C) (n : ℕ) (old new : ReplicaState S C)
    (given : List (Effect C O)) → IsSoundWorld rules w h → MovesQuietly w n old new given → IsSoundNode (moved w n new given) h n old
before_quiet rules w h n old new given s q =
    quiet_node w h n old new given q (within_of rules w h s) n old (s.nodes n old q.stands)

-- a step that says nothing and has no output
pub quiet_keeps : {S C O : Type 0} (rules : Rules S C O) (w : GroupWorld S C O) (h : History C) (n : ℕ) (old : ReplicaState S C) (o : Outcome S C O) →
    IsSoundWorld rules w h → slice_get w.nodes n ≡ Some old → old.joined ≤ o.state.joined → old.committed ≤ o.state.committed →
    AreSilent (messages o.effects) → outputs o.effects ≡ [] →
    ((given : List (Effect C O)) → MovesQuietly w n old o.state given → IsSoundNode (moved w n o.state given) h n o.state) →
    ((given : List (Effect C O)) → MovesQuietly w n old o.state given → (to : ℕ) (m : Message C) → In (to, m) (messages o.effects) →
    SpeaksTruth (moved w n o.state given) h to m.from m.body) →
    KeepsSoundness rules w h n o
quiet_keeps {S = S} {C = C} {O = O} rules w h n old o s stands rises committed silent dumb node says given thinned =
    record {
      history = h;
      extends = quiet_extends w h n old o.state given moves;
      active = λ b i. i;
      ballots = refl;
      added = λ b k e. as_it_was e;
      tells = λ m b k t. inl (told_back w h n old o.state given moves m b k t);
      sound = quiet_sound rules w h n old o.state given s (within_of rules w h s) moves (node given moves)
          (λ to m i. says given moves to m (thinned_messages thinned (to, m) i));
    }
  where
    moves : MovesQuietly w n old o.state given
    moves = record {
      stands = stands;
      rises = rises;
      silent = λ to m i. silent to m (thinned_messages thinned (to, m) i);
      dumb = thinned_outputs thinned ∙ dumb;
      committed = committed;
    }

-- a step that does nothing
pub keeps_nothing : {S C O : Type 0} (rules : Rules S C O) (w : GroupWorld S C O) (h : History C) (n : ℕ) (old : ReplicaState S C) (o : Outcome S C O) →
    IsSoundWorld rules w h → slice_get w.nodes n ≡ Some old → o ≡ nothing_done O old → KeepsSoundness rules w h n o
keeps_nothing {S = S} {C = C} {O = O} rules w h n old o s stands e =
    subst (λ (x : Outcome S C O). KeepsSoundness rules w h n x) (sym e)
    (quiet_keeps rules w h n old (nothing_done O old) s stands (omega arith) (omega arith) (λ to m i. elim i [ ]) refl
    (λ given q. before_quiet rules w h n old old given s q) (λ given q to m i. elim i [ ]))

-- a node that stops
pub keeps_halted : {S C O : Type 0} (rules : Rules S C O) (w : GroupWorld S C O) (h : History C) (n : ℕ) (old : ReplicaState S C) →
    IsSoundWorld rules w h → slice_get w.nodes n ≡ Some old → KeepsSoundness rules w h n (record { state = halted rules old; effects = [] })
keeps_halted {S = S} {C = C} {O = O} rules w h n old s stands =
    quiet_keeps rules w h n old (record { state = halted rules old; effects = [] }) s stands (omega arith) (omega arith)
    (λ to m i. elim i [ ]) refl (λ given q. node given q) (λ given q to m i. elim i [ ])
  where
    node : (given : List (Effect C O)) → MovesQuietly w n old (halted rules old) given → IsSoundNode (moved w n (halted rules old) given) h n (halted rules old)
    node given q = let t = before_quiet rules w h n old (halted rules old) given s q in record {
      id = t.id;
      placed = record { order = t.placed.order; between = t.placed.between; told = t.placed.told; acknowledged_here = t.placed.acknowledged_here };
      empty = t.empty;
      member = t.member;
      primary_log = t.primary_log;
      joined_by = t.joined_by;
      within = t.within;
      applied = by_applied t.applied;
      fetching = t.fetching;
      installing = λ e. let j = t.installing e in record {
        leads = j.leads;
        later = j.later;
        own = j.own;
        line = j.line;
        lined = j.lined;
        base = j.base;
        noted = j.noted;
        lacks = j.lacks;
      };
      active = λ e. let a = t.active e in record {
        leads = a.leads;
        own = a.own;
        activated = a.activated;
        line = a.line;
        lined = a.lined;
        begun = a.begun;
        above = a.above;
        covered = a.covered;
        followed = a.followed;
        others = a.others;
      };
    }
      where
        by_applied : Applied (moved w n (halted rules old) given) h old → Applied (moved w n (halted rules old) given) h (halted rules old)
        by_applied (nothing e) = nothing e
        by_applied (in_ballot c k l i up e chosen front) = in_ballot c k l i up e chosen front
