-- What nodes count stays what their messages tell, after what nodes do.
use Rattle.std.proofs.Common.{◌≡◌, ℕ, true, List, ◌++◌, length, take, get_or, refl, sym, ap, ◌∙◌, subst}
use Rattle.ballot_base.specs.LawfulConfig.{max_node}
use Rattle.ballot_base.specs.declared.config.Config.{Config}
use Rattle.ballot_base.specs.declared.message.Message.{Message}
use Rattle.agreement.specs.MasterState.{MasterState}
use Rattle.agreement.specs.World.{can_open}
use Rattle.broker_spec.specs.declared.command.Command.{Command}
use Rattle.headline.specs.node_moves.Moves.{NodeCall}
use Rattle.headline.specs.node_group.Group.{opening_group}
use Rattle.headline.specs.node_group.Steps.GroupTrace.{opened}
use Rattle.headline.proofs.of_node_group.GroupsHaveMoments.{goes_on, groups_have_moments}
use Rattle.master.specs.Inside.{HasCounted, AcknowledgedIn}
use Rattle.master.proofs.Groups.{front_of}
use Rattle.world_nodes.specs.Nodes.{NodesState, NodesStandFor}
use Rattle.world_nodes.specs.ExactSteps.{NodeDoesCall}
use Rattle.world_nodes.specs.Inside.{HaveCounted}

abbrev pub Sent : Type 0
Sent = List (ℕ × Message Command)

pub opens_counting : (nodes : ℕ) (config : Config) (n : NodesState) (told next : AcknowledgedIn) → can_open max_node nodes config ≡ true → NodesStandFor (opening_group max_node nodes config) n
    → told.ballot ≡ 1 → ((m : ℕ) → get_or told.held m 0 ≡ 0) → ((m : ℕ) → get_or next.held m 0 ≡ 0) → HaveCounted n told next
opens_counting nodes config n told next can stands one untold untold_next =
    let so_far = groups_have_moments nodes config (opening_group max_node nodes config) (opened max_node can) in
    record {
      group = opening_group max_node nodes config;
      stands = stands;
      counts = record {
        config = config;
        moments = so_far.earlier;
        came = so_far.moments;
        bounded = refl;
        active = one;
        counted = λ m low. untold m;
        waits = λ b c e. cc;
        counted_next = λ m low. untold_next m;
      };
    }

pub loses_counting : (n : NodesState) (losses : ℕ) (told next : AcknowledgedIn) → HaveCounted n told next → HaveCounted (record n { losses = losses }) told next
loses_counting n losses told next c =
    record { group = c.group; stands = record { master = c.stands.master; nodes = c.stands.nodes; archive = c.stands.archive; sent = c.stands.sent }; counts = c.counts }

-- a node does something, and what it acknowledged is counted
pub acts_counting : (old new : NodesState) (at : ℕ) (node_call : NodeCall) (told next told' next' : AcknowledgedIn) → HaveCounted old told next → NodeDoesCall at node_call old new
    → new.master ≡ old.master → told'.ballot ≡ told.ballot → next'.ballot ≡ next.ballot
    → (HasCounted old.sent told → HasCounted new.sent told') → (HasCounted old.sent next → HasCounted new.sent next') → HaveCounted new told' next'
acts_counting old new at node_call told next told' next' c acts same one two counts counts_next =
    let g = acts c.group c.stands in
    let on = goes_on c.counts.config c.group g.does.after g.does.step c.counts.moments c.counts.came in
    let master : c.group.master ≡ g.does.after.master = c.stands.master ∙ sym same ∙ sym g.stands.master in
    record {
      group = g.does.after;
      stands = g.stands;
      counts = record {
        config = c.counts.config;
        moments = on.before;
        came = on.moments;
        bounded = sym (ap (λ (m : MasterState). m.greatest) master) ∙ c.counts.bounded;
        active = one ∙ c.counts.active ∙ ap (λ (m : MasterState). m.active) master;
        counted = subst (λ (l : Sent). HasCounted l told') (sym g.stands.sent) (counts (subst (λ (l : Sent). HasCounted l told) c.stands.sent c.counts.counted));
        waits = λ b config e. two ∙ c.counts.waits b config (ap (λ (m : MasterState). m.waiting) master ∙ e);
        counted_next = subst (λ (l : Sent). HasCounted l next') (sym g.stands.sent)
            (counts_next (subst (λ (l : Sent). HasCounted l next) c.stands.sent c.counts.counted_next));
      };
    }

-- what comes after the earlier messages is counted
pub heard_after : (sent more now kept : Sent) (from : ℕ) (t u : AcknowledgedIn) → now ≡ more → more ≡ sent ++ kept → from ≡ length sent
    → (HasCounted (take from now) t → HasCounted now u) → HasCounted sent t → HasCounted more u
heard_after sent more now kept from t u same is at hears counted =
    subst (λ (l : Sent). HasCounted l u) same (hears (subst (λ (l : Sent). HasCounted l t) (sym (front_of from sent kept now (same ∙ is) at)) counted))
