-- One client among others that do as they like gets what is promised.
use Rattle.std.proofs.Common.{◌≡◌, ◌≤◌, ℕ, List, sym, ap, ◌∙◌, subst}
use Rattle.session_base.specs.declared.publication.Publication.{Publication}
use Rattle.ballot_base.specs.declared.config.Config.{Config}
use Rattle.agreement.proofs.of_cut_logs.MomentsAgree.{has_agreed}
use Rattle.broker_spec.specs.declared.command.Command.{Command}
use Rattle.broker_spec.specs.Commands.{past_of, usual_limits}
use Rattle.broker_spec.specs.EndingTheorems.{EndsWithTheSession, connects_of}
use Rattle.broker_spec.specs.Place.{Client, Past}
use Rattle.broker_spec.proofs.NothingAfterTheEnd.{nothing_after_the_end}
use Rattle.client_base.specs.History as history
use Rattle.client_base.specs.Keeper.{Keeper, all_own}
use Rattle.client_base.specs.State.{ClientState}
use Rattle.exactly_once.specs.Carried.{own_publications}
use Rattle.exactly_once.specs.Sides.{ClientConnection}
use Rattle.world_base.specs.node_core.Core.{rules}
use Rattle.headline.specs.Exact.{IsShownBy}
use Rattle.headline.specs.Promise.{Promise, PromiseBy}
use Rattle.headline.specs.byte_world.World.{ClientPipes}
use Rattle.headline.specs.node_group.Group.{Group, moment_of_nodes}
use Rattle.headline.specs.node_group.Steps.{GroupTrace}
use Rattle.headline.proofs.ExactUntaken.{same_accepted_on, same_welcome}
use Rattle.headline.proofs.PromisesKept.{promise_kept}
use Rattle.headline.proofs.Untaken.{AreSameUntaken}
use Rattle.headline.proofs.of_node_group.CarriedInOrder.{IsAgreedSo}
use Rattle.one_client.specs.Along.{published_along}
use Rattle.one_client.specs.Promised.{IsAlone, OneClientIsPromised}
use Rattle.one_client.proofs.AgreedCommands.{agreed_once}
use Rattle.one_client.proofs.GoesAlong.{GoesAlong, goes_along}
use Rattle.one_client.proofs.OwnPublished.{own_published}

-- a promise does not depend on how much is counted as taken
promise_untaken : (c : Client) (connections others : List ClientConnection) (published : List Publication) (past : Past) (state : ClientState) → AreSameUntaken connections others
    → PromiseBy c connections published past state → PromiseBy c others published past state
promise_untaken c connections others published past state same p =
    record {
      in_step = λ step. p.in_step (same_welcome past c others connections (sym same) step);
      enters = p.enters;
      once = p.once;
      names = p.names;
      ended = p.ended;
    }

promised : {nodes : ℕ} {config : Config} {client : Client} {g : Group} (went : GroupTrace nodes config g) (one : ClientPipes) (s : GoesAlong client went one) (published : List Publication)
    → own_publications (all_own one.keeper) ≡ published → (list : List Command) → IsAgreedSo s.so list → IsAlone client one.connections list → (state : ClientState) → IsShownBy one state
    → Promise one.connections published list state
promised {g = g} went one s published said list is alone state shown =
    let h = s.life list is alone in
    subst (λ (d : Client). PromiseBy d one.connections published (past_of usual_limits list) state) (ap (λ (k : Keeper). k.client) h.keeper ∙ sym shown.keeper.client)
    (subst (λ (past : Past). PromiseBy h.story.keeper.client one.connections published past state) h.past
    (promise_untaken h.story.keeper.client h.story.connections one.connections published h.story.past state h.connections
    (promise_kept h.story h.lived published state (ap (λ (k : Keeper). own_publications (all_own k)) h.keeper ∙ said) (subst (λ (k : Keeper). history.KeeperStandsFor k state) (sym h.keeper) shown.keeper)
    (shown.accepted ∙ sym (same_accepted_on h.story.connections one.connections h.connections))
    (λ x. subst (λ (past : Past). connects_of x past ≤ 1) (sym h.past) (agreed_once g went s.so list is s.faithful s.brings x))
    (subst (EndsWithTheSession usual_limits) (sym h.past) (nothing_after_the_end usual_limits list)))))

pub one_client_is_promised : OneClientIsPromised
one_client_is_promised nodes config client g went one along named =
    let s = goes_along client g went one along named in
    let list = has_agreed rules config (moment_of_nodes g) s.so.of.earlier s.so.of.moments in
    record {
      of = s.so.of;
      agreed = list.0;
      is_agreed = list.1;
      promises = λ agreed is alone state shown. promised went one s (published_along along) (own_published client g went one along) agreed is alone state shown;
    }
