-- Every world that is reached is exact.
use Rattle.std.proofs.Common.{◌≡◌, ◌≤◌, ℕ, List, Some, sym, ap, ◌∙◌, subst}
use Rattle.std.specs.Prelude.{slice_get}
use Rattle.session_base.specs.declared.publication.Publication.{Publication}
use Rattle.ballot_base.specs.declared.config.Config.{Config}
use Rattle.broker_spec.specs.declared.command.Command.{Command}
use Rattle.broker_spec.specs.Commands.{past_of, usual_limits}
use Rattle.broker_spec.specs.EndingTheorems.{EndsWithTheSession, connects_of}
use Rattle.broker_spec.specs.Place.{Client, Past}
use Rattle.client_base.specs.History as history
use Rattle.client_base.specs.Keeper.{Keeper, all_own}
use Rattle.client_base.specs.State.{ClientState}
use Rattle.exactly_once.specs.Carried.{own_publications}
use Rattle.exactly_once.specs.Unexpelled.{IsUnexpelled}
use Rattle.exactly_once.proofs.sessions.FirstSession.{unexpelled_in_step}
use Rattle.agreement.proofs.of_cut_logs.MomentsAgree.{has_agreed}
use Rattle.headline.specs.packet_world.Exact.{IsExactInStep as IsExactBeside}
use Rattle.headline.specs.packet_world.World.{ClientsAreApart, ClientEnds, story_of as story_beside}
use Rattle.headline.proofs.of_packet_world.Lists.{each_by, each_get}
use Rattle.headline.proofs.of_packet_world.WorldsExact.{packet_worlds_are_exact as worlds_beside_are_exact}
use Rattle.world_base.specs.node_core.Core.{rules}
use Rattle.headline.specs.node_group.Group.{moment_of_nodes}
use Rattle.headline.specs.node_group.Steps.{GroupTrace}
use Rattle.headline.proofs.of_node_group.Placed.{get_mapped}
use Rattle.headline.specs.byte_world.Carried.{trace_of}
use Rattle.headline.specs.byte_world.Published.{published_of, published_on_way}
use Rattle.headline.specs.byte_world.World.{ClientPipes, ByteWorld}
use Rattle.headline.proofs.of_byte_world.PipesInOrder.{in_order}
use Rattle.headline.specs.Exact.{IsExactBy, IsExactInStep, IsInOneSession, IsShownBy, WorldsAreExact, story_of}
use Rattle.headline.specs.Promise.{Promise, PromiseBy}
use Rattle.headline.proofs.AllBeside.{goes_beside}
use Rattle.headline.proofs.Beside.{Alone, Beside, ends_alone}
use Rattle.headline.proofs.ExactUntaken.{exactly_once_untaken, in_step_untaken, one_session_untaken, same_accepted_on, same_welcome}
use Rattle.headline.proofs.GoesBeside.{GoesBeside}
use Rattle.headline.proofs.of_node_group.CarriedInOrder.{IsAgreedSo}
use Rattle.headline.proofs.OwnPublished.{own_published}
use Rattle.headline.proofs.Places.{map_back}
use Rattle.headline.proofs.PromisesKept.{promise_kept}
use Rattle.headline.proofs.LivedBeside.{lived_beside}
use Rattle.headline.proofs.Untaken.{AreSameUntaken}
use Rattle.headline.proofs.WorldsWrite.{clients_alone, pipes_alone}
use Rattle.exactly_once.specs.Sides.{ClientConnection}

exact_by : {nodes : ℕ} {config : Config} {cs : List Client} → ClientsAreApart cs → (w : ByteWorld) (went : GroupTrace nodes config w.group) (s : GoesBeside nodes config cs w went) (agreed : List Command) → IsAgreedSo s.so agreed
    → IsExactBy agreed w
exact_by {cs = cs} apart w went s agreed is =
    let exact = worlds_beside_are_exact cs b.world apart b.reached in
    record {
      clients = each_by (IsExactInStep agreed) w.clients (λ i c at. client i c at (λ d there. each_get (IsExactBeside b.world.agreed) b.world.clients i d exact.clients there));
      unexpelled = each_by (IsInOneSession agreed) w.clients (λ i c at. unexpelled i c at);
      names = λ x. subst (λ (l : List Command). connects_of x (past_of usual_limits l) ≤ 1) b.is (exact.names x);
      sessions = subst (λ (l : List Command). EndsWithTheSession usual_limits (past_of usual_limits l)) b.is exact.sessions;
      pipes = in_order w went s.holds s.so agreed is;
    }
  where
    b : Beside cs agreed (clients_alone w)
    b = s.beside agreed is

    client : (i : ℕ) (c : ClientPipes) → slice_get w.clients i ≡ Some c → ((d : ClientEnds) → slice_get b.world.clients i ≡ Some d → IsExactBeside b.world.agreed d) → IsExactInStep agreed c
    client i c at each step =
        let z = map_back ends_alone b.world.clients i (pipes_alone c) (ap (λ l. slice_get l i) b.same ∙ get_mapped pipes_alone w.clients i c at) in
        let past = ap (past_of usual_limits) b.is in
        let keeper = ap (λ (a : Alone). a.keeper) z.2 in
        let connections = ap (λ (a : Alone). a.connections) z.2 in
        exactly_once_untaken usual_limits (story_beside b.world.agreed z.0) (story_of agreed c) past keeper connections
        (each z.0 z.1 (in_step_untaken (story_of agreed c) (story_beside b.world.agreed z.0) (sym past) (sym keeper) (sym connections) step))

    unexpelled : (i : ℕ) (c : ClientPipes) → slice_get w.clients i ≡ Some c → IsInOneSession agreed c
    unexpelled i c at none =
        let h = lived_beside apart w went s agreed is i c at in
        one_session_untaken h.story (story_of agreed c) h.past h.keeper h.connections
        (unexpelled_in_step usual_limits h.story.keeper.client h.story h.lived
        (subst (λ (p : Past). IsUnexpelled h.story.keeper.client p) (sym h.past) (subst (λ (k : Keeper). IsUnexpelled k.client (past_of usual_limits agreed)) (sym h.keeper) none)))

-- a promise does not depend on how much is counted as taken
promise_untaken : (c : Client) (connections others : List ClientConnection) (published : List Publication) (past : Past) (state : ClientState) → AreSameUntaken connections others
    → PromiseBy c connections published past state → PromiseBy c others published past state
promise_untaken c connections others published past state same p =
    record {
      in_step = λ step. p.in_step (same_welcome past c others connections (sym same) step);
      enters = p.enters;
      once = p.once;
      names = p.names;
      ended = p.ended;
    }

-- what is promised for a client by what it shows
promised : {nodes : ℕ} {config : Config} {cs : List Client} → ClientsAreApart cs → (w : ByteWorld) (went : GroupTrace nodes config w.group) (s : GoesBeside nodes config cs w went) (agreed : List Command) → IsAgreedSo s.so agreed
    → (published : List Publication) (i : ℕ) (c : ClientPipes) (state : ClientState) → slice_get w.clients i ≡ Some c → own_publications (all_own c.keeper) ≡ published → IsShownBy c state
    → Promise c.connections published agreed state
promised apart w went s agreed is published i c state at said shown =
    let h = lived_beside apart w went s agreed is i c at in
    let exact = exact_by apart w went s agreed is in
    subst (λ (d : Client). PromiseBy d c.connections published (past_of usual_limits agreed) state) (ap (λ (k : Keeper). k.client) h.keeper ∙ sym shown.keeper.client)
    (subst (λ (past : Past). PromiseBy h.story.keeper.client c.connections published past state) h.past
    (promise_untaken h.story.keeper.client h.story.connections c.connections published h.story.past state h.connections
    (promise_kept h.story h.lived published state (ap (λ (k : Keeper). own_publications (all_own k)) h.keeper ∙ said) (subst (λ (k : Keeper). history.KeeperStandsFor k state) (sym h.keeper) shown.keeper)
    (shown.accepted ∙ sym (same_accepted_on h.story.connections c.connections h.connections))
    (λ x. subst (λ (past : Past). connects_of x past ≤ 1) (sym h.past) (exact.names x)) (subst (EndsWithTheSession usual_limits) (sym h.past) exact.sessions))))

pub worlds_are_exact : WorldsAreExact
worlds_are_exact nodes config cs w apart trail =
    let s = goes_beside apart w trail in
    let list = has_agreed rules config (moment_of_nodes w.group) s.so.of.earlier s.so.of.moments in
    record {
      of = s.so.of;
      agreed = list.0;
      is_agreed = list.1;
      exact = λ agreed is. exact_by apart w (trace_of trail) s agreed is;
      promises = λ agreed is i c state at shown. promised apart w (trace_of trail) s agreed is (published_of i (published_on_way trail)) i c state at (own_published apart w trail i c at) shown;
    }
