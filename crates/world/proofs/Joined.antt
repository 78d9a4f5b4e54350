-- Joined.antt: steps of worlds, one after another.
use Rattle.std.proofs.Common.{◌≡◌, ◌<◌, ◌≤◌, ◌^◌, ◌-◌, ℕ, List, [], ◌++◌, refl, sym, ap, ap₂, ◌∙◌, subst, arith, append_assoc}
use Rattle.std.proofs.lemmas.List.{append-nil}
use Rattle.ballot_base.specs.declared.config.Config.{Config}
use Rattle.ballot_base.specs.Losses.{one_more}
use Rattle.broker_spec.specs.Place.{Client}
use Rattle.headline.proofs.WorldsExact.{worlds_are_exact}
use Rattle.headline.specs.packet_world.World.{ClientsAreApart}
use Rattle.session_base.specs.declared.publication.Publication.{Publication}
use Rattle.headline.specs.byte_world.World.{ByteWorld}
use Rattle.headline.specs.byte_world.Steps.{Reached}
use Rattle.headline.specs.byte_world.Steps.Reached.{goes_on as reached_more}
use Rattle.headline.specs.byte_world.Published.{published_in_step, published_on_way}
use Rattle.world_nodes.specs.Nodes.{NodesState, NodesStandFor}
use Rattle.world.specs.Trace.{WorldLosesNothing, KeepsGroup}
use Rattle.world.specs.Inside.Steps.{IsTrace, IsTraceAsking}
use Rattle.world_pipes.specs.declared.clients.world_client.WorldClient.{WorldClient}
use Rattle.world_pipes.specs.clients.Clients.{ClientsStand}
use Rattle.world.specs.StandsFor.{ModelStepsTo, IsReached, KeepsReached, WorldStandsFor, WorldSteps, FollowsModel, FollowsModelAsking, asked_on, published_along}
use Rattle.world.specs.StandsFor.WorldSteps.{rests, goes_on}
use Rattle.world.specs.World.{WorldState}
use Rattle.world_pipes.proofs.of_clients.NodesGoOn.{nodes_go_join, nodes_join, nodes_rest}

-- ---- worlds of the model

pub steps_join : {m n o : ByteWorld} → WorldSteps m n → WorldSteps n o → WorldSteps m o
steps_join one rests = one
steps_join one (goes_on two step) = goes_on (steps_join one two) step

pub along_join : {m n o : ByteWorld} (one : WorldSteps m n) (two : WorldSteps n o) → published_along (steps_join one two) ≡ published_along one ++ published_along two
unfolding steps_join
along_join one rests = sym (append-nil (published_along one))
along_join one (goes_on two step) =
    ap (λ (l : List (ℕ × Publication)). l ++ published_in_step step) (along_join one two) ∙ append_assoc (published_along one) (published_along two) (published_in_step step)

pub reached_on : {nodes : ℕ} {config : Config} {cs : List Client} {m n : ByteWorld} → Reached nodes config cs m → WorldSteps m n → Reached nodes config cs n
reached_on trail rests = trail
reached_on trail (goes_on steps step) = reached_more (reached_on trail steps) step

pub reached_asked : {nodes : ℕ} {config : Config} {cs : List Client} {m n : ByteWorld} (trail : Reached nodes config cs m) (steps : WorldSteps m n)
    → published_on_way (reached_on trail steps) ≡ published_on_way trail ++ published_along steps
unfolding reached_on
reached_asked trail rests = sym (append-nil (published_on_way trail))
reached_asked trail (goes_on steps step) =
    ap (λ (l : List (ℕ × Publication)). l ++ published_in_step step) (reached_asked trail steps) ∙ append_assoc (published_on_way trail) (published_along steps) (published_in_step step)

-- ---- worlds in code

-- only the nodes and the clients of a world matter for its correspondence to one of the model
pub stands_as : (m : ByteWorld) (a b : WorldState) → b.nodes ≡ a.nodes → b.clients ≡ a.clients → WorldStandsFor m a → WorldStandsFor m b
stands_as m a b nodes clients s =
    record {
      nodes = subst (λ (n : NodesState). NodesStandFor m.group n) (sym nodes) s.nodes;
      clients = subst (λ (cs : List WorldClient). ClientsStand cs m.clients) (sym clients) s.clients;
    }

pub world_stays : (a b : WorldState) → b.nodes ≡ a.nodes → b.clients ≡ a.clients → FollowsModel a b
world_stays a b same clients nodes config cs m trail s = record { after = m; steps = rests; asked_is = refl; stands = stands_as m a b same clients s }

pub world_rests : (a b : WorldState) → b ≡ a → FollowsModel a b
world_rests a b same nodes config cs m trail s = subst (λ (w : WorldState). ModelStepsTo [] m w) (sym same) (record { after = m; steps = rests; asked_is = refl; stands = s })

pub asked_goes_join : (asked later : List (ℕ × Publication)) (a b c : WorldState) → FollowsModelAsking asked a b → FollowsModelAsking later b c → FollowsModelAsking (asked ++ later) a c
asked_goes_join asked later a b c one two nodes config cs m trail s =
    let first = one nodes config cs m trail s in
    let next = two nodes config cs first.after (reached_on trail first.steps) first.stands in
    record {
      after = next.after;
      steps = steps_join first.steps next.steps;
      asked_is = along_join first.steps next.steps ∙ ap₂ (λ (x y : List (ℕ × Publication)). x ++ y) first.asked_is next.asked_is;
      stands = next.stands;
    }

pub world_goes_join : (a b c : WorldState) → FollowsModel a b → FollowsModel b c → FollowsModel a c
world_goes_join a b c one two = asked_goes_join [] [] a b c one two

-- if nothing is lost from end to end, nothing is on the way
pub worlds_split : (a b c : WorldState) → a.losses ≤ b.losses → b.losses ≤ c.losses → WorldLosesNothing a c → WorldLosesNothing a b × WorldLosesNothing b c
worlds_split a b c x y none =
    let same = none.0 in let low = none.1 in (
      ((let e : b.losses ≡ a.losses = omega (arith, x, y, same) in e), low),
      ((let e : c.losses ≡ b.losses = omega (arith, x, y, same) in e), (let l : b.losses < 2 ^ 64 - 1 = omega (arith, x, y, same, low) in l)),
    )

-- a loss is counted
pub counted_loss : (old new : WorldState) (losses : ℕ) → old.losses ≤ losses → new.losses ≡ one_more losses → WorldLosesNothing old new → ⊥
counted_loss old new losses rises is none = let same = none.0 in let low = none.1 in omega (arith, rises, is, same, low)

-- ---- parts of a step

pub goes_on_rest : (a b : WorldState) → b ≡ a → IsTrace a b
goes_on_rest a b same =
    subst (λ (w : WorldState). IsTrace a w) (sym same) (record { rises = omega arith; nodes = nodes_rest a.nodes a.nodes refl; goes = world_rests a a refl })

pub goes_on_join : (a b c : WorldState) → IsTrace a b → IsTrace b c → IsTrace a c
goes_on_join a b c one two =
    let x = one.rises in let y = two.rises in
    record { rises = omega (arith, x, y); nodes = nodes_join a.nodes b.nodes c.nodes one.nodes two.nodes; goes = world_goes_join a b c one.goes two.goes }

-- nothing is published after it
pub goes_on_then : (asked : List (ℕ × Publication)) (a b c : WorldState) → IsTraceAsking asked a b → IsTrace b c → IsTraceAsking asked a c
goes_on_then asked a b c one two =
    let x = one.rises in let y = two.rises in
    record {
      rises = omega (arith, x, y);
      nodes = nodes_join a.nodes b.nodes c.nodes one.nodes two.nodes;
      goes = subst (λ (l : List (ℕ × Publication)). FollowsModelAsking l a c) (append-nil asked) (asked_goes_join asked [] a b c one.goes two.goes);
    }

pub goes_on_still : (a b : WorldState) → b.nodes ≡ a.nodes → b.clients ≡ a.clients → a.losses ≤ b.losses → IsTrace a b
goes_on_still a b nodes clients rises = record { rises = rises; nodes = nodes_rest a.nodes b.nodes nodes; goes = world_stays a b nodes clients }

-- ---- whole steps

pub world_goes_on : (asked : List (ℕ × Publication)) (old new : WorldState) → IsTraceAsking asked old new → KeepsGroup old new
world_goes_on asked old new on = record { rises = on.rises; goes = on.nodes.goes }

pub world_on_rest : (a b : WorldState) → b ≡ a → KeepsGroup a b
world_on_rest a b same = world_goes_on [] a b (goes_on_rest a b same)

pub world_on_join : (a b c : WorldState) → KeepsGroup a b → KeepsGroup b c → KeepsGroup a c
world_on_join a b c one two =
    let x = one.rises in let y = two.rises in
    record { rises = omega (arith, x, y); goes = nodes_go_join a.nodes b.nodes c.nodes one.goes two.goes }

-- ---- what is promised

pub is_reached : (nodes : ℕ) (config : Config) (cs : List Client) (m : ByteWorld) (w : WorldState) → ClientsAreApart cs → Reached nodes config cs m → WorldStandsFor m w → IsReached nodes config cs w
is_reached nodes config cs m w apart trail stands =
    record { apart = apart; world = m; trail = trail; stands = stands; exact = worlds_are_exact nodes config cs m apart trail }

pub is_reached_asked : (nodes : ℕ) (config : Config) (cs : List Client) (m : ByteWorld) (w : WorldState) (apart : ClientsAreApart cs) (trail : Reached nodes config cs m) (stands : WorldStandsFor m w)
    → asked_on (is_reached nodes config cs m w apart trail stands) ≡ published_on_way trail
unfolding is_reached
is_reached_asked nodes config cs m w apart trail stands = refl

pub keeps_reached : (asked : List (ℕ × Publication)) (old new : WorldState) → FollowsModelAsking asked old new → KeepsReached asked old new
keeps_reached asked old new goes nodes config cs r =
    let to = goes nodes config cs r.world r.trail r.stands in (
      is_reached nodes config cs to.after new r.apart (reached_on r.trail to.steps) to.stands,
      is_reached_asked nodes config cs to.after new r.apart (reached_on r.trail to.steps) to.stands ∙ reached_asked r.trail to.steps ∙ ap (λ (l : List (ℕ × Publication)). published_on_way r.trail ++ l) to.asked_is,
    )
