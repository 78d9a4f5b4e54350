-- A client among others does the same under other names of its connections.
use Rattle.std.proofs.Common.{◌≡◌, ℕ, suc, true, false, ◌||◌, List, [], ◌∷◌, ◌++◌, length, Some, Ok, refl, sym, ap, ap₂, ◌∙◌, subst, arith}
use Rattle.std.proofs.lemmas.List.{length-map, length-set}
use Rattle.lists.specs.Lists.{Each}
use Rattle.packet.specs.Spelling.{IsPacket}
use Rattle.packet.specs.declared.packet.Packet.{Packet}
use Rattle.cutter.specs.Stream.{Stream, Takes}
use Rattle.ballot_base.specs.declared.config.Config.{Config}
use Rattle.broker_spec.specs.Commands.{usual_limits}
use Rattle.broker_spec.specs.Connection.{ConnectionName, same_connection}
use Rattle.broker_spec.specs.Place.{Client}
use Rattle.session_base.specs.declared.publication.Publication.{Publication}
use Rattle.client_base.specs.Handled.{packet_handled}
use Rattle.client_base.specs.Keeper.{Keeper}
use Rattle.exactly_once.specs.Sides.{ClientConnection, Side}
use Rattle.exactly_once.specs.Story.{Story, StoryStep}
use Rattle.exactly_once.specs.StoryCommands.{any_named}
use Rattle.headline.specs.packet_world.Steps.{is_call}
use Rattle.headline.specs.node_group.Group.{Group}
use Rattle.headline.specs.node_group.Steps.{GroupTrace}
use Rattle.headline.specs.byte_world.ClientSteps.{WritesCanBeSpelled, after_packet, story_alone}
use Rattle.headline.specs.byte_world.Published.{published_by_call}
use Rattle.headline.specs.byte_world.World.{ClientPipes, Pipe, after_writing, newly_written, sent_up}
use Rattle.one_client.specs.Along.{Along, pipe_after, published_along}
use Rattle.one_client.specs.Along.Along.{opens, goes, calls, connects, reads, handles}
use Rattle.one_client.specs.Ports.{under_names}
use Rattle.one_client.proofs.CallsUnderNames.{CallUnder, call_long, call_under, newly_under}
use Rattle.one_client.proofs.HandledUnderNames.{handled_under, under_name}

-- ---- as many pipes as connections

long_sent : (packets : List Packet) (pipes : List Pipe) → length (sent_up packets pipes) ≡ length pipes
long_sent packets [] = refl
long_sent packets (p ∷ pipes) = refl

pub as_many : {nodes : ℕ} {config : Config} {client : Client} {g : Group} {went : GroupTrace nodes config g} {one : ClientPipes} → Along nodes config client g went one
    → length one.connections ≡ length one.pipes
as_many (opens greatest can) = refl
as_many (goes {one = one} along step faithful brings takes) = as_many along ∙ sym (length-map one.pipes (pipe_after step))
as_many (calls {one = one} along after step call whole) =
    call_long (story_alone one) after step call ∙ as_many along ∙ sym (long_sent (newly_written one.connections after.connections) one.pipes)
as_many (connects along x n port fresh nothing whole) = ap suc (as_many along)
as_many (reads {one = one} along nth p piece rest at cut) = as_many along ∙ sym (length-set one.pipes nth _)
as_many (handles {one = one} along κ others p pipes packet left are piped is_open cut whole) = sym (ap length are) ∙ as_many along ∙ ap length piped

-- ---- names that differ

abbrev pub AreApart : List ConnectionName → Type 0
AreApart [] = Unit {0}
AreApart (x ∷ names) = Each (λ y. same_connection x y ≡ false) names × AreApart names

fresh_under : (x : ConnectionName) (connections : List ClientConnection) (names : List ConnectionName) → length names ≡ length connections → Each (λ y. same_connection x y ≡ false) names
    → any_named (same_connection x) (under_names connections names) ≡ false
fresh_under x [] names long apart = refl
fresh_under x (κ ∷ connections) [] long apart = cc
fresh_under x (κ ∷ connections) (y ∷ names) long apart =
    ap₂ (λ a b. a || b) apart.0 (fresh_under x connections names (omega (arith, long)) apart.1)

-- ---- what it does

abbrev pub client_under : List ConnectionName → ClientPipes → ClientPipes
client_under names one = record one { connections = under_names one.connections names }

-- the steps go along with this client, which was asked to publish these
pub record GoesSo {nodes : ℕ} {config : Config} (client : Client) {g : Group} (went : GroupTrace nodes config g) (one : ClientPipes) (published : List Publication) : Type 0 where
  pub along : Along nodes config client g went one
  pub is : published_along along ≡ published

clients : (keeper later : Keeper) (connections others : List ClientConnection) (packets more : List Packet) (pipes : List Pipe) → keeper ≡ later → connections ≡ others → packets ≡ more
    → (let a : ClientPipes = record { keeper = keeper; connections = connections; pipes = sent_up packets pipes } in a)
    ≡ (let b : ClientPipes = record { keeper = later; connections = others; pipes = sent_up more pipes } in b)
clients keeper later connections others packets more pipes e f g = rw (e, f, g) refl

calls_under : {nodes : ℕ} {config : Config} (client : Client) {g : Group} (went : GroupTrace nodes config g) (one : ClientPipes) (names : List ConnectionName) (published : List Publication)
    (after : Story) (step : StoryStep usual_limits (story_alone one) after) → is_call step ≡ true → WritesCanBeSpelled one.connections after.connections
    → GoesSo client went (client_under names one) published
    → GoesSo client went (client_under names (after_writing after.keeper after.connections one)) (published ++ published_by_call step)
calls_under client went one names published after step call whole s =
    subst (λ (z : ClientPipes). GoesSo client went z (published ++ published_by_call step))
    (clients c.after.keeper after.keeper c.after.connections (under_names after.connections names) (newly_written (under_names one.connections names) c.after.connections)
    (newly_written one.connections after.connections) one.pipes c.keeper c.connections newly)
    (record {
      along = calls s.along c.after c.happens c.is (subst (Each IsPacket) (sym newly) whole);
      is = ap₂ (λ a b. a ++ b) s.is c.published;
    })
  where
    c : CallUnder names (story_alone one) after (published_by_call step)
    c = call_under names (story_alone one) after step call

    newly : newly_written (under_names one.connections names) c.after.connections ≡ newly_written one.connections after.connections
    newly = ap (newly_written (under_names one.connections names)) c.connections ∙ newly_under one.connections after.connections names

handles_under : {nodes : ℕ} {config : Config} (client : Client) {g : Group} (went : GroupTrace nodes config g) (one : ClientPipes) (x : ConnectionName) (names : List ConnectionName)
    (published : List Publication) (κ : ClientConnection) (others : List ClientConnection) (p : Pipe) (pipes : List Pipe) (packet : Packet) (left : Stream) → one.connections ≡ κ ∷ others
    → one.pipes ≡ p ∷ pipes → one.keeper.is_open ≡ true → Takes p.came (Ok (Some packet)) left
    → WritesCanBeSpelled one.connections ((packet_handled packet (record { keeper = one.keeper; connection = κ })).connection ∷ others)
    → GoesSo client went (client_under (x ∷ names) one) published
    → GoesSo client went (client_under (x ∷ names) (after_packet others pipes p left (packet_handled packet (record { keeper = one.keeper; connection = κ })) one)) published
handles_under client went one x names published κ others p pipes packet left are piped is_open cut whole s =
    subst (λ (z : ClientPipes). GoesSo client went z published)
    (clients now.keeper side.keeper (now.connection ∷ under_names others names) (under_names (side.connection ∷ others) (x ∷ names))
    (newly_written (under_names one.connections (x ∷ names)) (now.connection ∷ under_names others names)) (newly_written one.connections (side.connection ∷ others))
    (record p { came = left } ∷ pipes) (ap (λ (z : Side). z.keeper) same) connections newly)
    (record {
      along = handles s.along (record κ { name = x }) (under_names others names) p pipes packet left (ap (λ l. under_names l (x ∷ names)) are) piped is_open cut
          (subst (Each IsPacket) (sym newly) whole);
      is = s.is;
    })
  where
    side : Side
    side = packet_handled packet (record { keeper = one.keeper; connection = κ })

    now : Side
    now = packet_handled packet (record { keeper = one.keeper; connection = record κ { name = x } })

    same : now ≡ under_name x side
    same = sym (handled_under x packet (record { keeper = one.keeper; connection = κ }))

    connections : (now.connection ∷ under_names others names) ≡ under_names (side.connection ∷ others) (x ∷ names)
    connections = ap (λ (z : Side). z.connection ∷ under_names others names) same

    newly : newly_written (under_names one.connections (x ∷ names)) (now.connection ∷ under_names others names) ≡ newly_written one.connections (side.connection ∷ others)
    newly = ap (newly_written (under_names one.connections (x ∷ names))) connections ∙ newly_under one.connections (side.connection ∷ others) (x ∷ names)

-- ---- all that happens

pub along_under : {nodes : ℕ} {config : Config} (client : Client) {g : Group} (went : GroupTrace nodes config g) (one : ClientPipes) (along : Along nodes config client g went one) (names : List ConnectionName)
    → length names ≡ length one.connections → AreApart names → GoesSo client went (client_under names one) (published_along along)
along_under client went one (opens greatest can) names long apart = record { along = opens greatest can; is = refl }
along_under client went later (goes {went = before} {one = one} along step faithful brings takes) names long apart =
    let s = along_under client before one along names long apart in
    record { along = goes s.along step faithful brings takes; is = s.is }
along_under client went later (calls {one = one} along after step call whole) names long apart =
    calls_under client went one names (published_along along) after step call whole
    (along_under client went one along names (long ∙ call_long (story_alone one) after step call) apart)
along_under client went later (connects along x n port fresh nothing whole) [] long apart = cc
along_under client went later (connects {one = one} along x n port fresh nothing whole) (y ∷ names) long apart =
    let as_long : length names ≡ length one.connections = omega (arith, long) in
    let s = along_under client went one along names as_long apart.1 in
    record { along = connects s.along y n port (fresh_under y one.connections names as_long apart.0) nothing whole; is = s.is }
along_under client went later (reads {one = one} along nth p piece rest at cut) names long apart =
    let s = along_under client went one along names long apart in
    record { along = reads s.along nth p piece rest at cut; is = s.is }
along_under client went later (handles along κ others p pipes packet left are piped is_open cut whole) [] long apart = cc
along_under client went later (handles {one = one} along κ others p pipes packet left are piped is_open cut whole) (x ∷ names) long apart =
    handles_under client went one x names (published_along along) κ others p pipes packet left are piped is_open cut whole
    (along_under client went one along (x ∷ names) (long ∙ sym (ap length are)) apart)
