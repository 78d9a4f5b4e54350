-- What holds for a client among others after all steps: its pipes, and for each list that is agreed a life that it lived.
use Rattle.std.proofs.Common.{◌≡◌, ℕ, suc, Bool, true, false, ◌||◌, List, [], ◌∷◌, ◌++◌, filter, length, map, Some, Ok, refl, sym, ap, ◌∙◌, subst}
use Rattle.std.specs.Prelude.{slice_get}
use Rattle.lists.specs.Lists.{Each, In, IsPrefixOf}
use Rattle.lists.proofs.Members.{in_left}
use Rattle.packet.specs.Spelling.{IsPacket}
use Rattle.packet.specs.declared.packet.Packet.{Packet}
use Rattle.packet.specs.declared.packet.Packet.TheVariants as packets
use Rattle.cutter.specs.Stream.{Stream, Takes}
use Rattle.ballot_base.specs.declared.config.Config.{Config}
use Rattle.agreement.proofs.of_cut_logs.MomentsAgree.{has_agreed}
use Rattle.broker_spec.specs.declared.command.Command.{Command}
use Rattle.broker_spec.specs.declared.command.Command.TheVariants as commands
use Rattle.broker_spec.specs.Commands.{past_of, usual_limits}
use Rattle.broker_spec.specs.Connection.{ConnectionName, same_connection}
use Rattle.broker_spec.specs.Place.{Client}
use Rattle.client_base.specs.Connected.{new_connection}
use Rattle.client_base.specs.Handled.{packet_handled}
use Rattle.client_base.specs.Keeper.{Written}
use Rattle.exactly_once.specs.Sends.{put_to}
use Rattle.exactly_once.specs.Sides.{ClientConnection, Side}
use Rattle.exactly_once.specs.Story.{Story, StoryStep}
use Rattle.exactly_once.specs.StoryCommands.{any_named, command_of}
use Rattle.exactly_once.proofs.keeping.KeepsShape.{same_story}
use Rattle.exactly_once.proofs.publishing.Grown.{Grown, handled_grows}
use Rattle.exactly_once.proofs.subscribing.Given.{stays_handled}
use Rattle.world_base.specs.declared.node_connections.port.Port.{Port}
use Rattle.world_base.specs.node_core.Core.{rules}
use Rattle.headline.specs.packet_world.Exact.{commands_from}
use Rattle.headline.specs.packet_world.Steps.{is_call}
use Rattle.headline.specs.node_moves.Ends.{packet_commands_from}
use Rattle.headline.specs.node_moves.Pipe.{Joins}
use Rattle.headline.specs.node_moves.Puts.{spelled}
use Rattle.headline.specs.node_group.Carried.{answers_to}
use Rattle.headline.specs.node_group.Group.{Group, moment_of_nodes}
use Rattle.headline.specs.node_group.Steps.{GroupStep, GroupTrace}
use Rattle.headline.specs.node_group.Steps.GroupTrace.{opened, then_went}
use Rattle.headline.specs.node_group.Streams.{came_up, went_down}
use Rattle.headline.specs.byte_world.ClientSteps.{WritesCanBeSpelled, after_connecting, after_packet, story_alone}
use Rattle.headline.specs.byte_world.Transport.{IsFaithful, node_call_of}
use Rattle.headline.specs.byte_world.World.{ClientPipes, Pipe, after_writing, new_client, newly_written, packets_of, sent_up, with_pipe}
use Rattle.headline.proofs.AnswersFit.{answers_fit}
use Rattle.headline.proofs.LivedBeside.{HasLife}
use Rattle.headline.proofs.NextAnswer.{next_answer}
use Rattle.headline.proofs.Untaken.{AreSameUntaken}
use Rattle.headline.proofs.of_byte_world.OnTheWay.{IsHandled, joins_more, newly_is, one_handled}
use Rattle.headline.proofs.of_byte_world.WorldsKeep.{call_writes}
use Rattle.headline.proofs.of_node_group.CarriedInOrder.{CarriedSo, IsAgreedSo, carried_on, carried_so, carries_each}
use Rattle.headline.proofs.of_packet_world.Answers.{counted_in, nothing_put, of_name}
use Rattle.one_client.specs.Along.{Along, TakesWritten, after_step, pipe_after}
use Rattle.one_client.specs.Along.Along.{opens, goes, calls, connects, reads, handles}
use Rattle.one_client.specs.Calls.{AreFaithful, BringsBytes, TookNothing, calls_on}
use Rattle.one_client.specs.Names.{AreNamed, IsNameAt}
use Rattle.one_client.specs.Promised.{IsAlone}
use Rattle.one_client.proofs.AgreedCommands.{agreed_in_range, passing}
use Rattle.one_client.proofs.ConnectsOnce.{none_before}
use Rattle.one_client.proofs.LifeGrows.{IsOwn, life_begins, life_calls, life_connects, life_grows, life_handles, life_of}
use Rattle.one_client.proofs.PipesAlong.{PipeGoes, PipesGo, named_written, names_before, names_set, names_written, piece_goes, pipe_at, pipes_set, pipes_step, pipes_written, written_goes}
use Rattle.one_client.proofs.PortBytes.{unheard}

pub record GoesAlong (client : Client) {nodes : ℕ} {config : Config} {g : Group} (went : GroupTrace nodes config g) (one : ClientPipes) : Type 0 where
  pub faithful : AreFaithful went
  pub brings : Each BringsBytes (calls_on went)
  pub so : CarriedSo went
  pub pipes : PipesGo went one.connections one.pipes
  pub owner : one.keeper.client ≡ client
  pub life : (list : List Command) → IsAgreedSo so list → IsAlone client one.connections list → HasLife list one

-- ---- the list is of what the client wrote

same_commands : (x : ConnectionName) (n : ℕ) (written : List Written) → packet_commands_from x n (packets_of written) ≡ commands_from x n written
same_commands x n [] = refl
same_commands x n (w ∷ written) = ap (λ l. command_of x n w.packet ∷ l) (same_commands x (suc n) written)

is_own : (client : Client) {nodes : ℕ} {config : Config} {g : Group} (went : GroupTrace nodes config g) (so : CarriedSo went) (connections : List ClientConnection) (pipes : List Pipe)
    → PipesGo went connections pipes → (list : List Command) → IsAgreedSo so list → IsAlone client connections list → IsOwn client connections list
is_own client {g = g} went so connections pipes go list is alone =
    record {
      order = λ j κ at.
          let p = pipe_at went connections pipes j κ go at in
          subst (IsPrefixOf (filter (of_name κ.name) list)) (same_commands κ.name 0 κ.written)
          (carries_each g went so list is κ.name (packets_of κ.written) p.1.up.later p.1.up.joined).up;
      alone = alone;
    }

-- a client that differs in its pipes alone
same_life : (list : List Command) (one later : ClientPipes) → later.keeper ≡ one.keeper → later.connections ≡ one.connections → HasLife list one → HasLife list later
same_life list one later keeper connections h =
    record {
      story = h.story;
      lived = h.lived;
      past = h.past;
      keeper = h.keeper ∙ sym keeper;
      connections = subst (AreSameUntaken h.story.connections) (sym connections) h.connections;
    }

-- ---- it opens

opens_so : (client : Client) {nodes : ℕ} {config : Config} {g : Group} (went : GroupTrace nodes config g) → AreFaithful went → Each BringsBytes (calls_on went) → GoesAlong client went (new_client client)
opens_so client went faithful brings =
    let so = carried_so went in
    record {
      faithful = faithful;
      brings = brings;
      so = so;
      pipes = tt;
      owner = refl;
      life = λ list is alone.
          life_grows [] list (new_client client) (record { rest = list; is = refl })
          (life_of [] (new_client client) (new_client client).keeper [] (life_begins client) refl refl)
          (is_own client went so [] [] tt list is alone);
    }

-- ---- the group goes on

alone_before : (client : Client) (connections : List ClientConnection) (front list : List Command) → IsPrefixOf front list → IsAlone client connections list → IsAlone client connections front
alone_before client connections front list grown alone x clean i = alone x clean (subst (In (commands.Connect x client clean)) (sym grown.is) (in_left grown.rest i))

group_goes : (client : Client) {nodes : ℕ} {config : Config} (g h : Group) (went : GroupTrace nodes config g) (one : ClientPipes) (step : GroupStep g h) → IsFaithful step → BringsBytes (node_call_of step)
    → Each (TakesWritten went step) one.pipes → AreNamed went one.connections one.pipes → GoesAlong client went one → GoesAlong client (then_went went step) (after_step step one)
group_goes client {config = config} g h went one step faithful brings takes named s =
    let on = carried_on g h went s.so step in
    let pipes = pipes_step went step faithful one.connections one.pipes named takes s.pipes in
    let xs = has_agreed rules config (moment_of_nodes g) s.so.of.earlier s.so.of.moments in
    record {
      faithful = (s.faithful, faithful);
      brings = (brings, s.brings);
      so = on.now;
      pipes = pipes;
      owner = s.owner;
      life = λ list is alone.
          let grown = on.grows xs.0 list xs.1 is in
          let own : IsOwn one.keeper.client one.connections list =
          subst (λ (c : Client). IsOwn c one.connections list) (sym s.owner)
          (is_own client (then_went went step) on.now one.connections (map (pipe_after step) one.pipes) pipes list is alone) in
          same_life list one (after_step step one) refl refl
          (life_grows xs.0 list one grown (s.life xs.0 xs.1 (alone_before client one.connections xs.0 list grown alone)) own);
    }

-- ---- the client calls

calls_so : (client : Client) {nodes : ℕ} {config : Config} {g : Group} (went : GroupTrace nodes config g) (one : ClientPipes) (after : Story) (step : StoryStep usual_limits (story_alone one) after)
    → is_call step ≡ true → WritesCanBeSpelled one.connections after.connections → GoesAlong client went one → GoesAlong client went (after_writing after.keeper after.connections one)
calls_so client went one after step call whole s =
    let new = call_writes step call in
    record {
      faithful = s.faithful;
      brings = s.brings;
      so = s.so;
      pipes = pipes_written went one.connections after.connections one.pipes new.0 new.1 whole s.pipes;
      owner = same_story usual_limits (story_alone one) after step ∙ s.owner;
      life = λ list is alone.
          life_calls list one (story_alone one) after step (after_writing after.keeper after.connections one) call refl refl refl refl
          (s.life list is
          (λ x clean i. sym (ap (any_named (same_connection x)) new.1 ∙ named_written (same_connection x) new.0 one.connections) ∙ alone x clean i));
    }

-- ---- it opens a connection

module _ (client : Client) {nodes : ℕ} {config : Config} {g : Group} (went : GroupTrace nodes config g) (one : ClientPipes) (x : ConnectionName) (n : ℕ) (port : Port)
    (fresh : any_named (same_connection x) one.connections ≡ false) (nothing : TookNothing n port went)
    (whole : IsPacket (packets.Connect (record { client = one.keeper.client; clean = false; keep_alive = 0 }))) (named : IsNameAt went x n port) (s : GoesAlong client went one) where
  silent : came_up x went ≡ []
  silent = unheard went x n port s.faithful named nothing

  -- no packet of it is agreed
  unsaid : (list : List Command) → IsAgreedSo s.so list → filter (of_name x) list ≡ []
  unsaid list is =
      none_before (filter (of_name x) list) (carries_each g went s.so list is x [] [] (ap (λ l. l ++ []) silent)).up

  -- nothing was handed over on it
  undelivered : went_down x went ≡ []
  undelivered =
      let xs = has_agreed rules config (moment_of_nodes g) s.so.of.earlier s.so.of.moments in
      none_before (went_down x went)
      (subst (IsPrefixOf (went_down x went)) (ap spelled (nothing_put usual_limits xs.0 x (counted_in usual_limits x xs.0 ∙ ap length (unsaid xs.0 xs.1))))
      (carries_each g went s.so xs.0 xs.1 x [] [] (ap (λ l. l ++ []) silent)).down)

  abbrev κ_new : ClientConnection
  κ_new = new_connection one.keeper.client x

  abbrev p_new : Pipe
  p_new = record { node = n; port = port; up = spelled (packets_of κ_new.written); down = []; came = record { bytes = []; failed = false } }

  new_goes : PipeGoes went κ_new p_new
  new_goes =
      record {
        up = record {
          later = p_new.up;
          joined = subst (λ (l : List ℕ). Joins (packets_of κ_new.written) (l ++ p_new.up)) (sym silent) (joins_more [] (packets_of κ_new.written) [] (whole, tt) refl);
          early = λ none. refl;
          still = λ core d at i same lives. refl;
        };
        down = record { handled = []; counted = refl; whole = tt; is = sym undelivered; sound = refl };
      }

  -- no Connect of the client is on it yet
  alone_still : (list : List Command) → IsAgreedSo s.so list → IsAlone client (κ_new ∷ one.connections) list → IsAlone client one.connections list
  alone_still list is alone y clean i = by (same_connection y x) refl (alone y clean i)
    where
      by : (b : Bool) → same_connection y x ≡ b → (b || any_named (same_connection y) one.connections) ≡ true → any_named (same_connection y) one.connections ≡ true
      by false e f = f
      by true e f = absurd (none_there (filter (of_name x) list) (unsaid list is) (commands.Connect y client clean) (passing (of_name x) list (commands.Connect y client clean) i e))
        where
          none_there : (xs : List Command) → xs ≡ [] → (z : Command) → In z xs → ⊥
          none_there [] none z j = elim j [ ]
          none_there (w ∷ xs) none z j = cc

  pub connects_so : GoesAlong client went (after_connecting x n port one)
  connects_so =
      record {
        faithful = s.faithful;
        brings = s.brings;
        so = s.so;
        pipes = (new_goes, s.pipes);
        owner = s.owner;
        life = λ list is alone.
            life_connects list one (after_connecting x n port one) x fresh (unsaid list is) refl refl (s.life list is (alone_still list is alone));
      }

-- ---- it handles a packet

handles_so : (client : Client) {nodes : ℕ} {config : Config} {g : Group} (went : GroupTrace nodes config g) (one : ClientPipes) (κ : ClientConnection) (others : List ClientConnection) (p : Pipe) (pipes : List Pipe)
    (packet : Packet) (left : Stream) → one.connections ≡ κ ∷ others → one.pipes ≡ p ∷ pipes → one.keeper.is_open ≡ true → Takes p.came (Ok (Some packet)) left
    → WritesCanBeSpelled one.connections ((packet_handled packet (record { keeper = one.keeper; connection = κ })).connection ∷ others) → GoesAlong client went one
    → GoesAlong client went (after_packet others pipes p left (packet_handled packet (record { keeper = one.keeper; connection = κ })) one)
handles_so client {g = g} went one κ others p pipes packet left are piped is_open cut whole s =
    record {
      faithful = s.faithful;
      brings = s.brings;
      so = s.so;
      pipes = subst (λ (ps : List Packet). PipesGo went (side.connection ∷ others) (sent_up ps (record p { came = left } ∷ pipes))) (sym more) (now, both.1);
      owner = owned ∙ s.owner;
      life = λ list is alone.
          life_handles list one later κ others packet are is_open (next list is) refl refl (s.life list is (λ x clean i. same_names x ∙ alone x clean i));
    }
  where
    side : Side
    side = packet_handled packet (record { keeper = one.keeper; connection = κ })

    later : ClientPipes
    later = after_packet others pipes p left side one

    grown : Grown κ side.connection (suc κ.handled)
    grown = handled_grows κ one.keeper packet

    more : newly_written one.connections (side.connection ∷ others) ≡ packets_of grown.more
    more = ap (λ l. newly_written l (side.connection ∷ others)) are ∙ newly_is κ side.connection others others grown.more grown.written

    both : PipeGoes went κ p × PipesGo went others pipes
    both = subst (λ (l : List ClientConnection). PipesGo went l (p ∷ pipes)) are (subst (PipesGo went one.connections) piped s.pipes)

    now : PipeGoes went side.connection (record p { up = p.up ++ spelled (packets_of grown.more); came = left })
    now =
        written_goes went κ side.connection p left grown.more grown.name grown.written (subst (Each IsPacket) more whole)
        (subst (λ n. IsHandled n left p.down (went_down κ.name went)) (sym grown.handled) (one_handled κ.handled p.came left p.down (went_down κ.name went) packet cut.2 cut.3 both.0.down)) both.0

    owned : side.keeper.client ≡ one.keeper.client
    owned = (stays_handled packet (record { keeper = one.keeper; connection = κ })).client

    same_names : (x : ConnectionName) → any_named (same_connection x) one.connections ≡ any_named (same_connection x) (side.connection ∷ others)
    same_names x = ap (any_named (same_connection x)) are ∙ ap (λ (y : ConnectionName). same_connection x y || any_named (same_connection x) others) (sym grown.name)

    -- the packet is the next answer
    next : (list : List Command) → IsAgreedSo s.so list → slice_get (put_to usual_limits (past_of usual_limits list) κ.name) κ.handled ≡ Some packet
    next list is =
        let go = both.0 in
        let down = (carries_each g went s.so list is κ.name (packets_of κ.written) go.up.later go.up.joined).down in
        ap (slice_get (put_to usual_limits (past_of usual_limits list) κ.name)) (sym go.down.counted)
        ∙ next_answer go.down.handled (put_to usual_limits (past_of usual_limits list) κ.name) p.came left p.down packet go.down.whole
        (answers_fit list κ.name (agreed_in_range g went s.so list is s.faithful s.brings)) go.down.sound (subst (λ l. IsPrefixOf l (answers_to κ.name list)) (sym go.down.is) down) cut

-- ---- all that happens

pub goes_along : {nodes : ℕ} {config : Config} (client : Client) (g : Group) (went : GroupTrace nodes config g) (one : ClientPipes) → Along nodes config client g went one
    → AreNamed went one.connections one.pipes → GoesAlong client went one
goes_along client g went one (opens greatest can) named = opens_so client (opened greatest can) tt tt
goes_along client h next later (goes {group = g} {went = went} {one = one} along step faithful brings takes) named =
    let before = names_before went step one.connections one.pipes named in
    group_goes client g h went one step faithful brings takes before (goes_along client g went one along before)
goes_along client g went later (calls {one = one} along after step call whole) named =
    let new = call_writes step call in
    calls_so client went one after step call whole
    (goes_along client g went one along (names_written went one.connections after.connections one.pipes new.0 (newly_written one.connections after.connections) new.1 named))
goes_along client g went later (connects {one = one} along x n port fresh nothing whole) named =
    connects_so client went one x n port fresh nothing whole named.0 (goes_along client g went one along named.1)
goes_along client g went later (reads {one = one} along nth p piece rest at cut) named =
    let q : Pipe = record p { down = rest; came = record p.came { bytes = p.came.bytes ++ piece } } in
    let s = goes_along client g went one along (names_set went one.connections one.pipes nth p q at refl refl named) in
    record {
      faithful = s.faithful;
      brings = s.brings;
      so = s.so;
      pipes = pipes_set went one.connections one.pipes nth p q at (λ κ go. piece_goes went κ p piece rest cut go) s.pipes;
      owner = s.owner;
      life = λ list is alone. same_life list one (with_pipe nth q one) refl refl (s.life list is alone);
    }
goes_along client g went later (handles {one = one} along κ others p pipes packet left are piped is_open cut whole) named =
    handles_so client went one κ others p pipes packet left are piped is_open cut whole
    (goes_along client g went one along
    (subst (AreNamed went one.connections) (sym piped)
    (subst (λ (l : List ClientConnection). AreNamed went l (p ∷ pipes)) (sym are)
    (subst (λ (y : ConnectionName). IsNameAt went y p.node p.port) (handled_grows κ one.keeper packet).name named.0, named.1))))
