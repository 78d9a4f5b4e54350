-- CallsFollow.antt: after a call a client is in a state that the model's client may reach by a call
-- of its own.
use Rattle.std.proofs.Common.{◌≡◌, suc, true, false, List, [], ◌∷◌, ◌++◌, length, reverse, Ok, refl, ap, ap₂, sym, subst, ◌∙◌, arith}
use Rattle.std.proofs.lemmas.Bool.{both_ways}
use Rattle.std.proofs.lemmas.List.{append-nil}
use Rattle.packet.specs.Spelling.{IsPacket}
use Rattle.lists.specs.Lists.{Each}
use Rattle.client_base.specs.State.{ClientState, is_open}
use Rattle.client_base.specs.Answered.{ClientOutcome}
use Rattle.client_base.specs.History as history
use Rattle.client_base.specs.Written.{writes, writes_first}
use Rattle.client.specs.Core.{AppendsAll, Core, gone}
use Rattle.headline.specs.node_moves.Puts.{spelled}
use Rattle.session_base.specs.declared.publication.Publication.{Publication}
use Rattle.exactly_once.specs.Sides.{ClientConnection}
use Rattle.headline.specs.byte_world.World.{ClientPipes, Pipe, after_writing, newly_written, sent_up}
use Rattle.headline.specs.byte_world.ClientSteps.{WritesCanBeSpelled}
use Rattle.headline.specs.byte_world.Published.{published_by_call}
use Rattle.headline.proofs.of_byte_world.OnTheWay.{newly_is}
use Rattle.world_pipes.specs.declared.sending.Sending.{Sending}
use Rattle.world_pipes.specs.declared.sending.Sending.TheVariants as sendings
use Rattle.world_pipes.specs.declared.pair.PipePair.{PipePair}
use Rattle.world_pipes.specs.ModelSteps.{CallingFollows, after_losing}
use Rattle.world_pipes.specs.Steps.{ClientTrace, ClientStep}
use Rattle.world_pipes.specs.Piped.{Calls, GoesUp, GoesUpWhere, Piped, TakesLeave, broken, is_holding, piped}
use Rattle.world_pipes.specs.Piped as pipings
use Rattle.exactly_once.specs.Acceptance.{accepted_on}
use Rattle.world_pipes.specs.StandsFor.{ArePipePairs, CanGoOut, ClientStandsFor}
use Rattle.headline.specs.byte_world.Accepted.{accepted_at_qos2}
use Rattle.world_pipes.proofs.CarryingFollows.{IsLeft, finished, left_lost, pair_up}
use Rattle.world_pipes.proofs.ModelsCalls.{IsCalled}
use Rattle.world_pipes.proofs.PacketsHandled.{appended}
use Rattle.world_pipes.proofs.Spellable.{AllSpelled}
use Rattle.world_pipes.proofs.Pairs.{last_same, losing, losing_silent, newest_pair}

-- ---- what was written, on the connection that is held

-- the model's client after its call, with the held connection apart
record HasCalled (outcome : ClientOutcome) (core : Core) (older : List PipePair) (pair : PipePair) (m : ClientPipes) (c : IsCalled outcome m) : Type 0 where
  pub others : List ClientConnection
  pub pipe : Pipe
  pub further : List Pipe
  pub left : IsLeft pair.up core (after_writing c.keeper c.connections m) others pipe further
  pub leads : (pipe.node ≡ pair.node) × (pipe.port ≡ pair.port) × (pipe.down ≡ pair.down)
  pub many : length others ≡ length further
  pub pairs : ArePipePairs (reverse older) further
  pub spelled : WritesCanBeSpelled m.connections c.connections

has_called : (outcome : ClientOutcome) (old : Piped) (core : Core) (older : List PipePair) (pair : PipePair) (m : ClientPipes) (c : IsCalled outcome m) → ClientStandsFor old m →
    is_holding old ≡ true → old.pairs ≡ older ++ pair ∷ [] → AllSpelled outcome → core.state ≡ outcome.state → AppendsAll old.core.out core.out outcome.writes →
    (is_open core.state.stage ≡ true → core.unread ≡ old.core.unread) → outcome.state.accepted ≡ old.core.state.accepted → HasCalled outcome core older pair m c
has_called outcome old core older pair m c s up splits whole same appends unread none =
    let held = s.held up in
    let κ = held.connection in
    let others = held.others in
    let p = held.pipe in
    let newest : pair ≡ held.pair = last_same older held.older pair held.pair (sym splits ∙ held.pairs) in
    let pairs = newest_pair old.pairs older pair m.pipes held.further p splits held.pipes s.pairs in
    let first : c.connections ≡ writes c.more κ ∷ others = c.on_first ∙ ap (λ l. writes_first c.more l) held.connections in
    let newly : newly_written m.connections c.connections ≡ outcome.writes =
    ap₂ (λ before after. newly_written before after) held.connections first ∙ newly_is κ (writes c.more κ) others others c.more refl ∙ c.writes in
    let out : core.out ≡ spelled outcome.writes =
    appended [] core.out outcome.writes whole.writes (subst (λ o. AppendsAll o core.out outcome.writes) held.sent appends) in
    let counted : suc (length others) ≡ suc (length held.further) = sym (ap length held.connections) ∙ s.many ∙ ap length held.pipes in
    record {
      others = others;
      pipe = p;
      further = held.further;
      left = record {
        keeper = subst (history.KeeperStandsFor c.keeper) (sym same) c.stands;
        fits = subst CanGoOut (sym same) whole.left;
        accepted = ap (λ (state : ClientState). accepted_at_qos2 state.accepted) same ∙ ap accepted_at_qos2 none ∙ s.accepted ∙ ap accepted_on held.connections ∙ sym (ap accepted_on first);
        connection = writes c.more κ;
        connections = first;
        pipe = record p { up = p.up ++ spelled (newly_written m.connections c.connections) };
        pipes = ap (λ l. sent_up (newly_written m.connections c.connections) l) held.pipes;
        leads = (refl, refl, refl);
        up = ap₂ (λ u l. u ++ l) (held.up ∙ ap (λ (w : PipePair). w.up) (sym newest)) (ap spelled newly ∙ sym out);
        came = λ on. held.came ∙ sym (unread on);
      };
      leads = (pairs.0.node, pairs.0.port, pairs.0.down);
      many = omega (arith, counted);
      pairs = pairs.1;
      spelled = subst (Each IsPacket) (sym newly) whole.writes;
    }

-- it went up
sent_stands : (outcome : ClientOutcome) (core : Core) (older : List PipePair) (pair : PipePair) (m : ClientPipes) (c : IsCalled outcome m) → HasCalled outcome core older pair m c →
    ClientStandsFor (pipings.piped_up core older pair) (after_writing c.keeper c.connections m)
sent_stands outcome core older pair m c h =
    let up = pair.up ++ core.out in
    finished older pair pair.up core (record core { out = [] }) (after_writing c.keeper c.connections m) h.others h.pipe h.further up [] h.left refl h.many h.pairs
    (pair_up older pair pair.up core (after_writing c.keeper c.connections m) h.others h.pipe h.further up [] h.left h.leads.0 h.leads.1 h.leads.2
    (sym (append-nil up)))
    (λ on. (h.left.up, refl, refl))

-- or the connection was lost
lost_stands : (outcome : ClientOutcome) (core : Core) (older : List PipePair) (pair : PipePair) (m : ClientPipes) (c : IsCalled outcome m) → HasCalled outcome core older pair m c →
    ClientStandsFor (broken core (older ++ pair ∷ [])) (after_losing (after_writing c.keeper c.connections m))
lost_stands outcome core older pair m c h =
    let m₁ = after_writing c.keeper c.connections m in
    let left = left_lost pair.up core m₁ h.others h.pipe h.further h.left in
    finished older pair pair.up (gone core) (gone core) (after_losing m₁) h.others h.pipe h.further pair.up core.out left refl h.many h.pairs
    (pair_up older pair pair.up (gone core) (after_losing m₁) h.others h.pipe h.further pair.up core.out left h.leads.0 h.leads.1 h.leads.2 refl)
    (λ on. absurd (both_ways false refl on))

-- ---- what a call needs

-- what a call of the model's client and of this are to each other
pub record HasCall (published : List Publication) (outcome : ClientOutcome) (old : Piped) (core : Core) : Type 0 where
  pub state : core.state ≡ outcome.state
  pub appends : AppendsAll old.core.out core.out outcome.writes
  pub unread : is_open core.state.stage ≡ true → core.unread ≡ old.core.unread
  pub fits : CanGoOut old.core.state → AllSpelled outcome
  pub accepts_none : outcome.state.accepted ≡ old.core.state.accepted
  pub too : (m : ClientPipes) → history.KeeperStandsFor m.keeper old.core.state → old.core.state.keep_alive ≡ 0 → (c : IsCalled outcome m) × (published_by_call c.call ≡ published)

-- a call of a client that holds a connection
pub up_follows : (published : List Publication) (outcome : ClientOutcome) (old : Piped) (core : Core) (sending : Sending) (new : Piped) → is_holding old ≡ true → HasCall published outcome old core →
    GoesUp core old.pairs sending new → CallingFollows published old (Ok sending) new
up_follows published outcome old core sendings.Sent new up has (older, pair, splits, is) = λ m s.
    let called = has.too m s.keeper s.fits.keep_alive in
    let c = called.0 in
    let h = has_called outcome old core older pair m c s up splits (has.fits s.fits) has.state has.appends has.unread has.accepts_none in
    record {
      story = record { past = []; connections = c.connections; keeper = c.keeper };
      call = c.call;
      is_one = c.is_one;
      publishes = called.1;
      spelled = h.spelled;
      stands = subst (λ p. ClientStandsFor p (after_writing c.keeper c.connections m)) (sym is) (sent_stands outcome core older pair m c h);
    }
up_follows published outcome old core sendings.Lost new up has is = λ m s.
    let held = s.held up in
    let called = has.too m s.keeper s.fits.keep_alive in
    let c = called.0 in
    let m₁ = after_writing c.keeper c.connections m in
    let h = has_called outcome old core held.older held.pair m c s up held.pairs (has.fits s.fits) has.state has.appends has.unread has.accepts_none in
    let step : ClientStep m m₁ = ClientStep.calls (record { past = []; connections = c.connections; keeper = c.keeper }) c.call c.is_one h.spelled in
    record {
      next = after_losing m₁;
      goes = ClientTrace.goes_on (ClientTrace.goes_on ClientTrace.stays step) (losing m₁);
      publishes = ap (λ l. published_by_call c.call ++ l) (losing_silent m₁) ∙ append-nil (published_by_call c.call) ∙ called.1;
      stands = subst (λ p. ClientStandsFor p (after_losing m₁)) (sym (is ∙ ap (λ l. broken core l) held.pairs))
          (lost_stands outcome core held.older held.pair m c h);
    }
