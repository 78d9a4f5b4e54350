-- CarryingFollows.antt: after what comes to it a client is in a state that the model's may reach.
use Rattle.std.proofs.Common.{◌≡◌, ℕ, suc, true, false, ◌⊎◌, inl, inr, List, [], ◌∷◌, ◌++◌, length, take, drop, reverse, set, slice_get, Result, Ok, Err, refl, ap, ap₂, sym, subst, ◌∙◌, arith, append_assoc}
use Rattle.std.proofs.lemmas.Bool.{both_ways}
use Rattle.std.proofs.lemmas.List.{append-nil, take-append-drop}
use Rattle.cutter.specs.Stream.{Stream}
use Rattle.client_base.specs.declared.error.ClientError.{ClientError}
use Rattle.client_base.specs.declared.error.ClientError.TheVariants as errors
use Rattle.client_base.specs.declared.stage.Stage.{Stage}
use Rattle.client_base.specs.declared.stage.Stage.TheVariants as stages
use Rattle.client_base.specs.State.{ClientState, is_open}
use Rattle.client_base.specs.History as history
use Rattle.client_base.proofs.FollowsHandled.{lost_stands}
use Rattle.client.specs.Core.{Core, gone}
use Rattle.client.specs.Input.{EndsWith, Handles, LacksRoom, OnBytes, fed}
use Rattle.exactly_once.specs.Sides.{ClientConnection}
use Rattle.headline.specs.byte_world.World.{ClientPipes, Pipe, with_pipe}
use Rattle.world_pipes.specs.declared.pair.PipePair.{PipePair}
use Rattle.world_pipes.specs.ModelSteps.{ModelFollows, CarryingFollows, after_losing}
use Rattle.world_pipes.specs.Steps.{ClientTrace, ClientStep, published_in_steps, published_with}
use Rattle.world_pipes.specs.Piped.{CarriesDown, Piped, broken, come_down, piped, piped_up}
use Rattle.exactly_once.specs.Acceptance.{accepted_on}
use Rattle.world_pipes.specs.StandsFor.{ArePipePairs, CanGoOut, IsPipePair, ClientStandsFor}
use Rattle.headline.specs.byte_world.Accepted.{accepted_at_qos2}
use Rattle.world_pipes.proofs.PacketsHandled.{GoFar, IsInMidst, all_go, one_goes}
use Rattle.world_pipes.proofs.StaysOpen.{handled_stays}
use Rattle.world_pipes.proofs.Pairs.{last_same, losing, losing_silent, lost_fits, newest_pair, same_pipes, with_newest}

-- ---- after a piece

-- As in the midst of it, but that the connection may be lost.
pub record IsLeft (before : List ℕ) (core : Core) (m : ClientPipes) (others : List ClientConnection) (p₀ : Pipe) (further : List Pipe) : Type 0 where
  pub keeper : history.KeeperStandsFor m.keeper core.state
  pub fits : CanGoOut core.state
  pub accepted : accepted_at_qos2 core.state.accepted ≡ accepted_on m.connections
  pub connection : ClientConnection
  pub connections : m.connections ≡ connection ∷ others
  pub pipe : Pipe
  pub pipes : m.pipes ≡ pipe ∷ further
  pub leads : (pipe.node ≡ p₀.node) × (pipe.port ≡ p₀.port) × (pipe.down ≡ p₀.down)
  pub up : pipe.up ≡ before ++ core.out
  pub came : is_open core.state.stage ≡ true → pipe.came ≡ core.unread

record Leaves (before : List ℕ) (core : Core) (m : ClientPipes) (others : List ClientConnection) (p₀ : Pipe) (further : List Pipe) : Type 0 where
  pub last : ClientPipes
  pub steps : ClientTrace m last
  pub silent : published_in_steps steps ≡ []
  pub left : IsLeft before core last others p₀ further

left_so : (before : List ℕ) (core : Core) (m : ClientPipes) (others : List ClientConnection) (p₀ : Pipe) (further : List Pipe) →
    IsInMidst before core m others p₀ further → IsLeft before core m others p₀ further
left_so before core m others p₀ further s =
    record {
      keeper = s.keeper;
      fits = s.fits;
      accepted = s.accepted;
      connection = s.connection;
      connections = s.connections;
      pipe = s.pipe;
      pipes = s.pipes;
      leads = s.leads;
      up = s.up;
      came = λ on. s.came;
    }

pub left_lost : (before : List ℕ) (core : Core) (m : ClientPipes) (others : List ClientConnection) (p₀ : Pipe) (further : List Pipe) →
    IsLeft before core m others p₀ further → IsLeft before (gone core) (after_losing m) others p₀ further
left_lost before core m others p₀ further s =
    record {
      keeper = lost_stands m.keeper core.state s.keeper;
      fits = lost_fits core s.fits;
      accepted = s.accepted;
      connection = s.connection;
      connections = s.connections;
      pipe = s.pipe;
      pipes = same_pipes m ∙ s.pipes;
      leads = s.leads;
      up = s.up;
      came = λ on. absurd (both_ways false refl on);
    }

lose : (before : List ℕ) (core new : Core) (m : ClientPipes) (others : List ClientConnection) (p₀ : Pipe) (further : List Pipe) →
    new ≡ gone core → Leaves before core m others p₀ further → Leaves before new m others p₀ further
lose before core new m others p₀ further is l =
    record {
      last = after_losing l.last;
      steps = ClientTrace.goes_on l.steps (losing l.last);
      silent = ap₂ (λ a b. a ++ b) l.silent (losing_silent l.last);
      left = subst (λ c. IsLeft before c (after_losing l.last) others p₀ further) (sym is) (left_lost before core l.last others p₀ further l.left);
    }

ends : (before : List ℕ) (last new : Core) (m : ClientPipes) (others : List ClientConnection) (p₀ : Pipe) (further : List Pipe) (read : Result (Unit {0}) ClientError) →
    is_open last.state.stage ≡ true → GoFar before last m others p₀ further → EndsWith last read new ⊎ (new ≡ gone last) → Leaves before new m others p₀ further
ends before last new m others p₀ further read up far end = in_either end
  where
    kept : Leaves before last m others p₀ further
    kept = record { last = far.last; steps = far.steps; silent = far.silent; left = left_so before last far.last others p₀ further far.stands }

    by : (read : Result (Unit {0}) ClientError) → EndsWith last read new → Leaves before new m others p₀ further
    by (Ok done) end = subst (λ c. Leaves before c m others p₀ further) (sym end.1) kept
    by (Err errors.SessionLost) end =
        let one = one_goes before last end.1 new far.last others p₀ further end.0 up far.stands end.2 end.4 in
        record { last = one.next; steps = ClientTrace.goes_on far.steps one.step; silent = ap₂ (λ a b. a ++ b) far.silent one.silent; left = left_so before new one.next others p₀ further one.stands }
    by (Err errors.Memory) end = lose before last new m others p₀ further end.1 kept
    by (Err errors.NotActive) end = lose before last new m others p₀ further end.1 kept
    by (Err errors.WindowFull) end = lose before last new m others p₀ further end.1 kept
    by (Err errors.TooLarge) end = lose before last new m others p₀ further end.1 kept
    by (Err errors.Protocol) end = lose before last new m others p₀ further end.1 kept
    by (Err (errors.Malformed kind)) end = lose before last new m others p₀ further end.1 kept

    in_either : EndsWith last read new ⊎ (new ≡ gone last) → Leaves before new m others p₀ further
    in_either (inl end) = by read end
    in_either (inr lost) = lose before last new m others p₀ further lost kept

-- what a piece does to an open client: packets are handled, and then it ends, or the connection is
-- lost at once
record HasRead (piece : List ℕ) (old : Core) (read : Result (Unit {0}) ClientError) (new : Core) : Type 0 where
  pub last : Core
  pub handled : Handles (fed piece old) last
  pub ends : EndsWith last read new ⊎ (new ≡ gone last)

unread : (piece : List ℕ) (old new : Core) (read : Result (Unit {0}) ClientError) → LacksRoom piece old read new → HasRead piece old read new
unread piece old new read lacks = record { last = fed piece old; handled = Handles.none; ends = inr lacks.2 }

has_read : (piece : List ℕ) (stage : Stage) (old new : Core) (read : Result (Unit {0}) ClientError) → is_open stage ≡ true → OnBytes piece stage old read new →
    HasRead piece old read new
has_read piece stages.Closed old new read up heard = absurd (both_ways false refl up)
has_read piece stages.Opened old new read up (inl lacks) = unread piece old new read lacks
has_read piece stages.Opened old new read up (inr heard) = record { last = heard.0; handled = heard.1; ends = inl heard.2 }
has_read piece stages.Online old new read up (inl lacks) = unread piece old new read lacks
has_read piece stages.Online old new read up (inr heard) = record { last = heard.0; handled = heard.1; ends = inl heard.2 }

-- ---- after the call

pub pair_up : (older : List PipePair) (pair : PipePair) (before : List ℕ) (core : Core) (m : ClientPipes) (others : List ClientConnection) (p₀ : Pipe) (further : List Pipe) (up rest : List ℕ) →
    (l : IsLeft before core m others p₀ further) → p₀.node ≡ pair.node → p₀.port ≡ pair.port → p₀.down ≡ pair.down → before ++ core.out ≡ up ++ rest →
    IsPipePair (record pair { up = up }) l.pipe
pair_up older pair before core m others p₀ further up rest l node port down is =
    record { node = l.leads.0 ∙ node; port = l.leads.1 ∙ port; up = record { rest = rest; is = l.up ∙ is }; down = l.leads.2 ∙ down }

pub finished : (older : List PipePair) (pair : PipePair) (before : List ℕ) (core shown : Core) (m : ClientPipes) (others : List ClientConnection) (p₀ : Pipe) (further : List Pipe) (up rest : List ℕ) →
    (l : IsLeft before core m others p₀ further) → shown.state ≡ core.state → length others ≡ length further → ArePipePairs (reverse older) further →
    IsPipePair (record pair { up = up }) l.pipe →
    (is_open core.state.stage ≡ true → (l.pipe.up ≡ up) × (shown.out ≡ []) × (shown.unread ≡ core.unread)) →
    ClientStandsFor (piped shown (older ++ record pair { up = up } ∷ [])) m
finished older pair before core shown m others p₀ further up rest l same many pairs one on =
    record {
      keeper = subst (history.KeeperStandsFor m.keeper) (sym same) l.keeper;
      fits = subst CanGoOut (sym same) l.fits;
      accepted = ap (λ (state : ClientState). accepted_at_qos2 state.accepted) same ∙ l.accepted;
      many = ap length l.connections ∙ ap suc many ∙ sym (ap length l.pipes);
      pairs = subst (ArePipePairs (reverse (older ++ record pair { up = up } ∷ []))) (sym l.pipes) (with_newest older (record pair { up = up }) further l.pipe one pairs);
      held = λ open-now.
          let opened : is_open core.state.stage ≡ true = ap (λ state. is_open state.stage) (sym same) ∙ open-now in
          record {
            connection = l.connection;
            others = others;
            connections = l.connections;
            pipe = l.pipe;
            further = further;
            pipes = l.pipes;
            older = older;
            pair = record pair { up = up };
            pairs = refl;
            up = (on opened).0;
            came = l.came opened ∙ sym (on opened).2;
            sent = (on opened).1;
          };
    }

-- ---- the whole call

first_then : {c d e : ClientPipes} → ClientStep c d → ClientTrace d e → ClientTrace c e
first_then step ClientTrace.stays = ClientTrace.goes_on ClientTrace.stays step
first_then step (ClientTrace.goes_on goes later) = ClientTrace.goes_on (first_then step goes) later

then_along : {c d e : ClientPipes} (step : ClientStep c d) (goes : ClientTrace d e) → published_in_steps (first_then step goes) ≡ published_with step ++ published_in_steps goes
unfolding first_then
then_along step ClientTrace.stays = sym (append-nil (published_with step))
then_along step (ClientTrace.goes_on goes later) =
    ap (λ a. a ++ published_with later) (then_along step goes) ∙ append_assoc (published_with step) (published_in_steps goes) (published_with later)

-- if no step publishes anything
then_silent : {c d e : ClientPipes} (step : ClientStep c d) (goes : ClientTrace d e) → published_with step ≡ [] → published_in_steps goes ≡ [] → published_in_steps (first_then step goes) ≡ []
then_silent step goes silent none = then_along step goes ∙ ap₂ (λ a b. a ++ b) silent none

pub carrying_follows : CarryingFollows
carrying_follows count old new result m s up h =
    let held = s.held up in
    let p = held.pipe in
    let others = held.others in
    let further = held.further in
    let same : h.pair ≡ held.pair = last_same h.older held.older h.pair held.pair (sym h.newest ∙ held.pairs) in
    let pairs = newest_pair old.pairs h.older h.pair m.pipes further p h.newest held.pipes s.pairs in
    let piece = take count h.pair.down in
    let rest = drop count h.pair.down in
    let p₁ : Pipe = record p { down = rest; came = record p.came { bytes = p.came.bytes ++ piece } } in
    let m₁ : ClientPipes = with_pipe 0 p₁ m in
    let counted : suc (length others) ≡ suc (length further) = sym (ap length held.connections) ∙ s.many ∙ ap length held.pipes in
    let many : length others ≡ length further = omega (arith, counted) in
    let coming : ClientStep m m₁ =
    ClientStep.arrives 0 held.connection p piece rest (ap (λ l. slice_get l 0) held.connections) (ap (λ l. slice_get l 0) held.pipes)
    (pairs.0.down ∙ sym (take-append-drop count h.pair.down)) in
    let start : IsInMidst h.pair.up (fed piece old.core) m₁ others p₁ further =
    record {
      keeper = s.keeper;
      fits = s.fits;
      accepted = s.accepted;
      connection = held.connection;
      connections = held.connections;
      pipe = p₁;
      pipes = ap (λ l. set l 0 p₁) held.pipes;
      leads = (refl, refl, refl);
      up = held.up ∙ ap (λ (pair : PipePair). pair.up) (sym same) ∙ sym (append-nil h.pair.up) ∙ ap (λ l. h.pair.up ++ l) (sym held.sent);
      came = ap (λ (c : Stream). record c { bytes = c.bytes ++ piece }) held.came;
    } in
    let r = has_read piece old.core.state.stage old.core h.core h.read up h.carried in
    let l = ends h.pair.up r.last h.core m₁ others p₁ further h.read (handled_stays (fed piece old.core) r.last r.handled up)
    (all_go h.pair.up (fed piece old.core) r.last m₁ others p₁ further up start r.handled) r.ends in
    shown count old new result m h others further p₁ m₁ many pairs.1 pairs.0.node pairs.0.port refl coming refl l h.goes_up
  where
    shown : (count : ℕ) (old new : Piped) (result : Result (Unit {0}) ClientError) (m : ClientPipes) (h : CarriesDown count old result new) (others : List ClientConnection)
        (further : List Pipe) (p₁ : Pipe) (m₁ : ClientPipes) → length others ≡ length further → ArePipePairs (reverse h.older) further → p₁.node ≡ h.pair.node →
        p₁.port ≡ h.pair.port → p₁.down ≡ drop count h.pair.down → (coming : ClientStep m m₁) → published_with coming ≡ [] → Leaves h.pair.up h.core m₁ others p₁ further →
        ((result ≡ h.read) × (new ≡ piped_up h.core h.older (come_down count h.pair)))
        ⊎ ((result ≡ Err errors.Memory) × (new ≡ broken h.core (h.older ++ come_down count h.pair ∷ []))) → ModelFollows [] m new
    shown count old new result m h others further p₁ m₁ many pairs node port down coming silent l (inl end) =
        let up = h.pair.up ++ h.core.out in
        record {
          next = l.last;
          goes = first_then coming l.steps;
          publishes = then_silent coming l.steps silent l.silent;
          stands = subst (λ q. ClientStandsFor q l.last) (sym end.1)
              (finished h.older (come_down count h.pair) h.pair.up h.core (record h.core { out = [] }) l.last others p₁ further up [] l.left refl many pairs
              (pair_up h.older (come_down count h.pair) h.pair.up h.core l.last others p₁ further up [] l.left node port down (sym (append-nil up)))
              (λ on. (l.left.up, refl, refl)));
        }
    shown count old new result m h others further p₁ m₁ many pairs node port down coming silent l (inr end) =
        let gone-now = lose h.pair.up h.core (gone h.core) m₁ others p₁ further refl l in
        record {
          next = gone-now.last;
          goes = first_then coming gone-now.steps;
          publishes = then_silent coming gone-now.steps silent gone-now.silent;
          stands = subst (λ q. ClientStandsFor q gone-now.last) (sym end.1)
              (finished h.older (come_down count h.pair) h.pair.up (gone h.core) (gone h.core) gone-now.last others p₁ further h.pair.up h.core.out gone-now.left
              refl many pairs
              (pair_up h.older (come_down count h.pair) h.pair.up (gone h.core) gone-now.last others p₁ further h.pair.up h.core.out gone-now.left node port down refl)
              (λ on. absurd (both_ways false refl on)));
        }
