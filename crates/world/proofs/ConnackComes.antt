-- The CONNACK comes down to its client: it is online, with its session present.
use Rattle.std.proofs.Common.{◌≡◌, ◌⊎◌, inl, inr, ◌<◌, ◌≤◌, ℕ, Bool, true, List, [], ◌∷◌, ◌++◌, Some, Result, Err, length, slice_get, take, refl, sym, ap, ◌∙◌, subst, arith}
use Rattle.std.specs.List.{position}
use Rattle.std.proofs.lemmas.List.{length-append, take_at}
use Rattle.std.proofs.lemmas.Option.{same_Some}
use Rattle.client_base.specs.declared.error.ClientError.{ClientError}
use Rattle.client_base.specs.declared.error.ClientError.TheVariants as errors
use Rattle.client.specs.Core.{Core, nothing_read}
use Rattle.client_base.specs.declared.stage.Stage.TheVariants as stages
use Rattle.client_base.specs.State.{is_online, is_open}
use Rattle.recovery.specs.one_client.Online.{IsServed}
use Rattle.recovery.proofs.of_one_client.ConnackServed.{connack_serves}
use Rattle.world_nodes.specs.recoveries.Answered.{session_present}
use Rattle.lists.specs.Lists.{IsPrefixOf}
use Rattle.lists.proofs.Places.{get_pushed, get_set}
use Rattle.packet.specs.Spelling.{spelling}
use Rattle.packet.specs.Verdict.{verdict}
use Rattle.world_pipes.specs.declared.pair.PipePair.{PipePair}
use Rattle.world_pipes.specs.Piped.{CarriesDown, Piped, broken, come_down, piped_up}
use Rattle.world_pipes.specs.declared.events.event.Event.TheVariants as events
use Rattle.world_pipes.specs.declared.clients.connection_slot.ConnectionSlot.{ConnectionSlot}
use Rattle.world_pipes.specs.declared.clients.world_client.WorldClient.{WorldClient}
use Rattle.world.specs.EventSteps.{DoesEvent}
use Rattle.world.specs.Found.{core_named, with_piped}
use Rattle.world_pipes.specs.clients.Clients.{is_named}
use Rattle.world.specs.Trace.{WorldLosesNothing}
use Rattle.world.specs.Events.{EventsHappen}
use Rattle.world.specs.World.{WorldState}
use Rattle.world.proofs.ConnectSpelled.{connack_long, connack_read}
use Rattle.world.proofs.ExactRuns.{first_done}
use Rattle.world.proofs.NamesKept.{names_set, position_kept}
use Rattle.world.proofs.NewestFound.{can_come_down, client_is, place_is}
use Rattle.world.proofs.StandsOn.{IsNewest}
use Rattle.world.proofs.StandsThere.{core_found}

-- the client is online then, and nodes are as they were
pub record IsOnline (name : List ℕ) (old new : WorldState) : Type 0 where
  pub core : Core
  pub client : core_named name new.clients ≡ Some core
  pub online : is_online core.state.stage ≡ true
  pub present : core.state.session_present ≡ true
  pub nodes : new.nodes ≡ old.nodes

module _ (name : List ℕ) (i at number node : ℕ) (core : Core) (up down : List ℕ) (b : Bool) (w : WorldState) (s : IsNewest i at number node core up down b w) (positive : 0 < number)
    (stage : core.state.stage ≡ stages.Opened) (unread : core.unread ≡ nothing_read) (begins : IsPrefixOf (spelling session_present) down)
    (first : position (is_named name) w.clients ≡ Some i) where
  four : 4 ≤ length down
  four =
      let whole = ap (λ (l : List ℕ). length l) begins.is in
      let joined = length-append (spelling session_present) begins.rest in
      let first_four = connack_long in omega (arith, whole, joined, first_four)

  front : take 4 down ≡ spelling session_present
  front = ap (take 4) begins.is ∙ take_at (spelling session_present) begins.rest 4 connack_long

  module _ (piped : Piped) (result : Result (Unit {0}) ClientError) (enough : result ≡ Err errors.Memory → ⊥) (h : CarriesDown 4 s.client.piped result piped) where
    last : slice_get s.client.piped.pairs at ≡ Some h.pair
    last =
        let many = ap (λ (l : List PipePair). length l) h.newest in
        let joined = length-append h.older (h.pair ∷ []) in
        let counted = s.many in
        ap (λ (l : List PipePair). slice_get l at) h.newest
        ∙ ap (slice_get (h.older ++ h.pair ∷ [])) (let e : at ≡ length h.older = omega (arith, many, joined, counted) in e)
        ∙ get_pushed h.older h.pair

    piece : take 4 h.pair.down ≡ spelling session_present
    piece = ap (λ (z : PipePair). take 4 z.down) (same_Some h.pair s.pair (sym last ∙ s.stands)) ∙ ap (take 4) s.down_is ∙ front

    read_is : (h.read ≡ Err errors.Memory → ⊥) → IsServed h.core
    read_is memory =
        (connack_serves (take 4 h.pair.down) s.client.piped.core h.core h.read (ap verdict piece ∙ connack_read)
        (ap (λ (k : Core). k.state.stage) s.core_is ∙ stage) (ap (λ (k : Core). k.unread) s.core_is ∙ unread) memory h.carried).1

    hears_it : IsServed piped.core
    hears_it = by h.goes_up
      where
        by : ((result ≡ h.read) × (piped ≡ piped_up h.core h.older (come_down 4 h.pair)))
            ⊎ ((result ≡ Err errors.Memory) × (piped ≡ broken h.core (h.older ++ come_down 4 h.pair ∷ []))) → IsServed piped.core
        by (inl (same, is)) =
            let z = read_is (λ e. enough (same ∙ e)) in
            subst (λ (p : Piped). IsServed p.core) (sym is) (record { online = z.online; present = z.present })
        by (inr (lost, is)) = absurd (enough lost)

  come : (new : WorldState) → DoesEvent true (events.CarryDown number 4) w new → IsOnline name w new
  come new (c, piped, (result, enough, carries), is) =
      let h = subst (λ (d : WorldClient). CarriesDown 4 d.piped result piped) (client_is i at number node core up down b w s positive c) carries in
      let z = hears_it piped result (enough refl) h in
      record {
        core = piped.core;
        client = ap (λ (v : WorldState). core_named name v.clients) same
            ∙ core_found name after.clients i later (position_kept name after.clients w.clients (names_set w.clients i s.client later s.found refl) ∙ first)
            (get_set w.clients i s.client later s.found);
        online = z.online;
        present = z.present;
        nodes = ap (λ (v : WorldState). v.nodes) is;
      }
    where
      later : WorldClient
      later = record s.client { piped = piped }

      after : WorldState
      after = with_piped i s.client piped w

      same : new ≡ after
      same =
          is
          ∙ ap (λ (p : ConnectionSlot). with_piped p.client c.client piped w) (place_is i at number node core up down b w s positive c)
          ∙ ap (λ (d : WorldClient). with_piped i d piped w) (client_is i at number node core up down b w s positive c)

  pub connack_comes : (new : WorldState) → is_open core.state.stage ≡ true → EventsHappen (events.CarryDown number 4 ∷ []) w new → WorldLosesNothing w new → IsOnline name w new
  connack_comes new holding run none =
      let f = first_done (events.CarryDown number 4) [] w new run none (can_come_down i at number node core up down b w s positive 4 holding (omega arith) four) in
      subst (IsOnline name w) (sym f.rest) (come f.after f.does)
