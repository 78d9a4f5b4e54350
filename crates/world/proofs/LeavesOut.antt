-- A client that holds a connection loses it, and what it keeps stays.
use Rattle.std.proofs.Common.{◌≡◌, ℕ, Bool, true, false, List, ◌++◌, Some, refl, sym, ap, ◌∙◌, subst}
use Rattle.std.proofs.lemmas.Bool.{both_ways}
use Rattle.std.proofs.lemmas.Option.{same_Some}
use Rattle.client.specs.Core.{Core, gone}
use Rattle.client_base.specs.State.{is_open}
use Rattle.lists.proofs.Places.{get_set}
use Rattle.world_pipes.specs.Piped.{Piped}
use Rattle.world_pipes.specs.declared.events.event.Event.{Event}
use Rattle.world_pipes.specs.declared.events.event.Event.TheVariants as events
use Rattle.world_pipes.specs.declared.clients.world_client.WorldClient.{WorldClient}
use Rattle.world.specs.Cannot.{HoldsNone}
use Rattle.world.specs.EventSteps.{DoesEvent}
use Rattle.world.specs.Found.{core_named, with_piped}
use Rattle.world.specs.Trace.{WorldLosesNothing}
use Rattle.world.specs.Events.{EventsHappen}
use Rattle.world_pipes.specs.clients.SlotsAreValid.{SlotsAreValid, connection_targets, targets_of_clients}
use Rattle.world_pipes.specs.events.EscapeEvents.{leaving}
use Rattle.world.specs.World.{WorldState}
use Rattle.world.proofs.ExactRuns.{First, first_done}
use Rattle.world_pipes.proofs.of_clients.LeadsKept.{housed_client}
use Rattle.world.proofs.NamesKept.{names_set, position_kept}
use Rattle.world.proofs.StandsThere.{core_found}

-- The world in which it holds none. That is another world only if the client held one, and there
-- only this client has changed.
pub record HasLeft (name : List ℕ) (core : Core) (more : List Event) (old new : WorldState) : Type 0 where
  pub after : WorldState
  pub before : Core
  pub there : core_named name after.clients ≡ Some before
  pub closed : is_open before.state.stage ≡ false
  pub client : before.state.client ≡ core.state.client
  pub keep_alive : before.state.keep_alive ≡ core.state.keep_alive
  pub nodes : after.nodes ≡ old.nodes
  pub connections : after.connections ≡ old.connections
  pub housed : SlotsAreValid (targets_of_clients after.clients) after.connections
  pub rest : EventsHappen more after new
  pub whole : WorldLosesNothing after new

module _ (name : List ℕ) (core : Core) (more : List Event) (old new : WorldState) (there : core_named name old.clients ≡ Some core)
    (housed : SlotsAreValid (targets_of_clients old.clients) old.connections) where
  holds_one : is_open core.state.stage ≡ true → HoldsNone (core_named name old.clients) → ⊥
  holds_one holding none = both_ways (is_open core.state.stage) (subst HoldsNone there none) holding

  lost : (f : First (events.Abandon name) more old new) → HasLeft name core more old new
  lost f = by f.does
    where
      by : DoesEvent true (events.Abandon name) old f.after → HasLeft name core more old new
      by (c, piped, loses, is) =
          record {
            after = f.after;
            before = gone core;
            there = ap (λ (w : WorldState). core_named name w.clients) is
                ∙ core_found name after.clients c.at later
                (position_kept name after.clients old.clients (names_set old.clients c.at c.client later c.stands refl) ∙ c.first)
                (get_set old.clients c.at c.client later c.stands)
                ∙ ap Some (ap (λ (p : Piped). p.core) loses ∙ ap gone mine);
            closed = refl;
            client = refl;
            keep_alive = refl;
            nodes = ap (λ (w : WorldState). w.nodes) is;
            connections = ap (λ (w : WorldState). w.connections) is;
            housed = subst (λ (w : WorldState). SlotsAreValid (targets_of_clients w.clients) w.connections) (sym is)
                (housed_client old.clients old.connections c.at c.client later c.stands (ap (λ (p : Piped). connection_targets p.pairs) loses) housed);
            rest = f.rest;
            whole = f.whole;
          }
        where
          later : WorldClient
          later = record c.client { piped = piped }

          after : WorldState
          after = with_piped c.at c.client piped old

          mine : c.client.piped.core ≡ core
          mine = same_Some c.client.piped.core core (sym (core_found name old.clients c.at c.client c.first c.stands) ∙ there)

  pub leaves : (holds : Bool) → holds ≡ is_open core.state.stage → EventsHappen (leaving holds name ++ more) old new → WorldLosesNothing old new → HasLeft name core more old new
  leaves true held run none = lost (first_done (events.Abandon name) more old new run none (holds_one (sym held)))
  leaves false held run none =
      record {
        after = old;
        before = core;
        there = there;
        closed = sym held;
        client = refl;
        keep_alive = refl;
        nodes = refl;
        connections = refl;
        housed = housed;
        rest = run;
        whole = none;
      }
