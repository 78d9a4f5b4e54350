-- Another command comes next in the list.
use Rattle.std.proofs.Common.{◌≡◌, ℕ, true, false, ◌||◌, [], ◌∷◌, Option, Some, None, refl, ap, sym, ◌∙◌, ◌⊎◌, inl, inr}
use Rattle.std.proofs.lemmas.Bool.{cases_Bool}
use Rattle.broker_spec.specs.Connection.{ConnectionName}
use Rattle.broker_spec.specs.Place.{Client, Mark, Place, Past, Limits}
use Rattle.broker_spec.specs.Sessions.{ends_any, current_connection}
use Rattle.broker_spec.specs.Owner.{owner_of}
use Rattle.broker_spec.specs.Marks.{mark_of}
use Rattle.broker_spec.specs.Commands.{place_of}
use Rattle.broker_spec.specs.NobodyTheorems.{IsSteady}
use Rattle.broker_spec.specs.declared.command.Command.{Command}
use Rattle.broker_spec.specs.declared.command.Command.TheVariants as commands
use Rattle.exactly_once.specs.Sends.{sends_to}
use Rattle.exactly_once.specs.Story.{Story}
use Rattle.exactly_once.specs.StoryCommands.{names_client, is_packet_of, any_named}
use Rattle.exactly_once.specs.Inside.Projections.{GoesTo}
use Rattle.exactly_once.specs.Inside.AsSubscriber.{forward_of, as_subscriber}
use Rattle.exactly_once.specs.Inside.Shape.{HasShape}
use Rattle.exactly_once.proofs.subscribing.Placed.{placed}
use Rattle.exactly_once.proofs.subscribing.Plain.{IsPlain, plain_goes}
use Rattle.exactly_once.proofs.subscribing.Parting.{place_parts}
use Rattle.exactly_once.proofs.subscribing.events.Others.{other_packet}
use Rattle.exactly_once.proofs.subscribing.events.OtherConnects.{other_connect}
use Rattle.exactly_once.proofs.subscribing.places.Over.{entries_over}
use Rattle.exactly_once.proofs.subscribing.places.Publishes.{none_handed}
use Rattle.exactly_once.proofs.subscribing.places.Quiet.{current_same, current_over, no_entries}
use Rattle.exactly_once.proofs.places.Spared.{other_spares}
use Rattle.exactly_once.proofs.places.After.{IsSpared, none_opens}
use Rattle.broker_base.proofs.QuietPasts.{no_connection}
use Rattle.broker_spec.specs.Answers.{close_outputs}

-- a connection's loss
abbrev pub at_lost : ConnectionName → Place
at_lost y = record { command = commands.Lost y; mark = Mark.Unmarked }

-- a new ballot
abbrev pub at_start : ℕ → Place
at_start b = record { command = commands.Start b; mark = Mark.Unmarked }

-- a plain place on none of the client's connections
stays_plain : (limits : Limits) (s : Story) (place : Place) → HasShape limits s → IsPlain limits s place → GoesTo (as_subscriber limits s) (as_subscriber limits (placed s place s.connections))
stays_plain limits s place shape p = plain_goes limits s place s.connections shape p refl refl refl

-- a connection is lost
goes_loss : (limits : Limits) (s : Story) → HasShape limits s → IsSteady limits → (y : ConnectionName) → GoesTo (as_subscriber limits s) (as_subscriber limits (placed s (at_lost y) s.connections))
goes_loss limits s shape steady y = by (cases_Bool (ends_any (at_lost y) s.keeper.client (current_connection s.past s.keeper.client)))
  where
    by : (ends_any (at_lost y) s.keeper.client (current_connection s.past s.keeper.client) ≡ true) ⊎ (ends_any (at_lost y) s.keeper.client (current_connection s.past s.keeper.client) ≡ false)
        → GoesTo (as_subscriber limits s) (as_subscriber limits (placed s (at_lost y) s.connections))
    by (inl e) =
        let over = current_over (at_lost y) s.past s.keeper.client refl e in
        place_parts limits s (at_lost y) s.connections shape over (entries_over limits (at_lost y) s.past s.keeper.client shape.session refl refl over refl refl) (λ x h. refl) refl refl
    by (inr e) =
        stays_plain limits s (at_lost y) shape
        (record {
          opens = refl;
          goes = e;
          answers = refl;
          window = steady (at_lost y) s.past refl;
          sends = λ x h. sym (ap (λ l. forward_of (sends_to x l)) (none_handed limits (at_lost y) s.past s.keeper.client refl));
        })

-- a ballot ends every connection
start_over : (b : ℕ) (past : Past) (c : Client) → current_connection (at_start b ∷ past) c ≡ None
start_over b past c = by (current_connection past c) refl
  where
    by : (o : Option ConnectionName) → current_connection past c ≡ o → current_connection (at_start b ∷ past) c ≡ None
    by None e = current_same (at_start b) past c refl (ap (ends_any (at_start b) c) e) ∙ e
    by (Some x) e = current_over (at_start b) past c refl (ap (ends_any (at_start b) c) e)

-- a ballot begins
goes_start : (limits : Limits) (s : Story) → HasShape limits s → (b : ℕ) → GoesTo (as_subscriber limits s) (as_subscriber limits (placed s (at_start b) s.connections))
goes_start limits s shape b =
    let over = start_over b s.past s.keeper.client in
    place_parts limits s (at_start b) s.connections shape over (entries_over limits (at_start b) s.past s.keeper.client shape.session refl refl over refl refl) (λ x h. refl) refl refl

-- another client is expelled, or one without a session
abbrev pub at_expel : Client → Place
at_expel d = record { command = commands.Expel d; mark = Mark.Unmarked }

pub closes_only : (x : ConnectionName) (o : Option ConnectionName) → sends_to x (close_outputs o) ≡ []
closes_only x None = refl
closes_only x (Some y) = refl

goes_expel : (limits : Limits) (s : Story) → HasShape limits s → IsSteady limits → (d : Client) → IsSpared (commands.Expel d) s.past s.keeper.client
    → GoesTo (as_subscriber limits s) (as_subscriber limits (placed s (at_expel d) s.connections))
goes_expel limits s shape steady d (inl spared) =
    stays_plain limits s (at_expel d) shape
    (record {
      opens = refl;
      goes = ends (current_connection s.past s.keeper.client);
      answers = refl;
      window = steady (at_expel d) s.past refl;
      sends = λ x h. ap forward_of (closes_only x (current_connection s.past d)) ∙ sym (ap (λ l. forward_of (sends_to x l)) (none_handed limits (at_expel d) s.past s.keeper.client refl));
    })
  where
    ends : (o : Option ConnectionName) → ends_any (at_expel d) s.keeper.client o ≡ false
    ends None = ap (λ b. b || false) spared
    ends (Some x) = ap (λ b. b || false) spared
goes_expel limits s shape steady d (inr none) =
    let behind = none_opens (at_expel d) s.past s.keeper.client refl none in
    place_parts limits s (at_expel d) s.connections shape (no_connection (at_expel d ∷ s.past) s.keeper.client behind)
    (no_entries limits (at_expel d ∷ s.past) s.keeper.client behind ∙ sym (no_entries limits s.past s.keeper.client none))
    (λ x h. ap forward_of (closes_only x (current_connection s.past d))) refl refl

-- another command
pub goes_others : (limits : Limits) (s : Story) → HasShape limits s → IsSteady limits → (command : Command) → (names_client s.past s.keeper.client command → ⊥) → any_named (is_packet_of command) s.connections ≡ false
    → GoesTo (as_subscriber limits s) (as_subscriber limits (record s { past = place_of limits s.past command ∷ s.past }))
goes_others limits s shape steady (commands.Packet y packet) other fresh =
    stays_plain limits s (place_of limits s.past (commands.Packet y packet)) shape (other_packet limits s shape steady y packet fresh (owner_of s.past y) refl)
goes_others limits s shape steady (commands.Connect y d clean) other fresh =
    stays_plain limits s (place_of limits s.past (commands.Connect y d clean)) shape (other_connect limits s shape steady y d clean (mark_of limits s.past (commands.Connect y d clean)) fresh other)
goes_others limits s shape steady (commands.Lost y) other fresh = goes_loss limits s shape steady y
goes_others limits s shape steady (commands.Start b) other fresh = goes_start limits s shape b
goes_others limits s shape steady (commands.Expel d) other fresh = goes_expel limits s shape steady d (other_spares s.past s.keeper.client (commands.Expel d) other)
