-- FollowsConnack.antt: CONNACK 0 makes the same for a client and of the one with its history.
use Rattle.std.proofs.Common.{◌≡◌, ℕ, ◌+◌, ◌-◌, ◌^◌, min, Bool, true, false, not, ◌&&◌, ◌==◌, nat_lt, if◌then◌else◌, List, [], ◌∷◌, ◌++◌, map, Option, Some, None, refl, ap, ap₂, sym, ◌∙◌, arith}
use Rattle.std.proofs.lemmas.Bool.{both_ways}
use Rattle.lists.specs.Lists.{has_id}
use Rattle.packet.specs.declared.packet.Packet.TheVariants as packets
use Rattle.client_base.specs.declared.error.ClientError.{ClientError}
use Rattle.client_base.specs.declared.error.ClientError.TheVariants as errors
use Rattle.client_base.specs.declared.stage.Stage.TheVariants as stages
use Rattle.client_base.specs.State.{ClientState, publish_kept, resent}
use Rattle.client_base.specs.Answered.{ClientOutcome}
use Rattle.client_base.specs.Calls.{on_connack, discarded, numbered}
use Rattle.client_base.specs.Keeper.{Written, Keeper, Side}
use Rattle.client_base.specs.Written.{plain, sent_all, written_again, written_first}
use Rattle.client_base.specs.Written as history
use Rattle.client_base.specs.Handled as handling
use Rattle.client_base.specs.History.{KeeperStandsFor}
use Rattle.client_base.proofs.SentAll.{all_queued, all_released, all_first, all_sent, packets_in, again_same, first_same}
use Rattle.client_base.proofs.FollowsPackets.{Same}

joined_packets : (xs ys : List Written) → packets_in (xs ++ ys) ≡ packets_in xs ++ packets_in ys
joined_packets [] ys = refl
joined_packets (x ∷ xs) ys = ap (λ l. x.packet ∷ l) (joined_packets xs ys)

pubrels : (ids : List ℕ) → packets_in (map (λ id. plain (packets.Pubrel id)) ids) ≡ map packets.Pubrel ids
pubrels [] = refl
pubrels (id ∷ ids) = ap (λ l. packets.Pubrel id ∷ l) (pubrels ids)

-- session numbers are not 0
goes_on : (n : ℕ) → nat_lt 0 (min (n + 1) (2 ^ 64 - 1)) ≡ true
goes_on n = grind arith

counted : (n : ℕ) → nat_lt 0 (if n == 0 then 1 else n) ≡ true
counted n = grind arith

-- what is sent again
resent_same : (keeper : Keeper) (state : ClientState) → KeeperStandsFor keeper state → packets_in (history.resent_written keeper) ≡ resent state
resent_same keeper state s =
    joined_packets (map (λ id. plain (packets.Pubrel id)) keeper.releases ++ written_again keeper.own) (written_first keeper.own)
    ∙ ap₂ (λ x y. x ++ y)
    (joined_packets (map (λ id. plain (packets.Pubrel id)) keeper.releases) (written_again keeper.own)
    ∙ ap₂ (λ x y. x ++ y) (pubrels keeper.releases ∙ ap (map packets.Pubrel) (sym s.released))
    (again_same keeper.own ∙ ap (map (publish_kept true)) (sym s.sent)))
    (first_same keeper.own ∙ ap (map (publish_kept false)) (sym s.queued))

-- all of it is sent then
all_stand : (keeper : Keeper) (state : ClientState) (present : Bool) → KeeperStandsFor keeper state → nat_lt 0 state.session ≡ true → keeper.is_open ≡ true
    → KeeperStandsFor (record keeper { own = sent_all keeper.own; is_online = true; was_served = true })
    (record state { sent = state.sent ++ state.queued; queued = []; stage = stages.Online; session_present = present })
all_stand keeper state present s served up =
    record {
      client = s.client;
      released = s.released;
      sent = ap₂ (λ x y. x ++ y) s.sent s.queued ∙ sym (all_sent keeper.own s.sent_first);
      queued = sym (all_queued keeper.own);
      received = s.received;
      requests = s.requests;
      is_open = sym up;
      is_online = refl;
      was_served = served;
      releases_are = λ j. s.releases_are j ∙ ap (has_id j) (sym (all_released keeper.own));
      sent_first = all_first keeper.own;
      online_sent = λ e. all_queued keeper.own;
    }

discarded_stands : (keeper : Keeper) (state : ClientState) → KeeperStandsFor keeper state → nat_lt 0 state.session ≡ true
    → KeeperStandsFor (handling.discarded keeper) (discarded state)
discarded_stands keeper state s served =
    record {
      client = s.client;
      released = refl;
      sent = refl;
      queued = refl;
      received = λ j. refl;
      requests = s.requests;
      is_open = s.is_open;
      is_online = s.is_online;
      was_served = goes_on state.session ∙ sym served ∙ s.was_served;
      releases_are = λ j. refl;
      sent_first = tt;
      online_sent = λ e. refl;
    }

numbered_stands : (keeper : Keeper) (state : ClientState) → KeeperStandsFor keeper state
    → KeeperStandsFor (record keeper { was_served = true }) (numbered state)
numbered_stands keeper state s =
    record {
      client = s.client;
      released = s.released;
      sent = s.sent;
      queued = s.queued;
      received = s.received;
      requests = s.requests;
      is_open = s.is_open;
      is_online = s.is_online;
      was_served = counted state.session;
      releases_are = s.releases_are;
      sent_first = s.sent_first;
      online_sent = s.online_sent;
    }

-- ---- both cases

abbrev settled_side : Side ℕ → Keeper → Side ℕ
settled_side side kept =
    record {
      keeper = record kept { own = sent_all kept.own; is_online = true; was_served = true };
      connection = record side.connection { written = side.connection.written ++ history.resent_written kept; confirmed = true };
    }

abbrev settled_turn : Bool → ClientState → Option ClientError → ClientOutcome
settled_turn present kept refusal =
    record {
      state = record kept { sent = kept.sent ++ kept.queued; queued = []; stage = stages.Online; session_present = present };
      writes = resent kept;
      refusal = refusal;
    }

settles : (present : Bool) (side : Side ℕ) (keeper : Keeper) (state : ClientState) (refusal : Option ClientError) → KeeperStandsFor keeper state
    → nat_lt 0 state.session ≡ true → keeper.is_open ≡ true → Same side (settled_side side keeper) (settled_turn present state refusal)
settles present side keeper state refusal s served up =
    record { stands = all_stand keeper state present s served up; writes = (history.resent_written keeper, refl, resent_same keeper state s) }

second : (b c : Bool) → (not b && c) ≡ true → c ≡ true
second true c e = absurd (both_ways false refl e)
second false c e = e

pub confirmed_follows : (present : Bool) (side : Side ℕ) (state : ClientState) → KeeperStandsFor side.keeper state → side.keeper.is_open ≡ true
    → Same side (handling.confirmed present side) (on_connack present state)
confirmed_follows present side state s up =
    by (not present && nat_lt 0 state.session) (not present && side.keeper.was_served) (ap (λ b. not present && b) s.was_served)
    (second present (nat_lt 0 state.session))
  where
    by : (b c : Bool) → b ≡ c → (b ≡ true → nat_lt 0 state.session ≡ true)
        → Same side (settled_side side (if c then handling.discarded side.keeper else side.keeper))
        (settled_turn present (if b then discarded state else numbered state) (if b then Some errors.SessionLost else None))
    by true true e h = settles present side (handling.discarded side.keeper) (discarded state) _ (discarded_stands side.keeper state s (h refl)) (goes_on state.session) up
    by false false e h =
        settles present side (record side.keeper { was_served = true }) (numbered state) _ (numbered_stands side.keeper state s) (counted state.session) up
    by true false e h = absurd (both_ways false refl (sym e))
    by false true e h = absurd (both_ways false refl e)
