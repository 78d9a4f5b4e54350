-- What every world keeps, if what is agreed stays as it is.
use Rattle.std.proofs.Common.{◌≡◌, ◌≤◌, ℕ, false, List, [], ◌∷◌, filter, map, set, Some, refl, sym, ◌∙◌, subst, arith}
use Rattle.std.specs.Prelude.{slice_get}
use Rattle.broker_spec.specs.Connection.{ConnectionName, same_connection}
use Rattle.broker_spec.specs.Place.{Client, Past}
use Rattle.broker_spec.specs.Commands.{past_from, past_of, usual_limits}
use Rattle.broker_spec.specs.EndingTheorems.{connects_of}
use Rattle.broker_spec.specs.declared.command.Command.{Command}
use Rattle.lists.specs.Lists.{Each}
use Rattle.exactly_once.specs.Story.{Story, no_story}
use Rattle.exactly_once.specs.StoryCommands.{packet_count}
use Rattle.exactly_once.specs.Lives.{Lived}
use Rattle.exactly_once.specs.Lives.Lived.{opens}
use Rattle.headline.specs.packet_world.World.{ClientEnds, PacketWorld, new_client, opening, story_of, ClientsAreApart, IsFresh, with_client}
use Rattle.headline.proofs.of_packet_world.Lists.{each_set}
use Rattle.headline.proofs.of_packet_world.Answers.{of_name}
use Rattle.headline.proofs.of_packet_world.Ends.{PipesHold}
use Rattle.headline.proofs.of_packet_world.Parted.{AllParted, IsSameParty, is_named_by, opening_parted, same_parted, fresh_before}

-- its life, over all its sessions
abbrev pub IsTold : List Command → ClientEnds → Type 0
IsTold agreed c = Lived usual_limits c.keeper.client (story_of agreed c)

abbrev pub HasPipes : List Command → ClientEnds → Type 0
HasPipes agreed c = PipesHold agreed c.connections c.ends

-- a name has one Connect at most, and none while no packet of it is there
abbrev pub IsOnce : Past → ConnectionName → Type 0
IsOnce past x = (packet_count x past ≡ 0 → connects_of x past ≡ 0) × (connects_of x past ≤ 1)

pub record Holds (w : PacketWorld) : Type 0 where
  pub told : Each (IsTold w.agreed) w.clients
  pub pipes : Each (HasPipes w.agreed) w.clients
  pub apart : AllParted w.clients
  pub fresh : (x : ConnectionName) → IsFresh x w.clients → filter (of_name x) w.agreed ≡ []
  pub once : (x : ConnectionName) → IsOnce (past_of usual_limits w.agreed) x

-- ---- the opening

empty_past : past_of usual_limits [] ≡ []
unfolding past_from
empty_past = refl

new_told : (c : Client) → IsTold [] (new_client c)
new_told c = subst (λ (past : Past). Lived usual_limits c (let s : Story = record (no_story c) { past = past } in s)) (sym empty_past) opens

all_new : (P : ClientEnds → Type 0) (cs : List Client) → ((c : Client) → P (new_client c)) → Each P (map new_client cs)
all_new P [] h = tt
all_new P (c ∷ cs) h = (h c, all_new P cs h)

pub opening_holds : (cs : List Client) → ClientsAreApart cs → Holds (opening cs)
opening_holds cs apart =
    record {
      told = all_new (IsTold []) cs new_told;
      pipes = all_new (HasPipes []) cs (λ c. tt);
      apart = opening_parted cs apart;
      fresh = λ x f. refl;
      once = λ x. subst (λ (past : Past). IsOnce past x) (sym empty_past) ((λ e. refl), omega arith);
    }

-- ---- one client continues

pub keeps_client : (w : PacketWorld) (i : ℕ) (c later : ClientEnds) → Holds w → slice_get w.clients i ≡ Some c → IsTold w.agreed later → HasPipes w.agreed later
    → AllParted (set w.clients i later) → ((x : ConnectionName) → is_named_by x later ≡ false → is_named_by x c ≡ false) → Holds (with_client i later w)
keeps_client w i c later h there' told pipes apart less =
    record {
      told = each_set (IsTold w.agreed) w.clients i later h.told told;
      pipes = each_set (HasPipes w.agreed) w.clients i later h.pipes pipes;
      apart = apart;
      fresh = λ x f. h.fresh x (fresh_before x w.clients i c later there' (less x) f);
      once = h.once;
    }

pub keeps_party : (w : PacketWorld) (i : ℕ) (c later : ClientEnds) → Holds w → slice_get w.clients i ≡ Some c → IsTold w.agreed later → HasPipes w.agreed later → IsSameParty c later
    → Holds (with_client i later w)
keeps_party w i c later h there' told pipes same =
    keeps_client w i c later h there' told pipes (same_parted w.clients i c later h.apart there' same) (λ x none. sym (same.names (same_connection x)) ∙ none)
