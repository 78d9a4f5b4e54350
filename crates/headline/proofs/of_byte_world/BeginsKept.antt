-- What a client writes on each of its connections begins with a CONNECT that asks for its session to be kept.
use Rattle.std.proofs.Common.{◌≡◌, ℕ, List, [], ◌∷◌, ◌++◌, map, refl, sym, ap, ◌∙◌, subst}
use Rattle.ballot_base.specs.declared.config.Config.{Config}
use Rattle.broker_spec.specs.Place.{Client}
use Rattle.client_base.specs.Connected.{opening_connect}
use Rattle.client_base.specs.Keeper.{Written}
use Rattle.client_base.specs.Written.{writes_first}
use Rattle.lists.specs.Lists.{Each}
use Rattle.headline.proofs.of_packet_world.Lists.{each_get, each_set}
use Rattle.exactly_once.specs.Sides.{ClientConnection}
use Rattle.exactly_once.proofs.publishing.Grown.{handled_grows}
use Rattle.headline.specs.byte_world.Steps.{Reached, ByteWorldStep}
use Rattle.headline.specs.byte_world.Steps.Reached.{begins, goes_on}
use Rattle.headline.specs.byte_world.Steps.ByteWorldStep.{group_goes, calls, connects, is_taken_back, comes_up, goes_down, arrives, handles}
use Rattle.headline.specs.byte_world.World.{ClientPipes, ByteWorld, new_client}
use Rattle.headline.proofs.of_byte_world.WorldsKeep.{call_writes}

pub record BeginsKept (κ : ClientConnection) : Type 0 where
  pub client : Client
  pub more : List Written
  pub written : κ.written ≡ opening_connect client ∷ more

-- so it does if more is written
begins_still : (κ later : ClientConnection) (new : List Written) → later.written ≡ κ.written ++ new → BeginsKept κ → BeginsKept later
begins_still κ later new is b = record { client = b.client; more = b.more ++ new; written = is ∙ ap (λ (l : List Written). l ++ new) b.written }

abbrev pub AllBeginKept : ClientPipes → Type 0
AllBeginKept c = Each BeginsKept c.connections

writes_still : (new : List Written) (connections : List ClientConnection) → Each BeginsKept connections → Each BeginsKept (writes_first new connections)
writes_still new [] each = tt
writes_still new (κ ∷ others) (first, each) = (begins_still κ (record κ { written = κ.written ++ new }) new refl first, each)

new_clients : (cs : List Client) → Each AllBeginKept (map new_client cs)
new_clients [] = tt
new_clients (c ∷ cs) = (tt, new_clients cs)

step_begins : (v w : ByteWorld) → Each AllBeginKept v.clients → ByteWorldStep v w → Each AllBeginKept w.clients
step_begins v w each (group_goes node_call d apart) = each
step_begins v w each (calls i c t happens at call spelled) =
    let new = call_writes happens call in
    each_set AllBeginKept v.clients i _ each
    (subst (Each BeginsKept) (sym new.1) (writes_still new.0 c.connections (each_get AllBeginKept v.clients i c each at)))
step_begins v w each (connects i n c port now d core end at unused after there_so spelled) =
    each_set AllBeginKept v.clients i _ each (record { client = c.keeper.client; more = []; written = refl }, each_get AllBeginKept v.clients i c each at)
step_begins v w each (is_taken_back n port now d core unused after none) = each
step_begins v w each (comes_up i j c κ p piece rest now d has is) = each_set AllBeginKept v.clients i _ each (each_get AllBeginKept v.clients i c each has.client)
step_begins v w each (goes_down i j c κ p d has) = each_set AllBeginKept v.clients i _ each (each_get AllBeginKept v.clients i c each has.client)
step_begins v w each (arrives i j c κ p piece rest has is) = each_set AllBeginKept v.clients i _ each (each_get AllBeginKept v.clients i c each has.client)
step_begins v w each (handles i c κ others p pipes packet left at are piped is_open cut spelled) =
    let grown = handled_grows κ c.keeper packet in
    let mine = subst (Each BeginsKept) are (each_get AllBeginKept v.clients i c each at) in
    each_set AllBeginKept v.clients i _ each (begins_still κ _ grown.more grown.written mine.0, mine.1)

pub all_begin_kept : {nodes : ℕ} {config : Config} {cs : List Client} (w : ByteWorld) → Reached nodes config cs w → Each AllBeginKept w.clients
all_begin_kept {cs = cs} w (begins greatest can) = new_clients cs
all_begin_kept w (goes_on {old = v} before step) = step_begins v w (all_begin_kept v before) step
