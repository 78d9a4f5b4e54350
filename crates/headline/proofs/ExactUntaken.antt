-- What is promised for a client does not depend on how much of what it wrote is counted as taken.
use Rattle.std.proofs.Common.{◌≡◌, ◌≤◌, ℕ, ◌+◌, Bool, true, false, if◌then◌else◌, List, [], ◌∷◌, ◌++◌, length, map, filter, Some, refl, ap, ap₂, sym, ◌∙◌, subst}
use Rattle.lists.specs.Lists.{Each, In, IsPrefixOf}
use Rattle.packet.specs.declared.packet.Packet.TheVariants as packets
use Rattle.broker_spec.specs.declared.command.Command.{Command}
use Rattle.broker_spec.specs.declared.command.Command.TheVariants as commands
use Rattle.broker_spec.specs.Connection.{ConnectionName, same_connection}
use Rattle.broker_spec.specs.Entries.{Entry}
use Rattle.broker_spec.specs.OriginTheorems.{is_from_publish}
use Rattle.broker_spec.specs.Place.{Client, Limits, Past, Place}
use Rattle.broker_spec.specs.Received.{is_new}
use Rattle.broker_spec.specs.Times.{entries_of}
use Rattle.client_base.specs.Keeper.{Keeper, all_own}
use Rattle.exactly_once.specs.Carried.{carries, connection_named, more_by, new_numbers, written_number_at, own_qos2_numbers, is_this}
use Rattle.exactly_once.specs.Headline.{EachPublished, IsTakenAt, made_by}
use Rattle.exactly_once.specs.Acceptance.{accepted_on}
use Rattle.exactly_once.specs.InStep.{AreWelcome, IsFirstSession, IsInStep, WasWelcome, accepted_in, opened_in, starts_of}
use Rattle.exactly_once.specs.Lives.{AcceptedInSession, NumbersRise, PublishedOverSessions}
use Rattle.exactly_once.specs.LivesAreExact.{ExactlyOnceOverSessions}
use Rattle.exactly_once.specs.Unexpelled.{HasOneSession}
use Rattle.exactly_once.specs.Sides.{ClientConnection}
use Rattle.exactly_once.specs.Story.{Story}
use Rattle.exactly_once.specs.StoryCommands.{packet_count}
use Rattle.exactly_once.proofs.sessions.InTurn.{flat_map_same}
use Rattle.headline.proofs.Untaken.{AreSameUntaken, untaken_connection}

-- ---- what is read of connections

number_untaken : (x : ConnectionName) (j : ℕ) (connections : List ClientConnection)
    → written_number_at j (connection_named x (map untaken_connection connections)) ≡ written_number_at j (connection_named x connections)
number_untaken x j [] = refl
number_untaken x j (κ ∷ connections) = by (same_connection x κ.name) (number_untaken x j connections)
  where
    by : (b : Bool) → written_number_at j (connection_named x (map untaken_connection connections)) ≡ written_number_at j (connection_named x connections)
        → written_number_at j (if b then Some (untaken_connection κ) else connection_named x (map untaken_connection connections))
        ≡ written_number_at j (if b then Some κ else connection_named x connections)
    by true ih = refl
    by false ih = ih

carries_untaken : (command : Command) (past : Past) (connections : List ClientConnection) → carries (map untaken_connection connections) command past ≡ carries connections command past
carries_untaken (commands.Packet x (packets.Publish p)) past connections = number_untaken x (packet_count x past) connections
carries_untaken _ past connections = refl

numbers_untaken : (past : Past) (connections : List ClientConnection) → new_numbers (map untaken_connection connections) past ≡ new_numbers connections past
numbers_untaken [] connections = refl
numbers_untaken (place ∷ past) connections =
    ap₂ (λ l o. l ++ more_by (is_new place.command place.mark) o) (numbers_untaken past connections) (carries_untaken place.command past connections)

made_untaken : (k : ℕ) (past : Past) (entries : List Entry) (connections : List ClientConnection) → made_by (map untaken_connection connections) k past entries ≡ made_by connections k past entries
made_untaken k [] entries connections = refl
made_untaken k (place ∷ below) entries connections =
    ap₂ (λ o n. (if is_this k o then length (filter (is_from_publish (length below)) entries) else 0) + n)
    (carries_untaken place.command below connections) (made_untaken k below entries connections)

accepted_untaken : (connections : List ClientConnection) → accepted_on (map untaken_connection connections) ≡ accepted_on connections
accepted_untaken [] = refl
accepted_untaken (κ ∷ connections) = ap (λ l. l ++ κ.accepted) (accepted_untaken connections)

accepted_in_untaken : (past : Past) (c : Client) (start : ℕ) (connections : List ClientConnection) → accepted_in past c start (map untaken_connection connections) ≡ accepted_in past c start connections
accepted_in_untaken past c start [] = refl
accepted_in_untaken past c start (κ ∷ connections) =
    ap (λ l. l ++ (if is_this start (opened_in past c κ.name) then κ.accepted else [])) (accepted_in_untaken past c start connections)

-- the same holds for other connections
same_by : {X : Type 0} (f : List ClientConnection → X) → ((connections : List ClientConnection) → f (map untaken_connection connections) ≡ f connections)
    → (connections others : List ClientConnection) → AreSameUntaken connections others → f connections ≡ f others
same_by f untaken connections others same = sym (untaken connections) ∙ ap f same ∙ untaken others

pub same_accepted_on : (connections others : List ClientConnection) → AreSameUntaken connections others → accepted_on connections ≡ accepted_on others
same_accepted_on = same_by accepted_on accepted_untaken

-- ---- who is in step

untaken_each : (past : Past) (c : Client) (connections : List ClientConnection) → Each (WasWelcome past c) connections → Each (WasWelcome past c) (map untaken_connection connections)
untaken_each past c [] h = tt
untaken_each past c (κ ∷ connections) h = (h.0, untaken_each past c connections h.1)

each_untaken : (past : Past) (c : Client) (connections : List ClientConnection) → Each (WasWelcome past c) (map untaken_connection connections) → Each (WasWelcome past c) connections
each_untaken past c [] h = tt
each_untaken past c (κ ∷ connections) h = (h.0, each_untaken past c connections h.1)

untaken_welcome : (past : Past) (c : Client) (connections : List ClientConnection) → AreWelcome past c connections → AreWelcome past c (map untaken_connection connections)
untaken_welcome past c [] h = tt
untaken_welcome past c (κ ∷ connections) h = untaken_each past c connections h

welcome_untaken : (past : Past) (c : Client) (connections : List ClientConnection) → AreWelcome past c (map untaken_connection connections) → AreWelcome past c connections
welcome_untaken past c [] h = tt
welcome_untaken past c (κ ∷ connections) h = each_untaken past c connections h

pub same_welcome : (past : Past) (c : Client) (connections others : List ClientConnection) → AreSameUntaken connections others → AreWelcome past c connections → AreWelcome past c others
same_welcome past c connections others same h =
    welcome_untaken past c others (subst (AreWelcome past c) same (untaken_welcome past c connections h))

-- ---- what is promised

module _ (limits : Limits) (past : Past) (keeper : Keeper) (connections others : List ClientConnection) (same : AreSameUntaken connections others) where
  abbrev before : Story
  before = record { past = past; connections = connections; keeper = keeper }

  abbrev after : Story
  after = record { past = past; connections = others; keeper = keeper }

  same_carries : (command : Command) (below : Past) → carries connections command below ≡ carries others command below
  same_carries command below = same_by (λ l. carries l command below) (carries_untaken command below) connections others same

  same_numbers : new_numbers connections past ≡ new_numbers others past
  same_numbers = same_by (λ l. new_numbers l past) (numbers_untaken past) connections others same

  same_made : (k : ℕ) (entries : List Entry) → made_by connections k past entries ≡ made_by others k past entries
  same_made k entries = same_by (λ l. made_by l k past entries) (made_untaken k past entries) connections others same

  same_taken : {k : ℕ} {place : Place} {below : Past} → IsTakenAt before k place below → IsTakenAt after k place below
  same_taken {place = place} {below = below} at =
      record { stands = at.stands; carried = sym (same_carries place.command below) ∙ at.carried; taken = at.taken }

  each_published : EachPublished limits before → EachPublished limits after
  each_published once =
      record {
        carried = λ place below x p k stands is command. once.carried place below x p k stands (same_carries place.command below ∙ is) command;
        taken = λ k new.
            let at = once.taken k (subst (λ (l : List ℕ). In k l) (sym same_numbers) new) in
            (at.0, at.1, same_taken at.2);
        answered = λ place below x id k stands is by.
            subst (λ (l : List ℕ). In k l) same_numbers (once.answered place below x id k stands (same_carries place.command below ∙ is) by);
        enters_once = λ later earlier d k is own.
            subst (λ (n : ℕ). n ≤ 1) (same_made k (entries_of limits earlier d)) (once.enters_once later earlier d k is own);
        enters = once.enters;
        enters_as = once.enters_as;
        acknowledged = λ place below x id k stands is by. same_taken (once.acknowledged place below x id k stands (same_carries place.command below ∙ is) by);
      }

  publishers : PublishedOverSessions limits before → PublishedOverSessions limits after
  publishers once =
      record {
        each = each_published once.each;
        rises = subst NumbersRise same_numbers once.rises;
        in_order = λ one. subst (λ (l : List ℕ). IsPrefixOf l (own_qos2_numbers (all_own keeper))) same_numbers (once.in_order one);
      }

  same_accepted : (start : ℕ) → accepted_in past keeper.client start connections ≡ accepted_in past keeper.client start others
  same_accepted start = same_by (accepted_in past keeper.client start) (accepted_in_untaken past keeper.client start) connections others same

  subscribers : (start : ℕ) → AcceptedInSession limits before start → AcceptedInSession limits after start
  subscribers start ordered =
      record { prefix = ordered.prefix; others = ordered.others; is = ordered.is; accepted = sym (same_accepted start) ∙ ordered.accepted; rest = ordered.rest }

  exact : ExactlyOnceOverSessions limits before → ExactlyOnceOverSessions limits after
  exact once =
      record {
        publishers = publishers once.publishers;
        subscribers = λ start. subscribers start (once.subscribers start);
        in_turn = sym (same_accepted_on connections others same) ∙ once.in_turn
            ∙ flat_map_same (λ start. accepted_in past keeper.client start connections) (λ start. accepted_in past keeper.client start others) same_accepted (starts_of past keeper.client);
      }

-- two stories of one past and one keeper
pub exactly_once_untaken : (limits : Limits) (s t : Story) → s.past ≡ t.past → s.keeper ≡ t.keeper → AreSameUntaken s.connections t.connections
    → ExactlyOnceOverSessions limits s → ExactlyOnceOverSessions limits t
exactly_once_untaken limits s t past keeper same once =
    subst (λ (p : Past). ExactlyOnceOverSessions limits (record { past = p; connections = t.connections; keeper = t.keeper })) past
    (subst (λ (k : Keeper). ExactlyOnceOverSessions limits (record { past = s.past; connections = t.connections; keeper = k })) keeper
    (exact limits s.past s.keeper s.connections t.connections same once))

pub in_step_untaken : (s t : Story) → s.past ≡ t.past → s.keeper ≡ t.keeper → AreSameUntaken s.connections t.connections → IsInStep s → IsInStep t
in_step_untaken s t past keeper same step =
    subst (λ (p : Past). AreWelcome p t.keeper.client t.connections) past
    (subst (λ (k : Keeper). AreWelcome s.past k.client t.connections) keeper (same_welcome s.past s.keeper.client s.connections t.connections same step))

pub one_session_untaken : (s t : Story) → s.past ≡ t.past → s.keeper ≡ t.keeper → AreSameUntaken s.connections t.connections → HasOneSession s → HasOneSession t
one_session_untaken s t past keeper same h =
    record {
      first = subst (λ (p : Past). IsFirstSession p t.keeper.client) past (subst (λ (k : Keeper). IsFirstSession s.past k.client) keeper h.first);
      in_step = in_step_untaken s t past keeper same h.in_step;
    }
