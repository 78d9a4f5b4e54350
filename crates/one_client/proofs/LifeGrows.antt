-- The life of a client among others continues as the list of commands grows, and as the client does something.
use Rattle.std.proofs.Common.{◌≡◌, ◌⊎◌, inl, inr, ℕ, zero, suc, ◌+◌, Bool, true, false, ◌||◌, if◌then◌else◌, List, [], ◌∷◌, ◌++◌, filter, length, map, Some, refl, sym, ap, ap₂, ◌∙◌, subst, arith, append_assoc}
use Rattle.std.specs.Prelude.{slice_get}
use Rattle.std.proofs.lemmas.Bool.{both_ways, cases_Bool}
use Rattle.std.proofs.lemmas.List.{append-nil}
use Rattle.std.proofs.lemmas.List.Elements.{filter-append}
use Rattle.lists.specs.Lists.{In, IsPrefixOf}
use Rattle.lists.specs.Lists.In.{here}
use Rattle.lists.proofs.Members.{in_right}
use Rattle.packet.specs.declared.packet.Packet.{Packet}
use Rattle.broker_spec.specs.declared.command.Command.{Command}
use Rattle.broker_spec.specs.declared.command.Command.TheVariants as commands
use Rattle.broker_spec.specs.Commands.{past_from, past_of, usual_limits}
use Rattle.broker_spec.specs.Connection.{ConnectionName, same_connection}
use Rattle.broker_spec.specs.Place.{Client, Past, same_client}
use Rattle.broker_spec.proofs.ClientsInOrder.{same_is, same_self}
use Rattle.client_base.specs.Connected.{new_connection}
use Rattle.client_base.specs.Handled.{lost, packet_handled}
use Rattle.client_base.specs.Keeper.{Keeper, Written}
use Rattle.exactly_once.specs.Lives.{Lived}
use Rattle.exactly_once.specs.Lives.Lived.{goes_on, is_expelled, opens}
use Rattle.exactly_once.specs.Sends.{put_to}
use Rattle.exactly_once.specs.Sides.{ClientConnection, Side}
use Rattle.exactly_once.specs.Story.{Story, StoryStep, no_story}
use Rattle.exactly_once.specs.Story.StoryStep.{takes, opens_anew, receives}
use Rattle.exactly_once.specs.StoryCommands.{any_named, command_of, is_packet_of, names_client, packet_count, with_one_counted}
use Rattle.exactly_once.proofs.keeping.KeepsShape.{same_story}
use Rattle.exactly_once.proofs.publishing.Last.{each_there}
use Rattle.exactly_once.proofs.sessions.Life.{IsCounted}
use Rattle.exactly_once.proofs.sessions.LivedIsLife.{lived_is_life}
use Rattle.headline.specs.byte_world.World.{ClientPipes}
use Rattle.headline.specs.packet_world.Exact.{commands_from}
use Rattle.headline.specs.packet_world.Steps.{is_call}
use Rattle.headline.specs.packet_world.World.{ClientEnds, story_of}
use Rattle.headline.proofs.CallsUntaken.{same_call}
use Rattle.headline.proofs.ClientsBeside.{named_untaken}
use Rattle.headline.proofs.HandledUntaken.{same_handled}
use Rattle.headline.proofs.LivedBeside.{HasLife}
use Rattle.headline.proofs.Places.{same_place}
use Rattle.headline.proofs.Untaken.{AreSameUntaken, untaken_connection}
use Rattle.headline.proofs.of_packet_world.Agrees.{others_told, told_longer}
use Rattle.headline.proofs.of_packet_world.Answers.{counted_in, nothing_put, of_name}
use Rattle.headline.proofs.of_packet_world.Holds.{IsTold}
use Rattle.headline.proofs.of_packet_world.TakenOn.{counted_untaken}

-- ---- names of connections

pub same_named : (test : ConnectionName → Bool) (connections others : List ClientConnection) → AreSameUntaken connections others → any_named test connections ≡ any_named test others
same_named test connections others same = sym (named_untaken test connections) ∙ ap (any_named test) same ∙ named_untaken test others

-- one of the connections has such a name
named_one : (test : ConnectionName → Bool) (connections : List ClientConnection) → any_named test connections ≡ true
    → (j : ℕ) × (κ : ClientConnection) × (slice_get connections j ≡ Some κ) × (test κ.name ≡ true)
named_one test [] e = absurd (both_ways false refl e)
named_one test (κ ∷ connections) e = by (test κ.name) refl e (named_one test connections)
  where
    by : (b : Bool) → test κ.name ≡ b → (b || any_named test connections) ≡ true
        → (any_named test connections ≡ true → (j : ℕ) × (μ : ClientConnection) × (slice_get connections j ≡ Some μ) × (test μ.name ≡ true))
        → (j : ℕ) × (μ : ClientConnection) × (slice_get (κ ∷ connections) j ≡ Some μ) × (test μ.name ≡ true)
    by true is rest next = (zero, κ, refl, is)
    by false is rest next = let z = next rest in (suc z.0, z.1, z.2, z.3)

-- ---- the next packet of a connection

record IsNext (x : ConnectionName) (n taken : ℕ) (ws : List Written) (y : Command) : Type 0 where
  written : Written
  stands : slice_get ws taken ≡ Some written
  is : y ≡ command_of x (n + taken) written.packet

next_from : (x : ConnectionName) (n : ℕ) (ws : List Written) (before : List Command) (y : Command) (more : List Command) → commands_from x n ws ≡ before ++ y ∷ more → IsNext x n (length before) ws y
next_from x n [] [] y more e = cc
next_from x n [] (z ∷ before) y more e = cc
next_from x n (w ∷ ws) [] y more e =
    let first : command_of x n w.packet ≡ y = cc in
    let same : n ≡ n + 0 = omega arith in
    record { written = w; stands = refl; is = sym first ∙ ap (λ k. command_of x k w.packet) same }
next_from x n (w ∷ ws) (z ∷ before) y more e =
    let rest : commands_from x (suc n) ws ≡ before ++ y ∷ more = cc in
    let next = next_from x (suc n) ws before y more rest in
    let same : suc n + length before ≡ n + suc (length before) = omega arith in
    record { written = next.written; stands = next.stands; is = next.is ∙ ap (λ k. command_of x k next.written.packet) same }

-- ---- one more command

-- the client with its connections, and nothing of its nodes
abbrev pub bare : Keeper → List ClientConnection → ClientEnds
bare keeper connections = record { keeper = keeper; connections = connections; ends = [] }

-- the list has of each connection a prefix of what the client wrote, and the client's Connects on its connections alone
pub record IsOwn (c : Client) (connections : List ClientConnection) (list : List Command) : Type 0 where
  pub order : (j : ℕ) (κ : ClientConnection) → slice_get connections j ≡ Some κ → IsPrefixOf (filter (of_name κ.name) list) (commands_from κ.name 0 κ.written)
  pub alone : (x : ConnectionName) (clean : Bool) → In (commands.Connect x c clean) list → any_named (same_connection x) connections ≡ true

-- it does not depend on how much is counted as taken
own_untaken : (c : Client) (connections others : List ClientConnection) (list : List Command) → AreSameUntaken connections others → IsOwn c others list → IsOwn c connections list
own_untaken c connections others list same own =
    record {
      order = λ j κ at. by j κ (same_place untaken_connection untaken_connection others connections j κ (sym same) at);
      alone = λ x clean i. same_named (same_connection x) connections others same ∙ own.alone x clean i;
    }
  where
    by : (j : ℕ) (κ : ClientConnection) → (μ : ClientConnection) × (slice_get others j ≡ Some μ) × (untaken_connection μ ≡ untaken_connection κ)
        → IsPrefixOf (filter (of_name κ.name) list) (commands_from κ.name 0 κ.written)
    by j κ (μ, at, is) =
        subst (λ (ν : ClientConnection). IsPrefixOf (filter (of_name ν.name) list) (commands_from ν.name 0 ν.written)) is (own.order j μ at)

-- the life continues by a command, and the client stays as it is
record ToldOn (list : List Command) (keeper : Keeper) (connections : List ClientConnection) : Type 0 where
  later : List ClientConnection
  told : IsTold list (bare keeper later)
  same : AreSameUntaken later connections

no_other_client : (x : ConnectionName) (c d : Client) (clean : Bool) (past : Past) → same_client d c ≡ false → names_client past c (commands.Connect x d clean) → ⊥
no_other_client x c d clean past other is = both_ways (same_client d c) other (ap (λ k. same_client k c) is ∙ same_self c)

module _ (front : List Command) (y : Command) (rest : List Command) (keeper : Keeper) (connections : List ClientConnection) (told : IsTold front (bare keeper connections))
    (own : IsOwn keeper.client connections (front ++ y ∷ rest)) where
  -- it is the next packet of one of its connections
  takes_own : (j : ℕ) (κ : ClientConnection) → slice_get connections j ≡ Some κ → is_packet_of y κ.name ≡ true → ToldOn (front ++ y ∷ []) keeper connections
  takes_own j κ at mine =
      let life = lived_is_life usual_limits keeper.client (story_of front (bare keeper connections)) told in
      let counted = (each_there (IsCounted (past_of usual_limits front)) j connections κ at life.connections.counted).counted in
      let f = own.order j κ at in
      let test = of_name κ.name in
      let cut : filter test (front ++ y ∷ rest) ≡ filter test front ++ y ∷ filter test rest =
      filter-append test front (y ∷ rest) ∙ ap (λ b. filter test front ++ (if b then y ∷ filter test rest else filter test rest)) mine in
      let next = next_from κ.name 0 κ.written (filter test front) y (filter test rest ++ f.rest)
      (f.is ∙ ap (λ l. l ++ f.rest) cut ∙ append_assoc (filter test front) (y ∷ filter test rest) f.rest) in
      let long : length (filter test front) ≡ κ.taken = sym (counted_in usual_limits κ.name front) ∙ counted in
      let stands : slice_get κ.written κ.taken ≡ Some next.written = ap (slice_get κ.written) (sym long) ∙ next.stands in
      let zero_more : 0 + length (filter test front) ≡ length (filter test front) = omega arith in
      let is : y ≡ command_of κ.name κ.taken next.written.packet = next.is ∙ ap (λ k. command_of κ.name k next.written.packet) (zero_more ∙ long) in
      record {
        later = with_one_counted j connections;
        told = subst (λ (z : Command). IsTold (front ++ z ∷ []) (bare keeper (with_one_counted j connections))) (sym is)
            (told_longer front (command_of κ.name κ.taken next.written.packet) (bare keeper (with_one_counted j connections)) keeper.client (goes_on told (takes j κ next.written at stands)));
        same = counted_untaken j connections;
      }

  -- it is another's
  takes_other : any_named (is_packet_of y) connections ≡ false → (names_client (past_of usual_limits front) keeper.client y → ⊥) → ToldOn (front ++ y ∷ []) keeper connections
  takes_other none not = record { later = connections; told = others_told front y (bare keeper connections) told not none; same = refl }

  among : In y (front ++ y ∷ rest)
  among = in_right front here

  takes_else : any_named (is_packet_of y) connections ≡ false → (z : Command) → y ≡ z → ToldOn (front ++ y ∷ []) keeper connections
  takes_else none (commands.Connect x d clean) is = by (cases_Bool (same_client d keeper.client))
    where
      by : (same_client d keeper.client ≡ true) ⊎ (same_client d keeper.client ≡ false) → ToldOn (front ++ y ∷ []) keeper connections
      by (inl same) =
          let mine : y ≡ commands.Connect x keeper.client clean = is ∙ ap (λ k. commands.Connect x k clean) (same_is d keeper.client same) in
          absurd (both_ways (any_named (is_packet_of y) connections) none
          (ap (λ (z : Command). any_named (is_packet_of z) connections) mine ∙ own.alone x clean (subst (λ (z : Command). In z (front ++ y ∷ rest)) mine among)))
      by (inr other) = takes_other none (λ n. no_other_client x keeper.client d clean (past_of usual_limits front) other (subst (names_client (past_of usual_limits front) keeper.client) is n))
  takes_else none (commands.Packet x packet) is = takes_other none (λ n. subst (names_client (past_of usual_limits front) keeper.client) is n)
  takes_else none (commands.Lost x) is = takes_other none (λ n. subst (names_client (past_of usual_limits front) keeper.client) is n)
  takes_else none (commands.Start ballot) is = takes_other none (λ n. subst (names_client (past_of usual_limits front) keeper.client) is n)
  takes_else none (commands.Expel d) is = by (cases_Bool (same_client d keeper.client))
    where
      by : (same_client d keeper.client ≡ true) ⊎ (same_client d keeper.client ≡ false) → ToldOn (front ++ y ∷ []) keeper connections
      by (inl same) =
          let mine : y ≡ commands.Expel keeper.client = is ∙ ap (λ k. commands.Expel k) (same_is d keeper.client same) in
          record {
            later = connections;
            told = subst (λ (z : Command). IsTold (front ++ z ∷ []) (bare keeper connections)) (sym mine)
                (told_longer front (commands.Expel keeper.client) (bare keeper connections) keeper.client (is_expelled told));
            same = refl;
          }
      by (inr other) =
          takes_other none
          (λ n. let m = subst (names_client (past_of usual_limits front) keeper.client) is n in
          both_ways (same_client d keeper.client) other (ap (λ k. same_client k keeper.client) m.0 ∙ same_self keeper.client))

  one_more : ToldOn (front ++ y ∷ []) keeper connections
  one_more = by (any_named (is_packet_of y) connections) refl
    where
      by : (b : Bool) → any_named (is_packet_of y) connections ≡ b → ToldOn (front ++ y ∷ []) keeper connections
      by true e = let z = named_one (is_packet_of y) connections e in takes_own z.0 z.1 z.2 z.3
      by false e = takes_else e y refl

-- ---- all commands of a longer list

all_more : (front rest : List Command) (keeper : Keeper) (connections : List ClientConnection) → IsTold front (bare keeper connections) → IsOwn keeper.client connections (front ++ rest)
    → ToldOn (front ++ rest) keeper connections
all_more front [] keeper connections told own =
    record { later = connections; told = subst (λ (l : List Command). IsTold l (bare keeper connections)) (sym (append-nil front)) told; same = refl }
all_more front (y ∷ rest) keeper connections told own =
    let one = one_more front y rest keeper connections told own in
    let joined : (front ++ y ∷ []) ++ rest ≡ front ++ y ∷ rest = append_assoc front (y ∷ []) rest in
    let more = all_more (front ++ y ∷ []) rest keeper one.later one.told
    (own_untaken keeper.client one.later connections ((front ++ y ∷ []) ++ rest) one.same (subst (IsOwn keeper.client connections) (sym joined) own)) in
    record { later = more.later; told = subst (λ (l : List Command). IsTold l (bare keeper more.later)) joined more.told; same = more.same ∙ one.same }

-- a life as what is told of the client
told_of : (list : List Command) (one : ClientPipes) (h : HasLife list one) → IsTold list (bare h.story.keeper h.story.connections)
told_of list one h =
    subst (λ (past : Past). Lived usual_limits h.story.keeper.client (let s : Story = record { past = past; connections = h.story.connections; keeper = h.story.keeper } in s)) h.past h.lived

pub life_of : (list : List Command) (one : ClientPipes) (keeper : Keeper) (later : List ClientConnection) → IsTold list (bare keeper later) → keeper ≡ one.keeper → AreSameUntaken later one.connections → HasLife list one
life_of list one keeper later told is same = record { story = story_of list (bare keeper later); lived = told; past = refl; keeper = is; connections = same }

pub life_grows : (front list : List Command) (one : ClientPipes) → IsPrefixOf front list → HasLife front one → IsOwn one.keeper.client one.connections list → HasLife list one
life_grows front list one grown h own =
    let mine : IsOwn h.story.keeper.client h.story.connections (front ++ grown.rest) =
    own_untaken h.story.keeper.client h.story.connections one.connections (front ++ grown.rest) h.connections
    (subst (λ (k : Keeper). IsOwn k.client one.connections (front ++ grown.rest)) (sym h.keeper) (subst (IsOwn one.keeper.client one.connections) grown.is own)) in
    let more = all_more front grown.rest h.story.keeper h.story.connections (told_of front one h) mine in
    life_of list one h.story.keeper more.later (subst (λ (l : List Command). IsTold l (bare h.story.keeper more.later)) (sym grown.is) more.told) h.keeper (more.same ∙ h.connections)

-- ---- as it begins

empty_past : past_of usual_limits [] ≡ []
unfolding past_from
empty_past = refl

pub life_begins : (c : Client) → IsTold [] (bare (no_story c).keeper [])
life_begins c = subst (λ (past : Past). Lived usual_limits c (let s : Story = record (no_story c) { past = past } in s)) (sym empty_past) opens

-- ---- what the client does

-- it calls
pub life_calls : (list : List Command) (one : ClientPipes) (s t : Story) (step : StoryStep usual_limits s t) (later : ClientPipes) → is_call step ≡ true → s.keeper ≡ one.keeper → s.connections ≡ one.connections
    → t.keeper ≡ later.keeper → t.connections ≡ later.connections → HasLife list one → HasLife list later
life_calls list one s t step later call keeper connections now_keeper now_connections h =
    let same = same_call usual_limits s t h.story step call (h.keeper ∙ sym keeper) (h.connections ∙ ap (map untaken_connection) (sym connections)) in
    record {
      story = same.after;
      lived = subst (λ (d : Client). Lived usual_limits d same.after) (sym (same_story usual_limits h.story same.after same.happens)) (goes_on h.lived same.happens);
      past = same.past ∙ h.past;
      keeper = same.keeper ∙ now_keeper;
      connections = same.connections ∙ ap (map untaken_connection) now_connections;
    }

-- it opens a connection with a name of which no packet is in the list
pub life_connects : (list : List Command) (one later : ClientPipes) (x : ConnectionName) → any_named (same_connection x) one.connections ≡ false → filter (of_name x) list ≡ []
    → later.keeper ≡ (let k : Keeper = record (lost one.keeper) { is_open = true } in k) → later.connections ≡ new_connection one.keeper.client x ∷ one.connections → HasLife list one → HasLife list later
life_connects list one later x fresh none keeper connections h =
    let uncounted : packet_count x (past_of usual_limits list) ≡ 0 = counted_in usual_limits x list ∙ ap length none in
    let now : Story = record {
      past = h.story.past;
      connections = new_connection h.story.keeper.client x ∷ h.story.connections;
      keeper = record (lost h.story.keeper) { is_open = true };
    } in
    let step : StoryStep usual_limits h.story now = opens_anew x (same_named (same_connection x) h.story.connections one.connections h.connections ∙ fresh)
    (subst (λ (past : Past). put_to usual_limits past x ≡ []) (sym h.past) (nothing_put usual_limits list x uncounted))
    (subst (λ (past : Past). packet_count x past ≡ 0) (sym h.past) uncounted) in
    record {
      story = now;
      lived = goes_on h.lived step;
      past = h.past;
      keeper = ap (λ (k : Keeper). let l : Keeper = record (lost k) { is_open = true } in l) h.keeper ∙ sym keeper;
      connections = ap₂ (λ (k : Keeper) (l : List ClientConnection). untaken_connection (new_connection k.client x) ∷ l) h.keeper h.connections ∙ ap (map untaken_connection) (sym connections);
    }

-- it handles the next packet that was sent
pub life_handles : (list : List Command) (one later : ClientPipes) (κ : ClientConnection) (others : List ClientConnection) (packet : Packet) → one.connections ≡ κ ∷ others → one.keeper.is_open ≡ true
    → slice_get (put_to usual_limits (past_of usual_limits list) κ.name) κ.handled ≡ Some packet
    → later.keeper ≡ (packet_handled packet (let s : Side = record { keeper = one.keeper; connection = κ } in s)).keeper
    → later.connections ≡ (packet_handled packet (let s : Side = record { keeper = one.keeper; connection = κ } in s)).connection ∷ others → HasLife list one → HasLife list later
life_handles list one later κ others packet are is_open next keeper connections h = on h.story.connections refl (h.connections ∙ ap (map untaken_connection) are)
  where
    on : (mine : List ClientConnection) → h.story.connections ≡ mine → map untaken_connection mine ≡ untaken_connection κ ∷ map untaken_connection others → HasLife list later
    on [] none same = cc
    on (μ ∷ rest) mine same =
        let first : untaken_connection μ ≡ untaken_connection κ = cc in
        let more : map untaken_connection rest ≡ map untaken_connection others = cc in
        let name : μ.name ≡ κ.name = ap (λ (ν : ClientConnection). ν.name) first in
        let count : μ.handled ≡ κ.handled = ap (λ (ν : ClientConnection). ν.handled) first in
        let side : Side = packet_handled packet (record { keeper = h.story.keeper; connection = μ }) in
        let like = same_handled packet (record { keeper = h.story.keeper; connection = μ }) (record { keeper = one.keeper; connection = κ }) (record { keeper = h.keeper; connection = first }) in
        let now : Story = record { past = h.story.past; connections = side.connection ∷ rest; keeper = side.keeper } in
        let step : StoryStep usual_limits h.story now = receives μ rest packet mine (ap (λ (k : Keeper). k.is_open) h.keeper ∙ is_open)
        (subst (λ (past : Past). slice_get (put_to usual_limits past μ.name) μ.handled ≡ Some packet) (sym h.past)
        (ap₂ (λ (x : ConnectionName) (n : ℕ). slice_get (put_to usual_limits (past_of usual_limits list) x) n) name count ∙ next)) in
        record {
          story = now;
          lived = subst (λ (d : Client). Lived usual_limits d now) (sym (same_story usual_limits h.story now step)) (goes_on h.lived step);
          past = h.past;
          keeper = like.keeper ∙ sym keeper;
          connections = ap₂ (λ (ν : ClientConnection) (l : List ClientConnection). ν ∷ l) like.connection more ∙ ap (map untaken_connection) (sym connections);
        }
