-- A tick leaves no silent connection: of those that are open the silent ones are closed one by one, each of the lowest port.
use Rattle.std.proofs.Common.{◌≡◌, ◌⊎◌, inl, inr, ◌≤◌, ◌<◌, ◌+◌, ◌*◌, ℕ, Bool, true, false, ◌&&◌, nat_lt, if◌then◌else◌, length, List, [], ◌∷◌, Option, Some, None, refl, ap, arith}
use Rattle.std.specs.List.{find, fold}
use Rattle.std.proofs.lemmas.Bool.{eq-eqb, and_from, not-true}
use Rattle.ballot_base.specs.Protocol.Input.{Ticks}
use Rattle.broker_spec.specs.declared.command.Command.TheVariants as commands
use Rattle.lists.specs.Lists.{Each}
use Rattle.world_base.specs.declared.node_connections.port.Port.{Port}
use Rattle.world_base.specs.declared.node_core.item.Item.TheVariants.{Tick}
use Rattle.world_base.specs.declared.node_connections.connection.Connection.{Connection}
use Rattle.world_base.specs.node_connections.Connections.{is_closed, is_proposed, is_silent, is_at, is_open_at}
use Rattle.world_base.specs.node_connections.ConnectionChanges.{closed_connection, failing}
use Rattle.world_base.specs.node_core.Core.{CoreState, StepOutcome}
use Rattle.world_base.specs.node_connections.Silent.{lower, lower_silent, lowest_silent}
use Rattle.world_base.specs.node_core.KeepAlive.{ends_if, ends_silent}
use Rattle.world_base.specs.node_core.PacketInput.{changes, port_closed, loses, loses_open, open_at}
use Rattle.world_base.specs.node_core.Step.{acts_on, does_item}
use Rattle.world_base.specs.node_core.Effects.{without_messages, drives, proposes}
use Rattle.headline.specs.node_moves.Settled.{NoneIsSilent}
use Rattle.headline.proofs.of_node_moves.EachKept.{IsKept, each_repeated, each_settled}
use Rattle.headline.proofs.of_node_moves.Kept.{live, left_true, failing_over}
use Rattle.headline.proofs.of_node_moves.NamesInOrder.{same_le}
use Rattle.headline.proofs.of_node_moves.Views.{found_passes, some_none}
use Rattle.headline.proofs.of_node_moves.Weights.{IsLight, put_or_failing, total, total_few, total_lowered, total_proposed, comes_to_end}

-- ---- open connections become fewer

abbrev open_weight : Connection → ℕ
open_weight c = if is_closed c.stage then 0 else 1

none_open : (c : Connection) → is_closed c.stage ≡ true → (n : ℕ) → open_weight c ≤ n
none_open c over n = rw over (none n)
  where
    none : (n : ℕ) → 0 ≤ n
    none n = omega arith

open_light : IsLight open_weight
open_light =
    record {
      shut = λ c. none_open (closed_connection c) refl (open_weight c);
      put = λ bytes c. put_or_failing (λ d. open_weight d ≤ open_weight c) bytes c (same_le (open_weight c)) (none_open (failing c) (failing_over c) (open_weight c));
    }

at_most_one : (b : Bool) → (if b then 0 else 1) ≤ 1
at_most_one true = omega arith
at_most_one false = omega arith

one_open : (c : Connection) → open_weight c ≤ 1
one_open c = at_most_one (is_closed c.stage)

open_drops : (c : Connection) → live c ≡ true → open_weight (closed_connection c) < open_weight c
open_drops c lives = let one : 0 < 1 = omega arith in rw (not-true (is_closed c.stage) lives) one

closes_lowers : (port : Port) (c : Connection) (core : CoreState) → open_at port core ≡ Some c
    → total open_weight (changes port closed_connection core).connections < total open_weight core.connections
unfolding changes
closes_lowers port c core at =
    total_lowered open_weight (is_open_at port) closed_connection core.connections c at
    (open_drops c (left_true (live c) (is_at port c) (found_passes (is_open_at port) core.connections c at)))

loses_lowers : (port : Port) (c : Connection) (core : CoreState) → open_at port core ≡ Some c
    → total open_weight (loses port c core).core.connections < total open_weight core.connections
loses_lowers port c core at = by (is_proposed c.stage)
  where
    by : (b : Bool) → total open_weight (let t : StepOutcome = if b then proposes (commands.Lost c.name) (changes port closed_connection core) else without_messages (changes port closed_connection core) in t).core.connections
        < total open_weight core.connections
    by true =
        let less = closes_lowers port c core at in
        let most = total_proposed open_weight open_light (commands.Lost c.name) (changes port closed_connection core) in
        omega (arith, less, most)
    by false = closes_lowers port c core at

-- a port at which a connection is open
abbrev HasOpen : Port → List Connection → Type 0
HasOpen port cs = find (is_open_at port) cs ≡ None → ⊥

ends_lowers : (port : Port) (core : CoreState) → HasOpen port core.connections → total open_weight (port_closed port core).core.connections < total open_weight core.connections
unfolding port_closed
ends_lowers port core has = by (open_at port core) refl
  where
    by : (o : Option Connection) → open_at port core ≡ o → total open_weight (loses_open port core o).core.connections < total open_weight core.connections
    by None at = absurd (has at)
    by (Some c) at = loses_lowers port c core at

-- ---- the silent one of the lowest port

open_here : (port : Port) (c : Connection) (cs : List Connection) → is_open_at port c ≡ true → HasOpen port (c ∷ cs)
open_here port c cs is e = some_none c (rw is at e)

open_later : (port : Port) (c : Connection) (cs : List Connection) → HasOpen port cs → HasOpen port (c ∷ cs)
open_later port c cs has = by (is_open_at port c)
  where
    by : (b : Bool) → (if b then Some c else find (is_open_at port) cs) ≡ None → ⊥
    by true e = some_none c e
    by false e = has e

silent_at : (now : ℕ) (port : Port) (c : Connection) → is_silent now c ≡ true → c.port ≡ port → is_open_at port c ≡ true
silent_at now port c silent same =
    and_from (live c) (is_at port c)
    (left_true (live c) (nat_lt 0 c.keep_alive) (left_true (live c && nat_lt 0 c.keep_alive) (nat_lt (c.last_packet + 1500 * c.keep_alive) now) silent))
    (eq-eqb c.port.0 port.0 (ap (λ (p : Port). p.0) same))

same_port : (a b : Port) → (let o : Option Port = Some a in o) ≡ Some b → a ≡ b
same_port a b e = cc

chosen_there : (now : ℕ) (port : Port) (low : Option Port) (c : Connection) (cs : List Connection) → is_silent now c ≡ true → lower low c.port ≡ port
    → (low ≡ Some port) ⊎ HasOpen port (c ∷ cs)
chosen_there now port None c cs silent same = inr (open_here port c cs (silent_at now port c silent same))
chosen_there now port (Some l) c cs silent same = by (nat_lt c.port.0 l.0) same
  where
    by : (b : Bool) → (if b then c.port else l) ≡ port → (Some l ≡ Some port) ⊎ HasOpen port (c ∷ cs)
    by true e = inr (open_here port c cs (silent_at now port c silent e))
    by false e = inl (ap Some e)

lowest_there : (now : ℕ) (port : Port) (low : Option Port) (cs : List Connection) → fold (lower_silent now) low cs ≡ Some port → (low ≡ Some port) ⊎ HasOpen port cs
lowest_there now port low [] e = inl e
lowest_there now port low (c ∷ cs) e = by (lowest_there now port (lower_silent now low c) cs e)
  where
    by_test : (b : Bool) → is_silent now c ≡ b → (if b then Some (lower low c.port) else low) ≡ Some port → (low ≡ Some port) ⊎ HasOpen port (c ∷ cs)
    by_test true silent is = chosen_there now port low c cs silent (same_port (lower low c.port) port is)
    by_test false other is = inl is

    by : (lower_silent now low c ≡ Some port) ⊎ HasOpen port cs → (low ≡ Some port) ⊎ HasOpen port (c ∷ cs)
    by (inl is) = by_test (is_silent now c) refl is
    by (inr has) = inr (open_later port c cs has)

-- if there is none, none is silent
lowest_none : (now : ℕ) (low : Option Port) (cs : List Connection) → fold (lower_silent now) low cs ≡ None
    → (low ≡ None) × Each (λ (c : Connection). is_silent now c ≡ false) cs
lowest_none now low [] e = (e, tt)
lowest_none now low (c ∷ cs) e = let rest = lowest_none now (lower_silent now low c) cs e in by (is_silent now c) refl rest.0 rest.1
  where
    by : (b : Bool) → is_silent now c ≡ b → (if b then Some (lower low c.port) else low) ≡ None → Each (λ (d : Connection). is_silent now d ≡ false) cs
        → (low ≡ None) × Each (λ (d : Connection). is_silent now d ≡ false) (c ∷ cs)
    by true silent is all = absurd cc
    by false other is all = (is, (other, all))

abbrev NoneSilent : ℕ → CoreState → Type 0
NoneSilent now core = Each (λ (c : Connection). is_silent now c ≡ false) core.connections

silent_step : (now : ℕ) (core : CoreState) → (NoneSilent now core × (ends_silent now core ≡ without_messages core))
    ⊎ (total open_weight (ends_silent now core).core.connections < total open_weight core.connections)
unfolding ends_silent
silent_step now core = by (lowest_silent now core.connections) refl
  where
    there : (port : Port) → (None ≡ Some port) ⊎ HasOpen port core.connections → HasOpen port core.connections
    there port (inl e) = absurd cc
    there port (inr has) = has

    by : (o : Option Port) → lowest_silent now core.connections ≡ o → (NoneSilent now core × (ends_if o core ≡ without_messages core))
        ⊎ (total open_weight (ends_if o core).core.connections < total open_weight core.connections)
    by None e = inl ((lowest_none now None core.connections e).1, refl)
    by (Some port) e = inr (ends_lowers port core (there port (lowest_there now port None core.connections e)))

silent_kept : (now : ℕ) → IsKept (λ (c : Connection). is_silent now c ≡ false)
silent_kept now =
    record {
      shut = λ c other. refl;
      put = λ bytes c other. put_or_failing (λ d. is_silent now d ≡ false) bytes c other (rw (failing_over c) refl);
    }

pub none_is_silent : NoneIsSilent
none_is_silent now core =
    each_settled (λ (c : Connection). is_silent now c ≡ false) (silent_kept now).shut (acts_on (Tick now) core).core
    (each_repeated (λ (c : Connection). is_silent now c ≡ false) (silent_kept now) (length ended.connections) ended
    (comes_to_end (ends_silent now) (NoneSilent now) open_weight (silent_step now) (length heard.connections) heard
    (total_few open_weight heard.connections one_open)))
  where
    heard : CoreState
    heard = (drives Ticks core).core

    ended : CoreState
    ended = (does_item (Tick now) core).core
