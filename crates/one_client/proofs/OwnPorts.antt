-- Ports that are used for one connection each give names to a client's connections; so it is promised what all are without naming them.
use Rattle.std.proofs.Common.{◌≡◌, ◌<◌, ◌≤◌, ℕ, suc, Bool, true, false, ◌&&◌, ◌||◌, List, [], ◌∷◌, length, refl, sym, ap, ◌∙◌, subst, arith}
use Rattle.std.specs.List.{list_any}
use Rattle.std.specs.Prelude.{nat_le, nat_lt}
use Rattle.std.proofs.lemmas.Bool.{both_ways}
use Rattle.lists.specs.Lists.{Each, In}
use Rattle.lists.specs.Lists.In.{here, there}
use Rattle.lists.proofs.Tests.{or_none}
use Rattle.ballot_base.specs.declared.config.Config.{Config}
use Rattle.broker_spec.specs.Connection.{ConnectionName, is_connection_name, max_ballot, same_connection}
use Rattle.broker_spec.specs.declared.command.Command.TheVariants as commands
use Rattle.broker_spec.proofs.ConnectionNames.{same_itself, same_name}
use Rattle.exactly_once.specs.Sides.{ClientConnection}
use Rattle.exactly_once.specs.StoryCommands.{any_named}
use Rattle.world_base.specs.declared.node_connections.connection.Connection.{Connection as NodesEnd}
use Rattle.headline.specs.Promise.{Promise}
use Rattle.headline.specs.byte_world.World.{Pipe, leads_to}
use Rattle.headline.specs.node_group.Group.{Group}
use Rattle.headline.specs.node_group.Steps.{GroupTrace}
use Rattle.one_client.specs.Calls.{AreFaithful, calls_on}
use Rattle.one_client.specs.Names.{AreNamed, HadConnection, IsNameAt, OpensOnce}
use Rattle.one_client.specs.Ports.{ClientsWithOwnPortsArePromised, HasOwnPorts, under_names}
use Rattle.one_client.proofs.AgreedCommands.{agreed_packets_were_proposed}
use Rattle.one_client.proofs.AlongUnderNames.{AreApart, along_under, as_many, client_under}
use Rattle.one_client.proofs.CallsUnderNames.{accepted_under}
use Rattle.one_client.proofs.ClientPromised.{one_client_is_promised}
use Rattle.one_client.proofs.ConnectsFirst.{connects_came_first}
use Rattle.one_client.proofs.GoesAlong.{goes_along}
use Rattle.one_client.proofs.PortBytes.{the_port}
use Rattle.one_client.proofs.PortNames.{EverAt, ever_at, had_named, names_go_with_ports, same_ports, spare_at}
use Rattle.one_client.proofs.PortNames.EverAt.{was_at, never_at}

-- ---- a name for each port

abbrev spare : ℕ → ConnectionName
spare n = record { ballot = n; count = 0 }

never_given : (n : ℕ) → is_connection_name (spare n) ≡ false
never_given n = by (nat_lt 0 n && nat_le n max_ballot)
  where
    by : (b : Bool) → (b && false) ≡ false
    by true = refl
    by false = refl

-- the name was given at the port, or is the spare one of this number
data From {nodes : ℕ} {config : Config} {g : Group} (went : GroupTrace nodes config g) (x : ConnectionName) (p : Pipe) (n : ℕ) : Type 0 where
  given : (d : NodesEnd) → HadConnection went p.node d → d.port.0 ≡ p.port.0 → d.name ≡ x → From went x p n
  unused : x ≡ spare n → From went x p n

record Chosen {nodes : ℕ} {config : Config} {g : Group} (went : GroupTrace nodes config g) (x : ConnectionName) (p : Pipe) (n : ℕ) : Type 0 where
  is : IsNameAt went x p.node p.port
  from : From went x p n

-- of each pipe, with spare names of different numbers
abbrev AllChosen : {nodes : ℕ} {config : Config} {g : Group} → GroupTrace nodes config g → List ConnectionName → List Pipe → Type 0
AllChosen went (x ∷ names) (p ∷ pipes) = Chosen went x p (length pipes) × AllChosen went names pipes
AllChosen went [] [] = Unit {0}
AllChosen went _ _ = ⊥

module _ {nodes : ℕ} {config : Config} {g : Group} (went : GroupTrace nodes config g) where
  choose : (pipes : List Pipe) → HasOwnPorts went pipes → (names : List ConnectionName) × AllChosen went names pipes
  choose [] own = ([], tt)
  choose (p ∷ pipes) own = by (ever_at went p.node p.port) (choose pipes own.2)
    where
      by : EverAt went p.node p.port → (names : List ConnectionName) × AllChosen went names pipes → (names : List ConnectionName) × AllChosen went names (p ∷ pipes)
      by (was_at d had same) z = (
        d.name ∷ z.0,
        (
          record {
            is = subst (IsNameAt went d.name p.node) (same_ports d.port p.port same)
                (names_go_with_ports nodes config g went p.node d (subst (λ q. OpensOnce p.node q (calls_on went)) (sym (same_ports d.port p.port same)) own.0) had);
            from = given d had same refl;
          },
          z.1,
        ),
      )
      by (never_at none) z = (
        spare (length pipes) ∷ z.0,
        (record { is = spare_at went p.node p.port (spare (length pipes)) none (never_given (length pipes)); from = unused refl }, z.1),
      )

  long_chosen : (names : List ConnectionName) (pipes : List Pipe) → AllChosen went names pipes → length names ≡ length pipes
  long_chosen [] [] all = refl
  long_chosen [] (p ∷ pipes) all = absurd all
  long_chosen (x ∷ names) [] all = absurd all
  long_chosen (x ∷ names) (p ∷ pipes) all = ap suc (long_chosen names pipes all.1)

  -- ---- the names differ

  given_or_not : (x y : ConnectionName) (p q : Pipe) (m : ℕ) (d : NodesEnd) → HadConnection went p.node d → d.name ≡ x → x ≡ y → y ≡ spare m → ⊥
  given_or_not x y p q m d had is same none =
      both_ways (is_connection_name (spare m)) (never_given m) (ap is_connection_name (sym (is ∙ same ∙ none)) ∙ had_named went p.node d had)

  differ : (x y : ConnectionName) (p q : Pipe) (n m : ℕ) → Chosen went x p n → Chosen went y q m → m < n → leads_to p.node p.port q ≡ false → x ≡ y → ⊥
  differ x y p q n m a b less other same = by a.from b.from
    where
      by : From went x p n → From went y q m → ⊥
      by (given d had at is) (given e had_e at_e is_e) =
          let z = b.is.alone p.node d had (is ∙ same) in
          both_ways (leads_to p.node p.port q) other (the_port p.node p.port q.node q.port (sym z.0) (sym z.1 ∙ at))
      by (given d had at is) (unused none) = given_or_not x y p q m d had is same none
      by (unused none) (given e had_e at_e is_e) = given_or_not y x q p n e had_e is_e (sym same) none
      by (unused none) (unused none_y) =
          let numbers : n ≡ m = ap (λ (z : ConnectionName). z.ballot) (sym none ∙ same ∙ none_y) in
          omega (arith, less, numbers)

  all_differ : (x : ConnectionName) (p : Pipe) (n : ℕ) → Chosen went x p n → (names : List ConnectionName) (pipes : List Pipe) → AllChosen went names pipes
      → list_any (leads_to p.node p.port) pipes ≡ false → length pipes ≤ n → Each (λ y. same_connection x y ≡ false) names
  all_differ x p n a [] pipes all other less = tt
  all_differ x p n a (y ∷ names) [] all other less = absurd all
  all_differ x p n a (y ∷ names) (q ∷ pipes) all other less =
      let parts = or_none (leads_to p.node p.port q) (list_any (leads_to p.node p.port) pipes) other in
      (by (same_connection x y) refl (differ x y p q n (length pipes) a all.0 (omega (arith, less)) parts.0), all_differ x p n a names pipes all.1 parts.1 (omega (arith, less)))
    where
      by : (b : Bool) → same_connection x y ≡ b → (x ≡ y → ⊥) → same_connection x y ≡ false
      by false e apart = e
      by true e apart = absurd (apart (same_name x y e))

  apart_chosen : (names : List ConnectionName) (pipes : List Pipe) → AllChosen went names pipes → HasOwnPorts went pipes → AreApart names
  apart_chosen [] pipes all own = tt
  apart_chosen (x ∷ names) [] all own = absurd all
  apart_chosen (x ∷ names) (p ∷ pipes) all own = (all_differ x p (length pipes) all.0 names pipes all.1 own.1 (omega arith), apart_chosen names pipes all.1 own.2)

  -- ---- they name the connections

  named_chosen : (connections : List ClientConnection) (names : List ConnectionName) (pipes : List Pipe) → AllChosen went names pipes → AreNamed went (under_names connections names) pipes
  named_chosen [] names pipes all = tt
  named_chosen (κ ∷ connections) [] [] all = tt
  named_chosen (κ ∷ connections) [] (p ∷ pipes) all = absurd all
  named_chosen (κ ∷ connections) (x ∷ names) [] all = absurd all
  named_chosen (κ ∷ connections) (x ∷ names) (p ∷ pipes) all = (all.0.is, named_chosen connections names pipes all.1)

  found : (x : ConnectionName) (p : Pipe) (d : NodesEnd) → HadConnection went p.node d → d.port.0 ≡ p.port.0 → d.name ≡ x → (connections : List ClientConnection) (names : List ConnectionName) (pipes : List Pipe)
      → AllChosen went names pipes → length names ≡ length connections → In p pipes → any_named (same_connection x) (under_names connections names) ≡ true
  found x p d had at is connections names [] all long i = elim i [ ]
  found x p d had at is connections [] (q ∷ pipes) all long i = absurd all
  found x p d had at is [] (y ∷ names) (q ∷ pipes) all long i = cc
  found x p d had at is (κ ∷ connections) (y ∷ names) (q ∷ pipes) all long here =
      ap (λ b. b || any_named (same_connection x) (under_names connections names))
      (subst (λ (z : ConnectionName). same_connection x z ≡ true) (sym is ∙ all.0.is.named d had at) (same_itself x))
  found x p d had at is (κ ∷ connections) (y ∷ names) (q ∷ pipes) all long (there i) =
      by (same_connection x y) (found x p d had at is connections names pipes all.1 (omega (arith, long)) i)
    where
      by : (b : Bool) → any_named (same_connection x) (under_names connections names) ≡ true → (b || any_named (same_connection x) (under_names connections names)) ≡ true
      by true e = refl
      by false e = e

-- ---- the law

pub clients_with_own_ports_are_promised : ClientsWithOwnPortsArePromised
clients_with_own_ports_are_promised nodes config client g went one along own nobody =
    let z = choose went one.pipes own in
    let long : length z.0 ≡ length one.connections = long_chosen went z.0 one.pipes z.1 ∙ sym (as_many along) in
    let s = along_under client went one along z.0 long (apart_chosen went z.0 one.pipes z.1 own) in
    let named = named_chosen went one.connections z.0 one.pipes z.1 in
    let faithful : AreFaithful went = (goes_along client g went (client_under z.0 one) s.along named).faithful in
    let p = one_client_is_promised nodes config client g went (client_under z.0 one) s.along named in
    record {
      names = z.0;
      are_named = named;
      of = p.of;
      agreed = p.agreed;
      is_agreed = p.is_agreed;
      promises = λ list is state shown.
          subst (λ l. Promise (under_names one.connections z.0) l list state) s.is
          (p.promises list is
          (λ x clean i.
          let w = nobody x
          (connects_came_first nodes config g went x client clean faithful (agreed_packets_were_proposed nodes config g went p.of list is (commands.Connect x client clean) i refl)) in
          found went x w.pipe w.end w.had w.at w.is one.connections z.0 one.pipes z.1 long w.leads)
          state (record { keeper = shown.keeper; accepted = shown.accepted ∙ sym (accepted_under one.connections z.0) }));
    }
