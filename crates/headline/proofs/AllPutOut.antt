-- A world reaches a state in which all that was written is read, and all that is agreed is sent.
use Rattle.std.proofs.Common.{◌≡◌, ◌≤◌, ◌+◌, ℕ, zero, suc, true, List, [], ◌∷◌, length, map, set, Some, refl, sym, ap, ◌∙◌, subst, arith}
use Rattle.std.specs.Prelude.{slice_get}
use Rattle.agreement.specs.whole_logs.Application.{outputs_between}
use Rattle.agreement.specs.World.{outputs}
use Rattle.broker_spec.specs.declared.command.Command.{Command}
use Rattle.broker_spec.specs.Commands.{past_of, usual_limits}
use Rattle.broker_spec.specs.Place.{Client}
use Rattle.lists.specs.Lists.{Each}
use Rattle.lists.proofs.Places.{get_set}
use Rattle.exactly_once.specs.Sends.{put_to}
use Rattle.exactly_once.specs.Sides.{ClientConnection}
use Rattle.headline.specs.packet_world.World.{ClientsAreApart, ClientEnds, End, PacketWorld, with_client}
use Rattle.headline.specs.packet_world.Steps.{HasPipe, Reached}
use Rattle.headline.specs.packet_world.Steps.PacketWorldStep.{reads}
use Rattle.headline.specs.packet_world.Steps.Reached.{goes_on}
use Rattle.broker_base.specs.form.BrokerRules.{broker_rules}
use Rattle.headline.specs.packet_world.PutOut.{end_given}
use Rattle.headline.proofs.of_packet_world.Ends.{pipe_at}
use Rattle.headline.proofs.of_packet_world.Holds.{HasPipes}
use Rattle.headline.proofs.of_packet_world.Lists.{each_get}
use Rattle.headline.proofs.of_packet_world.PutOut.{given_is_put_out}
use Rattle.headline.proofs.of_packet_world.WorldsExact.{reached_holds}
use Rattle.headline.proofs.of_node_group.Placed.{set_same, set_twice}
use Rattle.headline.proofs.Places.{in_turn, take_whole}

-- the open end of a connection of which all is read, whose node has applied this list and sent all
-- the answers
abbrev pub end_of : List Command → ClientConnection → End
end_of agreed κ =
    record { read = length κ.written; seen = length agreed; put = put_to usual_limits (past_of usual_limits agreed) κ.name; is_open = true }

abbrev pub ends_of : List Command → List ClientConnection → List End
ends_of agreed connections = map (end_of agreed) connections

abbrev pub IsFull : List Command → ClientEnds → Type 0
IsFull agreed c = c.ends ≡ ends_of agreed c.connections

-- ---- reading

more_read : (cs : List Client) (w : PacketWorld) (i j : ℕ) (c : ClientEnds) (κ : ClientConnection) (e : End) → Reached cs w → HasPipe w i c j κ e → e.is_open ≡ true
    → (k : ℕ) → e.read + k ≤ length κ.written → Reached cs (with_client i (record c { ends = set c.ends j (record e { read = e.read + k }) }) w)
more_read cs w i j c κ e reached pipe is_open zero within =
    let none : e.read + 0 ≡ e.read = omega arith in
    subst (λ (v : PacketWorld). Reached cs v)
    (sym (ap (λ n. with_client i (record c { ends = set c.ends j (record e { read = n }) }) w) none
    ∙ ap (λ l. with_client i (record c { ends = l }) w) (set_same c.ends j e pipe.end)
    ∙ ap (λ l. let z : PacketWorld = record w { clients = l } in z) (set_same w.clients i c pipe.client))) reached
more_read cs w i j c κ e reached pipe is_open (suc k) within =
    let now : End = record e { read = e.read + k } in
    let after : ClientEnds = record c { ends = set c.ends j now } in
    let next : suc (e.read + k) ≡ e.read + suc k = omega arith in
    subst (λ (v : PacketWorld). Reached cs v)
    (ap (λ l. let z : PacketWorld = record w { clients = l } in z)
    (set_twice w.clients i after (record c { ends = set (set c.ends j now) j (record e { read = suc (e.read + k) }) }))
    ∙ ap (λ l. with_client i (record c { ends = l }) w)
    (set_twice c.ends j now (record e { read = suc (e.read + k) }) ∙ ap (λ n. set c.ends j (record e { read = n })) next))
    (goes_on (more_read cs w i j c κ e reached pipe is_open k (omega (arith, within)))
    (reads i j after κ now
    (record { client = get_set w.clients i c after pipe.client; connection = pipe.connection; end = get_set c.ends j e now pipe.end })
    is_open (omega (arith, within))))

past_less : (a b : ℕ) → b ≤ a → (k : ℕ) × (a ≡ b + k)
past_less a zero low = (a, omega arith)
past_less zero (suc b) low = absurd (omega (arith, low))
past_less (suc a) (suc b) low = let z = past_less a b (omega (arith, low)) in let f = z.1 in (z.0, omega (arith, f))

-- an open end reads all that was written
pub all_read : (cs : List Client) (w : PacketWorld) (i j : ℕ) (c : ClientEnds) (κ : ClientConnection) (e : End) → Reached cs w → HasPipe w i c j κ e → e.is_open ≡ true
    → e.read ≤ length κ.written → Reached cs (with_client i (record c { ends = set c.ends j (record e { read = length κ.written }) }) w)
all_read cs w i j c κ e reached pipe is_open low =
    let z = past_less (length κ.written) e.read low in
    let f = z.1 in
    subst (λ n. Reached cs (with_client i (record c { ends = set c.ends j (record e { read = n }) }) w)) (sym z.1)
    (more_read cs w i j c κ e reached pipe is_open z.0 (omega (arith, f)))

-- ---- putting out

same_end : (e f : End) → e.read ≡ f.read → e.seen ≡ f.seen → e.put ≡ f.put → e.is_open ≡ f.is_open → e ≡ f
same_end e f a b c d = rw (a, b, c, d) refl

-- one end
one_put_out : (cs : List Client) (old : List Command) (w : PacketWorld) (i j : ℕ) (c : ClientEnds) (κ : ClientConnection) → ClientsAreApart cs → Reached cs w
    → HasPipe w i c j κ (end_of old κ) → length old ≤ length w.agreed → Reached cs (with_client i (record c { ends = set c.ends j (end_of w.agreed κ) }) w)
one_put_out cs old w i j c κ apart reached pipe low =
    let given = outputs (outputs_between broker_rules w.agreed (length old) (length w.agreed)) in
    let e : End = end_given κ.name (length w.agreed) given (end_of old κ) in
    let after : ClientEnds = record c { ends = set c.ends j e } in
    let now = given_is_put_out cs w i j c κ (end_of old κ) (length w.agreed) reached pipe refl low (omega arith) in
    let held = reached_holds cs (with_client i after w) apart now in
    let pipes = each_get (HasPipes w.agreed) (set w.clients i after) i after held.pipes (get_set w.clients i c after pipe.client) in
    let one = pipe_at w.agreed c.connections after.ends j κ e pipes pipe.connection (get_set c.ends j (end_of old κ) e pipe.end) in
    subst (λ (f : End). Reached cs (with_client i (record c { ends = set c.ends j f }) w))
    (same_end e (end_of w.agreed κ) refl refl (one.shown ∙ ap (λ l. put_to usual_limits (past_of usual_limits l) κ.name) (take_whole w.agreed)) refl) now

-- each end of a client
client_puts_out : (cs : List Client) (old : List Command) (w : PacketWorld) (i : ℕ) (c : ClientEnds) → ClientsAreApart cs → Reached cs w → slice_get w.clients i ≡ Some c
    → length old ≤ length w.agreed → IsFull old c → Reached cs (with_client i (record c { ends = ends_of w.agreed c.connections }) w)
client_puts_out cs old w i c apart reached at low full =
    in_turn (end_of old) (end_of w.agreed) c.connections (λ ends. Reached cs (with_client i (record c { ends = ends }) w))
    (λ j κ ends there end before.
    let now : ClientEnds = record c { ends = ends } in
    subst (λ l. Reached cs (let z : PacketWorld = record w { clients = l } in z)) (set_twice w.clients i now (record c { ends = set ends j (end_of w.agreed κ) }))
    (one_put_out cs old (with_client i now w) i j now κ apart before
    (record { client = get_set w.clients i c now at; connection = there; end = end }) low))
    (subst (λ ends. Reached cs (with_client i (record c { ends = ends }) w)) full
    (subst (λ l. Reached cs (let z : PacketWorld = record w { clients = l } in z)) (sym (set_same w.clients i c at)) reached))

abbrev pub filled : List Command → ClientEnds → ClientEnds
filled agreed c = record c { ends = ends_of agreed c.connections }

-- each client's, if they had sent what a shorter list asks for
pub all_put_out : (cs : List Client) (old : List Command) (w : PacketWorld) → ClientsAreApart cs → Reached cs w → length old ≤ length w.agreed → Each (IsFull old) w.clients
    → Reached cs (record w { clients = map (filled w.agreed) w.clients })
all_put_out cs old w apart reached low full =
    in_turn (λ c. c) (filled w.agreed) w.clients (λ l. Reached cs (record w { clients = l }))
    (λ i c l there at before.
    client_puts_out cs old (record w { clients = l }) i c apart before at low (each_get (IsFull old) w.clients i c full there))
    (subst (λ l. Reached cs (let z : PacketWorld = record w { clients = l } in z)) (sym (map_same w.clients)) reached)
  where
    map_same : (l : List ClientEnds) → map (λ c. c) l ≡ l
    map_same [] = refl
    map_same (c ∷ l) = ap (λ m. c ∷ m) (map_same l)
