-- What a client does is done in that world too: it calls, handles a packet, or opens a connection,
-- and its nodes read what it wrote.
use Rattle.std.proofs.Common.{◌≡◌, ◌≤◌, ℕ, Bool, true, false, ◌||◌, List, [], ◌∷◌, length, map, set, take, Some, refl, sym, ap, ap₂, ◌∙◌, subst, arith, length-append}
use Rattle.std.specs.Prelude.{slice_get}
use Rattle.packet.specs.declared.packet.Packet.{Packet}
use Rattle.broker_spec.specs.declared.command.Command.{Command}
use Rattle.broker_spec.specs.Commands.{past_of, usual_limits}
use Rattle.broker_spec.specs.Connection.{ConnectionName, same_connection}
use Rattle.broker_spec.specs.Place.{Client}
use Rattle.client_base.specs.Connected.{new_connection}
use Rattle.client_base.specs.Handled.{packet_handled, lost}
use Rattle.client_base.specs.Keeper.{Keeper, Written}
use Rattle.client_base.specs.Written.{writes, writes_first}
use Rattle.headline.proofs.of_node_group.Placed.{get_of_set, set_mapped, set_twice}
use Rattle.lists.specs.Lists.{Each}
use Rattle.lists.proofs.OfEach.{each_then}
use Rattle.exactly_once.specs.Sends.{put_to}
use Rattle.exactly_once.specs.Sides.{ClientConnection, Side}
use Rattle.exactly_once.specs.Story.{StoryStep, Story}
use Rattle.exactly_once.specs.StoryCommands.{any_named}
use Rattle.exactly_once.proofs.publishing.Grown.{handled_grows}
use Rattle.headline.specs.packet_world.World.{ClientsAreApart, ClientEnds, End, IsFresh, PacketWorld, new_end, story_of, with_client}
use Rattle.headline.specs.packet_world.Steps.{Reached, after_opening, is_call}
use Rattle.headline.specs.packet_world.Steps.PacketWorldStep.{calls, handles, opens}
use Rattle.headline.specs.packet_world.Steps.Reached.{goes_on}
use Rattle.headline.proofs.of_packet_world.Ends.{pipe_at}
use Rattle.headline.proofs.of_packet_world.Holds.{HasPipes}
use Rattle.headline.proofs.of_packet_world.Lists.{each_get, each_set}
use Rattle.headline.proofs.of_packet_world.WorldsExact.{reached_holds}
use Rattle.headline.proofs.of_byte_world.WorldsKeep.{call_writes}
use Rattle.headline.proofs.Untaken.{untaken_connection}
use Rattle.headline.proofs.AllPutOut.{IsFull, all_read, end_of, ends_of}
use Rattle.headline.proofs.Beside.{Alone, Beside, alone, ends_alone}
use Rattle.headline.proofs.CallsUntaken.{same_call}
use Rattle.headline.proofs.HandledUntaken.{same_handled}
use Rattle.headline.proofs.Places.{each_made, map_back, take_whole}

-- ---- one client becomes another

pub becomes : {cs : List Client} {agreed : List Command} {clients : List Alone} (b : Beside cs agreed clients) (i : ℕ) (later : ClientEnds)
    → Reached cs (with_client i later b.world) → IsFull agreed later → Beside cs agreed (set clients i (ends_alone later))
becomes {agreed = agreed} b i later reached full =
    record {
      world = with_client i later b.world;
      reached = reached;
      is = b.is;
      full = each_set (IsFull agreed) b.world.clients i later b.full full;
      same = set_mapped ends_alone b.world.clients i later ∙ ap (λ l. set l i (ends_alone later)) b.same;
    }

-- the node of its newest connection reads all that it wrote there
first_reads : (cs : List Client) (w : PacketWorld) (i : ℕ) (before : ClientEnds) (keeper : Keeper) (κ : ClientConnection) (others : List ClientConnection) (e : End) (ends : List End)
    → slice_get w.clients i ≡ Some before → Reached cs (with_client i (record { keeper = keeper; connections = κ ∷ others; ends = e ∷ ends }) w) → e.is_open ≡ true
    → e.read ≤ length κ.written
    → Reached cs (with_client i (record { keeper = keeper; connections = κ ∷ others; ends = record e { read = length κ.written } ∷ ends }) w)
first_reads cs w i before keeper κ others e ends at reached is_open low =
    let now : ClientEnds = record { keeper = keeper; connections = κ ∷ others; ends = e ∷ ends } in
    let later : ClientEnds = record { keeper = keeper; connections = κ ∷ others; ends = record e { read = length κ.written } ∷ ends } in
    subst (λ l. Reached cs (let z : PacketWorld = record w { clients = l } in z)) (set_twice w.clients i now later)
    (all_read cs (with_client i now w) i 0 now κ e reached (record { client = get_of_set w.clients i before now at; connection = refl; end = refl }) is_open low)

same_client : (c d : ClientEnds) → c.keeper ≡ d.keeper → c.connections ≡ d.connections → c.ends ≡ d.ends → c ≡ d
same_client c d k l m = rw (k, l, m) refl

same_alone : (a b : Alone) → a.keeper ≡ b.keeper → a.connections ≡ b.connections → a ≡ b
same_alone a b k l = rw (k, l) refl

-- more is written on its newest connection, and more may be handled there
writes_beside : {cs : List Client} {agreed : List Command} {clients : List Alone} (b : Beside cs agreed clients) (i : ℕ) (before : ClientEnds) (keeper : Keeper)
    (later : ClientConnection) (others : List ClientConnection) (e : End) → slice_get b.world.clients i ≡ Some before
    → Reached cs (with_client i (record { keeper = keeper; connections = later ∷ others; ends = e ∷ ends_of agreed others }) b.world) → e.is_open ≡ true
    → e.read ≤ length later.written → (let f : End = record e { read = length later.written } in f) ≡ end_of agreed later
    → Beside cs agreed (set clients i (alone keeper (later ∷ others)))
writes_beside {cs = cs} {agreed = agreed} b i before keeper later others e at reached is_open low is =
    becomes b i (record { keeper = keeper; connections = later ∷ others; ends = record e { read = length later.written } ∷ ends_of agreed others })
    (first_reads cs b.world i before keeper later others e (ends_of agreed others) at reached is_open low) (ap (λ f. f ∷ ends_of agreed others) is)

-- ---- it calls

pub calls_beside : {cs : List Client} {agreed : List Command} {clients : List Alone} (b : Beside cs agreed clients) (i : ℕ) (s t : Story) (h : StoryStep usual_limits s t)
    → is_call h ≡ true → slice_get clients i ≡ Some (alone s.keeper s.connections) → Beside cs agreed (set clients i (alone t.keeper t.connections))
calls_beside {cs = cs} {agreed = agreed} {clients = clients} b i s t h call at =
    by (map_back ends_alone b.world.clients i (alone s.keeper s.connections) (ap (λ l. slice_get l i) b.same ∙ at))
  where
    by : (d : ClientEnds) × (slice_get b.world.clients i ≡ Some d) × (ends_alone d ≡ alone s.keeper s.connections) → Beside cs agreed (set clients i (alone t.keeper t.connections))
    by (d, there, is) =
        let same = same_call usual_limits s t (story_of b.world.agreed d) h call (ap (λ (a : Alone). a.keeper) is) (ap (λ (a : Alone). a.connections) is) in
        let new = call_writes same.happens same.is in
        let now : ClientEnds = record d { keeper = same.after.keeper; connections = same.after.connections } in
        subst (λ a. Beside cs agreed (set clients i a)) (same_alone (ends_alone now) (alone t.keeper t.connections) same.keeper same.connections)
        (on d.connections refl same.after.keeper same.after.connections new.0 new.1 (goes_on b.reached (calls i d same.after same.happens there same.is)))
      where
        on : (connections : List ClientConnection) → d.connections ≡ connections → (keeper : Keeper) (after : List ClientConnection) (new : List Written) → after ≡ writes_first new d.connections
            → Reached cs (with_client i (record d { keeper = keeper; connections = after }) b.world) → Beside cs agreed (set clients i (alone keeper after))
        on [] none keeper after new is reached =
            becomes b i (record d { keeper = keeper; connections = after }) reached
            (each_get (IsFull agreed) b.world.clients i d b.full there ∙ ap (ends_of agreed) (none ∙ sym (is ∙ ap (writes_first new) none)))
        on (κ ∷ others) are keeper after new is reached =
            let now : after ≡ writes new κ ∷ others = is ∙ ap (writes_first new) are in
            let ends : d.ends ≡ end_of agreed κ ∷ ends_of agreed others = each_get (IsFull agreed) b.world.clients i d b.full there ∙ ap (ends_of agreed) are in
            let long = length-append κ.written new in
            subst (λ l. Beside cs agreed (set clients i (alone keeper l))) (sym now)
            (writes_beside b i d keeper (writes new κ) others (end_of agreed κ) there
            (subst (λ c. Reached cs (with_client i c b.world))
            (same_client (record d { keeper = keeper; connections = after }) (record { keeper = keeper; connections = writes new κ ∷ others; ends = end_of agreed κ ∷ ends_of agreed others }) refl now ends) reached)
            refl (omega (arith, long)) refl)

-- ---- it handles the next packet that was sent

pub handles_beside : {cs : List Client} {agreed : List Command} {clients : List Alone} (b : Beside cs agreed clients) (i : ℕ) (keeper : Keeper) (κ : ClientConnection)
    (others : List ClientConnection) (packet : Packet) → slice_get clients i ≡ Some (alone keeper (κ ∷ others)) → keeper.is_open ≡ true
    → slice_get (put_to usual_limits (past_of usual_limits agreed) κ.name) κ.handled ≡ Some packet → (side : Side)
    → side ≡ packet_handled packet (record { keeper = keeper; connection = κ }) → Beside cs agreed (set clients i (alone side.keeper (side.connection ∷ others)))
handles_beside {cs = cs} {agreed = agreed} {clients = clients} b i keeper κ others packet at is_open next side side_is =
    by (map_back ends_alone b.world.clients i (alone keeper (κ ∷ others)) (ap (λ l. slice_get l i) b.same ∙ at))
  where
    by : (d : ClientEnds) × (slice_get b.world.clients i ≡ Some d) × (ends_alone d ≡ alone keeper (κ ∷ others))
        → Beside cs agreed (set clients i (alone side.keeper (side.connection ∷ others)))
    by (d, there, is) = on d.connections refl (ap (λ (a : Alone). a.connections) is)
      where
        on : (connections : List ClientConnection) → d.connections ≡ connections → map untaken_connection connections ≡ untaken_connection κ ∷ map untaken_connection others
            → Beside cs agreed (set clients i (alone side.keeper (side.connection ∷ others)))
        on [] none same = cc
        on (μ ∷ rest) are same =
            let one : untaken_connection μ ≡ untaken_connection κ = cc in
            let more : map untaken_connection rest ≡ map untaken_connection others = cc in
            let ends : d.ends ≡ end_of agreed μ ∷ ends_of agreed rest = each_get (IsFull agreed) b.world.clients i d b.full there ∙ ap (ends_of agreed) are in
            let mine : Side = packet_handled packet (record { keeper = d.keeper; connection = μ }) in
            let like = same_handled packet (record { keeper = d.keeper; connection = μ }) (record { keeper = keeper; connection = κ })
            (record { keeper = ap (λ (a : Alone). a.keeper) is; connection = one }) in
            let grown = handled_grows μ d.keeper packet in
            let long = ap length grown.written ∙ length-append μ.written grown.more in
            let name : κ.name ≡ μ.name = ap (λ (ν : ClientConnection). ν.name) (sym one) in
            let count : κ.handled ≡ μ.handled = ap (λ (ν : ClientConnection). ν.handled) (sym one) in
            let now = goes_on b.reached
            (handles i d μ (end_of agreed μ) rest (ends_of agreed rest) packet there are ends (ap (λ (k : Keeper). k.is_open) (ap (λ (a : Alone). a.keeper) is) ∙ is_open)
            (ap₂ (λ x n. slice_get (put_to usual_limits (past_of usual_limits agreed) x) n) (sym name) (sym count) ∙ next)) in
            subst (λ a. Beside cs agreed (set clients i a))
            (same_alone (alone mine.keeper (mine.connection ∷ rest)) (alone side.keeper (side.connection ∷ others))
            (like.keeper ∙ ap (λ (z : Side). z.keeper) (sym side_is))
            (ap₂ (λ ν l. ν ∷ l) (like.connection ∙ ap (λ (z : Side). untaken_connection z.connection) (sym side_is)) more))
            (writes_beside b i d mine.keeper mine.connection rest (end_of agreed μ) there now refl (omega (arith, long))
            (ap (λ x. let f : End = record { read = length mine.connection.written; seen = length agreed; put = put_to usual_limits (past_of usual_limits agreed) x; is_open = true } in f)
            (sym grown.name)))

-- ---- it opens a connection

-- none of them has a connection of this name
abbrev pub IsFreshAlone : ConnectionName → List Alone → Type 0
IsFreshAlone x = Each (λ (a : Alone). any_named (same_connection x) a.connections ≡ false)

pub named_untaken : (test : ConnectionName → Bool) (connections : List ClientConnection) → any_named test (map untaken_connection connections) ≡ any_named test connections
named_untaken test [] = refl
named_untaken test (κ ∷ connections) = ap (λ b. test κ.name || b) (named_untaken test connections)

pub opens_beside : {cs : List Client} {agreed : List Command} {clients : List Alone} → ClientsAreApart cs → (b : Beside cs agreed clients) (i : ℕ) (keeper : Keeper)
    (connections : List ClientConnection) (x : ConnectionName) → slice_get clients i ≡ Some (alone keeper connections) → IsFreshAlone x clients
    → Beside cs agreed (set clients i (alone (record (lost keeper) { is_open = true }) (new_connection keeper.client x ∷ connections)))
opens_beside {cs = cs} {agreed = agreed} {clients = clients} apart b i keeper connections x at fresh =
    by (map_back ends_alone b.world.clients i (alone keeper connections) (ap (λ l. slice_get l i) b.same ∙ at))
  where
    none : IsFresh x b.world.clients
    none =
        each_then (λ (c : ClientEnds). any_named (same_connection x) (map untaken_connection c.connections) ≡ false) (λ (c : ClientEnds). any_named (same_connection x) c.connections ≡ false)
        b.world.clients (λ c e. sym (named_untaken (same_connection x) c.connections) ∙ e)
        (each_made ends_alone (λ (a : Alone). any_named (same_connection x) a.connections ≡ false) b.world.clients (subst (IsFreshAlone x) (sym b.same) fresh))

    by : (d : ClientEnds) × (slice_get b.world.clients i ≡ Some d) × (ends_alone d ≡ alone keeper connections)
        → Beside cs agreed (set clients i (alone (record (lost keeper) { is_open = true }) (new_connection keeper.client x ∷ connections)))
    by (d, there, is) =
        let later : ClientEnds = after_opening x (length agreed) d in
        let κ : ClientConnection = new_connection d.keeper.client x in
        let ends = each_get (IsFull agreed) b.world.clients i d b.full there in
        let now = goes_on b.reached (opens i d x (length agreed) there none (let same = ap length b.is in omega (arith, same))) in
        let held = reached_holds cs (with_client i later b.world) apart now in
        let pipes = each_get (HasPipes b.world.agreed) (set b.world.clients i later) i later held.pipes (get_of_set b.world.clients i d later there) in
        let one = pipe_at b.world.agreed later.connections later.ends 0 κ (new_end (length agreed)) pipes refl refl in
        let silent : [] ≡ put_to usual_limits (past_of usual_limits agreed) x =
        one.shown ∙ ap (λ l. put_to usual_limits (past_of usual_limits (take (length agreed) l)) x) b.is
        ∙ ap (λ l. put_to usual_limits (past_of usual_limits l) x) (take_whole agreed) in
        subst (λ a. Beside cs agreed (set clients i a))
        (same_alone (alone later.keeper later.connections) (alone (record (lost keeper) { is_open = true }) (new_connection keeper.client x ∷ connections))
        (ap (λ (a : Alone). let k : Keeper = record (lost a.keeper) { is_open = true } in k) is)
        (ap₂ (λ (k : Keeper) l. untaken_connection (new_connection k.client x) ∷ l) (ap (λ (a : Alone). a.keeper) is) (ap (λ (a : Alone). a.connections) is)))
        (writes_beside b i d later.keeper κ d.connections (new_end (length agreed)) there
        (subst (λ l. Reached cs (with_client i (record { keeper = later.keeper; connections = later.connections; ends = new_end (length agreed) ∷ l }) b.world)) ends now)
        refl (omega arith)
        (ap (λ l. let f : End = record { read = length κ.written; seen = length agreed; put = l; is_open = true } in f) silent))
