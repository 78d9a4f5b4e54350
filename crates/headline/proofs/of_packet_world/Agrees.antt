-- What every world keeps, if one more command is agreed.
use Rattle.std.proofs.Common.{◌≡◌, ◌<◌, ℕ, zero, suc, Bool, true, false, ◌||◌, List, [], ◌∷◌, ◌++◌, set, Some, refl, ap, ap₂, sym, ◌∙◌, subst, inl, inr, ◌⊎◌}
use Rattle.std.specs.Prelude.{slice_get}
use Rattle.std.proofs.lemmas.Bool.{both_ways, cases_Bool}
use Rattle.packet.specs.declared.packet.Packet.{Packet}
use Rattle.packet.specs.declared.packet.Packet.TheVariants as packets
use Rattle.broker_spec.specs.Connection.{ConnectionName, same_connection}
use Rattle.broker_spec.specs.Place.{Client, Past, Limits}
use Rattle.broker_spec.specs.Commands.{place_of, past_of, usual_limits}
use Rattle.broker_spec.specs.declared.command.Command.{Command}
use Rattle.broker_spec.specs.declared.command.Command.TheVariants as commands
use Rattle.broker_spec.proofs.ConnectionNames.{same_name}
use Rattle.broker_spec.proofs.PacketOfNobody.{window_is_steady}
use Rattle.client_base.specs.Keeper.{Written}
use Rattle.client_base.specs.Connected.{opening_connect}
use Rattle.exactly_once.specs.Sides.{ClientConnection}
use Rattle.exactly_once.specs.Story.{Story}
use Rattle.exactly_once.specs.StoryCommands.{any_named, is_packet_of, with_one_counted, command_of, names_client}
use Rattle.exactly_once.specs.Lives.{Lived}
use Rattle.exactly_once.specs.Lives.Lived.{goes_on, is_expelled}
use Rattle.exactly_once.specs.Story.StoryStep.{takes, others_take}
use Rattle.exactly_once.proofs.sessions.Anew.{IsUntouched}
use Rattle.exactly_once.proofs.sessions.Life.{IsCounted, IsLife}
use Rattle.exactly_once.proofs.sessions.LivedIsLife.{lived_is_life}
use Rattle.broker_spec.specs.Place.{same_client}
use Rattle.broker_spec.proofs.ClientsInOrder.{same_is, same_self}
use Rattle.exactly_once.proofs.publishing.Last.{none_named, each_there, is_named}
use Rattle.exactly_once.proofs.publishing.kept.KeepsNames.{counted_named}
use Rattle.headline.specs.packet_world.World.{End, ClientEnds, PacketWorld, story_of, IsFresh}
use Rattle.headline.specs.packet_world.Steps.{is_of_connection, HasPipe}
use Rattle.headline.proofs.of_packet_world.Lists.{each_get, each_by, set_get}
use Rattle.headline.proofs.of_packet_world.Answers.{past_push}
use Rattle.headline.proofs.of_packet_world.EndsAgreed.{others_agreed, one_agreed, command_is_of}
use Rattle.headline.proofs.of_packet_world.Parted.{Parted, IsSameParty, is_named_by, same_parted, fresh_before}
use Rattle.headline.proofs.of_packet_world.Holds.{IsTold, HasPipes, IsOnce, Holds}
use Rattle.headline.proofs.of_packet_world.OneConnect.{none_more, once_other, once_own, once_longer}

-- a story that continued by one place is the story of the longer list
pub told_longer : (agreed : List Command) (command : Command) (c : ClientEnds) (d : Client)
    → Lived usual_limits d (let s : Story = record { past = place_of usual_limits (past_of usual_limits agreed) command ∷ past_of usual_limits agreed; connections = c.connections; keeper = c.keeper } in s)
    → Lived usual_limits d (story_of (agreed ++ command ∷ []) c)
told_longer agreed command c d told =
    subst (λ (past : Past). Lived usual_limits d (let s : Story = record { past = past; connections = c.connections; keeper = c.keeper } in s)) (sym (past_push usual_limits agreed command)) told

-- ---- the story of a client whose command it is not

pub others_told : (agreed : List Command) (command : Command) (c : ClientEnds) → IsTold agreed c → (names_client (past_of usual_limits agreed) c.keeper.client command → ⊥) → any_named (is_packet_of command) c.connections ≡ false
    → IsTold (agreed ++ command ∷ []) c
others_told agreed command c told not none = told_longer agreed command c c.keeper.client (goes_on told (others_take command not none))

pub others_hold : (agreed : List Command) (command : Command) (c : ClientEnds) → HasPipes agreed c → any_named (is_packet_of command) c.connections ≡ false → HasPipes (agreed ++ command ∷ []) c
others_hold agreed command c pipes none = others_agreed agreed command c.connections c.ends (none_named (is_packet_of command) c.connections none) pipes

-- ---- a loss, or a start

else_of : (command : Command) (x : ConnectionName) → is_of_connection command ≡ false → is_packet_of command x ≡ false
else_of (commands.Connect y c clean) x e = absurd (both_ways true e refl)
else_of (commands.Packet y packet) x e = absurd (both_ways true e refl)
else_of (commands.Lost y) x e = refl
else_of (commands.Start b) x e = refl
else_of (commands.Expel d) x e = refl

else_named : (command : Command) (connections : List ClientConnection) → is_of_connection command ≡ false → any_named (is_packet_of command) connections ≡ false
else_named command [] e = refl
else_named command (κ ∷ connections) e = ap₂ (λ a b. a || b) (else_of command κ.name e) (else_named command connections e)

-- an Expel of the client itself belongs to its life, and any other command is not its own
else_told : (agreed : List Command) (command : Command) (c : ClientEnds) → IsTold agreed c → is_of_connection command ≡ false → any_named (is_packet_of command) c.connections ≡ false → IsTold (agreed ++ command ∷ []) c
else_told agreed (commands.Connect y d clean) c told e none = absurd (both_ways true e refl)
else_told agreed (commands.Packet y packet) c told e none = absurd (both_ways true e refl)
else_told agreed (commands.Lost y) c told e none = others_told agreed (commands.Lost y) c told (λ n. n) none
else_told agreed (commands.Start b) c told e none = others_told agreed (commands.Start b) c told (λ n. n) none
else_told agreed (commands.Expel d) c told e none = by (cases_Bool (same_client d c.keeper.client))
  where
    by : (same_client d c.keeper.client ≡ true) ⊎ (same_client d c.keeper.client ≡ false) → IsTold (agreed ++ commands.Expel d ∷ []) c
    by (inl same) =
        subst (λ (k : Client). IsTold (agreed ++ commands.Expel k ∷ []) c) (sym (same_is d c.keeper.client same))
        (told_longer agreed (commands.Expel c.keeper.client) c c.keeper.client (is_expelled told))
    by (inr other) =
        others_told agreed (commands.Expel d) c told
        (λ n. both_ways (same_client d c.keeper.client) other (ap (λ k. same_client k c.keeper.client) n.0 ∙ same_self c.keeper.client)) none

pub keeps_else : (w : PacketWorld) (command : Command) → Holds w → is_of_connection command ≡ false → Holds (record w { agreed = w.agreed ++ command ∷ [] })
keeps_else w command h e =
    record {
      told = each_by (IsTold (w.agreed ++ command ∷ [])) w.clients (λ k c there'. else_told w.agreed command c (each_get (IsTold w.agreed) w.clients k c h.told there') e
          (else_named command c.connections e));
      pipes = each_by (HasPipes (w.agreed ++ command ∷ [])) w.clients (λ k c there'. others_hold w.agreed command c (each_get (HasPipes w.agreed) w.clients k c h.pipes there')
          (else_named command c.connections e));
      apart = h.apart;
      fresh = λ x f. none_more x w.agreed command (h.fresh x f) (else_of command x e);
      once = λ x. once_longer w.agreed command x (once_other (past_of usual_limits w.agreed) command x (else_of command x e) (h.once x));
    }

-- ---- the next packet of a connection

no_client : (past : Past) (c : Client) (x : ConnectionName) (n : ℕ) (packet : Packet) → names_client past c (command_of x (suc n) packet) → ⊥
no_client past c x n (packets.Connect q) h = h
no_client past c x n _ h = h

-- it is no Connect of another client
not_theirs : (c d : Client) (κ : ClientConnection) (v : Written) (limits : Limits) (past : Past) → (κ.taken ≡ 0 → IsUntouched limits past c κ) → slice_get κ.written κ.taken ≡ Some v → (c ≡ d → ⊥)
    → names_client past d (command_of κ.name κ.taken v.packet) → ⊥
not_theirs c d κ v limits past untouched next other = by κ.taken refl
  where
    by : (n : ℕ) → κ.taken ≡ n → names_client past d (command_of κ.name n v.packet) → ⊥
    by zero e =
        let first : Some (opening_connect c) ≡ Some v = sym (ap (λ (z : ClientConnection). slice_get z.written z.taken) (untouched e).is) ∙ next in
        let same : opening_connect c ≡ v = cc in
        subst (λ (z : Written). names_client past d (command_of κ.name 0 z.packet) → ⊥) same other
    by (suc n) e = no_client past d κ.name n v.packet

pub keeps_agreed : (w : PacketWorld) (i j : ℕ) (c : ClientEnds) (κ : ClientConnection) (e : End) (v : Written) → Holds w → HasPipe w i c j κ e → κ.taken < e.read → slice_get κ.written κ.taken ≡ Some v
    → Holds (record {
      agreed = w.agreed ++ command_of κ.name κ.taken v.packet ∷ [];
      clients = set w.clients i (record c { connections = with_one_counted j c.connections });
    })
keeps_agreed w i j c κ e v h pipe less next =
    record {
      told = each_by (IsTold (w.agreed ++ command ∷ [])) (set w.clients i later) (λ k d at. by_told k d (set_get w.clients i k c later d pipe.client at));
      pipes = each_by (HasPipes (w.agreed ++ command ∷ [])) (set w.clients i later) (λ k d at. by_pipes k d (set_get w.clients i k c later d pipe.client at));
      apart = same_parted w.clients i c later h.apart pipe.client same;
      fresh = λ x f. none_more x w.agreed command (h.fresh x (before x f)) (other_name x (before x f));
      once = λ x. once_longer w.agreed command x (by_once x (cases_Bool (same_connection κ.name x)));
    }
  where
    command : Command
    command = command_of κ.name κ.taken v.packet

    later : ClientEnds
    later = record c { connections = with_one_counted j c.connections }

    past : Past
    past = past_of usual_limits w.agreed

    told : IsTold w.agreed c
    told = each_get (IsTold w.agreed) w.clients i c h.told pipe.client

    life : IsLife usual_limits c.keeper.client (story_of w.agreed c)
    life = lived_is_life usual_limits c.keeper.client (story_of w.agreed c) told

    untouched : κ.taken ≡ 0 → IsUntouched usual_limits past c.keeper.client κ
    untouched = each_there (λ (μ : ClientConnection). μ.taken ≡ 0 → IsUntouched usual_limits past c.keeper.client μ) j c.connections κ pipe.connection life.connections.untouched

    counted : IsCounted past κ
    counted = each_there (IsCounted past) j c.connections κ pipe.connection life.connections.counted

    same : IsSameParty c later
    same = record { client = refl; names = λ test. counted_named test j c.connections }

    named : is_named_by κ.name c ≡ true
    named = is_named j c.connections κ pipe.connection

    before : (x : ConnectionName) → IsFresh x (set w.clients i later) → IsFresh x w.clients
    before x f = fresh_before x w.clients i c later pipe.client (λ none. sym (same.names (same_connection x)) ∙ none) f

    other_name : (x : ConnectionName) → IsFresh x w.clients → is_packet_of command x ≡ false
    other_name x f = command_is_of κ.name x κ.taken v.packet ∙ by (cases_Bool (same_connection κ.name x))
      where
        by : (same_connection κ.name x ≡ true) ⊎ (same_connection κ.name x ≡ false) → same_connection κ.name x ≡ false
        by (inr n) = n
        by (inl s) =
            let none = each_get (λ (z : ClientEnds). is_named_by x z ≡ false) w.clients i c f pipe.client in
            absurd (both_ways (is_named_by x c) none (subst (λ (z : ConnectionName). is_named_by z c ≡ true) (same_name κ.name x s) named))

    -- no other client has it
    theirs : (k : ℕ) (d : ClientEnds) → (k ≡ i → ⊥) → slice_get w.clients k ≡ Some d → Parted c d
    theirs k d other at = h.apart i k c d pipe.client at (λ s. other (sym s))

    unnamed : (k : ℕ) (d : ClientEnds) → (k ≡ i → ⊥) → slice_get w.clients k ≡ Some d → any_named (is_packet_of command) d.connections ≡ false
    unnamed k d other at =
        ap (λ (test : ConnectionName → Bool). any_named test d.connections) (λ n y. command_is_of κ.name y κ.taken v.packet n)
        ∙ (theirs k d other at).names κ.name named

    by_told : (k : ℕ) (d : ClientEnds) → ((k ≡ i) × (later ≡ d)) ⊎ ((k ≡ i → ⊥) × (slice_get w.clients k ≡ Some d)) → IsTold (w.agreed ++ command ∷ []) d
    by_told k d (inl (s, is)) =
        subst (IsTold (w.agreed ++ command ∷ [])) is
        (told_longer w.agreed command later c.keeper.client (goes_on told (takes j κ v pipe.connection next)))
    by_told k d (inr (other, at)) =
        others_told w.agreed command d (each_get (IsTold w.agreed) w.clients k d h.told at)
        (not_theirs c.keeper.client d.keeper.client κ v usual_limits past untouched next (theirs k d other at).ids) (unnamed k d other at)

    by_pipes : (k : ℕ) (d : ClientEnds) → ((k ≡ i) × (later ≡ d)) ⊎ ((k ≡ i → ⊥) × (slice_get w.clients k ≡ Some d)) → HasPipes (w.agreed ++ command ∷ []) d
    by_pipes k d (inl (s, is)) =
        subst (HasPipes (w.agreed ++ command ∷ [])) is
        (one_agreed w.agreed c.connections c.ends j κ e v life.connections.names (each_get (HasPipes w.agreed) w.clients i c h.pipes pipe.client) pipe.connection pipe.end less next)
    by_pipes k d (inr (other, at)) = others_hold w.agreed command d (each_get (HasPipes w.agreed) w.clients k d h.pipes at) (unnamed k d other at)

    by_once : (x : ConnectionName) → (same_connection κ.name x ≡ true) ⊎ (same_connection κ.name x ≡ false) → IsOnce (place_of usual_limits past command ∷ past) x
    by_once x (inr n) = once_other past command x (command_is_of κ.name x κ.taken v.packet ∙ n) (h.once x)
    by_once x (inl s) = subst (λ (z : ConnectionName). IsOnce (place_of usual_limits past command ∷ past) z) (same_name κ.name x s) (once_own past κ.name κ.taken v.packet counted.counted (h.once κ.name))
