-- A name has one Connect at most, if one more command is agreed.
use Rattle.std.proofs.Common.{◌≡◌, ◌≤◌, ◌+◌, ℕ, zero, suc, Bool, true, false, if◌then◌else◌, List, [], ◌∷◌, ◌++◌, filter, refl, ap, ap₂, sym, ◌∙◌, subst, arith}
use Rattle.std.proofs.lemmas.Bool.{both_ways}
use Rattle.packet.specs.declared.packet.Packet.{Packet}
use Rattle.packet.specs.declared.packet.Packet.TheVariants as packets
use Rattle.broker_spec.specs.Connection.{ConnectionName, same_connection}
use Rattle.broker_spec.specs.Place.{Past}
use Rattle.broker_spec.specs.Commands.{place_of, past_of, usual_limits}
use Rattle.broker_spec.specs.EndingTheorems.{is_connect_of, connects_of}
use Rattle.broker_spec.specs.declared.command.Command.{Command}
use Rattle.broker_spec.specs.declared.command.Command.TheVariants as commands
use Rattle.broker_spec.proofs.ConnectionNames.{same_name, same_itself}
use Rattle.exactly_once.specs.StoryCommands.{is_packet_of, packet_count, command_of}
use Rattle.headline.proofs.of_packet_world.Lists.{filter_push}
use Rattle.headline.proofs.of_packet_world.Answers.{of_name, past_push}
use Rattle.headline.proofs.of_packet_world.EndsAgreed.{command_is_of}
use Rattle.headline.proofs.of_packet_world.Holds.{IsOnce}

pub none_more : (x : ConnectionName) (agreed : List Command) (command : Command) → filter (of_name x) agreed ≡ [] → is_packet_of command x ≡ false → filter (of_name x) (agreed ++ command ∷ []) ≡ []
none_more x agreed command e none = filter_push (of_name x) agreed command ∙ ap₂ (λ l b. l ++ (if b then command ∷ [] else [])) e none

no_connect : (x : ConnectionName) (command : Command) → is_packet_of command x ≡ false → is_connect_of x command ≡ true → ⊥
no_connect x (commands.Connect y c clean) none e =
    both_ways (same_connection y x) none (ap (λ z. same_connection y z) (same_name x y e) ∙ same_itself y)
no_connect x (commands.Packet y packet) none e = both_ways false refl e
no_connect x (commands.Lost y) none e = both_ways false refl e
no_connect x (commands.Start b) none e = both_ways false refl e
no_connect x (commands.Expel d) none e = both_ways false refl e

-- a name whose command it is not
pub once_other : (past : Past) (command : Command) (x : ConnectionName) → is_packet_of command x ≡ false → IsOnce past x → IsOnce (place_of usual_limits past command ∷ past) x
once_other past command x none o =
    let few = o.1 in
    let counts : packet_count x (place_of usual_limits past command ∷ past) ≡ packet_count x past = ap (λ b. if b then suc (packet_count x past) else packet_count x past) none in
    (λ e. by (is_connect_of x command) refl (o.0 (sym counts ∙ e)), less (is_connect_of x command) refl few)
  where
    by : (b : Bool) → is_connect_of x command ≡ b → connects_of x past ≡ 0 → (if b then 1 else 0) + connects_of x past ≡ 0
    by true e none' = absurd (no_connect x command none e)
    by false e none' = omega (arith, none')

    less : (b : Bool) → is_connect_of x command ≡ b → connects_of x past ≤ 1 → (if b then 1 else 0) + connects_of x past ≤ 1
    less true e few = absurd (no_connect x command none e)
    less false e few = omega (arith, few)

later_connect : (x y : ConnectionName) (n : ℕ) (packet : Packet) → is_connect_of x (command_of y (suc n) packet) ≡ false
later_connect x y n (packets.Connect q) = refl
later_connect x y n _ = refl

-- the name whose command it is, if this many of it are there
pub once_own : (past : Past) (x : ConnectionName) (n : ℕ) (packet : Packet) → packet_count x past ≡ n → IsOnce past x → IsOnce (place_of usual_limits past (command_of x n packet) ∷ past) x
once_own past x n packet counted o =
    let mine : is_packet_of (command_of x n packet) x ≡ true = command_is_of x x n packet ∙ same_itself x in
    let counts : packet_count x (place_of usual_limits past (command_of x n packet) ∷ past) ≡ suc (packet_count x past) = ap (λ b. if b then suc (packet_count x past) else packet_count x past) mine in
    (λ e. absurd (never (packet_count x past) (sym counts ∙ e)), less n counted)
  where
    never : (k : ℕ) → suc k ≡ 0 → ⊥
    never k e = cc

    first : (b : Bool) → connects_of x past ≡ 0 → (if b then 1 else 0) + connects_of x past ≤ 1
    first true none = omega (arith, none)
    first false none = omega (arith, none)

    less : (m : ℕ) → packet_count x past ≡ m → (if is_connect_of x (command_of x m packet) then 1 else 0) + connects_of x past ≤ 1
    less zero e = first (is_connect_of x (command_of x zero packet)) (o.0 e)
    less (suc m) e =
        let few = o.1 in
        subst (λ (b : Bool). (if b then 1 else 0) + connects_of x past ≤ 1) (sym (later_connect x x m packet)) (omega (arith, few))

pub once_longer : (agreed : List Command) (command : Command) (x : ConnectionName) → IsOnce (place_of usual_limits (past_of usual_limits agreed) command ∷ past_of usual_limits agreed) x
    → IsOnce (past_of usual_limits (agreed ++ command ∷ [])) x
once_longer agreed command x o = subst (λ (past : Past). IsOnce past x) (sym (past_push usual_limits agreed command)) o
