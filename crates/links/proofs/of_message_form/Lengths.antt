-- How long commands are, and messages without a log.
use Rattle.std.proofs.Common.{◌≡◌, ℕ, suc, ◌+◌, ◌≤◌, ◌<◌, ◌^◌, false, List, [], ◌∷◌, ◌++◌, length, refl, arith}
use Rattle.std.proofs.lemmas.List.{length-append}
use Rattle.packet_base.specs.Spelling.{text, bit, remaining_length}
use Rattle.packet_base.proofs.LengthForms.{short_form, length_spelled}
use Rattle.packet_base.proofs.Clients.{client_short}
use Rattle.packet.specs.declared.packet.Packet.{Packet}
use Rattle.packet.specs.Spelling.{body, spelling, max_body}
use Rattle.broker_spec.specs.Connection.{ConnectionName}
use Rattle.broker_spec.specs.declared.command.Command.{Command}
use Rattle.broker_spec.specs.declared.command.Command.TheVariants as commands
use Rattle.ballot_base.specs.declared.message.Body.{Body}
use Rattle.ballot_base.specs.declared.message.Body.TheVariants as bodies
use Rattle.links.specs.message_form.Numbers.{wide_number}
use Rattle.links.specs.message_form.Commands.{name_bytes, command_bytes, IsCommand}
use Rattle.links.specs.message_form.Messages.{members_bytes, body_bytes, AreCounted, IsBody}
use Rattle.links.specs.message_form.Theorems.{has_log, OthersAreShort}

wide_len : (n : ℕ) → length (wide_number n) ≡ 8
wide_len n = refl

name_len : (x : ConnectionName) → length (name_bytes x) ≡ 16
name_len x = let e = length-append (wide_number x.ballot) (wide_number x.count) in omega (arith, e, wide_len x.ballot, wide_len x.count)

text_len : (client : List ℕ) → length (text client) ≡ suc (suc (length client))
text_len client = refl

packet_len : (packet : Packet) → length (body packet) ≤ max_body → length (spelling packet) ≤ 2 ^ 20 + 1
unfolding spelling
packet_len packet small =
    let n = length (body packet) in
    let few : length (remaining_length n) ≤ 4 = short_form (remaining_length n) n (length_spelled n (omega (arith, small))) (omega (arith, small)) in
    let e = length-append (remaining_length n) (body packet) in
    let goal : suc (length (remaining_length n ++ body packet)) ≤ 2 ^ 20 + 1 = omega (arith, few, e, small) in goal

command_small : (command : Command) → IsCommand command → length (command_bytes command) < 2 ^ 20 + 2 ^ 10
command_small (commands.Connect name client clean) h =
    let a = length-append (name_bytes name) (text client ++ bit clean ∷ []) in
    let b = length-append (text client) (bit clean ∷ []) in
    let goal : suc (length (name_bytes name ++ (text client ++ bit clean ∷ []))) < 2 ^ 20 + 2 ^ 10 = omega (arith, a, b, name_len name, text_len client, client_short client h.1) in goal
command_small (commands.Packet name packet) h =
    let a = length-append (name_bytes name) (spelling packet) in
    let goal : suc (length (name_bytes name ++ spelling packet)) < 2 ^ 20 + 2 ^ 10 = omega (arith, a, name_len name, packet_len packet h.2.1) in goal
command_small (commands.Lost name) h = let goal : suc (length (name_bytes name)) < 2 ^ 20 + 2 ^ 10 = omega (arith, name_len name) in goal
command_small (commands.Start ballot) h = let goal : suc (length (wide_number ballot)) < 2 ^ 20 + 2 ^ 10 = omega (arith, wide_len ballot) in goal
command_small (commands.Expel client) h = let goal : suc (length (text client)) < 2 ^ 20 + 2 ^ 10 = omega (arith, text_len client, client_short client h) in goal

-- so its length fits four bytes
pub command_short : (command : Command) → IsCommand command → length (command_bytes command) < 2 ^ 32
command_short command h = let small = command_small command h in omega (arith, small)

-- ---- messages

pair_len : (m n : ℕ) → length (wide_number m ++ wide_number n) ≡ 16
pair_len m n = let e = length-append (wide_number m) (wide_number n) in omega (arith, e, wide_len m, wide_len n)

members_len : (members : List ℕ) → AreCounted members → length (members_bytes members) ≤ 256
members_len members few = let goal : suc (length members) ≤ 256 = omega (arith, few) in goal

body_short : (body : Body Command) → IsBody body → has_log body ≡ false → length (body_bytes body) < 2 ^ 20 + 2 ^ 11
body_short (bodies.NewBallot ballot members previous others) h e =
    let a = length-append (wide_number ballot) (members_bytes members ++ (wide_number previous ++ members_bytes others)) in
    let b = length-append (members_bytes members) (wide_number previous ++ members_bytes others) in
    let c = length-append (wide_number previous) (members_bytes others) in
    omega (arith, a, b, c, wide_len ballot, wide_len previous, members_len members h.1, members_len others h.3)
body_short (bodies.Join ballot previous) h e = omega (arith, pair_len ballot previous)
body_short (bodies.State ballot log) h e = absurd cc
body_short (bodies.Install ballot log) h e = absurd cc
body_short (bodies.Installed ballot held) h e = omega (arith, pair_len ballot held)
body_short (bodies.Activate ballot) h e = omega (arith, wide_len ballot)
body_short (bodies.Activated ballot) h e = omega (arith, wide_len ballot)
body_short (bodies.Superseded ballot) h e = omega (arith, wide_len ballot)
body_short (bodies.Append ballot place command) h e =
    let a = length-append (wide_number ballot) (wide_number place ++ command_bytes command) in
    let b = length-append (wide_number place) (command_bytes command) in
    omega (arith, a, b, wide_len ballot, wide_len place, command_small command h.2)
body_short (bodies.Held ballot held) h e = omega (arith, pair_len ballot held)
body_short (bodies.Commit ballot held) h e = omega (arith, pair_len ballot held)

pub others_are_short : OthersAreShort
others_are_short message h e =
    let short = body_short message.body h.1 e in
    let goal : suc (suc (length (body_bytes message.body))) < 2 ^ 21 = omega (arith, short) in goal
