-- The answers to a connection grow with the list, and there are none before a packet of it is
-- there.
use Rattle.std.proofs.Common.{◌≡◌, ◌≤◌, ◌+◌, suc, Bool, true, false, if◌then◌else◌, List, [], ◌∷◌, ◌++◌, length, filter, refl, ap, ap₂, sym, ◌∙◌, subst, arith, inl, inr}
use Rattle.packet.specs.declared.packet.Packet.{Packet}
use Rattle.broker_spec.specs.Connection.{ConnectionName, same_connection}
use Rattle.broker_spec.specs.Place.{Past, Limits}
use Rattle.broker_spec.specs.Commands.{place_of, past_from, past_of}
use Rattle.broker_spec.specs.AnswersInOrder.{answers_of}
use Rattle.broker_spec.specs.declared.command.Command.{Command}
use Rattle.broker_spec.specs.declared.command.Output.{Output}
use Rattle.broker_spec.specs.declared.command.Output.TheVariants.{Send, Close}
use Rattle.broker_spec.proofs.ConnectionNames.{same_name, same_itself}
use Rattle.broker_spec.proofs.SentToLive.{SentAt, sent_at}
use Rattle.lists.specs.Lists.{In, IsPrefixOf}
use Rattle.lists.specs.Lists.In.{here, there}
use Rattle.lists.proofs.Prefixes.{prefix_same, prefix_then}
use Rattle.exactly_once.specs.Sends.{sends_to, put_to}
use Rattle.exactly_once.specs.StoryCommands.{packet_count, is_packet_of}
use Rattle.exactly_once.proofs.places.Counts.{counted_here, current_counted}

-- ---- one more command

past_joined : (limits : Limits) (past : Past) (xs ys : List Command) → past_from limits past (xs ++ ys) ≡ past_from limits (past_from limits past xs) ys
unfolding past_from
past_joined limits past [] ys = refl
past_joined limits past (x ∷ xs) ys = past_joined limits (place_of limits past x ∷ past) xs ys

one_from : (limits : Limits) (past : Past) (command : Command) → past_from limits past (command ∷ []) ≡ place_of limits past command ∷ past
unfolding past_from
one_from limits past command = refl

pub past_push : (limits : Limits) (xs : List Command) (command : Command) → past_of limits (xs ++ command ∷ []) ≡ place_of limits (past_of limits xs) command ∷ past_of limits xs
past_push limits xs command = past_joined limits [] xs (command ∷ []) ∙ one_from limits (past_of limits xs) command

pub put_place : (limits : Limits) (past : Past) (command : Command) (x : ConnectionName)
    → put_to limits (place_of limits past command ∷ past) x ≡ put_to limits past x ++ sends_to x (answers_of limits past command)
unfolding put_to
put_place limits past command x = refl

-- the answers at one more place come after
pub put_push : (limits : Limits) (xs : List Command) (command : Command) (x : ConnectionName)
    → put_to limits (past_of limits (xs ++ command ∷ [])) x ≡ put_to limits (past_of limits xs) x ++ sends_to x (answers_of limits (past_of limits xs) command)
put_push limits xs command x = ap (λ past. put_to limits past x) (past_push limits xs command) ∙ put_place limits (past_of limits xs) command x

put_from : (limits : Limits) (past : Past) (ys : List Command) (x : ConnectionName) → IsPrefixOf (put_to limits past x) (put_to limits (past_from limits past ys) x)
unfolding past_from
put_from limits past [] x = prefix_same (put_to limits past x)
put_from limits past (y ∷ ys) x =
    prefix_then (record { rest = sends_to x (answers_of limits past y); is = put_place limits past y x }) (put_from limits (place_of limits past y ∷ past) ys x)

-- those to a prefix of a list are a prefix of those to the whole
pub put_front : (limits : Limits) (xs ys : List Command) (x : ConnectionName) → IsPrefixOf xs ys → IsPrefixOf (put_to limits (past_of limits xs) x) (put_to limits (past_of limits ys) x)
put_front limits xs ys x front =
    subst (λ (past : Past). IsPrefixOf (put_to limits (past_of limits xs) x) (put_to limits past x))
    (sym (ap (past_of limits) front.is ∙ past_joined limits [] xs front.rest)) (put_from limits (past_of limits xs) front.rest x)

-- ---- packets of a connection

abbrev pub of_name : ConnectionName → Command → Bool
of_name x command = is_packet_of command x

count_from : (limits : Limits) (x : ConnectionName) (past : Past) (xs : List Command) → packet_count x (past_from limits past xs) ≡ packet_count x past + length (filter (of_name x) xs)
unfolding past_from
count_from limits x past [] = omega arith
count_from limits x past (command ∷ xs) = by (is_packet_of command x) refl (count_from limits x (place_of limits past command ∷ past) xs)
  where
    by : (b : Bool) → is_packet_of command x ≡ b → packet_count x (past_from limits (place_of limits past command ∷ past) xs) ≡ packet_count x (place_of limits past command ∷ past) + length (filter (of_name x) xs)
        → packet_count x (past_from limits (place_of limits past command ∷ past) xs) ≡ packet_count x past + length (if b then command ∷ filter (of_name x) xs else filter (of_name x) xs)
    by true e ih =
        let one : packet_count x (place_of limits past command ∷ past) ≡ suc (packet_count x past) = ap (λ b. if b then suc (packet_count x past) else packet_count x past) e in
        omega (arith, ih, one)
    by false e ih =
        let none : packet_count x (place_of limits past command ∷ past) ≡ packet_count x past = ap (λ b. if b then suc (packet_count x past) else packet_count x past) e in
        omega (arith, ih, none)

-- they are counted as they are in the list
pub counted_in : (limits : Limits) (x : ConnectionName) (xs : List Command) → packet_count x (past_of limits xs) ≡ length (filter (of_name x) xs)
counted_in limits x xs = let c = count_from limits x [] xs in omega (arith, c)

-- ---- nothing is sent to a connection of which no packet is in the list

in_sent : (x : ConnectionName) (p : Packet) (outputs : List Output) → In p (sends_to x outputs) → In (Send x p) outputs
in_sent x p [] i = elim i [ ]
in_sent x p (Close y ∷ outputs) i = there (in_sent x p outputs i)
in_sent x p (Send y q ∷ outputs) i = by (same_connection x y) refl i (in_sent x p outputs)
  where
    by : (b : Bool) → same_connection x y ≡ b → In p (if b then q ∷ sends_to x outputs else sends_to x outputs) → (In p (sends_to x outputs) → In (Send x p) outputs) → In (Send x p) (Send y q ∷ outputs)
    by false e j ih = there (ih j)
    by true e j ih = first p q j ih (same_name x y e)
      where
        first : (p q : Packet) → In p (q ∷ sends_to x outputs) → (In p (sends_to x outputs) → In (Send x p) outputs) → x ≡ y → In (Send x p) (Send y q ∷ outputs)
        first p q here ih same = subst (λ (z : ConnectionName). In (Send x p) (Send z p ∷ outputs)) same here
        first p q (there k) ih same = there (ih k)

none_of : {X : Type 0} (xs : List X) → ((x : X) → In x xs → ⊥) → xs ≡ []
none_of [] h = refl
none_of (x ∷ xs) h = absurd (h x here)

-- at a place below which, and at which, there is no packet of it
none_sent : (limits : Limits) (past : Past) (command : Command) (x : ConnectionName) → packet_count x (place_of limits past command ∷ past) ≡ 0 → sends_to x (answers_of limits past command) ≡ []
none_sent limits past command x none = none_of (sends_to x (answers_of limits past command)) (λ p i. by (sent_at limits past command x p (in_sent x p (answers_of limits past command) i)))
  where
    still : packet_count x past ≤ packet_count x (place_of limits past command ∷ past)
    still = by_test (is_packet_of command x)
      where
        by_test : (b : Bool) → packet_count x past ≤ (if b then suc (packet_count x past) else packet_count x past)
        by_test true = omega arith
        by_test false = omega arith

    by : SentAt past (place_of limits past command) x → ⊥
    by (inl (c, clean, e)) =
        let some = counted_here x (place_of limits past command) past (ap (λ k. is_packet_of k x) e ∙ same_itself x) in
        omega (arith, some, none)
    by (inr (d, current, quiet)) =
        let some = current_counted past d x current in
        let more = still in
        omega (arith, some, none, more)

nothing_from : (limits : Limits) (past : Past) (xs : List Command) (x : ConnectionName) → put_to limits past x ≡ [] → packet_count x (past_from limits past xs) ≡ 0 → put_to limits (past_from limits past xs) x ≡ []
unfolding past_from
nothing_from limits past [] x e none = e
nothing_from limits past (command ∷ xs) x e none =
    let sum = count_from limits x (place_of limits past command ∷ past) xs in
    let here : packet_count x (place_of limits past command ∷ past) ≡ 0 = omega (arith, sum, none) in
    nothing_from limits (place_of limits past command ∷ past) xs x
    (put_place limits past command x ∙ ap₂ (λ a b. a ++ b) e (none_sent limits past command x here)) none

empty_put : (limits : Limits) (x : ConnectionName) → put_to limits [] x ≡ []
unfolding put_to
empty_put limits x = refl

pub nothing_put : (limits : Limits) (xs : List Command) (x : ConnectionName) → packet_count x (past_of limits xs) ≡ 0 → put_to limits (past_of limits xs) x ≡ []
nothing_put limits xs x none = nothing_from limits [] xs x (empty_put limits x) none
