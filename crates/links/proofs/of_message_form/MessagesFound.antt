-- A message that was read is in its range, and its bytes are those that were read.
use Rattle.std.proofs.Common.{◌≡◌, ℕ, ◌+◌, ◌≤◌, ◌<◌, ◌^◌, true, eqb, List, [], ◌∷◌, ◌++◌, length, Result, Ok, Err, refl, sym, subst, arith, append_assoc}
use Rattle.std.specs.Prelude.{IfOk}
use Rattle.std.proofs.lemmas.Bool.{eqb-true}
use Rattle.packet_base.specs.declared.stop.Stop.{Stop}
use Rattle.packet_base.specs.Lists.{ItemAt}
use Rattle.packet_base.specs.Readers.{AreBytes, byte_at, front_at, ended}
use Rattle.packet_base.proofs.Steps.{then_if, seq_if, cond_if}
use Rattle.packet_base.proofs.FieldsFound.{Splits, Splits-then, Splits-all, byte_found, front_found, ended_found}
use Rattle.session_base.specs.Bytes.{long_number}
use Rattle.session_base.specs.Counted.{counted_bytes, counted_items_at}
use Rattle.session_base.specs.Form.{long_number_at}
use Rattle.session_base.proofs.Found.{IsFound, AreRead, counted_found, weaker}
use Rattle.session_base.proofs.Spelled.{IsSpelled, counted_spelled, long_spelled}
use Rattle.ballot_base.specs.Logs.{Log}
use Rattle.ballot_base.specs.declared.message.Body.{Body}
use Rattle.ballot_base.specs.declared.message.Body.TheVariants as bodies
use Rattle.ballot_base.specs.declared.message.Message.{Message}
use Rattle.broker_spec.specs.declared.command.Command.{Command}
use Rattle.links.specs.message_form.Numbers.{wide_number, wide_number_at, IsWide}
use Rattle.links.specs.message_form.Commands.{command_bytes, IsCommand}
use Rattle.links.specs.message_form.CommandReading.{command_at}
use Rattle.links.specs.message_form.Messages.{members_bytes, sized_command_bytes, log_bytes, kind_of, body_bytes, written, AreCounted, IsLog, IsBody, IsMessage}
use Rattle.links.specs.message_form.LogReading.{anything, members_at, whole_command, sized_command_at, most_after, log_at}
use Rattle.links.specs.message_form.MessageReading.{pair_at, new_ballot_at, ballot_log_at, append_at, single_as, pair_as, log_as, numbers_of_kind, body_of_kind, message_at, whole_message}
use Rattle.links.specs.message_form.Outcome.{faulted}
use Rattle.links.specs.message_form.Theorems.{ReadIsWritten}
use Rattle.links.proofs.of_message_form.CommandsFound.{Found, IsFoundSo, wide_found, command_found}

-- ---- members

members_found : IsFoundSo members_bytes AreCounted members_at
unfolding members_at
members_found given fits =
    let Q : List ℕ × List ℕ → Type 0 = Found members_bytes AreCounted given in
    then_if (byte_at given) _ (λ x. Splits given (x.0 ∷ []) x.1 × (x.0 < 256)) Q (byte_found given fits) (λ count a.
    weaker (front_at count.0 count.1) (λ x. Splits count.1 x.0 x.1 × (length x.0 ≡ count.0) × AreBytes x.0) Q (front_found count.0 count.1 a.0.left) (λ x b.
    let whole = Splits-then given (count.0 ∷ []) count.1 x.0 x.1 a.0 b.0 in
    let few : length x.0 ≤ 255 = (let n = b.1 in let small = a.1 in omega (arith, n, small)) in
    (subst (λ (n : ℕ). Splits given (n ∷ x.0) x.1) (sym b.1) whole, few)))

-- ---- logs

whole_found : (given : List ℕ) → AreBytes given → IfOk (whole_command given) (λ command. (given ≡ command_bytes command) × IsCommand command)
unfolding whole_command
whole_found given fits =
    let Q : Command → Type 0 = λ command. (given ≡ command_bytes command) × IsCommand command in
    then_if (command_at given) _ (Found command_bytes IsCommand given) Q (command_found given fits) (λ read h.
    seq_if (ended read.1) _ (read.1 ≡ []) Q (ended_found read.1) (λ none.
    (Splits-all given (command_bytes read.0) (subst (λ (z : List ℕ). Splits given (command_bytes read.0) z) none h.0), h.1)))

sized_found : IsFoundSo sized_command_bytes IsCommand sized_command_at
unfolding sized_command_at
sized_found given fits =
    let Q : Command × List ℕ → Type 0 = Found sized_command_bytes IsCommand given in
    then_if (long_number_at given) _ (λ x. Splits given (long_number x.0) x.1) Q (long_spelled given fits) (λ len a.
    then_if (front_at len.0 len.1) _ (λ x. Splits len.1 x.0 x.1 × (length x.0 ≡ len.0) × AreBytes x.0) Q (front_found len.0 len.1 a.left) (λ front b.
    then_if (whole_command front.0) _ (λ command. (front.0 ≡ command_bytes command) × IsCommand command) Q (whole_found front.0 b.2) (λ command c.
    let whole = Splits-then given (long_number len.0) len.1 front.0 front.1 a b.0 in
    let measured : Splits given (long_number (length front.0) ++ front.0) front.1 = subst (λ (n : ℕ). Splits given (long_number n ++ front.0) front.1) (sym b.1) whole in
    (subst (λ (z : List ℕ). Splits given (long_number (length z) ++ z) front.1) c.0 measured, c.1))))

-- two facts of one outcome
both_ok : {A : Type 0} (r : Result A Stop) (P Q : A → Type 0) → IfOk r P → IfOk r Q → IfOk r (λ x. P x × Q x)
both_ok (Ok x) P Q p q = (p, q)
both_ok (Err stop) P Q p q = tt

-- what is found is spelled so
spelled : {A : Type 0} (bytes : A → List ℕ) (P : A → Type 0) (item : ItemAt A) → IsFoundSo bytes P item → IsSpelled bytes item
spelled bytes P item found given fits = weaker (item given) (Found bytes P given) _ (found given fits) (λ x h. h.0)

-- and meets what it has to
meets : {A : Type 0} (bytes : A → List ℕ) (P : A → Type 0) (item : ItemAt A) → IsFoundSo bytes P item → IsFound item P
meets bytes P item found given fits = weaker (item given) (Found bytes P given) _ (found given fits) (λ x h. (h.1, h.0.left))

any_wide : IsFound wide_number_at (λ n. Unit {0})
any_wide given fits = weaker (wide_number_at given) (Found wide_number (λ n. n < 2 ^ 64) given) _ (wide_found given fits) (λ x h. (tt, h.0.left))

-- the commands of a log
listed_found : (most : ℕ) → IsFoundSo (counted_bytes wide_number sized_command_bytes) (AreRead anything IsCommand most) (counted_items_at wide_number_at anything sized_command_at most)
listed_found most given fits =
    let item = counted_items_at wide_number_at anything sized_command_at most given in
    let read = counted_found wide_number_at anything sized_command_at IsCommand most any_wide (meets sized_command_bytes IsCommand sized_command_at sized_found) given fits in
    let split = counted_spelled wide_number wide_number_at anything sized_command_bytes sized_command_at most
    (spelled wide_number (λ n. n < 2 ^ 64) wide_number_at wide_found) (spelled sized_command_bytes IsCommand sized_command_at sized_found) given fits in
    weaker item _ _ (both_ok item _ _ split read) (λ x h. (h.0, h.1.0))

log_found : IsFoundSo log_bytes IsLog log_at
unfolding log_at
log_found given fits =
    let Q : Log Command × List ℕ → Type 0 = Found log_bytes IsLog given in
    then_if (wide_number_at given) _ (Found wide_number (λ n. n < 2 ^ 64) given) Q (wide_found given fits) (λ base a.
    then_if (wide_number_at base.1) _ (Found wide_number (λ n. n < 2 ^ 64) base.1) Q (wide_found base.1 a.0.left) (λ len b.
    then_if (front_at len.0 len.1) _ (λ x. Splits len.1 x.0 x.1 × (length x.0 ≡ len.0) × AreBytes x.0) Q (front_found len.0 len.1 b.0.left) (λ snapshot c.
    then_if (counted_items_at wide_number_at anything sized_command_at (most_after base.0) snapshot.1) _
    (Found (counted_bytes wide_number sized_command_bytes) (AreRead anything IsCommand (most_after base.0)) snapshot.1) Q
    (listed_found (most_after base.0) snapshot.1 c.0.left) (λ rest d.
    let listed = counted_bytes wide_number sized_command_bytes rest.0 in
    let tail = Splits-then len.1 snapshot.0 snapshot.1 listed rest.1 c.0 d.0 in
    let sized = Splits-then base.1 (wide_number len.0) len.1 (snapshot.0 ++ listed) rest.1 b.0 tail in
    let measured : Splits base.1 (wide_number (length snapshot.0) ++ (snapshot.0 ++ listed)) rest.1 =
    subst (λ (n : ℕ). Splits base.1 (wide_number n ++ (snapshot.0 ++ listed)) rest.1) (sym c.1) sized in
    let whole = Splits-then given (wide_number base.0) base.1 (wide_number (length snapshot.0) ++ (snapshot.0 ++ listed)) rest.1 a.0 measured in
    let few = d.1.few in
    let low = a.1 in
    let places : base.0 + length rest.0 < 2 ^ 64 = omega (arith, few, low) in
    let snapshot_fits : length snapshot.0 < 2 ^ 64 = (let n = c.1 in let small = b.1 in omega (arith, n, small)) in
    (whole, record { places_fit = places; snapshot_fits = snapshot_fits; commands = d.1.each })))))

-- ---- bodies

-- a body of this kind, which meets what it has to, and its bytes are before the rest
abbrev BodyIs : ℕ → List ℕ → Body Command × List ℕ → Type 0
BodyIs kind given read = Splits given (body_bytes read.0) read.1 × (kind_of read.0 ≡ kind) × IsBody read.0

-- whatever is read is such a body
abbrev IsBodyOf : ℕ → ItemAt (Body Command) → Type 0
IsBodyOf kind item = (given : List ℕ) → AreBytes given → IfOk (item given) (BodyIs kind given)

-- two numbers that were read
abbrev PairIs : List ℕ → (ℕ × ℕ) × List ℕ → Type 0
PairIs given read = Splits given (wide_number read.0.0 ++ wide_number read.0.1) read.1 × IsWide read.0.0 × IsWide read.0.1

pair_found : (given : List ℕ) → AreBytes given → IfOk (pair_at given) (PairIs given)
unfolding pair_at
pair_found given fits =
    let Q : (ℕ × ℕ) × List ℕ → Type 0 = PairIs given in
    then_if (wide_number_at given) _ (Found wide_number (λ n. n < 2 ^ 64) given) Q (wide_found given fits) (λ first a.
    then_if (wide_number_at first.1) _ (Found wide_number (λ n. n < 2 ^ 64) first.1) Q (wide_found first.1 a.0.left) (λ second b.
    (Splits-then given (wide_number first.0) first.1 (wide_number second.0) second.1 a.0 b.0, a.1, b.1)))

-- a ballot and a log that were read
abbrev BallotLogIs : List ℕ → (ℕ × Log Command) × List ℕ → Type 0
BallotLogIs given read = Splits given (wide_number read.0.0 ++ log_bytes read.0.1) read.1 × IsWide read.0.0 × IsLog read.0.1

ballot_log_found : (given : List ℕ) → AreBytes given → IfOk (ballot_log_at given) (BallotLogIs given)
unfolding ballot_log_at
ballot_log_found given fits =
    let Q : (ℕ × Log Command) × List ℕ → Type 0 = BallotLogIs given in
    then_if (wide_number_at given) _ (Found wide_number (λ n. n < 2 ^ 64) given) Q (wide_found given fits) (λ ballot a.
    then_if (log_at ballot.1) _ (Found log_bytes IsLog ballot.1) Q (log_found ballot.1 a.0.left) (λ log b.
    (Splits-then given (wide_number ballot.0) ballot.1 (log_bytes log.0) log.1 a.0 b.0, a.1, b.1)))

new_ballot_found : IsBodyOf 1 new_ballot_at
unfolding new_ballot_at
new_ballot_found given fits =
    let Q : Body Command × List ℕ → Type 0 = BodyIs 1 given in
    then_if (wide_number_at given) _ (Found wide_number (λ n. n < 2 ^ 64) given) Q (wide_found given fits) (λ ballot a.
    then_if (members_at ballot.1) _ (Found members_bytes AreCounted ballot.1) Q (members_found ballot.1 a.0.left) (λ members b.
    then_if (wide_number_at members.1) _ (Found wide_number (λ n. n < 2 ^ 64) members.1) Q (wide_found members.1 b.0.left) (λ previous c.
    then_if (members_at previous.1) _ (Found members_bytes AreCounted previous.1) Q (members_found previous.1 c.0.left) (λ others d.
    let earlier = Splits-then members.1 (wide_number previous.0) previous.1 (members_bytes others.0) others.1 c.0 d.0 in
    let later = Splits-then ballot.1 (members_bytes members.0) members.1 (wide_number previous.0 ++ members_bytes others.0) others.1 b.0 earlier in (
      Splits-then given (wide_number ballot.0) ballot.1 (members_bytes members.0 ++ (wide_number previous.0 ++ members_bytes others.0)) others.1 a.0 later,
      refl,
      (a.1, b.1, c.1, d.1),
    )))))

append_found : IsBodyOf 9 append_at
unfolding append_at
append_found given fits =
    let Q : Body Command × List ℕ → Type 0 = BodyIs 9 given in
    then_if (pair_at given) _ (PairIs given) Q (pair_found given fits) (λ pair a.
    then_if (command_at pair.1) _ (Found command_bytes IsCommand pair.1) Q (command_found pair.1 a.0.left) (λ command b.
    let whole = Splits-then given (wide_number pair.0.0 ++ wide_number pair.0.1) pair.1 (command_bytes command.0) command.1 a.0 b.0 in
    (subst (λ (z : List ℕ). Splits given z command.1) (append_assoc (wide_number pair.0.0) (wide_number pair.0.1) (command_bytes command.0)) whole, refl, (a.1, a.2, b.1))))

-- a body of one number
single_found : (kind : ℕ) (body : ℕ → Body Command) → ((n : ℕ) → body_bytes (body n) ≡ wide_number n) → ((n : ℕ) → kind_of (body n) ≡ kind) → ((n : ℕ) → IsWide n → IsBody (body n)) →
    IsBodyOf kind (single_as body)
single_found kind body bytes is ranges given fits =
    let Q : Body Command × List ℕ → Type 0 = BodyIs kind given in
    then_if (wide_number_at given) _ (Found wide_number (λ n. n < 2 ^ 64) given) Q (wide_found given fits) (λ n a.
    (subst (λ (z : List ℕ). Splits given z n.1) (sym (bytes n.0)) a.0, is n.0, ranges n.0 a.1))

-- a body of two
double_found : (kind : ℕ) (body : ℕ → ℕ → Body Command) → ((m n : ℕ) → body_bytes (body m n) ≡ wide_number m ++ wide_number n) → ((m n : ℕ) → kind_of (body m n) ≡ kind) →
    ((m n : ℕ) → IsWide m → IsWide n → IsBody (body m n)) → IsBodyOf kind (pair_as body)
double_found kind body bytes is ranges given fits =
    let Q : Body Command × List ℕ → Type 0 = BodyIs kind given in
    then_if (pair_at given) _ (PairIs given) Q (pair_found given fits) (λ pair a.
    (subst (λ (z : List ℕ). Splits given z pair.1) (sym (bytes pair.0.0 pair.0.1)) a.0, is pair.0.0 pair.0.1, ranges pair.0.0 pair.0.1 a.1 a.2))

-- a body with a log
logged_found : (kind : ℕ) (body : ℕ → Log Command → Body Command) → ((n : ℕ) (log : Log Command) → body_bytes (body n log) ≡ wide_number n ++ log_bytes log) →
    ((n : ℕ) (log : Log Command) → kind_of (body n log) ≡ kind) → ((n : ℕ) (log : Log Command) → IsWide n → IsLog log → IsBody (body n log)) → IsBodyOf kind (log_as body)
logged_found kind body bytes is ranges given fits =
    let Q : Body Command × List ℕ → Type 0 = BodyIs kind given in
    then_if (ballot_log_at given) _ (BallotLogIs given) Q (ballot_log_found given fits) (λ pair a.
    (subst (λ (z : List ℕ). Splits given z pair.1) (sym (bytes pair.0.0 pair.0.1)) a.0, is pair.0.0 pair.0.1, ranges pair.0.0 pair.0.1 a.1 a.2))

-- of the kind that was read
of_kind : (kind number : ℕ) (given : List ℕ) (r : Result (Body Command × List ℕ) Stop) → eqb kind number ≡ true → IfOk r (BodyIs number given) → IfOk r (BodyIs kind given)
of_kind kind number given r e h = subst (λ (n : ℕ). IfOk r (BodyIs n given)) (sym (eqb-true kind number e)) h

numbers_found : (kind : ℕ) → IsBodyOf kind (numbers_of_kind kind)
numbers_found kind given fits =
    let Q : Body Command × List ℕ → Type 0 = BodyIs kind given in
    cond_if (eqb kind 2) _ _ Q (λ e. of_kind kind 2 given _ e (double_found 2 bodies.Join (λ m n. refl) (λ m n. refl) (λ m n a b. (a, b)) given fits)) (λ _.
    cond_if (eqb kind 5) _ _ Q (λ e. of_kind kind 5 given _ e (double_found 5 bodies.Installed (λ m n. refl) (λ m n. refl) (λ m n a b. (a, b)) given fits)) (λ _.
    cond_if (eqb kind 6) _ _ Q (λ e. of_kind kind 6 given _ e (single_found 6 bodies.Activate (λ n. refl) (λ n. refl) (λ n a. a) given fits)) (λ _.
    cond_if (eqb kind 7) _ _ Q (λ e. of_kind kind 7 given _ e (single_found 7 bodies.Activated (λ n. refl) (λ n. refl) (λ n a. a) given fits)) (λ _.
    cond_if (eqb kind 8) _ _ Q (λ e. of_kind kind 8 given _ e (single_found 8 bodies.Superseded (λ n. refl) (λ n. refl) (λ n a. a) given fits)) (λ _.
    cond_if (eqb kind 10) _ _ Q (λ e. of_kind kind 10 given _ e (double_found 10 bodies.Held (λ m n. refl) (λ m n. refl) (λ m n a b. (a, b)) given fits)) (λ _.
    cond_if (eqb kind 11) _ _ Q (λ e. of_kind kind 11 given _ e (double_found 11 bodies.Commit (λ m n. refl) (λ m n. refl) (λ m n a b. (a, b)) given fits)) (λ _. tt)))))))

body_found : (kind : ℕ) → IsBodyOf kind (body_of_kind kind)
body_found kind given fits =
    let Q : Body Command × List ℕ → Type 0 = BodyIs kind given in
    cond_if (eqb kind 1) _ _ Q (λ e. of_kind kind 1 given _ e (new_ballot_found given fits)) (λ _.
    cond_if (eqb kind 3) _ _ Q (λ e. of_kind kind 3 given _ e (logged_found 3 bodies.State (λ n l. refl) (λ n l. refl) (λ n l a b. (a, b)) given fits)) (λ _.
    cond_if (eqb kind 4) _ _ Q (λ e. of_kind kind 4 given _ e (logged_found 4 bodies.Install (λ n l. refl) (λ n l. refl) (λ n l a b. (a, b)) given fits)) (λ _.
    cond_if (eqb kind 9) _ _ Q (λ e. of_kind kind 9 given _ e (append_found given fits)) (λ _. numbers_found kind given fits))))

-- ---- messages

pub message_found : IsFoundSo written IsMessage message_at
unfolding message_at
message_found given fits =
    let Q : Message Command × List ℕ → Type 0 = Found written IsMessage given in
    then_if (byte_at given) _ (λ x. Splits given (x.0 ∷ []) x.1 × (x.0 < 256)) Q (byte_found given fits) (λ kind a.
    then_if (byte_at kind.1) _ (λ x. Splits kind.1 (x.0 ∷ []) x.1 × (x.0 < 256)) Q (byte_found kind.1 a.0.left) (λ from b.
    then_if (body_of_kind kind.0 from.1) _ (BodyIs kind.0 from.1) Q (body_found kind.0 from.1 b.0.left) (λ body c.
    let sent = Splits-then kind.1 (from.0 ∷ []) from.1 (body_bytes body.0) body.1 b.0 c.0 in
    let whole = Splits-then given (kind.0 ∷ []) kind.1 (from.0 ∷ body_bytes body.0) body.1 a.0 sent in
    (subst (λ (n : ℕ). Splits given (n ∷ from.0 ∷ body_bytes body.0) body.1) (sym c.1) whole, (b.1, c.2)))))

whole_message_found : (given : List ℕ) → AreBytes given → IfOk (whole_message given) (λ message. IsMessage message × (given ≡ written message))
unfolding whole_message
whole_message_found given fits =
    let Q : Message Command → Type 0 = λ message. IsMessage message × (given ≡ written message) in
    then_if (message_at given) _ (Found written IsMessage given) Q (message_found given fits) (λ read h.
    seq_if (ended read.1) _ (read.1 ≡ []) Q (ended_found read.1) (λ none.
    (h.1, Splits-all given (written read.0) (subst (λ (z : List ℕ). Splits given (written read.0) z) none h.0))))

-- a fault says as little as any other
faulted_ok : {A : Type 0} (r : Result A Stop) (P : A → Type 0) → IfOk r P → IfOk (faulted r) P
faulted_ok (Ok x) P h = h
faulted_ok (Err stop) P h = tt

pub read_is_written : ReadIsWritten
read_is_written bytes fits = faulted_ok (whole_message bytes) _ (whole_message_found bytes fits)
