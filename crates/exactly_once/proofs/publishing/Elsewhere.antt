-- No answer to a Connect is of a handshake in which a client publishes.
use Rattle.std.proofs.Common.{◌≡◌, ℕ, Bool, true, false, ◌==◌, not, if◌then◌else◌, List, [], ◌∷◌, ◌++◌, length, map, Option, Some, None, refl, ap, ◌∙◌}
use Rattle.std.specs.Prelude.{flat_map}
use Rattle.packet.specs.declared.packet.Packet.{Packet}
use Rattle.packet.specs.declared.packet.Packet.TheVariants as packets
use Rattle.session_base.specs.Publication.{publish_for}
use Rattle.broker_spec.specs.Connection.{ConnectionName, same_connection}
use Rattle.broker_spec.specs.Place.{Client, Mark, Place, Past, Limits}
use Rattle.broker_spec.specs.Sessions.{current_connection, begins}
use Rattle.broker_spec.specs.Entries.{Entry}
use Rattle.broker_spec.specs.Readings.{released_below}
use Rattle.broker_spec.specs.Times.{entries_of}
use Rattle.broker_spec.specs.Sends.{publish_output, repeated_output, all_started, resent_outputs}
use Rattle.broker_spec.specs.Answers.{close_outputs, welcome, turned_away, connect_answers}
use Rattle.broker_spec.specs.declared.command.Output.{Output}
use Rattle.broker_spec.specs.declared.command.Output.TheVariants.{Send, Close}
use Rattle.exactly_once.specs.Sends.{sends_to}
use Rattle.exactly_once.specs.Inside.Projections.{backward_of_own}
use Rattle.exactly_once.proofs.Deliveries.{sends_append}
use Rattle.exactly_once.proofs.Packets.{started_none}
use Rattle.exactly_once.proofs.publishing.Written.{backward_both}

-- nothing of the handshake is sent on y
abbrev pub NoneSent : ConnectionName → List Output → Type 0
NoneSent y answers = backward_of_own (sends_to y answers) ≡ []

pub none_both : (y : ConnectionName) (xs ys : List Output) → NoneSent y xs → NoneSent y ys → NoneSent y (xs ++ ys)
none_both y xs ys e f = ap backward_of_own (sends_append y xs ys) ∙ backward_both (sends_to y xs) (sends_to y ys) ∙ ap (λ l. l ++ backward_of_own (sends_to y ys)) e ∙ f

-- one packet that is not of it
pub none_one : (y x : ConnectionName) (packet : Packet) → backward_of_own (packet ∷ []) ≡ [] → NoneSent y (Send x packet ∷ [])
none_one y x packet e = by (same_connection y x)
  where
    by : (b : Bool) → backward_of_own (if b then packet ∷ [] else []) ≡ []
    by true = e
    by false = refl

-- one packet on another connection
pub none_there : (y x : ConnectionName) (packet : Packet) → same_connection y x ≡ false → NoneSent y (Send x packet ∷ [])
none_there y x packet e = ap (λ b. backward_of_own (if b then packet ∷ [] else [])) e

-- ---- a Connect

releases_none : (y x : ConnectionName) (ids : List ℕ) → NoneSent y (map (λ id. Send x (packets.Pubrel id)) ids)
releases_none y x [] = refl
releases_none y x (id ∷ ids) = none_both y (Send x (packets.Pubrel id) ∷ []) (map (λ i. Send x (packets.Pubrel i)) ids) (none_one y x (packets.Pubrel id) refl) (releases_none y x ids)

again_none : (y x : ConnectionName) (n : ℕ) (entry : Entry) → NoneSent y (repeated_output x n entry)
again_none y x n (Entry.Sent made p id start) = by (start == n)
  where
    by : (b : Bool) → NoneSent y (if b then [] else publish_output x true id p ∷ [])
    by true = refl
    by false = none_one y x (packets.Publish (publish_for true id p)) refl
again_none y x n (Entry.Queued made p) = refl
again_none y x n (Entry.Released made p id start release) = refl
again_none y x n (Entry.Done made p id start release finish) = refl

all_again_none : (y x : ConnectionName) (n : ℕ) (es : List Entry) → NoneSent y (flat_map (repeated_output x n) es)
all_again_none y x n [] = refl
all_again_none y x n (e ∷ es) = none_both y (repeated_output x n e) (flat_map (repeated_output x n) es) (again_none y x n e) (all_again_none y x n es)

resent_none : (y x : ConnectionName) (n : ℕ) (es : List Entry) → NoneSent y (resent_outputs x n es)
resent_none y x n es =
    none_both y (map (λ id. Send x (packets.Pubrel id)) (released_below n es) ++ flat_map (repeated_output x n) es) (all_started x n es)
    (none_both y (map (λ id. Send x (packets.Pubrel id)) (released_below n es)) (flat_map (repeated_output x n) es) (releases_none y x (released_below n es)) (all_again_none y x n es))
    (started_none y x n es)

closed_none : (y : ConnectionName) (o : Option ConnectionName) → NoneSent y (close_outputs o)
closed_none y None = refl
closed_none y (Some x) = refl

pub connect_none : (y : ConnectionName) (limits : Limits) (place : Place) (past : Past) (x : ConnectionName) (c : Client) (mark : Mark) → NoneSent y (connect_answers limits place past x c mark)
connect_none y limits place past x c Mark.Accepted =
    let sends = resent_outputs x (length past) (entries_of limits (place ∷ past) c) in
    none_both y (close_outputs (current_connection past c)) (welcome x (not (begins place past c)) ∷ sends) (closed_none y (current_connection past c))
    (none_both y (welcome x (not (begins place past c)) ∷ []) sends (none_one y x _ refl) (resent_none y x (length past) (entries_of limits (place ∷ past) c)))
connect_none y limits place past x c Mark.Full = none_both y (turned_away x ∷ []) (Close x ∷ []) (none_one y x _ refl) refl
connect_none y limits place past x c _ = refl
