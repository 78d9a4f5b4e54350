-- Of the copies of a publication, a connection is sent those of the one session whose current connection it is.
use Rattle.std.proofs.Common.{◌≡◌, ℕ, Bool, true, false, ◌==◌, if◌then◌else◌, List, [], ◌∷◌, ◌++◌, length, take, drop, Option, Some, None, refl, ap, ap₂, ◌∙◌}
use Rattle.std.proofs.lemmas.List.{append-nil}
use Rattle.std.specs.Prelude.{flat_map}
use Rattle.session_base.specs.declared.publication.Publication.{Publication}
use Rattle.session_base.specs.Publication.{is_answered}
use Rattle.broker_spec.specs.Connection.{ConnectionName, same_connection}
use Rattle.broker_spec.specs.Place.{Client, Place, Past, Limits}
use Rattle.broker_spec.specs.Sessions.{any_connection, current_connection}
use Rattle.broker_spec.specs.Entries.{Entry, copies_at}
use Rattle.broker_spec.specs.Readings.{made_at}
use Rattle.broker_spec.specs.Times.{entries_of}
use Rattle.broker_spec.specs.Sends.{publish_output, first_output, all_started, copy_outputs, handed_to, deliveries_to}
use Rattle.broker_spec.specs.declared.command.Output.{Output}
use Rattle.broker_spec.specs.declared.command.Output.TheVariants.{Send, Close}
use Rattle.lists.specs.Lists.{Each}
use Rattle.exactly_once.specs.Sends.{sends_to}

pub sends_append : (x : ConnectionName) (xs ys : List Output) → sends_to x (xs ++ ys) ≡ sends_to x xs ++ sends_to x ys
sends_append x [] ys = refl
sends_append x (Send y packet ∷ xs) ys = by (same_connection x y) (sends_append x xs ys)
  where
    by : (b : Bool) → sends_to x (xs ++ ys) ≡ sends_to x xs ++ sends_to x ys
        → (if b then packet ∷ sends_to x (xs ++ ys) else sends_to x (xs ++ ys)) ≡ (if b then packet ∷ sends_to x xs else sends_to x xs) ++ sends_to x ys
    by true ih = ap (λ l. packet ∷ l) ih
    by false ih = ih
sends_append x (Close y ∷ xs) ys = sends_append x xs ys

-- ---- nothing of what goes elsewhere

elsewhere_two : (x : ConnectionName) (xs ys : List Output) → sends_to x xs ≡ [] → sends_to x ys ≡ [] → sends_to x (xs ++ ys) ≡ []
elsewhere_two x xs ys e f = sends_append x xs ys ∙ ap₂ (λ a b. a ++ b) e f

publish_elsewhere : (x y : ConnectionName) (dup : Bool) (id : ℕ) (p : Publication) (more : List Output) → same_connection x y ≡ false → sends_to x (publish_output y dup id p ∷ more) ≡ sends_to x more
publish_elsewhere x y dup id p more e = rw e refl

first_elsewhere : (x y : ConnectionName) (n : ℕ) (entry : Entry) → same_connection x y ≡ false → sends_to x (first_output y n entry) ≡ []
first_elsewhere x y n (Entry.Queued made p) e = refl
first_elsewhere x y n (Entry.Sent made p id start) e = by (start == n)
  where
    by : (b : Bool) → sends_to x (if b then publish_output y false id p ∷ [] else []) ≡ []
    by true = publish_elsewhere x y false id p [] e
    by false = refl
first_elsewhere x y n (Entry.Released made p id start release) e = refl
first_elsewhere x y n (Entry.Done made p id start release finish) e = refl

pub started_elsewhere : (x y : ConnectionName) (n : ℕ) (es : List Entry) → same_connection x y ≡ false → sends_to x (all_started y n es) ≡ []
started_elsewhere x y n [] e = refl
started_elsewhere x y n (entry ∷ es) e = elsewhere_two x (first_output y n entry) (all_started y n es) (first_elsewhere x y n entry e) (started_elsewhere x y n es e)

handed_elsewhere : (x y : ConnectionName) (n : ℕ) (copies : List Publication) (es : List Entry) → same_connection x y ≡ false → sends_to x (copy_outputs y n copies es) ≡ []
handed_elsewhere x y n [] es e = refl
handed_elsewhere x y n (p ∷ copies) es e = by (is_answered p.qos) (handed_elsewhere x y n copies (drop 1 es) e) (handed_elsewhere x y n copies es e)
  where
    by : (b : Bool) → sends_to x (copy_outputs y n copies (drop 1 es)) ≡ [] → sends_to x (copy_outputs y n copies es) ≡ []
        → sends_to x (if b then all_started y n (take 1 es) ++ copy_outputs y n copies (drop 1 es) else publish_output y false 0 p ∷ copy_outputs y n copies es) ≡ []
    by true f g = elsewhere_two x (all_started y n (take 1 es)) (copy_outputs y n copies (drop 1 es)) (started_elsewhere x y n (take 1 es) e) f
    by false f g = publish_elsewhere x y false 0 p (copy_outputs y n copies es) e ∙ g

-- a client that is not served on the connection
abbrev pub IsElsewhere : ConnectionName → Past → Client → Type 0
IsElsewhere x past d = any_connection (same_connection x) (current_connection past d) ≡ false

pub deliveries_elsewhere : (limits : Limits) (place : Place) (past : Past) (x : ConnectionName) (d : Client) → IsElsewhere x past d → sends_to x (deliveries_to limits place past d) ≡ []
deliveries_elsewhere limits place past x d e = by (current_connection past d) e
  where
    by : (current : Option ConnectionName) → any_connection (same_connection x) current ≡ false
        → sends_to x (handed_to current (length past) (copies_at place past d) (made_at (length past) (entries_of limits (place ∷ past) d))) ≡ []
    by (Some y) e = handed_elsewhere x y (length past) (copies_at place past d) (made_at (length past) (entries_of limits (place ∷ past) d)) e
    by None e = refl

all_elsewhere : (limits : Limits) (place : Place) (past : Past) (x : ConnectionName) (ds : List Client) → Each (IsElsewhere x past) ds → sends_to x (flat_map (deliveries_to limits place past) ds) ≡ []
all_elsewhere limits place past x [] h = refl
all_elsewhere limits place past x (d ∷ ds) h =
    elsewhere_two x (deliveries_to limits place past d) (flat_map (deliveries_to limits place past) ds) (deliveries_elsewhere limits place past x d h.0) (all_elsewhere limits place past x ds h.1)

-- if only one client is served on the connection, the connection is sent what that client gets
pub sends_of_copies : (limits : Limits) (place : Place) (past : Past) (x : ConnectionName) (c : Client) (before behind : List Client)
    → Each (IsElsewhere x past) before → Each (IsElsewhere x past) behind
    → sends_to x (flat_map (deliveries_to limits place past) (before ++ c ∷ behind)) ≡ sends_to x (deliveries_to limits place past c)
sends_of_copies limits place past x c [] behind h g =
    sends_append x (deliveries_to limits place past c) (flat_map (deliveries_to limits place past) behind)
    ∙ ap (λ l. sends_to x (deliveries_to limits place past c) ++ l) (all_elsewhere limits place past x behind g)
    ∙ append-nil (sends_to x (deliveries_to limits place past c))
sends_of_copies limits place past x c (d ∷ before) behind h g =
    sends_append x (deliveries_to limits place past d) (flat_map (deliveries_to limits place past) (before ++ c ∷ behind))
    ∙ ap (λ l. l ++ sends_to x (flat_map (deliveries_to limits place past) (before ++ c ∷ behind))) (deliveries_elsewhere limits place past x d h.0)
    ∙ sends_of_copies limits place past x c before behind h.1 g
