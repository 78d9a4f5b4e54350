-- While a session lasts its entries only grow: each continues, in order, and new ones come after.
use Rattle.std.proofs.Common.{◌≡◌, ℕ, Bool, true, false, not, ◌&&◌, ◌==◌, nat_lt, if◌then◌else◌, List, [], ◌∷◌, ◌++◌, length, map, Option, Some, None, inl, inr, refl, ap}
use Rattle.std.specs.Prelude.{is_some}
use Rattle.std.specs.List.{AllByRecursion}
use Rattle.packet.specs.declared.packet.Packet.TheVariants as packets
use Rattle.broker_spec.specs.Connection.{ConnectionName}
use Rattle.broker_spec.specs.Place.{Client, same_client, Mark}
use Rattle.broker_spec.specs.Sessions.{current_connection, clean_session_of, begins, in_session}
use Rattle.session_base.specs.declared.publication.Publication.{Publication}
use Rattle.session_base.specs.Publication.{is_qos1}
use Rattle.broker_spec.specs.Entries.{Entry, copies_at, queued}
use Rattle.session_base.specs.Identifiers.{least_free}
use Rattle.broker_spec.specs.Times.{entries_of, window_at, start_all, started, answered_by, at_puback, at_pubrec, at_pubcomp}
use Rattle.broker_spec.specs.EntryTheorems.{EntryGoesOn, GrowsTo, IsMadeAt, EntriesOnlyGrow}
use Rattle.broker_spec.specs.declared.command.Command.{Command}
use Rattle.broker_spec.specs.declared.command.Command.TheVariants as commands

-- ---- what a client's answer does to an entry

-- the same as going on, but nothing starts
abbrev pub Answered : ℕ → Entry → Entry → Type 0
Answered n (Entry.Queued made p) later = later ≡ Entry.Queued made p
Answered n entry later = EntryGoesOn n entry later

abbrev pub Answering : ℕ → (Entry → Entry) → Type 0
Answering n f = (entry : Entry) → Answered n entry (f entry)

nothing-answers : (n : ℕ) → Answering n (λ entry. entry)
nothing-answers n (Entry.Queued made p) = refl
nothing-answers n (Entry.Sent made p id start) = inl refl
nothing-answers n (Entry.Released made p id start release) = inl refl
nothing-answers n (Entry.Done made p id start release finish) = refl

puback-answers : (n i : ℕ) → Answering n (at_puback n i)
puback-answers n i (Entry.Queued made p) = refl
puback-answers n i (Entry.Sent made p id start) = by ((i == id) && is_qos1 p.qos)
  where
    by : (b : Bool) → Answered n (Entry.Sent made p id start) (if b then Entry.Done made p id start None n else Entry.Sent made p id start)
    by true = inr (inr refl)
    by false = inl refl
puback-answers n i (Entry.Released made p id start release) = inl refl
puback-answers n i (Entry.Done made p id start release finish) = refl

pubrec-answers : (n i : ℕ) → Answering n (at_pubrec n i)
pubrec-answers n i (Entry.Queued made p) = refl
pubrec-answers n i (Entry.Sent made p id start) = by ((i == id) && not (is_qos1 p.qos))
  where
    by : (b : Bool) → Answered n (Entry.Sent made p id start) (if b then Entry.Released made p id start n else Entry.Sent made p id start)
    by true = inr (inl refl)
    by false = inl refl
pubrec-answers n i (Entry.Released made p id start release) = inl refl
pubrec-answers n i (Entry.Done made p id start release finish) = refl

pubcomp-answers : (n i : ℕ) → Answering n (at_pubcomp n i)
pubcomp-answers n i (Entry.Queued made p) = refl
pubcomp-answers n i (Entry.Sent made p id start) = inl refl
pubcomp-answers n i (Entry.Released made p id start release) = by (i == id)
  where
    by : (b : Bool) → Answered n (Entry.Released made p id start release) (if b then Entry.Done made p id start (Some release) n else Entry.Released made p id start release)
    by true = inr refl
    by false = inl refl
pubcomp-answers n i (Entry.Done made p id start release finish) = refl

-- what a command does to the entries of a client is one of these, on each of them
pub record AnswersBy (n : ℕ) (done : List Entry → List Entry) : Type 0 where
  pub on_each : Entry → Entry
  pub answering : Answering n on_each
  pub done_is : (es : List Entry) → done es ≡ map on_each es

map-same : (es : List Entry) → es ≡ map (λ entry. entry) es
map-same [] = refl
map-same (e ∷ es) = ap (λ z. e ∷ z) (map-same es)

no-answer : (n : ℕ) → AnswersBy n (λ es. es)
no-answer n = record { on_each = λ entry. entry; answering = nothing-answers n; done_is = map-same }

an-answer : (n : ℕ) (f : Entry → Entry) → Answering n f → (b : Bool) → AnswersBy n (λ es. if b then map f es else es)
an-answer n f a true = record { on_each = f; answering = a; done_is = λ es. refl }
an-answer n f a false = no-answer n

pub answers-by : (k : Command) (m : Mark) (n : ℕ) (c : Client) → AnswersBy n (answered_by k m n c)
answers-by (commands.Packet x (packets.Connect q)) m n c = no-answer n
answers-by (commands.Packet x (packets.Connack q)) m n c = no-answer n
answers-by (commands.Packet x (packets.Publish p)) m n c = no-answer n
answers-by (commands.Packet x (packets.Puback i)) Mark.Unmarked n c = no-answer n
answers-by (commands.Packet x (packets.Puback i)) Mark.Accepted n c = no-answer n
answers-by (commands.Packet x (packets.Puback i)) Mark.Full n c = no-answer n
answers-by (commands.Packet x (packets.Puback i)) (Mark.Leaves d) n c = no-answer n
answers-by (commands.Packet x (packets.Puback i)) (Mark.Refused d) n c = no-answer n
answers-by (commands.Packet x (packets.Puback i)) (Mark.Repeat d) n c = no-answer n
answers-by (commands.Packet x (packets.Puback i)) (Mark.Taken d) n c = no-answer n
answers-by (commands.Packet x (packets.Puback i)) (Mark.Granted d which) n c = no-answer n
answers-by (commands.Packet x (packets.Puback i)) (Mark.Handled d) n c = an-answer n (at_puback n i) (puback-answers n i) (same_client d c)
answers-by (commands.Packet x (packets.Pubrec i)) Mark.Unmarked n c = no-answer n
answers-by (commands.Packet x (packets.Pubrec i)) Mark.Accepted n c = no-answer n
answers-by (commands.Packet x (packets.Pubrec i)) Mark.Full n c = no-answer n
answers-by (commands.Packet x (packets.Pubrec i)) (Mark.Leaves d) n c = no-answer n
answers-by (commands.Packet x (packets.Pubrec i)) (Mark.Refused d) n c = no-answer n
answers-by (commands.Packet x (packets.Pubrec i)) (Mark.Repeat d) n c = no-answer n
answers-by (commands.Packet x (packets.Pubrec i)) (Mark.Taken d) n c = no-answer n
answers-by (commands.Packet x (packets.Pubrec i)) (Mark.Granted d which) n c = no-answer n
answers-by (commands.Packet x (packets.Pubrec i)) (Mark.Handled d) n c = an-answer n (at_pubrec n i) (pubrec-answers n i) (same_client d c)
answers-by (commands.Packet x (packets.Pubrel i)) m n c = no-answer n
answers-by (commands.Packet x (packets.Pubcomp i)) Mark.Unmarked n c = no-answer n
answers-by (commands.Packet x (packets.Pubcomp i)) Mark.Accepted n c = no-answer n
answers-by (commands.Packet x (packets.Pubcomp i)) Mark.Full n c = no-answer n
answers-by (commands.Packet x (packets.Pubcomp i)) (Mark.Leaves d) n c = no-answer n
answers-by (commands.Packet x (packets.Pubcomp i)) (Mark.Refused d) n c = no-answer n
answers-by (commands.Packet x (packets.Pubcomp i)) (Mark.Repeat d) n c = no-answer n
answers-by (commands.Packet x (packets.Pubcomp i)) (Mark.Taken d) n c = no-answer n
answers-by (commands.Packet x (packets.Pubcomp i)) (Mark.Granted d which) n c = no-answer n
answers-by (commands.Packet x (packets.Pubcomp i)) (Mark.Handled d) n c = an-answer n (at_pubcomp n i) (pubcomp-answers n i) (same_client d c)
answers-by (commands.Packet x (packets.Subscribe s)) m n c = no-answer n
answers-by (commands.Packet x (packets.Suback q)) m n c = no-answer n
answers-by (commands.Packet x (packets.Unsubscribe u)) m n c = no-answer n
answers-by (commands.Packet x (packets.Unsuback i)) m n c = no-answer n
answers-by (commands.Packet x packets.Pingreq) m n c = no-answer n
answers-by (commands.Packet x packets.Pingresp) m n c = no-answer n
answers-by (commands.Packet x packets.Disconnect) m n c = no-answer n
answers-by (commands.Connect x d clean) m n c = no-answer n
answers-by (commands.Lost x) m n c = no-answer n
answers-by (commands.Start ballot) m n c = no-answer n
answers-by (commands.Expel d) m n c = no-answer n

-- ---- growing

new-wait : (n : ℕ) (ps : List Publication) → AllByRecursion (IsMadeAt n) (map (Entry.Queued n) ps)
new-wait n [] = tt
new-wait n (p ∷ ps) = (refl, new-wait n ps)

new-start : (w n : ℕ) (busy : List ℕ) (ps : List Publication) → AllByRecursion (IsMadeAt n) (start_all w n busy (map (Entry.Queued n) ps))
new-start w n busy [] = tt
new-start w n busy (p ∷ ps) = by (nat_lt (length busy) w) (new-start w n (least_free busy ∷ busy) ps)
  where
    by : (b : Bool) → AllByRecursion (IsMadeAt n) (start_all w n (least_free busy ∷ busy) (map (Entry.Queued n) ps))
        → AllByRecursion (IsMadeAt n) (if b then Entry.Sent n p (least_free busy) n ∷ start_all w n (least_free busy ∷ busy) (map (Entry.Queued n) ps) else Entry.Queued n p ∷ map (Entry.Queued n) ps)
    by true ih = ((refl, refl), ih)
    by false ih = (refl, new-wait n ps)

goes-on : (n : ℕ) (entry later : Entry) → Answered n entry later → EntryGoesOn n entry later
goes-on n (Entry.Queued made p) later a = inl a
goes-on n (Entry.Sent made p id start) later a = a
goes-on n (Entry.Released made p id start release) later a = a
goes-on n (Entry.Done made p id start release finish) later a = a

-- without a start
grows-offline : (n : ℕ) (f : Entry → Entry) → Answering n f → (es : List Entry) (ps : List Publication) → GrowsTo n es (map f es ++ map (Entry.Queued n) ps)
grows-offline n f a [] ps = new-wait n ps
grows-offline n f a (e ∷ es) ps = (goes-on n e (f e) (a e), grows-offline n f a es ps)

-- with what starts
pub grows-online : (w n : ℕ) (busy : List ℕ) (f : Entry → Entry) → Answering n f → (es : List Entry) (ps : List Publication)
    → GrowsTo n es (start_all w n busy (map f es ++ map (Entry.Queued n) ps))
grows-online w n busy f a [] ps = new-start w n busy ps
grows-online w n busy f a (Entry.Queued made p ∷ es) ps =
    rw (a (Entry.Queued made p)) (by (nat_lt (length busy) w) (grows-online w n (least_free busy ∷ busy) f a es ps))
  where
    by : (b : Bool) → GrowsTo n es (start_all w n (least_free busy ∷ busy) (map f es ++ map (Entry.Queued n) ps))
        → GrowsTo n (Entry.Queued made p ∷ es) (if b then Entry.Sent made p (least_free busy) n ∷ start_all w n (least_free busy ∷ busy) (map f es ++ map (Entry.Queued n) ps) else Entry.Queued made p ∷ (map f es ++ map (Entry.Queued n) ps))
    by true ih = (inr (least_free busy, refl), ih)
    by false ih = (inl refl, grows-offline n f a es ps)
grows-online w n busy f a (Entry.Sent made p id start ∷ es) ps =
    by (a (Entry.Sent made p id start)) (λ ids. grows-online w n ids f a es ps)
  where
    by : Answered n (Entry.Sent made p id start) (f (Entry.Sent made p id start))
        → ((ids : List ℕ) → GrowsTo n es (start_all w n ids (map f es ++ map (Entry.Queued n) ps)))
        → GrowsTo n (Entry.Sent made p id start ∷ es) (start_all w n busy (f (Entry.Sent made p id start) ∷ (map f es ++ map (Entry.Queued n) ps)))
    by (inl e) ih = rw e (inl refl, ih (id ∷ busy))
    by (inr (inl e)) ih = rw e (inr (inl refl), ih (id ∷ busy))
    by (inr (inr e)) ih = rw e (inr (inr refl), ih busy)
grows-online w n busy f a (Entry.Released made p id start release ∷ es) ps =
    by (a (Entry.Released made p id start release)) (λ ids. grows-online w n ids f a es ps)
  where
    by : Answered n (Entry.Released made p id start release) (f (Entry.Released made p id start release))
        → ((ids : List ℕ) → GrowsTo n es (start_all w n ids (map f es ++ map (Entry.Queued n) ps)))
        → GrowsTo n (Entry.Released made p id start release ∷ es) (start_all w n busy (f (Entry.Released made p id start release) ∷ (map f es ++ map (Entry.Queued n) ps)))
    by (inl e) ih = rw e (inl refl, ih (id ∷ busy))
    by (inr e) ih = rw e (inr refl, ih busy)
grows-online w n busy f a (Entry.Done made p id start release finish ∷ es) ps =
    rw (a (Entry.Done made p id start release finish)) (refl, grows-online w n busy f a es ps)

grows : (w n : ℕ) (current : Option ConnectionName) (f : Entry → Entry) → Answering n f → (es : List Entry) (ps : List Publication)
    → GrowsTo n es (started w n current (map f es ++ map (Entry.Queued n) ps))
grows w n None f a es ps = grows-offline n f a es ps
grows w n (Some x) f a es ps = grows-online w n [] f a es ps

lasting : (session : Option Bool) (beginning : Bool) (es later : List Entry) (n : ℕ) → is_some session ≡ true → beginning ≡ false
    → GrowsTo n es later → GrowsTo n es (in_session session beginning [] later)
lasting (Some clean) false es later n s b g = g
lasting (Some clean) true es later n s b g = cc
lasting None beginning es later n s b g = cc

pub entries_only_grow : EntriesOnlyGrow
unfolding entries_of
entries_only_grow limits place past c s b =
    let by = answers-by place.command place.mark (length past) c in
    lasting (clean_session_of (place ∷ past) c) (begins place past c) (entries_of limits past c) _ (length past) s b
    (rw (by.done_is (entries_of limits past c))
    (grows (window_at limits (place ∷ past)) (length past) (current_connection (place ∷ past) c) by.on_each by.answering
    (entries_of limits past c) (queued (copies_at place past c))))
