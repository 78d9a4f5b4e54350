-- Viewed.antt: how long the agreed list of a group is and where its places are, by the record and
-- the logs that are kept.
use Rattle.std.proofs.Common.{◌≡◌, ℕ, zero, suc, Bool, false, ◌+◌, ◌-◌, ◌<◌, ◌≤◌, List, [], ◌∷◌, ◌++◌, length, map, take, get_or, Some, Option, refl, ap, sym, ◌∙◌, subst, arith}
use Rattle.std.specs.Prelude.{slice_get}
use Rattle.std.proofs.lemmas.List.{append-nil, length-take-le, take-append-le, take-take}
use Rattle.machine.specs.Machine.{Rules}
use Rattle.lists.specs.Lists.{In}
use Rattle.ballot_base.specs.declared.config.Config.{Config}
use Rattle.ballot_base.specs.Logs.{Log, places}
use Rattle.ballot_base.specs.declared.message.Message.{Message}
use Rattle.ballot_base.specs.Protocol.{Input, replica_step}
use Rattle.ballot_base.specs.Protocol.Input.{Receives, Proposes, Ticks}
use Rattle.ballot_base.specs.StepOutcome.{nothing_done}
use Rattle.ballot_base.specs.Unread.{is_unread}
use Rattle.ballot_base.specs.Replica.{ReplicaState}
use Rattle.agreement.specs.whole_logs.Replica.{ReplicaState as WholeState}
use Rattle.agreement.specs.Moments.{IsAgreed}
use Rattle.agreement.specs.World.{log_of}
use Rattle.agreement.specs.cut_logs.Moments.{Moment, Moments, whole_moment}
use Rattle.agreement.specs.cut_logs.Whole.{whole, whole_log}
use Rattle.agreement.specs.cut_logs.World.{MayTake}
use Rattle.agreement.proofs.of_cut_logs.Continues.{agreed_back, agreed_in}
use Rattle.agreement.proofs.of_cut_logs.Fronts.{whole_long}
use Rattle.agreement.proofs.of_cut_logs.MomentsAgree.{snapshots_are_read}
use Rattle.agreement.proofs.of_cut_logs.MomentsKept.{StandsFor, moments_stand}
use Rattle.agreement.proofs.of_cut_logs.Views.{get_whole}
use Rattle.master.specs.Inside.{HasCounted, HoldsAt, IsShort, AcknowledgedIn, held_by, least_but_one}
use Rattle.master.specs.Inside.Losses.{IsRead}
use Rattle.master.proofs.AgreedLength.{counted_length, member_front, sole_length, some_long}
use Rattle.master.proofs.Lawful.{AreLawful, moments_lawful}
use Rattle.master.proofs.WholeTold.{counted_whole}

-- with two members and more
pub counted_as_seen : {S C O : Type 0} (rules : Rules S C O) (config : Config) (a : Moment S C O) (moments : List (Moment S C O)) (xs : List C) (told : AcknowledgedIn) (top : ℕ) →
    Moments rules config (a ∷ moments) → IsAgreed config (map whole_moment (a ∷ moments)) xs → a.master.greatest ≡ 15 → told.ballot ≡ a.master.active → HasCounted a.world.sent told →
    ((m : ℕ) → get_or told.held m 0 ≤ top) → (length a.master.members ≡ 1 → ⊥) →
    least_but_one told.held top top a.master.members ≡ length xs
counted_as_seen rules config a moments xs told top came agreed bounded active counted bound several =
    let q = moments_stand rules config a moments came in
    counted_length rules config (whole_moment a) q.earlier xs told top q.kept.came
    (agreed_in config (map whole_moment (a ∷ moments)) (whole_moment a ∷ q.earlier) xs q.covers agreed) bounded active
    (counted_whole a.world.archive a.world.sent told counted) bound several

-- a log is as long as it is whole
held_whole : {S C : Type 0} (archive : List C) (nodes : List (ReplicaState S C)) (n : ℕ) →
    ((r : ReplicaState S C) → slice_get nodes n ≡ Some r → r.log.base ≤ length archive) →
    held_by (slice_get nodes n) ≡ length (log_of (slice_get (map (whole archive) nodes) n))
held_whole archive [] n within = refl
held_whole archive (r ∷ nodes) zero within = sym (whole_long archive r.log (within r refl))
held_whole archive (r ∷ nodes) (suc n) within = held_whole archive nodes n within

pub within_of : {S C O : Type 0} (rules : Rules S C O) (config : Config) (a : Moment S C O) (moments : List (Moment S C O)) → Moments rules config (a ∷ moments) →
    (n : ℕ) (r : ReplicaState S C) → slice_get a.world.nodes n ≡ Some r → r.log.base ≤ length a.world.archive
within_of rules config a moments came n r stands = ((moments_stand rules config a moments came).kept.nodes n r stands).0.within

-- with a sole member
pub sole_as_seen : {S C O : Type 0} (rules : Rules S C O) (config : Config) (a : Moment S C O) (moments : List (Moment S C O)) (xs : List C) →
    Moments rules config (a ∷ moments) → IsAgreed config (map whole_moment (a ∷ moments)) xs → (m : ℕ) → a.master.members ≡ m ∷ [] →
    held_by (slice_get a.world.nodes (m - 1)) ≡ length xs
sole_as_seen rules config a moments xs came agreed m sole =
    let q = moments_stand rules config a moments came in
    held_whole a.world.archive a.world.nodes (m - 1) (λ r e. within_of rules config a moments came (m - 1) r e)
    ∙ sole_length rules config (whole_moment a) q.earlier xs q.kept.came
    (agreed_in config (map whole_moment (a ∷ moments)) (whole_moment a ∷ q.earlier) xs q.covers agreed) m sole

-- some member's log is long enough
get_back : {X Y : Type 0} (f : X → Y) (xs : List X) (n : ℕ) (y : Y) → slice_get (map f xs) n ≡ Some y → (x : X) × (slice_get xs n ≡ Some x) × (f x ≡ y)
get_back f [] n y e = cc
get_back f (x ∷ xs) zero y e = let g : f x ≡ y = cc in (x, refl, g)
get_back f (x ∷ xs) (suc n) y e = get_back f xs n y e

pub some_as_seen : {S C O : Type 0} (rules : Rules S C O) (config : Config) (a : Moment S C O) (moments : List (Moment S C O)) (k : ℕ) →
    Moments rules config (a ∷ moments) → ((xs : List C) → IsAgreed config (map whole_moment (a ∷ moments)) xs → k ≡ length xs) →
    ((m : ℕ) → In m a.master.members → IsShort (slice_get a.world.nodes (m - 1)) k) → ⊥
some_as_seen {S = S} {C = C} {O = O} rules config a moments k came is short =
    some_long rules config (whole_moment a) q.earlier k q.kept.came
    (λ xs agreed. is xs (agreed_back config (map whole_moment (a ∷ moments)) (whole_moment a ∷ q.earlier) xs q.covers agreed))
    (λ m i w e. shorter m i w (get_back (whole a.world.archive) a.world.nodes (m - 1) w e))
  where
    q : StandsFor rules config a moments
    q = moments_stand rules config a moments came

    shorter : (m : ℕ) → In m a.master.members → (w : WholeState S C) →
        (r : ReplicaState S C) × (slice_get a.world.nodes (m - 1) ≡ Some r) × (whole a.world.archive r ≡ w) → length w.log < k
    shorter m i w (r, e, same) =
        let low : places r.log < k = subst (λ (o : Option (ReplicaState S C)). IsShort o k) e (short m i) in
        let long = whole_long a.world.archive r.log (within_of rules config a moments came (m - 1) r e) in
        let z = ap (λ (x : WholeState S C). length x.log) same in omega (arith, low, long, z)

-- the front of a log is that of the record, or the record up to its base and a front of what is kept
pub front_recorded : {C : Type 0} (archive : List C) (log : Log C) (k : ℕ) → log.base ≤ length archive → k ≤ log.base →
    take k (whole_log archive log) ≡ take k archive
front_recorded archive log k within low =
    let long = length-take-le log.base archive within in
    take-append-le k (take log.base archive) log.rest (omega (arith, long, low)) ∙ take-take k log.base archive low

front_after : {X : Type 0} (xs ys : List X) (k : ℕ) → length xs ≤ k → take k (xs ++ ys) ≡ xs ++ take (k - length xs) ys
front_after [] ys k low = let e : k ≡ k - 0 = omega arith in ap (λ n. take n ys) e
front_after (x ∷ xs) ys zero low = absurd (omega (arith, low))
front_after (x ∷ xs) ys (suc k) low =
    let e : k - length xs ≡ suc k - length (x ∷ xs) = omega arith in
    ap (λ us. x ∷ us) (front_after xs ys k (omega (arith, low)) ∙ ap (λ n. xs ++ take n ys) e)

pub front_kept : {C : Type 0} (archive : List C) (log : Log C) (k : ℕ) → log.base ≤ length archive → log.base ≤ k →
    take k (whole_log archive log) ≡ take log.base archive ++ take (k - log.base) log.rest
front_kept archive log k within high =
    let long = length-take-le log.base archive within in
    front_after (take log.base archive) log.rest k (omega (arith, long, high))
    ∙ ap (λ n. take log.base archive ++ take (k - n) log.rest) long

-- so it is the agreed list, if the log is a member's and as long as that
pub front_agreed : {S C O : Type 0} (rules : Rules S C O) (config : Config) (a : Moment S C O) (moments : List (Moment S C O)) (k at : ℕ) →
    Moments rules config (a ∷ moments) → ((xs : List C) → IsAgreed config (map whole_moment (a ∷ moments)) xs → k ≡ length xs) →
    (h : HoldsAt a.world.nodes a.master.members k at) →
    IsAgreed config (map whole_moment (a ∷ moments)) (take k (whole_log a.world.archive h.replica.log))
front_agreed {S = S} {C = C} {O = O} rules config a moments k at came is h =
    agreed_back config (map whole_moment (a ∷ moments)) (whole_moment a ∷ q.earlier) (take k (whole_log a.world.archive h.replica.log)) q.covers
    (subst (λ (o : Option (WholeState S C)). IsAgreed config (whole_moment a ∷ q.earlier) (take k (log_of o))) there
    (member_front rules config (whole_moment a) q.earlier k h.member q.kept.came
    (λ xs agreed. is xs (agreed_back config (map whole_moment (a ∷ moments)) (whole_moment a ∷ q.earlier) xs q.covers agreed)) h.is_member
    (subst (λ (o : Option (WholeState S C)). k ≤ length (log_of o)) (sym there) long)))
  where
    q : StandsFor rules config a moments
    q = moments_stand rules config a moments came

    there : slice_get (map (whole a.world.archive) a.world.nodes) (h.member - 1) ≡ Some (whole a.world.archive h.replica)
    there = ap (slice_get (map (whole a.world.archive) a.world.nodes)) (sym h.index) ∙ get_whole (whole a.world.archive) a.world.nodes at h.replica h.stands

    long : k ≤ length (whole_log a.world.archive h.replica.log)
    long = let e = whole_long a.world.archive h.replica.log (within_of rules config a moments came at h.replica h.stands) in let l = h.long in omega (arith, e, l)

-- a node ignores a message exactly if it does nothing, since each snapshot that was sent can be
-- read
pub heeded : {S C O : Type 0} (rules : Rules S C O) (r seen : ReplicaState S C) (message : Message C) (heeds : Bool) → seen ≡ r →
    is_unread rules r message.body ≡ false →
    (heeds ≡ false → (replica_step rules seen (Receives message) ≡ nothing_done O seen) × (is_unread rules seen message.body ≡ false))
    × ((replica_step rules seen (Receives message) ≡ nothing_done O seen) × (is_unread rules seen message.body ≡ false) → heeds ≡ false) →
    (heeds ≡ false → replica_step rules r (Receives message) ≡ nothing_done O r) × (replica_step rules r (Receives message) ≡ nothing_done O r → heeds ≡ false)
heeded {S = S} {C = C} {O = O} rules r seen message heeds same read exactly = by_state (subst (λ (s : ReplicaState S C). Exactly s) same exactly)
  where
    Exactly : ReplicaState S C → Type 0
    Exactly s =
        (heeds ≡ false → (replica_step rules s (Receives message) ≡ nothing_done O s) × (is_unread rules s message.body ≡ false))
        × ((replica_step rules s (Receives message) ≡ nothing_done O s) × (is_unread rules s message.body ≡ false) → heeds ≡ false)

    by_state : Exactly r → (heeds ≡ false → replica_step rules r (Receives message) ≡ nothing_done O r) × (replica_step rules r (Receives message) ≡ nothing_done O r → heeds ≡ false)
    by_state (off, on) = (λ e. (off e).0, λ e. on (e, read))

-- so whatever a node takes is read
pub taken_is_read : {S C O : Type 0} (rules : Rules S C O) (config : Config) (a : Moment S C O) (moments : List (Moment S C O)) → Moments rules config (a ∷ moments) →
    (n : ℕ) (input : Input C) (r : ReplicaState S C) → MayTake a.world n input → IsRead rules r input
taken_is_read rules config a moments came n (Receives message) r sent = snapshots_are_read rules config a moments came (n + 1) message sent r
taken_is_read rules config a moments came n (Proposes command) r may = tt
taken_is_read rules config a moments came n Ticks r may = tt

-- the members that the master has are lawful
pub group_lawful : {S C O : Type 0} (rules : Rules S C O) (config : Config) (a : Moment S C O) (moments : List (Moment S C O)) → Moments rules config (a ∷ moments) →
    AreLawful a.master
group_lawful rules config a moments came =
    let q = moments_stand rules config a moments came in moments_lawful rules config (whole_moment a) q.earlier q.kept.came

-- so it is in two parts, as it is read
pub agreed_recorded : {S C O : Type 0} (rules : Rules S C O) (config : Config) (a : Moment S C O) (moments : List (Moment S C O)) (k at : ℕ) →
    Moments rules config (a ∷ moments) → ((xs : List C) → IsAgreed config (map whole_moment (a ∷ moments)) xs → k ≡ length xs) →
    (h : HoldsAt a.world.nodes a.master.members k at) → k ≤ h.replica.log.base →
    IsAgreed config (map whole_moment (a ∷ moments)) (take k a.world.archive ++ [])
agreed_recorded {S = S} {C = C} {O = O} rules config a moments k at came is h low =
    subst (λ (us : List C). IsAgreed config (map whole_moment (a ∷ moments)) us)
    (front_recorded a.world.archive h.replica.log k (within_of rules config a moments came at h.replica h.stands) low
    ∙ sym (append-nil (take k a.world.archive)))
    (front_agreed rules config a moments k at came is h)

pub agreed_kept : {S C O : Type 0} (rules : Rules S C O) (config : Config) (a : Moment S C O) (moments : List (Moment S C O)) (k at : ℕ) →
    Moments rules config (a ∷ moments) → ((xs : List C) → IsAgreed config (map whole_moment (a ∷ moments)) xs → k ≡ length xs) →
    (h : HoldsAt a.world.nodes a.master.members k at) → h.replica.log.base ≤ k →
    IsAgreed config (map whole_moment (a ∷ moments))
    (take h.replica.log.base a.world.archive ++ take (k - h.replica.log.base) h.replica.log.rest)
agreed_kept {S = S} {C = C} {O = O} rules config a moments k at came is h high =
    subst (λ (us : List C). IsAgreed config (map whole_moment (a ∷ moments)) us)
    (front_kept a.world.archive h.replica.log k (within_of rules config a moments came at h.replica h.stands) high)
    (front_agreed rules config a moments k at came is h)

pub agreed_read : {S C O : Type 0} (rules : Rules S C O) (config : Config) (a : Moment S C O) (moments : List (Moment S C O)) (k at base : ℕ) (read : List C) →
    Moments rules config (a ∷ moments) → ((xs : List C) → IsAgreed config (map whole_moment (a ∷ moments)) xs → k ≡ length xs) →
    (h : HoldsAt a.world.nodes a.master.members k at) → base ≡ h.replica.log.base → k ≤ base → read ≡ a.world.archive →
    IsAgreed config (map whole_moment (a ∷ moments)) (take k read ++ [])
agreed_read {S = S} {C = C} {O = O} rules config a moments k at base read came is h same low seen =
    subst (λ (us : List C). IsAgreed config (map whole_moment (a ∷ moments)) (take k us ++ [])) (sym seen)
    (agreed_recorded rules config a moments k at came is h (omega (arith, same, low)))

pub agreed_read_on : {S C O : Type 0} (rules : Rules S C O) (config : Config) (a : Moment S C O) (moments : List (Moment S C O)) (k at base : ℕ) (read rest : List C) →
    Moments rules config (a ∷ moments) → ((xs : List C) → IsAgreed config (map whole_moment (a ∷ moments)) xs → k ≡ length xs) →
    (h : HoldsAt a.world.nodes a.master.members k at) → base ≡ h.replica.log.base → base < k → read ≡ a.world.archive → rest ≡ h.replica.log.rest →
    IsAgreed config (map whole_moment (a ∷ moments)) (take base read ++ take (k - base) rest)
agreed_read_on {S = S} {C = C} {O = O} rules config a moments k at base read rest came is h same high seen kept =
    subst (λ (us : List C). IsAgreed config (map whole_moment (a ∷ moments)) us)
    (sym (ap (λ n. take n read ++ take (k - n) rest) same ∙ ap (λ us. take h.replica.log.base us ++ take (k - h.replica.log.base) rest) seen
    ∙ ap (λ us. take h.replica.log.base a.world.archive ++ take (k - h.replica.log.base) us) kept))
    (agreed_kept rules config a moments k at came is h (omega (arith, same, high)))
