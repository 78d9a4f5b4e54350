-- Continues.antt: the moments on whole logs continue with a group that cuts its logs. A moment in
-- between, before a node learns, has the master, the messages and the logs of the moment after it.
use Rattle.std.proofs.Common.{◌≡◌, ℕ, ◌+◌, ◌⊎◌, inl, inr, List, [], ◌∷◌, length, Some, refl, ap, sym, ◌∙◌, subst}
use Rattle.std.specs.Prelude.{slice_get}
use Rattle.lists.specs.Lists.{In, IsPrefixOf}
use Rattle.lists.specs.Lists.In.{here, there}
use Rattle.ballot_base.specs.declared.config.Config.{Config}
use Rattle.agreement.specs.whole_logs.Replica.{ReplicaState as WholeState}
use Rattle.machine.specs.Machine.{Rules}
use Rattle.agreement.specs.whole_logs.Messages.{Message as WholeMessage}
use Rattle.agreement.specs.whole_logs.Messages.Body.{Held, Installed}
use Rattle.agreement.specs.LeftOutputs.{LeftInOrder}
use Rattle.agreement.specs.MasterState.{MasterState}
use Rattle.agreement.specs.World.{GroupWorld as WholeWorld}
use Rattle.agreement.specs.Moments.{Moment, HasConfig, WasActive, HasAcknowledged, IsChosen, IsAgreed, AcknowledgedLength}
use Rattle.agreement.proofs.of_cut_logs.MoreMoments.{config_in, acknowledged_in}
use Rattle.agreement.specs.Moments.HasConfig.{opened_with, was_assigned}
use Rattle.agreement.specs.Moments.HasAcknowledged.{told_as_log, told_by_message}

-- what was acknowledged, given and active at one moment is so at another
pub record TellsAs {S C O : Type 0} (c d : Moment S C O) : Type 0 where
  pub master : c.master ≡ d.master
  pub sent : c.world.sent ≡ d.world.sent
  pub nodes : (n : ℕ) (r : WholeState S C) → slice_get c.world.nodes n ≡ Some r →
      (s : WholeState S C) × (slice_get d.world.nodes n ≡ Some s) × (s.log ≡ r.log) × (s.held_in ≡ r.held_in)

pub tells_same : {S C O : Type 0} (c : Moment S C O) → TellsAs c c
tells_same c = record { master = refl; sent = refl; nodes = λ n r e. (r, e, refl, refl) }

-- all moments stay, and the new ones say what the last one does
pub record Continues {S C O : Type 0} (before : List (Moment S C O)) (a : Moment S C O) (more : List (Moment S C O)) : Type 0 where
  pub all : (c : Moment S C O) → In c before → In c (a ∷ more)
  pub none_else : (c : Moment S C O) → In c (a ∷ more) → In c before ⊎ TellsAs c a

-- one moment more
pub one_more : {S C O : Type 0} (before : List (Moment S C O)) (a : Moment S C O) → Continues before a before
one_more {S = S} {C = C} {O = O} before a = record { all = λ c i. there i; none_else = λ c i. by_place c i }
  where
    by_place : (c : Moment S C O) → In c (a ∷ before) → In c before ⊎ TellsAs c a
    by_place c here = inr (tells_same a)
    by_place c (there i) = inl i

-- two, of which the first is in between
pub two_more : {S C O : Type 0} (before : List (Moment S C O)) (a middle : Moment S C O) → TellsAs middle a → Continues before a (middle ∷ before)
two_more {S = S} {C = C} {O = O} before a middle tells = record { all = λ c i. there (there i); none_else = λ c i. by_place c i }
  where
    by_place : (c : Moment S C O) → In c (a ∷ middle ∷ before) → In c before ⊎ TellsAs c a
    by_place c here = inr (tells_same a)
    by_place c (there here) = inr tells
    by_place c (there (there i)) = inl i

-- none, if the last one stays as it was
pub none_more : {S C O : Type 0} (a b : Moment S C O) (earlier : List (Moment S C O)) → b ≡ a → Continues (a ∷ earlier) b earlier
none_more {S = S} {C = C} {O = O} a b earlier same =
    subst (λ (x : Moment S C O). Continues (a ∷ earlier) x earlier) (sym same) (record { all = λ c i. i; none_else = λ c i. inl i })

-- one list of moments has those of another, and what else it acknowledges is acknowledged in that,
-- too
pub record Covers {S C O : Type 0} (short long : List (Moment S C O)) : Type 0 where
  pub all : (c : Moment S C O) → In c short → In c long
  pub none_else : (c : Moment S C O) → In c long → (d : Moment S C O) × In d short × TellsAs c d

pub covers_first : {S C O : Type 0} (a : Moment S C O) → Covers (a ∷ []) (a ∷ [])
covers_first a = record { all = λ c i. i; none_else = λ c i. (c, i, tells_same c) }

pub covers_more : {S C O : Type 0} (short long : List (Moment S C O)) (a : Moment S C O) (more : List (Moment S C O)) → Covers short long →
    Continues long a more → Covers (a ∷ short) (a ∷ more)
covers_more {S = S} {C = C} {O = O} short long a more q k = record { all = λ c i. by_place c i; none_else = λ c i. by_age c (k.none_else c i) }
  where
    by_place : (c : Moment S C O) → In c (a ∷ short) → In c (a ∷ more)
    by_place c here = here
    by_place c (there i) = k.all c (q.all c i)

    by_age : (c : Moment S C O) → In c long ⊎ TellsAs c a → (d : Moment S C O) × In d (a ∷ short) × TellsAs c d
    by_age c (inl i) = let z = q.none_else c i in (z.0, there z.1, z.2)
    by_age c (inr t) = (a, here, t)

-- so the two have the same ballots, what was acknowledged in them, and what was chosen
config_back : {S C O : Type 0} (config : Config) (short long : List (Moment S C O)) → Covers short long → (b : ℕ) (c : Config) →
    HasConfig config long b c → HasConfig config short b c
config_back config short long q b c (opened_with one same) = opened_with one same
config_back config short long q b c (was_assigned a i waits) =
    let z = q.none_else a i in was_assigned z.0 z.1 (ap (λ (m : MasterState). m.waiting) (sym z.2.master) ∙ waits)

active_back : {S C O : Type 0} (short long : List (Moment S C O)) → Covers short long → (b : ℕ) → WasActive long b → WasActive short b
active_back short long q b (a, i, e) = let z = q.none_else a i in (z.0, z.1, ap (λ (m : MasterState). m.active) (sym z.2.master) ∙ e)

sent_back : {S C O : Type 0} (w v : WholeWorld S C O) (member b held : ℕ) → w.sent ≡ v.sent → AcknowledgedLength w member b held → AcknowledgedLength v member b held
sent_back {S = S} {C = C} {O = O} w v member b held e (receiver, inl i) =
    (receiver, inl (subst (λ (us : List (ℕ × WholeMessage C)). In (receiver, record { from = member; body = Held b held }) us) e i))
sent_back {S = S} {C = C} {O = O} w v member b held e (receiver, inr i) =
    (receiver, inr (subst (λ (us : List (ℕ × WholeMessage C)). In (receiver, record { from = member; body = Installed b held }) us) e i))

told_back : {S C O : Type 0} (config : Config) (short long : List (Moment S C O)) → Covers short long → (b n : ℕ) (xs : List C) →
    HasAcknowledged config long b n xs → HasAcknowledged config short b n xs
told_back config short long q b n xs (told_as_log a r c i stands held has primary is) =
    let z = q.none_else a i in let y = z.2.nodes n r stands in
    told_as_log z.0 y.0 c z.1 y.1 (y.3 ∙ held) (config_back config short long q b c has) primary (y.2 ∙ is)
told_back {S = S} {C = C} {O = O} config short long q b n xs (told_by_message a r i stands held sent front) =
    let z = q.none_else a i in let y = z.2.nodes n r stands in
    told_by_message z.0 y.0 z.1 y.1 (y.3 ∙ held) (sent_back a.world z.0.world (n + 1) b (length xs) z.2.sent sent)
    (subst (λ (us : List C). IsPrefixOf xs us) (sym y.2) front)

-- .. and in the other way, since no moment is missing
chosen_in : {S C O : Type 0} (config : Config) (short long : List (Moment S C O)) → Covers short long → (b : ℕ) (xs : List C) →
    IsChosen config short b xs → IsChosen config long b xs
chosen_in config short long q b xs (c, has, all) =
    (c, config_in config short long q.all b c has, λ n j. let z = all n j in (z.0, acknowledged_in config short long q.all b n z.0 z.1, z.2))

chosen_back : {S C O : Type 0} (config : Config) (short long : List (Moment S C O)) → Covers short long → (b : ℕ) (xs : List C) →
    IsChosen config long b xs → IsChosen config short b xs
chosen_back config short long q b xs (c, has, all) =
    (c, config_back config short long q b c has, λ n j. let z = all n j in (z.0, told_back config short long q b n z.0 z.1, z.2))

active_in : {S C O : Type 0} (short long : List (Moment S C O)) → Covers short long → (b : ℕ) → WasActive short b → WasActive long b
active_in short long q b (a, i, e) = (a, q.all a i, e)

-- the agreed lists of the two are the same
pub agreed_back : {S C O : Type 0} (config : Config) (short long : List (Moment S C O)) (xs : List C) → Covers short long →
    IsAgreed config long xs → IsAgreed config short xs
agreed_back {S = S} {C = C} {O = O} config short long xs q agreed = record {
  chosen = by_chosen agreed.chosen;
  longest = λ b ys was is. agreed.longest b ys (active_in short long q b was) (chosen_in config short long q b ys is);
}
  where
    by_chosen : (xs ≡ []) ⊎ ((b : ℕ) × WasActive long b × IsChosen config long b xs) → (xs ≡ []) ⊎ ((b : ℕ) × WasActive short b × IsChosen config short b xs)
    by_chosen (inl nothing) = inl nothing
    by_chosen (inr (b, was, is)) = inr (b, active_back short long q b was, chosen_back config short long q b xs is)

pub agreed_in : {S C O : Type 0} (config : Config) (short long : List (Moment S C O)) (xs : List C) → Covers short long →
    IsAgreed config short xs → IsAgreed config long xs
agreed_in {S = S} {C = C} {O = O} config short long xs q agreed = record {
  chosen = by_chosen agreed.chosen;
  longest = λ b ys was is. agreed.longest b ys (active_back short long q b was) (chosen_back config short long q b ys is);
}
  where
    by_chosen : (xs ≡ []) ⊎ ((b : ℕ) × WasActive short b × IsChosen config short b xs) → (xs ≡ []) ⊎ ((b : ℕ) × WasActive long b × IsChosen config long b xs)
    by_chosen (inl nothing) = inl nothing
    by_chosen (inr (b, was, is)) = inr (b, active_in short long q b was, chosen_in config short long q b xs is)

-- what left in ballots that were active left in such ballots
pub left_back : {S C O : Type 0} (rules : Rules S C O) (short long : List (Moment S C O)) (w : WholeWorld S C O) (xs : List C) → Covers short long →
    LeftInOrder rules long w xs → LeftInOrder rules short w xs
left_back rules short long w xs q left = record {
  segments = left.segments;
  left = left.left;
  inside = left.inside;
  given = λ s i. active_back short long q s.ballot (left.given s i);
  in_order = left.in_order;
}
