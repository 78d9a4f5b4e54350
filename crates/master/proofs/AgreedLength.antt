-- AgreedLength.antt: the counters give the length of the agreed list.
use Rattle.std.proofs.Common.{◌≡◌, ℕ, ◌+◌, ◌-◌, ◌<◌, ◌≤◌, ◌⊎◌, inl, inr, true, cond, min, List, [], ◌∷◌, length, take, get_or, Some, None, Option, refl, ap, sym, ◌∙◌, subst, arith}
use Rattle.std.specs.Prelude.{slice_get, ◌==◌, ◌&&◌, nat_lt, nat_le}
use Rattle.std.proofs.lemmas.Bool.{and_parts, cases_eq, cases_lt, eq-eqb, ne_eqb, le-ltb, lt-ltb}
use Rattle.std.proofs.lemmas.List.{length-take-le}
use Rattle.machine.specs.Machine.{Rules}
use Rattle.lists.specs.Lists.{In, IsPrefixOf}
use Rattle.lists.specs.Lists.In.{here, there}
use Rattle.lists.proofs.Prefixes.{prefix_length, prefix_then, take_prefix}
use Rattle.ballot_base.specs.declared.config.Config.{Config}
use Rattle.ballot_base.specs.LawfulConfig.{are_rising}
use Rattle.agreement.specs.whole_logs.Messages.{Message}
use Rattle.agreement.specs.whole_logs.Messages.{Body}
use Rattle.agreement.specs.whole_logs.Messages.Body.{NewBallot, Join, State, Install, Installed, Activate, Activated, Superseded, Append, Held, Commit}
use Rattle.agreement.specs.whole_logs.Replica.{ReplicaState}
use Rattle.agreement.specs.World.{GroupWorld, log_of}
use Rattle.agreement.specs.Moments.{Moment, Moments, IsAgreed}
use Rattle.agreement.specs.Agreement.{Holds}
use Rattle.agreement.specs.Inside.Ballots.{Given, History, Line}
use Rattle.agreement.specs.Inside.BallotsStand.{IsChain}
use Rattle.agreement.specs.Inside.Ballots.Acknowledged.{told_as_primary}
use Rattle.agreement.specs.Inside.Chosen.{ChosenList, IsAgreedIn}
use Rattle.agreement.specs.Inside.Serves.{Serves}
use Rattle.agreement.specs.Inside.Sound.{IsSoundWorld}
use Rattle.agreement.specs.Inside.MessageMeaning.{SpeaksTruth}
use Rattle.agreement.specs.Inside.AcknowledgedLengths.{chosen_length, least_of, max_acknowledged, acknowledged_by, acknowledged_in, acknowledged_length}
use Rattle.agreement.proofs.Agreed.AgreedExists.{least_each, least_most, least_top, newest_agreed}
use Rattle.agreement.proofs.Agreed.MaxAcknowledged.{one_given, told_whole}
use Rattle.agreement.proofs.Agreed.MomentsAgree.{agreed_known, has_agreed, nodes_agree}
use Rattle.agreement.proofs.Agreed.MomentsKnown.{moments_known}
use Rattle.agreement.proofs.Frame.Bases.{chosen_told, one_line}
use Rattle.agreement.proofs.Frame.Framing.{within_of}
use Rattle.agreement.proofs.Frame.SaysLater.{told_less}
use Rattle.agreement.proofs.Masters.Assigned.{at_most_newest}
use Rattle.master.specs.Inside.{AcknowledgedIn, least_but_one, next_least}
use Rattle.master.proofs.Untold.{told_none}
use Rattle.master.proofs.Lawful.{AreLawful, moments_lawful, rising_above}

-- the least with a lower bound
least_lower : (top x : ℕ) (f : ℕ → ℕ) (ms : List ℕ) → least_of (min top x) f ms ≡ min x (least_of top f ms)
least_lower top x f [] = omega arith
least_lower top x f (m ∷ ms) =
    let e = least_lower top x f ms in
    let g : min (f m) (least_of (min top x) f ms) ≡ min x (min (f m) (least_of top f ms)) = omega (arith, e) in g

-- the same numbers have the same least
least_same : (top : ℕ) (f g : ℕ → ℕ) (ms : List ℕ) → ((m : ℕ) → In m ms → f m ≡ g m) → least_of top f ms ≡ least_of top g ms
least_same top f g [] same = refl
least_same top f g (m ∷ ms) same =
    let e = same m here in let d = least_same top f g ms (λ x i. same x (there i)) in
    let z : min (f m) (least_of top f ms) ≡ min (g m) (least_of top g ms) = omega (arith, e, d) in z

-- a pair of numbers, the least of them 0
next_after_zero : (next x : ℕ) → next_least 0 next x ≡ (0, min next x)
next_after_zero next x = ap (λ b. cond b (x, 0) (0, min next x)) (le-ltb x 0 (omega arith))

next_lower : (least next x : ℕ) → x < least → next_least least next x ≡ (x, least)
next_lower least next x low = ap (λ b. cond b (x, least) (least, min next x)) (lt-ltb x least low)

next_higher : (least next x : ℕ) → least ≤ x → next_least least next x ≡ (least, min next x)
next_higher least next x high = ap (λ b. cond b (x, least) (least, min next x)) (le-ltb x least high)

-- after a 0 the second is the least of the others
after_zero : (told : List ℕ) (next : ℕ) (ms : List ℕ) → least_but_one told 0 next ms ≡ least_of next (λ m. get_or told m 0) ms
after_zero told next [] = refl
after_zero told next (m ∷ ms) =
    ap (λ (p : ℕ × ℕ). least_but_one told p.0 p.1 ms) (next_after_zero next (get_or told m 0))
    ∙ after_zero told (min next (get_or told m 0)) ms ∙ least_lower next (get_or told m 0) (λ x. get_or told x 0) ms

-- what the others acknowledged, if one member acknowledged nothing
abbrev pub told_or : ℕ → ℕ → List ℕ → ℕ → ℕ
told_or top p told m = cond (m == p) top (get_or told m 0)

told_or_other : (top p : ℕ) (told : List ℕ) (m : ℕ) → (m ≡ p → ⊥) → told_or top p told m ≡ get_or told m 0
told_or_other top p told m ne = ap (λ b. cond b top (get_or told m 0)) (ne_eqb m p ne)

told_or_same : (top p : ℕ) (told : List ℕ) → told_or top p told p ≡ top
told_or_same top p told = ap (λ b. cond b top (get_or told p 0)) (eq-eqb p p refl)

in_either : {X : Type 0} (k m : X) (ms : List X) → In k (m ∷ ms) → (k ≡ m) ⊎ In k ms
in_either k m ms here = inl refl
in_either k m ms (there i) = inr i

second_more : (told : List ℕ) (p top greatest last least next m : ℕ) (ms : List ℕ) →
    ((l n : ℕ) → In p ms → l ≤ n → l ≤ top → least_but_one told l n ms ≡ least_of l (told_or top p told) ms) →
    are_rising greatest last (m ∷ ms) ≡ true → In p (m ∷ ms) → get_or told p 0 ≡ 0 → least ≤ next → least ≤ top →
    least_but_one told least next (m ∷ ms) ≡ least_of least (told_or top p told) (m ∷ ms)
second_more told p top greatest last least next m ms later rising i none low bound = by_member (cases_eq m p) i
  where
    rest : are_rising greatest m ms ≡ true
    rest = (and_parts (nat_lt last m && nat_le m greatest) (are_rising greatest m ms) rising).1

    step : (a b : ℕ) → next_least least next (get_or told m 0) ≡ (a, b) → least_but_one told least next (m ∷ ms) ≡ least_but_one told a b ms
    step a b e = ap (λ (x : ℕ × ℕ). least_but_one told x.0 x.1 ms) e

    others : m ≡ p → (x : ℕ) → In x ms → get_or told x 0 ≡ told_or top p told x
    others same x j = sym (told_or_other top p told x (λ e. let z = (rising_above greatest m ms x rest j).0 in omega (arith, e, same, z)))

    found : m ≡ p → least_but_one told least next (m ∷ ms) ≡ least_of least (told_or top p told) (m ∷ ms)
    found same =
        let zero_here : get_or told m 0 ≡ 0 = ap (λ x. get_or told x 0) same ∙ none in
        let after : least_of least (λ x. get_or told x 0) ms ≡ least_of least (told_or top p told) ms = least_same least _ _ ms (others same) in
        let most = least_top least (told_or top p told) ms in
        let t : told_or top p told m ≡ top = ap (told_or top p told) same ∙ told_or_same top p told in
        let whole : least_of least (told_or top p told) ms ≡ min (told_or top p told m) (least_of least (told_or top p told) ms) = omega (arith, t, most, bound) in
        by_least (cases_lt 0 least) zero_here (after ∙ whole)
      where
        by_least : (0 < least) ⊎ (least ≤ 0) → get_or told m 0 ≡ 0 →
            least_of least (λ x. get_or told x 0) ms ≡ least_of least (told_or top p told) (m ∷ ms) →
            least_but_one told least next (m ∷ ms) ≡ least_of least (told_or top p told) (m ∷ ms)
        by_least (inl more) e f =
            step 0 least (ap (next_least least next) e ∙ next_lower least next 0 more) ∙ after_zero told least ms ∙ f
        by_least (inr none_left) e f =
            let z : least ≡ 0 = omega (arith, none_left) in
            step 0 least (ap (next_least least next) e ∙ next_higher least next 0 (omega (arith, z)) ∙ ap (λ x. (x, min next 0)) z
            ∙ ap (λ x. (0, x)) (let y : min next 0 ≡ least = omega (arith, z) in y)) ∙ after_zero told least ms ∙ f

    by_rest : (m ≡ p → ⊥) → In p ms → least_but_one told least next (m ∷ ms) ≡ least_of least (told_or top p told) (m ∷ ms)
    by_rest ne j = by_order (cases_lt (get_or told m 0) least)
      where
        own : told_or top p told m ≡ get_or told m 0
        own = told_or_other top p told m ne

        by_order : (get_or told m 0 < least) ⊎ (least ≤ get_or told m 0) →
            least_but_one told least next (m ∷ ms) ≡ least_of least (told_or top p told) (m ∷ ms)
        by_order (inl less) =
            step (get_or told m 0) least (next_lower least next (get_or told m 0) less)
            ∙ later (get_or told m 0) least j (omega (arith, less)) (omega (arith, less, bound))
            ∙ ap (λ x. least_of x (told_or top p told) ms) (let y : get_or told m 0 ≡ min least (get_or told m 0) = omega (arith, less) in y)
            ∙ least_lower least (get_or told m 0) (told_or top p told) ms
            ∙ ap (λ x. min x (least_of least (told_or top p told) ms)) (sym own)
        by_order (inr more) =
            let most = least_top least (told_or top p told) ms in
            step least (min next (get_or told m 0)) (next_higher least next (get_or told m 0) more)
            ∙ later least (min next (get_or told m 0)) j (omega (arith, low, more)) bound
            ∙ (let y : least_of least (told_or top p told) ms ≡ min (told_or top p told m) (least_of least (told_or top p told) ms) = omega (arith, own, most, more) in y)

    by_place : (m ≡ p → ⊥) → (p ≡ m) ⊎ In p ms → least_but_one told least next (m ∷ ms) ≡ least_of least (told_or top p told) (m ∷ ms)
    by_place ne (inl e) = absurd (ne (sym e))
    by_place ne (inr k) = by_rest ne k

    by_member : (m ≡ p) ⊎ (m ≡ p → ⊥) → In p (m ∷ ms) → least_but_one told least next (m ∷ ms) ≡ least_of least (told_or top p told) (m ∷ ms)
    by_member (inl same) j = found same
    by_member (inr ne) j = by_place ne (in_either p m ms j)

pub second_is : (told : List ℕ) (p top greatest last least next : ℕ) (ms : List ℕ) → are_rising greatest last ms ≡ true → In p ms → get_or told p 0 ≡ 0 → least ≤ next → least ≤ top →
    least_but_one told least next ms ≡ least_of least (told_or top p told) ms
second_is told p top greatest last least next [] rising i none low bound = elim i [ ]
second_is told p top greatest last least next (m ∷ ms) rising i none low bound =
    second_more told p top greatest last least next m ms
    (λ l n j a b. second_is told p top greatest m l n ms (and_parts (nat_lt last m && nat_le m greatest) (are_rising greatest m ms) rising).1 j none a b)
    rising i none low bound

-- a primary says nothing by messages
primary_silent : {S C O : Type 0} (w : GroupWorld S C O) (h : History C) (b : ℕ) (g : Given) (to from : ℕ) (body : Body C) → SpeaksTruth w h to from body →
    h.given b ≡ Some g → (from ≡ g.primary) → acknowledged_by b body ≡ 0
primary_silent w h b g to from (NewBallot x members a old) says given is = refl
primary_silent w h b g to from (Join x a) says given is = refl
primary_silent w h b g to from (State x log) says given is = refl
primary_silent w h b g to from (Install x log) says given is = refl
primary_silent w h b g to from (Installed x held) says given is = by_ballot (cases_eq x b)
  where
    by_ballot : (x ≡ b) ⊎ (x ≡ b → ⊥) → cond (x == b) held 0 ≡ 0
    by_ballot (inl e) =
        let same : says.0 ≡ g = one_given (h.given b) says.0 g (ap h.given (sym e) ∙ says.1.given) given in
        absurd (says.3.1 (is ∙ ap (λ (k : Given). k.primary) (sym same)))
    by_ballot (inr ne) = ap (λ k. cond k held 0) (ne_eqb x b ne)
primary_silent w h b g to from (Activate x) says given is = refl
primary_silent w h b g to from (Activated x) says given is = refl
primary_silent w h b g to from (Superseded x) says given is = refl
primary_silent w h b g to from (Append x place command) says given is = refl
primary_silent w h b g to from (Held x held) says given is = by_ballot (cases_eq x b)
  where
    by_ballot : (x ≡ b) ⊎ (x ≡ b → ⊥) → cond (x == b) held 0 ≡ 0
    by_ballot (inl e) =
        let same : says.0 ≡ g = one_given (h.given b) says.0 g (ap h.given (sym e) ∙ says.1) given in
        absurd (says.3.1 (is ∙ ap (λ (k : Given). k.primary) (sym same)))
    by_ballot (inr ne) = ap (λ k. cond k held 0) (ne_eqb x b ne)
primary_silent w h b g to from (Commit x held) says given is = refl

primary_told : {S C O : Type 0} (rules : Rules S C O) (w : GroupWorld S C O) (h : History C) (b : ℕ) (g : Given) → IsSoundWorld rules w h → h.given b ≡ Some g →
    max_acknowledged g.primary b w.sent ≡ 0
primary_told {S = S} {C = C} rules w h b g s given = told_none g.primary b w.sent (λ x i. by_sender x i (cases_eq x.1.from g.primary))
  where
    by_sender : (x : ℕ × Message C) → In x w.sent → (x.1.from ≡ g.primary) ⊎ (x.1.from ≡ g.primary → ⊥) → acknowledged_in g.primary b x.1 ≡ 0
    by_sender x i (inl e) =
        ap (λ k. cond k (acknowledged_by b x.1.body) 0) (eq-eqb x.1.from g.primary e) ∙ primary_silent w h b g x.0 x.1.from x.1.body (s.said x.0 x.1 i) given e
    by_sender x i (inr ne) = ap (λ k. cond k (acknowledged_by b x.1.body) 0) (ne_eqb x.1.from g.primary ne)

-- the agreed list is the front that all members of the active ballot acknowledged
pub record IsFront {S C O : Type 0} (rules : Rules S C O) (a : Moment S C O) (xs : List C) : Type 0 where
  pub history : History C
  pub serves : Serves rules a.master a.world history
  pub given : Given
  pub line : Line C
  pub is_given : history.given a.master.active ≡ Some given
  pub members : given.members ≡ a.master.members
  pub active : In a.master.active history.activated
  pub lined : history.line a.master.active ≡ Some line
  pub is : xs ≡ take (chosen_length a.world.sent a.master.active given line) line.list

prefix_both : {X : Type 0} {xs ys : List X} → IsPrefixOf xs ys → IsPrefixOf ys xs → xs ≡ ys
prefix_both {X = X} {xs = xs} {ys = ys} p q =
    let a = prefix_length p in let b = prefix_length q in
    sym (whole xs) ∙ sym (take_prefix (length xs) p (omega arith)) ∙ ap (λ k. take k ys) (let e : length xs ≡ length ys = omega (arith, a, b) in e) ∙ whole ys
  where
    whole : (us : List X) → take (length us) us ≡ us
    whole [] = refl
    whole (x ∷ us) = ap (λ vs. x ∷ vs) (whole us)

agreed_front : {S C O : Type 0} (rules : Rules S C O) (config : Config) (a : Moment S C O) (moments : List (Moment S C O)) (xs : List C) →
    Moments rules config (a ∷ moments) → IsAgreed config (a ∷ moments) xs → IsFront rules a xs
agreed_front {S = S} {C = C} {O = O} rules config a moments xs came agreed =
    let q = moments_known rules config a moments came in
    let s = q.serves.sound in
    let k = q.serves.master in
    let active : In a.master.active q.history.activated = subst (λ bs. In a.master.active bs) (sym k.newest) here in
    let t = s.lines.told a.master.active active in
    let g = k.active_members in
    let one = agreed_known rules config a moments q xs agreed in
    let two = newest_agreed rules a.world q.history a.master.active k.older g.0 t.0 s k.newest g.1 t.1 in
    record {
      history = q.history;
      serves = q.serves;
      given = g.0;
      line = t.0;
      is_given = g.1;
      members = g.2;
      active = active;
      lined = t.1;
      is = prefix_both (begins xs _ one two) (begins _ xs two one);
    }
  where
    begins : {w : GroupWorld S C O} {h : History C} (us vs : List C) → IsAgreedIn w h us → IsAgreedIn w h vs → IsPrefixOf us vs
    begins {w = w} {h = h} us vs x y = by_chosen x.chosen
      where
        by_chosen : (us ≡ []) ⊎ ChosenList w h us → IsPrefixOf us vs
        by_chosen (inl none) = subst (λ (zs : List C). IsPrefixOf zs vs) (sym none) (record { rest = vs; is = refl })
        by_chosen (inr c) = y.longest us c

front_length : {S C O : Type 0} (rules : Rules S C O) (a : Moment S C O) (xs : List C) → (f : IsFront rules a xs) →
    length xs ≡ chosen_length a.world.sent a.master.active f.given f.line
front_length rules a xs f =
    ap length f.is
    ∙ length-take-le (chosen_length a.world.sent a.master.active f.given f.line) f.line.list
    (least_top (length f.line.list) (acknowledged_length a.world.sent a.master.active f.given f.line) f.given.members)

-- what another member acknowledged
other_told : {S C O : Type 0} (a : Moment S C O) (g : Given) (l : Line C) (m : ℕ) → (m ≡ g.primary → ⊥) →
    acknowledged_length a.world.sent a.master.active g l m ≡ max_acknowledged m a.master.active a.world.sent
other_told a g l m ne = ap (λ k. cond k (length l.list) (max_acknowledged m a.master.active a.world.sent)) (ne_eqb m g.primary ne)

primary_length : {S C O : Type 0} (a : Moment S C O) (g : Given) (l : Line C) (m : ℕ) → m ≡ g.primary →
    acknowledged_length a.world.sent a.master.active g l m ≡ length l.list
primary_length a g l m e = ap (λ k. cond k (length l.list) (max_acknowledged m a.master.active a.world.sent)) (eq-eqb m g.primary e)

-- it lies within the ballot's list
told_within : {S C O : Type 0} (rules : Rules S C O) (a : Moment S C O) (xs : List C) → (f : IsFront rules a xs) → (m : ℕ) → In m a.master.members →
    acknowledged_length a.world.sent a.master.active f.given f.line m ≤ length f.line.list
told_within rules a xs f m i =
    let s = f.serves.sound in
    let w = a.world in
    let h = f.history in
    let b = a.master.active in
    let t = s.lines.told b f.active in
    let j : In m f.given.members = subst (λ ms. In m ms) (sym f.members) i in
    let told = told_less w h m b (length t.0.base) 0 (omega arith) (chosen_told w h b (length t.0.base) f.given m t.2 f.is_given j) in
    within_of rules w h s m b (acknowledged_length w.sent b f.given f.line m) f.line f.lined
    (told_whole w h m b f.given f.line f.is_given f.lined told)

-- with two members and more, the agreed list is as long as what all but the primary acknowledged
pub counted_length : {S C O : Type 0} (rules : Rules S C O) (config : Config) (a : Moment S C O) (moments : List (Moment S C O)) (xs : List C) (told : AcknowledgedIn) (top : ℕ) →
    Moments rules config (a ∷ moments) → IsAgreed config (a ∷ moments) xs → a.master.greatest ≡ 15 → told.ballot ≡ a.master.active → ((m : ℕ) → m < 16 → get_or told.held m 0 ≡ max_acknowledged m told.ballot a.world.sent) →
    ((m : ℕ) → get_or told.held m 0 ≤ top) → (length a.master.members ≡ 1 → ⊥) →
    least_but_one told.held top top a.master.members ≡ length xs
counted_length {S = S} {C = C} {O = O} rules config a moments xs told top came agreed bounded active counted bound several =
    second_is told.held f.given.primary top a.master.greatest 0 top top a.master.members lawful.active led none (omega arith) (omega arith)
    ∙ (let x = up in let y = down in let z : least_of top (told_or top f.given.primary told.held) a.master.members ≡ chosen_length a.world.sent a.master.active f.given f.line = omega (arith, x, y) in z)
    ∙ sym (front_length rules a xs f)
  where
    f : IsFront rules a xs
    f = agreed_front rules config a moments xs came agreed

    lawful : AreLawful a.master
    lawful = moments_lawful rules config a moments came

    led : In f.given.primary a.master.members
    led = subst (λ ms. In f.given.primary ms) f.members (f.serves.sound.ballots.led a.master.active f.given f.is_given)

    counts : (m : ℕ) → In m a.master.members → get_or told.held m 0 ≡ max_acknowledged m a.master.active a.world.sent
    counts m i = counted m (let high = (rising_above a.master.greatest 0 a.master.members m lawful.active i).1 in omega (arith, bounded, high)) ∙ ap (λ b. max_acknowledged m b a.world.sent) active

    none : get_or told.held f.given.primary 0 ≡ 0
    none = counts f.given.primary led ∙ primary_told rules a.world f.history a.master.active f.given f.serves.sound f.is_given

    -- a member that is not the primary
    another : (ms : List ℕ) → (length ms ≡ 1 → ⊥) → are_rising a.master.greatest 0 ms ≡ true → In f.given.primary ms → (m : ℕ) × In m ms × (m ≡ f.given.primary → ⊥)
    another [] many rising i = elim i [ ]
    another (m ∷ []) many rising i = absurd (many refl)
    another (m ∷ (o ∷ ms)) many rising i =
        let above = (rising_above a.master.greatest m (o ∷ ms) o (and_parts (nat_lt 0 m && nat_le m a.master.greatest) (are_rising a.master.greatest m (o ∷ ms)) rising).1 here).0 in
        by_first (cases_eq m f.given.primary) above
      where
        by_first : (m ≡ f.given.primary) ⊎ (m ≡ f.given.primary → ⊥) → m < o → (k : ℕ) × In k (m ∷ (o ∷ ms)) × (k ≡ f.given.primary → ⊥)
        by_first (inl e) less = (o, there here, λ z. omega (arith, e, z, less))
        by_first (inr ne) less = (m, here, ne)

    other : (m : ℕ) × In m a.master.members × (m ≡ f.given.primary → ⊥)
    other = another a.master.members several lawful.active led

    chosen : ℕ
    chosen = chosen_length a.world.sent a.master.active f.given f.line

    least : ℕ
    least = least_of top (told_or top f.given.primary told.held) a.master.members

    -- what one of the others acknowledged, by both definitions
    same : (m : ℕ) → In m a.master.members → (m ≡ f.given.primary → ⊥) →
        told_or top f.given.primary told.held m ≡ acknowledged_length a.world.sent a.master.active f.given f.line m
    same m i ne = told_or_other top f.given.primary told.held m ne ∙ counts m i ∙ sym (other_told a f.given f.line m ne)

    chosen_each : (m : ℕ) → In m a.master.members → chosen ≤ acknowledged_length a.world.sent a.master.active f.given f.line m
    chosen_each m i =
        least_each (length f.line.list) (acknowledged_length a.world.sent a.master.active f.given f.line) f.given.members m (subst (λ ms. In m ms) (sym f.members) i)

    least_other : (m : ℕ) → In m a.master.members → least ≤ told_or top f.given.primary told.held m
    least_other m i = least_each top (told_or top f.given.primary told.held) a.master.members m i

    up : least ≤ chosen
    up =
        least_most (length f.line.list) (acknowledged_length a.world.sent a.master.active f.given f.line) f.given.members least low
        (λ m i. by_member m (subst (λ ms. In m ms) f.members i) (cases_eq m f.given.primary))
      where
        low : least ≤ length f.line.list
        low =
            let a1 = least_other other.0 other.1 in let a2 = same other.0 other.1 other.2 in let a3 = told_within rules a xs f other.0 other.1 in
            omega (arith, a1, a2, a3)

        by_member : (m : ℕ) → In m a.master.members → (m ≡ f.given.primary) ⊎ (m ≡ f.given.primary → ⊥) →
            least ≤ acknowledged_length a.world.sent a.master.active f.given f.line m
        by_member m i (inl e) = let z = primary_length a f.given f.line m e in let y = low in omega (arith, z, y)
        by_member m i (inr ne) = let z = same m i ne in let y = least_other m i in omega (arith, z, y)

    down : chosen ≤ least
    down =
        least_most top (told_or top f.given.primary told.held) a.master.members chosen high (λ m i. by_member m i (cases_eq m f.given.primary))
      where
        high : chosen ≤ top
        high =
            let a1 = chosen_each other.0 other.1 in let a2 = same other.0 other.1 other.2 in
            let a3 = told_or_other top f.given.primary told.held other.0 other.2 in let a4 = bound other.0 in
            omega (arith, a1, a2, a3, a4)

        by_member : (m : ℕ) → In m a.master.members → (m ≡ f.given.primary) ⊎ (m ≡ f.given.primary → ⊥) → chosen ≤ told_or top f.given.primary told.held m
        by_member m i (inl e) =
            let z : told_or top f.given.primary told.held m ≡ top = ap (told_or top f.given.primary told.held) e ∙ told_or_same top f.given.primary told.held in
            let y = high in omega (arith, z, y)
        by_member m i (inr ne) = let z = same m i ne in let y = chosen_each m i in omega (arith, z, y)

-- the log of a sole member is no longer than its ballot's list, whichever ballot it went over to
sole_within : {S C O : Type 0} (rules : Rules S C O) (a : Moment S C O) (xs : List C) → (f : IsFront rules a xs) → (n : ℕ) (r : ReplicaState S C) →
    slice_get a.world.nodes n ≡ Some r → f.given.primary ≡ n + 1 → IsPrefixOf r.log f.line.list
sole_within {S = S} {C = C} {O = O} rules a xs f n r stands primary = by_ballot (cases_lt b r.held_in)
  where
    h : History C
    h = f.history

    b : ℕ
    b = a.master.active

    s : IsSoundWorld rules a.world h
    s = f.serves.sound

    positive : 0 < b
    positive = (s.ballots.were_given b f.active).2

    low : b ≤ r.held_in
    low = (s.nodes n r stands).placed.told b 0 (told_as_primary f.given f.line f.is_given primary f.lined (omega arith))

    place : (g : Given) × (h.given r.held_in ≡ Some g) × ((l : Line C) × (h.line r.held_in ≡ Some l)
        × IsPrefixOf l.base r.log × IsPrefixOf r.log l.list)
    place = (s.nodes n r stands).placed.between (let x = positive in let y = low in omega (arith, x, y))

    newest : (c : ℕ) → In c h.activated → c ≤ b
    newest c i =
        at_most_newest h b f.serves.master.older (subst (λ bs. IsChain h bs) f.serves.master.newest s.ballots.chain) c
        (subst (λ bs. In c bs) f.serves.master.newest i)

    mine : (l : Line C) → h.line b ≡ Some l → l ≡ f.line
    mine l e = one_line (h.line b) l f.line e f.lined

    later : b < r.held_in → (l : Line C) → h.line r.held_in ≡ Some l → IsPrefixOf r.log l.list → IsPrefixOf r.log f.line.list
    later less l lined front = by_still (s.lines.still r.held_in l lined) (s.ballots.first r.held_in place.0 place.1)
      where
        after : 0 < place.0.previous → (l.list ≡ l.base) → IsPrefixOf r.log f.line.list
        after more still =
            let z = s.lines.base_in r.held_in place.0 l place.1 more lined in
            let up = s.ballots.gap r.held_in place.0 place.1 more b f.active less in
            let down = newest place.0.previous (s.ballots.previous r.held_in place.0 place.1 more).0 in
            let same : place.0.previous ≡ b = omega (arith, up, down) in
            prefix_then (subst (λ (us : List C). IsPrefixOf r.log us) still front)
            (subst (λ (k : Line C). IsPrefixOf l.base k.list) (mine z.0 (ap h.line (sym same) ∙ z.1)) z.2)

        by_still : In r.held_in h.activated ⊎ (l.list ≡ l.base) → (r.held_in ≡ 1) ⊎ (0 < place.0.previous) → IsPrefixOf r.log f.line.list
        by_still (inl active) first = let z = newest r.held_in active in absurd (omega (arith, z, less))
        by_still (inr still) (inl one) = let z = positive in absurd (omega (arith, one, z, less))
        by_still (inr still) (inr more) = after more still

    by_ballot : (b < r.held_in) ⊎ (r.held_in ≤ b) → IsPrefixOf r.log f.line.list
    by_ballot (inl less) = later less place.2.0 place.2.1 place.2.3
    by_ballot (inr high) =
        let same : r.held_in ≡ b = (let x = low in omega (arith, x, high)) in
        subst (λ (k : Line C). IsPrefixOf r.log k.list) (mine place.2.0 (ap h.line (sym same) ∙ place.2.1)) place.2.3

only_one : (k m : ℕ) → In k (m ∷ []) → k ≡ m
only_one k m here = refl
only_one k m (there j) = elim j [ ]

-- with a sole member, the agreed list is its log
pub sole_length : {S C O : Type 0} (rules : Rules S C O) (config : Config) (a : Moment S C O) (moments : List (Moment S C O)) (xs : List C) →
    Moments rules config (a ∷ moments) → IsAgreed config (a ∷ moments) xs → (m : ℕ) → a.master.members ≡ m ∷ [] →
    length (log_of (slice_get a.world.nodes (m - 1))) ≡ length xs
sole_length {S = S} {C = C} {O = O} rules config a moments xs came agreed m sole = by_node holds
  where
    f : IsFront rules a xs
    f = agreed_front rules config a moments xs came agreed

    holds : Holds a.master a.world xs
    holds = (nodes_agree rules config a moments xs came agreed).1

    only : (k : ℕ) → In k a.master.members → k ≡ m
    only k i = only_one k m (subst (λ ms. In k ms) sole i)

    primary : f.given.primary ≡ m
    primary = only f.given.primary (subst (λ ms. In f.given.primary ms) f.members (f.serves.sound.ballots.led a.master.active f.given f.is_given))

    whole : length f.line.list ≡ length xs
    whole =
        sym (front_length rules a xs f
        ∙ ap (λ ms. least_of (length f.line.list) (acknowledged_length a.world.sent a.master.active f.given f.line) ms) (f.members ∙ sole)
        ∙ (let e = primary_length a f.given f.line m (sym primary) in
        let z : min (acknowledged_length a.world.sent a.master.active f.given f.line m) (length f.line.list) ≡ length f.line.list = omega (arith, e) in z))

    by_node : Holds a.master a.world xs → length (log_of (slice_get a.world.nodes (m - 1))) ≡ length xs
    by_node z =
        let e = only (z.node + 1) z.member in
        let at : m - 1 ≡ z.node = omega (arith, e) in
        let down = prefix_length (sole_within rules a xs f z.node z.replica z.stands (primary ∙ sym e)) in
        let up = prefix_length z.held in
        ap (λ k. length (log_of (slice_get a.world.nodes k))) at ∙ ap (λ o. length (log_of o)) z.stands
        ∙ (let d = whole in let y : length z.replica.log ≡ length xs = omega (arith, up, down, d) in y)

-- the front of a member's log, if it is long enough
pub member_front : {S C O : Type 0} (rules : Rules S C O) (config : Config) (a : Moment S C O) (moments : List (Moment S C O)) (k m : ℕ) →
    Moments rules config (a ∷ moments) → ((xs : List C) → IsAgreed config (a ∷ moments) xs → k ≡ length xs) → In m a.master.members →
    k ≤ length (log_of (slice_get a.world.nodes (m - 1))) → IsAgreed config (a ∷ moments) (take k (log_of (slice_get a.world.nodes (m - 1))))
member_front {S = S} {C = C} {O = O} rules config a moments k m came is i within = by_node (slice_get a.world.nodes (m - 1)) refl within
  where
    there_is : (xs : List C) × IsAgreed config (a ∷ moments) xs
    there_is = has_agreed rules config a moments came

    positive : 0 < m
    positive = (rising_above a.master.greatest 0 a.master.members m (moments_lawful rules config a moments came).active i).0

    all_of : (us : List C) → take (length us) us ≡ us
    all_of [] = refl
    all_of (x ∷ us) = ap (λ vs. x ∷ vs) (all_of us)

    nothing : (us : List C) → length us ≡ 0 → us ≡ []
    nothing [] e = refl
    nothing (x ∷ us) e = absurd (omega (arith, e))

    by_node : (o : Option (ReplicaState S C)) → slice_get a.world.nodes (m - 1) ≡ o → k ≤ length (log_of o) → IsAgreed config (a ∷ moments) (take k (log_of o))
    by_node None e low =
        let z : k ≡ 0 = omega (arith, low) in
        let y = is there_is.0 there_is.1 in
        subst (λ (us : List C). IsAgreed config (a ∷ moments) us)
        (nothing there_is.0 (sym y ∙ z) ∙ sym (ap (λ j. take {A = C} j []) z)) there_is.1
    by_node (Some r) e low =
        let agrees = (nodes_agree rules config a moments there_is.0 came there_is.1).0 in
        let number : m - 1 + 1 ≡ m = (let p = positive in omega (arith, p)) in
        let front = agrees.held (m - 1) r e (subst (λ j. In j a.master.members) (sym number) i) in
        let y = is there_is.0 there_is.1 in
        subst (λ (us : List C). IsAgreed config (a ∷ moments) us)
        (sym (ap (λ j. take j r.log) y ∙ take_prefix (length there_is.0) front (omega arith) ∙ all_of there_is.0)) there_is.1

-- some member's log is long enough
pub some_long : {S C O : Type 0} (rules : Rules S C O) (config : Config) (a : Moment S C O) (moments : List (Moment S C O)) (k : ℕ) →
    Moments rules config (a ∷ moments) → ((xs : List C) → IsAgreed config (a ∷ moments) xs → k ≡ length xs) →
    ((m : ℕ) → In m a.master.members → (r : ReplicaState S C) → slice_get a.world.nodes (m - 1) ≡ Some r → length r.log < k) → ⊥
some_long rules config a moments k came is short =
    let xs = has_agreed rules config a moments came in
    let z = (nodes_agree rules config a moments xs.0 came xs.1).1 in
    let at : z.node + 1 - 1 ≡ z.node = omega arith in
    let low = short (z.node + 1) z.member z.replica (ap (slice_get a.world.nodes) at ∙ z.stands) in
    let up = prefix_length z.held in
    let y = is xs.0 xs.1 in
    omega (arith, low, up, y)
