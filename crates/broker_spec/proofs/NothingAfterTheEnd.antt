-- An ended session gets nothing more: what is sent to a connection is sent in the session of its Connect.
use Rattle.std.proofs.Common.{◌≡◌, ◌≤◌, ◌+◌, ℕ, Bool, true, false, if◌then◌else◌, [], ◌∷◌, ◌++◌, ◌||◌, length, Option, Some, None, refl, sym, ◌∙◌, ap, ap₂, subst, arith, inl, inr, append_assoc}
use Rattle.std.specs.Prelude.{is_some}
use Rattle.std.specs.List.{AllByRecursion}
use Rattle.lists.specs.Lists.{In}
use Rattle.broker_spec.specs.Connection.{ConnectionName}
use Rattle.broker_spec.specs.Place.{Client, Mark, Place, Past, Limits, only_if, same_client}
use Rattle.broker_spec.specs.Sessions.{accepts, ends, expels, ends_any, any_connection, newest_clean_session, is_beginning, current_connection, clean_session_of, session_start}
use Rattle.broker_spec.specs.Commands.{place_of}
use Rattle.broker_spec.specs.AnswersInOrder.{answers_at}
use Rattle.broker_spec.specs.Theorems.{KeepsConnection}
use Rattle.broker_spec.specs.EndingTheorems.{connects_of, EndsWithTheSession, NothingAfterTheEnd}
use Rattle.broker_spec.specs.declared.command.Command.{Command}
use Rattle.broker_spec.specs.declared.command.Command.TheVariants as commands
use Rattle.broker_spec.specs.declared.command.Output.TheVariants.{Send}
use Rattle.broker_spec.proofs.ClientsInOrder.{same_is}
use Rattle.broker_spec.proofs.ConnectionNames.{same_itself}
use Rattle.broker_spec.proofs.CurrentIsLastAccepted.{current_is_last_accepted}
use Rattle.broker_spec.proofs.MarksOfPlaces.{AreMarked, past_is_marked, place_is}
use Rattle.broker_spec.proofs.SentToLive.{IsQuiet, SentAt, sent_at}

-- ---- a connection's one Connect

-- a Connect of x
abbrev pub IsConnectOf : ConnectionName → Place → Type 0
IsConnectOf x place = (c : Client) × (clean : Bool) × (place.command ≡ commands.Connect x c clean)

counts_one : (x : ConnectionName) (place : Place) (past : Past) → IsConnectOf x place → connects_of x (place ∷ past) ≡ 1 + connects_of x past
counts_one x place past (c, clean, e) =
    ap (λ k. connects_of x ((let z : Place = record { command = k; mark = place.mark } in z) ∷ past)) e ∙ ap (λ b. (if b then 1 else 0) + connects_of x past) (same_itself x)

counts_more : (x : ConnectionName) (place : Place) (past : Past) → connects_of x past ≤ connects_of x (place ∷ past)
counts_more x place past = omega arith

counts_there : (x : ConnectionName) (later below : Past) (place : Place) → IsConnectOf x place → 1 ≤ connects_of x (later ++ place ∷ below)
counts_there x [] below place is = let one = counts_one x place below is in omega (arith, one)
counts_there x (next ∷ later) below place is =
    let ih = counts_there x later below place is in
    let more = counts_more x next (later ++ place ∷ below) in
    omega (arith, ih, more)

cons_same : (p q : Place) (xs ys : Past) → p ∷ xs ≡ q ∷ ys → (p ≡ q) × (xs ≡ ys)
cons_same p q xs ys e = (cc, cc)

-- two places with it are one
one_place : (x : ConnectionName) (l k below earlier : Past) (place opened : Place) → IsConnectOf x place → IsConnectOf x opened
    → connects_of x (l ++ place ∷ below) ≤ 1 → l ++ place ∷ below ≡ k ++ opened ∷ earlier → (place ≡ opened) × (below ≡ earlier)
one_place x [] [] below earlier place opened a b few e = cons_same place opened below earlier e
one_place x [] (q ∷ k) below earlier place opened a b few e =
    let s = cons_same place q below (k ++ opened ∷ earlier) e in
    let one = counts_one x place below a in
    let more = counts_there x k earlier opened b in
    let same = ap (connects_of x) s.1 in
    absurd (omega (arith, few, one, more, same))
one_place x (p ∷ l) [] below earlier place opened a b few e =
    let s = cons_same p opened (l ++ place ∷ below) earlier e in
    let is : IsConnectOf x p = subst (IsConnectOf x) (sym s.0) b in
    let one = counts_one x p (l ++ place ∷ below) is in
    let more = counts_there x l below place a in
    absurd (omega (arith, few, one, more))
one_place x (p ∷ l) (q ∷ k) below earlier place opened a b few e =
    let less = counts_more x p (l ++ place ∷ below) in
    one_place x l k below earlier place opened a b (omega (arith, few, less)) (cons_same p q (l ++ place ∷ below) (k ++ opened ∷ earlier) e).1

-- an accepted Connect is one
there_only : {A : Type 0} (b : Bool) (o : Option A) (a : A) → only_if b o ≡ Some a → (b ≡ true) × (o ≡ Some a)
there_only true o a e = (refl, e)
there_only false o a e = cc

accepted_is : (command : Command) (mark : Mark) (c : Client) (x : ConnectionName) (clean : Bool) → accepts command mark c ≡ Some (x, clean)
    → (d : Client) × (command ≡ commands.Connect x d clean) × (d ≡ c)
accepted_is (commands.Connect y d flag) Mark.Accepted c x clean e =
    let t = there_only (same_client d c) (Some (y, flag)) (x, clean) e in
    let found : ConnectionName × Bool = (y, flag) in
    let wanted : ConnectionName × Bool = (x, clean) in
    let same : found ≡ wanted = cc in
    (d, ap₂ (λ z b. commands.Connect z d b) (ap (λ (r : ConnectionName × Bool). r.0) same) (ap (λ (r : ConnectionName × Bool). r.1) same), same_is d c t.0)
accepted_is _ _ c x clean e = cc

-- ---- a session continues

start_has_session : (past : Past) (c : Client) (n : ℕ) → session_start past c ≡ Some n → is_some (clean_session_of past c) ≡ true
unfolding session_start clean_session_of
start_has_session [] c n e = cc
start_has_session (place ∷ past) c n e = by (accepts place.command place.mark c) refl e
  where
    by : (o : Option (ConnectionName × Bool)) → accepts place.command place.mark c ≡ o
        → (if is_beginning o (clean_session_of past c) then Some (length past) else only_if (is_some (newest_clean_session o (expels place.command c) (ends_any place c (current_connection past c)) (clean_session_of past c))) (session_start past c)) ≡ Some n
        → is_some (newest_clean_session o (expels place.command c) (ends_any place c (current_connection past c)) (clean_session_of past c)) ≡ true
    by (Some opened) a f = refl
    by None a f = (there_only (is_some (newest_clean_session None (expels place.command c) (ends_any place c (current_connection past c)) (clean_session_of past c))) (session_start past c) n f).0

no_end : (clean : Bool) (session : Option Bool) → newest_clean_session None false false session ≡ session
no_end clean None = refl
no_end clean (Some true) = refl
no_end clean (Some false) = refl

not_expelled : (a b : Bool) → (a || b) ≡ false → a ≡ false
not_expelled true b e = e
not_expelled false b e = refl

-- at a place that opens nothing for the client and does not end its connection
start_stays : (place : Place) (below : Past) (c : Client) (n : ℕ) → session_start below c ≡ Some n → accepts place.command place.mark c ≡ None
    → ends_any place c (current_connection below c) ≡ false → session_start (place ∷ below) c ≡ Some n
unfolding session_start clean_session_of
start_stays place below c n e none over =
    ap (λ o. if is_beginning o (clean_session_of below c) then Some (length below) else only_if (is_some (newest_clean_session o (expels place.command c) (ends_any place c (current_connection below c)) (clean_session_of below c))) (session_start below c)) none
    ∙ ap₂ (λ a b. only_if (is_some (newest_clean_session None a b (clean_session_of below c))) (session_start below c))
    (not_expelled (expels place.command c) (any_connection (ends place.command place.mark) (current_connection below c)) over) over
    ∙ ap (λ s. only_if (is_some s) (session_start below c)) (no_end true (clean_session_of below c))
    ∙ ap (λ b. only_if b (session_start below c)) (start_has_session below c n e)
    ∙ e

-- while the connection is kept, after its Connect
kept_starts : (later : Past) (opened : Place) (earlier : Past) (c : Client) (x : ConnectionName) (clean : Bool) (n : ℕ) → accepts opened.command opened.mark c ≡ Some (x, clean)
    → AllByRecursion (KeepsConnection c x) later → session_start (opened ∷ earlier) c ≡ Some n → session_start (later ++ opened ∷ earlier) c ≡ Some n
kept_starts [] opened earlier c x clean n a kept e = e
kept_starts (next ∷ later) opened earlier c x clean n a kept e =
    let below = later ++ opened ∷ earlier in
    let current : current_connection below c ≡ Some x =
    (current_is_last_accepted below c x).1 (record { later = later; place = opened; earlier = earlier; clean = clean; is = refl; opened = a; kept = kept.1 }) in
    start_stays next below c n (kept_starts later opened earlier c x clean n a kept.1 e) kept.0.0
    (ap (ends_any next c) current ∙ kept.0.1)

quiet_ends : (place : Place) (c : Client) (o : Option ConnectionName) → IsQuiet place → ends_any place c o ≡ false
quiet_ends place c None q = ap (λ b. b || false) (q.2 c)
quiet_ends place c (Some x) q = ap₂ (λ a b. a || b) (q.2 c) (q.1 x)

-- ---- the law

pub ends_with_the_session : (limits : Limits) (past : Past) → AreMarked limits past → EndsWithTheSession limits past
ends_with_the_session limits past marked place opened below earlier x packet c clean start few stands first sent a begun =
    by (subst (λ (z : Place). SentAt below z x) (sym placed) (sent_at limits below place.command x packet (subst (λ (z : Place). In (Send x packet) (answers_at limits z below)) placed sent)))
  where
    placed : place ≡ place_of limits below place.command
    placed = place_is limits past place below marked stands

    connect : IsConnectOf x opened
    connect = let is = accepted_is opened.command opened.mark c x clean a in (is.0, clean, is.1)

    by : SentAt below place x → session_start (place ∷ below) c ≡ Some start
    by (inl is) =
        let same = one_place x stands.later first.later below earlier place opened is connect (subst (λ (z : Past). connects_of x z ≤ 1) stands.is few) (sym stands.is ∙ first.is) in
        ap₂ (λ (p : Place) (b : Past). session_start (p ∷ b) c) same.0 same.1 ∙ begun
    by (inr (d, current, quiet)) =
        let was = (current_is_last_accepted below d x).0 current in
        let its = accepted_is was.place.command was.place.mark d x was.clean was.opened in
        let all : past ≡ (stands.later ++ place ∷ was.later) ++ was.place ∷ was.earlier =
        stands.is ∙ ap (λ b. stands.later ++ place ∷ b) was.is ∙ sym (append_assoc stands.later (place ∷ was.later) (was.place ∷ was.earlier)) in
        let same = one_place x (stands.later ++ place ∷ was.later) first.later was.earlier earlier was.place opened (its.0, was.clean, its.1) connect
        (subst (λ (z : Past). connects_of x z ≤ 1) all few) (sym all ∙ first.is) in
        let mine = accepted_is opened.command opened.mark c x clean a in
        let there' = subst (λ (z : Place). (k : Client) × (z.command ≡ commands.Connect x k was.clean) × (k ≡ d)) same.0 its in
        let one : d ≡ c = sym there'.2 ∙ clients_are there'.0 mine.0 was.clean (sym there'.1 ∙ mine.1) ∙ mine.2 in
        let kept : AllByRecursion (KeepsConnection c x) was.later = subst (λ (k : Client). AllByRecursion (KeepsConnection k x) was.later) one was.kept in
        let began : session_start below c ≡ Some start =
        ap (λ b. session_start b c) (was.is ∙ ap₂ (λ (p : Place) (b : Past). was.later ++ p ∷ b) same.0 same.1) ∙ kept_starts was.later opened earlier c x clean start a kept begun in
        start_stays place below c start began (quiet.0 c) (quiet_ends place c (current_connection below c) quiet)
      where
        clients_are : (k l : Client) (b : Bool) → commands.Connect x k b ≡ commands.Connect x l clean → k ≡ l
        clients_are k l b e = cc

pub nothing_after_the_end : NothingAfterTheEnd
nothing_after_the_end limits commands = ends_with_the_session limits _ (past_is_marked limits commands)
