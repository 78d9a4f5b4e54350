-- A session's filters have the QoS of their last granting.
use Rattle.std.proofs.Common.{◌≡◌, ℕ, Bool, true, false, not, ◌&&◌, ◌||◌, if◌then◌else◌, List, [], ◌∷◌, Option, Some, None, map, refl, sym, ◌∙◌, ap}
use Rattle.std.specs.Prelude.{bytes_eq, option_map}
use Rattle.std.specs.List.{list_any}
use Rattle.std.proofs.lemmas.Slice.Eq.{bytes_eq-Decides}
use Rattle.packet_base.specs.declared.qos.QoS.{QoS}
use Rattle.packet.specs.declared.subscribe.Subscription.{Subscription}
use Rattle.packet.specs.declared.packet.Packet.TheVariants as packets
use Rattle.broker_spec.specs.Place.{Client, same_client, Mark}
use Rattle.broker_spec.specs.Sessions.{clean_session_of, begins, in_session}
use Rattle.broker_spec.specs.Subscriptions.{as_granted, granted_of, subscriptions_after, subscriptions_of, qos_asked}
use Rattle.session_base.specs.Subscriptions.{GrantedSubscription, with_subscription, with_subscriptions, without_filter, without_filters}
use Rattle.broker_spec.specs.Theorems.{newer_of_two, either, last_qos, word_on, last_granting, FilterHasLastGranting}
use Rattle.broker_spec.specs.declared.command.Command.{Command}
use Rattle.broker_spec.specs.declared.command.Command.TheVariants as commands

-- two texts with the same bytes are one
same-text : (f g : List ℕ) → bytes_eq f g ≡ true → f ≡ g
same-text f g e = (bytes_eq-Decides f g).0 e

no-both : (b : Bool) → b ≡ true → b ≡ false → ⊥
no-both true e f = no f
  where
    no : true ≡ false → ⊥
    no g = cc
no-both false e f = no e
  where
    no : false ≡ true → ⊥
    no g = cc

-- ---- a granting

twice : {A : Type 0} (b : Bool) (new old rest : A) → (if b then new else rest) ≡ (if b then new else if b then old else rest)
twice true new old rest = refl
twice false new old rest = refl

order : {A : Type 0} (a b : Bool) (new old rest : A) → (a ≡ true → b ≡ true → ⊥) → (if a then old else if b then new else rest) ≡ (if b then new else if a then old else rest)
order true true new old rest h = elim (h refl refl) [ ]
order true false new old rest h = refl
order false b new old rest h = refl

not-both : (f new old : List ℕ) → bytes_eq new old ≡ false → bytes_eq f old ≡ true → bytes_eq f new ≡ true → ⊥
not-both f new old e a b = no-both (bytes_eq new old) (ap (λ z. bytes_eq z old) (sym (same-text f new b)) ∙ a) e

with-by : (f : List ℕ) (new old : GrantedSubscription) (others : List GrantedSubscription)
    → qos_asked f (with_subscription new others) ≡ (if bytes_eq f new.0 then Some new.1 else qos_asked f others)
    → (same : Bool) → bytes_eq new.0 old.0 ≡ same
    → qos_asked f (if same then (old.0, new.1) ∷ others else old ∷ with_subscription new others)
    ≡ (if bytes_eq f new.0 then Some new.1 else if bytes_eq f old.0 then Some old.1 else qos_asked f others)
with-by f new old others ih true e =
    rw (sym (same-text new.0 old.0 e)) (twice (bytes_eq f new.0) (Some new.1) (Some old.1) (qos_asked f others))
with-by f new old others ih false e =
    ap (λ z. if bytes_eq f old.0 then Some old.1 else z) ih
    ∙ order (bytes_eq f old.0) (bytes_eq f new.0) (Some new.1) (Some old.1) (qos_asked f others) (not-both f new.0 old.0 e)

asked-with : (f : List ℕ) (new : GrantedSubscription) (held : List GrantedSubscription)
    → qos_asked f (with_subscription new held) ≡ (if bytes_eq f new.0 then Some new.1 else qos_asked f held)
asked-with f new [] = refl
asked-with f new (old ∷ others) = with-by f new old others (asked-with f new others) (bytes_eq new.0 old.0) refl

last-by : (later : Option QoS) (b : Bool) (qos : QoS) (held : Option QoS)
    → newer_of_two (option_map (λ q. Some q) later) (if b then Some qos else held)
    ≡ newer_of_two (option_map (λ q. Some q) (either later (if b then Some qos else None))) held
last-by (Some q) b qos held = refl
last-by None true qos held = refl
last-by None false qos held = refl

asked-with-all : (f : List ℕ) (granted : List Subscription) (held : List GrantedSubscription)
    → qos_asked f (with_subscriptions (map as_granted granted) held) ≡ newer_of_two (option_map (λ q. Some q) (last_qos f granted)) (qos_asked f held)
asked-with-all f [] held = refl
asked-with-all f (new ∷ more) held =
    asked-with-all f more (with_subscription (as_granted new) held)
    ∙ ap (newer_of_two (option_map (λ q. Some q) (last_qos f more))) (asked-with f (as_granted new) held)
    ∙ last-by (last_qos f more) (bytes_eq f new.filter) new.qos (qos_asked f held)

-- ---- a filter given up

gone : {A : Type 0} (b : Bool) (found : A) (rest : Option A) → (if b then None else rest) ≡ (if b then None else if b then Some found else rest)
gone true found rest = refl
gone false found rest = refl

left : {A : Type 0} (a b : Bool) (found : A) (rest : Option A) → (a ≡ true → b ≡ true → ⊥) → (if a then Some found else if b then None else rest) ≡ (if b then None else if a then Some found else rest)
left true true found rest h = elim (h refl refl) [ ]
left true false found rest h = refl
left false b found rest h = refl

without-by : (f g : List ℕ) (old : GrantedSubscription) (others : List GrantedSubscription)
    → qos_asked f (without_filter g others) ≡ (if bytes_eq f g then None else qos_asked f others)
    → (same : Bool) → bytes_eq g old.0 ≡ same
    → qos_asked f (if not same then old ∷ without_filter g others else without_filter g others)
    ≡ (if bytes_eq f g then None else if bytes_eq f old.0 then Some old.1 else qos_asked f others)
without-by f g old others ih true e =
    rw (sym (same-text g old.0 e)) (ih ∙ gone (bytes_eq f g) old.1 (qos_asked f others))
without-by f g old others ih false e =
    ap (λ z. if bytes_eq f old.0 then Some old.1 else z) ih
    ∙ left (bytes_eq f old.0) (bytes_eq f g) old.1 (qos_asked f others) (not-both f g old.0 e)

none-twice : (b : Bool) → qos_asked [] [] ≡ (if b then None else qos_asked [] [])
none-twice true = refl
none-twice false = refl

asked-without : (f g : List ℕ) (held : List GrantedSubscription) → qos_asked f (without_filter g held) ≡ (if bytes_eq f g then None else qos_asked f held)
asked-without f g [] = none-twice (bytes_eq f g)
asked-without f g (old ∷ others) = without-by f g old others (asked-without f g others) (bytes_eq g old.0) refl

any-by : (more b : Bool) (held : Option QoS) → (if more then None else if b then None else held) ≡ (if b || more then None else held)
any-by true true held = refl
any-by true false held = refl
any-by false true held = refl
any-by false false held = refl

asked-without-all : (f : List ℕ) (given_up : List (List ℕ)) (held : List GrantedSubscription)
    → qos_asked f (without_filters given_up held) ≡ (if list_any (bytes_eq f) given_up then None else qos_asked f held)
asked-without-all f [] held = refl
asked-without-all f (g ∷ more) held =
    asked-without-all f more (without_filter g held)
    ∙ ap (λ z. if list_any (bytes_eq f) more then None else z) (asked-without f g held)
    ∙ any-by (list_any (bytes_eq f) more) (bytes_eq f g) (qos_asked f held)

-- ---- a command

subscribe-by : (b : Bool) (f : List ℕ) (granted : List Subscription) (held : List GrantedSubscription)
    → qos_asked f (if b then with_subscriptions (map as_granted granted) held else held)
    ≡ newer_of_two (if b then option_map (λ q. Some q) (last_qos f granted) else None) (qos_asked f held)
subscribe-by true f granted held = asked-with-all f granted held
subscribe-by false f granted held = refl

unsubscribe-by : (b : Bool) (f : List ℕ) (given_up : List (List ℕ)) (held : List GrantedSubscription)
    → qos_asked f (if b then without_filters given_up held else held)
    ≡ newer_of_two (if b && list_any (bytes_eq f) given_up then Some None else None) (qos_asked f held)
unsubscribe-by true f given_up held = asked-without-all f given_up held ∙ by (list_any (bytes_eq f) given_up)
  where
    by : (any : Bool) → (if any then None else qos_asked f held) ≡ newer_of_two (if any then Some None else None) (qos_asked f held)
    by true = refl
    by false = refl
unsubscribe-by false f given_up held = refl

word-by : (k : Command) (m : Mark) (c : Client) (f : List ℕ) (held : List GrantedSubscription) → qos_asked f (subscriptions_after k m c held) ≡ newer_of_two (word_on k m c f) (qos_asked f held)
word-by (commands.Packet x (packets.Connect q)) m c f held = refl
word-by (commands.Packet x (packets.Connack q)) m c f held = refl
word-by (commands.Packet x (packets.Publish p)) m c f held = refl
word-by (commands.Packet x (packets.Puback i)) m c f held = refl
word-by (commands.Packet x (packets.Pubrec i)) m c f held = refl
word-by (commands.Packet x (packets.Pubrel i)) m c f held = refl
word-by (commands.Packet x (packets.Pubcomp i)) m c f held = refl
word-by (commands.Packet x (packets.Subscribe s)) Mark.Unmarked c f held = refl
word-by (commands.Packet x (packets.Subscribe s)) Mark.Accepted c f held = refl
word-by (commands.Packet x (packets.Subscribe s)) Mark.Full c f held = refl
word-by (commands.Packet x (packets.Subscribe s)) (Mark.Leaves d) c f held = refl
word-by (commands.Packet x (packets.Subscribe s)) (Mark.Refused d) c f held = refl
word-by (commands.Packet x (packets.Subscribe s)) (Mark.Repeat d) c f held = refl
word-by (commands.Packet x (packets.Subscribe s)) (Mark.Taken d) c f held = refl
word-by (commands.Packet x (packets.Subscribe s)) (Mark.Granted d which) c f held = subscribe-by (same_client d c) f (granted_of s.filters which) held
word-by (commands.Packet x (packets.Subscribe s)) (Mark.Handled d) c f held = refl
word-by (commands.Packet x (packets.Suback q)) m c f held = refl
word-by (commands.Packet x (packets.Unsubscribe u)) Mark.Unmarked c f held = refl
word-by (commands.Packet x (packets.Unsubscribe u)) Mark.Accepted c f held = refl
word-by (commands.Packet x (packets.Unsubscribe u)) Mark.Full c f held = refl
word-by (commands.Packet x (packets.Unsubscribe u)) (Mark.Leaves d) c f held = refl
word-by (commands.Packet x (packets.Unsubscribe u)) (Mark.Refused d) c f held = refl
word-by (commands.Packet x (packets.Unsubscribe u)) (Mark.Repeat d) c f held = refl
word-by (commands.Packet x (packets.Unsubscribe u)) (Mark.Taken d) c f held = refl
word-by (commands.Packet x (packets.Unsubscribe u)) (Mark.Granted d which) c f held = refl
word-by (commands.Packet x (packets.Unsubscribe u)) (Mark.Handled d) c f held = unsubscribe-by (same_client d c) f u.filters held
word-by (commands.Packet x (packets.Unsuback i)) m c f held = refl
word-by (commands.Packet x packets.Pingreq) m c f held = refl
word-by (commands.Packet x packets.Pingresp) m c f held = refl
word-by (commands.Packet x packets.Disconnect) m c f held = refl
word-by (commands.Connect x d clean) m c f held = refl
word-by (commands.Lost x) m c f held = refl
word-by (commands.Start ballot) m c f held = refl
word-by (commands.Expel d) m c f held = refl

in-session : (session : Option Bool) (beginning : Bool) (f : List ℕ) (held : List GrantedSubscription) → qos_asked f (in_session session beginning [] held) ≡ in_session session beginning None (qos_asked f held)
in-session (Some clean) true f held = refl
in-session (Some clean) false f held = refl
in-session None beginning f held = refl

pub filter_has_last_granting : FilterHasLastGranting
unfolding subscriptions_of last_granting
filter_has_last_granting [] c f = refl
filter_has_last_granting (place ∷ past) c f =
    in-session (clean_session_of (place ∷ past) c) (begins place past c) f (subscriptions_after place.command place.mark c (subscriptions_of past c))
    ∙ ap (in_session (clean_session_of (place ∷ past) c) (begins place past c) None)
    (word-by place.command place.mark c f (subscriptions_of past c)
    ∙ ap (newer_of_two (word_on place.command place.mark c f)) (filter_has_last_granting past c f))
