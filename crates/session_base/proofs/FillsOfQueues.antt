-- A fill takes what waits in order, up to the window, with free identifiers, and sends what it takes.
use Rattle.std.proofs.Common.{◌≡◌, ℕ, ◌≤◌, suc, Bool, true, false, ◌⊎◌, inl, inr, nat_lt, if◌then◌else◌, List, [], ◌∷◌, ◌++◌, length, map, take, drop, refl, ap, ap₂, ◌∙◌, sym, arith}
use Rattle.std.proofs.lemmas.List.{append_assoc, length-append}
use Rattle.packet.specs.declared.packet.Packet.TheVariants as packets
use Rattle.session_base.specs.declared.publication.Publication.{Publication}
use Rattle.session_base.specs.declared.awaits.Awaits.TheVariants as waits_for
use Rattle.session_base.specs.Publication.{is_qos1, publish_for}
use Rattle.session_base.specs.Identifiers.{least_free}
use Rattle.session_base.specs.Queue.{Flight, ids_of, started_flight, fill}
use Rattle.session_base.specs.EntryPackets.{fill_sends}
use Rattle.session_base.specs.Theorems.{publications_in_flight, first_sent, FillIsDone, FillStaysWithin, FillKeepsOrder, FillSendsWhatStarts, FillsJoin}

-- ---- the window

shut : (k w : ℕ) → nat_lt k w ≡ false → w ≤ k
shut k w e = grind arith

room_left : (k w : ℕ) → nat_lt k w ≡ true → suc k ≤ w
room_left k w e = grind arith

pub fill_done : FillIsDone
fill_done w fs [] = inl refl
fill_done w fs (p ∷ ps) = by (nat_lt (length fs) w) refl (fill_done w (fs ++ started_flight fs p ∷ []) ps)
  where
    by : (b : Bool) → nat_lt (length fs) w ≡ b →
        ((fill w (fs ++ started_flight fs p ∷ []) ps).waiting ≡ []) ⊎ (w ≤ length (fill w (fs ++ started_flight fs p ∷ []) ps).in_flight) →
        ((if b then fill w (fs ++ started_flight fs p ∷ []) ps else record { in_flight = fs; waiting = p ∷ ps }).waiting ≡ [])
        ⊎ (w ≤ length (if b then fill w (fs ++ started_flight fs p ∷ []) ps else record { in_flight = fs; waiting = p ∷ ps }).in_flight)
    by true e k = k
    by false e k = inr (shut (length fs) w e)

pub fill_within : FillStaysWithin
fill_within w fs [] h = h
fill_within w fs (p ∷ ps) h =
    elim (nat_lt (length fs) w) as (λ (b : Bool). nat_lt (length fs) w ≡ b → length (if b then fill w (fs ++ started_flight fs p ∷ []) ps else record { in_flight = fs; waiting = p ∷ ps }).in_flight ≤ w) [
      | true ↦ λ e. fill_within w (fs ++ started_flight fs p ∷ []) ps (omega (arith, length-append fs (started_flight fs p ∷ []), room_left (length fs) w e))
      | false ↦ λ e. h
    ] refl

-- ---- order

publications_append : (fs gs : List Flight) → publications_in_flight (fs ++ gs) ≡ publications_in_flight fs ++ publications_in_flight gs
publications_append [] gs = refl
publications_append ((id, waits_for.Puback p) ∷ fs) gs = ap (λ ps. p ∷ ps) (publications_append fs gs)
publications_append ((id, waits_for.Pubrec p) ∷ fs) gs = ap (λ ps. p ∷ ps) (publications_append fs gs)
publications_append ((id, waits_for.Pubcomp) ∷ fs) gs = publications_append fs gs

one_publication : (b : Bool) (id : ℕ) (p : Publication) → publications_in_flight ((id, (if b then waits_for.Puback p else waits_for.Pubrec p)) ∷ []) ≡ p ∷ []
one_publication true id p = refl
one_publication false id p = refl

front_still : {A : Type 0} (xs : List A) (x : A) (ys : List A) → take (length (xs ++ x ∷ [])) ys ≡ xs ++ x ∷ [] → take (length xs) ys ≡ xs
front_still [] x ys e = refl
front_still (y ∷ xs) x [] e = absurd (cc)
front_still (y ∷ xs) x (z ∷ ys) e =
    ap₂ (λ a as'. a ∷ as') (head_same z y (take (length (xs ++ x ∷ [])) ys) (xs ++ x ∷ []) e) (front_still xs x ys (tail_same z y (take (length (xs ++ x ∷ [])) ys) (xs ++ x ∷ []) e))
  where
    head_same : {A : Type 0} (a b : A) (as' bs : List A) → a ∷ as' ≡ b ∷ bs → a ≡ b
    head_same a b as' bs e = cc

    tail_same : {A : Type 0} (a b : A) (as' bs : List A) → a ∷ as' ≡ b ∷ bs → as' ≡ bs
    tail_same a b as' bs e = cc

own_front : {A : Type 0} (xs : List A) → take (length xs) xs ≡ xs
own_front [] = refl
own_front (x ∷ xs) = ap (λ ys. x ∷ ys) (own_front xs)

pub fill_order : FillKeepsOrder
fill_order w fs [] = (own_front fs, refl)
fill_order w fs (p ∷ ps) =
    elim (nat_lt (length fs) w) as (λ (b : Bool).
    (take (length fs) (if b then fill w (fs ++ started_flight fs p ∷ []) ps else record { in_flight = fs; waiting = p ∷ ps }).in_flight ≡ fs)
    × (publications_in_flight (if b then fill w (fs ++ started_flight fs p ∷ []) ps else record { in_flight = fs; waiting = p ∷ ps }).in_flight
    ++ (if b then fill w (fs ++ started_flight fs p ∷ []) ps else record { in_flight = fs; waiting = p ∷ ps }).waiting ≡ publications_in_flight fs ++ p ∷ ps)) [
      | true ↦ (
        front_still fs (started_flight fs p) (fill w (fs ++ started_flight fs p ∷ []) ps).in_flight (fill_order w (fs ++ started_flight fs p ∷ []) ps).0,
        (fill_order w (fs ++ started_flight fs p ∷ []) ps).1
            ∙ ap (λ qs. qs ++ ps) (publications_append fs (started_flight fs p ∷ []) ∙ ap (λ qs. publications_in_flight fs ++ qs) (one_publication (is_qos1 p.qos) (least_free (ids_of fs)) p))
            ∙ append_assoc (publications_in_flight fs) (p ∷ []) ps,
      )
      | false ↦ (own_front fs, refl)
    ]

-- ---- what is sent

all_dropped : {A : Type 0} (xs : List A) → drop (length xs) xs ≡ []
all_dropped [] = refl
all_dropped (x ∷ xs) = all_dropped xs

sent_first_by : (b : Bool) (id : ℕ) (p : Publication) → first_sent id (if b then waits_for.Puback p else waits_for.Pubrec p) ≡ packets.Publish (publish_for false id p)
sent_first_by true id p = refl
sent_first_by false id p = refl

drop_one_more : {A : Type 0} (xs : List A) (x : A) (ys : List A) → take (length (xs ++ x ∷ [])) ys ≡ xs ++ x ∷ [] → drop (length xs) ys ≡ x ∷ drop (length (xs ++ x ∷ [])) ys
drop_one_more [] x [] e = absurd (cc)
drop_one_more [] x (y ∷ ys) e = ap (λ z. z ∷ ys) (head_same y x [] [] e)
  where
    head_same : {A : Type 0} (a b : A) (as' bs : List A) → a ∷ as' ≡ b ∷ bs → a ≡ b
    head_same a b as' bs e = cc
drop_one_more (z ∷ xs) x [] e = absurd (cc)
drop_one_more (z ∷ xs) x (y ∷ ys) e = drop_one_more xs x ys (tail_same y z (take (length (xs ++ x ∷ [])) ys) (xs ++ x ∷ []) e)
  where
    tail_same : {A : Type 0} (a b : A) (as' bs : List A) → a ∷ as' ≡ b ∷ bs → as' ≡ bs
    tail_same a b as' bs e = cc

pub fill_sends_starts : FillSendsWhatStarts
fill_sends_starts w fs [] = sym (ap (map (λ (flight : Flight). first_sent flight.0 flight.1)) (all_dropped fs))
fill_sends_starts w fs (p ∷ ps) =
    elim (nat_lt (length fs) w) as (λ (b : Bool).
    (if b then packets.Publish (publish_for false (least_free (ids_of fs)) p) ∷ fill_sends w (fs ++ started_flight fs p ∷ []) ps else [])
    ≡ map (λ (flight : Flight). first_sent flight.0 flight.1) (drop (length fs) (if b then fill w (fs ++ started_flight fs p ∷ []) ps else record { in_flight = fs; waiting = p ∷ ps }).in_flight)) [
      | true ↦ ap₂ (λ packet rest. packet ∷ rest) (sym (sent_first_by (is_qos1 p.qos) (least_free (ids_of fs)) p)) (fill_sends_starts w (fs ++ started_flight fs p ∷ []) ps)
          ∙ sym (ap (map (λ (flight : Flight). first_sent flight.0 flight.1))
          (drop_one_more fs (started_flight fs p) (fill w (fs ++ started_flight fs p ∷ []) ps).in_flight (fill_order w (fs ++ started_flight fs p ∷ []) ps).0))
      | false ↦ sym (ap (map (λ (flight : Flight). first_sent flight.0 flight.1)) (all_dropped fs))
    ]

-- ---- two fills

pub fills_join : FillsJoin
fills_join w fs [] more = (refl, refl)
fills_join w fs (p ∷ ps) more = by (nat_lt (length fs) w) refl (fills_join w (fs ++ started_flight fs p ∷ []) ps more)
  where
    by : (b : Bool) → nat_lt (length fs) w ≡ b →
        (fill w (fill w (fs ++ started_flight fs p ∷ []) ps).in_flight ((fill w (fs ++ started_flight fs p ∷ []) ps).waiting ++ more) ≡ fill w (fs ++ started_flight fs p ∷ []) (ps ++ more))
        × (fill_sends w (fs ++ started_flight fs p ∷ []) ps ++ fill_sends w (fill w (fs ++ started_flight fs p ∷ []) ps).in_flight ((fill w (fs ++ started_flight fs p ∷ []) ps).waiting ++ more)
        ≡ fill_sends w (fs ++ started_flight fs p ∷ []) (ps ++ more)) →
        (fill w (if b then fill w (fs ++ started_flight fs p ∷ []) ps else record { in_flight = fs; waiting = p ∷ ps }).in_flight
        ((if b then fill w (fs ++ started_flight fs p ∷ []) ps else record { in_flight = fs; waiting = p ∷ ps }).waiting ++ more)
        ≡ (if b then fill w (fs ++ started_flight fs p ∷ []) (ps ++ more) else record { in_flight = fs; waiting = p ∷ ps ++ more }))
        × ((if b then packets.Publish (publish_for false (least_free (ids_of fs)) p) ∷ fill_sends w (fs ++ started_flight fs p ∷ []) ps else [])
        ++ fill_sends w (if b then fill w (fs ++ started_flight fs p ∷ []) ps else record { in_flight = fs; waiting = p ∷ ps }).in_flight
        ((if b then fill w (fs ++ started_flight fs p ∷ []) ps else record { in_flight = fs; waiting = p ∷ ps }).waiting ++ more)
        ≡ (if b then packets.Publish (publish_for false (least_free (ids_of fs)) p) ∷ fill_sends w (fs ++ started_flight fs p ∷ []) (ps ++ more) else []))
    by true e k = (k.0, ap (λ rest. packets.Publish (publish_for false (least_free (ids_of fs)) p) ∷ rest) k.1)
    by false e k = (
      ap (λ b. if b then fill w (fs ++ started_flight fs p ∷ []) (ps ++ more) else record { in_flight = fs; waiting = p ∷ ps ++ more }) e,
      ap (λ b. if b then packets.Publish (publish_for false (least_free (ids_of fs)) p) ∷ fill_sends w (fs ++ started_flight fs p ∷ []) (ps ++ more) else []) e,
    )
