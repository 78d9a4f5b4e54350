-- A client is served on the connection of its last accepted Connect, unless that was ended since.
use Rattle.std.proofs.Common.{◌≡◌, Bool, true, false, not, [], ◌∷◌, ◌++◌, Option, Some, None, refl, sym, ◌∙◌, ap, ◌⊎◌, inl, inr}
use Rattle.std.specs.List.{AllByRecursion}
use Rattle.broker_spec.specs.Connection.{ConnectionName}
use Rattle.broker_spec.specs.Place.{Client, Place, Past, only_if}
use Rattle.broker_spec.specs.Sessions.{accepts, ends_any, newest_connection, current_connection}
use Rattle.broker_spec.specs.Theorems.{KeepsConnection, WasOpened, CurrentIsLastAccepted}

-- either this place opened it, or it was current before and was kept
abbrev pub Comes : Option (ConnectionName × Bool) → (Option ConnectionName → Bool) → Option ConnectionName → ConnectionName → Type 0
Comes opened over old x = ((clean : Bool) × (opened ≡ Some (x, clean))) ⊎ ((opened ≡ None) × (over (Some x) ≡ false) × (old ≡ Some x))

some-is : (y x : ConnectionName) → Some y ≡ Some x → y ≡ x
some-is y x e = cc

kept-by : (over : Option ConnectionName → Bool) (y x : ConnectionName) (b : Bool) → over (Some y) ≡ b → only_if (not b) (Some y) ≡ Some x → (over (Some x) ≡ false) × (Some y ≡ Some x)
kept-by over y x true t e = cc
kept-by over y x false t e = (ap (λ z. over (Some z)) (sym (some-is y x e)) ∙ t, e)

none-is : (b : Bool) (x : ConnectionName) → only_if (not b) None ≡ Some x → ⊥
none-is true x e = cc
none-is false x e = cc

comes : (opened : Option (ConnectionName × Bool)) (over : Option ConnectionName → Bool) (old : Option ConnectionName) (x : ConnectionName)
    → newest_connection opened (over old) old ≡ Some x → Comes opened over old x
comes (Some (y, clean)) over old x e = inl (clean, ap (λ z. Some (z, clean)) (some-is y x e))
comes None over None x e = absurd (none-is (over None) x e)
comes None over (Some y) x e = let k = kept-by over y x (over (Some y)) refl e in inr (refl, k.0, k.1)

after : (past : Past) (place : Place) (c : Client) (x : ConnectionName) → accepts place.command place.mark c ≡ None → ends_any place c (Some x) ≡ false
    → WasOpened past c x → WasOpened (place ∷ past) c x
after past place c x a e w =
    record { later = place ∷ w.later; place = w.place; earlier = w.earlier; clean = w.clean; is = ap (λ z. place ∷ z) w.is; opened = w.opened; kept = ((a, e), w.kept) }

found-by : (past : Past) (place : Place) (c : Client) (x : ConnectionName) → (current_connection past c ≡ Some x → WasOpened past c x)
    → Comes (accepts place.command place.mark c) (ends_any place c) (current_connection past c) x → WasOpened (place ∷ past) c x
found-by past place c x ih (inl o) = record { later = []; place = place; earlier = past; clean = o.0; is = refl; opened = o.1; kept = tt }
found-by past place c x ih (inr k) = after past place c x k.0 k.1 (ih k.2)

found : (past : Past) (c : Client) (x : ConnectionName) → current_connection past c ≡ Some x → WasOpened past c x
unfolding current_connection
found [] c x e = cc
found (place ∷ past) c x e =
    found-by past place c x (found past c x)
    (comes (accepts place.command place.mark c) (ends_any place c) (current_connection past c) x e)

opened : (later : Past) (place : Place) (earlier : Past) (c : Client) (x : ConnectionName) (clean : Bool)
    → accepts place.command place.mark c ≡ Some (x, clean) → AllByRecursion (KeepsConnection c x) later
    → current_connection (later ++ place ∷ earlier) c ≡ Some x
unfolding current_connection
opened [] place earlier c x clean a k = rw a refl
opened (next ∷ later) place earlier c x clean a k =
    rw (k.0.0, opened later place earlier c x clean a k.1, k.0.1) refl

pub current_is_last_accepted : CurrentIsLastAccepted
current_is_last_accepted past c x =
    (found past c x, λ w. rw w.is (opened w.later w.place w.earlier c x w.clean w.opened w.kept))
