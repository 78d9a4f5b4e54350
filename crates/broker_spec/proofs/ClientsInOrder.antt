-- The clients of a past come in rising order, and each with a session is among them.
use Rattle.std.proofs.Common.{◌≡◌, Bool, true, false, ◌⊎◌, inl, inr, Option, Some, None, List, [], ◌∷◌, refl, ap, ◌∙◌, subst}
use Rattle.std.specs.declared.cmp.Ordering.{Ordering}
use Rattle.std.specs.declared.cmp.Ordering.TheVariants.{Less, Equal, Greater}
use Rattle.std.specs.Ordering.{is_eq, match_ordering, ordering_reverse}
use Rattle.std.proofs.lemmas.Cmp.{nat_list_cmp_total}
use Rattle.std.proofs.lemmas.Map.Lookups.{exact_bytes}
use Rattle.broker_spec.specs.Place.{Client, by_bytes, same_client, Mark, Past, only_if}
use Rattle.broker_spec.specs.Sessions.{accepts, expels, ends_any, current_connection, newest_clean_session, clean_session_of}
use Rattle.broker_spec.specs.Owner.{insert_client, named_by, named}
use Rattle.broker_spec.specs.declared.command.Command.{Command}
use Rattle.broker_spec.specs.declared.command.Command.TheVariants as commands

-- ---- clients by bytes

own_reverse : (o : Ordering) → o ≡ ordering_reverse o → o ≡ Equal
own_reverse Less e = absurd (cc)
own_reverse Equal e = refl
own_reverse Greater e = absurd (cc)

pub by_bytes_self : (c : Client) → by_bytes c c ≡ Equal
by_bytes_self c = own_reverse (by_bytes c c) (nat_list_cmp_total.antisymm c c)

pub same_self : (c : Client) → same_client c c ≡ true
same_self c = ap is_eq (by_bytes_self c)

equal_of : (o : Ordering) → is_eq o ≡ true → o ≡ Equal
equal_of Less e = absurd (cc)
equal_of Equal e = refl
equal_of Greater e = absurd (cc)

pub equal_is : (c d : Client) → by_bytes c d ≡ Equal → c ≡ d
equal_is c d e = exact_bytes c d e

pub same_is : (c d : Client) → same_client c d ≡ true → c ≡ d
same_is c d e = equal_is c d (equal_of (by_bytes c d) e)

pub less_turned : (c d : Client) → by_bytes c d ≡ Less → by_bytes d c ≡ Greater
less_turned c d e = nat_list_cmp_total.antisymm d c ∙ ap ordering_reverse e

pub greater_turned : (c d : Client) → by_bytes c d ≡ Greater → by_bytes d c ≡ Less
greater_turned c d e = nat_list_cmp_total.antisymm d c ∙ ap ordering_reverse e

-- ---- in rising order

abbrev pub IsAbove : Client → List Client → Type 0
IsAbove c [] = Unit {0}
IsAbove c (d ∷ ds) = (by_bytes c d ≡ Less) × IsAbove c ds

abbrev pub Rising : List Client → Type 0
Rising [] = Unit {0}
Rising (d ∷ ds) = IsAbove d ds × Rising ds

pub above_more : (b c : Client) (ds : List Client) → by_bytes b c ≡ Less → IsAbove c ds → IsAbove b ds
above_more b c [] less h = tt
above_more b c (d ∷ ds) less h = (nat_list_cmp_total.trans b c d less h.0, above_more b c ds less h.1)

above_insert : (b c : Client) (ds : List Client) → by_bytes b c ≡ Less → IsAbove b ds → IsAbove b (insert_client c ds)
above_insert b c [] less h = (less, tt)
above_insert b c (d ∷ ds) less h = by (by_bytes c d) (above_insert b c ds less h.1)
  where
    by : (o : Ordering) → IsAbove b (insert_client c ds) → IsAbove b (match_ordering o (c ∷ d ∷ ds) (d ∷ ds) (d ∷ insert_client c ds))
    by Less k = (less, h)
    by Equal k = h
    by Greater k = (h.0, k)

rising_insert : (c : Client) (ds : List Client) → Rising ds → Rising (insert_client c ds)
rising_insert c [] h = (tt, tt)
rising_insert c (d ∷ ds) h = by (by_bytes c d) refl (rising_insert c ds h.1)
  where
    by : (o : Ordering) → by_bytes c d ≡ o → Rising (insert_client c ds) → Rising (match_ordering o (c ∷ d ∷ ds) (d ∷ ds) (d ∷ insert_client c ds))
    by Less e k = ((e, above_more c d ds e h.0), h)
    by Equal e k = h
    by Greater e k = (above_insert d c ds (greater_turned c d e) h.0, k)

rising_by : (command : Command) (mark : Mark) (ds : List Client) → Rising ds → Rising (named_by command mark ds)
rising_by (commands.Connect x c clean) Mark.Accepted ds h = rising_insert c ds h
rising_by _ _ ds h = h

pub rising_named : (past : Past) → Rising (named past)
unfolding named
rising_named [] = tt
rising_named (place ∷ past) = rising_by place.command place.mark (named past) (rising_named past)

-- ---- each client with a session is named

abbrev pub IsNamed : Client → List Client → Type 0
IsNamed c [] = ⊥
IsNamed c (d ∷ ds) = (c ≡ d) ⊎ IsNamed c ds

named_first : (c : Client) (ds : List Client) → IsNamed c (insert_client c ds)
named_first c [] = inl refl
named_first c (d ∷ ds) = by (by_bytes c d) refl (named_first c ds)
  where
    by : (o : Ordering) → by_bytes c d ≡ o → IsNamed c (insert_client c ds) → IsNamed c (match_ordering o (c ∷ d ∷ ds) (d ∷ ds) (d ∷ insert_client c ds))
    by Less e k = inl refl
    by Equal e k = inl (equal_is c d e)
    by Greater e k = inr k

named_still : (b c : Client) (ds : List Client) → IsNamed b ds → IsNamed b (insert_client c ds)
named_still b c [] h = absurd h
named_still b c (d ∷ ds) h = by (by_bytes c d) h (λ k. named_still b c ds k)
  where
    by : (o : Ordering) → (b ≡ d) ⊎ IsNamed b ds → (IsNamed b ds → IsNamed b (insert_client c ds)) → IsNamed b (match_ordering o (c ∷ d ∷ ds) (d ∷ ds) (d ∷ insert_client c ds))
    by Less k more = inr k
    by Equal k more = k
    by Greater (inl e) more = inl e
    by Greater (inr k) more = inr (more k)

no_session_yet : (expelled over : Bool) (session : Option Bool) → session ≡ None → newest_clean_session None expelled over session ≡ None
no_session_yet expelled over None e = refl
no_session_yet expelled over (Some clean) e = absurd (cc)

named_or_none : (command : Command) (mark : Mark) (c : Client) (ds : List Client) (expelled over : Bool) (session : Option Bool) → (session ≡ None) ⊎ IsNamed c ds →
    (newest_clean_session (accepts command mark c) expelled over session ≡ None) ⊎ IsNamed c (named_by command mark ds)
named_or_none (commands.Connect x d clean) Mark.Accepted c ds expelled over session h = by (same_client d c) refl h
  where
    by : (b : Bool) → same_client d c ≡ b → (session ≡ None) ⊎ IsNamed c ds →
        (newest_clean_session (only_if b (Some (x, clean))) expelled over session ≡ None) ⊎ IsNamed c (insert_client d ds)
    by true e k = inr (subst (λ (b : Client). IsNamed b (insert_client d ds)) (same_is d c e) (named_first d ds))
    by false e (inl none) = inl (no_session_yet expelled over session none)
    by false e (inr k) = inr (named_still c d ds k)
named_or_none _ _ c ds expelled over session (inl e) = inl (no_session_yet expelled over session e)
named_or_none _ _ c ds expelled over session (inr k) = inr k

pub session_is_named : (past : Past) (c : Client) → (clean_session_of past c ≡ None) ⊎ IsNamed c (named past)
unfolding named clean_session_of
session_is_named [] c = inl refl
session_is_named (place ∷ past) c =
    named_or_none place.command place.mark c (named past) (expels place.command c) (ends_any place c (current_connection past c)) (clean_session_of past c) (session_is_named past c)
