-- A session is found in the table, and one more comes to its place.
use Rattle.std.proofs.Common.{◌≡◌, Bool, true, false, ◌⊎◌, inl, inr, if◌then◌else◌, Option, Some, None, List, [], ◌∷◌, refl, ap, ap₂, ◌∙◌, sym, subst}
use Rattle.std.specs.declared.cmp.Ordering.{Ordering}
use Rattle.std.specs.declared.cmp.Ordering.TheVariants.{Less, Equal, Greater}
use Rattle.std.specs.Ordering.{is_eq, match_ordering}
use Rattle.broker_spec.specs.Place.{Client, by_bytes, same_client}
use Rattle.broker_spec.specs.Owner.{insert_client, named}
use Rattle.broker_base.specs.ClientSession.{ClientSession}
use Rattle.broker_base.specs.State.{keyed, table, session_in, put_session}
use Rattle.broker_spec.proofs.ClientsInOrder.{same_self, equal_is, same_is, less_turned, IsAbove, Rising, above_more, IsNamed}

-- ---- in the table

pub in_none_above : (f : Client → Option ClientSession) (c : Client) (ds : List Client) → IsAbove c ds → session_in c (table f ds) ≡ None
in_none_above f c [] h = refl
in_none_above f c (d ∷ ds) h = by (f d) (in_none_above f c ds h.1)
  where
    by : (o : Option ClientSession) → session_in c (table f ds) ≡ None → session_in c (keyed d o (table f ds)) ≡ None
    by None e = e
    by (Some kept) e = rw (h.0) e

above_named : (c d : Client) (ds : List Client) → IsAbove d ds → IsNamed c ds → by_bytes d c ≡ Less
above_named c d [] h named = absurd named
above_named c d (e ∷ es) h (inl same) = ap (by_bytes d) same ∙ h.0
above_named c d (e ∷ es) h (inr named) = above_named c d es h.1 named

in_table : (f : Client → Option ClientSession) (c : Client) (ds : List Client) → Rising ds → IsNamed c ds → session_in c (table f ds) ≡ f c
in_table f c [] h named = absurd named
in_table f c (d ∷ ds) h (inl e) =
    ap (λ b. session_in b (keyed d (f d) (table f ds))) e ∙ by (f d) (in_none_above f d ds h.0) ∙ ap f (sym e)
  where
    by : (o : Option ClientSession) → session_in d (table f ds) ≡ None → session_in d (keyed d o (table f ds)) ≡ o
    by None k = k
    by (Some kept) k = ap (λ b. if b then Some kept else session_in d (table f ds)) (same_self d)
in_table f c (d ∷ ds) h (inr named) = by (f d) (in_table f c ds h.1 named)
  where
    by : (o : Option ClientSession) → session_in c (table f ds) ≡ f c → session_in c (keyed d o (table f ds)) ≡ f c
    by None e = e
    by (Some kept) e = ap (λ o. if is_eq o then Some kept else session_in c (table f ds)) (less_turned d c (above_named c d ds h.0 named)) ∙ e

in_none : (f : Client → Option ClientSession) (c : Client) (ds : List Client) → f c ≡ None → session_in c (table f ds) ≡ None
in_none f c [] h = refl
in_none f c (d ∷ ds) h = by (f d) refl (in_none f c ds h)
  where
    by : (o : Option ClientSession) → f d ≡ o → session_in c (table f ds) ≡ None → session_in c (keyed d o (table f ds)) ≡ None
    by None e k = k
    by (Some kept) e k = test (same_client c d) refl
      where
        test : (b : Bool) → same_client c d ≡ b → (if b then Some kept else session_in c (table f ds)) ≡ None
        test true same = absurd (let is : f c ≡ Some kept = ap f (same_is c d same) ∙ e in cc)
        test false same = k

pub session_found : (f : Client → Option ClientSession) (c : Client) (ds : List Client) → Rising ds → (f c ≡ None) ⊎ IsNamed c ds → session_in c (table f ds) ≡ f c
session_found f c ds h (inl e) = in_none f c ds e ∙ sym e
session_found f c ds h (inr named) = in_table f c ds h named

-- ---- one more session

put_above : (c : Client) (kept : ClientSession) (f : Client → Option ClientSession) (ds : List Client) → IsAbove c ds → put_session c kept (table f ds) ≡ (c, kept) ∷ table f ds
put_above c kept f [] h = refl
put_above c kept f (d ∷ ds) h = by (f d) (put_above c kept f ds h.1)
  where
    by : (o : Option ClientSession) → put_session c kept (table f ds) ≡ (c, kept) ∷ table f ds → put_session c kept (keyed d o (table f ds)) ≡ (c, kept) ∷ keyed d o (table f ds)
    by None e = e
    by (Some other) e = ap (λ o. match_ordering o ((c, kept) ∷ (d, other) ∷ table f ds) ((d, kept) ∷ table f ds) ((d, other) ∷ put_session c kept (table f ds))) h.0

table_above : (f g : Client → Option ClientSession) (c : Client) (ds : List Client) → ((d : Client) → same_client c d ≡ false → f d ≡ g d) → IsAbove c ds → table f ds ≡ table g ds
table_above f g c [] same h = refl
table_above f g c (d ∷ ds) same h = ap₂ (λ o rows. keyed d o rows) (same d (ap is_eq h.0)) (table_above f g c ds same h.1)

pub put_is : (f g : Client → Option ClientSession) (c : Client) (kept : ClientSession) (ds : List Client) → f c ≡ Some kept → ((d : Client) → same_client c d ≡ false → f d ≡ g d) → Rising ds →
    table f (insert_client c ds) ≡ put_session c kept (table g ds)
put_is f g c kept [] is same h = ap (λ o. keyed c o []) is
put_is f g c kept (d ∷ ds) is same h = by (by_bytes c d) refl (put_is f g c kept ds is same h.1)
  where
    equal : by_bytes c d ≡ Equal → keyed c (f c) (table f ds) ≡ put_session c kept (keyed d (g d) (table g ds))
    equal e = ap₂ (λ o rows. keyed c o rows) is (table_above f g c ds same (subst (λ (b : Client). IsAbove b ds) (sym (equal_is c d e)) h.0)) ∙ sym (at (g d))
      where
        at : (o : Option ClientSession) → put_session c kept (keyed d o (table g ds)) ≡ (c, kept) ∷ table g ds
        at None = put_above c kept g ds (subst (λ (b : Client). IsAbove b ds) (sym (equal_is c d e)) h.0)
        at (Some other) =
            ap (λ o. match_ordering o ((c, kept) ∷ (d, other) ∷ table g ds) ((d, kept) ∷ table g ds) ((d, other) ∷ put_session c kept (table g ds))) e
            ∙ ap (λ b. (b, kept) ∷ table g ds) (sym (equal_is c d e))

    greater : by_bytes c d ≡ Greater → table f (insert_client c ds) ≡ put_session c kept (table g ds) →
        keyed d (f d) (table f (insert_client c ds)) ≡ put_session c kept (keyed d (g d) (table g ds))
    greater e more = ap₂ (λ o rows. keyed d o rows) (same d (ap is_eq e)) more ∙ sym (at (g d))
      where
        at : (o : Option ClientSession) → put_session c kept (keyed d o (table g ds)) ≡ keyed d o (put_session c kept (table g ds))
        at None = refl
        at (Some other) = ap (λ o. match_ordering o ((c, kept) ∷ (d, other) ∷ table g ds) ((d, kept) ∷ table g ds) ((d, other) ∷ put_session c kept (table g ds))) e

    by : (o : Ordering) → by_bytes c d ≡ o → table f (insert_client c ds) ≡ put_session c kept (table g ds) →
        table f (match_ordering o (c ∷ d ∷ ds) (d ∷ ds) (d ∷ insert_client c ds)) ≡ put_session c kept (keyed d (g d) (table g ds))
    by Less e more =
        ap₂ (λ o rows. keyed c o rows) is (table_above f g c (d ∷ ds) same (e, above_more c d ds e h.0))
        ∙ sym (put_above c kept g (d ∷ ds) (e, above_more c d ds e h.0))
    by Equal e more = ap (λ b. keyed b (f b) (table f ds)) (sym (equal_is c d e)) ∙ equal e
    by Greater e more = greater e more
