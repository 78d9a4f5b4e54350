-- The session of each client, if one row is written, removed, or inserted.
use Rattle.std.proofs.Common.{◌≡◌, Bool, true, false, if◌then◌else◌, [], ◌∷◌, Option, Some, None, refl, ap, ◌∙◌, sym, subst}
use Rattle.std.specs.declared.cmp.Ordering.{Ordering}
use Rattle.std.specs.declared.cmp.Ordering.TheVariants.{Less, Equal, Greater}
use Rattle.std.specs.List.Sorted.{IsStrictlySortedBy}
use Rattle.std.specs.Ordering.{is_eq, match_ordering, ordering_reverse}
use Rattle.std.proofs.lemmas.Cmp.{nat_list_cmp_total}
use Rattle.broker_spec.specs.Place.{Client, by_bytes, same_client}
use Rattle.broker_base.specs.ClientSession.{ClientSession}
use Rattle.broker_base.specs.State.{Sessions, keyed, session_in, put_session}
use Rattle.broker_base.specs.StateTheorems.{AreByClient}
use Rattle.broker_spec.proofs.ClientsInOrder.{same_is, equal_is}
use Rattle.broker_base.proofs.SessionsStayByClient.{ComesBefore}
use Rattle.broker_base.specs.rows.Touched.{written}
use Rattle.broker_base.proofs.of_rows.OneRow.{written_here, written_after}
use Rattle.broker_base.proofs.of_rows.ConnectSteps.{no_session}

-- whether two clients are one, either way round
same_back : (c d : Client) → same_client c d ≡ same_client d c
same_back c d = ap is_eq (nat_list_cmp_total.antisymm c d) ∙ by (by_bytes d c)
  where
    by : (o : Ordering) → is_eq (ordering_reverse o) ≡ is_eq o
    by Less = refl
    by Equal = refl
    by Greater = refl

-- with this session at the client's own row
at_own : (d : Client) (o : Option ClientSession) (row : Client × ClientSession) (rows : Sessions) (c : Client) → ComesBefore row.0 rows → d ≡ row.0 →
    session_in c (keyed row.0 o rows) ≡ (if same_client d c then o else session_in c (row ∷ rows))
at_own d o row rows c before own =
    by o (same_client c row.0) refl ∙ ap (λ b. if b then o else session_in c (row ∷ rows)) (same_back c row.0 ∙ ap (λ e. same_client e c) (sym own))
  where
    by : (o : Option ClientSession) (b : Bool) → same_client c row.0 ≡ b → session_in c (keyed row.0 o rows) ≡ (if same_client c row.0 then o else session_in c (row ∷ rows))
    by None true e =
        no_session c rows (subst (λ (b : Client). ComesBefore b rows) (sym (same_is c row.0 e)) before)
        ∙ sym (ap (λ b. if b then None else if b then Some row.1 else session_in c rows) e)
    by None false e = sym (ap (λ b. if b then None else if b then Some row.1 else session_in c rows) e)
    by (Some kept) true e =
        ap (λ b. if b then Some kept else session_in c rows) e ∙ sym (ap (λ b. if b then Some kept else if b then Some row.1 else session_in c rows) e)
    by (Some kept) false e =
        ap (λ b. if b then Some kept else session_in c rows) e ∙ sym (ap (λ b. if b then Some kept else if b then Some row.1 else session_in c rows) e)

-- after another's row
after_own : (d : Client) (o : Option ClientSession) (row : Client × ClientSession) (rows rest : Sessions) (c : Client) → same_client d row.0 ≡ false →
    session_in c rest ≡ (if same_client d c then o else session_in c rows) →
    session_in c (row ∷ rest) ≡ (if same_client d c then o else session_in c (row ∷ rows))
after_own d o row rows rest c other more =
    ap (λ found. if same_client c row.0 then Some row.1 else found) more ∙ by (same_client c row.0) refl (same_client d c) refl
  where
    by : (b : Bool) → same_client c row.0 ≡ b → (mine : Bool) → same_client d c ≡ mine →
        (if b then Some row.1 else if mine then o else session_in c rows) ≡ (if mine then o else if b then Some row.1 else session_in c rows)
    by true e true f =
        let g : same_client d row.0 ≡ true = ap (λ z. same_client d z) (sym (same_is c row.0 e)) ∙ f in
        absurd (cc)
    by true e false f = refl
    by false e mine f = refl

-- if a row is written, or removed
pub session_written : (d : Client) (old : ClientSession) (o : Option ClientSession) (rows : Sessions) (c : Client) → AreByClient rows → session_in d rows ≡ Some old →
    session_in c (written d o rows) ≡ (if same_client d c then o else session_in c rows)
unfolding IsStrictlySortedBy
session_written d old o [] c by_client found = absurd (cc)
session_written d old o (row ∷ rows) c by_client found = by (same_client d row.0) refl found (λ e. session_written d old o rows c by_client.1 e)
  where
    by : (b : Bool) → same_client d row.0 ≡ b → (if b then Some row.1 else session_in d rows) ≡ Some old →
        (session_in d rows ≡ Some old → session_in c (written d o rows) ≡ (if same_client d c then o else session_in c rows)) →
        session_in c (written d o (row ∷ rows)) ≡ (if same_client d c then o else session_in c (row ∷ rows))
    by true same e more = ap (session_in c) (sym (written_here d o row rows same)) ∙ at_own d o row rows c by_client.0 (same_is d row.0 same)
    by false other e more = ap (session_in c) (sym (written_after d o row rows other)) ∙ after_own d o row rows (written d o rows) c other (more e)

-- if a row is inserted
pub session_put : (d : Client) (kept : ClientSession) (rows : Sessions) (c : Client) → AreByClient rows →
    session_in c (put_session d kept rows) ≡ (if same_client d c then Some kept else session_in c rows)
unfolding IsStrictlySortedBy
session_put d kept [] c by_client = ap (λ b. if b then Some kept else None) (same_back c d)
session_put d kept (row ∷ rows) c by_client = by (by_bytes d row.0) refl (session_put d kept rows c by_client.1)
  where
    by : (o : Ordering) → by_bytes d row.0 ≡ o → session_in c (put_session d kept rows) ≡ (if same_client d c then Some kept else session_in c rows) →
        session_in c (match_ordering o ((d, kept) ∷ row ∷ rows) ((row.0, kept) ∷ rows) (row ∷ put_session d kept rows))
        ≡ (if same_client d c then Some kept else session_in c (row ∷ rows))
    by Less e more = ap (λ b. if b then Some kept else session_in c (row ∷ rows)) (same_back c d)
    by Equal e more = at_own d (Some kept) row rows c by_client.0 (equal_is d row.0 e)
    by Greater e more = after_own d (Some kept) row rows (put_session d kept rows) c (ap is_eq e) more
