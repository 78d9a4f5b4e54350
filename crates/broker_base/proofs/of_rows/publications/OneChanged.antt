-- One session changed in its place.
use Rattle.std.proofs.Common.{◌≡◌, Bool, true, false, if◌then◌else◌, [], ◌∷◌, Option, Some, None, refl, ap, ◌∙◌, sym}
use Rattle.std.specs.Prelude.{option_map}
use Rattle.std.specs.Ordering.{is_eq}
use Rattle.broker_spec.specs.Place.{Client, same_client}
use Rattle.broker_base.specs.ClientSession.{ClientSession}
use Rattle.broker_base.specs.State.{Sessions, session_in}
use Rattle.broker_spec.proofs.ClientsInOrder.{same_is}
use Rattle.broker_base.proofs.SessionsStayByClient.{ComesBefore}
use Rattle.broker_base.specs.rows.Touched.{written}
use Rattle.broker_base.specs.rows.Published.{session_changed}
use Rattle.broker_base.specs.rows.PublishTheorems.{ChangeIsOfOneRow}
use Rattle.broker_base.proofs.of_rows.OneRow.{written_here, written_after}
use Rattle.broker_base.proofs.of_rows.ServedStep.{written_same}

-- if none is found, none is removed
none_removed : (d : Client) (rows : Sessions) → session_in d rows ≡ None → written d None rows ≡ rows
none_removed d [] none = refl
none_removed d (row ∷ rows) none = by (same_client d row.0) none (none_removed d rows)
  where
    by : (b : Bool) → (if b then Some row.1 else session_in d rows) ≡ None → (session_in d rows ≡ None → written d None rows ≡ rows) →
        (if b then rows else row ∷ written d None rows) ≡ row ∷ rows
    by true e more = absurd (cc)
    by false e more = ap (λ rest. row ∷ rest) (more e)

-- of the first row, or of one after it
pub changed_next : (d : Client) (change : ClientSession → ClientSession) (row : Client × ClientSession) (rows : Sessions) →
    session_changed d change (row ∷ rows) ≡ (if same_client d row.0 then (row.0, change row.1) ∷ rows else row ∷ session_changed d change rows)
changed_next d change row rows = by (same_client d row.0) refl
  where
    by : (b : Bool) → same_client d row.0 ≡ b →
        written d (option_map change (if b then Some row.1 else session_in d rows)) (row ∷ rows)
        ≡ (if b then (row.0, change row.1) ∷ rows else row ∷ session_changed d change rows)
    by true e = sym (written_here d (Some (change row.1)) row rows e)
    by false e = sym (written_after d (option_map change (session_in d rows)) row rows e)

-- a client before all rows has none to change
pub changed_none : (d : Client) (change : ClientSession → ClientSession) (rows : Sessions) → ComesBefore d rows → session_changed d change rows ≡ rows
changed_none d change [] before = refl
changed_none d change (row ∷ rows) before =
    changed_next d change row rows
    ∙ ap (λ o. if is_eq o then (row.0, change row.1) ∷ rows else row ∷ session_changed d change rows) before.0
    ∙ ap (λ rest. row ∷ rest) (changed_none d change rows before.1)

-- another client's session stays if one is changed
pub other_stays : (d c : Client) (change : ClientSession → ClientSession) (rows : Sessions) → same_client d c ≡ false → session_in c (session_changed d change rows) ≡ session_in c rows
other_stays d c change [] other = refl
other_stays d c change (row ∷ rows) other =
    ap (session_in c) (changed_next d change row rows)
    ∙ by (same_client d row.0) refl (same_client c row.0) refl (other_stays d c change rows other)
  where
    by : (mine : Bool) → same_client d row.0 ≡ mine → (asked : Bool) → same_client c row.0 ≡ asked → session_in c (session_changed d change rows) ≡ session_in c rows →
        session_in c (if mine then (row.0, change row.1) ∷ rows else row ∷ session_changed d change rows) ≡ session_in c (row ∷ rows)
    by true e true f more =
        let both : same_client d c ≡ true = ap (same_client d) (same_is c row.0 f) ∙ e in
        absurd (cc)
    by true e false f more = ap (λ b. if b then Some (change row.1) else session_in c rows) f ∙ sym (ap (λ b. if b then Some row.1 else session_in c rows) f)
    by false e asked f more = ap (λ found. if same_client c row.0 then Some row.1 else found) more

-- what the change leaves of a session is in each of them
pub changed_as : {A : Type 0} (look : Option ClientSession → A) (d : Client) (change : ClientSession → ClientSession) (c : Client) (rows : Sessions) →
    ((kept : ClientSession) → look (Some (change kept)) ≡ look (Some kept)) → look (session_in c (session_changed d change rows)) ≡ look (session_in c rows)
changed_as look d change c [] same = refl
changed_as look d change c (row ∷ rows) same =
    ap (λ all. look (session_in c all)) (changed_next d change row rows)
    ∙ by (same_client d row.0) (changed_as look d change c rows same)
  where
    here : (b : Bool) → look (if b then Some (change row.1) else session_in c rows) ≡ look (if b then Some row.1 else session_in c rows)
    here true = same row.1
    here false = refl

    after : (b : Bool) → look (session_in c (session_changed d change rows)) ≡ look (session_in c rows) →
        look (if b then Some row.1 else session_in c (session_changed d change rows)) ≡ look (if b then Some row.1 else session_in c rows)
    after true more = refl
    after false more = more

    by : (mine : Bool) → look (session_in c (session_changed d change rows)) ≡ look (session_in c rows) →
        look (session_in c (if mine then (row.0, change row.1) ∷ rows else row ∷ session_changed d change rows)) ≡ look (session_in c (row ∷ rows))
    by true more = here (same_client c row.0)
    by false more = after (same_client c row.0) more

-- if it is found, and if it is not
pub change_is_of_one_row : ChangeIsOfOneRow
change_is_of_one_row d change rows = (
  λ kept found. ap (λ o. written d (option_map change o) rows) found,
  λ kept found same. ap (λ o. written d (option_map change o) rows) found ∙ ap (λ k. written d (Some k) rows) same ∙ written_same d kept rows found,
  λ none. ap (λ o. written d (option_map change o) rows) none ∙ none_removed d rows none,
)
