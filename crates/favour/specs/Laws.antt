-- The laws of a favour, from those of any arbiter below. Assumes nothing.
use Rattle.std.specs.Prelude.{ℕ, None}
use Rattle.std.proofs.Common.{sym, subst, inl, inr}
use Rattle.bus.specs.Turns.{Joined, Granted, Done}
use Rattle.bus.specs.Means.{Means, Laws}
use Rattle.favour.specs.declared.Own.{Own}
use Rattle.favour.specs.declared.Favour.{Favour}
use Rattle.favour.specs.Account.{favour_meaning, favour_means, Agrees, FavourJoins, FavourGrants, FavourEnds}
use Rattle.favour.specs.Turns.{favour_sound, own_joined, below_joined, own_granted, below_granted, own_done, below_done}

module _ {X : Type 0} (means : Means X) (laws : Laws means) where
  -- own record and arbiter below, before and after a step
  abbrev Stands : Own → X → Type 0
  Stands o x = means.stands x × Agrees o (means.meaning x)

  joining : (s : Favour X) (a : ℕ) (t : Favour X) → Stands s.own s.below → FavourJoins means s a t
      → Joined (favour_meaning s.own (means.meaning s.below)) a (favour_meaning t.own (means.meaning t.below)) × Stands t.own t.below
  joining s a t st (inl j) =
      let P : X → Type 0 = λ z. Joined (favour_meaning s.own (means.meaning s.below)) a (favour_meaning t.own (means.meaning z)) × Stands t.own z in
      let r = own_joined s.own (means.meaning s.below) st.1 a t.own j.0 in
      subst P (sym j.1) (r.0, (st.0, r.1))
  joining s a t st (inr j) =
      let P : Own → Type 0 = λ q. Joined (favour_meaning s.own (means.meaning s.below)) a (favour_meaning q (means.meaning t.below)) × Stands q t.below in
      let l = laws.joining s.below a t.below st.0 j.2 in
      let r = below_joined s.own (means.meaning s.below) (means.meaning t.below) st.1 a j.0 l.0 in
      subst P (sym j.1) (r.0, (l.1, r.1))

  granting : (s : Favour X) (c : ℕ) (t : Favour X) → Stands s.own s.below → FavourGrants means s c t
      → Granted (favour_meaning s.own (means.meaning s.below)) c (favour_meaning t.own (means.meaning t.below)) × Stands t.own t.below
  granting s c t st (inl j) =
      let P : X → Type 0 = λ z. Granted (favour_meaning s.own (means.meaning s.below)) c (favour_meaning t.own (means.meaning z)) × Stands t.own z in
      let r = own_granted s.own (means.meaning s.below) st.1 c t.own j.0 in
      subst P (sym j.1) (r.0, (st.0, r.1))
  granting s c t st (inr j) =
      let l = laws.granting s.below c t.below st.0 j.1 in
      let r = below_granted s.own (means.meaning s.below) (means.meaning t.below) st.1 c t.own j.0 l.0 in
      (r.0, (l.1, r.1))

  ending : (s t : Favour X) → Stands s.own s.below → FavourEnds means s t
      → Done (favour_meaning s.own (means.meaning s.below)) (favour_meaning t.own (means.meaning t.below)) × Stands t.own t.below
  ending s t st j =
      let P : Own → X → Type 0 = λ q z. Done (favour_meaning s.own (means.meaning s.below)) (favour_meaning q (means.meaning z)) × Stands q z in
      let over : Own = record { port = s.own.port; waits = s.own.waits; served = None } in
      let at : P over t.below = elim j.1 [
        | inl k ↦ (let r = own_done s.own (means.meaning s.below) st.1 k.0 in subst (P over) (sym k.1) (r.0, (st.0, r.1)))
        | inr k ↦ (
            let l = laws.ending s.below t.below st.0 k.1 in
            let r = below_done s.own (means.meaning s.below) (means.meaning t.below) st.1 k.0.0 k.0.1 l.0 in
            (r.0, (l.1, r.1)))
      ] in
      subst (λ q. P q t.below) (sym j.0) at

  pub favour_laws : Laws (favour_means means)
  favour_laws = record {
    sound = λ s st. favour_sound s.own (means.meaning s.below) st.1 (laws.sound s.below st.0);
    joining = joining;
    granting = granting;
    ending = ending;
  }
