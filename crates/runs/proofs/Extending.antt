-- One more choice: the run so far stays, and the next moment grants it.
use Rattle.std.proofs.Common.{◌≡◌, ℕ, suc, List, [], ◌∷◌, ◌++◌, length, get_or, sym, refl, ap, ◌∙◌, add-one, arith}
use Rattle.std.proofs.lemmas.List.{get_or_append_left, length_push}
use Rattle.std.proofs.Math.Seq.{get_or-append_seam}
use Rattle.argument.specs.Plans.{Plan}
use Rattle.bridge.specs.Scripts.{Script}
use Rattle.bridge.specs.States.{State}
use Rattle.bridge.specs.Moments.{moment}
use Rattle.bridge.specs.Runs.{tick, run, grants_of}
use Rattle.bridge.proofs.Single.{G, Before, nobody, somebody, choice, many, agree, grants_before, grants_grant}

module _ (P : Plan) (Z : Script) (cs : List ℕ) (n p : ℕ) (count : length cs ≡ many P Z cs n) where
  pub record Extended (ds : List ℕ) : Type 0 where
    pub before : run P Z ds n ≡ run P Z cs n
    pub next : run P Z ds (suc n) ≡ tick (moment P Z p (run P Z cs n))
    pub counted : length ds ≡ many P Z ds (suc n)

  pub extended : (ds : List ℕ) × Extended ds
  extended = elim (choice P Z (Before P Z (run P Z cs n))) [
    | nobody h ↦ (
      cs,
      record {
        before = refl;
        next = ap tick (h (get_or cs (many P Z cs n) 0) ∙ sym (h p));
        counted = count ∙ sym (ap length (ap G (h (get_or cs (many P Z cs n) 0)) ∙ grants_before P Z (run P Z cs n)));
      },
    )
    | somebody h ↦ (
        let ds = cs ++ (p ∷ []) in
        let same : run P Z cs n ≡ run P Z ds n = agree P Z cs ds n (λ i l. sym (get_or_append_left cs (p ∷ []) 0 i (omega (arith, l, count)))) in
        let where_at : many P Z ds n ≡ length cs = ap (λ (T : State). length (grants_of T.events)) (sym same) ∙ sym count in
        let port : get_or ds (many P Z ds n) 0 ≡ p = ap (λ i. get_or ds i 0) where_at ∙ get_or-append_seam cs p [] 0 in
        let next : run P Z ds (suc n) ≡ tick (moment P Z p (run P Z cs n)) = ap tick (ap (λ q. moment P Z q (run P Z ds n)) port ∙ ap (moment P Z p) (sym same)) in
        let more = ap G (h p) ∙ grants_grant Z (Before P Z (run P Z cs n)) p ((Before P Z (run P Z cs n)).has p) ∙ ap (◌∷◌ p) (grants_before P Z (run P Z cs n)) in (
          ds,
          record {
            before = sym same;
            next = next;
            counted = length_push cs p ∙ add-one (length cs) ∙ ap suc count ∙ sym (ap (λ (T : State). length (grants_of T.events)) next ∙ ap length more);
          },
        ))
  ]
