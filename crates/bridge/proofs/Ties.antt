-- What a program that drives an arbiter has to know: no call is refused where the run makes it, and a grant is the run's.
use Rattle.std.proofs.Common.{◌≡◌, ℕ, suc, ◌<◌, Bool, true, false, Some, None, ap, ◌∙◌, arith}
use Rattle.std.proofs.lemmas.Bool.{both_ways, cond-true}
use Rattle.argument.specs.Logs.{Turn}
use Rattle.argument.specs.Plans.{Plan, SoundPlan}
use Rattle.argument.specs.Sums.{any}
use Rattle.bridge.proofs.Allowed.{Allowed}
use Rattle.bridge.proofs.Cells.{phase, at}
use Rattle.bridge.specs.Moments.{serving, waits_now, grant_at, granting}
use Rattle.bridge.specs.Scripts.{Script, core_at}
use Rattle.bridge.specs.States.{State}
use Rattle.bus.specs.Turns.{Meaning, Granted}
use Rattle.tasks.specs.Limits.{Limit}
use Rattle.bridge.proofs.Moves.{Inv}
use Rattle.argument.proofs.Exchange.{any_true}
use Rattle.bridge.proofs.Steps.{serving_true, waiting_true, any_serving, any_waiting}

pub any_none : (n : ℕ) (p : ℕ → Bool) → ((k : ℕ) → k < n → p k ≡ true → ⊥) → any n p ≡ false
any_none n p h = grind (arith, any_true)

module _ (P : Plan) (Z : Script) (sound : SoundPlan P) (ok : Allowed P Z) (lim : ℕ → ℕ → Limit) (S : State) (m : Meaning) (i : Inv P Z lim S m) where
  -- the port of a core that joins is not in
  pub may_join : (c : ℕ) → ((k : ℕ) → S.has c ≡ Some k → phase (S.cell k) ≡ 3) → (m.waits c ≡ false) × (m.serves ≡ Some c → ⊥)
  may_join c out = grind arith

  -- a service that ends is the arbiter's
  pub may_end : (x : Turn) (c k : ℕ) → S.has c ≡ Some k → phase (S.cell k) ≡ suc (at x) → m.serves ≡ Some c
  may_end x c k e p = let o = i.cores.holds c k e in i.bus.serve_of x k o.known p ∙ ap Some o.same

  pub serves_any : (c : ℕ) → m.serves ≡ Some c → any P.cores (λ c. serving S (S.has c)) ≡ true
  serves_any c e = let z = i.bus.of_serve c e in any_serving P Z sound ok S i.cores z.0 z.1 z.2.known z.2.stage_is

  pub serves_none : m.serves ≡ None → any P.cores (λ c. serving S (S.has c)) ≡ false
  serves_none e = any_none P.cores (λ c. serving S (S.has c)) (λ c l t.
      let z = serving_true S (S.has c) t in
      let u = may_end z.0 c z.1 z.2 z.3 in
      let v : ◌≡◌ {A = ℕ} 0 1 = cc in omega arith)

  pub waits_any : (c : ℕ) → m.waits c ≡ true → any P.cores (λ c. waits_now S (S.has c)) ≡ true
  waits_any c e = let z = i.bus.of_wait c e in any_waiting P Z sound ok S i.cores z.0 z.1 z.2.known z.2.stage_is

  pub waits_none : ((c : ℕ) → m.waits c ≡ false) → any P.cores (λ c. waits_now S (S.has c)) ≡ false
  waits_none none = any_none P.cores (λ c. waits_now S (S.has c)) (λ c l t.
      let z = waiting_true S (S.has c) t in
      let o = i.cores.holds c z.1 z.2 in
      both_ways (m.waits (core_at P Z z.1)) (none (core_at P Z z.1)) (i.bus.wait_of z.0 z.1 o.known z.3))

  -- what the arbiter answers to a call of grant, and what the run then does
  pub granted_is : (p : ℕ) (n : Meaning) → Granted m p n → granting P Z p S ≡ grant_at Z S p (S.has p)
  granted_is p n G = grind (arith, serves_none, waits_any)

  pub nobody_waits : (p : ℕ) → ((c : ℕ) → m.waits c ≡ false) → granting P Z p S ≡ S
  nobody_waits p none = grind (arith, waits_none)

  pub in_service_lem : (p c : ℕ) → m.serves ≡ Some c → granting P Z p S ≡ S
  in_service_lem p c e = cond-true (any P.cores (λ c. serving S (S.has c))) S _ (serves_any c e)
