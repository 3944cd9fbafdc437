-- From one moment to the next tick: what is due comes later, and the run stays good.
use Rattle.std.proofs.Common.{◌≡◌, ℕ, zero, suc, ◌<◌, List, length, get_or, Some, subst, arith}
use Rattle.argument.specs.Plans.{Plan, SoundPlan}
use Rattle.bus.specs.Turns.{Meaning, Idle}
use Rattle.bridge.specs.Scripts.{Script, core_at}
use Rattle.bridge.specs.States.{State, begun}
use Rattle.bridge.specs.Moments.{moment}
use Rattle.bridge.specs.Runs.{tick, run, grants_of}
use Rattle.bridge.proofs.Allowed.{Allowed}
use Rattle.bridge.proofs.Moves.{Inv, Good}
use Rattle.bridge.proofs.Due.{due}
use Rattle.bridge.proofs.Steps.{settled_moment, on_inv}
use Rattle.bridge.proofs.Onward.{After, after_moment}

module _ (P : Plan) (Z : Script) (sound : SoundPlan P) (ok : Allowed P Z) (m₀ : Meaning) where
  pub core_below : (k : ℕ) → k < Z.size → core_at P Z k < P.cores
  core_below k l = sound.placed (Z.row k).task (ok.known k l)

  pub due_later : (S T : State) → After P Z sound ok m₀ S T → (m : Meaning) → Inv P Z m₀.limit T m
      → (k d : ℕ) → k < Z.size → due T.now (Z.row k).release (T.cell k) ≡ Some d → T.now < d
  due_later S T a m i k d l e = grind arith

  pub good_tick : (p : ℕ) (S : State) → Good P Z ok m₀ S → Good P Z ok m₀ (tick (moment P Z p S))
  good_tick p S good m kp =
      let T = moment P Z p S in
      let h = settled_moment P Z sound ok m₀ p S good in
      let i = h.fine m kp in
      let a = after_moment P Z sound ok m₀ p S good m kp in
      on_inv P Z sound ok m₀ T h (suc T.now) m i kp (λ k d l e. due_later S T a m i k d l e) (omega arith)

  module _ (ports : m₀.ports ≡ P.cores) (idle : Idle m₀) where
    first_inv : Inv P Z m₀.limit begun m₀
    first_inv = grind arith

    pub good_run : (cs : List ℕ) (n : ℕ) → Good P Z ok m₀ (run P Z cs n)
    good_run cs zero = λ m e. subst (Inv P Z m₀.limit begun) e first_inv
    good_run cs (suc n) = good_tick (get_or cs (length (grants_of (run P Z cs n).events)) 0) (run P Z cs n) (good_run cs n)
