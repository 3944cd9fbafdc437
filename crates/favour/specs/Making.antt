-- When an arbiter can be favoured, and what is made of it. Assumes nothing.
use Rattle.std.specs.Prelude.{◌≡◌, ℕ, ◌<◌, false, ◌⊎◌, None}
use Rattle.tasks.specs.declared.refusal.Refusal.{Refusal}
use Rattle.tasks.specs.Refusals.{told, refusal}
use Rattle.bus.specs.Turns.{Idle, Busy}
use Rattle.bus.specs.Means.{Means, PortRefused}
use Rattle.favour.specs.declared.Favour.{Favour}
use Rattle.favour.specs.Account.{favour_means}

-- port f favoured over an idle arbiter: nobody waits, nobody is in service, and all agrees
pub record Made {X : Type 0} (means : Means X) (x : X) (f : ℕ) (s : Favour X) : Type 0 where
  pub below : s.below ≡ x
  pub own : s.own ≡ record { port = f; waits = false; served = None }
  pub stands : (favour_means means).stands s
  pub idle : Idle ((favour_means means).meaning s)

-- 6: no such port; 17: the arbiter below is not idle
abbrev pub NotMade : {X : Type 0} → Means X → X → ℕ → Refusal → Type 0
NotMade means x f e =
    PortRefused (means.meaning x).ports f e
    ⊎ ((told e ≡ refusal 17) × (f < (means.meaning x).ports) × (means.stands x → Busy (means.meaning x)))
