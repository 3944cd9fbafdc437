-- What round robin's code does to its mask. Assumes nothing.
use Rattle.std.proofs.Common.{◌≡◌, ℕ, ◌+◌, ◌%◌, ◌<◌, ◌≤◌, true, sym, ap, ◌∙◌, subst, arith}
use Rattle.bus.specs.Masks.{has}
use Rattle.bus.specs.Turns.{Wanted}
use Rattle.bus.proofs.Masks.{lowest, lowest_in, low_16, flag, flag_set, flag_clear, or_below, has_below, has_or_other, rotated}
use Rattle.round_robin.specs.declared.RoundRobin.{RoundRobin}
use Rattle.round_robin.specs.Rings.{place}
use Rattle.round_robin.specs.Account.{round_meaning}
use Rattle.round_robin.specs.Ring.{chosen, chosen_waits, chosen_first}

pub some_wait : (s : RoundRobin) → (s.mask ≡ 0 → ⊥) → Wanted (round_meaning s)
some_wait s n = (lowest s.mask, (lowest_in s.mask n (low_16 s.mask s.ports.count s.low s.ports.few)).waits)

-- what the grant of port c, found in the rotated mask, rests on
pub record Found (s : RoundRobin) (c : ℕ) : Type 0 where
  pub waited : has s.mask c ≡ true
  pub first : (p : ℕ) → has s.mask p ≡ true → place s.next c ≤ place s.next p
  pub port : c < s.ports.count

pub found : (s : RoundRobin) (start r : ℕ) → (s.mask ≡ 0 → ⊥) → start ≡ s.next → r ≡ rotated s.mask start → Found s ((start + lowest r) % 16)
found s start r n e f =
    let low = low_16 s.mask s.ports.count s.low s.ports.few in
    let near : s.next ≤ 16 = omega (arith, s.near, s.ports.few) in
    let waited : has s.mask (chosen s.mask s.next) ≡ true = chosen_waits s.mask s.next low (omega (arith, n)) near in
    let at : Found s (chosen s.mask s.next) = record {
      waited = waited;
      first = chosen_first s.mask s.next low (omega (arith, n)) near;
      port = has_below s.mask _ s.ports.count s.low waited;
    } in
    subst (Found s) (ap (λ x. (x + lowest (rotated s.mask x)) % 16) (sym e) ∙ ap (λ x. (start + lowest x) % 16) (sym f)) at

-- what the calls' goals rest on
pub ruleset ring_steps = (some_wait, flag, flag_set, flag_clear, or_below, has_or_other)
