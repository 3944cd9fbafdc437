-- The log of a run that is over keeps the laws, and the bus carried one phase at a time.
use Rattle.std.proofs.Common.{◌≡◌, ℕ, ◌<◌, ◌≤◌, ◌⊎◌, List, ap, inl, inr, arith}
use Rattle.tasks.specs.Limits.{Within, Limit}
use Rattle.argument.specs.Sums.{on}
use Rattle.argument.specs.Plans.{Plan}
use Rattle.argument.specs.Logs.{Log, Turn, joined, granted, meets, core_of, met, Before, Possible, OnCore, Carried, possible_moments, spaced_releases, one_at_a_time, no_idling, right_choice, never_free, limits_kept, KeepsTheLaws}
use Rattle.bus.specs.Turns.{Meaning}
use Rattle.bridge.specs.Scripts.{Script}
use Rattle.bridge.specs.Stages.{number}
use Rattle.bridge.specs.States.{State, log_of, Complete}
use Rattle.bridge.specs.Runs.{run}
use Rattle.bridge.specs.Promises.{AllowedRun, OnePhaseAtATime, EveryRunKeepsTheLaws, TheBusCarriesOnePhaseAtATime}
use Rattle.bridge.proofs.Allowed.{Allowed, allowed}
use Rattle.bridge.proofs.Kept.{keeps}
use Rattle.argument.proofs.Limits.{within_less}
use Rattle.argument.proofs.Sums.{sum_le}
use Rattle.argument.proofs.Exchange.{on_mono, on_sub}
use Rattle.bridge.proofs.Cells.{phase, at_some, granted_now}
use Rattle.bridge.proofs.Past.{seen, sight}
use Rattle.bridge.proofs.Moves.{Inv}
use Rattle.bridge.proofs.Ticks.{good_run}

module _ (P : Plan) (Z : Script) (ok : Allowed P Z) (lim : ℕ → ℕ → Limit) (S : State) (m : Meaning) (i : Inv P Z lim S m) (whole : Complete Z S) where
  ended_all : (k : ℕ) → k < Z.size → phase (S.cell k) ≡ 6
  ended_all k l = ap number (whole k l)

  abbrev L : Log
  L = log_of Z S

  possible : (k : ℕ) → k < Z.size → Possible P (L.job k)
  possible k l = let f = i.fits k l in let o = ended_all k l in let n = ok.known k l in omega arith

  single : (j k : ℕ) → j < Z.size → k < Z.size → (j ≡ k → ⊥) → core_of P (L.job j) ≡ core_of P (L.job k)
      → ((L.job j).end ≤ (L.job k).start) ⊎ ((L.job k).end ≤ (L.job j).start)
  single j k a b ne s = grind arith

  taken : (k : ℕ) → k < Z.size → (t : ℕ) → (L.job k).release ≤ t → t < (L.job k).start → (j : ℕ) × OnCore P L k t j
  taken k l t r s =
      let f = i.fits k l in
      let o = ended_all k l in
      elim (i.past.taken k t l (omega (arith, f.begun (omega arith))) r) [
        | inl b ↦ absurd (omega (arith, b.from))
        | inr z ↦ (
            let j = z.0 in
            let h = z.1 in
            (j, record { known = h.known; same = h.same; from = h.from; to = h.to (omega (arith, ended_all j h.known)) }))
      ]

  right : (j k : ℕ) → j < Z.size → k < Z.size → core_of P (L.job j) ≡ core_of P (L.job k)
      → (L.job k).release ≤ (L.job j).start → (L.job j).start < (L.job k).start → Before P (L.job j) (L.job k)
  right j k a b same r s = grind arith

  carried : (x : Turn) (k : ℕ) → k < Z.size → (t : ℕ) → joined x (L.job k) ≤ t → t < granted x (L.job k)
      → (y : Turn) × (j : ℕ) × Carried P L k t y j
  carried x k l t a b =
      let z = i.past.carried x k t l (omega (arith, granted_now Z k (i.fits k l) x (omega (arith, ended_all k l, at_some x))))
      (omega (arith, ended_all k l, at_some x)) a (λ _. b) in
      let h = z.2 in
      (z.0, z.1, record { known = h.known; other = h.other; from = h.from; to = h.to })

  met_seen : (x : Turn) (k : ℕ) (y : Turn) (j : ℕ) → j < Z.size
      → on (meets x (L.job k) y (L.job j)) 1 ≤ seen Z S.cell (granted x (L.job k)) (joined x (L.job k)) y j
  met_seen x k y j l = grind (arith, on_sub, ended_all, at_some)

  met_sight : (x : Turn) (k b : ℕ) → met P L x (L.job k) b ≤ sight P Z S.cell (granted x (L.job k)) (joined x (L.job k)) b
  met_sight x k b = grind (arith, sum_le, on_mono, met_seen)

  limited : (x : Turn) (k : ℕ) → k < Z.size → (b : ℕ) → b < P.cores → (b ≡ core_of P (L.job k) → ⊥) → Within (lim (core_of P (L.job k)) b) (met P L x (L.job k) b)
  limited x k l b h ne = grind (arith, within_less, met_sight, ended_all, at_some)

  pub lawful : KeepsTheLaws P lim L
  lawful possible_moments = possible
  lawful spaced_releases = ok.spaced
  lawful one_at_a_time = single
  lawful no_idling = taken
  lawful right_choice = right
  lawful never_free = carried
  lawful limits_kept = limited

  pub alone : OnePhaseAtATime L
  alone = grind (arith, ended_all, at_some)

-- the invariant of an allowed run
pub inv : (plan : Plan) (script : Script) (choices : List ℕ) (n : ℕ) (from to : Meaning) → AllowedRun plan script choices n from to
    → Inv plan script from.limit (run plan script choices n) to
inv plan script choices n from to g = good_run plan script g.sound (allowed plan script g.lawful) from g.ports g.idle choices n to (keeps g.turns)

pub every_run_keeps_the_laws : EveryRunKeepsTheLaws
every_run_keeps_the_laws plan script choices n from to g whole =
    lawful plan script (allowed plan script g.lawful) from.limit (run plan script choices n) to (inv plan script choices n from to g) whole

pub one_phase_at_a_time : TheBusCarriesOnePhaseAtATime
one_phase_at_a_time = grind (arith, alone, allowed, inv)
