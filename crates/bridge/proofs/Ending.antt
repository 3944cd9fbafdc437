-- Every tick brings some job nearer to its end, so that every run ends.
use Rattle.std.proofs.Common.{◌≡◌, ℕ, zero, suc, ◌+◌, ◌<◌, ◌≤◌, ◌⊎◌, List, length, get_or, Some, None, Option, refl, inl, inr, arith}
use Rattle.std.proofs.lemmas.Bool.{cases_lt}
use Rattle.argument.specs.Sums.{sum}
use Rattle.argument.specs.Plans.{Plan, SoundPlan}
use Rattle.argument.specs.Logs.{Turn, A, R}
use Rattle.argument.proofs.Sums.{sum_le, sum_lt}
use Rattle.bus.specs.Turns.{Meaning, Idle}
use Rattle.bridge.specs.Scripts.{Script, Release, core_at}
use Rattle.bridge.specs.Stages.{over}
use Rattle.bridge.specs.States.{Cell, State, begun, Complete}
use Rattle.bridge.specs.Moments.{moment}
use Rattle.bridge.specs.Runs.{tick, run, grants_of}
use Rattle.bridge.specs.Promises.{EveryRunEnds}
use Rattle.bridge.proofs.Allowed.{Allowed, allowed}
use Rattle.bridge.proofs.Kept.{Keeps, keeps}
use Rattle.bridge.proofs.Staged.{same_stage}
use Rattle.bridge.proofs.Cells.{phase, at}
use Rattle.bridge.proofs.Moves.{Inv, Good}
use Rattle.bridge.proofs.Due.{due, next, NextOf, next_of, due_asks, due_release, due_e}
use Rattle.bridge.proofs.Steps.{Settled, settled_moment}
use Rattle.bridge.proofs.Left.{left}
use Rattle.bridge.proofs.Onward.{Grows, After, after_moment}
use Rattle.bridge.proofs.Ticks.{core_below, due_later, good_run}

-- a tick later no more is left
left_tick : (now : ℕ) (z : Release) (x : Cell) → left (suc now) z x ≤ left now z x
left_tick now z x = grind arith

abbrev pub AllOver : Script → State → Type 0
AllOver Z S = (k : ℕ) → k < Z.size → phase (S.cell k) ≡ 6

pub complete_from : (Z : Script) (S : State) → AllOver Z S → Complete Z S
complete_from Z S h k l = same_stage (S.cell k).stage over (h k l)

abbrev pub total_left : Script → State → ℕ
total_left Z S = sum Z.size (λ k. left S.now (Z.row k) (S.cell k))

module _ (P : Plan) (Z : Script) (sound : SoundPlan P) (ok : Allowed P Z) (m₀ : Meaning) where
  -- where no job asks for a moment, all have ended
  pub ended : (S : State) → Settled P Z sound ok m₀ S → (m : Meaning) → Keeps m₀ S.events m → NextOf Z S Z.size None → AllOver Z S
  ended S h m kp none k l =
      elim (cases_lt (phase (S.cell k)) 1) [
        | inr u ↦ (let f = i.fits k l in elim (cases_lt (phase (S.cell k)) 6) [
          | inl v ↦ absurd (active k l u (omega arith))
          | inr v ↦ omega (arith, f.known)
        ])
        | inl u ↦ absurd (go (S.has (core_at P Z k)) refl (omega arith))
      ]
    where
      i : Inv P Z m₀.limit S m
      i = h.fine m kp

      asks : (j : ℕ) → j < Z.size → (t : ℕ) → due S.now (Z.row j).release (S.cell j) ≡ Some t → ⊥
      asks j l t e = grind arith

      serves : (y : Turn) (j : ℕ) → j < Z.size → phase (S.cell j) ≡ suc (at y) → ⊥
      serves y j h i = grind arith

      waits : (x : Turn) (j : ℕ) → j < Z.size → phase (S.cell j) ≡ at x → ⊥
      waits x j l e = let z = h.busy m kp x j l e in serves z.0 z.1 z.2 z.3

      active : (j : ℕ) → j < Z.size → 1 ≤ phase (S.cell j) → phase (S.cell j) ≤ 5 → ⊥
      active j l u v = grind (arith, waits A j l, waits R j l, serves A j l, serves R j l, asks j l (S.cell j).e_end, due_e S.now (Z.row j).release (S.cell j))

      go : (o : Option ℕ) → S.has (core_at P Z k) ≡ o → phase (S.cell k) ≡ 0 → ⊥
      go None e z = grind (arith, h.acted (core_at P Z k), core_below P Z sound ok m₀ k l, asks k l (Z.row k).release, due_release S.now (Z.row k).release (S.cell k) z)
      go (Some j) e z = let o = i.cores.holds (core_at P Z k) j e in active j o.known o.begun o.going

  pub stays_over : (S T : State) → ((j : ℕ) → Grows (S.cell j) (T.cell j)) → (m : Meaning) → Inv P Z m₀.limit T m → AllOver Z S → AllOver Z T
  stays_over S T g m i whole k l = let f = i.fits k l in omega (arith, f.known, (g k).up, whole k l)

  -- a tick after a moment something less is left
  falls : (S T : State) → After P Z sound ok m₀ S T → (m : Meaning) → Inv P Z m₀.limit T m → (t : ℕ) → NextOf Z T Z.size (Some t) → total_left Z (tick T) < total_left Z T
  falls S T a m i t n =
      let later = due_later P Z sound ok m₀ S T a m i n.0.0 t n.0.1 n.0.2 in
      sum_lt Z.size (λ k. left (suc T.now) (Z.row k) (T.cell k)) (λ k. left T.now (Z.row k) (T.cell k)) (λ k l. left_tick T.now (Z.row k) (T.cell k)) n.0.0 n.0.1
      (grind (arith, due_asks T.now (Z.row n.0.0).release (T.cell n.0.0) t n.0.2, i.fits n.0.0 n.0.1))

  module _ (ports : m₀.ports ≡ P.cores) (idle : Idle m₀) (cs : List ℕ) where
    abbrev port : ℕ → ℕ
    port n = get_or cs (length (grants_of (run P Z cs n).events)) 0

    pub claim : (n : ℕ) (m : Meaning) → Keeps m₀ (run P Z cs n).events m → (total_left Z (run P Z cs n) + n ≤ total_left Z begun) ⊎ AllOver Z (run P Z cs n)
    claim zero m kp = inl (omega arith)
    claim (suc n) m kp = elim (claim n z.0 z.1) [
      | inr h ↦ inr (stays_over S T a.onward.grows m i h)
      | inl h ↦ go (next Z T Z.size) (next_of Z T Z.size) h
    ]
      where
        S : State
        S = run P Z cs n

        T : State
        T = moment P Z (port n) S

        good : Good P Z ok m₀ S
        good = good_run P Z sound ok m₀ ports idle cs n

        settled : Settled P Z sound ok m₀ T
        settled = settled_moment P Z sound ok m₀ (port n) S good

        i : Inv P Z m₀.limit T m
        i = settled.fine m kp

        a : After P Z sound ok m₀ S T
        a = after_moment P Z sound ok m₀ (port n) S good m kp

        z : (l : Meaning) × Keeps m₀ S.events l
        z = a.onward.kept m kp

        no_more : total_left Z T ≤ total_left Z S
        no_more = sum_le Z.size (λ k. left T.now (Z.row k) (T.cell k)) (λ k. left S.now (Z.row k) (S.cell k))
            (λ k l. rw a.onward.now (a.onward.less k))

        go : (o : Option ℕ) → NextOf Z T Z.size o → total_left Z S + n ≤ total_left Z begun → (total_left Z (tick T) + suc n ≤ total_left Z begun) ⊎ AllOver Z (tick T)
        go None none h = inr (ended T settled m kp none)
        go (Some t) some h = inl (omega (arith, no_more, falls S T a m i t some))

    pub over_by : (n : ℕ) (m : Meaning) → Keeps m₀ (run P Z cs n).events m → total_left Z begun < n → Complete Z (run P Z cs n)
    over_by n m kp long = complete_from Z (run P Z cs n) (elim (claim n m kp) [ inr h ↦ h | inl h ↦ absurd (omega arith) ])

pub every_run_ends : EveryRunEnds
every_run_ends plan script = (
  suc (total_left script begun),
  λ choices n from to late g.
      over_by plan script g.sound (allowed plan script g.lawful) from g.ports g.idle choices n to (keeps g.turns) late,
)
