-- Logs that break one law and no other, each with a job beyond its window; a log in which a window is not enough, since another task is
-- late; and one in which a window is reached. Each is written out, and checked by computing.
use Rattle.std.proofs.Common.{ℕ, zero, suc, ◌<◌, List, [], ◌∷◌, get_or, refl, arith, lit<}
use Rattle.tasks.specs.declared.task.Row.{Row}
use Rattle.tasks.specs.declared.outcome.Outcome.TheVariants.{Window}
use Rattle.argument.specs.Plans.{Plan, plan_of, SoundPlan}
use Rattle.argument.specs.Demand.{Settles}
use Rattle.argument.specs.Logs.{Log, log_of, KeepsAllBut, SomeJobEndsBeyond, Law, possible_moments, spaced_releases, no_idling, right_choice, never_free, limits_kept}
use Rattle.argument.specs.Samples.{log_row, lone, one_each}
use Rattle.argument.specs.Theorems.{AllCovered, Needed, AWindowAloneIsNotEnough, AWindowCanBeReached}
use Rattle.argument.proofs.Checks.{sound_plan, all_covered, window_for, keeps_the_laws, keeps_all_but}
use Rattle.argument.proofs.Least.{jumping_settles}

abbrev task : ℕ → ℕ → ℕ → ℕ → ℕ → ℕ → ℕ → Row
task core rank apart deadline a e r = record { id = 0; core = core; rank = rank; spacing = apart; deadline = deadline; a = a; e = e; r = r }

-- ---- logs that break one law; each limit is 1

breaks : (law : Law) (plan : Plan) (windows : List ℕ) (log : Log) → SoundPlan plan → AllCovered plan one_each (λ place. get_or windows place 0)
    → KeepsAllBut law plan one_each log → SomeJobEndsBeyond (λ place. get_or windows place 0) log → Needed law
breaks law plan windows log sound covered keeps late = record {
  plan = plan;
  limits = one_each;
  windows = λ place. get_or windows place 0;
  log = log;
  sound = sound;
  covered = covered;
  keeps = keeps;
  late = late;
}

-- one task on one core, with phases 1, 1, 1 and a window of 3
of_lone : (law : Law) (log : Log) → KeepsAllBut law lone one_each log → SomeJobEndsBeyond (λ place. get_or (3 ∷ []) place 0) log → Needed law
of_lone law log = breaks law lone (3 ∷ []) log (sound_plan lone refl) (all_covered lone one_each (λ place. get_or (3 ∷ []) place 0) refl)

-- its E phase lasts 2 ticks
abbrev long_phase : Log
long_phase = log_of (log_row 0 0 0 0 1 3 3 4 ∷ [])

pub longer_phase : Needed possible_moments
longer_phase = of_lone possible_moments long_phase (keeps_all_but possible_moments lone one_each long_phase refl) (0, lit< tt, lit< tt)

-- two jobs are released at once
abbrev two_jobs : Log
two_jobs = log_of (log_row 0 0 0 0 1 2 2 3 ∷ log_row 0 0 3 3 4 5 5 6 ∷ [])

pub two_at_once : Needed spaced_releases
two_at_once = of_lone spaced_releases two_jobs (keeps_all_but spaced_releases lone one_each two_jobs refl) (1, lit< tt, lit< tt)

-- the core idles for a tick while the job is ready
abbrev late_start : Log
late_start = log_of (log_row 0 0 1 1 2 3 3 4 ∷ [])

pub idle_tick : Needed no_idling
idle_tick = of_lone no_idling late_start (keeps_all_but no_idling lone one_each late_start refl) (0, lit< tt, lit< tt)

-- the bus is free for a tick while the job waits
abbrev late_grant : Log
late_grant = log_of (log_row 0 0 0 1 2 3 3 4 ∷ [])

pub free_tick : Needed never_free
free_tick = of_lone never_free late_grant (keeps_all_but never_free lone one_each late_grant refl) (0, lit< tt, lit< tt)

-- three tasks on one core, all ready at 0: the two that should go last go first
abbrev trio : Plan
trio = plan_of 1 (task 0 1 9 9 1 1 1 ∷ task 0 2 9 9 1 1 1 ∷ task 0 3 9 9 1 1 1 ∷ [])

abbrev first_goes_last : Log
first_goes_last = log_of (log_row 1 0 0 0 1 2 2 3 ∷ log_row 2 0 3 3 4 5 5 6 ∷ log_row 0 0 6 6 7 8 8 9 ∷ [])

pub wrong_order : Needed right_choice
wrong_order = breaks right_choice trio (6 ∷ 9 ∷ 9 ∷ []) first_goes_last (sound_plan trio refl)
    (all_covered trio one_each (λ place. get_or (6 ∷ 9 ∷ 9 ∷ []) place 0) refl) (keeps_all_but right_choice trio one_each first_goes_last refl) (2, lit< tt, lit< tt)

-- one task on core 0, three on core 1: the A turn of core 0 lets an R turn and then an A turn of core 1 pass
abbrev one_and_three : Plan
one_and_three = plan_of 2 (task 0 1 100 100 1 1 1 ∷ task 1 1 100 100 1 1 1 ∷ task 1 2 100 100 1 1 1 ∷ task 1 3 100 100 1 1 1 ∷ [])

abbrev two_pass : Log
two_pass = log_of (log_row 1 0 0 0 1 2 2 3 ∷ log_row 2 0 3 3 4 5 5 6 ∷ log_row 3 0 6 6 7 8 8 9 ∷ log_row 0 2 2 4 5 6 7 8 ∷ [])

pub two_passed : Needed limits_kept
two_passed = breaks limits_kept one_and_three (5 ∷ 10 ∷ 13 ∷ 13 ∷ []) two_pass (sound_plan one_and_three refl)
    (all_covered one_and_three one_each (λ place. get_or (5 ∷ 10 ∷ 13 ∷ 13 ∷ []) place 0) refl) (keeps_all_but limits_kept one_and_three one_each two_pass refl) (3, lit< tt, lit< tt)

-- ---- logs that keep all laws

-- on core 1 the second task (T = 26, D = 12) is late: two of its jobs, where one is expected, hold up the task of core 0
pub late_neighbour : AWindowAloneIsNotEnough
late_neighbour = record {
  plan = plan;
  limits = one_each;
  log = log;
  sound = sound_plan plan refl;
  keeps = keeps_the_laws plan one_each log refl;
  place = 0;
  ticks = 14;
  window = window_for plan one_each 0 14 refl;
  other = 2;
  apart = λ e. omega arith;
  demanded = 30;
  late = jumping_settles plan one_each 2;
  job = 2;
  known = lit< tt;
  of_task = refl;
  beyond = lit< tt;
}
  where
    plan : Plan
    plan = plan_of 2 (task 0 1 100 100 1 1 1 ∷ task 1 1 100 100 1 12 1 ∷ task 1 2 26 12 10 1 1 ∷ [])

    log : Log
    log = log_of (log_row 1 0 0 0 1 13 13 14 ∷ log_row 2 0 14 14 24 25 25 26 ∷ log_row 0 14 14 24 25 26 36 37 ∷ log_row 2 26 26 26 36 37 37 38 ∷ [])

-- the second task of core 1 (T = D = 30) comes late once and early the next time, and both its A turns hold up the task of core 0
pub met_twice : AWindowCanBeReached
met_twice = record {
  plan = plan;
  limits = one_each;
  windows = windows;
  log = log;
  sound = sound_plan plan refl;
  settled = settled;
  keeps = keeps_the_laws plan one_each log refl;
  job = 2;
  known = lit< tt;
  at_the_end = refl;
}
  where
    plan : Plan
    plan = plan_of 2 (task 0 1 100 100 1 16 1 ∷ task 1 1 100 100 1 1 1 ∷ task 1 2 30 30 10 1 1 ∷ [])

    windows : ℕ → ℕ
    windows place = get_or (38 ∷ 19 ∷ 19 ∷ []) place 0

    log : Log
    log = log_of (log_row 1 0 0 0 1 2 2 3 ∷ log_row 2 0 3 3 13 14 14 15 ∷ log_row 0 3 3 13 14 30 40 41 ∷ log_row 2 30 30 30 40 41 41 42 ∷ [])

    settled : (place : ℕ) → place < 3 → Settles plan one_each place (Window (windows place))
    settled zero l = jumping_settles plan one_each 0
    settled (suc zero) l = jumping_settles plan one_each 1
    settled (suc (suc zero)) l = jumping_settles plan one_each 2
    settled (suc (suc (suc n))) l = absurd (nothing n l)
      where
        nothing : (n : ℕ) → suc (suc (suc n)) < 3 → ⊥
        nothing n l = omega arith
