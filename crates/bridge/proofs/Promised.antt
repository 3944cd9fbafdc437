-- Every job of every run ends within its window.
use Rattle.std.proofs.Common.{◌≡◌, ℕ, subst, arith}
use Rattle.tasks.specs.Limits.{Within, Limit}
use Rattle.argument.specs.Plans.{Plan, SoundPlan}
use Rattle.argument.specs.Logs.{Log, core_of, met, possible_moments, spaced_releases, one_at_a_time, no_idling, right_choice, never_free, limits_kept, KeepsTheLaws}
use Rattle.argument.proofs.Instance.{in_time}
use Rattle.bus.specs.Turns.{Meaning}
use Rattle.bus.specs.Means.{Means, Laws}
use Rattle.bus.proofs.Courses.{keeps_rule}
use Rattle.bridge.specs.States.{log_of}
use Rattle.bridge.specs.Runs.{run}
use Rattle.bridge.specs.Promises.{AllowedRun, HasLimits, EveryJobOfEveryRunEndsWithinItsWindow}
use Rattle.bridge.proofs.Lawfully.{every_run_keeps_the_laws}
use Rattle.bridge.proofs.Ending.{every_run_ends}

-- the laws know limits between two different cores of the plan only
other_limits : (plan : Plan) (limits : ℕ → ℕ → Limit) (m : Meaning) (log : Log) → SoundPlan plan → m.ports ≡ plan.cores → HasLimits limits m
    → KeepsTheLaws plan m.limit log → KeepsTheLaws plan limits log
other_limits plan limits m log sound ports same h possible_moments = h possible_moments
other_limits plan limits m log sound ports same h spaced_releases = h spaced_releases
other_limits plan limits m log sound ports same h one_at_a_time = h one_at_a_time
other_limits plan limits m log sound ports same h no_idling = h no_idling
other_limits plan limits m log sound ports same h right_choice = h right_choice
other_limits plan limits m log sound ports same h never_free = h never_free
other_limits plan limits m log sound ports same h limits_kept = λ turn k l core b ne.
    let p = sound.placed (log.job k).task (h possible_moments k l).known in
    subst (λ limit. Within limit (met plan log turn (log.job k) core))
    (same (core_of plan (log.job k)) core (omega arith) (omega arith) ne)
    (h limits_kept turn k l core b ne)

pub promised : {X : Type 0} (means : Means X) → Laws means → EveryJobOfEveryRunEndsWithinItsWindow means
promised means laws plan limits windows sound covered script lawful =
    let ends = every_run_ends plan script in (
      ends.0,
      λ s choices n t stands idle ports same late course.
          let rule = keeps_rule means laws s (run plan script choices n).events t stands course in
          let g : AllowedRun plan script choices n (means.meaning s) (means.meaning t) = record { sound = sound; lawful = lawful; ports = ports; idle = idle; turns = rule.0 } in
          let whole = ends.1 choices n (means.meaning s) (means.meaning t) late g in (
            whole,
            in_time plan limits (log_of script (run plan script choices n)) windows sound covered
                (other_limits plan limits (means.meaning s) (log_of script (run plan script choices n)) sound ports same
                (every_run_keeps_the_laws plan script choices n (means.meaning s) (means.meaning t) g whole)),
          ),
    )
