-- The beginning and the end of a run.
use Rattle.std.proofs.Common.{◌≡◌, ℕ, ◌<◌, ◌≤◌, ◌&&◌, eqb, ltb, List, [], ◌++◌, length, get_or, drop, map, replicate, Some, None, Option, sym, refl, ap, ◌∙◌, subst, inl, inr, arith}
use Rattle.std.proofs.lemmas.List.{get_or-replicate, get_or-map, get_or_append_left, drop_at}
use lib.ListN.{length-replicate}
use Rattle.std.proofs.lemmas.Bool.{cases_Bool, and_left, le-ltb}
use Rattle.tasks.specs.declared.task.Row.{Row}
use Rattle.tasks.specs.Rows.{no_row}
use Rattle.argument.specs.Plans.{plan_of, SoundPlan}
use Rattle.bus.specs.Turns.{Meaning, Idle as Quiet}
use Rattle.bus.specs.Means.{Means, Laws}
use Rattle.bus.specs.Courses.{Course}
use Rattle.bus.proofs.Courses.{keeps_rule}
use Rattle.bridge.specs.Scripts.{LawfulScript}
use Rattle.bridge.specs.Stages.{number}
use Rattle.bridge.specs.States.{State, begun, Complete}
use Rattle.bridge.specs.Runs.{run}
use Rattle.bridge.proofs.Allowed.{allowed}
use Rattle.bridge.proofs.Kept.{keeps}
use Rattle.bridge.proofs.Cells.{phase, at_some}
use Rattle.bridge.proofs.Sums.{on_false}
use Rattle.bridge.proofs.Moves.{Inv}
use Rattle.bridge.proofs.Ticks.{good_run}
use Rattle.runs.specs.declared.rows.Job.{Job}
use Rattle.runs.specs.declared.rows.LogRow.{LogRow}
use Rattle.runs.specs.declared.rows.ScriptRow.{ScriptRow}
use Rattle.runs.specs.declared.stage.Stage.TheVariants.{Idle}
use Rattle.runs.specs.Machine.{job, none}
use Rattle.runs.specs.Rows.{opened}
use Rattle.runs.specs.Shown.{no_job, script_of, Fetched, Ran, after}
use Rattle.runs.specs.Progress.{AtProgress}
use Rattle.runs.specs.declared.progress.Progress.{Progress}
use Rattle.runner.specs.Lookups.{jobs_for, script_for}
use Rattle.runner.specs.Outcomes.{Free, Accepted}
use Rattle.runner.proofs.Looking.{job_at, jobs_long}

-- cores do not matter for a script
pub any_cores : (rows : List Row) (script : List ScriptRow) (cores : ℕ) → LawfulScript (plan_of 0 rows) (script_for rows script) → LawfulScript (plan_of cores rows) (script_for rows script)
any_cores rows script cores h k l = let r = h k l in record {
  known = r.known;
  early = r.early;
  some_a = r.some_a;
  most_a = r.most_a;
  some_e = r.some_e;
  most_e = r.most_e;
  some_r = r.some_r;
  most_r = r.most_r;
  rising = r.rising;
  spaced = r.spaced;
}

module _ (rows : List Row) (script : List ScriptRow) (cores : ℕ) (sound : SoundPlan (plan_of cores rows)) (law : LawfulScript (plan_of cores rows) (script_for rows script)) where
  abbrev J : List Job
  J = jobs_for rows script

  pub fetched : (k : ℕ) → k < length J → Fetched (plan_of cores rows) J k
  fetched k l =
      let e = sym (job_at rows script k (omega (arith, l, jobs_long rows script))) in
      record {
        id = subst (λ (x : Job). x.id ≡ (get_or rows x.task no_row).id) e refl;
        core = subst (λ (x : Job). x.core ≡ (get_or rows x.task no_row).core) e refl;
        rank = subst (λ (x : Job). x.rank ≡ (get_or rows x.task no_row).rank) e refl;
      }

  module _ {X : Type 0} (B : Means X) (x : X) (free : Free B rows cores script x) where
    -- the record that is opened shows the begin
    pub starts : (p : Progress) (log : List LogRow) → p.jobs.items ≡ J → p.stages.items ≡ replicate cores Idle → p.ready.items.items ≡ [] → p.time ≡ 0 → p.released ≡ 0 → log ≡ map opened J
        → AtProgress B (plan_of cores rows) x x p log begun
    starts p log ej es er et eu el = rw (ej, es, er, et, eu, el) (record {
      sound = sound;
      lawful = law;
      fetched = fetched;
      stood = free.stands;
      ports = free.ports;
      idle = free.idle;
      cores = length-replicate cores Idle;
      reached = after [] 0;
      course = Course.start;
      shows = record {
        now = refl;
        row = λ k l. get_or-map opened J k no_job none l ∙ ap (λ j. record { id = j; release = (get_or J k no_job).release; start = 0; a_granted = 0; a_end = 0; e_end = 0; r_granted = 0; end = 0 }) (fetched k l).id;
        has = λ c l. ap job (get_or-replicate cores c Idle Idle (omega (arith, length-replicate cores Idle, l)));
        phase = λ c k l e. absurd (cc);
        pooled = record {
          most = omega arith;
          before = λ k l. absurd (nothing k l);
          after = λ k u l. omega arith;
          later = λ k u l. refl;
          held = λ k. sym (on_false (ltb k 0 && eqb 0 0) 1 (and_left (ltb k 0) (eqb 0 0) (le-ltb k 0 (omega arith))));
          keyed = tt;
          rising = refl;
        };
      };
    })
      where
        nothing : (k : ℕ) → k < 0 → ⊥
        nothing k l = omega arith

    -- after a whole run nobody waits and nobody is served
    quiet : (S : State) (m : Meaning) → Inv (plan_of cores rows) (script_of J) (B.meaning x).limit S m → Complete (script_of J) S → Quiet m
    quiet S m inv whole = (
      λ p. elim (cases_Bool (m.waits p)) [
        | inr e ↦ e
        | inl e ↦ (let z = inv.bus.of_wait p e in let w = z.2 in absurd (six z.1 w.known (omega (arith, at_some z.0, w.stage_is))))
      ],
      go m.serves refl,
    )
      where
        six : (k : ℕ) → k < length J → phase (S.cell k) ≤ 5 → ⊥
        six k l h = let o = ap number (whole k l) in omega arith

        go : (o : Option ℕ) → m.serves ≡ o → o ≡ None
        go None e = refl
        go (Some c) e = let z = inv.bus.of_serve c e in let w = z.2 in absurd (six z.1 w.known (omega (arith, at_some z.0, w.stage_is)))

    pub ends : Laws B → (y : X) (log front : List LogRow) → length script ≤ 1024 → length script ≤ length log → length front ≡ length script
        → Ran B (plan_of cores rows) (script_for rows script) x y front → Accepted B rows cores script x y log (front ++ drop (length script) log) (length script)
    ends laws y log front few room f ran =
        let events = (run (plan_of cores rows) (script_for rows script) ran.choices ran.n).events in
        let w = keeps_rule B laws x events y free.stands ran.course in
        record {
          count = refl;
          room = room;
          free = free;
          few = few;
          lawful = law;
          ran = record {
            choices = ran.choices;
            n = ran.n;
            course = ran.course;
            whole = ran.whole;
            rows = λ k l. get_or_append_left front (drop (length script) log) none k (omega (arith, l, f, jobs_long rows script)) ∙ ran.rows k l;
          };
          rest = drop_at front (drop (length script) log) (length script) f;
          stands = w.1;
          idle = quiet (run (plan_of cores rows) (script_for rows script) ran.choices ran.n) (B.meaning y)
              (good_run (plan_of cores rows) (script_for rows script) sound (allowed (plan_of cores rows) (script_for rows script) law) (B.meaning x) free.ports free.idle ran.choices ran.n (B.meaning y) (keeps w.0)) ran.whole;
        }
