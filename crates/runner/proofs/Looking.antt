-- One row after the other is looked up.
use Rattle.std.proofs.Common.{◌≡◌, ℕ, ◌+◌, ◌^◌, ◌<◌, ◌≤◌, List, [], ◌∷◌, ◌++◌, length, get_or, take, Some, None, Option, Ok, Err, sym, refl, ap, ◌∙◌, subst, inl, inr, arith}
use Rattle.std.proofs.lemmas.Bool.{cases_lt}
use Rattle.std.proofs.lemmas.List.{get_or-map, get_or-take, length-map, length-take, map-append, take-map, take_more}
use Rattle.std.specs.Option.{ok_or}
use Rattle.tasks.specs.declared.refusal.Refusal.{Refusal}
use Rattle.tasks.specs.declared.task.Row.{Row}
use Rattle.tasks.specs.Rows.{no_row}
use Rattle.rules.specs.Rules.{place_of}
use Rattle.rules.proofs.Found.{place_found}
use Rattle.argument.specs.Plans.{plan_of}
use Rattle.bridge.specs.Scripts.{LawfulRow}
use Rattle.runs.specs.declared.rows.Job.{Job}
use Rattle.runs.specs.declared.rows.ScriptRow.{ScriptRow}
use Rattle.runs.specs.Rows.{job_on}
use Rattle.runs.specs.Shown.{no_job}
use Rattle.runner.specs.Lookups.{no_script, placed, task_of, job_for, jobs_for, script_for, FirstFault, Possible, Apart, Admitted}

-- what is looked up of a row before the end
pub job_at : (rows : List Row) (script : List ScriptRow) (k : ℕ) → k < length script → get_or (jobs_for rows script) k no_job ≡ job_for rows (get_or script k no_script)
job_at rows script k l = get_or-map (job_for rows) script k no_script no_job l

pub jobs_long : (rows : List Row) (script : List ScriptRow) → length (jobs_for rows script) ≡ length script
jobs_long rows script = length-map script (job_for rows)

-- the first k rows
front_at : (rows : List Row) (script : List ScriptRow) (k j : ℕ) → j < k → get_or (jobs_for rows (take k script)) j no_job ≡ get_or (jobs_for rows script) j no_job
front_at rows script k j l = rw (← take-map (job_for rows) k script) (get_or-take k (jobs_for rows script) j no_job l)

front_long : (rows : List Row) (script : List ScriptRow) (k : ℕ) → k ≤ length script → length (jobs_for rows (take k script)) ≡ k
front_long rows script k l = omega (arith, jobs_long rows (take k script), length-take k script)

pub place_below : (rows : List Row) (id place : ℕ) → place_of id rows ≡ Some place → place < length rows
place_below rows id place at = (place_found rows id place at).0

module _ (rows : List Row) (script : List ScriptRow) (k : ℕ) (l : k < length script) where
  abbrev z : ScriptRow
  z = get_or script k no_script

  -- the jobs of the rows before
  abbrev earlier : List Job
  earlier = jobs_for rows (take k script)

  long : length earlier ≡ k
  long = front_long rows script k (omega arith)

  module _ (place : ℕ) (at : place_of z.id rows ≡ Some place) where
    abbrev task : Row
    task = get_or rows place no_row

    job_is : job_for rows z ≡ job_on place task z
    job_is = ap (λ o. job_on (placed (length rows) o) (get_or rows (placed (length rows) o) no_row) z) at

    here : get_or (jobs_for rows script) k no_job ≡ job_on place task z
    here = job_at rows script k l ∙ job_is

    apart_of : (j : ℕ) → j < k → LawfulRow (plan_of 0 rows) (script_for rows script) k → Apart (get_or (jobs_for rows script) j no_job) place task.spacing z.release
    apart_of j i law = subst (λ (x : Job). ((get_or (jobs_for rows script) j no_job).release ≤ x.release) → ((get_or (jobs_for rows script) j no_job).task ≡ x.task → (get_or (jobs_for rows script) j no_job).release + (get_or rows x.task no_row).spacing ≤ x.release)
        → Apart (get_or (jobs_for rows script) j no_job) place task.spacing z.release) (sym here)
        (λ a b. record { rising = a; spaced = b }) (law.rising j i) (law.spaced j i)

    -- a lawful row is admitted
    admitted : k < 1024 → LawfulRow (plan_of 0 rows) (script_for rows script) k → Admitted rows z earlier place
    admitted few law = record {
      few = omega (arith, long);
      known = at;
      possible = subst (λ (x : Job). (x.release ≤ 2 ^ 40) → (1 ≤ x.a) → (x.a ≤ (get_or rows x.task no_row).a) → (1 ≤ x.e) → (x.e ≤ (get_or rows x.task no_row).e) → (1 ≤ x.r) → (x.r ≤ (get_or rows x.task no_row).r) → Possible task z) (sym here)
          (λ a b c d e f g. record { early = a; some_a = b; most_a = c; some_e = d; most_e = e; some_r = f; most_r = g })
          law.early law.some_a law.most_a law.some_e law.most_e law.some_r law.most_r;
      apart = λ j i. (
          let m : j < k = omega (arith, i, long) in
          subst (λ (y : Job). Apart y place task.spacing z.release) (sym (front_at rows script k j m)) (apart_of j m law));
    }

    -- and an admitted one is lawful
    pub lawful_row : Admitted rows z earlier place → LawfulRow (plan_of 0 rows) (script_for rows script) k
    lawful_row a = record {
      known = omega (arith, ap (λ (x : Job). x.task) here, place_below rows z.id place at);
      early = subst (λ (x : Job). x.release ≤ 2 ^ 40) (sym here) a.possible.early;
      some_a = subst (λ (x : Job). 1 ≤ x.a) (sym here) a.possible.some_a;
      most_a = subst (λ (x : Job). x.a ≤ (get_or rows x.task no_row).a) (sym here) a.possible.most_a;
      some_e = subst (λ (x : Job). 1 ≤ x.e) (sym here) a.possible.some_e;
      most_e = subst (λ (x : Job). x.e ≤ (get_or rows x.task no_row).e) (sym here) a.possible.most_e;
      some_r = subst (λ (x : Job). 1 ≤ x.r) (sym here) a.possible.some_r;
      most_r = subst (λ (x : Job). x.r ≤ (get_or rows x.task no_row).r) (sym here) a.possible.most_r;
      rising = λ j i. subst (λ (x : Job). (get_or (jobs_for rows script) j no_job).release ≤ x.release) (sym here) (before j i).rising;
      spaced = λ j i. subst (λ (x : Job). (get_or (jobs_for rows script) j no_job).task ≡ x.task → (get_or (jobs_for rows script) j no_job).release + (get_or rows x.task no_row).spacing ≤ x.release) (sym here) (before j i).spaced;
    }
      where
        before : (j : ℕ) → j < k → Apart (get_or (jobs_for rows script) j no_job) place task.spacing z.release
        before j i = subst (λ (y : Job). Apart y place task.spacing z.release) (front_at rows script k j i) (a.apart j (omega (arith, i, long)))

    pub among_first : Admitted rows z earlier place → k < 1024
    among_first a = omega (arith, a.few, long)

    pub jobs_more : (jobs jobs' : List Job) (job : Job) → jobs ≡ earlier → job ≡ job_on place task z → jobs' ≡ jobs ++ (job ∷ []) → jobs' ≡ jobs_for rows (take (k + 1) script)
    jobs_more jobs jobs' job a b c = rw (take_more script k no_script l) (c ∙ rw (a, b, ← job_is) (sym (map-append (job_for rows) (take k script) (z ∷ []))))

  -- a row that no place admits is faulty, and the first one after lawful rows
  pub first_fault : k ≤ 1024 → ((j : ℕ) → j < k → LawfulRow (plan_of 0 rows) (script_for rows script) j) → ((place : ℕ) → Admitted rows z earlier place → ⊥) → FirstFault rows script k
  first_fault most before none_admits = record { there = l; before = λ i m. (omega arith, before i m); faulty = elim (cases_lt k 1024) [ inr u ↦ inl u | inl u ↦ inr (λ law. go u law (place_of z.id rows) refl) ] }
    where
      go : k < 1024 → LawfulRow (plan_of 0 rows) (script_for rows script) k → (o : Option ℕ) → place_of z.id rows ≡ o → ⊥
      go few law (Some place) e = none_admits place (admitted place e few law)
      go few law None e =
          let t : task_of rows z ≡ length rows = ap (placed (length rows)) e in
          let u = ap (λ (x : Job). x.task) (job_at rows script k l) in
          omega (arith, law.known, u, t)

-- what comes of no job, and of one
pub refused_is : (o : Option Job) (e f : Refusal) → ok_or o e ≡ Err f → (o ≡ None) × (f ≡ e)
refused_is None e f a = (refl, cc)
refused_is (Some x) e f a = absurd (cc)

pub found_is : (o : Option Job) (e : Refusal) (job : Job) → ok_or o e ≡ Ok job → o ≡ Some job
found_is None e job a = absurd (cc)
found_is (Some x) e job a = cc
