-- What comes of a run that is asked for. Assumes nothing.
use Rattle.std.specs.Prelude.{◌≡◌, ℕ, ◌<◌, ◌≤◌, ◌⊎◌, List, [], ◌∷◌, length, drop, ◌≢◌}
use Rattle.tasks.specs.declared.task.Row.{Row}
use Rattle.tasks.specs.declared.refusal.Refusal.{Refusal}
use Rattle.tasks.specs.Refusals.{numbered, told, refusal}
use Rattle.argument.specs.Plans.{plan_of}
use Rattle.bus.specs.Turns.{Idle, Busy}
use Rattle.bus.specs.Means.{Means}
use Rattle.bridge.specs.Scripts.{LawfulScript}
use Rattle.runs.specs.declared.rows.LogRow.{LogRow}
use Rattle.runs.specs.declared.rows.ScriptRow.{ScriptRow}
use Rattle.runs.specs.Shown.{Ran}
use Rattle.runner.specs.Lookups.{script_for, FirstFault}

module _ {X : Type 0} (means : Means X) (rows : List Row) (cores : ℕ) (script : List ScriptRow) (x : X) where
  -- the arbiter is idle, and has a port for each core
  pub record Free : Type 0 where
    pub ports : (means.meaning x).ports ≡ cores
    pub stands : means.stands x
    pub idle : Idle (means.meaning x)

  pub record Accepted (y : X) (log log' : List LogRow) (n : ℕ) : Type 0 where
    -- as many rows as the script has are written
    pub count : n ≡ length script
    pub room : length script ≤ length log
    pub free : Free
    pub few : length script ≤ 1024
    pub lawful : LawfulScript (plan_of cores rows) (script_for rows script)
    -- they are those of a whole run for the arbiter's grants, each step of which is the arbiter's own
    pub ran : Ran means (plan_of cores rows) (script_for rows script) x y log'
    -- the rest of the log stays
    pub rest : drop (length script) log' ≡ drop (length script) log
    -- and the arbiter is idle again
    pub stands : means.stands y
    pub idle : Idle (means.meaning y)

  -- 5: the log is too short; 14: ports unequal to cores; 17: not idle; 19: the first faulty row. In this order
  abbrev pub Refused : List LogRow → Refusal → Type 0
  Refused log e =
      ((told e ≡ refusal 5) × (length log < length script))
      ⊎ (((told e ≡ refusal 14) × (length script ≤ length log) × ((means.meaning x).ports ≢ cores))
      ⊎ (((told e ≡ refusal 17) × (length script ≤ length log) × ((means.meaning x).ports ≡ cores) × (means.stands x → Busy (means.meaning x)))
      ⊎ ((length script ≤ length log) × Free × ((k : ℕ) × (told e ≡ numbered 19 (k ∷ [])) × FirstFault rows script k))))
