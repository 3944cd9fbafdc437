-- The ready jobs as the program keeps them. Assumes nothing.
use Rattle.std.specs.Prelude.{◌≡◌, ℕ, ◌+◌, ◌<◌, ◌≤◌, true, cond, ◌&&◌, List, [], ◌∷◌, Some, None, Option, ◌==◌, nat_lt, refl}
use Rattle.std.specs.declared.cmp.Ordering.{Ordering}
use Rattle.std.specs.Cmp.{IsTotalOrder}
use Rattle.std.specs.Coded.{×_prop, Unit-prop, le_prop}
use Rattle.std.specs.Ordering.{nat_cmp, ordering_then}
use Rattle.roster.specs.Order.{rises}
use Rattle.argument.specs.Sums.{on}
use Rattle.argument.specs.Plans.{Plan}
use Rattle.bridge.specs.Scripts.{Script, task_at, core_at}
use Rattle.bridge.specs.Stages.{unstarted, is}
use Rattle.bridge.specs.States.{State}
use Rattle.runs.specs.contracts.ready.ReadyOrd.TheImpl.{ghosts}
use Rattle.runs.specs.contracts.ready.ReadyOrd.TheImpl.Laws.{lawful}
use Rattle.runs.specs.declared.ready.Ready.{Ready}
use Rattle.runs.specs.declared.rows.Job.{Job}

-- the order in which they are kept: by core, then rank, then release, then row
abbrev pub ready_cmp : Ready → Ready → Ordering
ready_cmp x y = ordering_then (nat_cmp x.core y.core) (ordering_then (nat_cmp x.rank y.rank) (ordering_then (nat_cmp x.release y.release) (nat_cmp x.row y.row)))

-- it is the one that the code derives, and it is total
pub derived_ready_cmp : (x y : Ready) → ghosts.cmp x y ≡ ready_cmp x y
derived_ready_cmp x y = refl

pub ready_order : IsTotalOrder ready_cmp
ready_order = lawful.total

-- what is kept of a job, by its row in the script
abbrev pub ready_of : ℕ → Job → Ready
ready_of row job = record { core = job.core; rank = job.rank; release = job.release; row = row }

-- the first of a core, by its row in the script
abbrev pub chosen : ℕ → List Ready → Option ℕ
chosen core [] = None
chosen core (x ∷ xs) = cond (x.core == core) (Some x.row) (chosen core xs)

-- the others
abbrev pub without : ℕ → List Ready → List Ready
without core [] = []
without core (x ∷ xs) = cond (x.core == core) xs (x ∷ without core xs)

-- how often the job k is kept
abbrev pub count : ℕ → List Ready → ℕ
count k [] = 0
count k (x ∷ xs) = on (x.row == k) 1 + count k xs

-- each is one of n jobs
abbrev pub RowsBelow : ℕ → List Ready → Type 0
RowsBelow n [] = Unit {0}
RowsBelow n (x ∷ xs) = (x.row < n) × RowsBelow n xs

-- which holds in one way only, so that it may stand in a type
pub RowsBelow_prop : (n : ℕ) (xs : List Ready) → IsProp (RowsBelow n xs)
RowsBelow_prop n [] = Unit-prop
RowsBelow_prop n (x ∷ xs) = ×_prop le_prop (RowsBelow_prop n xs)

-- what is kept of a job is what the plan and the script say of it
pub record Keyed (plan : Plan) (script : Script) (x : Ready) : Type 0 where
  pub core : x.core ≡ core_at plan script x.row
  pub rank : x.rank ≡ (task_at plan script x.row).rank
  pub release : x.release ≡ (script.row x.row).release

abbrev pub AllKeyed : Plan → Script → List Ready → Type 0
AllKeyed plan script [] = Unit {0}
AllKeyed plan script (x ∷ xs) = Keyed plan script x × AllKeyed plan script xs

-- the ready jobs, and how many rows of the script have been released
pub record Pool : Type 0 where
  pub ready : List Ready
  pub upto : ℕ

-- a pool shows which jobs of a state are released and not started
pub record Pooled (plan : Plan) (script : Script) (pool : Pool) (S : State) : Type 0 where
  pub most : pool.upto ≤ script.size
  -- rows below are released, rows from there on are not released before now, and not started
  pub before : (k : ℕ) → k < pool.upto → (script.row k).release ≤ S.now
  pub after : (k : ℕ) → pool.upto ≤ k → k < script.size → S.now ≤ (script.row k).release
  pub later : (k : ℕ) → pool.upto ≤ k → k < script.size → is (S.cell k).stage unstarted ≡ true
  -- each released job that is not started is kept, once, and no other
  pub held : (k : ℕ) → count k pool.ready ≡ on (nat_lt k pool.upto && is (S.cell k).stage unstarted) 1
  pub keyed : AllKeyed plan script pool.ready
  pub rising : rises ready_cmp pool.ready ≡ true
