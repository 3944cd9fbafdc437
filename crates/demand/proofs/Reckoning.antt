-- The share of a core from what is kept of its offers, and the demand from its parts.
use Rattle.std.proofs.Common.{◌≡◌, ℕ, zero, suc, ◌+◌, ◌*◌, ◌<◌, ◌≤◌, Bool, not, eqb, Option, List, map, length, sym, refl, ap, ◌∙◌, add-one, arith}
use Rattle.std.proofs.lemmas.Bool.{ne_eqb}
use Rattle.std.proofs.lemmas.List.{length-map}
use Rattle.std.proofs.lemmas.List.FromFn.{sum_by-map-range_with_len_more}
use Rattle.std.specs.Bool.{⊤}
use Rattle.std.specs.Iterator.Runs.{WholeRun, EachRunFrom}
use Rattle.std.specs.List.{sum as total, fold, range_with_len}
use Rattle.tasks.specs.declared.task.Row.{Row}
use Rattle.tasks.specs.declared.task.Task.{Task}
use Rattle.tasks.specs.Limits.{times, Limit}
use Rattle.argument.specs.Sums.{sum, on}
use Rattle.argument.specs.Plans.{plan_of}
use Rattle.argument.specs.Demand.{block, own, turns, share, shares, demand}
use Rattle.argument.specs.LongestFirst.{taken}
use Rattle.argument.proofs.LongestFirst.{longest_first}
use Rattle.demand.specs.declared.offer.Offer.{Offer}
use Rattle.demand.specs.Offers.{listed, kept, of_core, phases_in}
use Rattle.demand.specs.Rows.{rows_of, row_at, lower_any, jobs_count}
use Rattle.demand.proofs.Keeping.{core_falls, kept_counts, kept_length}

-- a sum over a range, as the definitions sum
pub sum_of_range : (f : ℕ → ℕ) (n : ℕ) → total (map f (range_with_len 0 n)) ≡ sum n f
sum_of_range f zero = refl
sum_of_range f (suc n) =
    ap (λ m. total (map f (range_with_len 0 m))) (sym (add-one n))
    ∙ sum_by-map-range_with_len_more (λ x. x) f 0 n n (omega arith) ∙ ap (λ s. s + f n) (sum_of_range f n)

-- what a sum answers, from what each run of its items comes to
pub below_top : {S : Type 0} {steps : S → Option ℕ → S → Type 0} (s : S) (result top : ℕ)
    → (⊤ → WholeRun steps s (λ run. result ≡ fold (λ a x. a + x) 0 run.items))
    → EachRunFrom steps s (λ run. fold (λ a x. a + x) 0 run.items < top) → result < top
below_top s result top ran each = let run = ran tt in omega (arith, run.3, each run.0 run.0.seen run.1)

pub other_core : (core own ticks n : ℕ) → (core ≡ own → ⊥) → ticks ≡ n → ticks ≡ on (not (eqb core own)) n
other_core core own ticks n other e = rw (ne_eqb core own other) e

-- the longest of what is kept come to the share
pub kept_share : (cores : ℕ) (rows : List Row) (core w : ℕ) (limit : Limit)
    → taken limit (phases_in w (of_core core (kept (row_at rows) (length rows)))) ≡ share (plan_of cores rows) core w limit
kept_share cores rows core w limit =
    longest_first (plan_of cores rows) core w limit (phases_in w (of_core core (kept (row_at rows) (length rows))))
    (core_falls w core (row_at rows) (length rows)) (λ l. kept_counts w core l (row_at rows) (length rows))

-- what no core has more than two of for each task
pub few_offers : (tasks : List Task) (offers : List Offer) → length tasks ≤ 64
    → map listed offers ≡ kept (row_at (rows_of tasks)) (length (rows_of tasks)) → length offers ≤ 128
few_offers tasks offers few fetched =
    omega (arith, sym (length-map offers listed) ∙ ap length fetched, kept_length (row_at (rows_of tasks)) (length (rows_of tasks)), length-map tasks (λ (t : Task). t.row))

-- the demand, from its three parts
pub demand_is : (cores : ℕ) (rows : List Row) (limits : ℕ → ℕ → Limit) (place w : ℕ) (row : Row)
    (blocked ticks others jobs turnings : ℕ) (lower : Bool)
    → row ≡ row_at rows place → blocked ≡ block (plan_of cores rows) row → ticks ≡ own (plan_of cores rows) row w
    → jobs ≡ jobs_count rows row w → lower ≡ lower_any rows row → turnings ≡ 2 * jobs + on lower 2
    → others ≡ sum cores (λ core. on (not (eqb core (row_at rows place).core)) (share (plan_of cores rows) core w (times turnings (limits (row_at rows place).core core))))
    → (blocked + ticks) + others ≡ demand (plan_of cores rows) limits place w
demand_is cores rows limits place w row blocked ticks others jobs turnings lower is b t j l n o =
    let plan = plan_of cores rows in let task = row_at rows place in
    let often : turnings ≡ turns plan task w = n ∙ rw (j, l, is) refl in
    let rest : others ≡ shares plan limits task w =
    o ∙ ap (λ m. sum cores (λ core. on (not (eqb core task.core)) (share plan core w (times m (limits task.core core))))) often in
    let all : (blocked + ticks) + others ≡ block plan task + own plan task w + shares plan limits task w =
    omega (arith, b ∙ ap (block plan) is, t ∙ ap (λ r. own plan r w) is, rest) in
    all
