-- Every plan has what its sheet needs to be loaded again.
use Rattle.std.proofs.Common.{◌≡◌, ◌≤◌, length, Ok, vec_items, refl, arith}
use Rattle.tasks.specs.declared.platform.Bottom.{Bottom}
use Rattle.tasks.specs.declared.platform.Bottom.TheVariants.{Queue, RoundRobin}
use Rattle.tasks.specs.declared.platform.Favours.{Favours}
use Rattle.tasks.specs.declared.platform.Favours.TheVariants.{Nobody, One, Two}
use Rattle.tasks.specs.Platforms.{bottom_number, favoured, line_verdict}
use Rattle.sheets.specs.Spelled.{spelled}
use Rattle.sheets.specs.Theorems.{MayStand}
use Rattle.sheets.specs.Written.{written}
use Rattle.sheets.proofs.LoadedAgain.{loaded_again}
use Rattle.settler.specs.declared.plan.Plan.{Plan}
use Rattle.settler.specs.Contents.{content}
use Rattle.settler.specs.Sheets.{spelling}

line_stands : (bottom : Bottom) (favours : Favours) → line_verdict (bottom_number bottom) (favoured favours) ≡ Ok tt
line_stands Queue Nobody = refl
line_stands Queue (One outer) = refl
line_stands Queue (Two outer inner) = refl
line_stands RoundRobin Nobody = refl
line_stands RoundRobin (One outer) = refl
line_stands RoundRobin (Two outer inner) = refl

pub may_stand : (plan : Plan) → MayStand (spelling (content plan))
may_stand plan =
    let few : length (vec_items plan.table.rows) ≤ 64 = omega (arith, plan.table.«few», plan.table.rows.ok.0) in
    record {
      line = line_stands plan.table.platform.line.bottom plan.table.platform.line.favours;
      platform = rw plan.table.«fits» refl;
      few = few;
      each = plan.table.«tasks»;
      apart = plan.table.«apart»;
    }

pub loads_as_itself : (plan : Plan) → spelled (written (spelling (content plan))) ≡ Ok (spelling (content plan))
loads_as_itself plan = loaded_again (spelling (content plan)) (may_stand plan)
