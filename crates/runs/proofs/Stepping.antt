-- The four steps of a moment, one after the other.
use Rattle.std.proofs.Common.{◌≡◌, ℕ, List, length, sym, ◌∙◌}
use Rattle.argument.specs.Plans.{Plan}
use Rattle.bus.specs.Means.{Means, Laws}
use Rattle.bridge.specs.States.{State}
use Rattle.bridge.specs.Moments.{finishes, acts}
use Rattle.bridge.specs.Runs.{run}
use Rattle.runs.specs.declared.rows.Job.{Job}
use Rattle.runs.specs.declared.rows.LogRow.{LogRow}
use Rattle.runs.specs.declared.ready.Ready.{Ready}
use Rattle.runs.specs.declared.stage.Stage.{Stage}
use Rattle.runs.specs.Pool.{Pool, Pooled}
use Rattle.runs.specs.Shown.{At, Granting, AllReleased, script_of}
use Rattle.runs.proofs.Going.{at_stands, at_inv}
use Rattle.runs.proofs.Driving.{Driven, Moved, pool}

module _ {X : Type 0} {B : Means X} {P : Plan} {J : List Job} {x : X} where
  -- step 2 changes the ready jobs alone
  pub at_released : {y : X} {time : ℕ} {stages : List Stage} {p q : Pool} {log : List LogRow} {S : State}
      → (Pooled P (script_of J) p S → Pooled P (script_of J) q S) → At B P J x y time stages p log S → At B P J x y time stages q log S
  at_released pools a =
      let h = a.shows in
      record {
        sound = a.sound;
        lawful = a.lawful;
        fetched = a.fetched;
        stood = a.stood;
        ports = a.ports;
        idle = a.idle;
        cores = a.cores;
        reached = a.reached;
        course = a.course;
        shows = record { now = h.now; row = h.row; has = h.has; phase = h.phase; pooled = pools h.pooled };
      }

  -- after step 3 the arbiter may be asked
  pub at_acted : Laws B → {y : X} {time : ℕ} {stages : List Stage} {p : Pool} {log : List LogRow} {S : State} → At B P J x y time stages p log S → B.stands y × ((B.meaning y).ports ≡ length stages)
  at_acted laws a = (at_stands laws a, (at_inv laws a).bus.ports ∙ sym a.cores)

  -- after step 4
  pub moved : {time upto upto₂ : ℕ} {stages stages₂ : List Stage} {ready ready₂ : List Ready} {log log₂ : List LogRow} {y y₂ : X}
      → (d : Driven B P J x time upto stages ready log y) → length stages₂ ≡ length stages → AllReleased J time upto₂
      → Granting B P J x y₂ time stages₂ (pool ready₂ upto₂) log₂ (acts P (script_of J) (length stages) (finishes (length stages) (run P (script_of J) d.choices time)))
      → Moved B P J x time upto₂ stages₂ ready₂ log₂ y₂
  moved d n a g = record {
    sound = d.at.sound;
    lawful = d.at.lawful;
    fetched = d.at.fetched;
    stood = d.at.stood;
    ports = d.at.ports;
    idle = d.at.idle;
    cores = n ∙ d.at.cores;
    choices = d.choices;
    count = d.count;
    granting = rw d.at.cores at g;
    released = a;
  }
