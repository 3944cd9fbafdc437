-- What a lawful script gives of each job, and of two.
use Rattle.std.proofs.Common.{◌≡◌, ℕ, ◌+◌, ◌<◌, ◌≤◌, ◌⊎◌, arith}
use Rattle.argument.specs.Plans.{Plan}
use Rattle.bridge.specs.Scripts.{Script, task_at, LawfulScript}

pub record Allowed (P : Plan) (Z : Script) : Type 0 where
  pub known : (k : ℕ) → k < Z.size → (Z.row k).task < P.size
  pub some_a : (k : ℕ) → k < Z.size → 1 ≤ (Z.row k).a
  pub most_a : (k : ℕ) → k < Z.size → (Z.row k).a ≤ (task_at P Z k).a
  pub some_e : (k : ℕ) → k < Z.size → 1 ≤ (Z.row k).e
  pub most_e : (k : ℕ) → k < Z.size → (Z.row k).e ≤ (task_at P Z k).e
  pub some_r : (k : ℕ) → k < Z.size → 1 ≤ (Z.row k).r
  pub most_r : (k : ℕ) → k < Z.size → (Z.row k).r ≤ (task_at P Z k).r
  pub spaced : (j k : ℕ) → j < Z.size → k < Z.size → (j ≡ k → ⊥) → (Z.row j).task ≡ (Z.row k).task
      → ((Z.row j).release + (task_at P Z j).spacing ≤ (Z.row k).release) ⊎ ((Z.row k).release + (task_at P Z j).spacing ≤ (Z.row j).release)

pub allowed : (P : Plan) (Z : Script) → LawfulScript P Z → Allowed P Z
allowed P Z h = grind arith
