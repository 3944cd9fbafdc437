-- What is true of all the moments before now, and why it stays true.
use Rattle.std.proofs.Common.{◌≡◌, ℕ, ◌+◌, ◌<◌, ◌≤◌, ◌&&◌, eqb, ltb, ◌⊎◌, sym, inl, inr, arith}
use Rattle.std.proofs.lemmas.Bool.{cases_lt}
use Rattle.argument.specs.Logs.{Turn, A, R, joined, granted, ended}
use Rattle.argument.specs.Plans.{Plan}
use Rattle.argument.specs.Sums.{sum, on}
use Rattle.bridge.proofs.Cells.{phase, at, Fits, Later, joined_same, joined_new, granted_same, ended_same, granted_now}
use Rattle.bridge.specs.Scripts.{Script, task_at, core_at}
use Rattle.bridge.specs.States.{Cell, job_of}
use Rattle.tasks.specs.Limits.{Within, Limit}
use native.Mathlib.Nat.{eq-zero-or-pos}
use Rattle.argument.proofs.Limits.{within_less}

abbrev pub FitsAt : Plan → Script → ℕ → ℕ → Cell → Type 0
FitsAt P Z now k x = Fits now (Z.row k).release (task_at P Z k).a (task_at P Z k).e (task_at P Z k).r x

-- k has started by t
pub record Begun (f : ℕ → Cell) (k t : ℕ) : Type 0 where
  pub some : 1 ≤ phase (f k)
  pub from : (f k).start ≤ t

-- j is on the core c at t
pub record Held (P : Plan) (Z : Script) (f : ℕ → Cell) (c t j : ℕ) : Type 0 where
  pub known : j < Z.size
  pub same : core_at P Z j ≡ c
  pub begun : 1 ≤ phase (f j)
  pub from : (f j).start ≤ t
  pub to : 6 ≤ phase (f j) → t < (f j).end

-- turn y of j, of another core than c, is in service at t
pub record Carry (P : Plan) (Z : Script) (f : ℕ → Cell) (c t : ℕ) (y : Turn) (j : ℕ) : Type 0 where
  pub known : j < Z.size
  pub other : core_at P Z j ≡ c → ⊥
  pub got : at y < phase (f j)
  pub from : granted y (job_of Z j (f j)) ≤ t
  pub to : t < ended y (job_of Z j (f j))

abbrev pub Goes : Plan → Script → ℕ → ℕ → Type 0
Goes P Z j k = ((task_at P Z j).rank < (task_at P Z k).rank) ⊎ (((Z.row j).task ≡ (Z.row k).task) × ((Z.row j).release ≤ (Z.row k).release))

abbrev pub Apart : (ℕ → Cell) → ℕ → ℕ → Type 0
Apart f j k = ((6 ≤ phase (f j)) × ((f j).end ≤ (f k).start)) ⊎ ((6 ≤ phase (f k)) × ((f k).end ≤ (f j).start))

-- turn y of j was granted before G and ends after J
abbrev pub seen : Script → (ℕ → Cell) → ℕ → ℕ → Turn → ℕ → ℕ
seen Z f G J y j = on (ltb (at y) (phase (f j)) && (ltb (granted y (job_of Z j (f j))) G && ltb J (ended y (job_of Z j (f j))))) 1

abbrev pub sight : Plan → Script → (ℕ → Cell) → ℕ → ℕ → ℕ → ℕ
sight P Z f G J b = sum Z.size (λ j. on (eqb (core_at P Z j) b) (seen Z f G J A j + seen Z f G J R j))

-- turn x of j has ended when turn y of k is granted, or the other way round
abbrev pub Clear : Script → (ℕ → Cell) → Turn → ℕ → Turn → ℕ → Type 0
Clear Z f x j y k = (ended x (job_of Z j (f j)) ≤ granted y (job_of Z k (f k))) ⊎ (ended y (job_of Z k (f k)) ≤ granted x (job_of Z j (f j)))

pub record Past (P : Plan) (Z : Script) (lim : ℕ → ℕ → Limit) (now : ℕ) (f : ℕ → Cell) : Type 0 where
  pub single : (j k : ℕ) → j < Z.size → k < Z.size → (j ≡ k → ⊥) → core_at P Z j ≡ core_at P Z k → 1 ≤ phase (f j) → 1 ≤ phase (f k) → Apart f j k
  pub right : (j k : ℕ) → j < Z.size → k < Z.size → core_at P Z j ≡ core_at P Z k → 1 ≤ phase (f j) → (Z.row k).release ≤ (f j).start
      → Begun f k (f j).start ⊎ Goes P Z j k
  pub taken : (k t : ℕ) → k < Z.size → t < now → (Z.row k).release ≤ t → Begun f k t ⊎ ((j : ℕ) × Held P Z f (core_at P Z k) t j)
  pub carried : (x : Turn) (k t : ℕ) → k < Z.size → t < now → at x ≤ phase (f k) → joined x (job_of Z k (f k)) ≤ t
      → (at x < phase (f k) → t < granted x (job_of Z k (f k))) → (y : Turn) × (j : ℕ) × Carry P Z f (core_at P Z k) t y j
  pub kept : (x : Turn) (k b : ℕ) → k < Z.size → b < P.cores → (b ≡ core_at P Z k → ⊥) → at x < phase (f k)
      → Within (lim (core_at P Z k) b) (sight P Z f (granted x (job_of Z k (f k))) (joined x (job_of Z k (f k))) b)
  pub alone : (x y : Turn) (j k : ℕ) → j < Z.size → k < Z.size → (j ≡ k → ⊥) → at x < phase (f j) → at y < phase (f k) → Clear Z f x j y k

module _ (P : Plan) (Z : Script) (now : ℕ) (f g : ℕ → Cell) (later : (j : ℕ) → Later now (f j) (g j)) where
  pub begun_more : (k t : ℕ) → Begun f k t → Begun g k t
  begun_more k t b = let l = later k in omega arith

  pub carry_more : (c t : ℕ) (y : Turn) (j : ℕ) → Carry P Z f c t y j → Carry P Z g c t y j
  carry_more c t y j b = grind arith

  pub apart_more : (j k : ℕ) → 1 ≤ phase (f j) → 1 ≤ phase (f k) → Apart f j k → Apart g j k
  apart_more j k a b s = grind arith

  pub sight_le : (G J b : ℕ) → G ≤ now → sight P Z g G J b ≤ sight P Z f G J b
  sight_le G J b h = grind arith

  pub taken_more : (k t : ℕ) → t < now → Begun f k t ⊎ ((j : ℕ) × Held P Z f (core_at P Z k) t j) → Begun g k t ⊎ ((j : ℕ) × Held P Z g (core_at P Z k) t j)
  taken_more k t h s = grind arith

  pub carried_more : (x : Turn) (k t : ℕ) → t < now → at x ≤ phase (g k) → joined x (job_of Z k (g k)) ≤ t → (at x < phase (g k) → t < granted x (job_of Z k (g k)))
      → (at x ≤ phase (f k) → joined x (job_of Z k (f k)) ≤ t → (at x < phase (f k) → t < granted x (job_of Z k (f k))) → (y : Turn) × (j : ℕ) × Carry P Z f (core_at P Z k) t y j)
      → (y : Turn) × (j : ℕ) × Carry P Z g (core_at P Z k) t y j
  carried_more x k t h a b c old = let l = later k in grind (arith, joined_new Z k l x, joined_same Z k l x, granted_same Z k l x, carry_more (core_at P Z k) t)

-- j starts now
pub record New (P : Plan) (Z : Script) (g : ℕ → Cell) (j : ℕ) : Type 0 where
  pub clear : (i : ℕ) → i < Z.size → (i ≡ j → ⊥) → core_at P Z i ≡ core_at P Z j → 1 ≤ phase (g i) → (6 ≤ phase (g i)) × ((g i).end ≤ (g j).start)
  pub chosen : (k : ℕ) → k < Z.size → core_at P Z j ≡ core_at P Z k → (Z.row k).release ≤ (g j).start → Begun g k (g j).start ⊎ Goes P Z j k

module _ (P : Plan) (Z : Script) (lim : ℕ → ℕ → Limit) (now : ℕ) (f g : ℕ → Cell) (later : (j : ℕ) → Later now (f j) (g j))
    (fits : (k : ℕ) → k < Z.size → FitsAt P Z now k (f k))
    (fresh : (j : ℕ) → j < Z.size → phase (f j) ≡ 0 → 1 ≤ phase (g j) → New P Z g j)
    (new_kept : (x : Turn) (k b : ℕ) → k < Z.size → b < P.cores → (b ≡ core_at P Z k → ⊥) → phase (f k) ≤ at x → at x < phase (g k)
    → Within (lim (core_at P Z k) b) (sight P Z g (granted x (job_of Z k (g k))) (joined x (job_of Z k (g k))) b))
    (new_alone : (x y : Turn) (j k : ℕ) → j < Z.size → k < Z.size → (j ≡ k → ⊥) → phase (f k) ≤ at y → at y < phase (g k) → at x < phase (g j)
    → ended x (job_of Z j (g j)) ≤ granted y (job_of Z k (g k))) where
  pub past_more : Past P Z lim now f → Past P Z lim now g
  past_more h = record {
    single = λ j k a b ne same s t. elim (eq-zero-or-pos (phase (f j))) [
      | inl z ↦ inr ((fresh j a z s).clear k b (λ e. ne (sym e)) (sym same) t)
      | inr u ↦ elim (eq-zero-or-pos (phase (f k))) [
        | inl z ↦ inl ((fresh k b z t).clear j a ne same s)
        | inr v ↦ apart_more P Z now f g later j k u v (h.single j k a b ne same u v)
      ]
    ];
    right = λ j k a b same s r. elim (eq-zero-or-pos (phase (f j))) [
      | inl z ↦ (fresh j a z s).chosen k b same r
      | inr u ↦ (let e = (later j).start u in let o = h.right j k a b same u (rw e at r) in grind (arith, begun_more P Z now f g later k))
    ];
    taken = λ k t a b r. taken_more P Z now f g later k t b (h.taken k t a b r);
    carried = λ x k t a b u v w. carried_more P Z now f g later x k t b u v w (h.carried x k t a b);
    kept = λ x k b a c ne s. elim (cases_lt (at x) (phase (f k))) [
      | inr z ↦ new_kept x k b a c ne z s
      | inl u ↦
          rw (granted_same Z k (later k) x u, joined_same Z k (later k) x (omega arith))
          (within_less (lim (core_at P Z k) b) _ _ (h.kept x k b a c ne u)
          (sight_le P Z now f g later (granted x (job_of Z k (f k))) (joined x (job_of Z k (f k))) b (granted_now Z k (fits k a) x u)))
    ];
    alone = λ x y j k a b ne s t. elim (cases_lt (at y) (phase (f k))) [
      | inr u ↦ inl (new_alone x y j k a b ne u t s)
      | inl v ↦ elim (cases_lt (at x) (phase (f j))) [
        | inr u ↦ inr (new_alone y x k j b a (λ e. ne (sym e)) u s t)
        | inl u ↦ (let o = h.alone x y j k a b ne u v in grind (arith, ended_same Z j (later j) x u, granted_same Z j (later j) x u, ended_same Z k (later k) y v, granted_same Z k (later k) y v))
      ]
    ];
  }
