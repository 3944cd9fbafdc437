-- Limits: n phases met, and how many may still come.
use Rattle.std.proofs.Common.{◌≡◌, ℕ, suc, ◌+◌, ◌≤◌, arith, Some, None}
use Rattle.tasks.specs.Limits.{Within, AtMost, more, Limit}

-- n and s together are at most l
abbrev pub Room : ℕ → Limit → Limit → Type 0
Room n (Some s) (Some l) = n + s ≤ l
Room n None (Some l) = ⊥
Room n (Some s) None = Unit {0}
Room n None None = Unit {0}

pub room_keep : (m n : ℕ) (s t l : Limit) → m ≤ n → AtMost s t → Room n t l → Room m s l
room_keep m n s t l h i j = grind arith

pub room_fall : (m n : ℕ) (s t l : Limit) → m ≤ suc n → AtMost (more s) t → Room n t l → Room m s l
room_fall m n s t l h i j = grind arith

pub room_fresh : (n : ℕ) (s l : Limit) → n ≡ 0 → AtMost s l → Room n s l
room_fresh n s l h i = grind arith

pub room_served : (n : ℕ) (s l : Limit) → n ≤ 1 → AtMost (more s) l → Room n s l
room_served n s l h i = grind arith

pub room_within : (m n : ℕ) (s l : Limit) → m ≤ n → Room n s l → Within l m
room_within m n s l h i = grind arith
