-- The port in service: whether there is one, and the 1 that it adds to what a joining port may wait for. Assumes nothing.
use Rattle.std.proofs.Common.{◌≡◌, ℕ, true, false, is_some, Some, None, Option, refl, arith}
use Rattle.std.proofs.lemmas.Bool.{both_ways}
use Rattle.tasks.specs.Limits.{AtMost, more, Limit}
use Rattle.bus.specs.Turns.{in_service, with_served}

pub some_of : (s : Option ℕ) → is_some s ≡ true → (p : ℕ) × (s ≡ Some p)
some_of None e = absurd (both_ways false refl e)
some_of (Some p) e = (p, refl)

pub none_of : (s : Option ℕ) → is_some s ≡ false → s ≡ None
none_of s e = grind arith

pub is_served : (s : Option ℕ) (p : ℕ) → in_service s p ≡ true → s ≡ Some p
is_served s p e = grind arith

pub not_served : (s : Option ℕ) (p : ℕ) → in_service s p ≡ false → s ≡ Some p → ⊥
not_served s p e f = grind arith

-- a joining port's still is within its limit, and one below it for the port in service
pub served_fits : (s : Option ℕ) (b : ℕ) (x l : Limit) → AtMost x l → (s ≡ Some b → AtMost (more x) l) → AtMost (with_served s b x) l
served_fits s b x l p q = grind arith

pub served_mono : (s : Option ℕ) (b : ℕ) (x y : Limit) → AtMost x y → AtMost (with_served s b x) (with_served s b y)
served_mono s b x y p = grind arith

-- what that says of the port in service, and of any other
pub served_more : (s : Option ℕ) (b : ℕ) (x l : Limit) → AtMost (with_served s b x) l → s ≡ Some b → AtMost (more x) l
served_more s b x l p e = grind arith

pub served_less : (s : Option ℕ) (b : ℕ) (x l : Limit) → AtMost (with_served s b x) l → AtMost x l
served_less s b x l p = grind arith
