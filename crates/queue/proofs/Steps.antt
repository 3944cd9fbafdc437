-- What the queue's code does to its line. Assumes nothing.
use Rattle.std.proofs.Common.{◌≡◌, ℕ, zero, suc, ◌+◌, ◌-◌, ◌<◌, ◌≤◌, true, false, List, [], ◌∷◌, ◌++◌, length, get_or, take, drop, set, sym, ap, ◌∙◌, arith, length-append}
use Rattle.std.proofs.lemmas.Cmp.{nat_eq_equiv}
use Rattle.std.proofs.lemmas.Grind.{common_steps}
use Rattle.std.proofs.lemmas.List.{take_more_set, take-append-le, length-take-le}
use Rattle.std.proofs.lemmas.Map.Keys.{IsDistinct-push}
use Rattle.std.proofs.lemmas.Map.Steps.{length-le_from_distinct_below}
use Rattle.queue.specs.declared.Queue.{Queue}
use Rattle.queue.specs.Lines.{among, Apart}
use Rattle.queue.specs.Account.{line}
use Rattle.queue.specs.Line.{among_other, below_joined}

pub joined_below : (s : Queue) (a : ℕ) → a < s.ports.count → (p : ℕ) → among p (line s ++ (a ∷ [])) ≡ true → p < s.ports.count
joined_below s a l = below_joined s.ports.count (line s) a s.below l

-- a port that does not wait finds room
pub room : (s : Queue) (a : ℕ) → a < s.ports.count → among a (line s) ≡ false → s.len < 16
room s a l f =
    let most = length-le_from_distinct_below (line s ++ (a ∷ [])) s.ports.count (IsDistinct-push nat_eq_equiv (line s) a s.once f) (joined_below s a l) in
    omega (arith, most, length-append (line s) (a ∷ []), length-take-le s.len s.order s.fits, s.ports.few)

pub joined_line : (s : Queue) (a end : ℕ) → end ≡ s.len → end < length s.order → take (s.len + 1) (set s.order end a) ≡ line s ++ (a ∷ [])
joined_line s a end e l = ap (λ k. take (k + 1) (set s.order end a)) (sym e) ∙ take_more_set s.order end a l ∙ ap (λ k. take k s.order ++ (a ∷ [])) e

pub joined_apart : (s : Queue) (a : ℕ) → among a (line s) ≡ false → Apart (line s ++ (a ∷ []))
joined_apart s a f = IsDistinct-push nat_eq_equiv (line s) a s.once f

pub first_waits : (s : Queue) → (s.len ≡ 0 → ⊥) → (p : ℕ) × (among p (line s) ≡ true)
first_waits s n = (get_or s.order 0 0, grind (arith, common_steps))

-- the line without its first
front : (n : ℕ) (xs : List ℕ) → 0 < n → n ≤ length xs → take n xs ≡ get_or xs 0 0 ∷ take (n - 1) (drop 1 xs ++ take 1 xs)
front zero xs h l = absurd (omega arith)
front (suc n) [] h l = absurd (omega arith)
front (suc n) (x ∷ xs) h l = let e : suc n - 1 ≡ n = omega arith in rw e (ap (λ ys. x ∷ ys) (sym (take-append-le n xs (x ∷ []) (omega arith))))

pub granted_line : (s : Queue) (after : List ℕ) → (s.len ≡ 0 → ⊥) → after ≡ drop 1 s.order ++ take 1 s.order → line s ≡ get_or s.order 0 0 ∷ take (s.len - 1) after
granted_line s after n e = front s.len s.order (omega (arith, n)) s.fits ∙ ap (λ xs. get_or s.order 0 0 ∷ take (s.len - 1) xs) (sym e)

-- what the calls' goals rest on
pub ruleset line_steps = (first_waits, room, joined_below, joined_line, joined_apart, granted_line, among_other)
