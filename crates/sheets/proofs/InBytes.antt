-- Numbers in bytes: the bytes of a number read as it, and a number read from bytes is written as them.
use Rattle.std.proofs.Common.{◌≡◌, ℕ, ◌+◌, ◌*◌, ◌/◌, ◌%◌, ◌<◌, ◌≤◌, List, [], ◌∷◌, ◌++◌, length, get_or, drop, sym, refl, ap, ◌∙◌, arith}
use Rattle.std.proofs.lemmas.List.{drop_more, drop_all}
use Rattle.tasks.specs.declared.task.Row.{Row}
use Rattle.sheets.specs.Bytes.{two, four, in_two, in_four}
use Rattle.sheets.specs.Entries.{row_in}
use Rattle.sheets.specs.Written.{body_bytes}

-- ---- from numbers

pub two_of : (n : ℕ) → n / 256 * 256 + n % 256 ≡ n
two_of n = omega arith

pub four_of : (n : ℕ) → n / 16777216 * 16777216 + n / 65536 % 256 * 65536 + n / 256 % 256 * 256 + n % 256 ≡ n
four_of n =
    let third : n / 65536 / 256 ≡ n / 16777216 = omega arith in
    let second : n / 256 / 256 ≡ n / 65536 = omega arith in
    omega arith

pub row_of : (row : Row) → row_in (body_bytes row) ≡ row
row_of row = rw (two_of row.id, four_of row.spacing, four_of row.deadline, four_of row.a, four_of row.e, four_of row.r) refl

-- ---- from bytes

module _ (x y z w : ℕ) (p : x < 256) (q : y < 256) (s : z < 256) (t : w < 256) where
  first_four : (x * 16777216 + y * 65536 + z * 256 + w) / 16777216 ≡ x
  first_four = omega arith

  second_four : (x * 16777216 + y * 65536 + z * 256 + w) / 65536 % 256 ≡ y
  second_four = let up : (x * 16777216 + y * 65536 + z * 256 + w) / 65536 ≡ x * 256 + y = omega arith in omega arith

  third_four : (x * 16777216 + y * 65536 + z * 256 + w) / 256 % 256 ≡ z
  third_four = let up : (x * 16777216 + y * 65536 + z * 256 + w) / 256 ≡ x * 65536 + y * 256 + z = omega arith in omega arith

  last_four : (x * 16777216 + y * 65536 + z * 256 + w) % 256 ≡ w
  last_four = omega arith

module _ (xs : List ℕ) (below : (k : ℕ) → get_or xs k 0 < 256) where
  one_more : (i j : ℕ) → i < length xs → j ≡ i + 1 → get_or xs i 0 ∷ drop j xs ≡ drop i xs
  one_more i j h is = rw is (sym (drop_more xs i 0 h))

  pub two_back : (i : ℕ) → i + 2 ≤ length xs → in_two (two xs i) ++ drop (i + 2) xs ≡ drop i xs
  two_back i h =
      let high : two xs i / 256 ≡ get_or xs i 0 = omega (arith, below i, below (i + 1)) in
      let low : two xs i % 256 ≡ get_or xs (i + 1) 0 = omega (arith, below i, below (i + 1)) in
      rw (high, low, one_more (i + 1) (i + 2) (omega arith) (omega arith)) (one_more i (i + 1) (omega arith) refl)

  pub four_back : (i : ℕ) → i + 4 ≤ length xs → in_four (four xs i) ++ drop (i + 4) xs ≡ drop i xs
  four_back i h =
      let b0 = below i in let b1 = below (i + 1) in let b2 = below (i + 2) in let b3 = below (i + 3) in
      let x = get_or xs i 0 in let y = get_or xs (i + 1) 0 in let z = get_or xs (i + 2) 0 in let w = get_or xs (i + 3) 0 in
      rw (first_four x y z w b0 b1 b2 b3, second_four x y z w b0 b1 b2 b3, third_four x y z w b0 b1 b2 b3, last_four x y z w b0 b1 b2 b3)
      (rw (one_more (i + 3) (i + 4) (omega arith) (omega arith), one_more (i + 2) (i + 3) (omega arith) (omega arith), one_more (i + 1) (i + 2) (omega arith) (omega arith))
      (one_more i (i + 1) (omega arith) refl))

  four_more : (i j : ℕ) {rest : List ℕ} → j ≡ i + 4 → j ≤ length xs → rest ≡ drop j xs → in_four (four xs i) ++ rest ≡ drop i xs
  four_more i j is h e = rw (e, is) (four_back i (omega arith))

  pub body_back : length xs ≡ 24 → body_bytes (row_in xs) ≡ xs
  body_back long =
      let r : in_four (four xs 20) ≡ drop 20 xs = four_more 20 24 {rest = []} refl (omega arith) (sym (drop_all 24 xs (omega arith))) in
      let e = four_more 16 20 refl (omega arith) r in
      let a = four_more 12 16 refl (omega arith) e in
      let deadline = four_more 8 12 refl (omega arith) a in
      let spacing = four_more 4 8 refl (omega arith) deadline in
      ap (λ t. in_two (two xs 0) ++ (get_or xs 2 0 ∷ get_or xs 3 0 ∷ t)) spacing
      ∙ ap (λ t. in_two (two xs 0) ++ (get_or xs 2 0 ∷ t)) (one_more 3 4 (omega arith) refl)
      ∙ ap (λ t. in_two (two xs 0) ++ t) (one_more 2 3 (omega arith) refl)
      ∙ two_back 0 (omega arith)
