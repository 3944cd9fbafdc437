-- Unsigned numbers in big-endian bytes. Assumes nothing.
use Rattle.std.specs.Prelude.{ℕ, ◌+◌, ◌*◌, ◌/◌, ◌%◌, List, [], ◌∷◌, slice_index}

-- the number in two bytes, from place i on
abbrev pub two : List ℕ → ℕ → ℕ
two bytes i = slice_index bytes i * 256 + slice_index bytes (i + 1)

-- the number in four bytes
abbrev pub four : List ℕ → ℕ → ℕ
four bytes i = slice_index bytes i * 16777216 + slice_index bytes (i + 1) * 65536 + slice_index bytes (i + 2) * 256 + slice_index bytes (i + 3)

-- the bytes of a number
abbrev pub in_two : ℕ → List ℕ
in_two n = n / 256 ∷ n % 256 ∷ []

abbrev pub in_four : ℕ → List ℕ
in_four n = n / 16777216 ∷ n / 65536 % 256 ∷ n / 256 % 256 ∷ n % 256 ∷ []
