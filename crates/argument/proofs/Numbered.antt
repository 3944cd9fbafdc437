-- The laws by number: which law is which can be computed.
use Rattle.std.proofs.Common.{◌≡◌, ℕ, arith}
use Rattle.argument.specs.Logs.{Law, possible_moments, spaced_releases, one_at_a_time, no_idling, right_choice, never_free, limits_kept}

abbrev pub number : Law → ℕ
number possible_moments = 0
number spaced_releases = 1
number one_at_a_time = 2
number no_idling = 3
number right_choice = 4
number never_free = 5
number limits_kept = 6

pub same_number : (law other : Law) → number law ≡ number other → law ≡ other
same_number law other e = grind arith
