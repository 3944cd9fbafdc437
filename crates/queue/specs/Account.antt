-- The queue's account of itself: ports in a line, the first is granted and the last joins. Assumes nothing.
use Rattle.std.specs.Prelude.{◌≡◌, ℕ, ◌<◌, false, List, [], ◌∷◌, ◌++◌, take, Some, None}
use Rattle.bus.specs.Turns.{Meaning, Serving}
use Rattle.bus.specs.Means.{Means}
use Rattle.queue.specs.declared.Queue.{Queue}
use Rattle.queue.specs.Lines.{among, ahead}

-- the ports that wait, in the order in which they joined
abbrev pub line : Queue → List ℕ
line s = take s.len s.order

abbrev pub queue_meaning : Queue → Meaning
queue_meaning s = record {
  ports = s.ports.count;
  limit = λ _ _. Some 1;
  waits = λ p. among p (line s);
  serves = s.served;
  still = λ a b. Some (ahead a b (line s));
}

-- a port that neither waits nor is in service joins at the end
pub record QueueJoins (s : Queue) (a : ℕ) (t : Queue) : Type 0 where
  pub port : a < s.ports.count
  pub free : among a (line s) ≡ false
  pub unserved : s.served ≡ Some a → ⊥
  pub ports : t.ports.count ≡ s.ports.count
  pub line : line t ≡ line s ++ (a ∷ [])
  pub served : t.served ≡ s.served

-- the first leaves the line for the service
pub record QueueGrants (s : Queue) (c : ℕ) (t : Queue) : Type 0 where
  pub unserved : s.served ≡ None
  pub ports : t.ports.count ≡ s.ports.count
  pub line : line s ≡ c ∷ line t
  pub served : t.served ≡ Some c

-- the service ends, and the line stays
pub record QueueEnds (s : Queue) (t : Queue) : Type 0 where
  pub was : Serving (queue_meaning s)
  pub ports : t.ports.count ≡ s.ports.count
  pub line : line t ≡ line s
  pub served : t.served ≡ None

-- Its standing facts are part of its type: every queue stands.
abbrev pub queue_means : Means Queue
queue_means = record { meaning = queue_meaning; stands = λ _. Unit {0}; joins = QueueJoins; grants = QueueGrants; ends = QueueEnds }

-- a queue of n ports in which nobody waits and nobody is in service
pub record Fresh (n : ℕ) (s : Queue) : Type 0 where
  pub ports : s.ports.count ≡ n
  pub line : line s ≡ []
  pub served : s.served ≡ None
