-- The queue's line after a course.
use Rattle.std.proofs.Common.{◌≡◌, ℕ, false, arith, List, [], ◌∷◌, ◌++◌, sym, refl, ap, ◌∙◌}
use Rattle.bus.specs.Courses.{Event, Course}
use Rattle.queue.specs.declared.Queue.{Queue}
use Rattle.queue.specs.Lines.{among}
use Rattle.queue.specs.Account.{line, queue_means}
use Rattle.bridge.proofs.Picked.{the_only_ones}
use Rattle.queue_runs.specs.Queued.{behind, front, line_after, TheQueueLeavesNoChoice, AScriptHasOneRunOnTheQueue}

nobody : (l : List ℕ) → ((p : ℕ) → among p l ≡ false) → l ≡ []
nobody [] h = refl
nobody (x ∷ xs) h = grind (arith, h x)

line_after_lem : (s : Queue) → line s ≡ [] → {es : List Event} {t : Queue} → Course queue_means s es t → line t ≡ line_after es
line_after_lem s e (Course.start) = e
line_after_lem s e (Course.join {a = a} c j) = j.line ∙ ap (λ l. l ++ (a ∷ [])) (line_after_lem s e c)
line_after_lem s e (Course.grant c g) = ap behind (sym g.line ∙ line_after_lem s e c)
line_after_lem s e (Course.done c d) = d.line ∙ line_after_lem s e c

pub picks : TheQueueLeavesNoChoice
picks s idle es port t u c g = ap front (sym g.line ∙ line_after_lem s (nobody (line s) idle.0) c)

pub one_run : AScriptHasOneRunOnTheQueue
one_run plan script s s' t t' choices choices' n i i' c d =
    the_only_ones queue_means plan script (λ es. front (line_after es)) s s' (picks s i) (picks s' i') choices choices' n t t' c d
