use Rattle.std.proofs.lemmas.Result.{MatchResult-weaker}
use Rattle.bus.proofs.Courses.{no_turns_pass, keeps_rule, no_longer}
use Rattle.bus.proofs.fairness.longest_wait.Goals as goal

pub returns : goal.returns
returns g c = let laws = g.met.B.Arbiter.lawful in record {
  answer = c.limit.ensures;
  bound = MatchResult-weaker c.limit.result c.limit.ensures (λ l is. no_longer g.B.Arbiter.means laws c.args.bus.now c.args.a c.args.b l is) (λ _ _. tt);
  rule = keeps_rule g.B.Arbiter.means laws;
  turns = no_turns_pass;
}
